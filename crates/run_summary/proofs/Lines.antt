-- The text of a summary, piece by piece.
use Rattle.std.proofs.Common.{ℕ, zero, suc, ◌+◌, ◌<◌, ◌≡◌, List, [], ◌∷◌, ◌++◌, codes, flat_map, length, map, refl, ap, ◌∙◌, append_assoc, arith}
use Rattle.std.specs.List.{range_with_len}
use Rattle.std.proofs.lemmas.Grind.{flat_map-append}
use Rattle.std.proofs.lemmas.List.{length-append}
use Rattle.acpi_regs.specs.declared.entry.Entry.{Entry}
use Rattle.machine_desc.specs.Machine.{MachineData}
use Rattle.machine_desc.specs.Weight.{weight_of}
use Rattle.machine_history.specs.Values.{value}
use Rattle.machine_maker.specs.Maker.{each_of, made}
use Rattle.machine_maker.specs.Summary.{last_byte, one_add, one_push, over_firmware, spaced_byte, summary, summary_text}
use Rattle.machine_maker.proofs.Rows.{row_more, row_none}
use Rattle.run_summary.specs.Sums.{IsSummed}
use Rattle.run_summary.specs.Told.{bytes_of, cell_of, notifies, runs, told}

-- ---- the line of the cells

pub no_bytes : (m : MachineData) (past : List Entry) → flat_map spaced_byte (bytes_of m past 0) ≡ []
no_bytes m past = ap (flat_map spaced_byte) (row_none (λ k. value m past (cell_of k)))

pub next_bytes : (m : MachineData) (past : List Entry) (k : ℕ) → flat_map spaced_byte (bytes_of m past (k + 1)) ≡ flat_map spaced_byte (bytes_of m past k) ++ spaced_byte (value m past (cell_of k))
next_bytes m past k =
    ap (flat_map spaced_byte) (row_more k (λ i. value m past (cell_of i)))
    ∙ flat_map-append spaced_byte (bytes_of m past k) (value m past (cell_of k) ∷ [])

-- the text with the word
pub with_word : (start one : List ℕ) → one ≡ start ++ codes "cells" → length one ≡ length start + 5
with_word start one is = ap length is ∙ length-append start (codes "cells")

-- a text with one more byte
pub longer : (text first before more byte : List ℕ) → text ≡ first ++ before → more ≡ text ++ byte → more ≡ first ++ (before ++ byte)
longer text first before more byte is next = next ∙ (ap (λ t. t ++ byte) is ∙ append_assoc first before byte)

pub three_joined : (start word cells newline one two three : List ℕ) → one ≡ start ++ word → two ≡ one ++ cells → three ≡ two ++ newline → three ≡ start ++ (word ++ (cells ++ newline))
three_joined start word cells newline one two three first second third =
    third ∙ (ap (λ t. t ++ newline) (second ∙ ap (λ t. t ++ cells) first) ∙ (append_assoc (start ++ word) cells newline ∙ append_assoc start word (cells ++ newline)))

-- ---- the summary

same_from : {A : Type 0} (f g : ℕ → A) (a n end : ℕ) → a + n ≡ end → ((k : ℕ) → k < end → f k ≡ g k) → map f (range_with_len a n) ≡ map g (range_with_len a n)
same_from {A = A} f g a zero end e same = refl
same_from {A = A} f g a (suc n) end e same = both (f a) (g a) _ _ (same a (omega arith)) (same_from f g (a + 1) n end (omega arith) same)
  where
    both : (x y : A) (xs ys : List A) → x ≡ y → xs ≡ ys → x ∷ xs ≡ y ∷ ys
    both x y xs ys p q = ap (λ z. z ∷ xs) p ∙ ap (λ zs. y ∷ zs) q

pub row_same : {A : Type 0} (n : ℕ) (f g : ℕ → A) → ((k : ℕ) → k < n → f k ≡ g k) → each_of n f ≡ each_of n g
unfolding each_of
row_same n f g same = same_from f g 0 n n (omega arith) same

pub told_is : (number size : ℕ) (past : List Entry) → IsSummed number size past → told number size (made number size) past ≡ summary number size
unfolding summary
told_is number size past is =
    ap (λ n. summary_text number size (weight_of (made number size)) n (runs (made number size) past) (notifies past) (bytes_of (made number size) past 16)) is.written
    ∙ (ap (λ n. summary_text number size (weight_of (made number size)) (over_firmware one_add (made number size)) n (notifies past) (bytes_of (made number size) past 16)) is.started
    ∙ (ap (λ n. summary_text number size (weight_of (made number size)) (over_firmware one_add (made number size)) (over_firmware one_push (made number size)) n (bytes_of (made number size) past 16)) is.notified
    ∙ ap (summary_text number size (weight_of (made number size)) (over_firmware one_add (made number size)) (over_firmware one_push (made number size)) (over_firmware one_push (made number size)))
    (row_same 16 (λ k. value (made number size) past (cell_of k)) (last_byte number size) is.left)))
