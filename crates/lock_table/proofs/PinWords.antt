-- What a pulse and a collect make of the pin words, as sets of events.
use Rattle.std.proofs.Common.{◌≡◌, ◌≢◌, ◌⊎◌, inl, inr, ℕ, ◌<◌, ◌==◌, ◌||◌, ◌&&◌, not, nat_lt, Bool, true, false, ◌*◌, ◌%◌, ◌+◌, ◌^◌, List, [], ◌∷◌, ◌++◌, suc, zero, length, get_or, slice_set, bit_or, refl, ap, sym, ◌∙◌, arith, get_or-set_other}
use Rattle.std.proofs.lemmas.Bool.{cases_eq, cases_order, ne_eqb, eq-eqb, lt-ltb, le-ltb, or_left, or_right, or_from, false_from_ne_true}
use Rattle.std.proofs.lemmas.Grind.{get_or-set_at}
use Rattle.std.proofs.lemmas.List.{get_or_push, length_push}
use Rattle.std.proofs.lemmas.Nat.Bits.{bit_at-zero}
use Rattle.std.specs.Int.{bit_at}
use Rattle.acpi_regs.specs.declared.event.Event.{Event}
use Rattle.acpi_regs.specs.declared.event.Event.TheVariants as event
use Rattle.acpi_regs.specs.Event.{bit_of, same_event, word_of}
use Rattle.acpi_regs.proofs.Pins.{event_swap, event_true}
use Rattle.lock_table.specs.Pins.{pins_of}
use Rattle.lock_table.proofs.Places.{bit_fits, bit_put, bits_same, same_word}

pub bit_small : (n : Event) → bit_of n < 64
bit_small (event.Fixed f) = bit_fits f
bit_small (event.Gpe n) = omega arith

-- two events of one word are one where their bits are
bits_tell : (e x : Event) → word_of x ≡ word_of e → (bit_of x == bit_of e) ≡ same_event e x
bits_tell (event.Fixed f) (event.Fixed g) at = bits_same f g
bits_tell (event.Fixed f) (event.Gpe k) at = absurd (omega arith)
bits_tell (event.Gpe m) (event.Fixed g) at = absurd (omega arith)
bits_tell (event.Gpe m) (event.Gpe k) at = same_word m k (omega arith)

or_swap : (a b : Bool) → (a || b) ≡ (b || a)
or_swap true true = refl
or_swap true false = refl
or_swap false true = refl
or_swap false false = refl

or_false : (a b : Bool) → b ≡ false → (a || b) ≡ a
or_false true b e = refl
or_false false b e = e

apart : (x e : Event) → word_of x ≢ word_of e → same_event x e ≡ false
apart x e d = false_from_ne_true (same_event x e) (λ same. d (ap word_of (event_true x e same)))

-- what a word tells of an event in it
abbrev told : ℕ → Event → Bool
told word n = bit_at word (bit_of n) == 1

-- in another word's place nothing changes
elsewhere : (words : List ℕ) (w v : ℕ) (x : Event) → word_of x ≢ w → pins_of (slice_set words w v) x ≡ pins_of words x
elsewhere words w v x d = ap (λ t. told t x) (get_or-set_other words w (word_of x) v 0 d)

here : (words : List ℕ) (w v : ℕ) (x : Event) → w < length words → word_of x ≡ w → pins_of (slice_set words w v) x ≡ told v x
here words w v x within e = ap (λ t. told t x) (get_or-set_at words w (word_of x) v 0 e within)

-- where the bit of an event is set in its word, its pin joins the others
pub set_in : (words : List ℕ) (e : Event) (w mask : ℕ) → w ≡ word_of e → mask ≡ 1 * 2 ^ bit_of e % 2 ^ 64 → w < length words
    → pins_of (slice_set words w (bit_or (get_or words w 0) mask)) ≡ (λ x. pins_of words x || same_event x e)
set_in words e w mask at is within = λ i x. by_word x (cases_eq (word_of x) w) i
  where
    by_word : (x : Event) → (word_of x ≡ w) ⊎ (word_of x ≢ w) → pins_of (slice_set words w (bit_or (get_or words w 0) mask)) x ≡ (pins_of words x || same_event x e)
    by_word x (inl same) =
        here words w (bit_or (get_or words w 0) mask) x within same
        ∙ ap (λ m. told (bit_or (get_or words w 0) m) x) is
        ∙ bit_put (get_or words w 0) (bit_of e) (bit_of x) (bit_small e)
        ∙ ap (λ b. b || told (get_or words w 0) x) (bits_tell e x (same ∙ at) ∙ event_swap e x)
        ∙ ap (λ u. same_event x e || told (get_or words u 0) x) (sym same)
        ∙ or_swap (same_event x e) (pins_of words x)
    by_word x (inr other) = elsewhere words w (bit_or (get_or words w 0) mask) x other ∙ sym (or_false (pins_of words x) (same_event x e) (apart x e (λ same. other (same ∙ sym at))))

-- the bit that was there tells whether the pin was clear
pub was_clear : (words : List ℕ) (e : Event) (w : ℕ) → w ≡ word_of e → pins_of words e ≡ told (get_or words w 0) e
was_clear words e w at = ap (λ u. told (get_or words u 0) e) (sym at)

and_true : (a : Bool) → (a && true) ≡ a
and_true true = refl
and_true false = refl

and_false : (a : Bool) → (a && false) ≡ false
and_false true = refl
and_false false = refl

-- where a word is taken, its pins are clear
pub cleared : (words : List ℕ) (w : ℕ) → w < length words → pins_of (slice_set words w 0) ≡ (λ n. pins_of words n && not (word_of n == w))
cleared words w within = λ i x. by_word x (cases_eq (word_of x) w) i
  where
    by_word : (x : Event) → (word_of x ≡ w) ⊎ (word_of x ≢ w) → pins_of (slice_set words w 0) x ≡ (pins_of words x && not (word_of x == w))
    by_word x (inl same) =
        here words w 0 x within same ∙ ap (λ t. t == 1) (bit_at-zero (bit_of x))
        ∙ sym (and_false (pins_of words x)) ∙ ap (λ b. pins_of words x && not b) (sym (eq-eqb (word_of x) w same))
    by_word x (inr other) = elsewhere words w 0 x other ∙ sym (and_true (pins_of words x)) ∙ ap (λ b. pins_of words x && not b) (sym (ne_eqb (word_of x) w other))

-- ---- a hand, which has the first words

push_other : (hand : List ℕ) (n j : ℕ) → j ≢ length hand → get_or (hand ++ n ∷ []) j 0 ≡ get_or hand j 0
push_other [] n zero d = absurd (d refl)
push_other [] n (suc j) d = refl
push_other (x ∷ xs) n zero d = refl
push_other (x ∷ xs) n (suc j) d = push_other xs n j (λ e. d (ap suc e))

push_here : (hand : List ℕ) (n j : ℕ) → j ≡ length hand → get_or (hand ++ n ∷ []) j 0 ≡ n
push_here hand n j e = get_or_push hand n 0 j (sym e)

past_end : (hand : List ℕ) (j : ℕ) → j ≡ length hand → get_or hand j 0 ≡ 0
past_end [] j e = refl
past_end (x ∷ xs) zero e = absurd (omega arith)
past_end (x ∷ xs) (suc j) e = past_end xs j (omega arith)

-- the pins of the next word join the hand
pub hand_more : (words hand : List ℕ) (w n : ℕ) → w ≡ length hand → n ≡ get_or words w 0
    → pins_of (hand ++ n ∷ []) ≡ (λ x. pins_of hand x || (pins_of words x && (word_of x == w)))
hand_more words hand w n at is = λ i x. by_word x (cases_eq (word_of x) w) i
  where
    by_word : (x : Event) → (word_of x ≡ w) ⊎ (word_of x ≢ w) → pins_of (hand ++ n ∷ []) x ≡ (pins_of hand x || (pins_of words x && (word_of x == w)))
    by_word x (inl same) =
        ap (λ t. told t x) (push_here hand n (word_of x) (same ∙ at) ∙ is ∙ ap (λ u. get_or words u 0) (sym same))
        ∙ sym (and_true (pins_of words x))
        ∙ ap (λ b. b || (pins_of words x && true)) (sym (ap (λ t. told t x) (past_end hand (word_of x) (same ∙ at)) ∙ ap (λ t. t == 1) (bit_at-zero (bit_of x))))
        ∙ ap (λ b. pins_of hand x || (pins_of words x && b)) (sym (eq-eqb (word_of x) w same))
    by_word x (inr other) =
        ap (λ t. told t x) (push_other hand n (word_of x) (λ e. other (e ∙ sym at)))
        ∙ sym (or_false (pins_of hand x) (pins_of words x && false) (and_false (pins_of words x)))
        ∙ ap (λ b. pins_of hand x || (pins_of words x && b)) (sym (ne_eqb (word_of x) w other))

-- and the next word is one of those that were collected
pub words_more : (hand : List ℕ) (w n : ℕ) → w ≡ length hand → ◌≡◌ {A = ℕ → Bool} (λ u. nat_lt u (length (hand ++ n ∷ []))) (λ u. nat_lt u (length hand) || (u == w))
words_more hand w n at = λ i u. ((ap (λ k. nat_lt u k) (length_push hand n)) ∙ by_word u (cases_order u (length hand))) i
  where
    by_word : (u : ℕ) → (u ≡ length hand) ⊎ ((u < length hand) ⊎ (length hand < u)) → nat_lt u (length hand + 1) ≡ (nat_lt u (length hand) || (u == w))
    by_word u (inl same) = lt-ltb u (length hand + 1) (omega arith) ∙ sym (or_right (nat_lt u (length hand)) (u == w) (eq-eqb u w (same ∙ sym at)))
    by_word u (inr (inl less)) = lt-ltb u (length hand + 1) (omega arith) ∙ sym (or_left (nat_lt u (length hand)) (u == w) (lt-ltb u (length hand) less))
    by_word u (inr (inr more)) = le-ltb u (length hand + 1) (omega arith) ∙ sym (or_from (nat_lt u (length hand)) (u == w) (le-ltb u (length hand) (omega arith)) (ne_eqb u w (λ e. absurd (omega arith))))
