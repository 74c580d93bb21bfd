-- A table reads as itself.
use Rattle.std.proofs.Common.{◌≡◌, ℕ, ◌<◌, ◌≤◌, Bool, true, false, cond, nat_lt, not, List, length, take, get_or, Result, Ok, Err, refl, sym, ap, subst, ◌∙◌, lit<, arith}
use Rattle.std.proofs.lemmas.Bool.{ltb-false}
use Rattle.std.proofs.lemmas.List.{get_or-take, length-take-le, take_all}
use Rattle.facs_word.specs.declared.table.FacsFault.{FacsFault}
use Rattle.facs_word.specs.declared.table.FacsFault.TheVariants as fault
use Rattle.facs_word.specs.Table.{ReadsBack, is_signed, length_of, reads}

stays : (bytes : List ℕ) (i : ℕ) → i < 64 → get_or (take 64 bytes) i 0 ≡ get_or bytes i 0
stays bytes i h = get_or-take 64 bytes i 0 h

-- what reading looks at stands in the first 64 bytes
front : (bytes : List ℕ) → 64 ≤ length bytes → reads (take 64 bytes) ≡ reads bytes
front bytes h =
    let len : length (take 64 bytes) ≡ 64 = length-take-le 64 bytes h in
    let most : length (take 64 bytes) ≤ 64 = omega arith in
    let short : nat_lt (length bytes) 64 ≡ nat_lt 64 64 = grind arith in
    rw (take_all 64 (take 64 bytes) most, len, short, stays bytes 0 (lit< tt), stays bytes 1 (lit< tt), stays bytes 2 (lit< tt), stays bytes 3 (lit< tt), stays bytes 4 (lit< tt), stays bytes 5 (lit< tt), stays bytes 6 (lit< tt), stays bytes 7 (lit< tt)) refl

-- no test failed, and the table is what the last one gives
whole : (short unsigned few : Bool) (t u : List ℕ)
    → cond {A = Result (List ℕ) FacsFault} short (Err fault.Short) (cond unsigned (Err fault.BadSignature) (cond few (Err fault.BadLength) (Ok t))) ≡ Ok u
    → (short ≡ false) × (t ≡ u)
whole true unsigned few t u h = cc
whole false true few t u h = cc
whole false false true t u h = cc
whole false false false t u h = (refl, cc)

reads_whole : (bytes table : List ℕ) → reads bytes ≡ Ok table → (64 ≤ length bytes) × (take 64 bytes ≡ table)
reads_whole bytes table h =
    let w = whole (nat_lt (length bytes) 64) (not (is_signed bytes)) (nat_lt (length_of bytes) 64) (take 64 bytes) table h in
    (ltb-false (length bytes) 64 w.0, w.1)

-- a table that was read reads as itself
pub reads_again : (bytes table : List ℕ) → reads bytes ≡ Ok table → reads table ≡ Ok table
reads_again bytes table h =
    let w = reads_whole bytes table h in
    subst (λ t. reads t ≡ Ok t) w.1 (front bytes w.0 ∙ h ∙ ap (λ t. Ok t) (sym w.1))

pub reads_back : (bytes table : List ℕ) → ReadsBack bytes table
reads_back bytes table h =
    let w = reads_whole bytes table h in
    (subst (λ t. length t ≡ 64) w.1 (length-take-le 64 bytes w.0), λ k less. subst (λ t. get_or t k 0 ≡ get_or bytes k 0) w.1 (stays bytes k less), reads_again bytes table h)
