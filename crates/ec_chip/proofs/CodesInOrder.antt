-- Each query code is put out once and in its order, whatever calls are made.
use Rattle.std.proofs.Common.{ℕ, ◌<◌, ◌≡◌, ◌==◌, true, false, suc, List, [], ◌∷◌, ◌++◌, drop, Option, Some, None, if◌then◌else◌, refl, sym, ◌∙◌, ap, subst, inl, inr, append_assoc, arith}
use Rattle.std.proofs.lemmas.Bool.{cases_eq, ne_eqb}
use Rattle.std.proofs.lemmas.List.{append-nil}
use Rattle.std.proofs.lemmas.List.Elements.{All-drop, All-push}
use Rattle.ec_chip.specs.declared.parts.Half.{Half}
use Rattle.ec_chip.specs.declared.parts.Half.TheVariants as half
use Rattle.ec_chip.specs.Calls.{Call, Write, Read, Step, Push, Calm, after_call, code, code_out, codes_out_by, pushed, put_out, AreCodes, PutsOutInOrder}
use Rattle.ec_chip.specs.Chip.{ChipData, effect_by, stepped_by, after_step}
use Rattle.ec_chip.specs.Parts.{codes_after, effect_of, first_code}

first_out : (codes : List ℕ) → AreCodes codes → code (first_code codes) ++ drop 1 codes ≡ codes
first_out [] are = refl
first_out (q ∷ later) are =
    ap (λ b. (if b then [] else q ∷ []) ++ later) (ne_eqb q 0 (λ e. omega (arith, e, are 0 0 (omega arith))))

taken : (h : Half) (byte : ℕ) (cells codes : List ℕ) → AreCodes codes → code_out h (Some byte) (put_out (Some (effect_of h cells codes byte))) ++ codes_after h byte codes ≡ codes
taken half.Nothing byte cells codes are = elim (cases_eq byte 132) [
  | inl e ↦ subst (λ b. code_out half.Nothing (Some b) (put_out (Some (effect_of half.Nothing cells codes b))) ++ codes_after half.Nothing b codes ≡ codes) (sym e) (first_out codes are)
  | inr d ↦ rw (ne_eqb byte 132 d) refl
]
taken half.Read byte cells codes are = refl
taken half.Write byte cells codes are = refl
taken (half.WriteAt a) byte cells codes are = refl

kept : (h : Half) (byte : ℕ) (codes : List ℕ) → AreCodes codes → AreCodes (codes_after h byte codes)
kept half.Nothing byte codes are = elim (byte == 132) as (λ b. AreCodes (if b then drop 1 codes else codes)) [ true ↦ All-drop (λ q. 0 < q) 1 codes are | false ↦ are ]
kept half.Read byte codes are = are
kept half.Write byte codes are = are
kept (half.WriteAt a) byte codes are = are

stepped : (c : ChipData) (input : Option ℕ) → AreCodes c.codes → (code_out c.exchange.half input (put_out (effect_by c input)) ++ (stepped_by c input).codes ≡ c.codes) × AreCodes (stepped_by c input).codes
stepped c None are = (nothing c.exchange.half, are)
  where
    nothing : (h : Half) → code_out h None (put_out None) ++ c.codes ≡ c.codes
    nothing half.Nothing = refl
    nothing half.Read = refl
    nothing half.Write = refl
    nothing (half.WriteAt a) = refl
stepped c (Some byte) are = (taken c.exchange.half byte c.cells c.codes are, kept c.exchange.half byte c.codes are)

first_is : (q : ℕ) (later : List ℕ) → AreCodes (q ∷ later) → 0 < q
first_is q later are = are 0 0 (omega arith)

rest_are : (q : ℕ) (later : List ℕ) → AreCodes (q ∷ later) → AreCodes later
rest_are q later are = λ k d below. are (suc k) d (omega arith)

pub in_order : (calls : List Call) (c : ChipData) → PutsOutInOrder calls c
in_order [] c are new = sym (append-nil c.codes)
in_order (Write p byte ∷ later) c are new = in_order later (after_call (Write p byte) c) are new
in_order (Read ∷ later) c are new = in_order later (after_call Read c) are new
in_order (Step ∷ later) c are new =
    let s = stepped c c.exchange.input are in
    let out = codes_out_by Step c in
    append_assoc out _ _ ∙ (ap (λ l. out ++ l) (in_order later (after_step c) s.1 new) ∙ (sym (append_assoc out (after_step c).codes (pushed later)) ∙ ap (λ l. l ++ pushed later) s.0))
in_order (Push q ∷ later) c are new =
    in_order later (after_call (Push q) c) (All-push (λ n. 0 < n) c.codes q are (first_is q (pushed later) new)) (rest_are q (pushed later) new) ∙ append_assoc c.codes (q ∷ []) (pushed later)
in_order (Calm ∷ later) c are new = in_order later (after_call Calm c) are new
