-- What an accepted script says of the op at a place.
use Rattle.std.proofs.Common.{inl, inr, ◌≡◌, ℕ, zero, suc, ◌+◌, ◌-◌, ◌<◌, ◌≤◌, Bool, true, false, ◌&&◌, not, nat_le, nat_lt, List, [], ◌∷◌, length, drop, take, Option, Some, None, is_some, slice_get, if◌then◌else◌, refl, sym, ap, ◌∙◌, arith}
use Rattle.std.proofs.lemmas.Bool.{and_parts, leb-true, ltb-true}
use Rattle.std.proofs.lemmas.List.{length-drop}
use Rattle.std.proofs.lemmas.Option.{none-some, slice_get_cases}
use Rattle.std.specs.List.{list_all}
use Rattle.acpi_regs.specs.declared.actor.Side.{Side}
use Rattle.field_units.specs.Field.{Field}
use Rattle.handler_script.specs.declared.fault.ScriptFault.{ScriptFault}
use Rattle.handler_script.specs.declared.fault.ScriptFault.TheVariants as fault
use Rattle.handler_script.specs.declared.op.Op.{Op}
use Rattle.handler_script.specs.declared.op.Op.TheVariants as op
use Rattle.handler_script.specs.Accepts.{Accepted, faults_from, first_of, is_allowed, is_balanced, is_known, is_no_hold, is_sound_skip, op_fault, open_after, script_fault}
use Rattle.handler_script.specs.Left.{field_named, is_access}

-- what the tests of an op say of it
pub record Sound (count : ℕ) (held : Bool) (o : Op) (rest : List Op) : Type 0 where
  pub known : is_known count o ≡ true
  pub skip : is_sound_skip o rest ≡ true
  pub balanced : is_balanced held o ≡ true

abbrev verdict : Bool → Bool → Bool → Bool → ℕ → Option ScriptFault
verdict a k s b i = if a then (if k then (if s then (if b then None else Some (fault.Unbalanced i)) else Some (fault.BadSkip i)) else Some (fault.UnknownField i)) else Some (fault.NotAllowed i)

passes : (a k s b : Bool) (i : ℕ) (later : Option ScriptFault) → first_of (verdict a k s b i) later ≡ None → (k ≡ true) × (s ≡ true) × (b ≡ true) × (later ≡ None)
passes true true true true i later e = (refl, refl, refl, e)
passes true true true false i later e = cc
passes true true false b i later e = cc
passes true false s b i later e = cc
passes false k s b i later e = cc

pub kept : (forbidden : Op → Bool) (of_side : Side) (count : ℕ) (held : Bool) (i : ℕ) (o : Op) (rest : List Op) (later : Option ScriptFault) → first_of (op_fault forbidden of_side count held i o rest) later ≡ None → Sound count held o rest × (later ≡ None)
kept forbidden of_side count held i o rest later e =
    let p = passes (is_allowed of_side o && not (forbidden o)) (is_known count o) (is_sound_skip o rest) (is_balanced held o) i later e in
    (record { known = p.0; skip = p.1; balanced = p.2 }, p.3)

sound_at : (forbidden : Op → Bool) (of_side : Side) (count : ℕ) (hold : Option ℕ) (j : ℕ) (ops : List Op) (i : ℕ) (o : Op) → faults_from forbidden of_side count hold j ops ≡ None → slice_get ops i ≡ Some o → (is_known count o ≡ true) × (is_sound_skip o (drop (i + 1) ops) ≡ true)
sound_at forbidden of_side count hold j [] zero o e at = cc
sound_at forbidden of_side count hold j [] (suc i) o e at = cc
sound_at forbidden of_side count hold j (x ∷ ops) zero o e at =
    let same : x ≡ o = cc in
    let k = kept forbidden of_side count (is_some hold) j x ops (faults_from forbidden of_side count (open_after j x hold) (j + 1) ops) e in
    (ap (is_known count) (sym same) ∙ k.0.known, ap (λ y. is_sound_skip y ops) (sym same) ∙ k.0.skip)
sound_at forbidden of_side count hold j (x ∷ ops) (suc i) o e at =
    let k = kept forbidden of_side count (is_some hold) j x ops (faults_from forbidden of_side count (open_after j x hold) (j + 1) ops) e in
    let later = sound_at forbidden of_side count (open_after j x hold) (j + 1) ops i o k.1 at in
    let n : suc i + 1 ≡ suc (i + 1) = omega arith in
    (later.0, ap (λ m. is_sound_skip o (drop m (x ∷ ops))) n ∙ later.1)

pub accepted_at : (fields : List Field) (ops : List Op) (i : ℕ) (o : Op) → Accepted fields ops → slice_get ops i ≡ Some o → (is_known (length fields) o ≡ true) × (is_sound_skip o (drop (i + 1) ops) ≡ true)
unfolding script_fault
accepted_at fields ops i o a at = sound_at a.forbidden a.of_side (length fields) None 0 ops i o a.faultless at

pub skip_within : (fields : List Field) (ops : List Op) (i v k : ℕ) → Accepted fields ops → slice_get ops i ≡ Some (op.Skip v k) → i + 1 + k ≤ length ops
skip_within fields ops i v k a at =
    let s : (nat_lt 0 k && (nat_le k (length (drop (i + 1) ops)) && list_all is_no_hold (take k (drop (i + 1) ops)))) ≡ true = (accepted_at fields ops i (op.Skip v k) a at).1 in
    let first = and_parts (nat_lt 0 k) (nat_le k (length (drop (i + 1) ops)) && list_all is_no_hold (take k (drop (i + 1) ops))) s in
    let some : 0 < k = ltb-true 0 k first.0 in
    let most : k ≤ length (drop (i + 1) ops) = leb-true k (length (drop (i + 1) ops)) (and_parts (nat_le k (length (drop (i + 1) ops))) (list_all is_no_hold (take k (drop (i + 1) ops))) first.1).0 in
    let behind : length (drop (i + 1) ops) ≡ length ops - (i + 1) = length-drop (i + 1) ops in
    omega arith

known_named : (fields : List Field) (f : ℕ) → nat_lt f (length fields) ≡ true → slice_get fields f ≡ None → ⊥
known_named fields f h e = elim ((slice_get_cases fields f).1) [
  | inl found ↦ none-some found.0 (sym e ∙ found.2)
  | inr past ↦ (let less : f < length fields = ltb-true f (length fields) h in let more : length fields ≤ f = past.0 in omega arith)
]

pub plain_named : (fields : List Field) (ops : List Op) (i : ℕ) (o : Op) → Accepted fields ops → slice_get ops i ≡ Some o → field_named fields o ≡ None → is_access o ≡ false
plain_named fields ops i o a at n = unnamed fields o (accepted_at fields ops i o a at).0 n where
  unnamed : (fields : List Field) (o : Op) → is_known (length fields) o ≡ true → field_named fields o ≡ None → is_access o ≡ false
  unnamed fields (op.Read f) h n = absurd (known_named fields f h n)
  unnamed fields (op.Write f v) h n = absurd (known_named fields f h n)
  unnamed fields (op.Add f v) h n = absurd (known_named fields f h n)
  unnamed fields _ h n = refl
