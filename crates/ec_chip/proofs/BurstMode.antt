-- Burst mode is what the last call that turns it on or off made it.
use Rattle.std.proofs.Common.{ℕ, zero, suc, ◌<◌, ◌≡◌, ◌==◌, Bool, true, false, List, [], ◌∷◌, Option, Some, None, if◌then◌else◌, unwrap_or, refl, ◌∙◌, ap, arith}
use Rattle.ec_chip.specs.declared.parts.Half.{Half}
use Rattle.ec_chip.specs.declared.parts.Half.TheVariants as half
use Rattle.ec_chip.specs.Calls.{Call, Write, Read, Step, Push, Calm, after_call, after_calls, turns_by, turns_on, LastTurns, TurnsAt}
use Rattle.ec_chip.specs.Chip.{ChipData, stepped_by}
use Rattle.ec_chip.specs.Parts.{burst_after}

on_command : (on off old : Bool) → (if on then true else (if off then false else old)) ≡ unwrap_or (if on then Some true else (if off then Some false else None)) old
on_command true off old = refl
on_command false true old = refl
on_command false false old = refl

taken : (h : Half) (byte : ℕ) (old : Bool) → burst_after h byte old ≡ unwrap_or (turns_on h (Some byte)) old
taken half.Nothing byte old = on_command (byte == 130) (byte == 131) old
taken half.Read byte old = refl
taken half.Write byte old = refl
taken (half.WriteAt a) byte old = refl

none : (h : Half) (old : Bool) → old ≡ unwrap_or (turns_on h None) old
none half.Nothing old = refl
none half.Read old = refl
none half.Write old = refl
none (half.WriteAt a) old = refl

stepped : (c : ChipData) (input : Option ℕ) → (stepped_by c input).burst ≡ unwrap_or (turns_on c.exchange.half input) c.burst
stepped c None = none c.exchange.half c.burst
stepped c (Some byte) = taken c.exchange.half byte c.burst

-- one call
one : (call : Call) (c : ChipData) → (after_call call c).burst ≡ unwrap_or (turns_by call c) c.burst
one (Write p byte) c = refl
one Read c = refl
one Step c = stepped c c.exchange.input
one (Push q) c = refl
one Calm c = refl

-- a call behind the first is the same call of what is left
behind : (call : Call) (later : List Call) (c : ChipData) (i : ℕ) (on : Bool) → TurnsAt later (after_call call c) i on → TurnsAt (call ∷ later) c (suc i) on
behind _ later c i on at = at

-- the first call turned nothing
quiet_first : (turn : Option Bool) (old : Bool) → ((on : Bool) → turn ≡ Some on → ⊥) → unwrap_or turn old ≡ old
quiet_first None old not = refl
quiet_first (Some on) old not = absurd (not on refl)

never : (calls : List Call) (c : ChipData) → ((i : ℕ) (on : Bool) → TurnsAt calls c i on → ⊥) → (after_calls calls c).burst ≡ c.burst
never [] c not = refl
never (call ∷ later) c not =
    never later (after_call call c) (λ i on at. not (suc i) on (behind call later c i on at)) ∙ (one call c ∙ quiet_first (turns_by call c) c.burst (λ on turns. not 0 on (call, refl, turns)))

turned : (calls : List Call) (c : ChipData) (i : ℕ) (on : Bool) → TurnsAt calls c i on → ((j : ℕ) (other : Bool) → i < j → TurnsAt calls c j other → ⊥) → (after_calls calls c).burst ≡ on
turned [] c i on at last = let h = at.1 in cc
turned (call ∷ later) c zero on at last =
    let same : call ≡ at.0 = (let h = at.1 in cc) in
    never later (after_call call c) (λ j other there. last (suc j) other (omega arith) (behind call later c j other there)) ∙ (one call c ∙ ap (λ o. unwrap_or o c.burst) (ap (λ k. turns_by k c) same ∙ at.2))
turned (call ∷ later) c (suc i) on at last =
    turned later (after_call call c) i on at (λ j other after there. last (suc j) other (omega arith) (behind call later c j other there))

pub last_turns : (calls : List Call) (c : ChipData) → LastTurns calls c
last_turns calls c = record { turned = turned calls c; never = never calls c }
