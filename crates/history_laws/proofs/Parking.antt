-- A level event is parked exactly where its last sixteen finishes came with the line asserted.
use Rattle.std.proofs.Common.{ℕ, zero, suc, ◌+◌, ◌<◌, ◌≤◌, ◌≡◌, Bool, true, false, min, nat_le, List, [], ◌∷◌, ◌++◌, Option, Some, None, slice_get, if◌then◌else◌, refl, sym, ap, ◌∙◌, arith}
use Rattle.std.proofs.lemmas.Bool.{and_from, and_parts, leb-true, le-leb}
use Rattle.acpi_regs.specs.declared.entry.Entry.{Entry}
use Rattle.acpi_regs.specs.declared.event.Event.{Event}
use Rattle.acpi_regs.specs.Event.{same_event}
use Rattle.event_chip.specs.declared.state.EventState.{EventState}
use Rattle.event_chip.specs.declared.state.Slot.{Slot}
use Rattle.event_chip.specs.declared.state.Touch.{Touch}
use Rattle.event_chip.specs.declared.state.Touch.TheVariants as touch
use Rattle.event_chip.specs.Chip as chip
use Rattle.event_chip.specs.State.{is_level}
use Rattle.machine_desc.specs.Machine.{MachineData}
use Rattle.machine_history.specs.declared.parts.Touched.{Touched}
use Rattle.machine_history.specs.Events.{line, slot, slot_after, touched}
use Rattle.machine_history.specs.Last.{done_to, where_true}
use Rattle.machine_history.specs.Sentences.{ParksAfterSixteen, mark_by, marks}
use Rattle.machine_history.proofs.Claims.{starts_fresh}
use Rattle.machine_history.proofs.Queries.{slot_kind}

-- how many trues stand at the front
abbrev pub leading : List Bool → ℕ
leading [] = 0
leading (true ∷ ms) = 1 + leading ms
leading (false ∷ ms) = 0

-- what a touch makes of the count of runs in a row
abbrev pub storm_by : Bool → Option Touch → ℕ → ℕ
storm_by on (Some touch.Assert) k = 0
storm_by on (Some touch.Drop) k = 0
storm_by on (Some touch.Finish) k = if on then min 16 (k + 1) else 0
storm_by on _ k = k

pub storm_touch : (t : Touch) (s : Slot) → (chip.touched t s).state.storm ≡ storm_by s.state.line (Some t) s.state.storm
storm_touch touch.Assert s = refl
storm_touch touch.Drop s = refl
storm_touch touch.Finish s = refl
storm_touch _ s = refl

pub storm_slot : (n : Event) (o : Option Touched) (s : Slot) → (slot_after n o s).state.storm ≡ storm_by s.state.line (done_to n o) s.state.storm
storm_slot n None s = refl
storm_slot n (Some t) s = at (same_event t.event n)
  where
    at : (b : Bool) → (if b then chip.touched t.by s else s).state.storm ≡ storm_by s.state.line (where_true b t.by) s.state.storm
    at true = storm_touch t.by s
    at false = refl

pub leading-by : (on : Bool) (o : Option Touch) (ms : List Bool) (k : ℕ) → k ≡ min 16 (leading ms) → storm_by on o k ≡ min 16 (leading (mark_by on o ++ ms))
leading-by on None ms k is = is
leading-by on (Some touch.Assert) ms k is = omega arith
leading-by on (Some touch.Drop) ms k is = omega arith
leading-by true (Some touch.Finish) ms k is = omega arith
leading-by false (Some touch.Finish) ms k is = omega arith
leading-by on (Some touch.Raise) ms k is = is
leading-by on (Some touch.Claim) ms k is = is
leading-by on (Some touch.Up) ms k is = is
leading-by on (Some touch.Down) ms k is = is

pub storm-leading : (m : MachineData) (n : Event) (past : List Entry) → (slot m past n).state.storm ≡ min 16 (leading (marks m past n))
storm-leading m n [] = let f = starts_fresh m n in let is = ap (λ (s : EventState). s.storm) f.1 in omega arith
storm-leading m n (e ∷ past) = storm_slot n (touched m past e) (slot m past n) ∙ leading-by (line m past n) (done_to n (touched m past e)) (marks m past n) (slot m past n).state.storm (storm-leading m n past)

pub leading-all : (ms : List Bool) (k : ℕ) → k ≤ leading ms → (i : ℕ) → i < k → slice_get ms i ≡ Some true
leading-all [] k within i below = absurd (omega arith)
leading-all (false ∷ ms) k within i below = absurd (omega arith)
leading-all (true ∷ ms) k within zero below = refl
leading-all (true ∷ ms) zero within (suc i) below = absurd (omega arith)
leading-all (true ∷ ms) (suc k) within (suc i) below = leading-all ms k (omega arith) i (omega arith)

pub all-leading : (ms : List Bool) (k : ℕ) → ((i : ℕ) → i < k → slice_get ms i ≡ Some true) → k ≤ leading ms
all-leading ms zero all = omega arith
all-leading [] (suc k) all = let first = all 0 (omega arith) in absurd (none first)
  where
    none : None ≡ Some true → ⊥
    none is = cc
all-leading (false ∷ ms) (suc k) all = let first = all 0 (omega arith) in absurd (other first)
  where
    other : Some false ≡ Some true → ⊥
    other is = cc
all-leading (true ∷ ms) (suc k) all = let rest = all-leading ms k (λ i below. all (suc i) (omega arith)) in omega arith

pub parks : (m : MachineData) (n : Event) (past : List Entry) → ParksAfterSixteen m past n
parks m n past = (
  λ is. (let p = and_parts (is_level (slot m past n).kind) (nat_le 16 (slot m past n).state.storm) is in
      (ap is_level (sym (slot_kind m past n)) ∙ p.0, leading-all (marks m past n) 16 (let most = leb-true 16 (slot m past n).state.storm p.1 in let storm = storm-leading m n past in omega arith))),
  λ both. and_from (is_level (slot m past n).kind) (nat_le 16 (slot m past n).state.storm) (ap is_level (slot_kind m past n) ∙ both.0)
      (le-leb 16 (slot m past n).state.storm (let most = all-leading (marks m past n) 16 both.1 in let storm = storm-leading m n past in omega arith)),
)
