-- The world that a seat of a shared table is for its actor: each call changes what the seat knows, and nobody else's.
use Rattle.std.specs.Prelude.{ℕ, ◌≡◌, ◌+◌, ◌++◌, Bool, true, false, List, [], length, drop, Option, Some, None, if◌then◌else◌}
use Rattle.acpi_regs.specs.declared.actor.Actor.{Actor}
use Rattle.acpi_regs.specs.declared.entry.Deed.{Deed}
use Rattle.acpi_regs.specs.declared.entry.Entry.{Entry}
use Rattle.acpi_regs.specs.declared.event.Event.{Event}
use Rattle.acpi_regs.specs.CoreEvents.{is_holding, may_add}
use Rattle.lock_table.specs.declared.view.Part.{Part}
use Rattle.lock_table.specs.declared.view.SeatPhase.{SeatPhase}
use Rattle.lock_table.specs.declared.view.SeatPhase.TheVariants as kept
use Rattle.lock_table.specs.declared.view.Stage.TheVariants as stage
use Rattle.lock_table.specs.declared.view.View.{View}
use Rattle.lock_table.specs.Views.{ForOne, IsNext, IsQuit, IsSeeking, MadeIn, StartsWith, after_deeds, deeds_of, holding, let_go, map_one, missed, phase_of, pulses, with_one}
use Rattle.lock_table.specs.WordCalls.{Attempts, Releases}
use Rattle.machine_desc.specs.Machine.{MachineData}
use Rattle.machine_history.specs.Legal.{Legal}
use Rattle.world.specs.declared.turn.Acted.{Acted}
use Rattle.world.specs.Calls.{Attempted, Call, Missed, Pulsed_at, Released, To_attempt, To_pulse, To_release, To_turn, Turned, Want}

-- ---- what a call asks

-- the lock's entry, where there is one, is one that the phase allows
abbrev pub AllowsLock : SeatPhase → Option Deed → Type 0
AllowsLock p None = Unit {0}
AllowsLock p (Some d) = may_add (phase_of p) d ≡ true

abbrev pub PartMay : List (List Event) → Part → Want → Type 0
PartMay lists p To_attempt = IsSeeking p
PartMay lists p To_release = IsQuit p
PartMay lists p (To_pulse n) = IsNext lists n p
PartMay lists p (To_turn collect lock) = AllowsLock p.phase lock

-- the seat has no turn out, and is this actor's, whose phase allows the call
pub record SeatMay (lists : List (List Event)) (v : View) (a : Actor) (want : Want) : Type 0 where
  pub away : v.stage ≡ stage.Away
  pub part : ForOne (λ p. (p.actor ≡ a) × PartMay lists p want) v.who

-- ---- what a call makes of the seat

-- a turn that was taken with the history before, and given back with the one after
abbrev pub turned : Bool → List Entry → List Entry → Part → Part
turned collect before after p = record {
  actor = p.actor;
  phase = let_go (after_deeds (deeds_of (drop (length before) after)) p.phase);
  mine = p.mine ++ drop (length before) after;
  tried = p.tried + 1;
  found = 0;
  loaded = p.loaded;
  swept = if collect then (p.swept + 5) else p.swept;
}

abbrev pub turned_in : Bool → List Entry → List Entry → View → View
turned_in collect before after v = record {
  who = map_one (turned collect before after) v.who;
  seen = after;
  told = v.told;
  stage = stage.Away;
  turns =
      v.turns + 1;
  misses = v.misses;
}

-- a turn found a legal history that begins with what the seat had seen, and has of its actor the entries that it made
pub record TurnMakes (m : MachineData) (v : View) (collect : Bool) (before after : List Entry) (w : View) : Type 0 where
  pub begins : StartsWith before v.seen
  pub made : ForOne (MadeIn before) v.who
  pub legal : Legal m before
  pub seat : w ≡ turned_in collect before after v

abbrev pub SeatMakes : MachineData → View → Call → View → Type 0
SeatMakes m v (Attempted r) w = Attempts v r w
SeatMakes m v (Released b) w = Releases v b w
SeatMakes m v (Pulsed_at n clear) w = w ≡ pulses n clear v
SeatMakes m v (Turned collect before after events) w = TurnMakes m v collect before after w
SeatMakes m v Missed w = w ≡ missed 1 v

-- ---- a turn in its parts

abbrev pub gathered : Bool → List ℕ → View → View
gathered true hand v = with_one (holding hand) v
gathered false hand v = v

-- the rest of a turn, from the moment at which it was taken
abbrev pub finishing : Bool → List Entry → List Entry → Part → Part
finishing collect before after p = record {
  actor = p.actor;
  phase = let_go (after_deeds (deeds_of (drop (length before) after)) p.phase);
  mine = p.mine ++ drop (length before) after;
  tried = p.tried;
  found = p.found;
  loaded = p.loaded;
  swept = if collect then (p.swept + 5) else p.swept;
}

abbrev pub finished : Bool → List Entry → View → View
finished collect after v = record {
  who = map_one (finishing collect v.seen after) v.who;
  seen = after;
  told = v.told;
  stage = stage.Away;
  turns =
      v.turns;
  misses = v.misses;
}

-- what a duty does in a turn of this seat, from that moment on
abbrev pub Acts : {D : Type 0} → (D → D → List Entry → List Entry → List Event → Acted → Type 0) → Bool → View → D
    → Acted → View → D → Type 0
Acts does collect v d r w d' = (after : List Entry) × (events : List Event) × (collect ≡ false → events ≡ [])
    × (w ≡ finished collect after v) × does d d' v.seen after events r

-- the part of the turn's actor: it holds no pins yet, and is free where it is to collect them
pub record MayAct (a : Actor) (collect : Bool) (lock : Option Deed) (p : Part) : Type 0 where
  pub is_its : p.actor ≡ a
  pub allows : AllowsLock p.phase lock
  pub empty : is_holding (phase_of p.phase) ≡ false
  pub free : collect ≡ true → p.phase ≡ kept.Free
