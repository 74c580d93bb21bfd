-- What may happen to the core of a machine: each step of the lock's word and of the pins that the phases allow, and
-- turns whose entries are legal in their places.
use Rattle.std.specs.Prelude.{◌≡◌, ◌≤◌, true, List, [], ◌∷◌}
use Rattle.acpi_regs.specs.declared.actor.Actor.{Actor}
use Rattle.acpi_regs.specs.declared.entry.Deed.{Deed}
use Rattle.acpi_regs.specs.declared.entry.Entry.{Entry}
use Rattle.acpi_regs.specs.Core.{Core}
use Rattle.acpi_regs.specs.CoreEvents.{CoreEvent, LatchesFirst, OthersFree, Turn, entry, lock_deeds, may_add, past_in}
use Rattle.acpi_regs.specs.CoreEvents as regs
use Rattle.acpi_regs.specs.Phases.{Phase}
use Rattle.machine_desc.specs.Machine.{MachineData}
use Rattle.machine_history.specs.Legal.{Allowed}

-- each entry is allowed after those before it
abbrev pub EachLegal : MachineData → List Entry → Actor → List Deed → Type 0
EachLegal m past a [] = Unit {0}
EachLegal m past a (d ∷ deeds) = Allowed m past (entry a d) × EachLegal m (entry a d ∷ past) a deeds

-- each is one that the phase at the turn's start allows
abbrev pub EachMay : Phase → List Deed → Type 0
EachMay p [] = Unit {0}
EachMay p (d ∷ deeds) = (may_add p d ≡ true) × EachMay p deeds

-- a turn of an actor while no other holds one
pub record IsBusTurn (m : MachineData) (c : Core) (a : Actor) (deeds : List Deed) : Type 0 where
  pub free : OthersFree c.phases a
  pub latches : LatchesFirst (c.phases a) deeds
  pub few : lock_deeds deeds ≤ 1
  pub may : EachMay (c.phases a) deeds
  pub legal : EachLegal m (past_in c) a deeds

abbrev pub MayHappen : MachineData → Core → CoreEvent → Type 0
MayHappen m c (Turn a deeds) = IsBusTurn m c a deeds
MayHappen m c e = regs.MayHappen m.devices c e

abbrev pub happens : MachineData → Core → CoreEvent → Core
happens m c e = regs.happens m.devices c e

-- one after the other
abbrev pub AllHappen : MachineData → Core → List CoreEvent → Type 0
AllHappen m c [] = Unit {0}
AllHappen m c (e ∷ events) = MayHappen m c e × AllHappen m (happens m c e) events

abbrev pub after : MachineData → Core → List CoreEvent → Core
after m c [] = c
after m c (e ∷ events) = after m (happens m c e) events
