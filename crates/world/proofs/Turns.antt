-- Turns: what they collect, and the rules that they keep.
use Rattle.std.proofs.Common.{◌≡◌, Bool, true, false, List, [], Option, refl, sym, ap, ◌∙◌, subst}
use Rattle.acpi_regs.specs.declared.actor.Actor.{Actor}
use Rattle.acpi_regs.specs.declared.entry.Deed.{Deed}
use Rattle.acpi_regs.specs.declared.entry.Entry.{Entry}
use Rattle.acpi_regs.specs.declared.event.Event.{Event}
use Rattle.acpi_regs.specs.Core.{events_of}
use Rattle.machine_core.specs.Board.{BoardData}
use Rattle.machine_desc.specs.Machine.{MachineData}
use Rattle.world.specs.declared.turn.Acted.{Acted}
use Rattle.world.specs.Duties.{AreLatchable, IsTurn}
use Rattle.world.specs.Serial.{collected}
use Rattle.world.proofs.Events.{no_events}

pub nothing_collected : (collect : Bool) (pins : Event → Bool) → collect ≡ false → events_of (collected collect pins) ≡ []
nothing_collected collect pins off = ap (λ b. events_of (collected b pins)) off ∙ no_events

pub collected-latchable : (m : MachineData) (entries : List Entry) (collect : Bool) (pins : Event → Bool) → (collect ≡ true → AreLatchable m entries pins) → AreLatchable m entries (collected collect pins)
collected-latchable m entries true pins h = h refl
collected-latchable m entries false pins h = λ n is. absurd (let x : false ≡ true = is in cc)

-- a board of the same machine
pub same-machine : (b b' : BoardData) → b'.machine ≡ b.machine → b' ≡ record b { entries = b'.entries }
same-machine b b' is = λ i. record { machine = is i; entries = b'.entries }

-- the same turn in other words
pub turn-as : (a : Actor) (lock : Option Deed) (before after after' : List Entry) (events events' : List Event) (answer answer' : Acted) → after' ≡ after → events' ≡ events → answer' ≡ answer → IsTurn a lock before after events answer → IsTurn a lock before after' events' answer'
turn-as a lock before after after' events events' answer answer' n e r turn =
    subst (λ x. IsTurn a lock before after' events' x) (sym r) (subst (λ x. IsTurn a lock before after' x answer) (sym e) (subst (λ x. IsTurn a lock before x events answer) (sym n) turn))
