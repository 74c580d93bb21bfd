-- Whose accesses are whose, which of them need the Global Lock, and what the last bytes written are.
use Rattle.std.specs.Prelude.{ℕ, ◌==◌, ◌≡◌, Bool, true, false, ◌&&◌, not, List, ◌∷◌, ◌++◌, Option, Some, None, slice_get}
use Rattle.acpi_regs.specs.declared.actor.Actor.{Actor}
use Rattle.acpi_regs.specs.declared.entry.Deed.{Deed}
use Rattle.acpi_regs.specs.declared.entry.Deed.TheVariants as deed
use Rattle.acpi_regs.specs.declared.entry.Entry.{Entry}
use Rattle.acpi_regs.specs.declared.entry.Request.TheVariants as request
use Rattle.acpi_regs.specs.Actor.{same_actor}
use Rattle.acpi_regs.specs.History.{past_of}
use Rattle.acpi_regs.specs.Lock.{owner}
use Rattle.handler_script.specs.declared.act.Act.{Act}
use Rattle.handler_script.specs.declared.act.Act.TheVariants as act
use Rattle.handler_script.specs.Plan.{Plan, Do, End}
use Rattle.machine_desc.specs.Machine.{MachineData}
use Rattle.machine_history.specs.declared.parts.Access.{Access}
use Rattle.machine_history.specs.Legal.{Legal, is_leave}
use Rattle.machine_history.specs.Machine.{space}
use Rattle.machine_history.specs.Scripts.{next_of, plan_left}
use Rattle.machine_history.specs.Values.{access_of, same_cell, value}

-- the access is one that the act makes
abbrev pub makes : MachineData → Act → Access → Bool
makes m (act.Read c) x = not x.writes && same_cell c x.cell
makes m (act.Write c v) x = x.writes && (same_cell c x.cell && (v == x.byte))
makes m (act.Ask (request.Rd n)) x = not x.writes && same_cell (space m n) x.cell
makes m (act.Ask (request.Wr n v)) x = x.writes && (same_cell (space m n) x.cell && (v == x.byte))
makes m _ x = false

abbrev pub made_by : MachineData → Option Act → Access → Bool
made_by m None x = false
made_by m (Some a) x = makes m a x

-- the next act needs the lock
abbrev pub needs_lock : Plan → Bool
needs_lock End = false
needs_lock (Do needs a next) = needs

-- Each access is made for the next act of the actor to whom it is credited, and where that act needs the Global Lock,
-- that actor owns it.
abbrev pub AccessesByOwner : MachineData → List Entry → Type 0
AccessesByOwner m history = (i : ℕ) (e : Entry) (x : Access) → slice_get history i ≡ Some e
    → access_of m (past_of history i) e ≡ Some x
    → (made_by m (next_of m (past_of history i) x.by) x ≡ true)
    × (needs_lock (plan_left m (past_of history i) x.by) ≡ true → owner (past_of history i) ≡ Some x.by)

-- each read gives the last byte that was written to its cell, or the description's
abbrev pub ReadsLast : MachineData → List Entry → Type 0
ReadsLast m history = (i : ℕ) (e : Entry) (x : Access) → slice_get history i ≡ Some e
    → access_of m (past_of history i) e ≡ Some x → x.writes ≡ false → x.byte ≡ value m (past_of history i) x.cell

abbrev pub entry : Actor → Deed → Entry
entry a d = record { actor = a; deed = d }

-- between an own and the next one its actor disowns
abbrev pub DisownsBetween : MachineData → Type 0
DisownsBetween m = (earlier between later : List Entry) (a b : Actor)
    → Legal m (earlier ++ (entry a deed.Own ∷ (between ++ (entry b deed.Own ∷ later))))
    → (j : ℕ) × (slice_get between j ≡ Some (entry a deed.Disown))

-- the next entry that an actor makes after its disown is its leave
abbrev pub LeavesNext : MachineData → Type 0
LeavesNext m =
    (earlier between later : List Entry) (a : Actor) (d : Deed)
    → Legal m (earlier ++ (entry a deed.Disown ∷ (between ++ (entry a d ∷ later))))
    → ((j : ℕ) (e : Entry) → slice_get between j ≡ Some e → same_actor a e.actor ≡ false) → is_leave d ≡ true
