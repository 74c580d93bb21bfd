-- Transactions with the controller (ACPI 6.5, sections 12.3 and 12.6): the one that is open, the query codes, burst
-- mode, and the interrupt handler's turn.
use Rattle.std.specs.Prelude.{ℕ, ◌+◌, ◌==◌, Bool, true, false, List, [], ◌∷◌, ◌++◌, drop, Option, Some, None, if◌then◌else◌}
use Rattle.acpi_regs.specs.declared.actor.Actor.{Actor}
use Rattle.acpi_regs.specs.declared.actor.Actor.TheVariants as actor
use Rattle.acpi_regs.specs.declared.entry.Deed.{Deed}
use Rattle.acpi_regs.specs.declared.entry.Deed.TheVariants as deed
use Rattle.acpi_regs.specs.declared.entry.Effect.{Effect}
use Rattle.acpi_regs.specs.declared.entry.Effect.TheVariants as effect
use Rattle.acpi_regs.specs.declared.entry.Entry.{Entry}
use Rattle.acpi_regs.specs.declared.entry.Request.{Request}
use Rattle.acpi_regs.specs.declared.entry.Request.TheVariants as request
use Rattle.ec_driver.specs.declared.wire.Move.TheVariants as move
use Rattle.ec_driver.specs.Wire.{burst_by}
use Rattle.machine_desc.specs.Kept.{own_event}
use Rattle.machine_desc.specs.Machine.{MachineData}
use Rattle.machine_history.specs.Machine.{names}

-- ---- the transaction that is open, from its begin to its take

-- who asked, for what, how many moves were made, and the byte that the controller put out
pub record Open : Type 0 where
  pub by : Actor
  pub asks : Request
  pub made : ℕ
  pub out : Option ℕ

abbrev pub begun : Actor → Request → Open
begun a r = record { by = a; asks = r; made = 0; out = None }

abbrev pub moved : Option Open → Option Open
moved None = None
moved (Some o) = Some record o { made = o.made + 1 }

abbrev pub put_out : ℕ → Option Open → Option Open
put_out v None = None
put_out v (Some o) = Some record o { made = o.made + 1; out = Some v }

abbrev pub open_after : Actor → Deed → Option Open → Option Open
open_after a (deed.Begin r) old = Some (begun a r)
open_after a (deed.Take v) old = None
open_after a (deed.Step h) old = moved old
open_after a (deed.Ctl effect.Taken) old = moved old
open_after a (deed.Ctl (effect.Out v)) old = put_out v old
open_after a (deed.Ctl effect.Put) old = moved old
open_after a _ old = old

abbrev pub open_of : List Entry → Option Open
open_of [] = None
open_of (e ∷ past) = open_after e.actor e.deed (open_of past)

-- the open request is a query
abbrev pub is_query : Request → Bool
is_query request.Qr = true
is_query _ = false

abbrev pub asks_code : Option Open → Bool
asks_code None = false
asks_code (Some o) = is_query o.asks

-- ---- query codes

-- a push adds a code, and an Out of a query gives the first and takes it away
abbrev pub codes_after : Option Open → Deed → List ℕ → List ℕ
codes_after o (deed.Push q) old = old ++ q ∷ []
codes_after o (deed.Ctl (effect.Out v)) old = if asks_code o then drop 1 old else old
codes_after o _ old = old

-- the codes that wait, in the order in which they were pushed
abbrev pub codes : List Entry → List ℕ
codes [] = []
codes (e ∷ past) = codes_after (open_of past) e.deed (codes past)

-- a code from 01 to FF; 00 says that there is none
abbrev pub code : ℕ → List ℕ
code q = if q == 0 then [] else q ∷ []

abbrev pub gives : Option Open → Deed → List ℕ
gives o (deed.Ctl (effect.Out v)) = if asks_code o then code v else []
gives o _ = []

-- the codes from 01 to FF that were given, in order
abbrev pub given : List Entry → List ℕ
given [] = []
given (e ∷ past) = given past ++ gives (open_of past) e.deed

-- ---- burst mode

-- Out of burst enable turns it on; Taken of burst disable, and Calm, turn it off
abbrev pub burst_in : Option Open → Effect → Bool → Bool
burst_in None e old = old
burst_in (Some o) e old = burst_by o.asks (move.Ctl e) old

abbrev pub burst_after : Option Open → Deed → Bool → Bool
burst_after o (deed.Ctl effect.Calm) old = false
burst_after o (deed.Ctl e) old = burst_in o e old
burst_after o _ old = old

abbrev pub burst : List Entry → Bool
burst [] = false
burst (e ∷ past) = burst_after (open_of past) e.deed (burst past)

-- ---- the interrupt handler's turn

-- int has claimed the controller's event since its last step
abbrev pub due_after : MachineData → Actor → Deed → Bool → Bool
due_after m actor.Int (deed.Claim n) old = if names (own_event m) n then true else old
due_after m actor.Int (deed.Step h) old = false
due_after m a d old = old

abbrev pub due : MachineData → List Entry → Bool
due m [] = false
due m (e ∷ past) = due_after m e.actor e.deed (due m past)
