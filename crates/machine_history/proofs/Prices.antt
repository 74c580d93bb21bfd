-- Prices of acts, and what an entry is charged for: the act that it begins.
use Rattle.std.proofs.Common.{ℕ, ◌*◌}
use Rattle.acpi_regs.specs.declared.entry.Deed.{Deed}
use Rattle.acpi_regs.specs.declared.entry.Deed.TheVariants as deed
use Rattle.acpi_regs.specs.declared.event.Event.{Event}
use Rattle.acpi_regs.specs.Event.{same_event}
use Rattle.handler_script.specs.declared.act.Act.{Act}
use Rattle.handler_script.specs.declared.act.Act.TheVariants as act
use Rattle.machine_history.proofs.Totals.{Count, one}
use Rattle.machine_history.proofs.Wires.{is_qr, request_entries, request_moves}

abbrev pub charge : (Act → ℕ) → Deed → ℕ
charge f deed.Seek = f act.Lock
charge f deed.Disown = f act.Unlock
charge f (deed.Read c v) = f (act.Read c)
charge f (deed.Write c v) = f (act.Write c v)
charge f (deed.Begin r) = f (act.Ask r)
charge f (deed.Push q) = f (act.Push q)
charge f (deed.Raise n) = f (act.Raise n)
charge f (deed.Assert n) = f (act.Assert n)
charge f (deed.Drop n) = f (act.Drop n)
charge f (deed.Notify d v) = f (act.Notify d v)
charge f (deed.Up n) = f (act.Up n)
charge f (deed.Down n) = f (act.Down n)
charge f _ = 0

abbrev pub charged : (Act → ℕ) → Count
charged f past e = charge f e.deed

-- the entries of an act: with a Lock come its episode and what its signal brings
abbrev pub entries_price : Act → ℕ
entries_price act.Lock = 8
entries_price act.Unlock = 0
entries_price (act.Ask r) = request_entries r
entries_price _ = 1

-- the controller's moves in a request other than a query
abbrev pub moves_price : Act → ℕ
moves_price (act.Ask r) = request_moves r
moves_price _ = 0

-- queries
abbrev pub queries_price : Act → ℕ
queries_price (act.Ask r) = is_qr r
queries_price _ = 0

-- how often an act can bring a run of an event: a raise once, an assert seventeen times
abbrev pub lifts : Event → Act → ℕ
lifts n (act.Raise x) = one (same_event n x)
lifts n (act.Assert x) = 17 * one (same_event n x)
lifts n _ = 0

-- a push, by its code
abbrev pub pushes_price : (ℕ → ℕ) → Act → ℕ
pushes_price g (act.Push q) = g q
pushes_price g _ = 0
