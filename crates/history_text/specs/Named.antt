-- Entries whose numbers are of their types, and whose actor has a name.
use Rattle.std.specs.Prelude.{ℕ, ◌<◌, ◌^◌, ◌≡◌, List, Some}
use Rattle.acpi_regs.specs.declared.actor.Actor.{Actor}
use Rattle.acpi_regs.specs.declared.actor.Actor.TheVariants as actor
use Rattle.acpi_regs.specs.declared.entry.Cell.{Cell}
use Rattle.acpi_regs.specs.declared.entry.Deed.{Deed}
use Rattle.acpi_regs.specs.declared.entry.Deed.TheVariants as deed
use Rattle.acpi_regs.specs.declared.entry.Effect.{Effect}
use Rattle.acpi_regs.specs.declared.entry.Effect.TheVariants as effect
use Rattle.acpi_regs.specs.declared.entry.Entry.{Entry}
use Rattle.acpi_regs.specs.declared.entry.HostMove.{HostMove}
use Rattle.acpi_regs.specs.declared.entry.HostMove.TheVariants as host
use Rattle.acpi_regs.specs.declared.entry.Request.{Request}
use Rattle.acpi_regs.specs.declared.entry.Request.TheVariants as request
use Rattle.acpi_regs.specs.declared.event.Event.{Event}
use Rattle.acpi_regs.specs.declared.event.Event.TheVariants as event
use Rattle.history_text.specs.Text.{entry_text}

abbrev pub IsByte : ℕ → Type 0
IsByte n = n < 256

abbrev pub IsActor : Actor → Type 0
IsActor (actor.Worker k) = k < 4
IsActor (actor.Device k) = k < 8
IsActor (actor.Firmware k) = k < 8
IsActor _ = Unit {0}

abbrev pub IsEvent : Event → Type 0
IsEvent (event.Gpe n) = IsByte n
IsEvent (event.Fixed f) = Unit {0}

abbrev pub IsCell : Cell → Type 0
IsCell c = IsByte c.region × (c.offset < 65536)

abbrev pub IsRequest : Request → Type 0
IsRequest (request.Rd x) = IsByte x
IsRequest (request.Wr x v) = IsByte x × IsByte v
IsRequest _ = Unit {0}

abbrev pub IsMove : HostMove → Type 0
IsMove (host.Sc x) = IsByte x
IsMove (host.Data x) = IsByte x
IsMove (host.Get x) = IsByte x

abbrev pub IsEffect : Effect → Type 0
IsEffect (effect.Out x) = IsByte x
IsEffect _ = Unit {0}

abbrev pub IsDeed : Deed → Type 0
IsDeed (deed.Read c v) = IsCell c × IsByte v
IsDeed (deed.Write c v) = IsCell c × IsByte v
IsDeed (deed.Begin r) = IsRequest r
IsDeed (deed.Step m) = IsMove m
IsDeed (deed.Ctl e) = IsEffect e
IsDeed (deed.Take (Some r)) = IsByte r
IsDeed (deed.Push q) = IsByte q
IsDeed (deed.Raise n) = IsEvent n
IsDeed (deed.Latch n) = IsEvent n
IsDeed (deed.Assert n) = IsEvent n
IsDeed (deed.Drop n) = IsEvent n
IsDeed (deed.Claim n) = IsEvent n
IsDeed (deed.Start j) = j < 2 ^ 32
IsDeed (deed.Finish j) = j < 2 ^ 32
IsDeed (deed.Notify d v) = IsByte d × IsByte v
IsDeed (deed.Up n) = IsEvent n
IsDeed (deed.Down n) = IsEvent n
IsDeed _ = Unit {0}

abbrev pub IsEntry : Entry → Type 0
IsEntry e = IsActor e.actor × IsDeed e.deed

-- no entry has this text
abbrev pub NoEntry : List ℕ → Type 0
NoEntry line = (e : Entry) → IsEntry e → entry_text e ≡ line → ⊥

-- no two entries have one text
abbrev pub OneEntry : Type 0
OneEntry = (e f : Entry) → IsEntry e → IsEntry f → entry_text e ≡ entry_text f → e ≡ f
