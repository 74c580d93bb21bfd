-- Accesses to cells, the byte that a cell has, and the next move of the open transaction.
use Rattle.std.specs.Prelude.{ℕ, Bool, true, false, ◌==◌, ◌&&◌, if◌then◌else◌, List, [], ◌∷◌, length, Option, Some, None, slice_get, unwrap_or}
use Rattle.acpi_regs.specs.declared.actor.Actor.{Actor}
use Rattle.acpi_regs.specs.declared.entry.Cell.{Cell}
use Rattle.acpi_regs.specs.declared.entry.Deed.{Deed}
use Rattle.acpi_regs.specs.declared.entry.Deed.TheVariants as deed
use Rattle.acpi_regs.specs.declared.entry.Effect.{Effect}
use Rattle.acpi_regs.specs.declared.entry.Effect.TheVariants as effect
use Rattle.acpi_regs.specs.declared.entry.Entry.{Entry}
use Rattle.acpi_regs.specs.declared.entry.Request.{Request}
use Rattle.acpi_regs.specs.declared.entry.Request.TheVariants as request
use Rattle.ec_chip.specs.Parts.{first_code}
use Rattle.ec_driver.specs.declared.wire.Move.{Move}
use Rattle.ec_driver.specs.Wire.{carried, wire}
use Rattle.machine_desc.specs.Machine.{MachineData}
use Rattle.machine_history.specs.declared.parts.Access.{Access}
use Rattle.machine_history.specs.Cells.{first_byte}
use Rattle.machine_history.specs.Machine.{space}
use Rattle.machine_history.specs.Wire.{Open, codes, open_of}

-- Out of a read reads its cell, and Put of a write writes its cell: each for the requester
abbrev pub ctl_access : MachineData → Actor → Request → Effect → Option Access
ctl_access m a (request.Rd x) (effect.Out v) = Some record { by = a; cell = space m x; byte = v; writes = false }
ctl_access m a (request.Wr x w) effect.Put = Some record { by = a; cell = space m x; byte = w; writes = true }
ctl_access m a r e = None

abbrev pub open_access : MachineData → Option Open → Effect → Option Access
open_access m None e = None
open_access m (Some o) e = ctl_access m o.by o.asks e

abbrev pub deed_access : MachineData → Option Open → Actor → Deed → Option Access
deed_access m o a (deed.Read c v) = Some record { by = a; cell = c; byte = v; writes = false }
deed_access m o a (deed.Write c v) = Some record { by = a; cell = c; byte = v; writes = true }
deed_access m o a (deed.Ctl e) = open_access m o e
deed_access m o a _ = None

-- the access that an entry makes after this past
abbrev pub access_of : MachineData → List Entry → Entry → Option Access
access_of m past e = deed_access m (open_of past) e.actor e.deed

abbrev pub same_cell : Cell → Cell → Bool
same_cell c d = (c.region == d.region) && (c.offset == d.offset)

-- a write leaves its byte, and all else leaves what was there
abbrev pub value_after : Cell → Option Access → ℕ → ℕ
value_after c None old = old
value_after c (Some a) old = if a.writes && same_cell a.cell c then a.byte else old

-- the byte of a cell: that of the last write to it, else the description's
abbrev pub value : MachineData → List Entry → Cell → ℕ
value m [] c = first_byte m c
value m (e ∷ past) c = value_after c (access_of m past e) (value m past c)

-- ---- the next move of the open transaction

-- the byte that the controller would put out now: a read gives its cell's, a query the first code, or 00
abbrev pub answer : MachineData → List Entry → Request → ℕ
answer m past (request.Rd x) = value m past (space m x)
answer m past request.Qr = first_code (codes past)
answer m past _ = 0

-- the blank of the open request: the byte that was put out, else the one that would be
abbrev pub blank : MachineData → List Entry → Open → ℕ
blank m past o = unwrap_or o.out (answer m past o.asks)

abbrev pub next_in : MachineData → List Entry → Option Open → Option Move
next_in m past None = None
next_in m past (Some o) = slice_get (wire o.asks (blank m past o)) o.made

abbrev pub next_move : MachineData → List Entry → Option Move
next_move m past = next_in m past (open_of past)

abbrev pub taking_in : MachineData → List Entry → Option Open → Option (Option ℕ)
taking_in m past None = None
taking_in m past (Some o) = if o.made == length (wire o.asks 0) then Some (carried o.asks (blank m past o)) else None

-- what the take of the open transaction carries, once all its moves are made
abbrev pub taking : MachineData → List Entry → Option (Option ℕ)
taking m past = taking_in m past (open_of past)
