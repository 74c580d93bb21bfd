-- A word of 64 bits read as an entry, step by step (own). This is what `unpack` computes; `Decodes` of Packing says
-- what it means.
use Rattle.std.specs.Prelude.{ℕ, ◌-◌, ◌/◌, ◌%◌, ◌==◌, true, false, nat_lt, Option, Some, None, if◌then◌else◌}
use Rattle.acpi_regs.specs.declared.actor.Actor.{Actor}
use Rattle.acpi_regs.specs.declared.actor.Actor.TheVariants as actor
use Rattle.acpi_regs.specs.declared.entry.Cell.{Cell}
use Rattle.acpi_regs.specs.declared.entry.Deed.{Deed}
use Rattle.acpi_regs.specs.declared.entry.Deed.TheVariants as deed
use Rattle.acpi_regs.specs.declared.entry.Effect.{Effect}
use Rattle.acpi_regs.specs.declared.entry.Effect.TheVariants as effect
use Rattle.acpi_regs.specs.declared.entry.Entry.{Entry}
use Rattle.acpi_regs.specs.declared.entry.HostMove.{HostMove}
use Rattle.acpi_regs.specs.declared.entry.HostMove.TheVariants as host
use Rattle.acpi_regs.specs.declared.entry.Request.{Request}
use Rattle.acpi_regs.specs.declared.entry.Request.TheVariants as request
use Rattle.acpi_regs.specs.declared.event.Event.{Event}
use Rattle.acpi_regs.specs.declared.event.Event.TheVariants as event
use Rattle.acpi_regs.specs.declared.event.Fixed.TheVariants as fixed

-- the actor with this code
abbrev pub actor_at : ℕ → Option Actor
actor_at n =
    if n == 0 then Some actor.Int
    else (if n == 1 then Some actor.Poll
    else (if nat_lt n 6 then Some (actor.Worker (n - 2))
    else (if n == 6 then Some actor.Ec
    else (if nat_lt n 15 then Some (actor.Device (n - 7))
    else (if nat_lt n 23 then Some (actor.Firmware (n - 15)) else None)))))

-- the event with this code
abbrev pub event_in : ℕ → Option Event
event_in n =
    if nat_lt n 256 then Some (event.Gpe n)
    else (if n == 256 then Some (event.Fixed fixed.Tmr)
    else (if n == 257 then Some (event.Fixed fixed.Gbl)
    else (if n == 258 then Some (event.Fixed fixed.Pwr)
    else (if n == 259 then Some (event.Fixed fixed.Slp)
    else (if n == 260 then Some (event.Fixed fixed.Rtc) else None)))))

-- a deed that carries nothing
abbrev pub plain_at : Deed → ℕ → Option Deed
plain_at d n = if n == 0 then Some d else None

abbrev pub leave_at : ℕ → Option Deed
leave_at n = if n == 0 then Some (deed.Leave false) else (if n == 1 then Some (deed.Leave true) else None)

abbrev pub cell_at : ℕ → Cell
cell_at n = record { region = n % 256; offset = n / 256 % 65536 }

abbrev pub read_at : ℕ → Option Deed
read_at n = if nat_lt n 4294967296 then Some (deed.Read (cell_at n) (n / 16777216)) else None

abbrev pub write_at : ℕ → Option Deed
write_at n = if nat_lt n 4294967296 then Some (deed.Write (cell_at n) (n / 16777216)) else None

-- a request by the code of its kind and by its bytes
abbrev pub request_at : (kind bytes : ℕ) → Option Request
request_at kind bytes =
    if kind == 0 then (if nat_lt bytes 256 then Some (request.Rd bytes) else None)
    else (if kind == 1 then (if nat_lt bytes 65536 then Some (request.Wr (bytes % 256) (bytes / 256)) else None)
    else (if kind == 2 then (if bytes == 0 then Some request.Be else None)
    else (if kind == 3 then (if bytes == 0 then Some request.Bd else None)
    else (if kind == 4 then (if bytes == 0 then Some request.Qr else None) else None))))

abbrev pub move_at : (kind byte : ℕ) → Option HostMove
move_at kind byte =
    if nat_lt byte 256
    then (if kind == 0 then Some (host.Sc byte)
    else (if kind == 1 then Some (host.Data byte)
    else (if kind == 2 then Some (host.Get byte) else None)))
    else None

abbrev pub effect_at : (kind byte : ℕ) → Option Effect
effect_at kind byte =
    if kind == 0 then (if byte == 0 then Some effect.Taken else None)
    else (if kind == 1 then (if nat_lt byte 256 then Some (effect.Out byte) else None)
    else (if kind == 2 then (if byte == 0 then Some effect.Put else None)
    else (if kind == 3 then (if byte == 0 then Some effect.Calm else None) else None)))

abbrev pub begin_at : Option Request → Option Deed
begin_at None = None
begin_at (Some r) = Some (deed.Begin r)

abbrev pub step_at : Option HostMove → Option Deed
step_at None = None
step_at (Some h) = Some (deed.Step h)

abbrev pub ctl_at : Option Effect → Option Deed
ctl_at None = None
ctl_at (Some e) = Some (deed.Ctl e)

abbrev pub take_at : ℕ → Option Deed
take_at n =
    if n == 0 then Some (deed.Take None)
    else (if n % 256 == 1 then (if nat_lt n 65536 then Some (deed.Take (Some (n / 256))) else None) else None)

abbrev pub push_at : ℕ → Option Deed
push_at n = if nat_lt n 256 then Some (deed.Push n) else None

abbrev pub start_at : ℕ → Option Deed
start_at n = if nat_lt n 4294967296 then Some (deed.Start n) else None

abbrev pub finish_at : ℕ → Option Deed
finish_at n = if nat_lt n 4294967296 then Some (deed.Finish n) else None

abbrev pub notify_at : ℕ → Option Deed
notify_at n = if nat_lt n 65536 then Some (deed.Notify (n % 256) (n / 256)) else None

-- a deed with an event
abbrev pub event_deed : (place : ℕ) → Option Event → Option Deed
event_deed place None = None
event_deed place (Some n) =
    if place == 13 then Some (deed.Raise n)
    else (if place == 14 then Some (deed.Latch n)
    else (if place == 15 then Some (deed.Assert n)
    else (if place == 16 then Some (deed.Drop n)
    else (if place == 17 then Some (deed.Claim n)
    else (if place == 21 then Some (deed.Up n)
    else (if place == 22 then Some (deed.Down n) else None))))))

-- the deed at a place of its enum, with what it carries
abbrev pub deed_at : (place load : ℕ) → Option Deed
deed_at place load =
    if place == 0 then plain_at deed.Seek load
    else (if place == 1 then plain_at deed.Busy load
    else (if place == 2 then plain_at deed.Woken load
    else (if place == 3 then plain_at deed.Own load
    else (if place == 4 then plain_at deed.Disown load
    else (if place == 5 then leave_at load
    else (if place == 6 then read_at load
    else (if place == 7 then write_at load
    else (if place == 8 then begin_at (request_at (load % 256) (load / 256))
    else (if place == 9 then step_at (move_at (load % 256) (load / 256))
    else (if place == 10 then ctl_at (effect_at (load % 256) (load / 256))
    else (if place == 11 then take_at load
    else (if place == 12 then push_at load
    else (if place == 18 then start_at load
    else (if place == 19 then finish_at load
    else (if place == 20 then notify_at load
    else event_deed place (event_in load))))))))))))))))

abbrev pub entry_of : Option Actor → Option Deed → Option Entry
entry_of None d = None
entry_of (Some a) None = None
entry_of (Some a) (Some d) = Some (record { actor = a; deed = d })

-- the entry in a word
abbrev pub entry_at : ℕ → Option Entry
entry_at word = entry_of (actor_at (word % 256)) (deed_at (word / 256 % 256) (word / 65536))
