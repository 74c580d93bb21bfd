-- The text of a log's lines, each without its newline.
use Rattle.std.specs.Prelude.{ℕ, length, reverse, ◌+◌, ◌/◌, ◌%◌, nat_lt, if◌then◌else◌, true, false, List, [], ◌∷◌, ◌++◌, codes, decimal, Some, None}
use Rattle.acpi_regs.specs.declared.actor.Actor.{Actor}
use Rattle.acpi_regs.specs.declared.actor.Actor.TheVariants as actor
use Rattle.acpi_regs.specs.declared.entry.Cell.{Cell}
use Rattle.acpi_regs.specs.declared.entry.Deed.{Deed}
use Rattle.acpi_regs.specs.declared.entry.Deed.TheVariants as deed
use Rattle.acpi_regs.specs.declared.entry.Effect.{Effect}
use Rattle.acpi_regs.specs.declared.entry.Effect.TheVariants as effect
use Rattle.acpi_regs.specs.declared.entry.Entry.{Entry}
use Rattle.acpi_regs.specs.declared.entry.HostMove.{HostMove}
use Rattle.acpi_regs.specs.declared.entry.HostMove.TheVariants as host
use Rattle.acpi_regs.specs.declared.entry.Request.{Request}
use Rattle.acpi_regs.specs.declared.entry.Request.TheVariants as request
use Rattle.acpi_regs.specs.declared.event.Event.{Event}
use Rattle.acpi_regs.specs.declared.event.Event.TheVariants as event
use Rattle.acpi_regs.specs.declared.event.Fixed.TheVariants as fixed
use Rattle.acpi_regs.specs.Core.{events_of}
use Rattle.machine_desc.specs.Machine.{MachineData}
use Rattle.machine_history.specs.Events.{parked}

-- a hexadecimal digit, of 0 to 9 and A to F
abbrev pub digit_text : ℕ → ℕ
digit_text n = if nat_lt n 10 then 48 + n else 55 + n

-- a byte as two hexadecimal digits
abbrev pub byte_text : ℕ → List ℕ
byte_text b = digit_text (b / 16) ∷ digit_text (b % 16) ∷ []

-- the region as two hexadecimal digits, a colon, and the offset as four
abbrev pub cell_text : Cell → List ℕ
cell_text c = byte_text c.region ++ 58 ∷ (byte_text (c.offset / 256) ++ byte_text (c.offset % 256))

-- the name of an actor
abbrev pub actor_text : Actor → List ℕ
actor_text actor.Int = codes "int"
actor_text actor.Poll = codes "poll"
actor_text (actor.Worker k) = codes "w" ++ decimal k
actor_text actor.Ec = codes "ec"
actor_text (actor.Device k) = codes "d" ++ decimal k
actor_text (actor.Firmware k) = codes "f" ++ decimal k

-- the name of an event
abbrev pub event_text : Event → List ℕ
event_text (event.Fixed fixed.Tmr) = codes "tmr"
event_text (event.Fixed fixed.Gbl) = codes "gbl"
event_text (event.Fixed fixed.Pwr) = codes "pwr"
event_text (event.Fixed fixed.Slp) = codes "slp"
event_text (event.Fixed fixed.Rtc) = codes "rtc"
event_text (event.Gpe n) = 103 ∷ byte_text n

-- what is asked of the controller
abbrev pub request_text : Request → List ℕ
request_text (request.Rd x) = codes "rd " ++ byte_text x
request_text (request.Wr x v) = codes "wr " ++ (byte_text x ++ 32 ∷ byte_text v)
request_text request.Be = codes "be"
request_text request.Bd = codes "bd"
request_text request.Qr = codes "qr"

-- a move of the host
abbrev pub move_text : HostMove → List ℕ
move_text (host.Sc x) = codes "sc " ++ byte_text x
move_text (host.Data x) = codes "data " ++ byte_text x
move_text (host.Get x) = codes "get " ++ byte_text x

-- a move of the controller
abbrev pub effect_text : Effect → List ℕ
effect_text effect.Taken = codes "taken"
effect_text (effect.Out x) = codes "out " ++ byte_text x
effect_text effect.Put = codes "put"
effect_text effect.Calm = codes "calm"

-- what an entry's line says after the actor
abbrev pub deed_text : Deed → List ℕ
deed_text deed.Seek = codes "seek"
deed_text deed.Busy = codes "busy"
deed_text deed.Woken = codes "woken"
deed_text deed.Own = codes "own"
deed_text deed.Disown = codes "disown"
deed_text (deed.Leave false) = codes "leave 0"
deed_text (deed.Leave true) = codes "leave 1"
deed_text (deed.Read c v) = codes "read " ++ (cell_text c ++ 32 ∷ byte_text v)
deed_text (deed.Write c v) = codes "write " ++ (cell_text c ++ 32 ∷ byte_text v)
deed_text (deed.Begin r) = codes "begin " ++ request_text r
deed_text (deed.Step m) = codes "step " ++ move_text m
deed_text (deed.Ctl e) = codes "ctl " ++ effect_text e
deed_text (deed.Take None) = codes "take -"
deed_text (deed.Take (Some r)) = codes "take " ++ byte_text r
deed_text (deed.Push q) = codes "push " ++ byte_text q
deed_text (deed.Raise n) = codes "raise " ++ event_text n
deed_text (deed.Latch n) = codes "latch " ++ event_text n
deed_text (deed.Assert n) = codes "assert " ++ event_text n
deed_text (deed.Drop n) = codes "drop " ++ event_text n
deed_text (deed.Claim n) = codes "claim " ++ event_text n
deed_text (deed.Start j) = codes "start " ++ decimal j
deed_text (deed.Finish j) = codes "finish " ++ decimal j
deed_text (deed.Notify d v) = codes "notify " ++ (byte_text d ++ 32 ∷ byte_text v)
deed_text (deed.Up n) = codes "up " ++ event_text n
deed_text (deed.Down n) = codes "down " ++ event_text n

-- the text of an entry, without the newline
abbrev pub entry_text : Entry → List ℕ
entry_text e = actor_text e.actor ++ 32 ∷ deed_text e.deed

-- the text of a stuck line
abbrev pub stuck_text : Event → List ℕ
stuck_text e = codes "stuck " ++ event_text e

-- the text of the last line
abbrev pub rest_text : ℕ → List ℕ
rest_text n = codes "rest " ++ decimal n

-- ---- lines, one after another

-- the line of an entry, with its newline
abbrev pub entry_line : Entry → List ℕ
entry_line e = entry_text e ++ 10 ∷ []

abbrev pub entry_lines : List Entry → List ℕ
entry_lines [] = []
entry_lines (e ∷ entries) = entry_line e ++ entry_lines entries

abbrev pub stuck_line : Event → List ℕ
stuck_line e = stuck_text e ++ 10 ∷ []

abbrev pub stuck_lines : List Event → List ℕ
stuck_lines [] = []
stuck_lines (e ∷ events) = stuck_line e ++ stuck_lines events

abbrev pub rest_line : ℕ → List ℕ
rest_line n = rest_text n ++ 10 ∷ []

-- the machine's line, around its canonical text
abbrev pub machine_line : List ℕ → List ℕ
machine_line canonical = codes "machine " ++ (canonical ++ 10 ∷ [])

-- the events that are parked at the end, in the order in which events are served
abbrev pub stuck : MachineData → List Entry → List Event
stuck m history = events_of (parked m (reverse history))

-- what stands behind the lines of the entries
abbrev pub last_lines : MachineData → List Entry → List ℕ
last_lines m history = stuck_lines (stuck m history) ++ rest_line (length history)

-- the log of a machine with this canonical text
abbrev pub log_text : MachineData → List ℕ → List Entry → List ℕ
log_text m canonical history = machine_line canonical ++ (entry_lines history ++ last_lines m history)
