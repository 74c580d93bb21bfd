-- The only entry that a line can be the line of. Whether it is, the line of that entry tells.
use Rattle.std.specs.Prelude.{ℕ, ◌+◌, ◌*◌, ◌/◌, ◌%◌, ◌^◌, ◌==◌, if◌then◌else◌, List, take, drop, slice_index, Option, Some, None}
use Rattle.std.specs.Str.Parse.{digits_value}
use Rattle.acpi_regs.specs.declared.actor.Actor.{Actor}
use Rattle.acpi_regs.specs.declared.actor.Actor.TheVariants as actor
use Rattle.acpi_regs.specs.declared.entry.Cell.{Cell}
use Rattle.acpi_regs.specs.declared.entry.Deed.{Deed}
use Rattle.acpi_regs.specs.declared.entry.Deed.TheVariants as deed
use Rattle.acpi_regs.specs.declared.entry.Effect.{Effect}
use Rattle.acpi_regs.specs.declared.entry.Effect.TheVariants as effect
use Rattle.acpi_regs.specs.declared.entry.Entry.{Entry}
use Rattle.acpi_regs.specs.declared.entry.HostMove.{HostMove}
use Rattle.acpi_regs.specs.declared.entry.HostMove.TheVariants as host
use Rattle.acpi_regs.specs.declared.entry.Request.{Request}
use Rattle.acpi_regs.specs.declared.entry.Request.TheVariants as request
use Rattle.acpi_regs.specs.declared.event.Event.{Event}
use Rattle.acpi_regs.specs.declared.event.Event.TheVariants as event
use Rattle.acpi_regs.specs.declared.event.Fixed.TheVariants as fixed

-- the value of a hexadecimal digit
abbrev pub digit_guess : ℕ → ℕ
digit_guess c = (c % 16 + 9 * (c / 64)) % 16

-- the byte of the two digits at a place
abbrev pub byte_guess : List ℕ → ℕ → ℕ
byte_guess t k = 16 * digit_guess (slice_index t k) + digit_guess (slice_index t (k + 1))

abbrev pub cell_guess : List ℕ → ℕ → Cell
cell_guess t k = record { region = byte_guess t k; offset = 256 * byte_guess t (k + 3) + byte_guess t (k + 5) }

abbrev pub gpe_or_gbl : List ℕ → ℕ → Event
gpe_or_gbl t k = if slice_index t (k + 1) == 98 then event.Fixed fixed.Gbl else event.Gpe (byte_guess t (k + 1))

-- the event of a first letter
abbrev pub event_of : ℕ → List ℕ → ℕ → Event
event_of c t k = if c == 116 then event.Fixed fixed.Tmr else
    (if c == 112 then event.Fixed fixed.Pwr else
    (if c == 115 then event.Fixed fixed.Slp else (if c == 114 then event.Fixed fixed.Rtc else gpe_or_gbl t k)))

abbrev pub event_guess : List ℕ → ℕ → Event
event_guess t k = event_of (slice_index t k) t k

abbrev pub request_of : ℕ → List ℕ → Request
request_of key t = if key == 29284 then request.Rd (byte_guess t 9) else
    (if key == 30578 then request.Wr (byte_guess t 9) (byte_guess t 12) else
    (if key == 25189 then request.Be else (if key == 25188 then request.Bd else request.Qr)))

abbrev pub request_guess : List ℕ → Request
request_guess t = request_of (256 * slice_index t 6 + slice_index t 7) t

abbrev pub move_of : ℕ → List ℕ → HostMove
move_of c t = if c == 115 then host.Sc (byte_guess t 8) else
    (if c == 100 then host.Data (byte_guess t 10) else host.Get (byte_guess t 9))

abbrev pub move_guess : List ℕ → HostMove
move_guess t = move_of (slice_index t 5) t

abbrev pub effect_of : ℕ → List ℕ → Effect
effect_of c t = if c == 116 then effect.Taken else
    (if c == 111 then effect.Out (byte_guess t 8) else (if c == 112 then effect.Put else effect.Calm))

abbrev pub effect_guess : List ℕ → Effect
effect_guess t = effect_of (slice_index t 4) t

abbrev pub taken_guess : List ℕ → Option ℕ
taken_guess t = if slice_index t 5 == 45 then None else Some (byte_guess t 5)

-- the number of the ten decimal digits at most that stand behind a place
abbrev pub job_guess : List ℕ → ℕ → ℕ
job_guess t k = digits_value 10 (take 10 (drop k t)) % 2 ^ 32

abbrev pub step_or_start : List ℕ → Deed
step_or_start t = if slice_index t 2 == 101 then deed.Step (move_guess t) else deed.Start (job_guess t 6)

-- the same of the other words
abbrev pub event_deed : ℕ → List ℕ → Deed
event_deed key t =
    if key == 29281 then deed.Raise (event_guess t 6)
    else (if key == 27745 then deed.Latch (event_guess t 6)
    else (if key == 24947 then deed.Assert (event_guess t 7)
    else (if key == 25714 then deed.Drop (event_guess t 5)
    else (if key == 25452 then deed.Claim (event_guess t 6)
    else (if key == 30064 then deed.Up (event_guess t 3)
    else deed.Down (event_guess t 5))))))

abbrev pub other_of : ℕ → List ℕ → Deed
other_of key t =
    if key == 25189 then deed.Begin (request_guess t)
    else (if key == 29556 then step_or_start t
    else (if key == 25460 then deed.Ctl (effect_guess t)
    else (if key == 29793 then deed.Take (taken_guess t)
    else (if key == 28789 then deed.Push (byte_guess t 5)
    else (if key == 26217 then deed.Finish (job_guess t 7)
    else (if key == 28271 then deed.Notify (byte_guess t 7) (byte_guess t 10)
    else event_deed key t))))))

-- the deed of the first two letters of a word
abbrev pub deed_of : ℕ → List ℕ → Deed
deed_of key t =
    if key == 29285 then deed.Read (cell_guess t 5) (byte_guess t 13)
    else (if key == 30578 then deed.Write (cell_guess t 6) (byte_guess t 14)
    else (if key == 29541 then deed.Seek
    else (if key == 25205 then deed.Busy
    else (if key == 30575 then deed.Woken
    else (if key == 28535 then deed.Own
    else (if key == 25705 then deed.Disown
    else (if key == 27749 then deed.Leave (slice_index t 6 == 49)
    else other_of key t)))))))

abbrev pub deed_guess : List ℕ → Deed
deed_guess t = deed_of (256 * slice_index t 0 + slice_index t 1) t

abbrev pub actor_of : ℕ → List ℕ → Actor
actor_of c t =
    if c == 105 then actor.Int
    else (if c == 112 then actor.Poll
    else (if c == 101 then actor.Ec
    else (if c == 119 then actor.Worker (digit_guess (slice_index t 1) % 4)
    else (if c == 100 then actor.Device (digit_guess (slice_index t 1) % 8)
    else actor.Firmware (digit_guess (slice_index t 1) % 8)))))

abbrev pub actor_guess : List ℕ → Actor
actor_guess t = actor_of (slice_index t 0) t

-- how many bytes the actor and the space have
abbrev pub width_of : ℕ → ℕ
width_of c = if c == 105 then 4 else (if c == 112 then 5 else 3)

abbrev pub entry_guess : List ℕ → Entry
entry_guess t = record { actor = actor_guess t; deed = deed_guess (drop (width_of (slice_index t 0)) t) }
