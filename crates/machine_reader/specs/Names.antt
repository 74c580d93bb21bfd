-- The names by which a description speaks of events, of query codes and of actors.
use Rattle.std.specs.Prelude.{ℕ, ◌+◌, ◌-◌, ◌==◌, true, false, ◌&&◌, nat_le, nat_lt, List, [], ◌∷◌, Option, Some, None, option_map, option_and_then, if◌then◌else◌, codes}
use Rattle.std.specs.Str.{bytes_eq}
use Rattle.acpi_regs.specs.declared.actor.Actor.{Actor}
use Rattle.acpi_regs.specs.declared.actor.Actor.TheVariants as actor
use Rattle.acpi_regs.specs.declared.event.Event.{Event}
use Rattle.acpi_regs.specs.declared.event.Event.TheVariants as event
use Rattle.acpi_regs.specs.declared.event.Fixed.TheVariants as fixed
use Rattle.acpi_regs.specs.declared.name.MethodName.{MethodName}
use Rattle.acpi_regs.specs.declared.name.MethodName.TheVariants as name
use Rattle.acpi_regs.specs.Names.{byte_of, name_in}
use Rattle.machine_reader.specs.declared.names.ListedName.{ListedName}
use Rattle.machine_reader.specs.declared.names.QueryCode.{QueryCode}

-- `gxx`, the GPE of two hexadecimal digits
abbrev pub gpe_named : List ℕ → Option Event
gpe_named (g ∷ high ∷ low ∷ []) = if g == 103 then option_map event.Gpe (byte_of high low) else None
gpe_named _ = None

-- an event: a fixed one by its name, a GPE as `gxx`
abbrev pub event_named : List ℕ → Option Event
event_named text =
    if bytes_eq text (codes "tmr") then Some (event.Fixed fixed.Tmr)
    else (if bytes_eq text (codes "gbl") then Some (event.Fixed fixed.Gbl)
    else (if bytes_eq text (codes "pwr") then Some (event.Fixed fixed.Pwr)
    else (if bytes_eq text (codes "slp") then Some (event.Fixed fixed.Slp)
    else (if bytes_eq text (codes "rtc") then Some (event.Fixed fixed.Rtc)
    else gpe_named text))))

-- the event whose handler has this name: `_Lxx` is level-triggered, `_Exx` edge-triggered (ACPI 6.5, section 5.6.4.1)
abbrev pub listed_as : MethodName → Option ListedName
listed_as (name.Level n) = Some (record { event = event.Gpe n; level = true })
listed_as (name.Edge n) = Some (record { event = event.Gpe n; level = false })
listed_as (name.Query q) = None

-- a listed event: by the name of its handler, or a fixed event other than the Global Lock's
abbrev pub listed_named : List ℕ → Option ListedName
listed_named text =
    if bytes_eq text (codes "tmr") then Some (record { event = event.Fixed fixed.Tmr; level = false })
    else (if bytes_eq text (codes "pwr") then Some (record { event = event.Fixed fixed.Pwr; level = false })
    else (if bytes_eq text (codes "slp") then Some (record { event = event.Fixed fixed.Slp; level = false })
    else (if bytes_eq text (codes "rtc") then Some (record { event = event.Fixed fixed.Rtc; level = false })
    else option_and_then listed_as (name_in text))))

-- the code of a query, whose handler is `_Qxx`; none has code 0
abbrev pub code_of : MethodName → Option QueryCode
code_of (name.Level n) = None
code_of (name.Edge n) = None
code_of (name.Query q) = Some (record { code = q })

abbrev pub query_named : List ℕ → Option QueryCode
query_named text = option_and_then code_of (name_in text)

-- a decimal digit below a limit
abbrev pub digit_below : (limit c : ℕ) → Option ℕ
digit_below limit c = if nat_le 48 c && nat_lt c (48 + limit) then Some (c - 48) else None

-- `w0` to `w3`, `d0` to `d7`, `f0` to `f7`
abbrev pub numbered_actor : List ℕ → Option Actor
numbered_actor (letter ∷ digit ∷ []) =
    if letter == 119 then option_map actor.Worker (digit_below 4 digit)
    else (if letter == 100 then option_map actor.Device (digit_below 8 digit)
    else (if letter == 102 then option_map actor.Firmware (digit_below 8 digit)
    else None))
numbered_actor _ = None

-- an actor
abbrev pub actor_named : List ℕ → Option Actor
actor_named text =
    if bytes_eq text (codes "int") then Some actor.Int
    else (if bytes_eq text (codes "poll") then Some actor.Poll
    else (if bytes_eq text (codes "ec") then Some actor.Ec
    else numbered_actor text))
