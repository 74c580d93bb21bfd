-- The registers of one event, and what each touch does to them (ACPI 6.5, sections 4.8.3.1, 4.8.4.1, 5.6.4 and
-- 5.6.4.1).
--
-- A status bit says that the event happened. A level event also has a line: while it is asserted the event is not over.
-- An event is held from its claim to the end of its handler, while an OS masks its source. Sixteen runs in a row that
-- end under an asserted line park the event.
use Rattle.std.specs.Prelude.{ℕ, ◌+◌, ◌-◌, ◌&&◌, ◌||◌, not, Bool, true, false, min, nat_le, nat_lt, List, [], ◌∷◌, if◌then◌else◌}
use Rattle.event_chip.specs.declared.state.EventKind.{EventKind}
use Rattle.event_chip.specs.declared.state.EventKind.TheVariants as kind
use Rattle.event_chip.specs.declared.state.EventState.{EventState}
use Rattle.event_chip.specs.declared.state.Touch.{Touch}
use Rattle.event_chip.specs.declared.state.Touch.TheVariants as touch

abbrev pub is_listed : EventKind → Bool
is_listed kind.Unknown = false
is_listed kind.Edge = true
is_listed kind.Level = true
is_listed kind.Always = false

abbrev pub is_level : EventKind → Bool
is_level kind.Unknown = false
is_level kind.Edge = false
is_level kind.Level = true
is_level kind.Always = false

abbrev pub is_always : EventKind → Bool
is_always kind.Unknown = false
is_always kind.Edge = false
is_always kind.Level = false
is_always kind.Always = true

-- an event with this many references, before anything happened
abbrev pub fresh : (count : ℕ) → EventState
fresh count = record { status = false; line = false; held = false; count = count; storm = 0 }

-- ---- the state after a touch

abbrev pub raised : EventState → EventState
raised s = record s { status = true }

abbrev pub asserted : EventState → EventState
asserted s = record s { status = true; line = true; storm = 0 }

abbrev pub dropped : EventState → EventState
dropped s = record s { line = false; storm = 0 }

-- a claim holds a listed event, and clears the status of every event but a level one
abbrev pub claimed : EventKind → EventState → EventState
claimed k s = record s { held = is_listed k; status = is_level k && s.status }

-- after a finish the event is not held; a level status becomes the line, and a run that ends under an asserted line
-- is counted
abbrev pub finished : EventKind → EventState → EventState
finished k s = record s {
  held = false;
  status = if is_level k then s.line else s.status;
  storm = if s.line then min 16 (s.storm + 1) else 0;
}

abbrev pub upped : EventState → EventState
upped s = record s { count = min 255 (s.count + 1) }

abbrev pub downed : EventState → EventState
downed s = record s { count = s.count - 1 }

abbrev pub after : EventKind → Touch → EventState → EventState
after k touch.Raise s = raised s
after k touch.Assert s = asserted s
after k touch.Drop s = dropped s
after k touch.Claim s = claimed k s
after k touch.Finish s = finished k s
after k touch.Up s = upped s
after k touch.Down s = downed s

-- after a list of touches, the first one first
abbrev pub after_all : EventKind → List Touch → EventState → EventState
after_all k [] s = s
after_all k (t ∷ ts) s = after_all k ts (after k t s)

-- ---- enabled

abbrev pub is_parked : EventKind → EventState → Bool
is_parked k s = is_level k && nat_le 16 s.storm

abbrev pub is_enabled : EventKind → EventState → Bool
is_enabled k s = (is_always k || nat_lt 0 s.count) && not s.held && not (is_parked k s)

abbrev pub is_pending : EventKind → EventState → Bool
is_pending k s = s.status && is_enabled k s
