-- What may happen to the core that actors share, one atomic step of one actor at a time, and the core after each step.
-- A step is a load, an exchange or a release of the lock's word (ACPI 6.5, section 5.2.10.1), a pulse, a collect of a
-- pin word, or a turn, which adds entries. The crates above say which entries are legal.
use Rattle.std.specs.Prelude.{ℕ, ◌≡◌, ◌≤◌, ◌+◌, ◌<◌, ◌==◌, ◌&&◌, ◌||◌, not, Bool, true, false, List, [], ◌∷◌, ◌++◌, length, map, reverse, Option, Some, None, slice_get, unwrap_or, if◌then◌else◌}
use Rattle.acpi_regs.specs.declared.actor.Actor.{Actor}
use Rattle.acpi_regs.specs.declared.actor.Actor.TheVariants as actor
use Rattle.acpi_regs.specs.declared.actor.Side.{Side}
use Rattle.acpi_regs.specs.declared.entry.Deed.{Deed}
use Rattle.acpi_regs.specs.declared.entry.Deed.TheVariants as deed
use Rattle.acpi_regs.specs.declared.entry.Entry.{Entry}
use Rattle.acpi_regs.specs.declared.event.Event.{Event}
use Rattle.acpi_regs.specs.declared.phase.LockPhase.{LockPhase}
use Rattle.acpi_regs.specs.declared.phase.LockPhase.TheVariants as phase
use Rattle.acpi_regs.specs.declared.phase.Pulse.{Pulse}
use Rattle.acpi_regs.specs.Actor.{same_actor, stands_on}
use Rattle.acpi_regs.specs.Core.{Core, all_events, events_of}
use Rattle.acpi_regs.specs.Event.{event_rank, same_event, word_of}
use Rattle.acpi_regs.specs.Lock.{seeker}
use Rattle.acpi_regs.specs.Phases.{Free, Holding, Lock, Phase, Pulsed, allows, is_lock_deed, moved, put}
use Rattle.facs_word.specs.Word.{acquired, is_owned, is_pending, released}

pub data CoreEvent : Type 0 where
  Load : Actor → CoreEvent
  Exchange : Actor → CoreEvent
  Release : Actor → CoreEvent
  Pulses : ℕ → CoreEvent
  Collect : Actor → ℕ → CoreEvent
  Turn : Actor → List Deed → CoreEvent

abbrev pub entry : Actor → Deed → Entry
entry a d = record { actor = a; deed = d }

abbrev pub one : Bool → ℕ
one b = if b then 1 else 0

-- the history, the newest entry first
abbrev pub past_in : Core → List Entry
past_in c = reverse c.history

-- the phase after an exchange that found the loaded word
abbrev pub tried : ℕ → LockPhase
tried word = if is_owned word then phase.Marked else phase.Won

-- ---- phases

-- the word that the actor has loaded
abbrev pub loaded : Phase → Option ℕ
loaded (Lock (phase.Seeking l)) = l
loaded _ = None

abbrev pub is_holding : Phase → Bool
is_holding (Holding words hand) = true
is_holding _ = false

-- the pin words that were collected, and the events in hand
abbrev pub has_collected : Phase → ℕ → Bool
has_collected (Holding words hand) w = words w
has_collected _ w = false

abbrev pub in_hand : Phase → Event → Bool
in_hand (Holding words hand) n = hand n
in_hand _ n = false

-- a device's pulses, the oldest first
abbrev pub pulses_in : Phase → List Pulse
pulses_in (Pulsed ps) = ps
pulses_in _ = []

-- the phase after an entry of its actor
abbrev pub moved_in : Deed → Phase → Phase
moved_in d (Lock p) = Lock (moved d p)
moved_in d p = p

-- after these entries, the oldest first
abbrev pub moved_all : List Deed → Phase → Phase
moved_all [] p = p
moved_all (d ∷ deeds) p = moved_all deeds (moved_in d p)

-- int and poll are free after their turn
abbrev pub freed : Phase → Phase
freed (Holding words hand) = Free
freed p = p

-- ---- devices

-- the events that a device pulses, in order
abbrev pub list_of : List (List Event) → ℕ → List Event
list_of lists k = unwrap_or (slice_get lists k) []

-- the next event of a device
abbrev pub next_pulse : List (List Event) → Core → ℕ → Option Event
next_pulse lists c k = slice_get (list_of lists k) (length (pulses_in (c.phases (actor.Device k))))

-- the lists name existing events only
abbrev pub InRange : List (List Event) → Type 0
InRange lists = (k i : ℕ) (n : Event) → slice_get (list_of lists k) i ≡ Some n → event_rank n < all_events

-- ---- a turn

-- int and poll: the OS's side of the hardware
abbrev pub is_host : Actor → Bool
is_host actor.Int = true
is_host actor.Poll = true
is_host _ = false

-- the entries that a phase allows: at most one of the lock's, and all others
abbrev pub may_add : Phase → Deed → Bool
may_add (Lock p) d = allows p d
may_add _ d = not (is_lock_deed d)

-- an entry is no seek, or its side has no seeker
abbrev pub IsUnsought : List Entry → Actor → Deed → Type 0
IsUnsought past a deed.Seek = (s : Side) → stands_on s a ≡ true → seeker s past ≡ None
IsUnsought past a _ = Unit {0}

-- the phase allows each entry, and the side of a seek has no seeker
abbrev pub EachMay : Phase → List Entry → Actor → List Deed → Type 0
EachMay p past a [] = Unit {0}
EachMay p past a (d ∷ deeds) = (may_add p d ≡ true) × IsUnsought past a d × EachMay p past a deeds

-- the number of entries of the lock
abbrev pub lock_deeds : List Deed → ℕ
lock_deeds [] = 0
lock_deeds (d ∷ deeds) = one (is_lock_deed d) + lock_deeds deeds

-- the entry is a latch
abbrev pub is_latch : Deed → Bool
is_latch (deed.Latch n) = true
is_latch _ = false

abbrev pub has_no_latch : List Deed → Bool
has_no_latch [] = true
has_no_latch (d ∷ deeds) = not (is_latch d) && has_no_latch deeds

-- the latches come first, and are the events in hand, in the order in which events are served
abbrev pub LatchesFirst : Phase → List Deed → Type 0
LatchesFirst p deeds =
    (rest : List Deed) × (deeds ≡ map deed.Latch (events_of (in_hand p)) ++ rest) × (has_no_latch rest ≡ true)

-- the entries of a turn, as known at its start: the latches first, and at most one entry of the lock, which the phase
-- allows
pub record IsTurn (p : Phase) (past : List Entry) (a : Actor) (deeds : List Deed) : Type 0 where
  pub latches : LatchesFirst p deeds
  pub few : lock_deeds deeds ≤ 1
  pub each : EachMay p past a deeds

-- ---- what may happen

abbrev pub OthersFree : (Actor → Phase) → Actor → Type 0
OthersFree phases a = (b : Actor) → same_actor a b ≡ false → is_holding (phases b) ≡ false

-- when an event may happen; a collect of a word above 4 finds nothing, because no event has its pin there
abbrev pub MayHappen : List (List Event) → Core → CoreEvent → Type 0
MayHappen lists c (Load a) = (l : Option ℕ) × (c.phases a ≡ Lock (phase.Seeking l))
MayHappen lists c (Exchange a) = (l : ℕ) × (c.phases a ≡ Lock (phase.Seeking (Some l)))
MayHappen lists c (Release a) = c.phases a ≡ Lock phase.Quit
MayHappen lists c (Pulses k) = (n : Event) × (next_pulse lists c k ≡ Some n)
MayHappen lists c (Collect a w) = (is_host a ≡ true) × OthersFree c.phases a × (has_collected (c.phases a) w ≡ false)
MayHappen lists c (Turn a deeds) = OthersFree c.phases a × IsTurn (c.phases a) (past_in c) a deeds

-- an event that it pulses exists
abbrev pub IsKnown : List (List Event) → Core → CoreEvent → Type 0
IsKnown lists c (Pulses k) = (n : Event) → next_pulse lists c k ≡ Some n → event_rank n < all_events
IsKnown lists c _ = Unit {0}

-- ---- the core after it

-- an exchange changes the word if it is still the loaded one, and otherwise the actor forgets what it loaded
abbrev pub exchanged : Core → Actor → Option ℕ → Core
exchanged c a None = c
exchanged c a (Some l) =
    if c.word == l
    then record c { word = acquired l; phases = put a (Lock (tried l)) c.phases }
    else record c { phases = put a (Lock (phase.Seeking None)) c.phases }

-- a pulse sets the pin, and joins those of its device
abbrev pub pulsed : Core → ℕ → Option Event → Core
pulsed c k None = c
pulsed c k (Some n) = record c {
  pins = λ x. c.pins x || same_event x n;
  phases =
      put (actor.Device k)
      (Pulsed (pulses_in (c.phases (actor.Device k)) ++ record { event = n; clear = not (c.pins n) } ∷ []))
      c.phases;
}

-- the pins of a word go to the hand
abbrev pub collected : Core → Actor → ℕ → Core
collected c a w = record c {
  pins = λ n. c.pins n && not (word_of n == w);
  phases =
      put a
      (Holding (λ u. has_collected (c.phases a) u || (u == w))
      (λ n. in_hand (c.phases a) n || (c.pins n && (word_of n == w))))
      c.phases;
}

abbrev pub turned : Core → Actor → List Deed → Core
turned c a deeds = record c {
  history = c.history ++ map (entry a) deeds;
  phases = put a (freed (moved_all deeds (c.phases a))) c.phases;
}

abbrev pub happens : List (List Event) → Core → CoreEvent → Core
happens lists c (Load a) = record c { phases = put a (Lock (phase.Seeking (Some c.word))) c.phases }
happens lists c (Exchange a) = exchanged c a (loaded (c.phases a))
happens lists c (Release a) = record c {
  word = released c.word;
  phases = put a (Lock (phase.Gone (is_pending c.word))) c.phases;
}
happens lists c (Pulses k) = pulsed c k (next_pulse lists c k)
happens lists c (Collect a w) = collected c a w
happens lists c (Turn a deeds) = turned c a deeds
