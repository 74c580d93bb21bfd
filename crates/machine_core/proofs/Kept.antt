-- What the board keeps is what the past says: at the start, and when an allowed entry is appended.
use Rattle.std.proofs.Common.{ℕ, zero, suc, ◌+◌, ◌<◌, ◌≤◌, ◌≡◌, not, Bool, true, false, cond, nat_lt, get_or, List, [], ◌∷◌, ◌++◌, length, map, reverse, slice_get, unwrap_or, Option, Some, None, refl, sym, ◌∙◌, ap, subst, arith, length-append}
use Rattle.std.proofs.lemmas.Bool.{and_parts, ltb-true}
use Rattle.std.proofs.lemmas.List.{reverse-append, length-reverse}
use Rattle.acpi_regs.specs.declared.entry.Entry.{Entry}
use Rattle.acpi_regs.specs.declared.event.Event.{Event}
use Rattle.event_chip.specs.declared.state.Slot.{Slot}
use Rattle.event_chip.specs.declared.state.Touch.{Touch}
use Rattle.event_chip.specs.Chip.{touched}
use Rattle.field_units.specs.Field.{RegionData, is_controller}
use Rattle.machine_desc.specs.Kept.{IsMachine}
use Rattle.machine_desc.specs.Machine.{MachineData}
use Rattle.machine_desc.specs.Weight.{weight_of}
use Rattle.machine_core.specs.declared.actors.Actors.{Actors}
use Rattle.machine_core.specs.declared.events.Events.{Events}
use Rattle.machine_core.specs.declared.jobs.Jobs.{Jobs}
use Rattle.machine_core.specs.declared.lock.LockState.{LockState}
use Rattle.machine_core.specs.Actors.{FitsDeed, IsActors, state_of}
use Rattle.machine_core.specs.Board.{IsKept}
use Rattle.machine_core.specs.Cells.{IsCells, first_bytes, kept_bytes}
use Rattle.machine_core.specs.Events.{IsEvents}
use Rattle.machine_core.specs.Lock.{lock_after, lock_of}
use Rattle.machine_core.specs.Wire.{IsWire, Takes, WireData, wire_after}
use Rattle.machine_core.proofs.Standing.{fits_deed}
use Rattle.machine_core.proofs.Steps.{jobs_step, jobs_within, starts_within}
use Rattle.machine_history.proofs.Whole.{weight_bounds}
use Rattle.machine_core.proofs.WireRows.{wire_needs}
use Rattle.machine_core.proofs.WireSteps.{wire_step, wire_takes}
use Rattle.machine_history.specs.declared.parts.Touched.{Touched}
use Rattle.machine_history.specs.Acts.{is_memory}
use Rattle.machine_history.specs.Cells.{byte_at, cells_in}
use Rattle.machine_history.specs.Events as events
use Rattle.machine_history.specs.Jobs.{and_job, made, starts_after}
use Rattle.machine_history.specs.Legal.{Allowed, Legal, LegalPast}
use Rattle.machine_history.specs.Machine.{kind_of}

-- the newest entry of a history is allowed
pub newest_allowed : (m : MachineData) (entries : List Entry) (e : Entry) → Legal m (entries ++ e ∷ []) → Allowed m (reverse entries) e
newest_allowed m entries e legal = (subst (LegalPast m) (reverse-append entries (e ∷ [])) legal).0

-- there is room for an entry that is allowed
pub room_for : (m : MachineData) (entries : List Entry) (e : Entry) → IsMachine m → Legal m (entries ++ e ∷ []) → length entries < weight_of m
room_for m entries e ok legal =
    let most = weight_bounds m (entries ++ e ∷ []) ok legal in
    let size = length-append entries (e ∷ []) in
    omega arith

-- what the calls of `apply` ask
pub record IsReady (m : MachineData) (entries : List Entry) (e : Entry) (actors : Actors) (jobs_kept : Jobs) (wire : WireData) (room jobs_room : ℕ) : Type 0 where
  pub fits : FitsDeed m (state_of actors.states e.actor).course e.deed
  pub jobs_left : length jobs_kept.made.items < jobs_room
  pub starts_left : jobs_kept.starts + 1 < 2147483648
  pub wire_takes : Takes e.deed wire
  pub room_left : length entries < room

pub ready : (m : MachineData) (entries : List Entry) (e : Entry) (lock : LockState) (events : Events) (actors : Actors) (jobs_kept : Jobs) (wire : WireData) (cells : List (List ℕ)) (room jobs_room : ℕ) → IsMachine m → IsKept m entries lock events actors jobs_kept wire cells room jobs_room → Legal m (entries ++ e ∷ []) → IsReady m entries e actors jobs_kept wire room jobs_room
ready m entries e lock events actors jobs_kept wire cells room jobs_room ok kept legal =
    let past = reverse entries in
    let allowed = newest_allowed m entries e legal in
    let within = room_for m entries e ok legal in
    let size : length past ≡ length entries = length-reverse entries in
    let few = ap length kept.jobs_are.made_are in
    let most = jobs_within m past in
    let started = starts_within past in
    let count = kept.jobs_are.starts_are in
    let small = kept.small in
    let here = kept.room_left in
    let there = kept.jobs_left in
    let wires : length past < wire.chip.room = let w = kept.wire_is.room_left in omega arith in
    record {
      fits = fits_deed m past e.actor e.deed (state_of actors.states e.actor).course kept.legal allowed (kept.actors_are.each e.actor).left_is (kept.actors_are.each e.actor).stands;
      jobs_left = omega arith;
      starts_left = omega arith;
      wire_takes = wire_takes m past e.deed wire kept.wire_is (wire_needs m ok past e.actor e.deed wire allowed wires);
      room_left = omega arith;
    }

pub kept_after : (m : MachineData) (entries : List Entry) (e : Entry) (lock lock' : LockState) (events events' : Events) (actors actors' : Actors) (jobs_kept jobs' : Jobs) (wire wire' : WireData) (cells cells' : List (List ℕ)) (room jobs_room : ℕ)
    → IsMachine m → IsKept m entries lock events actors jobs_kept wire cells room jobs_room → Legal m (entries ++ e ∷ [])
    → lock' ≡ lock_after e.actor e.deed lock
    → IsEvents m (e ∷ reverse entries) events'
    → IsActors m (e ∷ reverse entries) actors'
    → jobs'.made.items ≡ and_job jobs_kept.made.items (made m (reverse entries) e)
    → jobs'.starts ≡ starts_after e.deed jobs_kept.starts
    → wire' ≡ wire_after m e.actor e.deed wire
    → IsCells m (e ∷ reverse entries) cells'
    → IsKept m (entries ++ e ∷ []) lock' events' actors' jobs' wire' cells' room jobs_room
kept_after m entries e lock lock' events events' actors actors' jobs_kept jobs' wire wire' cells cells' room jobs_room ok kept legal lock_is events_are actors_are made_are starts_are wire_is cells_are =
    let past = reverse entries in
    let allowed = newest_allowed m entries e legal in
    let within = room_for m entries e ok legal in
    let size : length past ≡ length entries = length-reverse entries in
    let wires : length past < wire.chip.room = let w = kept.wire_is.room_left in omega arith in
    let newest : e ∷ past ≡ reverse (entries ++ e ∷ []) = sym (reverse-append entries (e ∷ [])) in
    record {
      legal = legal;
      lock_is = subst (λ p. lock' ≡ lock_of p) newest (lock_is ∙ ap (lock_after e.actor e.deed) kept.lock_is);
      events_are = subst (λ p. IsEvents m p events') newest events_are;
      actors_are = subst (λ p. IsActors m p actors') newest actors_are;
      jobs_are = subst (λ p. Rattle.machine_core.specs.Jobs.IsJobs m p jobs') newest (jobs_step m past e.actor e.deed jobs_kept jobs' kept.jobs_are made_are starts_are);
      wire_is = subst (λ p. IsWire m p wire') newest (subst (IsWire m (e ∷ past)) (sym wire_is) (wire_step m past e.actor e.deed wire kept.wire_is (wire_needs m ok past e.actor e.deed wire allowed wires)));
      cells_are = subst (λ p. IsCells m p cells') newest cells_are;
      room_left = kept.room_left;
      jobs_left = kept.jobs_left;
      small = kept.small;
    }

-- the same, where the parts have other names
pub kept_as : (m : MachineData) (entries entries' : List Entry) (lock : LockState) (events : Events) (actors : Actors) (jobs_kept : Jobs) (wire : WireData) (cells : List (List ℕ)) (room room' jobs_room jobs_room' : ℕ) → entries' ≡ entries → room' ≡ room → jobs_room' ≡ jobs_room → IsKept m entries lock events actors jobs_kept wire cells room jobs_room → IsKept m entries' lock events actors jobs_kept wire cells room' jobs_room'
kept_as m entries entries' lock events actors jobs_kept wire cells room room' jobs_room jobs_room' one two three kept = rw (one, two, three) kept

-- ---- at the start

abbrev cells_of : Option RegionData → List ℕ
cells_of None = []
cells_of (Some region) = region.cells

in_memory : (k : Bool) (r : RegionData) → is_controller r.kind ≡ k → not k ≡ true → kept_bytes r ≡ r.cells
in_memory true r is plain = cc
in_memory false r is plain = rw is refl

bytes_are : (regions : List RegionData) (r : ℕ) → is_memory (slice_get regions r) ≡ true → unwrap_or (slice_get (map kept_bytes regions) r) [] ≡ cells_of (slice_get regions r)
bytes_are [] r plain = cc
bytes_are (region ∷ regions) zero plain = in_memory (is_controller region.kind) region refl plain
bytes_are (region ∷ regions) (suc r) plain = bytes_are regions r plain

in_region : (o : Option RegionData) (offset : ℕ) → nat_lt offset (cells_in o) ≡ true → offset < length (cells_of o)
in_region None offset is = ltb-true offset 0 is
in_region (Some region) offset is = ltb-true offset (length region.cells) is

byte_of : (o : Option RegionData) (offset : ℕ) → get_or (cells_of o) offset 0 ≡ byte_at o offset
byte_of None offset = refl
byte_of (Some region) offset = refl

pub first_cells : (m : MachineData) → IsCells m [] (first_bytes m)
first_cells m = record {
  within = λ c plain. let parts = and_parts _ _ plain in rw (bytes_are m.regions c.region parts.0) (in_region (slice_get m.regions c.region) c.offset parts.1);
  are = λ c plain. let parts = and_parts _ _ plain in rw (bytes_are m.regions c.region parts.0) (byte_of (slice_get m.regions c.region) c.offset);
}

pub first_kept : (m : MachineData) (lock : LockState) (events : Events) (actors : Actors) (jobs_kept : Jobs) (wire : WireData) (cells : List (List ℕ)) (room jobs_room : ℕ) → IsMachine m → weight_of m ≤ 1048576
    → lock ≡ lock_of [] → IsEvents m [] events → ((x : MachineData) → IsMachine x → IsActors x [] actors) → jobs_kept.made.items ≡ [] → jobs_kept.starts ≡ 0 → IsWire m [] wire → cells ≡ first_bytes m → weight_of m ≤ room → weight_of m ≤ jobs_room
    → IsKept m [] lock events actors jobs_kept wire cells room jobs_room
first_kept m lock events actors jobs_kept wire cells room jobs_room ok small lock_is events_are actors_are made_are starts_are wire_is cells_is room_left jobs_left = record {
  legal = tt;
  lock_is = lock_is;
  events_are = events_are;
  actors_are = actors_are m ok;
  jobs_are = record { made_are = made_are; starts_are = starts_are };
  wire_is = wire_is;
  cells_are = subst (IsCells m []) (sym cells_is) (first_cells m);
  room_left = room_left;
  jobs_left = jobs_left;
  small = small;
}

-- ---- what a machine knows of an event stays

kind_after : (b : Bool) (t : Touch) (s : Slot) → (cond b (touched t s) s).kind ≡ s.kind
kind_after true t s = refl
kind_after false t s = refl

kind_kept : (n : Event) (t : Option Touched) (s : Slot) → (events.slot_after n t s).kind ≡ s.kind
kind_kept n None s = refl
kind_kept n (Some t) s = kind_after (Rattle.acpi_regs.specs.Event.same_event t.event n) t.by s

pub kind_is : (m : MachineData) (past : List Entry) (n : Event) → (events.slot m past n).kind ≡ kind_of m n
kind_is m [] n = refl
kind_is m (e ∷ past) n = kind_kept n (events.touched m past e) (events.slot m past n) ∙ kind_is m past n
