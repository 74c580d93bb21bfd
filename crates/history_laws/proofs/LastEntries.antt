-- The last entry that touches a piece of state decides it.
use Rattle.std.proofs.Common.{ℕ, ◌<◌, ◌≤◌, ◌≡◌, ◌⊎◌, inl, inr, Bool, true, false, ◌&&◌, List, [], ◌∷◌, ◌++◌, length, reverse, Option, Some, None, unwrap_or, if◌then◌else◌, refl, sym, ap, ◌∙◌, subst, arith}
use Rattle.std.proofs.Math.Seq.{take-append_seam}
use Rattle.std.proofs.lemmas.List.{reverse-reverse, take-append-le}
use Rattle.std.proofs.lemmas.Option.{slice_get_within}
use Rattle.acpi_regs.specs.declared.actor.Actor.{Actor}
use Rattle.acpi_regs.specs.declared.actor.Actor.TheVariants as actor
use Rattle.acpi_regs.specs.declared.actor.Side.{Side}
use Rattle.acpi_regs.specs.declared.actor.Side.TheVariants as side
use Rattle.acpi_regs.specs.declared.entry.Cell.{Cell}
use Rattle.acpi_regs.specs.declared.entry.Deed.{Deed}
use Rattle.acpi_regs.specs.declared.entry.Deed.TheVariants as deed
use Rattle.acpi_regs.specs.declared.entry.Effect.{Effect}
use Rattle.acpi_regs.specs.declared.entry.Effect.TheVariants as effect
use Rattle.acpi_regs.specs.declared.entry.Entry.{Entry}
use Rattle.acpi_regs.specs.declared.entry.Request.{Request}
use Rattle.acpi_regs.specs.declared.entry.Request.TheVariants as request
use Rattle.acpi_regs.specs.declared.event.Event.{Event}
use Rattle.acpi_regs.specs.Actor.{same_actor, stands_on}
use Rattle.acpi_regs.specs.Event.{gbl, is_gbl, same_event}
use Rattle.acpi_regs.specs.History.{past_of}
use Rattle.acpi_regs.specs.Lock.{busy_after, disowned_after, gbl_after, gbl_status, has_disowned, has_owned, is_busy, owned_after, owner, owner_after, seeker, seeker_after, wake, wake_after}
use Rattle.ec_driver.specs.declared.wire.Move.TheVariants as move
use Rattle.ec_driver.specs.Wire.{burst_by}
use Rattle.event_chip.specs.declared.state.EventState.{EventState}
use Rattle.event_chip.specs.declared.state.Slot.{Slot}
use Rattle.event_chip.specs.declared.state.Touch.{Touch}
use Rattle.event_chip.specs.declared.state.Touch.TheVariants as touch
use Rattle.event_chip.specs.Chip as chip
use Rattle.event_chip.specs.State.{is_level, is_listed}
use Rattle.machine_desc.specs.Kept.{IsMachine, own_event}
use Rattle.machine_desc.specs.Machine.{MachineData}
use Rattle.machine_history.specs.declared.parts.Access.{Access}
use Rattle.machine_history.specs.declared.parts.Job.{Job}
use Rattle.machine_history.specs.declared.parts.Touched.{Touched}
use Rattle.machine_history.specs.Cells.{first_byte}
use Rattle.machine_history.specs.Events.{does, does_to, held, is_loud, line, slot, slot_after, status, touch_of, touched}
use Rattle.machine_history.specs.Jobs.{event_ended, jobs, running, running_after}
use Rattle.machine_history.specs.Last.{IsLast, SetsAt, burst_done, burst_open, burst_set, disowned_set, done_to, due_set, gbl_set, held_by, held_set, line_set, opener_in, opener_set, owned_set, busy_set, owner_set, running_set, seeker_set, status_by, status_set, told, value_set, wake_set, where_true, write_to}
use Rattle.machine_history.specs.Machine.{is_own, names}
use Rattle.machine_history.specs.Values.{access_of, same_cell, value, value_after}
use Rattle.machine_history.specs.Wire.{Open, burst, burst_after, burst_in, codes, due, due_after, moved, open_after, open_of, put_out}
use Rattle.machine_history.proofs.Claims.{starts_fresh}
use Rattle.machine_history.proofs.Known.{some-injective}
use Rattle.machine_history.proofs.Places.{reverse-cons, slice_get-append_left, slice_get-push, slice_get-seam}
use Rattle.machine_history.proofs.Machines.{own_not_gbl}
use Rattle.machine_history.proofs.Queries.{next_status, slot_kind, status_next}

-- ---- the sentence, once for all

-- what stands before a place stays when the history grows
pub past-push : (history : List Entry) (e : Entry) (i : ℕ) → i ≤ length history → past_of (history ++ e ∷ []) i ≡ past_of history i
past-push history e i within = ap reverse (take-append-le i history (e ∷ []) within)

pub past-seam : (past : List Entry) (e : Entry) → past_of (reverse past ++ e ∷ []) (length (reverse past)) ≡ past
past-seam past e = ap reverse (take-append_seam (reverse past) (e ∷ [])) ∙ reverse-reverse past

-- one entry more
pub at_push : {X : Type 0} (sets : List Entry → Entry → Option X) (past : List Entry) (e : Entry) (i : ℕ) (v : X) → SetsAt sets (reverse past) i v → SetsAt sets (reverse past ++ e ∷ []) i v
at_push sets past e i v at =
    let within : i < length (reverse past) = slice_get_within (reverse past) i at.0 at.1 in
    (at.0, slice_get-append_left (reverse past) (e ∷ []) i at.0 at.1, ap (λ p. sets p at.0) (past-push (reverse past) e i (omega arith)) ∙ at.2)

pub at_seam : {X : Type 0} (sets : List Entry → Entry → Option X) (past : List Entry) (e : Entry) (v : X) → sets past e ≡ Some v → SetsAt sets (reverse past ++ e ∷ []) (length (reverse past)) v
at_seam sets past e v is = (e, slice_get-seam (reverse past) e, ap (λ p. sets p e) (past-seam past e) ∙ is)

pub from_push : {X : Type 0} (sets : List Entry → Entry → Option X) (past : List Entry) (e : Entry) (i : ℕ) (v : X) → SetsAt sets (reverse past ++ e ∷ []) i v
    → ((i < length (reverse past)) × SetsAt sets (reverse past) i v) ⊎ ((i ≡ length (reverse past)) × (sets past e ≡ Some v))
from_push sets past e i v at =
    elim (slice_get-push (reverse past) e i at.0 at.1) [
      | inl left ↦ inl (left.0, (at.0, left.1, (let within : i < length (reverse past) = left.0 in ap (λ p. sets p at.0) (sym (past-push (reverse past) e i (omega arith)))) ∙ at.2))
      | inr last ↦ inr (last.0, ap (sets past) last.1 ∙ (ap (λ p. sets p at.0) (sym (ap (past_of (reverse past ++ e ∷ [])) last.0 ∙ past-seam past e)) ∙ at.2))
    ]

pub grown : {X : Type 0} (sets : List Entry → Entry → Option X) (first : X) (past : List Entry) (e : Entry) (old : X) → IsLast sets first (reverse past) old → (o : Option X) → sets past e ≡ o → IsLast sets first (reverse past ++ e ∷ []) (unwrap_or o old)
grown {X} sets first past e old before None none = record {
  set = λ i v last. elim (from_push sets past e i v last.0) [
    | inl left ↦ before.set i v (left.1, λ j w behind at. last.1 j w behind (at_push sets past e j w at))
    | inr here ↦ absurd (none_some v (sym none ∙ here.1))
  ];
  never = λ never. before.never (λ i v at. never i v (at_push sets past e i v at));
  either = elim before.either [
    | inl found ↦ inl (
      found.0,
      found.1,
      (
        at_push sets past e found.0 found.1 found.2.0,
        λ j w behind at. elim (from_push sets past e j w at) [
          | inl left ↦ found.2.1 j w behind left.1
          | inr here ↦ none_some w (sym none ∙ here.1)
        ],
      ),
    )
    | inr never ↦ inr (λ i v at. elim (from_push sets past e i v at) [
      | inl left ↦ never i v left.1
      | inr here ↦ none_some v (sym none ∙ here.1)
    ])
  ];
}
  where
    none_some : (v : X) → None ≡ Some v → ⊥
    none_some v is = cc
grown sets first past e old before (Some x) is = record {
  set = λ i v last. elim (from_push sets past e i v last.0) [
    | inl left ↦ absurd (last.1 (length (reverse past)) x left.0 (at_seam sets past e x is))
    | inr here ↦ some-injective x v (sym is ∙ here.1)
  ];
  never = λ never. absurd (never (length (reverse past)) x (at_seam sets past e x is));
  either = inl (
    length (reverse past),
    x,
    (
      at_seam sets past e x is,
      λ j w behind at. elim (from_push sets past e j w at) [
        | inl left ↦ (let less : j < length (reverse past) = left.0 in absurd (omega arith))
        | inr here ↦ (let same : j ≡ length (reverse past) = here.0 in absurd (omega arith))
      ],
    ),
  );
}

-- Where each entry leaves what it makes of the state, and else the state as it was, the last such entry decides.
pub last_entry : {X : Type 0} (sets : List Entry → Entry → Option X) (state : List Entry → X) → ((past : List Entry) (e : Entry) → state (e ∷ past) ≡ unwrap_or (sets past e) (state past)) → (history : List Entry) → IsLast sets (state []) history (state (reverse history))
last_entry {X} sets state step history = subst (λ h. IsLast sets (state []) h (state (reverse history))) (reverse-reverse history) (of_past (reverse history))
  where
    first : IsLast sets (state []) [] (state [])
    first = record {
      set = λ i v last. absurd (nothing i v last.0);
      never = λ never. refl;
      either = inr nothing;
    } where
      nothing : (i : ℕ) (v : X) → SetsAt sets [] i v → ⊥
      nothing i v at = let found = at.1 in cc

    of_past : (past : List Entry) → IsLast sets (state []) (reverse past) (state past)
    of_past [] = first
    of_past (e ∷ past) =
        subst (λ h. IsLast sets (state []) h (state (e ∷ past))) (sym (reverse-cons e past))
        (subst (IsLast sets (state []) (reverse past ++ e ∷ [])) (sym (step past e)) (grown sets (state []) past e (state past) (of_past past) (sets past e) refl))

-- ---- states by actor and deed alone

pub if_wanted : {X : Type 0} (b : Bool) (x old : X) → (if b then x else old) ≡ unwrap_or (where_true b x) old
if_wanted true x old = refl
if_wanted false x old = refl

pub owner_step : (a : Actor) (d : Deed) (old : Option Actor) → owner_after a d old ≡ unwrap_or (owner_set a d) old
owner_step a deed.Own old = refl
owner_step a deed.Disown old = refl
owner_step a _ old = refl

pub owner_last : (history : List Entry) → IsLast (told owner_set) None history (owner (reverse history))
owner_last history = last_entry (told owner_set) owner (λ past e. owner_step e.actor e.deed (owner past)) history

pub seeker_step : (s : Side) (a : Actor) (d : Deed) (old : Option Actor) → seeker_after s a d old ≡ unwrap_or (seeker_set s a d) old
seeker_step s a deed.Seek old = if_wanted (stands_on s a) (Some a) old
seeker_step s a (deed.Leave x) old = if_wanted (stands_on s a) None old
seeker_step s a _ old = refl

pub seeker_last : (s : Side) (history : List Entry) → IsLast (told (seeker_set s)) None history (seeker s (reverse history))
seeker_last s history = last_entry (told (seeker_set s)) (seeker s) (λ past e. seeker_step s e.actor e.deed (seeker s past)) history

-- a word on an actor's own entries
pub kept_if : {X : Type 0} (b : Bool) (x : X) → (if b then x else x) ≡ x
kept_if true x = refl
kept_if false x = refl

pub owned_step : (a b : Actor) (d : Deed) (old : Bool) → (if same_actor a b then owned_after d old else old) ≡ unwrap_or (owned_set a b d) old
owned_step a b deed.Seek old = if_wanted (same_actor a b) false old
owned_step a b deed.Own old = if_wanted (same_actor a b) true old
owned_step a b _ old = kept_if (same_actor a b) old

pub owned_last : (a : Actor) (history : List Entry) → IsLast (told (owned_set a)) false history (has_owned a (reverse history))
owned_last a history = last_entry (told (owned_set a)) (has_owned a) (λ past e. owned_step a e.actor e.deed (has_owned a past)) history

pub disowned_step : (a b : Actor) (d : Deed) (old : Bool) → (if same_actor a b then disowned_after d old else old) ≡ unwrap_or (disowned_set a b d) old
disowned_step a b deed.Seek old = if_wanted (same_actor a b) false old
disowned_step a b deed.Disown old = if_wanted (same_actor a b) true old
disowned_step a b _ old = kept_if (same_actor a b) old

pub disowned_last : (a : Actor) (history : List Entry) → IsLast (told (disowned_set a)) false history (has_disowned a (reverse history))
disowned_last a history = last_entry (told (disowned_set a)) (has_disowned a) (λ past e. disowned_step a e.actor e.deed (has_disowned a past)) history

pub busy_step : (a b : Actor) (d : Deed) (old : Bool) → (if same_actor a b then busy_after d old else old) ≡ unwrap_or (busy_set a b d) old
busy_step a b deed.Seek old = if_wanted (same_actor a b) false old
busy_step a b deed.Woken old = if_wanted (same_actor a b) false old
busy_step a b deed.Busy old = if_wanted (same_actor a b) true old
busy_step a b _ old = kept_if (same_actor a b) old

pub busy_last : (a : Actor) (history : List Entry) → IsLast (told (busy_set a)) false history (is_busy a (reverse history))
busy_last a history = last_entry (told (busy_set a)) (is_busy a) (λ past e. busy_step a e.actor e.deed (is_busy a past)) history

pub wake_step : (s : Side) (a : Actor) (d : Deed) (old : Bool) → wake_after s a d old ≡ unwrap_or (wake_set s a d) old
wake_step s a deed.Woken old = if_wanted (stands_on s a) false old
wake_step side.Os a (deed.Claim n) old = if_wanted (is_gbl n) true old
wake_step side.Firmware a (deed.Claim n) old = refl
wake_step side.Firmware a (deed.Leave true) old = if_wanted (stands_on side.Os a) true old
wake_step side.Os a (deed.Leave true) old = refl
wake_step side.Os a (deed.Leave false) old = refl
wake_step side.Firmware a (deed.Leave false) old = refl
wake_step side.Os a _ old = refl
wake_step side.Firmware a _ old = refl

pub wake_last : (s : Side) (history : List Entry) → IsLast (told (wake_set s)) false history (wake s (reverse history))
wake_last s history = last_entry (told (wake_set s)) (wake s) (λ past e. wake_step s e.actor e.deed (wake s past)) history

pub gbl_step : (a : Actor) (d : Deed) (old : Bool) → gbl_after a d old ≡ unwrap_or (gbl_set a d) old
gbl_step a (deed.Raise n) old = if_wanted (is_gbl n) true old
gbl_step a (deed.Latch n) old = if_wanted (is_gbl n) true old
gbl_step a (deed.Assert n) old = if_wanted (is_gbl n) true old
gbl_step a (deed.Claim n) old = if_wanted (is_gbl n) false old
gbl_step a (deed.Leave true) old = if_wanted (stands_on side.Firmware a) true old
gbl_step a (deed.Leave false) old = refl
gbl_step a _ old = refl

pub gbl_last : (history : List Entry) → IsLast (told gbl_set) false history (gbl_status (reverse history))
gbl_last history = last_entry (told gbl_set) gbl_status (λ past e. gbl_step e.actor e.deed (gbl_status past)) history

pub running_step : (a b : Actor) (d : Deed) (old : Option ℕ) → (if same_actor a b then running_after d old else old) ≡ unwrap_or (running_set a b d) old
running_step a b (deed.Start j) old = if_wanted (same_actor a b) (Some j) old
running_step a b (deed.Finish j) old = if_wanted (same_actor a b) None old
running_step a b _ old = kept_if (same_actor a b) old

pub running_last : (a : Actor) (history : List Entry) → IsLast (told (running_set a)) None history (running (reverse history) a)
running_last a history = last_entry (told (running_set a)) (λ past. running past a) (λ past e. running_step a e.actor e.deed (running past a)) history

pub due_step : (m : MachineData) (a : Actor) (d : Deed) (old : Bool) → due_after m a d old ≡ unwrap_or (due_set m a d) old
due_step m actor.Int (deed.Claim n) old = if_wanted (names (own_event m) n) true old
due_step m actor.Int (deed.Step h) old = refl
due_step m actor.Int _ old = refl
due_step m actor.Poll d old = refl
due_step m (actor.Worker k) d old = refl
due_step m actor.Ec d old = refl
due_step m (actor.Device k) d old = refl
due_step m (actor.Firmware k) d old = refl

pub due_last : (m : MachineData) (history : List Entry) → IsLast (told (due_set m)) false history (due m (reverse history))
due_last m history = last_entry (told (due_set m)) (due m) (λ past e. due_step m e.actor e.deed (due m past)) history

pub same_opener : (oo : Option Open) → opener_in (moved oo) ≡ opener_in oo
same_opener None = refl
same_opener (Some o) = refl

pub put_opener : (v : ℕ) (oo : Option Open) → opener_in (put_out v oo) ≡ opener_in oo
put_opener v None = refl
put_opener v (Some o) = refl

pub opener_step : (a : Actor) (d : Deed) (oo : Option Open) → opener_in (open_after a d oo) ≡ unwrap_or (opener_set a d) (opener_in oo)
opener_step a (deed.Begin r) oo = refl
opener_step a (deed.Take v) oo = refl
opener_step a (deed.Step h) oo = same_opener oo
opener_step a (deed.Ctl effect.Taken) oo = same_opener oo
opener_step a (deed.Ctl effect.Put) oo = same_opener oo
opener_step a (deed.Ctl effect.Calm) oo = refl
opener_step a (deed.Ctl (effect.Out v)) oo = put_opener v oo
opener_step a _ oo = refl

pub opener_last : (history : List Entry) → IsLast (told opener_set) None history (opener_in (open_of (reverse history)))
opener_last history = last_entry (told opener_set) (λ past. opener_in (open_of past)) (λ past e. opener_step e.actor e.deed (open_of past)) history

pub burst_asks : (r : Request) (e : Effect) (old : Bool) → burst_by r (move.Ctl e) old ≡ unwrap_or (burst_open (Some (record { by = actor.Int; asks = r; made = 0; out = None })) e) old
burst_asks request.Be (effect.Out v) old = refl
burst_asks request.Be effect.Taken old = refl
burst_asks request.Be effect.Put old = refl
burst_asks request.Be effect.Calm old = refl
burst_asks request.Bd (effect.Out v) old = refl
burst_asks request.Bd effect.Taken old = refl
burst_asks request.Bd effect.Put old = refl
burst_asks request.Bd effect.Calm old = refl
burst_asks (request.Rd x) e old = refl
burst_asks (request.Wr x v) e old = refl
burst_asks request.Qr e old = refl

pub burst_opened : (o : Option Open) (e : Effect) (old : Bool) → burst_in o e old ≡ unwrap_or (burst_open o e) old
burst_opened None e old = refl
burst_opened (Some o) e old = burst_asks o.asks e old

pub burst_step : (o : Option Open) (d : Deed) (old : Bool) → burst_after o d old ≡ unwrap_or (burst_done o d) old
burst_step o (deed.Ctl effect.Calm) old = refl
burst_step o (deed.Ctl effect.Taken) old = burst_opened o effect.Taken old
burst_step o (deed.Ctl effect.Put) old = burst_opened o effect.Put old
burst_step o (deed.Ctl (effect.Out v)) old = burst_opened o (effect.Out v) old
burst_step o _ old = refl

pub burst_last : (history : List Entry) → IsLast burst_set false history (burst (reverse history))
burst_last history = last_entry burst_set burst (λ past e. burst_step (open_of past) e.deed (burst past)) history

-- ---- cells

pub value_step : (c : Cell) (o : Option Access) (old : ℕ) → value_after c o old ≡ unwrap_or (write_to c o) old
value_step c None old = refl
value_step c (Some a) old = if_wanted (a.writes && same_cell a.cell c) a.byte old

pub value_last : (m : MachineData) (c : Cell) (history : List Entry) → IsLast (value_set m c) (first_byte m c) history (value m (reverse history) c)
value_last m c history = last_entry (value_set m c) (λ past. value m past c) (λ past e. value_step c (access_of m past e) (value m past c)) history

-- ---- events

-- a property of a state that each touch leaves, or sets
pub slot_state : {X : Type 0} (f : Slot → X) (g : Slot → Option Touch → Option X) → ((s : Slot) → g s None ≡ None) → ((t : Touch) (s : Slot) → f (chip.touched t s) ≡ unwrap_or (g s (Some t)) (f s))
    → (n : Event) (o : Option Touched) (s : Slot) → f (slot_after n o s) ≡ unwrap_or (g s (done_to n o)) (f s)
slot_state f g none each n None s = ap (λ o. unwrap_or o (f s)) (sym (none s))
slot_state f g none each n (Some t) s = at (same_event t.event n)
  where
    at : (b : Bool) → f (if b then chip.touched t.by s else s) ≡ unwrap_or (g s (where_true b t.by)) (f s)
    at true = each t.by s
    at false = ap (λ o. unwrap_or o (f s)) (sym (none s))

abbrev pub line_by : Option Touch → Option Bool
line_by (Some touch.Assert) = Some true
line_by (Some touch.Drop) = Some false
line_by _ = None

pub line_touch : (t : Touch) (s : Slot) → (chip.touched t s).state.line ≡ unwrap_or (line_by (Some t)) s.state.line
line_touch touch.Assert s = refl
line_touch touch.Drop s = refl
line_touch _ s = refl

pub line_if : (b c : Bool) (t : Touch) → line_by (Some t) ≡ Some c → line_by (where_true b t) ≡ where_true b c
line_if true c t is = is
line_if false c t is = refl

pub line_other : (b : Bool) (t : Touch) → line_by (Some t) ≡ None → line_by (where_true b t) ≡ None
line_other true t is = is
line_other false t is = refl

pub line_to : (n : Event) (t : Touch) (o : Option Event) → line_by (Some t) ≡ None → line_by (done_to n (does_to t o)) ≡ None
line_to n t None is = refl
line_to n t (Some x) is = line_other (same_event x n) t is

pub line_where : (n : Event) (b : Bool) (o : Option Touched) → line_by (done_to n o) ≡ None → line_by (done_to n (if b then o else None)) ≡ None
line_where n true o is = is
line_where n false o is = refl

pub line_done : (m : MachineData) (o : Option Open) (queue : List ℕ) (made : List Job) (n : Event) (a : Actor) (d : Deed) → line_by (done_to n (touch_of m o queue made a d)) ≡ line_set n a d
line_done m o queue made n a (deed.Assert x) = line_if (same_event x n) true touch.Assert refl
line_done m o queue made n a (deed.Drop x) = line_if (same_event x n) false touch.Drop refl
line_done m o queue made n a (deed.Raise x) = line_other (same_event x n) touch.Raise refl
line_done m o queue made n a (deed.Latch x) = line_other (same_event x n) touch.Raise refl
line_done m o queue made n a (deed.Claim x) = line_other (same_event x n) touch.Claim refl
line_done m o queue made n a (deed.Up x) = line_other (same_event x n) touch.Up refl
line_done m o queue made n a (deed.Down x) = line_other (same_event x n) touch.Down refl
line_done m o queue made n a (deed.Finish j) = line_to n touch.Finish (event_ended made j) refl
line_done m o queue made n a (deed.Leave true) = line_where n (stands_on side.Firmware a) (does touch.Raise gbl) (line_other (same_event gbl n) touch.Raise refl)
line_done m o queue made n a (deed.Leave false) = refl
line_done m o queue made n a (deed.Push q) = line_to n touch.Raise (own_event m) refl
line_done m o queue made n a (deed.Ctl e) = line_where n (is_loud m o queue e) (does_to touch.Raise (own_event m)) (line_to n touch.Raise (own_event m) refl)
line_done m o queue made n a _ = refl

pub line_step : (m : MachineData) (n : Event) (past : List Entry) (e : Entry) → line m (e ∷ past) n ≡ unwrap_or (line_set n e.actor e.deed) (line m past n)
line_step m n past e =
    slot_state (λ s. s.state.line) (λ s o. line_by o) (λ s. refl) line_touch n (touched m past e) (slot m past n)
    ∙ ap (λ o. unwrap_or o (line m past n)) (line_done m (open_of past) (codes past) (jobs m past) n e.actor e.deed)

pub line_last : (m : MachineData) (n : Event) (history : List Entry) → IsLast (told (line_set n)) false history (line m (reverse history) n)
line_last m n history =
    let first : line m [] n ≡ false = ap (λ (s : EventState). s.line) (starts_fresh m n).1 in
    subst (λ b. IsLast (told (line_set n)) b history (line m (reverse history) n)) first (last_entry (told (line_set n)) (λ past. line m past n) (line_step m n) history)

pub held_touch : (t : Touch) (s : Slot) → (chip.touched t s).state.held ≡ unwrap_or (held_by (is_listed s.kind) (Some t)) s.state.held
held_touch touch.Claim s = refl
held_touch touch.Finish s = refl
held_touch _ s = refl

pub held_step : (m : MachineData) (n : Event) (past : List Entry) (e : Entry) → held m (e ∷ past) n ≡ unwrap_or (held_set m n past e) (held m past n)
held_step m n past e =
    slot_state (λ s. s.state.held) (λ s o. held_by (is_listed s.kind) o) (λ s. refl) held_touch n (touched m past e) (slot m past n)
    ∙ ap (λ k. unwrap_or (held_by (is_listed k) (done_to n (touched m past e))) (held m past n)) (slot_kind m past n)

pub held_last : (m : MachineData) (n : Event) (history : List Entry) → IsLast (held_set m n) false history (held m (reverse history) n)
held_last m n history =
    let first : held m [] n ≡ false = ap (λ (s : EventState). s.held) (starts_fresh m n).1 in
    subst (λ b. IsLast (held_set m n) b history (held m (reverse history) n)) first (last_entry (held_set m n) (λ past. held m past n) (held_step m n) history)

pub claim_status : (level old on : Bool) → (level && old) ≡ unwrap_or (status_by level on (Some touch.Claim)) old
claim_status true old on = refl
claim_status false old on = refl

pub finish_status : (level old on : Bool) → (if level then on else old) ≡ unwrap_or (status_by level on (Some touch.Finish)) old
finish_status true old on = refl
finish_status false old on = refl

pub status_touch : (t : Touch) (s : Slot) → (chip.touched t s).state.status ≡ unwrap_or (status_by (is_level s.kind) s.state.line (Some t)) s.state.status
status_touch touch.Raise s = refl
status_touch touch.Assert s = refl
status_touch touch.Drop s = refl
status_touch touch.Claim s = claim_status (is_level s.kind) s.state.status s.state.line
status_touch touch.Finish s = finish_status (is_level s.kind) s.state.status s.state.line
status_touch touch.Up s = refl
status_touch touch.Down s = refl

pub status_step : (m : MachineData) (n : Event) (past : List Entry) (e : Entry) → status m (e ∷ past) n ≡ unwrap_or (status_set m n past e) (status m past n)
status_step m n past e =
    slot_state (λ s. s.state.status) (λ s o. status_by (is_level s.kind) s.state.line o) (λ s. refl) status_touch n (touched m past e) (slot m past n)
    ∙ ap (λ k. unwrap_or (status_by (is_level k) (line m past n) (done_to n (touched m past e))) (status m past n)) (slot_kind m past n)

pub status_last : (m : MachineData) (n : Event) (history : List Entry) → IsLast (status_set m n) false history (status m (reverse history) n)
status_last m n history =
    let first : status m [] n ≡ false = ap (λ (s : EventState). s.status) (starts_fresh m n).1 in
    subst (λ b. IsLast (status_set m n) b history (status m (reverse history) n)) first (last_entry (status_set m n) (λ past. status m past n) (status_step m n) history)

-- ---- the Global Lock's event

pub gbl_to : (o : Option Event) → names o gbl ≡ false → (old : Bool) → next_status gbl (does_to touch.Raise o) old ≡ old
gbl_to None free old = refl
gbl_to (Some x) free old = rw free refl

pub gbl_where : (b : Bool) (o : Option Touched) (old : Bool) → next_status gbl o old ≡ old → next_status gbl (if b then o else None) old ≡ old
gbl_where true o old is = is
gbl_where false o old is = refl

pub gbl_finish : (o : Option Event) (old : Bool) → next_status gbl (does_to touch.Finish o) old ≡ old
gbl_finish None old = refl
gbl_finish (Some x) old = kept_if (same_event x gbl) old

pub gbl_leave : (b old : Bool) → next_status gbl (if b then does touch.Raise gbl else None) old ≡ (if b then true else old)
gbl_leave true old = refl
gbl_leave false old = refl

pub gbl_touch : (m : MachineData) (o : Option Open) (queue : List ℕ) (made : List Job) (a : Actor) (d : Deed) (old : Bool) → is_own m gbl ≡ false → next_status gbl (touch_of m o queue made a d) old ≡ gbl_after a d old
gbl_touch m o queue made a (deed.Raise x) old free = refl
gbl_touch m o queue made a (deed.Latch x) old free = refl
gbl_touch m o queue made a (deed.Assert x) old free = refl
gbl_touch m o queue made a (deed.Claim x) old free = refl
gbl_touch m o queue made a (deed.Drop x) old free = kept_if (same_event x gbl) old
gbl_touch m o queue made a (deed.Up x) old free = kept_if (same_event x gbl) old
gbl_touch m o queue made a (deed.Down x) old free = kept_if (same_event x gbl) old
gbl_touch m o queue made a (deed.Finish j) old free = gbl_finish (event_ended made j) old
gbl_touch m o queue made a (deed.Leave true) old free = gbl_leave (stands_on side.Firmware a) old
gbl_touch m o queue made a (deed.Leave false) old free = refl
gbl_touch m o queue made a (deed.Push q) old free = gbl_to (own_event m) free old
gbl_touch m o queue made a (deed.Ctl e) old free = gbl_where (is_loud m o queue e) (does_to touch.Raise (own_event m)) old (gbl_to (own_event m) free old)
gbl_touch m o queue made a _ old free = refl

pub gbl_past : (m : MachineData) → is_own m gbl ≡ false → (past : List Entry) → status m past gbl ≡ gbl_status past
gbl_past m free [] = ap (λ (s : EventState). s.status) (starts_fresh m gbl).1
gbl_past m free (e ∷ past) =
    status_next gbl (touched m past e) (slot m past gbl) (ap is_level (slot_kind m past gbl))
    ∙ (gbl_touch m (open_of past) (codes past) (jobs m past) e.actor e.deed (status m past gbl) free ∙ ap (gbl_after e.actor e.deed) (gbl_past m free past))

-- what the lock's own definitions tell of the event is its status
pub gbl_is_status : (m : MachineData) (history : List Entry) → IsMachine m → gbl_status (reverse history) ≡ status m (reverse history) gbl
gbl_is_status m history ok = sym (gbl_past m (own_not_gbl m ok) (reverse history))
