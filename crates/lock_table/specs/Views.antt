-- What a seat of the table knows, and how each of its steps changes that.
--
-- A seat knows the entries that it has seen, and of its actor the phase, the entries that the actor made, how often
-- it tried, what the last try found, and how many pin words it collected.
use Rattle.std.specs.Prelude.{ℕ, zero, suc, ◌≡◌, ◌+◌, ◌==◌, nat_lt, nat_le, Bool, true, false, List, [], ◌∷◌, ◌++◌, length, drop, map, reverse, Option, Some, None, IsSome, slice_get, if◌then◌else◌}
use Rattle.acpi_regs.specs.declared.actor.Actor.{Actor}
use Rattle.acpi_regs.specs.declared.actor.Actor.TheVariants as actor
use Rattle.acpi_regs.specs.declared.entry.Deed.{Deed}
use Rattle.acpi_regs.specs.declared.entry.Entry.{Entry}
use Rattle.acpi_regs.specs.declared.event.Event.{Event}
use Rattle.acpi_regs.specs.declared.phase.LockPhase.{LockPhase}
use Rattle.acpi_regs.specs.declared.phase.LockPhase.TheVariants as lock
use Rattle.acpi_regs.specs.declared.phase.Pulse.{Pulse}
use Rattle.acpi_regs.specs.Actor.{same_actor}
use Rattle.acpi_regs.specs.CoreEvents.{IsTurn, entry, is_holding, is_host, list_of, tried}
use Rattle.acpi_regs.specs.CoreSound.{is_kind}
use Rattle.acpi_regs.specs.History.{entries_of}
use Rattle.acpi_regs.specs.Phases.{Free, Holding, Lock, Phase, Pulsed, moved}
use Rattle.facs_word.specs.Word.{is_pending}
use Rattle.lock_table.specs.declared.view.Occupant.{Occupant}
use Rattle.lock_table.specs.declared.view.Occupant.TheVariants as who
use Rattle.lock_table.specs.declared.view.Part.{Part}
use Rattle.lock_table.specs.declared.view.SeatPhase.{SeatPhase}
use Rattle.lock_table.specs.declared.view.SeatPhase.TheVariants as kept
use Rattle.lock_table.specs.declared.view.Stage.{Stage}
use Rattle.lock_table.specs.declared.view.Stage.TheVariants as stage
use Rattle.lock_table.specs.declared.view.View.{View}
use Rattle.lock_table.specs.Pins.{pins_of}

-- the history begins with these entries
abbrev pub StartsWith : List Entry → List Entry → Type 0
StartsWith history first = (more : List Entry) × (history ≡ first ++ more)

-- ---- phases

-- what the kept phase means: the words of a hand are the first of the five pin words
abbrev pub phase_of : SeatPhase → Phase
phase_of (kept.Lock p) = Lock p
phase_of kept.Free = Free
phase_of (kept.Holding hand) = Holding (λ w. nat_lt w (length hand)) (pins_of hand)
phase_of (kept.Pulsed ps) = Pulsed ps

-- the words in hand, none where nothing was collected yet
abbrev pub hand_of : SeatPhase → List ℕ
hand_of (kept.Holding hand) = hand
hand_of _ = []

abbrev pub pulses_of : SeatPhase → List Pulse
pulses_of (kept.Pulsed ps) = ps
pulses_of _ = []

-- after entries of its actor, the oldest first
abbrev pub after_deed : Deed → SeatPhase → SeatPhase
after_deed d (kept.Lock p) = kept.Lock (moved d p)
after_deed d p = p

abbrev pub after_deeds : List Deed → SeatPhase → SeatPhase
after_deeds [] p = p
after_deeds (d ∷ deeds) p = after_deeds deeds (after_deed d p)

-- int and poll are free after their turn
abbrev pub let_go : SeatPhase → SeatPhase
let_go (kept.Holding hand) = kept.Free
let_go p = p

abbrev pub deeds_of : List Entry → List Deed
deeds_of entries = map (λ (e : Entry). e.deed) entries

-- ---- actors

-- the actors that there are: four workers, eight devices, eight of the firmware
abbrev pub is_known : Actor → Bool
is_known (actor.Worker k) = nat_lt k 4
is_known (actor.Device k) = nat_lt k 8
is_known (actor.Firmware k) = nat_lt k 8
is_known _ = true

abbrev pub first_kept : Actor → SeatPhase
first_kept (actor.Worker k) = kept.Lock lock.Idle
first_kept (actor.Firmware k) = kept.Lock lock.Idle
first_kept (actor.Device k) = kept.Pulsed []
first_kept _ = kept.Free

abbrev pub fresh : Actor → Part
fresh a = record { actor = a; phase = first_kept a; mine = []; tried = 0; found = 0; loaded = []; swept = 0 }

abbrev pub each_below : (ℕ → Part) → ℕ → List Part → List Part
each_below f zero rest = rest
each_below f (suc k) rest = each_below f k (f k ∷ rest)

abbrev pub fresh_parts : List Part
fresh_parts =
    fresh actor.Int ∷ fresh actor.Poll ∷ fresh actor.Ec
    ∷ each_below (λ k. fresh (actor.Worker k)) 4
    (each_below (λ k. fresh (actor.Device k)) 8 (each_below (λ k. fresh (actor.Firmware k)) 8 []))

-- ---- parts

abbrev pub EachPart : (Part → Type 0) → List Part → Type 0
EachPart P [] = Unit {0}
EachPart P (p ∷ ps) = P p × EachPart P ps

abbrev pub find : Actor → List Part → Option Part
find a [] = None
find a (p ∷ ps) = if same_actor a p.actor then Some p else find a ps

abbrev pub remove : Actor → List Part → List Part
remove a [] = []
remove a (p ∷ ps) = if same_actor a p.actor then remove a ps else p ∷ remove a ps

-- the parts of those who sit here
abbrev pub parts_in : Occupant → List Part
parts_in (who.Root ps) = ps
parts_in (who.One p) = p ∷ []
parts_in who.Nobody = []

abbrev pub map_one : (Part → Part) → Occupant → Occupant
map_one f (who.One p) = who.One (f p)
map_one f w = w

-- ---- a part after a step of its actor

-- a try that found n
abbrev pub noted : ℕ → Part → Part
noted n p = record {
  actor = p.actor;
  phase = p.phase;
  mine = p.mine;
  tried = p.tried
      + 1;
  found = n;
  loaded = p.loaded;
  swept = p.swept;
}

-- a turn with these new entries was given back
abbrev pub wrote : List Entry → Part → Part
wrote new p = record {
  actor = p.actor;
  phase = let_go (after_deeds (deeds_of new) p.phase);
  mine = p.mine
      ++ new;
  tried = p.tried;
  found = p.found;
  loaded = p.loaded;
  swept = p.swept;
}

-- a load of the lock's word found n
abbrev pub loading : ℕ → Part → Part
loading n p = record {
  actor = p.actor;
  phase = kept.Lock (lock.Seeking (Some n));
  mine = p.mine;
  tried = p.tried;
  found = p.found;
  loaded = p.loaded ++ n ∷ [];
  swept = p.swept;
}

-- an exchange against l found n
abbrev pub trying : ℕ → ℕ → Part → Part
trying l n p = record {
  actor = p.actor;
  phase = kept.Lock (if n == l then tried l else lock.Seeking None);
  mine =
      p.mine;
  tried = p.tried + 1;
  found = n;
  loaded = p.loaded;
  swept = p.swept;
}

-- a release found n
abbrev pub releasing : ℕ → Part → Part
releasing n p = record {
  actor = p.actor;
  phase = kept.Lock (lock.Gone (is_pending n));
  mine = p.mine;
  tried = p.tried
      + 1;
  found = n;
  loaded = p.loaded;
  swept = p.swept;
}

-- a pulse of the event, whose pin was clear or not
abbrev pub pulsing : Event → Bool → Part → Part
pulsing e clear p = record {
  actor = p.actor;
  phase = kept.Pulsed
      (pulses_of p.phase ++ record { event = e; clear = clear } ∷ []);
  mine = p.mine;
  tried = p.tried;
  found = p.found;
  loaded = p.loaded;
  swept = p.swept;
}

-- the next pin word was n, and is in hand
abbrev pub sweeping : ℕ → Part → Part
sweeping n p = record {
  actor = p.actor;
  phase = kept.Holding (hand_of p.phase ++ n ∷ []);
  mine = p.mine;
  tried =
      p.tried;
  found = p.found;
  loaded = p.loaded;
  swept = p.swept + 1;
}

-- ---- a view after a step of its seat

abbrev pub with_one : (Part → Part) → View → View
with_one f v = record {
  who = map_one f v.who;
  seen = v.seen;
  told = v.told;
  stage = v.stage;
  turns = v.turns;
  misses
      = v.misses;
}

abbrev pub staged : Stage → View → View
staged g v = record { who = v.who; seen = v.seen; told = v.told; stage = g; turns = v.turns; misses = v.misses }

-- the turn was taken, and this history with it
abbrev pub took : List Entry → View → View
took h v = record {
  who = map_one (noted 0) v.who;
  seen = h;
  told = v.told;
  stage = stage.Carrying;
  turns = v.turns
      + 1;
  misses = v.misses;
}

-- the turn was out, which is n
abbrev pub missed : ℕ → View → View
missed n v = record {
  who = map_one (noted n) v.who;
  seen = v.seen;
  told = v.told;
  stage = v.stage;
  turns = v.turns;
  misses = v.misses + 1;
}

-- what stands behind the entries that were seen
abbrev pub new_in : List Entry → View → List Entry
new_in h v = drop (length v.seen) h

-- the turn was given back with this history
abbrev pub gave : List Entry → View → View
gave h v = record {
  who = map_one (wrote (new_in h v)) v.who;
  seen = h;
  told = v.told;
  stage = stage.Away;
  turns =
      v.turns;
  misses = v.misses;
}

abbrev pub loads : ℕ → View → View
loads n v = with_one (loading n) v

abbrev pub tries : ℕ → ℕ → View → View
tries l n v = with_one (trying l n) v

abbrev pub releases : ℕ → View → View
releases n v = with_one (releasing n) v

abbrev pub pulses : Event → Bool → View → View
pulses e clear v = with_one (pulsing e clear) v

abbrev pub collects : ℕ → View → View
collects n v = with_one (sweeping n) v

-- ---- splitting and joining

abbrev pub root_parts : Occupant → List Part
root_parts (who.Root ps) = ps
root_parts _ = []

abbrev pub less : Actor → Occupant → Occupant
less a (who.Root ps) = who.Root (remove a ps)
less a w = w

abbrev pub lone : Option Part → Occupant
lone None = who.Nobody
lone (Some p) = who.One p

abbrev pub more : Occupant → Occupant → Occupant
more (who.Root ps) (who.One p) = who.Root (p ∷ ps)
more w _ = w

-- the root without the actor, and a seat for it
abbrev pub without : Actor → View → View
without a v = record {
  who = less a v.who;
  seen = v.seen;
  told = v.told;
  stage = v.stage;
  turns = v.turns;
  misses =
      v.misses;
}

abbrev pub seated : Actor → View → View
seated a v = record {
  who = lone (find a (root_parts v.who));
  seen = v.seen;
  told = [];
  stage = stage.Away;
  turns = 0;
  misses = 0;
}

-- the root with the actor of another seat, and told of what that seat had seen
abbrev pub rejoined : View → View → View
rejoined v w = record {
  who = more v.who w.who;
  seen = v.seen;
  told = w.seen;
  stage = v.stage;
  turns = v.turns;
  misses
      = v.misses;
}

abbrev pub longer : List Entry → List Entry → List Entry
longer xs ys = if nat_le (length xs) (length ys) then ys else xs

-- what it was told of is seen
abbrev pub learned : View → View
learned v = record {
  who = v.who;
  seen = longer v.seen v.told;
  told = [];
  stage = v.stage;
  turns = v.turns;
  misses =
      v.misses;
}

-- the root's first view: all actors, and the turn
abbrev pub first_view : View
first_view = record { who = who.Root fresh_parts; seen = []; told = []; stage = stage.Inside; turns = 0; misses = 0 }

abbrev pub spent_view : View
spent_view = record { who = who.Nobody; seen = []; told = []; stage = stage.Away; turns = 0; misses = 0 }

-- ---- what is asked of a view

-- the seat of one actor, for which this holds
abbrev pub ForOne : (Part → Type 0) → Occupant → Type 0
ForOne P (who.One p) = P p
ForOne P _ = ⊥

abbrev pub IsRoot : Occupant → Type 0
IsRoot w = (ps : List Part) × (w ≡ who.Root ps)

-- the root has this actor
abbrev pub HasActor : Actor → View → Type 0
HasActor a v = IsSome (find a (root_parts v.who))

-- every actor is back
abbrev pub HasAll : View → Type 0
HasAll v = (a : Actor) → is_known a ≡ true → HasActor a v

abbrev pub NotHolding : Part → Type 0
NotHolding p = is_holding (phase_of p.phase) ≡ false

-- pins are held by one whose seat has the turn
abbrev pub HoldsInTurn : Stage → Occupant → Type 0
HoldsInTurn g (who.Root ps) = EachPart NotHolding ps
HoldsInTurn g (who.One p) = g ≡ stage.Away → NotHolding p
HoldsInTurn g who.Nobody = Unit {0}

-- each phase is of its actor's kind, and without the turn nobody holds pins
pub record IsOwn (v : View) : Type 0 where
  pub kinds : EachPart (λ p. is_kind p.actor (phase_of p.phase) ≡ true) (parts_in v.who)
  pub free : HoldsInTurn v.stage v.who

-- the actor's entries are those in this history
abbrev pub MadeIn : List Entry → Part → Type 0
MadeIn history p = p.mine ≡ entries_of history p.actor

-- what a turn adds, between taking it and giving it back: by the root nothing, by an actor entries of its own that a
-- turn in its phase may add
abbrev pub MayAdd : Occupant → List Entry → List Entry → Type 0
MayAdd (who.One p) seen after = (deeds : List Deed) × (after ≡ seen ++ map (entry p.actor) deeds)
    × IsTurn (phase_of p.phase) (reverse seen) p.actor deeds
MayAdd _ seen after = after ≡ seen

-- ---- phases that a step asks for

-- it competes for the Global Lock, and has loaded this word or none
abbrev pub IsSeeking : Part → Type 0
IsSeeking p = (l : Option ℕ) × (p.phase ≡ kept.Lock (lock.Seeking l))

-- it has loaded the lock's word, which was l
abbrev pub HasLoaded : ℕ → Part → Type 0
HasLoaded l p = p.phase ≡ kept.Lock (lock.Seeking (Some l))

-- it has disowned the lock, and not released its word
abbrev pub IsQuit : Part → Type 0
IsQuit p = p.phase ≡ kept.Lock lock.Quit

-- it is a device, and e the next event of its list
abbrev pub IsNext : List (List Event) → Event → Part → Type 0
IsNext lists e p = (d : ℕ) × (p.actor ≡ actor.Device d)
    × (slice_get (list_of lists d) (length (pulses_of p.phase)) ≡ Some e)

-- it is int or poll, and has collected the first w pin words
abbrev pub HasCollected : ℕ → Part → Type 0
HasCollected w p = (is_host p.actor ≡ true) × (length (hand_of p.phase) ≡ w)

-- it is int or poll, and has collected nothing
abbrev pub IsFreeHost : Part → Type 0
IsFreeHost p = (is_host p.actor ≡ true) × (p.phase ≡ kept.Free)

-- ---- a part after a whole call of its actor

-- one load of the lock's word found l, and one exchange n, which left this phase
abbrev pub exchanged : LockPhase → ℕ → ℕ → Part → Part
exchanged q l n p = record {
  actor = p.actor;
  phase = kept.Lock q;
  mine = p.mine;
  tried = p.tried
      + 1;
  found = n;
  loaded = p.loaded ++ l ∷ [];
  swept = p.swept;
}

-- all five pin words are in hand
abbrev pub holding : List ℕ → Part → Part
holding hand p = record {
  actor = p.actor;
  phase = kept.Holding hand;
  mine = p.mine;
  tried = p.tried;
  found = p.found;
  loaded = p.loaded;
  swept = p.swept + 5;
}
