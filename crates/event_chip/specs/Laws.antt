-- What follows for an event from the ways to touch it.
use Rattle.std.specs.Prelude.{◌≡◌, ℕ, ◌+◌, ◌<◌, Bool, true, false, nat_le, List, [], ◌∷◌}
use Rattle.event_chip.specs.declared.state.EventKind.{EventKind}
use Rattle.event_chip.specs.declared.state.EventKind.TheVariants as kind
use Rattle.event_chip.specs.declared.state.EventState.{EventState}
use Rattle.event_chip.specs.declared.state.Touch.{Touch}
use Rattle.event_chip.specs.declared.state.Touch.TheVariants as touch
use Rattle.event_chip.specs.State.{after_all, asserted, claimed, downed, dropped, finished, is_level, is_listed, is_parked, is_pending, raised, upped}

-- the event is not claimed
abbrev pub unclaimed : List Touch → Bool
unclaimed [] = true
unclaimed (touch.Claim ∷ ts) = false
unclaimed (t ∷ ts) = unclaimed ts

-- a raise of an event that is not level stays until a claim takes it, whatever else happens: so one between a claim and
-- its finish is not lost
abbrev pub KeepsRaise : Type 0
KeepsRaise =
    (k : EventKind) (ts : List Touch) (s : EventState)
    → is_level k ≡ false → unclaimed ts ≡ true → (after_all k ts (raised s)).status ≡ true

-- a run of a level event that ends under an asserted line raises the event again, and any other run does not
abbrev pub FollowsLine : Type 0
FollowsLine = (s : EventState) → (finished kind.Level s).status ≡ s.line

-- the line is neither asserted nor dropped
abbrev pub leaves_line : List Touch → Bool
leaves_line [] = true
leaves_line (touch.Assert ∷ ts) = false
leaves_line (touch.Drop ∷ ts) = false
leaves_line (t ∷ ts) = leaves_line ts

-- the number of runs that ended
abbrev pub finishes : List Touch → ℕ
finishes [] = 0
finishes (touch.Finish ∷ ts) = 1 + finishes ts
finishes (t ∷ ts) = finishes ts

-- a level event is parked exactly if at least sixteen runs ended since its line was asserted, and the line stayed so
abbrev pub ParksAtSixteen : Type 0
ParksAtSixteen =
    (ts : List Touch) (s : EventState)
    → leaves_line ts ≡ true → is_parked kind.Level (after_all kind.Level ts (asserted s)) ≡ nat_le 16 (finishes ts)

-- a drop of the line, or an assert, frees a parked event
abbrev pub Revives : Type 0
Revives = (s : EventState) → (is_parked kind.Level (dropped s) ≡ false) × (is_parked kind.Level (asserted s) ≡ false)

-- references count up to 255 and down to 0, one at a time
abbrev pub Counts : Type 0
Counts =
    (s : EventState)
    → (s.count < 255 → (upped s).count ≡ s.count + 1) × (s.count ≡ 255 → (upped s).count ≡ 255)
    × (0 < s.count → (downed s).count + 1 ≡ s.count) × (s.count ≡ 0 → (downed s).count ≡ 0)

-- no run of the event ended
abbrev pub unfinished : List Touch → Bool
unfinished [] = true
unfinished (touch.Finish ∷ ts) = false
unfinished (t ∷ ts) = unfinished ts

-- a listed event that was claimed is not dispatched again before its run has ended, whatever else happens, claims too
abbrev pub Holds : Type 0
Holds =
    (k : EventKind) (ts : List Touch) (s : EventState)
    → is_listed k ≡ true → unfinished ts ≡ true → is_pending k (after_all k ts (claimed k s)) ≡ false

-- a listed event without references is not dispatched
abbrev pub NeedsReference : Type 0
NeedsReference = (k : EventKind) (s : EventState) → is_listed k ≡ true → s.count ≡ 0 → is_pending k s ≡ false

-- a level status stays whatever happens, except the end of a run, which may clear it
abbrev pub LevelStays : Type 0
LevelStays =
    (ts : List Touch) (s : EventState)
    → unfinished ts ≡ true → s.status ≡ true → (after_all kind.Level ts s).status ≡ true

-- neither a claim nor a drop of the line raises or clears a level status
abbrev pub LeavesLevel : Type 0
LeavesLevel = (s : EventState) → ((claimed kind.Level s).status ≡ s.status) × ((dropped s).status ≡ s.status)
