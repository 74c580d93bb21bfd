-- Lists of touches.
use Rattle.std.proofs.Common.{◌≡◌, ℕ, ◌+◌, ◌≤◌, true, false, min, nat_le, List, [], ◌∷◌, refl, ap, ◌∙◌, arith, rules}
use Rattle.event_chip.specs.declared.state.EventKind.{EventKind}
use Rattle.event_chip.specs.declared.state.EventKind.TheVariants as kind
use Rattle.event_chip.specs.declared.state.EventState.{EventState}
use Rattle.event_chip.specs.declared.state.Touch.{Touch}
use Rattle.event_chip.specs.declared.state.Touch.TheVariants as touch
use Rattle.event_chip.specs.State.{after_all, asserted, claimed, downed, dropped, finished, is_level, is_listed, is_pending, raised, upped}
use Rattle.event_chip.specs.Laws.{unclaimed, unfinished, leaves_line, finishes, Holds, KeepsRaise, LevelStays, ParksAtSixteen}

-- the status stays
stays : (k : EventKind) (ts : List Touch) (s : EventState) → is_level k ≡ false → unclaimed ts ≡ true → s.status ≡ true → (after_all k ts s).status ≡ true
stays k [] s e u h = h
stays k (touch.Raise ∷ ts) s e u h = stays k ts (raised s) e u refl
stays k (touch.Assert ∷ ts) s e u h = stays k ts (asserted s) e u refl
stays k (touch.Drop ∷ ts) s e u h = stays k ts (dropped s) e u h
stays k (touch.Claim ∷ ts) s e u h = cc
stays k (touch.Finish ∷ ts) s e u h = stays k ts (finished k s) e u (rw e h)
stays k (touch.Up ∷ ts) s e u h = stays k ts (upped s) e u h
stays k (touch.Down ∷ ts) s e u h = stays k ts (downed s) e u h

pub keeps_raise : KeepsRaise
keeps_raise k ts s e u = stays k ts (raised s) e u refl

-- the runs that end under the line are counted, up to sixteen
counted : (ts : List Touch) (s : EventState) → leaves_line ts ≡ true → s.line ≡ true → s.storm ≤ 16 → (after_all kind.Level ts s).storm ≡ min 16 (s.storm + finishes ts)
counted [] s l h b = omega arith
counted (touch.Raise ∷ ts) s l h b = counted ts (raised s) l h b
counted (touch.Assert ∷ ts) s l h b = cc
counted (touch.Drop ∷ ts) s l h b = cc
counted (touch.Claim ∷ ts) s l h b = counted ts (claimed kind.Level s) l h b
counted (touch.Finish ∷ ts) s l h b =
    let more : (finished kind.Level s).storm ≡ min 16 (s.storm + 1) = rw h refl in
    let bound : (finished kind.Level s).storm ≤ 16 = omega (arith, more) in
    counted ts (finished kind.Level s) l h bound ∙ omega (arith, more)
counted (touch.Up ∷ ts) s l h b = counted ts (upped s) l h b
counted (touch.Down ∷ ts) s l h b = counted ts (downed s) l h b

sixteen : (n : ℕ) → nat_le 16 (min 16 (0 + n)) ≡ nat_le 16 n
sixteen n = grind (arith, rules)

pub parks : ParksAtSixteen
parks ts s l = ap (λ n. nat_le 16 n) (counted ts (asserted s) l refl (omega arith)) ∙ sixteen (finishes ts)

pub level_stays : LevelStays
level_stays [] s u h = h
level_stays (touch.Raise ∷ ts) s u h = level_stays ts (raised s) u refl
level_stays (touch.Assert ∷ ts) s u h = level_stays ts (asserted s) u refl
level_stays (touch.Drop ∷ ts) s u h = level_stays ts (dropped s) u h
level_stays (touch.Claim ∷ ts) s u h = level_stays ts (claimed kind.Level s) u h
level_stays (touch.Finish ∷ ts) s u h = cc
level_stays (touch.Up ∷ ts) s u h = level_stays ts (upped s) u h
level_stays (touch.Down ∷ ts) s u h = level_stays ts (downed s) u h

-- a held event stays held
holding : (k : EventKind) (ts : List Touch) (s : EventState) → is_listed k ≡ true → unfinished ts ≡ true → s.held ≡ true → (after_all k ts s).held ≡ true
holding k [] s l u h = h
holding k (touch.Raise ∷ ts) s l u h = holding k ts (raised s) l u h
holding k (touch.Assert ∷ ts) s l u h = holding k ts (asserted s) l u h
holding k (touch.Drop ∷ ts) s l u h = holding k ts (dropped s) l u h
holding k (touch.Claim ∷ ts) s l u h = holding k ts (claimed k s) l u l
holding k (touch.Finish ∷ ts) s l u h = cc
holding k (touch.Up ∷ ts) s l u h = holding k ts (upped s) l u h
holding k (touch.Down ∷ ts) s l u h = holding k ts (downed s) l u h

idle : (k : EventKind) (s : EventState) → s.held ≡ true → is_pending k s ≡ false
idle k s h = search rules

pub holds : Holds
holds k ts s l u = idle k (after_all k ts (claimed k s)) (holding k ts (claimed k s) l u l)
