-- Taking the turn and giving it back keep the rule.
use Rattle.std.proofs.Common.{◌≡◌, ◌≢◌, ℕ, ◌==◌, false, List, [], ◌∷◌, ◌++◌, map, reverse, get_or, set, refl, sym, ap, subst, ◌∙◌, Option, Some, None, unwrap_or, arith}
use mathlib.Core.Option as m
use lib.ListN.{get_elem?}
use lib.Seq.{set-get_or}
use prog.Atomic.{either}
use Rattle.atomic_table.specs.Table.{Act, Allows, State, Step, Valid, step, carried_after, gives, homes_after, keeps, stepped, takes}
use Rattle.atomic_table.proofs.Lists.{exchanged}
use Rattle.acpi_regs.specs.declared.entry.Deed.{Deed}
use Rattle.acpi_regs.specs.declared.entry.Entry.{Entry}
use Rattle.acpi_regs.specs.declared.event.Event.{Event}
use Rattle.acpi_regs.specs.Actor.{same_actor}
use Rattle.acpi_regs.specs.Core.{Core}
use Rattle.acpi_regs.specs.CoreEvents.{IsTurn, entry, freed, is_holding, moved_all, past_in, turned}
use Rattle.acpi_regs.specs.CoreSound.{CoreSound}
use Rattle.acpi_regs.proofs.LockActors.{actor_swap, actor_true, by_cases, put_other, put_self}
use Rattle.acpi_regs.proofs.PinSteps.{core_turn}
use Rattle.lock_table.specs.declared.view.Occupant.{Occupant}
use Rattle.lock_table.specs.declared.view.Occupant.TheVariants as who
use Rattle.lock_table.specs.declared.view.Part.{Part}
use Rattle.lock_table.specs.declared.view.Stage.{Stage}
use Rattle.lock_table.specs.declared.view.Stage.TheVariants as stage
use Rattle.lock_table.specs.declared.view.View.{View}
use Rattle.lock_table.specs.Plays.{Given, Lifted, Mine, PutIn, Taken}
use Rattle.lock_table.specs.Rule.{AbsentAreFirst, HasTurn, IsHome, IsSomebody, Kept, Sits, slot_at}
use Rattle.lock_table.specs.Views.{EachPart, HoldsInTurn, MadeIn, MayAdd, StartsWith, after_deeds, deeds_of, gave, let_go, map_one, missed, new_in, noted, parts_in, phase_of, staged, took, wrote}
use Rattle.lock_table.proofs.Histories.{deeds_back, lets_go, means_moved, new_behind, of_more, of_others, starts_further, starts_itself}
use Rattle.lock_table.proofs.OneStep.{apart_known, own_of, set_at}
use Rattle.lock_table.proofs.PartLists.{each_map}
use Rattle.lock_table.proofs.Stepping.{Homes, built, others_same, still_found, still_out, still_root, still_sits, still_somebody}

-- ---- stages

pub carrying_away : stage.Carrying ≢ stage.Away
carrying_away e = cc

pub inside_away : stage.Inside ≢ stage.Away
inside_away e = cc

-- who holds pins has the turn, also in another stage of it
still_free : (g : Stage) (f : Part → Part) → ((p : Part) → (f p).phase ≡ p.phase) → (h : Stage) → (g ≡ stage.Away → h ≡ stage.Away) → (w : Occupant) → HoldsInTurn h w → HoldsInTurn g (map_one f w)
still_free g f same h away (who.Root ps) free = free
still_free g f same h away (who.One p) free = λ is. subst (λ q. is_holding (phase_of q) ≡ false) (sym (same p)) (free (away is))
still_free g f same h away who.Nobody free = tt

-- ---- the turn is taken

module _ {B X : Type 0} (lists : X → List (List Event)) (base : B → X) (entries : B → List Entry) (key : B) where
  abbrev St : Type 0
  St = State (Option B) View

  abbrev Rule : St → Type 0
  Rule = Kept lists base entries key

  -- what is told of a step does not rest on its operands
  abbrev no_step : Step (Option B)
  no_step = step 0 0 0 0 m.none

  -- words of which the first is set
  first_set : (s : St) (k : Rule s) (n : ℕ) → set s.words 0 n ≡ n ∷ k.core.word ∷ k.pins
  first_set s k n = ap (λ ws. set ws 0 n) k.words

  turn_is : (s : St) (k : Rule s) → get_or s.words 0 0 ≡ k.turn
  turn_is s k = ap (λ ws. get_or ws 0 0) k.words

  module _ (s : St) (k : Rule s) (id : ℕ) (v : View) (at : get_elem? s.views id ≡ m.some v) where
    -- the part of one actor with another count stands as before
    noted_sits : (n : ℕ) → EachPart (Sits k.core k.seat_of id) (parts_in (map_one (noted n) v.who))
    noted_sits n = still_sits (noted n) k.core k.seat_of id (λ p h. h) v.who (k.fits id v at).sits

    taking : k.turn ≡ 0 → v.stage ≡ stage.Away → IsSomebody v.who → (h : IsHome base entries key k.core.history s.homes)
        → Rule (stepped s 0 1 id [] (took (entries h.board) v) (takes 0 (Some h.board)))
    taking home away somebody h =
        let w = took (entries h.board) v in
        let f = k.fits id v at in
        built lists base entries key s k id v w at 1 id k.core (homes_after s.homes [] (takes 0 (Some h.board))) (set s.words 0 1)
        (first_set s k 1) k.pinned (λ zero. absurd (omega arith))
        (λ _. record { out = refl; view = w; there = set_at s.views id v w at; inside = carrying_away })
        k.sound k.absent (still_found (noted 0) (λ p. refl) v.who)
        (λ j u other there. others_same lists base entries key s k id v w at 1 id _ j u (λ has. absurd (let out = has.out in omega (arith, out, home))) there)
        (record {
          seen = subst (λ l. StartsWith k.core.history l) (sym h.has) (starts_itself k.core.history);
          told = f.told;
          sits = noted_sits 0;
          root = still_root (noted 0) (λ p. refl) id v.who f.root;
          holds = λ inside. record { out = refl; holds = refl; whole = h.has; slot = ap (λ l. set l 0 m.none) h.slot; somebody = still_somebody (noted 0) (λ p. refl) v.who somebody };
          free = still_free stage.Carrying (noted 0) (λ p. refl) v.stage (λ e. absurd (carrying_away e)) v.who f.free;
        })

    missing : k.turn ≢ 0 → Rule (stepped s 0 (get_or s.words 0 0) id [] (missed (get_or s.words 0 0) v) keeps)
    missing out =
        let n = get_or s.words 0 0 in
        let w = missed n v in
        let f = k.fits id v at in
        built lists base entries key s k id v w at k.turn k.holder k.core s.homes (set s.words 0 n)
        (set-get_or s.words 0 0 ∙ k.words) k.pinned k.home (still_out lists base entries key s k id v w at (λ i. i))
        k.sound k.absent (still_found (noted n) (λ p. refl) v.who)
        (λ j u other there. others_same lists base entries key s k id v w at k.turn k.holder s.homes j u (λ has. has) there)
        (record {
          seen = f.seen;
          told = f.told;
          sits = noted_sits n;
          root = still_root (noted n) (λ p. refl) id v.who f.root;
          holds = λ inside. let o = f.holds inside in record { out = o.out; holds = o.holds; whole = o.whole; slot = o.slot; somebody = still_somebody (noted n) (λ p. refl) v.who o.somebody };
          free = still_free v.stage (noted n) (λ p. refl) v.stage (λ e. e) v.who f.free;
        })

  pub takes_turn : (slots id : ℕ) (v : View) (is : B → Type 0) (me : Mine B) → me ≡ (v, []) → v.stage ≡ stage.Away → IsSomebody v.who → ((b : B) → base b ≡ base key → is b)
      → Allows Rule slots id me 0 (λ n. either (n == 0) 1 n) (λ n. Taken entries is no_step me n)
  takes_turn slots id v is me at_me away somebody based = subst (λ x. Allows Rule slots id x 0 (λ n. either (n == 0) 1 n) (λ n. Taken entries is no_step x n)) (sym at_me) all
    where
      all : Allows Rule slots id (v, []) 0 (λ n. either (n == 0) 1 n) (λ n. Taken entries is no_step (v, []) n)
      all s k _ at _ = exchanged (get_or s.words 0 0) 0 1 Goal hit miss
        where
          Goal : ℕ → Type 0
          Goal z = (w : View) × (a : Act (Option B)) × Valid s.homes [] a × Rule (stepped s 0 z id [] w a) × Taken entries is no_step (v, []) (get_or s.words 0 0) (w, carried_after [] a)

          hit : get_or s.words 0 0 ≡ 0 → Goal 1
          hit e =
              let home : k.turn ≡ 0 = sym (turn_is s k) ∙ e in
              let h = k.home home in (
                took (entries h.board) v,
                takes 0 (Some h.board),
                ap (λ l. get_elem? l 0) h.slot,
                taking s k id v at home away somebody h,
                ((λ _. (h.board, based h.board h.same_base, subst (λ l. StartsWith l v.seen) (sym h.has) (k.fits id v at).seen, refl, subst (λ l. EachPart (MadeIn l) (parts_in v.who)) (sym h.has) (each_map (Sits k.core k.seat_of id) (MadeIn k.core.history) (λ p it. it.2.1) (parts_in v.who) (k.fits id v at).sits))), (λ out. absurd (out e))),
              )

          miss : get_or s.words 0 0 ≢ 0 → Goal (get_or s.words 0 0)
          miss ne =
              let out : k.turn ≢ 0 = λ z. ne (turn_is s k ∙ z) in
              (missed (get_or s.words 0 0) v, keeps, tt, missing s k id v at out, ((λ e. absurd (ne e)), (λ _. (turn_is s k ∙ (k.out out).out, refl))))

  -- ---- the slot goes between its place and the seat that has the turn

  moving : (s : St) (k : Rule s) (id : ℕ) (v : View) → get_elem? s.views id ≡ m.some v → (g : Stage) → g ≢ stage.Away → HasTurn k.turn k.holder k.core.history s.homes id v → (homes : Homes B) → homes ≡ slot_at g ∷ []
      → Rule (record { words = set s.words 0 (get_or s.words 0 0); homes = homes; views = set s.views id (staged g v) })
  moving s k id v at g out has homes slot =
      let f = k.fits id v at in
      let one = has.out in
      built lists base entries key s k id v (staged g v) at k.turn k.holder k.core homes (set s.words 0 (get_or s.words 0 0))
      (set-get_or s.words 0 0 ∙ k.words) k.pinned (λ zero. absurd (omega (arith, zero, one)))
      (still_out lists base entries key s k id v (staged g v) at (λ _. out))
      k.sound k.absent (λ a found. found)
      (λ j u other there. others_same lists base entries key s k id v (staged g v) at k.turn k.holder homes j u (λ its. absurd (other (its.holds ∙ sym has.holds))) there)
      (record {
        seen = f.seen;
        told = f.told;
        sits = f.sits;
        root = f.root;
        holds = λ _. record { out = has.out; holds = has.holds; whole = has.whole; slot = slot; somebody = has.somebody };
        free = held v.who f.free;
      })
    where
      held : (w : Occupant) → HoldsInTurn v.stage w → HoldsInTurn g w
      held (who.Root ps) free = free
      held (who.One p) free = λ away. absurd (out away)
      held who.Nobody free = tt

  pub puts_in : (slots id : ℕ) (v : View) (me : Mine B) → me ≡ (v, (0, None) ∷ []) → v.stage ≡ stage.Carrying → Allows Rule slots id me 0 (λ n. n) (λ n. PutIn no_step me n)
  puts_in slots id v me at_me inside = subst (λ x. Allows Rule slots id x 0 (λ n. n) (λ n. PutIn no_step x n)) (sym at_me) all
    where
      all : Allows Rule slots id (v, (0, None) ∷ []) 0 (λ n. n) (λ n. PutIn no_step (v, (0, None) ∷ []) n)
      all s k _ at _ =
          let has = (k.fits id v at).holds (λ away. carrying_away (sym inside ∙ away)) in
          (staged stage.Inside v, gives, tt, moving s k id v at stage.Inside inside_away has (set s.homes 0 (m.some None)) (ap (λ l. set l 0 (m.some None)) has.slot), refl)

  pub lifts : (slots id : ℕ) (v : View) (me : Mine B) → me ≡ (v, []) → v.stage ≡ stage.Inside → Allows Rule slots id me 0 (λ n. n) (λ n. Lifted no_step me n)
  lifts slots id v me at_me inside = subst (λ x. Allows Rule slots id x 0 (λ n. n) (λ n. Lifted no_step x n)) (sym at_me) all
    where
      all : Allows Rule slots id (v, []) 0 (λ n. n) (λ n. Lifted no_step (v, []) n)
      all s k _ at _ =
          let has = (k.fits id v at).holds (λ away. inside_away (sym inside ∙ away)) in
          let slot = has.slot ∙ ap (λ g. slot_at g ∷ []) inside in
          (staged stage.Carrying v, takes 0 None, ap (λ l. get_elem? l 0) slot, moving s k id v at stage.Carrying carrying_away has (set s.homes 0 m.none) (ap (λ l. set l 0 m.none) slot), refl)

  -- ---- the turn is given back

  module _ (s : St) (k : Rule s) (id : ℕ) (v : View) (at : get_elem? s.views id ≡ m.some v) (has : HasTurn k.turn k.holder k.core.history s.homes id v)
      (b : B) (same_base : base b ≡ base key) (homes : Homes B) (slot : homes ≡ m.some (Some b) ∷ []) where
    -- with nothing new by the root, with its entries by an actor
    giving : (core : Core) → core.word ≡ k.core.word → ((n : Event) → core.pins n ≡ k.core.pins n) → core.history ≡ entries b → CoreSound (lists (base key)) core → AbsentAreFirst core.phases
        → ((j : ℕ) (u : View) → j ≢ id → get_elem? s.views j ≡ m.some u → EachPart (Sits k.core k.seat_of j) (parts_in u.who) → EachPart (Sits core k.seat_of j) (parts_in u.who))
        → ((first : List Entry) → StartsWith k.core.history first → StartsWith core.history first)
        → EachPart (Sits core k.seat_of id) (parts_in (gave (entries b) v).who) → HoldsInTurn stage.Away (gave (entries b) v).who
        → Rule (record { words = set s.words 0 0; homes = homes; views = set s.views id (gave (entries b) v) })
    giving core word pins history sound absent others further mine free =
        let f = k.fits id v at in
        let new = new_in (entries b) v in
        built lists base entries key s k id v (gave (entries b) v) at 0 k.holder core homes (set s.words 0 0)
        (first_set s k 0 ∙ ap (λ n. 0 ∷ n ∷ k.pins) (sym word)) (λ n. pins n ∙ k.pinned n)
        (λ _. record { board = b; slot = slot; same_base = same_base; has = sym history }) (λ out. absurd (out refl))
        sound absent (still_found (wrote new) (λ p. refl) v.who)
        (λ j u other there. let o = k.fits j u there in record {
          seen = further u.seen o.seen;
          told = further u.told o.told;
          sits = others j u other there o.sits;
          root = o.root;
          holds = λ inside. absurd (other ((o.holds inside).holds ∙ sym has.holds));
          free = o.free;
        })
        (record {
          seen = subst (λ l. StartsWith l (entries b)) (sym history) (starts_itself (entries b));
          told = further v.told f.told;
          sits = mine;
          root = still_root (wrote new) (λ p. refl) id v.who f.root;
          holds = λ inside. absurd (inside refl);
          free = free;
        })

    -- the root's turn, or that of one actor
    giving_root : (ps : List Part) → v.who ≡ who.Root ps → entries b ≡ v.seen → Rule (record { words = set s.words 0 0; homes = homes; views = set s.views id (gave (entries b) v) })
    giving_root ps is same =
        let f = k.fits id v at in
        let still : map_one (wrote (new_in (entries b) v)) v.who ≡ v.who = ap (map_one (wrote (new_in (entries b) v))) is ∙ sym is in
        giving k.core refl (λ n. refl) (sym has.whole ∙ sym same) k.sound k.absent (λ j u _ _ sits. sits) (λ first starts. starts)
        (subst (λ w. EachPart (Sits k.core k.seat_of id) (parts_in w)) (sym still) f.sits)
        (subst (HoldsInTurn stage.Away) (sym (still ∙ is)) (subst (HoldsInTurn v.stage) is f.free))

    module _ (p : Part) (is : v.who ≡ who.One p) (deeds : List Deed) (adds : entries b ≡ v.seen ++ map (entry p.actor) deeds) where
      sits_here : Sits k.core k.seat_of id p
      sits_here = (subst (λ w. EachPart (Sits k.core k.seat_of id) (parts_in w)) is (k.fits id v at).sits).0

      abbrev after : Core
      after = turned k.core p.actor deeds

      new_are : new_in (entries b) v ≡ map (entry p.actor) deeds
      new_are = new_behind v.seen (map (entry p.actor) deeds) (entries b) adds

      elsewhere : (j : ℕ) → j ≢ id → (ps : List Part) → EachPart (Sits k.core k.seat_of j) ps → EachPart (Sits after k.seat_of j) ps
      elsewhere j other [] h = tt
      elsewhere j other (q ∷ ps) h = (
        by_cases (same_actor p.actor q.actor) (Sits after k.seat_of j q) (λ same. absurd (other (sym h.0.1 ∙ ap k.seat_of (sym (actor_true p.actor q.actor same)) ∙ sits_here.1)))
            (λ apart. (h.0.0, h.0.1, (h.0.2.0 ∙ sym (put_other p.actor q.actor _ k.core.phases apart), h.0.2.1 ∙ sym (of_others k.core.history p.actor q.actor deeds (actor_swap p.actor q.actor apart))))),
        elsewhere j other ps h.1,
      )

      here : Sits after k.seat_of id (wrote (new_in (entries b) v) p)
      here = (
        sits_here.0,
        sits_here.1,
        (
          ap (λ l. phase_of (let_go (after_deeds (deeds_of l) p.phase))) new_are
              ∙ ap (λ ds. phase_of (let_go (after_deeds ds p.phase))) (deeds_back p.actor deeds)
              ∙ means_moved deeds p.phase
              ∙ ap (λ q. freed (moved_all deeds q)) sits_here.2.0
              ∙ sym (put_self p.actor (freed (moved_all deeds (k.core.phases p.actor))) k.core.phases),
          ap (λ l. p.mine ++ l) new_are ∙ ap (λ l. l ++ map (entry p.actor) deeds) sits_here.2.1 ∙ sym (of_more k.core.history p.actor deeds),
        ),
      )

      giving_one : IsTurn (phase_of p.phase) (reverse v.seen) p.actor deeds → Rule (record { words = set s.words 0 0; homes = homes; views = set s.views id (gave (entries b) v) })
      giving_one turn =
          let now : map_one (wrote (new_in (entries b) v)) v.who ≡ who.One (wrote (new_in (entries b) v) p) = ap (map_one (wrote (new_in (entries b) v))) is in
          giving after refl (λ n. refl) (ap (λ l. l ++ map (entry p.actor) deeds) (sym has.whole) ∙ sym adds)
          (core_turn (lists (base key)) k.core p.actor deeds k.sound (subst (λ q. IsTurn q (past_in k.core) p.actor deeds) sits_here.2.0 (subst (λ l. IsTurn (phase_of p.phase) (reverse l) p.actor deeds) has.whole turn)))
          (λ a isnt. put_other p.actor a _ k.core.phases (apart_known p.actor a sits_here.0 isnt) ∙ k.absent a isnt)
          (λ j u other there sits. elsewhere j other (parts_in u.who) sits) (λ first starts. starts_further k.core.history first (map (entry p.actor) deeds) starts)
          (subst (λ w. EachPart (Sits after k.seat_of id) (parts_in w)) (sym now) (here, tt))
          (subst (HoldsInTurn stage.Away) (sym now) (λ _. lets_go _))

  -- the board in the slot that a seat holds
  board_in : B → List (ℕ × Option B) → B
  board_in d [] = d
  board_in d (x ∷ xs) = unwrap_or x.1 d

  pub gives_turn : (slots id : ℕ) (v : View) (b : B) (me : Mine B) → me ≡ (v, (0, Some b) ∷ []) → v.stage ≡ stage.Carrying → base b ≡ base key → MayAdd v.who v.seen (entries b)
      → Allows Rule slots id me 0 (λ _. 0) (λ _. Given entries no_step me 0)
  unfolding board_in
  gives_turn slots id v b me at_me inside same_base may = subst (λ x. Allows Rule slots id x 0 (λ _. 0) (λ _. Given entries no_step x 0)) (sym at_me) all
    where
      board_there : (c : B) → ◌≡◌ {A = List (ℕ × Option B)} ((0, Some b) ∷ []) ((0, Some c) ∷ []) → b ≡ c
      board_there c e = ap (board_in b) e

      all : Allows Rule slots id (v, (0, Some b) ∷ []) 0 (λ _. 0) (λ _. Given entries no_step (v, (0, Some b) ∷ []) 0)
      all s k _ at _ =
          let w = gave (entries b) v in
          let after = by_who v.who refl may in
          (w, gives, tt, after, ((λ c e. ap (λ x. (gave (entries x) v, [])) (board_there c e)), own_of lists base entries key _ after id w (set_at s.views id v w at)))
        where
          has : HasTurn k.turn k.holder k.core.history s.homes id v
          has = (k.fits id v at).holds (λ away. carrying_away (sym inside ∙ away))

          slot : set s.homes 0 (m.some (Some b)) ≡ m.some (Some b) ∷ []
          slot = ap (λ l. set l 0 (m.some (Some b))) has.slot

          by_who : (w : Occupant) → v.who ≡ w → MayAdd w v.seen (entries b) → Rule (stepped s 0 0 id ((0, Some b) ∷ []) (gave (entries b) v) gives)
          by_who (who.Root ps) is same = giving_root s k id v at has b same_base _ slot ps is same
          by_who (who.One p) is added = giving_one s k id v at has b same_base _ slot p is added.0 added.1 added.2
          by_who who.Nobody is same = absurd (subst IsSomebody is has.somebody)
