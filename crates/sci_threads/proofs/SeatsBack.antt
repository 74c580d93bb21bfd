-- Seats that come back into the root, one after another.
use Rattle.std.proofs.Common.{ℕ, ◌+◌, ◌≤◌, length, arith, length-append, ◌≡◌, List, [], ◌∷◌, ◌++◌, append_assoc, map, refl, sym, ap, subst, ◌∙◌, rules}
use Rattle.std.proofs.lemmas.List.Elements.{All-get_or, All-push, All-weaker}
use Rattle.std.proofs.Math.Seq.{get_or-append_seam}
use Rattle.std.specs.List.{All}
use Rattle.atomic_table.specs.Seated.{TableId}
use Rattle.acpi_regs.specs.declared.actor.Actor.{Actor}
use Rattle.acpi_regs.specs.declared.entry.Entry.{Entry}
use Rattle.lock_table.specs.declared.view.Occupant.{Occupant}
use Rattle.lock_table.specs.declared.view.Occupant.TheVariants as who
use Rattle.lock_table.specs.declared.view.Part.{Part}
use Rattle.lock_table.specs.declared.view.View.{View}
use Rattle.lock_table.specs.Calls.{Pass}
use Rattle.lock_table.specs.Roots.{HasAllBut}
use Rattle.lock_table.specs.Views.{ForOne, IsRoot, StartsWith, learned, more, rejoined, root_parts}
use Rattle.lock_table.proofs.OneStep.{for_one}
use Rattle.lock_table.proofs.Rooting.{joins_back, still_root}
use Rattle.sci_threads.specs.declared.any.AnyActor.{AnyActor}
use Rattle.sci_threads.specs.declared.shared.ActorSeat.{ActorSeat}
use Rattle.sci_threads.specs.Actors.{stands, who as who_of}
use Rattle.sci_threads.specs.Seats.{IsRootOf, names_of, part_back, parts_back}
use Rattle.sci_threads.specs.Shared.{Agrees, IsOf}

starts_by : (h mid first : List Entry) → StartsWith h mid → StartsWith mid first → StartsWith h first
starts_by h mid first a b = (b.0 ++ a.0, a.1 ∙ ap (λ l. l ++ a.0) b.1 ∙ append_assoc first b.0 a.0)

names_push : (seats : List ActorSeat) (x : ActorSeat) → names_of (seats ++ x ∷ []) ≡ names_of seats ++ who_of x.actor ∷ []
names_push [] x = refl
names_push (y ∷ seats) x = ap (λ l. who_of y.actor ∷ l) (names_push seats x)

back_push : (seats : List ActorSeat) (x : ActorSeat) (parts : List Part) → parts_back (seats ++ x ∷ []) parts ≡ part_back x.seat.view.who (parts_back seats parts)
back_push [] x parts = refl
back_push (y ∷ seats) x parts = back_push seats x (part_back y.seat.view.who parts)

-- the root, when these seats are back
pub record Joining (id : TableId) (start root : Pass) (done : List ActorSeat) : Type 0 where
  pub here : IsRootOf id root
  pub parts : root_parts root.view.who ≡ parts_back done (root_parts start.view.who)
  pub back : (away : List Actor) → HasAllBut (names_of done ++ away) start.view → HasAllBut away root.view
  pub seen : StartsWith root.view.seen start.view.seen
  pub told : All (λ x. StartsWith root.view.seen x.seat.view.seen) done

pub joins : (id : TableId) (root : Pass) → IsRootOf id root → Joining id root root []
joins id root here = record { here = here; parts = refl; back = λ away has. has; seen = ([], with_none root.view.seen); told = search rules }
  where
    with_none : (l : List Entry) → l ≡ l ++ []
    with_none [] = refl
    with_none (e ∷ es) = ap (λ l. e ∷ l) (with_none es)

pub joins_more : (id : TableId) (start root now : Pass) (done : List ActorSeat) (x : ActorSeat) → Joining id start root done → Agrees id x → now.table ≡ root.table → now.view ≡ learned (rejoined root.view x.seat.view)
    → StartsWith now.view.seen root.view.seen → StartsWith now.view.seen x.seat.view.seen → Joining id start now (done ++ x ∷ [])
joins_more id start root now done x h agrees same view seen told =
    let one = for_one (IsOf (who_of x.actor) (stands x.actor)) x.seat.view.who agrees.part in
    let p = one.0 in
    let rooted = h.here.root in
    let more_is : (learned (rejoined root.view x.seat.view)).who ≡ who.Root (p ∷ rooted.0) = ap (λ o. more o x.seat.view.who) rooted.1 ∙ ap (more (who.Root rooted.0)) one.1 in
    let old_parts : root_parts root.view.who ≡ rooted.0 = ap root_parts rooted.1 in
    record {
      here = record {
        table = same ∙ h.here.table;
        away = ap (λ (v : View). v.stage) view ∙ h.here.away;
        root = subst (λ (v : View). IsRoot v.who) (sym view) (still_root root.view x.seat.view rooted);
      };
      parts = ap (λ (v : View). root_parts v.who) view ∙ ap root_parts more_is ∙ ap (λ l. p ∷ l) (sym old_parts ∙ h.parts)
          ∙ sym (back_push done x (root_parts start.view.who) ∙ ap (λ o. part_back o (parts_back done (root_parts start.view.who))) one.1);
      back = λ away has. subst (HasAllBut away) (sym view)
          (joins_back away root.view x.seat.view p rooted one.1 (subst (λ a. HasAllBut (a ∷ away) root.view) (sym one.2.0)
          (h.back (who_of x.actor ∷ away) (subst (λ l. HasAllBut l start.view) (ap (λ l. l ++ away) (names_push done x) ∙ append_assoc (names_of done) (who_of x.actor ∷ []) away) has))));
      seen = starts_by now.view.seen root.view.seen start.view.seen seen h.seen;
      told = All-push (λ (y : ActorSeat). StartsWith now.view.seen y.seat.view.seen) done x (each done h.told) told;
    }
  where
    each : (l : List ActorSeat) → All (λ (y : ActorSeat). StartsWith root.view.seen y.seat.view.seen) l → All (λ (y : ActorSeat). StartsWith now.view.seen y.seat.view.seen) l
    each l h = All-weaker (λ (y : ActorSeat). StartsWith root.view.seen y.seat.view.seen) (λ (y : ActorSeat). StartsWith now.view.seen y.seat.view.seen) (λ y is. starts_by now.view.seen root.view.seen y.seat.view.seen seen is) l h

-- ---- the loop over the seats

pub all_mid : (P : ActorSeat → Type 0) (xs : List ActorSeat) (x : ActorSeat) (rest all : List ActorSeat) → xs ++ x ∷ rest ≡ all → All P all → P x
all_mid P xs x rest all is h = subst P (get_or-append_seam xs x rest x) (All-get_or P (xs ++ x ∷ rest) (length xs) x (let e = length-append xs (x ∷ rest) in omega arith) (subst (All P) (sym is) h))

pub nothing_left : {X : Type 0} (l : List X) → length l ≡ 0 → l ≡ []
nothing_left [] h = refl
nothing_left (x ∷ xs) h = absurd (omega arith)

pub record Rejoining (id : TableId) (start root : Pass) (seats done rest : List ActorSeat) (len : ℕ) (old now : List AnyActor) (room filled : ℕ) : Type 0 where
  pub split : done ++ rest ≡ seats
  pub counted : len ≡ length rest
  pub joining : Joining id start root done
  pub actors : now ≡ old ++ map (λ (x : ActorSeat). x.actor) done
  pub fits : filled + length rest ≤ room

actors_push : (done : List ActorSeat) (x : ActorSeat) → map (λ (y : ActorSeat). y.actor) (done ++ x ∷ []) ≡ map (λ (y : ActorSeat). y.actor) done ++ x.actor ∷ []
actors_push [] x = refl
actors_push (y ∷ done) x = ap (λ l. y.actor ∷ l) (actors_push done x)

pub rejoins_more : (id : TableId) (start root after : Pass) (seats done rest left : List ActorSeat) (len fewer : ℕ) (old now more : List AnyActor) (room filled room' filled' : ℕ) (x : ActorSeat)
    → Rejoining id start root seats done rest len old now room filled → All (Agrees id) seats → rest ≡ x ∷ left → fewer ≡ length left
    → after.table ≡ root.table → after.view ≡ learned (rejoined root.view x.seat.view) → StartsWith after.view.seen root.view.seen → StartsWith after.view.seen x.seat.view.seen
    → more ≡ now ++ x.actor ∷ [] → filled' ≡ filled + 1 → room' ≡ room
    → Rejoining id start after seats (done ++ x ∷ []) left fewer old more room' filled'
rejoins_more id start root after seats done rest left len fewer old now more room filled room' filled' x h agree next counted same view seen told items longer kept =
    let whole : done ++ x ∷ left ≡ seats = ap (λ l. done ++ l) (sym next) ∙ h.split in
    record {
      split = append_assoc done (x ∷ []) left ∙ whole;
      counted = counted;
      joining = joins_more id start root after done x h.joining (all_mid (Agrees id) done x left seats whole agree) same view seen told;
      actors = items ∙ ((λ i. h.actors i ++ x.actor ∷ []) ∙ append_assoc old (map (λ (y : ActorSeat). y.actor) done) (x.actor ∷ []) ∙ ap (λ l. old ++ l) (sym (actors_push done x)));
      fits = let was = h.fits in let short = ap length next in omega arith;
    }
