-- A split takes an actor from the root, and a join gives it back.
use Rattle.std.proofs.Common.{◌≡◌, cond, Bool, true, false, List, [], ◌∷◌, refl, sym, ap, subst, ◌∙◌, Option, Some, IsSome}
use Rattle.std.proofs.lemmas.Bool.{false_from_ne_true, or_from, or_parts}
use Rattle.acpi_regs.specs.declared.actor.Actor.{Actor}
use Rattle.acpi_regs.specs.Actor.{same_actor}
use Rattle.acpi_regs.proofs.LockActors.{actor_self, actor_true}
use Rattle.lock_table.specs.declared.view.Occupant.{Occupant}
use Rattle.lock_table.specs.declared.view.Occupant.TheVariants as who
use Rattle.lock_table.specs.declared.view.Part.{Part}
use Rattle.lock_table.specs.declared.view.View.{View}
use Rattle.lock_table.specs.Roots.{HasAllBut, HasFreshBut, is_among}
use Rattle.lock_table.specs.Views.{HasAll, IsRoot, find, first_view, fresh, gave, learned, less, more, rejoined, remove, root_parts, without}
use Rattle.lock_table.proofs.PartLists.{all_fresh, find_other}

apart_swap : (a b : Actor) → same_actor b a ≡ false → same_actor a b ≡ false
apart_swap a b apart = false_from_ne_true (same_actor a b) (λ same. absurd (no (sym apart ∙ subst (λ x. same_actor x a ≡ true) (actor_true a b same) (actor_self a))))
  where
    no : false ≡ true → ⊥
    no e = cc

pub splits_off : (away : List Actor) (a : Actor) (v : View) → HasAllBut away v → HasAllBut (a ∷ away) (without a v)
splits_off away a v has b known among =
    let parts = or_parts (same_actor b a) (is_among b away) among in
    of (v.who) (apart_swap a b parts.0) (has b known parts.1)
  where
    of : (w : Occupant) → same_actor a b ≡ false → IsSome (find b (root_parts w)) → IsSome (find b (root_parts (less a w)))
    of (who.Root ps) apart some = subst IsSome (sym (find_other a b ps apart)) some
    of (who.One p) apart some = some
    of who.Nobody apart some = some

pub joins_back : (away : List Actor) (v w : View) (p : Part) → IsRoot v.who → w.who ≡ who.One p → HasAllBut (p.actor ∷ away) v → HasAllBut away (learned (rejoined v w))
joins_back away v w p root one has b known among =
    subst (λ o. IsSome (find b (root_parts o))) (sym (ap (λ o. more o w.who) root.1 ∙ ap (more (who.Root root.0)) one)) (by_test (same_actor b p.actor) refl)
  where
    by_test : (t : Bool) → same_actor b p.actor ≡ t → IsSome (find b (p ∷ root.0))
    by_test true same = subst (λ c. IsSome (cond c (Some p) (find b root.0))) (sym same) refl
    by_test false apart = subst (λ c. IsSome (cond c (Some p) (find b root.0))) (sym apart) (subst (λ o. IsSome (find b (root_parts o))) root.1 (has b known (or_from (same_actor b p.actor) (is_among b away) apart among)))

pub still_root : (v w : View) → IsRoot v.who → IsRoot (learned (rejoined v w)).who
still_root v w root = subst IsRoot (ap (λ o. more o w.who) (sym root.1)) (of w.who)
  where
    of : (o : Occupant) → IsRoot (more (who.Root root.0) o)
    of (who.One p) = (p ∷ root.0, refl)
    of (who.Root ps) = (root.0, refl)
    of who.Nobody = (root.0, refl)

pub less_root : (a : Actor) (v : View) → IsRoot v.who → IsRoot (without a v).who
less_root a v root = subst IsRoot (ap (less a) (sym root.1)) (remove a root.0, refl)

pub has_all : (v : View) → HasAllBut [] v → HasAll v
has_all v has a known = has a known refl

-- ---- and none of those that it has did anything yet

pub fresh_first : HasFreshBut [] (gave [] first_view)
fresh_first a known among = all_fresh a known

pub fresh_splits : (away : List Actor) (a : Actor) (v : View) → HasFreshBut away v → HasFreshBut (a ∷ away) (without a v)
fresh_splits away a v has b known among =
    let parts = or_parts (same_actor b a) (is_among b away) among in
    of (v.who) (apart_swap a b parts.0) (has b known parts.1)
  where
    of : (w : Occupant) → same_actor a b ≡ false → find b (root_parts w) ≡ Some (fresh b) → find b (root_parts (less a w)) ≡ Some (fresh b)
    of (who.Root ps) apart is = find_other a b ps apart ∙ is
    of (who.One p) apart is = is
    of who.Nobody apart is = is

pub fresh_has : (away : List Actor) (v : View) → HasFreshBut away v → HasAllBut away v
fresh_has away v has a known among = some_of (has a known among)
  where
    some_of : {o : Option Part} → o ≡ Some (fresh a) → IsSome o
    some_of {o} e = subst IsSome (sym e) refl
