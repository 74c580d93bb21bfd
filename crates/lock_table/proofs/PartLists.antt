-- Lists of parts: what holds of each, who is found, and who stays.
use Rattle.std.proofs.Common.{◌≡◌, Bool, true, false, cond, ℕ, zero, suc, ◌<◌, arith, List, [], ◌∷◌, IsSome, Option, Some, None, refl, ap, subst, ◌∙◌, unwrap_or}
use Rattle.std.proofs.lemmas.Bool.{ltb-true}
use Rattle.acpi_regs.specs.declared.actor.Actor.{Actor}
use Rattle.acpi_regs.specs.declared.actor.Actor.TheVariants as actor
use Rattle.acpi_regs.specs.Actor.{same_actor}
use Rattle.acpi_regs.proofs.LockActors.{actor_true}
use Rattle.lock_table.specs.declared.view.Part.{Part}
use Rattle.lock_table.specs.Views.{EachPart, find, fresh, fresh_parts, is_known, remove}

pub each_map : (P Q : Part → Type 0) → ((p : Part) → P p → Q p) → (ps : List Part) → EachPart P ps → EachPart Q ps
each_map P Q f [] h = tt
each_map P Q f (p ∷ ps) h = (f p h.0, each_map P Q f ps h.1)

-- who is found is the actor's part
pub each_found : (P : Part → Type 0) (a : Actor) (ps : List Part) (p : Part) → EachPart P ps → find a ps ≡ Some p → P p × (a ≡ p.actor)
each_found P a [] p h is = cc
each_found P a (q ∷ ps) p h is = by_test (each_found P a ps p h.1) (same_actor a q.actor) refl is
  where
    by_test : (find a ps ≡ Some p → P p × (a ≡ p.actor)) → (b : Bool) → same_actor a q.actor ≡ b → cond b (Some q) (find a ps) ≡ Some p → P p × (a ≡ p.actor)
    by_test rest true same it =
        let e : q ≡ p = ap (λ o. unwrap_or o q) it in
        subst (λ x. P x × (a ≡ x.actor)) e (h.0, actor_true a q.actor same)
    by_test rest false apart it = rest it

pub some_found : (a : Actor) (ps : List Part) → IsSome (find a ps) → (p : Part) × (find a ps ≡ Some p)
some_found a ps some = by_case (find a ps) refl some
  where
    by_case : (o : Option Part) → find a ps ≡ o → IsSome o → (p : Part) × (find a ps ≡ Some p)
    by_case None is some = cc
    by_case (Some p) is some = (p, is)

-- who stays is another, and has what each has
pub each_other : (P Q : Part → Type 0) (a : Actor) → ((p : Part) → same_actor a p.actor ≡ false → P p → Q p) → (ps : List Part) → EachPart P ps → EachPart Q (remove a ps)
each_other P Q a f [] h = tt
each_other P Q a f (p ∷ ps) h = by_test (each_other P Q a f ps h.1) (same_actor a p.actor) refl
  where
    by_test : EachPart Q (remove a ps) → (b : Bool) → same_actor a p.actor ≡ b → EachPart Q (cond b (remove a ps) (p ∷ remove a ps))
    by_test rest true same = rest
    by_test rest false apart = (f p apart h.0, rest)

-- and is found as before
pub find_other : (a b : Actor) (ps : List Part) → same_actor a b ≡ false → find b (remove a ps) ≡ find b ps
find_other a b [] other = refl
find_other a b (p ∷ ps) other = by_tests (find_other a b ps other) (same_actor a p.actor) (same_actor b p.actor) refl refl
  where
    both : (z : Bool) → z ≡ true → z ≡ false → ⊥
    both true is isnt = cc
    both false is isnt = cc

    by_tests : find b (remove a ps) ≡ find b ps → (x y : Bool) → same_actor a p.actor ≡ x → same_actor b p.actor ≡ y → find b (cond x (remove a ps) (p ∷ remove a ps)) ≡ cond y (Some p) (find b ps)
    by_tests rest true true gone same = absurd (both (same_actor a b) (ap (same_actor a) (actor_true b p.actor same) ∙ gone) other)
    by_tests rest true false gone apart = rest
    by_tests rest false true stays same = ap (λ z. cond z (Some p) (find b (remove a ps))) same
    by_tests rest false false stays apart = ap (λ z. cond z (Some p) (find b (remove a ps))) apart ∙ rest

-- ---- the first parts

pub each_fresh : (P : Part → Type 0) → ((a : Actor) → is_known a ≡ true → P (fresh a)) → EachPart P fresh_parts
each_fresh P f = (
  f actor.Int refl,
  (
    f actor.Poll refl,
    (
      f actor.Ec refl,
      (
        f (actor.Worker 0) refl,
        (
          f (actor.Worker 1) refl,
          (
            f (actor.Worker 2) refl,
            (
              f (actor.Worker 3) refl,
              (
                f (actor.Device 0) refl,
                (
                  f (actor.Device 1) refl,
                  (
                    f (actor.Device 2) refl,
                    (
                      f (actor.Device 3) refl,
                      (
                        f (actor.Device 4) refl,
                        (
                          f (actor.Device 5) refl,
                          (
                            f (actor.Device 6) refl,
                            (
                              f (actor.Device 7) refl,
                              (
                                f (actor.Firmware 0) refl,
                                (f (actor.Firmware 1) refl, (f (actor.Firmware 2) refl, (f (actor.Firmware 3) refl, (f (actor.Firmware 4) refl, (f (actor.Firmware 5) refl, (f (actor.Firmware 6) refl, (f (actor.Firmware 7) refl, tt))))))),
                              ),
                            ),
                          ),
                        ),
                      ),
                    ),
                  ),
                ),
              ),
            ),
          ),
        ),
      ),
    ),
  ),
)

below_four : (P : ℕ → Type 0) → P 0 → P 1 → P 2 → P 3 → (k : ℕ) → k < 4 → P k
below_four P p0 p1 p2 p3 zero below = p0
below_four P p0 p1 p2 p3 (suc zero) below = p1
below_four P p0 p1 p2 p3 (suc (suc zero)) below = p2
below_four P p0 p1 p2 p3 (suc (suc (suc zero))) below = p3
below_four P p0 p1 p2 p3 (suc (suc (suc (suc k)))) below = absurd (omega arith)

below_eight : (P : ℕ → Type 0) → P 0 → P 1 → P 2 → P 3 → P 4 → P 5 → P 6 → P 7 → (k : ℕ) → k < 8 → P k
below_eight P p0 p1 p2 p3 p4 p5 p6 p7 zero below = p0
below_eight P p0 p1 p2 p3 p4 p5 p6 p7 (suc zero) below = p1
below_eight P p0 p1 p2 p3 p4 p5 p6 p7 (suc (suc zero)) below = p2
below_eight P p0 p1 p2 p3 p4 p5 p6 p7 (suc (suc (suc zero))) below = p3
below_eight P p0 p1 p2 p3 p4 p5 p6 p7 (suc (suc (suc (suc zero)))) below = p4
below_eight P p0 p1 p2 p3 p4 p5 p6 p7 (suc (suc (suc (suc (suc zero))))) below = p5
below_eight P p0 p1 p2 p3 p4 p5 p6 p7 (suc (suc (suc (suc (suc (suc zero)))))) below = p6
below_eight P p0 p1 p2 p3 p4 p5 p6 p7 (suc (suc (suc (suc (suc (suc (suc zero))))))) below = p7
below_eight P p0 p1 p2 p3 p4 p5 p6 p7 (suc (suc (suc (suc (suc (suc (suc (suc k)))))))) below = absurd (omega arith)

pub all_fresh : (a : Actor) → is_known a ≡ true → find a fresh_parts ≡ Some (fresh a)
all_fresh actor.Int known = refl
all_fresh actor.Poll known = refl
all_fresh actor.Ec known = refl
all_fresh (actor.Worker k) known = below_four (λ j. find (actor.Worker j) fresh_parts ≡ Some (fresh (actor.Worker j))) refl refl refl refl k (ltb-true k 4 known)
all_fresh (actor.Device k) known = below_eight (λ j. find (actor.Device j) fresh_parts ≡ Some (fresh (actor.Device j))) refl refl refl refl refl refl refl refl k (ltb-true k 8 known)
all_fresh (actor.Firmware k) known = below_eight (λ j. find (actor.Firmware j) fresh_parts ≡ Some (fresh (actor.Firmware j))) refl refl refl refl refl refl refl refl k (ltb-true k 8 known)
