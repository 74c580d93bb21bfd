-- How the lines of parked events join, event by event.
use Rattle.std.proofs.Common.{ℕ, zero, suc, ◌+◌, ◌≤◌, ◌<◌, ◌≡◌, ◌==◌, Bool, true, false, List, [], ◌∷◌, ◌++◌, Option, refl, sym, ap, ◌∙◌, subst, append_assoc, add-one, arith}
use Rattle.std.proofs.lemmas.Bool.{eqb-false, eqb-true}
use Rattle.std.proofs.lemmas.List.{append-nil}
use Rattle.acpi_io.specs.Sink.{AddsFront}
use Rattle.acpi_regs.specs.declared.event.Event.{Event}
use Rattle.acpi_regs.specs.Core.{event_at, events_below, events_of, if_in}
use Rattle.history_text.specs.Text.{stuck_line, stuck_lines}
use Rattle.history_text.specs.Written.{Leaves}
use Rattle.history_text.proofs.Writing.{Leaves-Leaves, Leaves-nothing, fails_before, then_fails}

stuck_lines-append : (some others : List Event) → stuck_lines (some ++ others) ≡ stuck_lines some ++ stuck_lines others
stuck_lines-append [] others = refl
stuck_lines-append (n ∷ some) others =
    ap (λ t. stuck_line n ++ t) (stuck_lines-append some others) ∙ sym (append_assoc (stuck_line n) (stuck_lines some) (stuck_lines others))

-- the lines of one event more
pub one_more : (set : Event → Bool) (k : ℕ) → stuck_lines (events_below set (k + 1)) ≡ stuck_lines (events_below set k) ++ stuck_lines (if_in set (event_at k))
unfolding events_below
one_more set k = rw (add-one k) (stuck_lines-append (events_below set k) (if_in set (event_at k)))

below_next : (set : Event → Bool) (n : ℕ) → events_below set (suc n) ≡ events_below set n ++ if_in set (event_at n)
unfolding events_below
below_next set n = refl

-- the events below a place are a front of those below a further one
pub front : (set : Event → Bool) (k n : ℕ) → k ≤ n → (rest : List Event) × (events_below set n ≡ events_below set k ++ rest)
front set k zero within = let none : k ≡ 0 = omega arith in rw none ([], sym (append-nil (events_below set 0)))
front set k (suc n) within = by_same (k == suc n) refl (λ less. front set k n less)
  where
    further : (rest : List Event) × (events_below set n ≡ events_below set k ++ rest) → (rest : List Event) × (events_below set (suc n) ≡ events_below set k ++ rest)
    further r = (r.0 ++ if_in set (event_at n), below_next set n ∙ (ap (λ l. l ++ if_in set (event_at n)) r.1 ∙ append_assoc (events_below set k) r.0 (if_in set (event_at n))))

    by_same : (b : Bool) → (k == suc n) ≡ b → (k ≤ n → (rest : List Event) × (events_below set n ≡ events_below set k ++ rest)) → (rest : List Event) × (events_below set (suc n) ≡ events_below set k ++ rest)
    by_same true is earlier = ([], ap (events_below set) (sym (eqb-true k (suc n) is)) ∙ sym (append-nil (events_below set k)))
    by_same false is earlier = let other = eqb-false k (suc n) is in further (earlier (omega (arith, other)))

pub parked_none : (known : Option (List ℕ)) (waiting : List ℕ) (set : Event → Bool) → Leaves known known (waiting ++ stuck_lines (events_below set 0)) waiting
unfolding events_below
parked_none known waiting set = subst (λ t. Leaves known known t waiting) (sym (append-nil waiting)) (Leaves-nothing known waiting)

pub parked_put : (old mid new : Option (List ℕ)) (first waiting after : List ℕ) (set : Event → Bool) (k : ℕ) (n : Event) → n ≡ event_at k → Leaves old mid (first ++ stuck_lines (events_below set k)) waiting → Leaves mid new (waiting ++ stuck_lines (if_in set n)) after → Leaves old new (first ++ stuck_lines (events_below set (k + 1))) after
parked_put old mid new first waiting after set k n is before next =
    rw (one_more set k, ← is) (subst (λ t. Leaves old new t after) (append_assoc first (stuck_lines (events_below set k)) (stuck_lines (if_in set n))) (Leaves-Leaves old mid new (first ++ stuck_lines (events_below set k)) waiting (stuck_lines (if_in set n)) after before next))

pub parked_failed : (old mid new : Option (List ℕ)) (first waiting : List ℕ) (set : Event → Bool) (k : ℕ) (n : Event) → n ≡ event_at k → k < 261 → Leaves old mid (first ++ stuck_lines (events_below set k)) waiting → AddsFront mid new (waiting ++ stuck_lines (if_in set n)) → AddsFront old new (first ++ stuck_lines (events_of set))
parked_failed old mid new first waiting set k n is below before failed =
    let r = front set (k + 1) 261 (omega arith) in
    let lines : stuck_lines (events_of set) ≡ (stuck_lines (events_below set k) ++ stuck_lines (if_in set (event_at k))) ++ stuck_lines r.0 = ap stuck_lines r.1 ∙ (stuck_lines-append (events_below set (k + 1)) r.0 ∙ ap (λ t. t ++ stuck_lines r.0) (one_more set k)) in
    rw lines (fails_before old new first (stuck_lines (events_below set k) ++ stuck_lines (if_in set (event_at k))) (stuck_lines r.0) (then_fails old mid new first (stuck_lines (events_below set k)) (stuck_lines (if_in set (event_at k))) waiting before (subst (λ x. AddsFront mid new (waiting ++ stuck_lines (if_in set x))) is failed)))
