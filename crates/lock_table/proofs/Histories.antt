-- Lists of entries: those of one actor, and those behind a beginning.
use Rattle.std.proofs.Common.{◌≡◌, false, cond, List, [], ◌∷◌, ◌++◌, map, length, drop, refl, sym, ap, ◌∙◌, append_assoc, append-nil}
use Rattle.std.proofs.lemmas.List.Elements.{filter-append}
use Rattle.std.proofs.Math.Seq.{drop-append_seam}
use Rattle.acpi_regs.specs.declared.actor.Actor.{Actor}
use Rattle.acpi_regs.specs.declared.entry.Deed.{Deed}
use Rattle.acpi_regs.specs.declared.entry.Entry.{Entry}
use Rattle.acpi_regs.specs.Actor.{same_actor}
use Rattle.acpi_regs.specs.CoreEvents.{entry, freed, moved_all, is_holding}
use Rattle.acpi_regs.specs.History.{entries_of}
use Rattle.acpi_regs.proofs.LockActors.{actor_self}
use Rattle.lock_table.specs.declared.view.SeatPhase.{SeatPhase}
use Rattle.lock_table.specs.declared.view.SeatPhase.TheVariants as kept
use Rattle.lock_table.specs.Views.{StartsWith, after_deeds, deeds_of, let_go, phase_of}

-- ---- beginnings

pub starts_itself : (h : List Entry) → StartsWith h h
starts_itself h = ([], sym (append-nil h))

pub starts_further : (h first new : List Entry) → StartsWith h first → StartsWith (h ++ new) first
starts_further h first new s = (s.0 ++ new, ap (λ l. l ++ new) s.1 ∙ append_assoc first s.0 new)

pub new_behind : (seen new h : List Entry) → h ≡ seen ++ new → drop (length seen) h ≡ new
new_behind seen new h is = ap (drop (length seen)) is ∙ drop-append_seam seen new

-- ---- entries of one actor

of_self : (a : Actor) (deeds : List Deed) → entries_of (map (entry a) deeds) a ≡ map (entry a) deeds
of_self a [] = refl
of_self a (d ∷ deeds) = ap (λ b. cond b (entry a d ∷ entries_of (map (entry a) deeds) a) (entries_of (map (entry a) deeds) a)) (actor_self a) ∙ ap (λ l. entry a d ∷ l) (of_self a deeds)

of_another : (a b : Actor) (deeds : List Deed) → same_actor b a ≡ false → entries_of (map (entry a) deeds) b ≡ []
of_another a b [] apart = refl
of_another a b (d ∷ deeds) apart = ap (λ x. cond x (entry a d ∷ entries_of (map (entry a) deeds) b) (entries_of (map (entry a) deeds) b)) apart ∙ of_another a b deeds apart

-- the actor's own entries grow by its deeds, and no other's
pub of_more : (h : List Entry) (a : Actor) (deeds : List Deed) → entries_of (h ++ map (entry a) deeds) a ≡ entries_of h a ++ map (entry a) deeds
of_more h a deeds = filter-append (λ e. same_actor a e.actor) h (map (entry a) deeds) ∙ ap (λ l. entries_of h a ++ l) (of_self a deeds)

pub of_others : (h : List Entry) (a b : Actor) (deeds : List Deed) → same_actor b a ≡ false → entries_of (h ++ map (entry a) deeds) b ≡ entries_of h b
of_others h a b deeds apart = filter-append (λ e. same_actor b e.actor) h (map (entry a) deeds) ∙ ap (λ l. entries_of h b ++ l) (of_another a b deeds apart) ∙ append-nil (entries_of h b)

pub deeds_back : (a : Actor) (deeds : List Deed) → deeds_of (map (entry a) deeds) ≡ deeds
deeds_back a [] = refl
deeds_back a (d ∷ deeds) = ap (λ l. d ∷ l) (deeds_back a deeds)

-- ---- phases after entries

-- the kept phase after a turn means the phase after it
pub means_moved : (deeds : List Deed) (p : SeatPhase) → phase_of (let_go (after_deeds deeds p)) ≡ freed (moved_all deeds (phase_of p))
means_moved [] (kept.Lock p) = refl
means_moved [] kept.Free = refl
means_moved [] (kept.Holding hand) = refl
means_moved [] (kept.Pulsed ps) = refl
means_moved (d ∷ deeds) (kept.Lock p) = means_moved deeds _
means_moved (d ∷ deeds) kept.Free = means_moved deeds kept.Free
means_moved (d ∷ deeds) (kept.Holding hand) = means_moved deeds (kept.Holding hand)
means_moved (d ∷ deeds) (kept.Pulsed ps) = means_moved deeds (kept.Pulsed ps)

pub lets_go : (p : SeatPhase) → is_holding (phase_of (let_go p)) ≡ false
lets_go (kept.Lock p) = refl
lets_go kept.Free = refl
lets_go (kept.Holding hand) = refl
lets_go (kept.Pulsed ps) = refl
