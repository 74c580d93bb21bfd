use Rattle.std.proofs.Common.{arith, ◌≡◌, length, ◌<◌, if◌then◌else◌, subst, slice_set, sym, ◌∙◌}
use Rattle.event_chip.proofs.PlaceOrder.{kept, shown_at}
use Rattle.event_chip.proofs.Slots.{touched_one}
use Rattle.acpi_regs.specs.declared.event.Event.{Event}
use Rattle.acpi_regs.specs.Event.{same_event}
use Rattle.event_chip.specs.Chip.{slot_of, touched}
use Rattle.event_chip.specs.Kept.{IsKept, enables, is_set}
use Rattle.event_chip.proofs.chip.EventChip.touch.Goals as goal

pub follow-requires-clause-status : goal.follow-requires-clause-status
follow-requires-clause-status c =
    shown_at is_set c.self.inside.slots.items c.self.inside.words.status.words c.args.event c.rank_of-rank.result c.place_at-place.result c.index-old.result.now c.index-old.result.now c.self.invariant.size c.rank_of-rank.ensures.value c.rank_of-rank.ensures.bound c.place_at-place.ensures.value c.index-old.ensures c.self.invariant.status_bits

pub follow-requires-clause-enable : goal.follow-requires-clause-enable
follow-requires-clause-enable c =
    shown_at enables c.self.inside.slots.items c.self.inside.words.enable.words c.args.event c.rank_of-rank.result c.place_at-place.result c.index-old.result.now c.index-old.result.now c.self.invariant.size c.rank_of-rank.ensures.value c.rank_of-rank.ensures.bound c.place_at-place.ensures.value c.index-old.ensures c.self.invariant.enable_bits

pub invariant_of-self : goal.invariant_of-self
invariant_of-self c =
    let w = c.self.inside.words in
    let v = c.follow.new.self in
    let same : c.touch-new.result ≡ c.touch-new.new.self = c.touch-new.ensures.value ∙ sym c.touch-new.ensures.new in
    subst (λ s. IsKept (slice_set c.self.inside.slots.items c.rank_of-rank.result s) v.status.words v.enable.words v.summary) same
    (kept c.self.inside.slots.items w.status.words w.enable.words v.status.words v.enable.words w.summary v.summary c.args.event c.rank_of-rank.result c.place_at-place.result c.touch-new.result c.rank_of-rank.ensures.value c.rank_of-rank.ensures.bound c.place_at-place.ensures.value c.follow.ensures.status c.follow.ensures.enable c.follow.ensures.summary c.self.invariant)

pub returns : goal.returns
returns c =
    let slots = c.self.inside.slots.items in
    let size = c.self.invariant.size in
    let bound = c.rank_of-rank.ensures.bound in
    let within : c.rank_of-rank.result < length slots = omega arith in
    subst (λ old. (n : Event) → slot_of (slice_set slots c.rank_of-rank.result c.touch-new.new.self) n ≡ (if same_event c.args.event n then touched c.args.touch (slot_of old n) else slot_of old n))
    c.self.view_is
    (touched_one slots c.args.event c.args.touch c.rank_of-rank.result c.index_mut.result.now c.touch-new.new.self c.rank_of-rank.ensures.value within c.index_mut.ensures.value c.touch-new.ensures.new)
