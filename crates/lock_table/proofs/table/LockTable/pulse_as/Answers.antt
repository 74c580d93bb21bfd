use Rattle.std.proofs.Common.{◌≡◌, ◌<◌, ◌+◌, ◌*◌, ◌%◌, ◌^◌, sym, subst, ap, ◌∙◌, arith}
use Rattle.acpi_regs.specs.Event.{bit_of, event_rank, word_of}
use Rattle.acpi_regs.specs.Core.{all_events}
use Rattle.lock_table.specs.declared.view.View.{View}
use Rattle.lock_table.specs.Views.{ForOne, IsNext}
use Rattle.lock_table.proofs.PinWord.{pulses_keep}
use Rattle.lock_table.proofs.table.LockTable.pulse_as.Goals as goal

pub fetch_or-found-requires : goal.fetch_or-found-requires
fetch_or-found-requires g c =
    let shared = c.args.self.now.table.shared in
    let words = c.args.self.now.sized.0 in
    let small = c.pin_of-word.ensures.small.0 in
    let there : c.taken-inner.result.table_id ≡ shared.table_id = cc in
    let view : c.taken-inner.result.me.0 ≡ c.args.seat.now.view = cc in
    let within : c.pin_of-word.result.0 < shared.table_id.words = omega arith in
    let lists = g.B.Base.PulseLists.lists (g.B.Recorded.base shared.key) in
    let e = g.W.Raises.event in
    let same : c.args.event ≡ e = sym c.requires.named in
    let next = subst (λ (v : View). ForOne (IsNext lists e) v.who) (sym view) (subst (λ n. ForOne (IsNext lists n) c.args.seat.now.view.who) same c.requires.next) in
    let known = subst (λ n. event_rank n < all_events) same c.pin_of-word.ensures.known in
    let place : c.pin_of-word.result.0 ≡ word_of e + 2 = c.pin_of-word.ensures.word ∙ ap (λ n. word_of n + 2) same in
    let mask : 1 * 2 ^ c.pin_of-word.result.1 % 2 ^ 64 ≡ 1 * 2 ^ bit_of e % 2 ^ 64 = ap (λ b. 1 * 2 ^ b % 2 ^ 64) (c.pin_of-word.ensures.bit ∙ ap bit_of same) in
    (there, within, pulses_keep g.B.Base.PulseLists.lists g.B.Recorded.base g.B.Recorded.entries shared.key shared.table_id.slots c.taken-inner.result.id c.pin_of-word.result.0 (1 * 2 ^ c.pin_of-word.result.1 % 2 ^ 64) e c.taken-inner.result.me place mask known next)
