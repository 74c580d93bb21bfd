-- What follows from what a judging did.
use Rattle.std.proofs.Common.{◌≡◌, ℕ, zero, suc, ◌+◌, ◌<◌, ◌≤◌, ◌^◌, ◌⊎◌, inl, inr, All, Bool, true, false, cond, List, [], ◌∷◌, ◌++◌, length, reverse, Option, refl, sym, ap, ◌∙◌, subst, arith, length-append}
use Rattle.std.proofs.lemmas.List.Elements.{All-append, All-cons, All-nil}
use Rattle.acpi_regs.specs.declared.entry.Entry.{Entry}
use Rattle.acpi_regs.specs.declared.event.Event.{Event}
use Rattle.acpi_regs.specs.Core.{event_at, events_below, if_in}
use Rattle.history_text.specs.Lines.{BadLine, IsReadBack, log_lines}
use Rattle.history_text.specs.Named.{IsEntry, IsEvent}
use Rattle.history_text.specs.Text.{entry_line, entry_lines, entry_text, log_text, machine_line, rest_line, stuck, stuck_lines}
use Rattle.history_text.proofs.BadLines.{no_bad_line, one_log, one_machine}
use Rattle.machine_desc.specs.Machine.{MachineData}
use Rattle.machine_history.specs.Events.{parked}
use Rattle.machine_reader.specs.Canonical.{canonical}
use Rattle.run_checker.specs.declared.verdict.Verdict.{Verdict}
use Rattle.run_checker.specs.declared.verdict.Verdict.TheVariants as verdict
use Rattle.run_checker.specs.Verdict.{Judges}
use Rattle.run_checker.proofs.OneVerdict.{one_verdict}
use Rattle.acpi_commands.specs.declared.status.Status.{Status}
use Rattle.acpi_commands.specs.declared.status.Status.TheVariants as status
use Rattle.acpi_commands.specs.Check.{FromLog, HasVerdict, IsCompleteLog, RefusesLog}

pub from_refusal : (bytes : List ℕ) (sink_kept : Type 0) (held held' : Option (List ℕ)) (s : Status) → sink_kept → RefusesLog bytes s → FromLog bytes sink_kept held held' s
from_refusal bytes sink_kept held held' (status.BadLog n) kept refuses = (kept, refuses)
from_refusal bytes sink_kept held held' (status.Illegal line broken) kept refuses = (kept, refuses)
from_refusal bytes sink_kept held held' (status.Unfinished a) kept refuses = (kept, refuses)
from_refusal bytes sink_kept held held' status.Memory kept refuses = (kept, refuses)
from_refusal bytes sink_kept held held' _ kept refuses = absurd refuses

-- no refusal is a failed write
pub refusal_no_fault : (bytes : List ℕ) (s : Status) → RefusesLog bytes s → s ≡ status.WriteFault → ⊥
refusal_no_fault bytes s refuses is = subst (RefusesLog bytes) is refuses

-- ---- a complete log

pub complete_of : (bytes : List ℕ) (m : MachineData) (entries : List Entry) (told : List Event) (last : ℕ) → bytes ≡ log_lines (canonical m) entries told last → IsReadBack m → All IsEntry entries → Judges m entries told last verdict.Complete → IsCompleteLog bytes m entries × (last ≡ length entries)
complete_of bytes m entries told last is read named judged = (
  record {
    text_is = is ∙ (ap (λ t. log_lines (canonical m) entries t last) judged.1.0 ∙ ap (λ n. log_lines (canonical m) entries (stuck m entries) n) judged.1.1);
    read_back = read;
    named = named;
    complete = judged.0;
  },
  judged.1.1,
)

-- the events of a set have the numbers of their type
event_named : (k : ℕ) → k < 261 → IsEvent (event_at k)
event_named zero less = tt
event_named (suc zero) less = tt
event_named (suc (suc zero)) less = tt
event_named (suc (suc (suc zero))) less = tt
event_named (suc (suc (suc (suc zero)))) less = tt
event_named (suc (suc (suc (suc (suc k))))) less = omega (arith, less)

one_named : (set : Event → Bool) (n : Event) → IsEvent n → All IsEvent (if_in set n)
one_named set n is = by_test (set n)
  where
    by_test : (b : Bool) → All IsEvent (cond b (n ∷ []) [])
    by_test true = All-cons IsEvent n [] is (All-nil IsEvent)
    by_test false = All-nil IsEvent

below_named : (set : Event → Bool) (n : ℕ) → n ≤ 261 → All IsEvent (events_below set n)
unfolding events_below
below_named set zero few = All-nil IsEvent
below_named set (suc n) few = All-append IsEvent (events_below set n) (if_in set (event_at n)) (below_named set n (omega (arith, few))) (one_named set (event_at n) (event_named n (omega (arith, few))))

-- there are fewer entries than bytes
few_entries : (es : List Entry) → length es ≤ length (entry_lines es)
few_entries [] = omega arith
few_entries (e ∷ es) =
    let line : length (entry_line e) ≡ length (entry_text e) + 1 = length-append (entry_text e) (10 ∷ []) in
    omega (arith, few_entries es, line, length-append (entry_line e) (entry_lines es))

fewer : (m : MachineData) (history : List Entry) → length history ≤ length (log_text m (canonical m) history)
fewer m history =
    let last = stuck_lines (stuck m history) ++ rest_line (length history) in
    omega (arith, few_entries history, length-append (machine_line (canonical m)) (entry_lines history ++ last), length-append (entry_lines history) last)

-- ---- what is complete is told so

other_verdict : (bytes : List ℕ) (m : MachineData) (history : List Entry) (v : Verdict) → length bytes ≤ 67108864 → IsCompleteLog bytes m history → HasVerdict bytes v → v ≡ verdict.Complete
other_verdict bytes m history v few whole has =
    let short : length history < 2 ^ 32 = omega (arith, fewer m history, ap length whole.text_is, few) in
    let same = one_log has.machine m has.entries history has.told (stuck m history) has.last (length history) has.entries_named whole.named has.told_named (below_named (parked m (reverse history)) 261 (omega arith)) has.small short (sym has.text_is ∙ whole.text_is) in
    let machine_is = one_machine has.machine m has.read_back whole.read_back same.0 in
    let one = subst (λ (x : MachineData). Judges x has.entries has.told has.last v) machine_is has.judged in
    let two = subst (λ (x : List Entry). Judges m x has.told has.last v) same.1 one in
    let three = subst (λ (x : List Event). Judges m history x has.last v) same.2 two in
    let four = subst (λ (x : ℕ). Judges m history (stuck m history) x v) same.3 three in
    one_verdict m history (stuck m history) (length history) v verdict.Complete four (whole.complete, (refl, refl))

abbrev pub IsDone : Status → Type 0
IsDone s = (s ≡ status.Ok) ⊎ ((s ≡ status.Memory) ⊎ (s ≡ status.WriteFault))

pub log_done : (bytes : List ℕ) (m : MachineData) (history : List Entry) (sink_kept : Type 0) (held held' : Option (List ℕ)) (s : Status) → length bytes ≤ 67108864 → IsCompleteLog bytes m history → FromLog bytes sink_kept held held' s → IsDone s
log_done bytes m history sink_kept held held' status.Ok few whole from = inl refl
log_done bytes m history sink_kept held held' status.Memory few whole from = inr (inl refl)
log_done bytes m history sink_kept held held' status.WriteFault few whole from = inr (inr refl)
log_done bytes m history sink_kept held held' (status.BadLog n) few whole from =
    absurd (no_bad_line m history (stuck m history) (length history) n whole.read_back whole.named (below_named (parked m (reverse history)) 261 (omega arith)) (omega (arith, fewer m history, ap length whole.text_is, few)) (subst (λ (b : List ℕ). BadLine b n) whole.text_is from.1))
log_done bytes m history sink_kept held held' (status.Illegal line broken) few whole from = let e = other_verdict bytes m history (verdict.Illegal line broken) few whole from.1 in absurd (let x = e in cc)
log_done bytes m history sink_kept held held' (status.Unfinished a) few whole from = let e = other_verdict bytes m history (verdict.Unfinished a) few whole from.1 in absurd (let x = e in cc)
log_done bytes m history sink_kept held held' _ few whole from = absurd from.1
