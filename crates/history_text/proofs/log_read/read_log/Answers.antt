use Rattle.std.proofs.Common.{◌≡◌, ◌≤◌, Option, refl, sym, subst}
use Rattle.std.specs.Prelude.{MatchOption}
use Rattle.machine_desc.specs.Machine.{MachineData}
use Rattle.machine_desc.specs.Weight.{weight_of}
use Rattle.machine_reader.specs.Canonical.{canonical}
use Rattle.machine_reader.specs.Description.{limit}
use Rattle.history_text.specs.Lines.{Entries, IsMachineText, IsReadBack, Start, machine_text}
use Rattle.history_text.specs.Reading.{Names, NamesNext}
use Rattle.history_text.proofs.Described.{small_weight}
use Rattle.history_text.proofs.Steps.{if_err, if_ok, names_later, start_other}
use Rattle.history_text.proofs.log_read.read_log.Goals as goal

pub returns-in-Ok-Some-clause-weight : goal.returns-in-Ok-Some-clause-weight
returns-in-Ok-Some-clause-weight c =
    let m = c.in-Ok-Some.machine in
    let found = subst (λ (o : Option MachineData). MatchOption o (IsMachineText c.in-Some.line.now → ⊥) (λ m. (machine_text (canonical m) ≡ c.in-Some.line.now) × IsReadBack m)) c.in-Ok-Some.field-0-is c.in-Ok-Some.ensures in
    let light : weight_of m ≤ limit = small_weight (canonical m) m found.1 in
    if_ok (λ log. log.machine ≡ m) (λ log. weight_of log.machine ≤ limit) c.read_behind.result (λ log same. subst (λ m. weight_of m ≤ limit) (sym same) light) c.read_behind.ensures.machine

pub returns-in-Ok-Some-clause-bad : goal.returns-in-Ok-Some-clause-bad
returns-in-Ok-Some-clause-bad c =
    let m = c.in-Ok-Some.machine in
    let found = subst (λ (o : Option MachineData). MatchOption o (IsMachineText c.in-Some.line.now → ⊥) (λ m. (machine_text (canonical m) ≡ c.in-Some.line.now) × IsReadBack m)) c.in-Ok-Some.field-0-is c.in-Ok-Some.ensures in
    if_err (NamesNext Entries c.in-Some.rest.now) (Names Start c.args.bytes.now) c.read_behind.result (names_later c.args.bytes.now c.in-Some.line.now c.in-Some.rest.now c.in-Some.ensures.cases (canonical m, (m, found.1, refl), found.0)) c.read_behind.ensures.bad

pub returns-in-Ok-None-clause-bad : goal.returns-in-Ok-None-clause-bad
returns-in-Ok-None-clause-bad c =
    let none = subst (λ (o : Option MachineData). MatchOption o (IsMachineText c.in-Some.line.now → ⊥) (λ m. (machine_text (canonical m) ≡ c.in-Some.line.now) × IsReadBack m)) c.in-Ok-None.field-0-is c.in-Ok-None.ensures in
    start_other c.args.bytes.now c.in-Some.line.now c.in-Some.rest.now c.in-Some.ensures.cases none
