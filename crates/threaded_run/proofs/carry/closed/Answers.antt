use Rattle.std.proofs.Common.{◌≡◌, ◌∙◌, true, subst}
use Rattle.acpi_regs.specs.CoreSound.{CoreSound, is_word}
use Rattle.machine_desc.specs.Machine.{MachineData}
use Rattle.machine_history.specs.Legal.{Legal}
use Rattle.threaded_run.specs.Raced.{turns_of}
use Rattle.threaded_run.proofs.Closed.{closed, small_word}
use Rattle.threaded_run.proofs.carry.closed.Goals as goal

pub new-requires : goal.new-requires
new-requires c = let leaves = c.close-board.ensures in small_word _ (subst (λ w. is_word w ≡ true) leaves.word leaves.sound.lock.agree.good)

pub returns-clause-sound : goal.returns-clause-sound
returns-clause-sound c =
    let m = c.args.machine.now in
    let leaves = c.close-board.ensures in
    let legal = subst (λ (x : MachineData). Legal x c.close-board.result.0.entries) (leaves.same_base ∙ c.requires.same) c.law_legal.ensures in
    let sound = subst (λ (x : MachineData). CoreSound x.devices leaves.core) c.requires.same leaves.sound in
    closed m (turns_of m) c.new.result c.close-board.result.0 c.close-board.result.1 c.args.actors.now c.args.root.view leaves.core
    c.law_rules.ensures c.new.ensures legal leaves.history leaves.word leaves.pins leaves.stands sound leaves.absent
    c.requires.whole c.requires.back c.requires.others
