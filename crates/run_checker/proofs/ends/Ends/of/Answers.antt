use Rattle.std.proofs.Common.{List, Bool, Option, ℕ, ap, subst, ◌∙◌, reverse, nat_lt, if◌then◌else◌, None}
use Rattle.std.specs.Bool.{MatchBool}
use Rattle.acpi_regs.specs.declared.actor.Side.TheVariants as side
use Rattle.acpi_regs.specs.declared.event.Event.{Event}
use Rattle.machine_history.specs.Wire.{codes}
use Rattle.run_checker.specs.declared.ends.Signals.{Signals}
use Rattle.run_checker.specs.Ends.{AllListsSet, SomeMisses, signals_of}
use Rattle.run_checker.proofs.Given.{answer, code_waits, pulse_left}
use Rattle.run_checker.proofs.ends.Ends.of.Goals as goal

pub returns : goal.returns
returns c =
    let past = reverse c.args.entries.now in
    let bits = c.latched-latched.result in
    record {
      code_is = code_waits c.queue_left.result.waiting (codes past) (ap (λ q. q.waiting) c.queue_left.ensures);
      pulse_is = pulse_left c.args.machine.now past bits c.some_miss.result c.latched-latched.ensures (subst (λ (lists : List (List Event)). MatchBool c.some_miss.result (SomeMisses bits lists) (AllListsSet bits lists)) c.devices.ensures c.some_miss.ensures);
      os_is = c.answerable.ensures ∙ answer c.signals_made-os.result (signals_of side.Os past) c.signals_made-firmware.result (signals_of side.Firmware past) c.signals_made-os.ensures c.signals_made-firmware.ensures;
      firmware_is = c.answerable-2.ensures ∙ answer c.signals_made-firmware.result (signals_of side.Firmware past) c.signals_made-os.result (signals_of side.Os past) c.signals_made-firmware.ensures c.signals_made-os.ensures;
    }
