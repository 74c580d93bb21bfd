use Rattle.std.proofs.Common.{sym, ◌∙◌}
use Rattle.acpi_regs.specs.declared.event.Listed.{Listed}
use Rattle.acpi_regs.specs.Event.{same_event}
use Rattle.machine_desc.specs.Machine.{listed_part}
use Rattle.machine_desc.proofs.EachItem.{any_mapped}
use Rattle.machine_desc.proofs.known.is_listed.Goals as goal

pub returns : goal.returns
returns c = c.any_names.ensures ∙ sym (any_mapped (λ (x : Listed). same_event x.event c.args.event) listed_part c.args.events.now)
