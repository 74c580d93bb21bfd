-- What the controller's entries are: allowed, no latches and none of the lock.
use Rattle.std.proofs.Common.{Some, List, refl}
use Rattle.std.specs.Option.{option_map}
use Rattle.acpi_regs.specs.declared.actor.Actor.{Actor}
use Rattle.acpi_regs.specs.declared.entry.Deed.TheVariants as deed
use Rattle.acpi_regs.specs.declared.entry.Effect.TheVariants as effect
use Rattle.acpi_regs.specs.declared.entry.Entry.{Entry}
use Rattle.machine_desc.specs.Machine.{MachineData}
use Rattle.machine_history.specs.Steps.{ctl_entry, ctl_move, where_may}
use Rattle.world.proofs.Entries.{Each, otherwise-each}
use Rattle.world.proofs.FreeTurns.{Plain, plain}

pub ctl_entry-plain : (m : MachineData) (past : List Entry) (a : Actor) → Each (Plain m past a) (ctl_entry m past a)
ctl_entry-plain m past a =
    otherwise-each (Plain m past a) (where_may m past a (option_map deed.Ctl (ctl_move m past))) (where_may m past a (Some (deed.Ctl effect.Calm)))
    (plain m past a deed.Ctl (λ x. refl) (λ x. refl) (ctl_move m past))
    (plain m past a deed.Ctl (λ x. refl) (λ x. refl) (Some effect.Calm))
