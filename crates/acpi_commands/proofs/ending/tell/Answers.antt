use Rattle.std.proofs.Common.{◌≡◌, refl}
use Rattle.acpi_commands.specs.Ending.{error_line, status_line}
use Rattle.acpi_commands.specs.declared.status.Status.{Status}
use Rattle.acpi_commands.specs.declared.status.Status.TheVariants as status
use Rattle.acpi_commands.proofs.ending.tell.Goals as goal

-- of each status but Ok its line is said
said : (s : Status) → (s ≡ status.Ok → ⊥) → error_line s ≡ status_line s
said status.Ok refused = absurd (refused refl)
said _ refused = refl

pub returns-in_default : goal.returns-in_default
returns-in_default g c = record {
  ends = rw (said c.args.status.now c.in_default.not-Ok) c.tell_refusal.ensures.ends;
  cause = c.tell_refusal.ensures.cause;
  told = c.tell_refusal.ensures.told;
}
