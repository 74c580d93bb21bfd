-- Which acts are answered with a byte that goes back to the script. A query's code does not: it makes a job.
use Rattle.std.specs.Prelude.{Bool, true, false}
use Rattle.acpi_regs.specs.declared.entry.Request.{Request}
use Rattle.acpi_regs.specs.declared.entry.Request.TheVariants as request
use Rattle.handler_script.specs.declared.act.Act.{Act}
use Rattle.handler_script.specs.declared.act.Act.TheVariants as act

-- the controller answers a read and the begin of burst mode (ACPI 6.5, sections 12.3.1 and 12.3.3)
abbrev pub brings_asked : Request → Bool
brings_asked (request.Rd x) = true
brings_asked request.Be = true
brings_asked _ = false

abbrev pub brings : Act → Bool
brings (act.Read c) = true
brings (act.Ask r) = brings_asked r
brings _ = false
