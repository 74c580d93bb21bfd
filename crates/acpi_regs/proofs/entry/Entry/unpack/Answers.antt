use Rattle.std.proofs.Common.{◌≡◌, sym, subst, rules}
use Rattle.acpi_regs.specs.declared.entry.Entry.{Entry}
use Rattle.acpi_regs.specs.Packing.{Decodes, IsPackable, packing}
use Rattle.acpi_regs.specs.Unpacking.{entry_at}
use Rattle.acpi_regs.proofs.Codes.{decodes}
use Rattle.acpi_regs.proofs.entry.Entry.unpack.Goals as goal

pub returns-clause-stands : goal.returns-clause-stands
returns-clause-stands c =
    let reads : c.entry_of.result ≡ entry_at c.args.word = search rules in
    subst (Decodes Entry IsPackable packing c.args.word) (sym reads) (decodes c.args.word)
