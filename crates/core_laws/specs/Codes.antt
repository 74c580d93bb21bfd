-- The codes of the runs of query handlers that were started (ACPI 6.5, section 5.6.4.1).
use Rattle.std.specs.Prelude.{ℕ, ◌≡◌, List, [], ◌∷◌, ◌++◌, Option, Some, None, slice_get}
use Rattle.acpi_regs.specs.declared.entry.Deed.{Deed}
use Rattle.acpi_regs.specs.declared.entry.Deed.TheVariants as deed
use Rattle.acpi_regs.specs.declared.entry.Entry.{Entry}
use Rattle.machine_desc.specs.Machine.{MachineData}
use Rattle.machine_history.specs.declared.parts.Job.{Job}
use Rattle.machine_history.specs.Jobs.{jobs}
use Rattle.machine_history.specs.Sentences.{code_of}

abbrev pub code_at : Option Job → List ℕ
code_at None = []
code_at (Some j) = code_of j

abbrev pub code_started : List Job → Deed → List ℕ
code_started made (deed.Start j) = code_at (slice_get made j)
code_started made _ = []

-- the codes of the runs that were started, in order of their starts
abbrev pub started_codes : MachineData → List Entry → List ℕ
started_codes m [] = []
started_codes m (e ∷ past) = started_codes m past ++ code_started (jobs m past) e.deed

abbrev pub IsFront : List ℕ → List ℕ → Type 0
IsFront xs ys = (rest : List ℕ) × (ys ≡ xs ++ rest)
