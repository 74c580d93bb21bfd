-- What additions to a cell of memory come to, in whatever order they are made.
use Rattle.std.specs.Prelude.{ℕ, ◌+◌, ◌*◌, ◌%◌, ◌<◌, ◌≡◌, ◌==◌, ◌&&◌, not, Bool, true, List, reverse, Some, slice_get, if◌then◌else◌}
use Rattle.std.specs.List.{list_all, sum_by}
use Rattle.acpi_regs.specs.declared.entry.Cell.{Cell}
use Rattle.acpi_regs.specs.declared.entry.Entry.{Entry}
use Rattle.acpi_regs.specs.declared.event.Event.{Event}
use Rattle.field_units.specs.declared.rules.LockRule.TheVariants as lock
use Rattle.field_units.specs.Bits.{in_span}
use Rattle.field_units.specs.Field.{Field}
use Rattle.handler_script.specs.declared.op.Op.{Op}
use Rattle.handler_script.specs.declared.op.Op.TheVariants as op
use Rattle.handler_script.specs.Left.{is_skip}
use Rattle.machine_desc.specs.Machine.{MachineData}
use Rattle.machine_history.specs.declared.parts.Job.{Job}
use Rattle.machine_history.specs.declared.parts.Job.TheVariants as job
use Rattle.machine_history.specs.Acts.{is_memory_cell}
use Rattle.machine_history.specs.Cells.{first_byte}
use Rattle.machine_history.specs.Jobs.{jobs}
use Rattle.machine_history.specs.Machine.{code_script, event_script}
use Rattle.machine_history.specs.Scripts.{script_of}
use Rattle.machine_history.specs.Values.{value}

-- ---- what is added

-- what an operation adds to field f
abbrev pub added : ℕ → Op → ℕ
added f (op.Add g v) = if g == f then v else 0
added f _ = 0

-- what the operations of a script add to it, all told
abbrev pub adds : ℕ → List Op → ℕ
adds f ops = sum_by (added f) ops

-- what the script of a job adds to it
abbrev pub job_adds : MachineData → ℕ → Job → ℕ
job_adds m f (job.Event n) = adds f (event_script m n)
job_adds m f (job.Code q) = adds f (code_script m q)
job_adds m f job.Query = 0

-- ---- the machines and cells of which the law speaks

-- every operation of every script is such a one
pub record EveryOp (P : Op → Bool) (m : MachineData) : Type 0 where
  pub firmware : (k : ℕ) → list_all P (script_of m k) ≡ true
  pub events : (n : Event) → list_all P (event_script m n) ≡ true
  pub codes : (q : ℕ) → list_all P (code_script m q) ≡ true

abbrev pub is_no_skip : Op → Bool
is_no_skip o = not (is_skip o)

-- it does not name field f, unless it adds to it
abbrev pub only_adds : ℕ → Op → Bool
only_adds f (op.Read g) = not (g == f)
only_adds f (op.Write g v) = not (g == f)
only_adds f _ = true

-- a byte of the field is this cell
abbrev pub touches : Field → Cell → Bool
touches field c = (field.region == c.region) && in_span field c.offset

-- A cell of memory that field f alone touches. The field is the cell's eight bits, an access of it needs the Global
-- Lock, and operations that name it do nothing but add to it.
pub record IsAddedTo (m : MachineData) (c : Cell) (f : ℕ) : Type 0 where
  pub memory : is_memory_cell m c ≡ true
  pub byte : first_byte m c < 256
  pub field : Field
  pub named : slice_get m.fields f ≡ Some field
  pub region : field.region ≡ c.region
  pub first : field.bit ≡ 8 * c.offset
  pub width : field.width ≡ 8
  pub lock : field.lock ≡ lock.Lock
  pub alone : (g : ℕ) (other : Field) → slice_get m.fields g ≡ Some other → touches other c ≡ true → g ≡ f
  pub adds : EveryOp (only_adds f) m

-- ---- the law

-- Such a cell ends as its first byte and all that was added, modulo 256: by the firmware's scripts, and by the script
-- of each job, as often as it was made.
abbrev pub SumsAdds : MachineData → List Entry → Type 0
SumsAdds m history = (c : Cell) (f : ℕ) → IsAddedTo m c f
    → value m (reverse history) c
    ≡ (first_byte m c + (sum_by (adds f) m.firmware + sum_by (job_adds m f) (jobs m (reverse history)))) % 256
