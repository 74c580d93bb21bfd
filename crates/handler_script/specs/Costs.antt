-- What the acts of a script cost at most, where each act has a price.
use Rattle.std.specs.Prelude.{◌≡◌, ◌≤◌, ℕ, zero, suc, ◌+◌, ◌*◌, Bool, false, List, [], ◌∷◌, Option, Some, None, slice_get, if◌then◌else◌}
use Rattle.acpi_regs.specs.declared.entry.Cell.{Cell}
use Rattle.acpi_regs.specs.declared.entry.Request.TheVariants as request
use Rattle.field_units.specs.Bits.{byte_count}
use Rattle.field_units.specs.Field.{Field}
use Rattle.handler_script.specs.declared.act.Act.{Act}
use Rattle.handler_script.specs.declared.act.Act.TheVariants as act
use Rattle.handler_script.specs.declared.op.Op.{Op}
use Rattle.handler_script.specs.declared.op.Op.TheVariants as op
use Rattle.handler_script.specs.Accepts.{Accepted}
use Rattle.handler_script.specs.Left.{held_after}
use Rattle.handler_script.specs.Parts.{bursts, read_act, reads_first, takes_lock, write_act}
use Rattle.handler_script.specs.Plan.{Plan, Do, End, plan}

-- whatever its acts are answered, a plan costs no more than n
abbrev pub Costs : (Act → ℕ) → Plan → ℕ → Type 0
Costs price End n = Unit {0}
Costs price (Do needs a next) n = (rest : ℕ) × (price a + rest ≤ n) × ((byte : ℕ) → Costs price (next byte) rest)

-- the price of an access does not depend on its place and its byte
pub record IsUniform (price : Act → ℕ) : Type 0 where
  pub reads : (c d : Cell) → price (act.Read c) ≡ price (act.Read d)
  pub writes : (c d : Cell) (v w : ℕ) → price (act.Write c v) ≡ price (act.Write d w)
  pub asks : (x y : ℕ) → price (act.Ask (request.Rd x)) ≡ price (act.Ask (request.Rd y))
  pub puts : (x y v w : ℕ) → price (act.Ask (request.Wr x v)) ≡ price (act.Ask (request.Wr y w))

-- how many of `left` bytes of a field, from byte k on, a write reads before it writes them
abbrev pub partials_from : Field → ℕ → ℕ → ℕ
partials_from field k zero = 0
partials_from field k (suc left) = (if reads_first field k then 1 else 0) + partials_from field (k + 1) left

abbrev pub partials : Field → ℕ
partials field = partials_from field 0 (byte_count field)

-- how many bytes an op on a field reads and writes
abbrev pub reads_of : Op → Field → ℕ
reads_of (op.Read f) field = byte_count field
reads_of (op.Write f v) field = partials field
reads_of (op.Add f v) field = byte_count field + partials field
reads_of _ field = 0

abbrev pub writes_of : Op → Field → ℕ
writes_of (op.Write f v) field = byte_count field
writes_of (op.Add f v) field = byte_count field
writes_of _ field = 0

-- the lock, burst mode, and the bytes
abbrev pub lock_cost : (Act → ℕ) → Bool → Field → ℕ
lock_cost price held field = if takes_lock field held then price act.Lock + price act.Unlock else 0

abbrev pub burst_cost : (Act → ℕ) → Field → ℕ
burst_cost price field = if bursts field then price (act.Ask request.Be) + price (act.Ask request.Bd) else 0

abbrev pub bytes_cost : (Act → ℕ) → Op → Field → ℕ
bytes_cost price o field = reads_of o field * price (read_act field 0) + writes_of o field * price (write_act field 0 0)

abbrev pub field_cost : (Act → ℕ) → Op → Bool → Option Field → ℕ
field_cost price o held None = 0
field_cost price o held (Some field) = lock_cost price held field + burst_cost price field + bytes_cost price o field

-- an op, where a hold is open or not
abbrev pub op_cost : (Act → ℕ) → List Field → Bool → Op → ℕ
op_cost price fields held (op.Read f) = field_cost price (op.Read f) held (slice_get fields f)
op_cost price fields held (op.Write f v) = field_cost price (op.Write f v) held (slice_get fields f)
op_cost price fields held (op.Add f v) = field_cost price (op.Add f v) held (slice_get fields f)
op_cost price fields held (op.Skip v k) = 0
op_cost price fields held op.Hold = price act.Lock
op_cost price fields held op.Free = price act.Unlock
op_cost price fields held (op.Notify d v) = price (act.Notify d v)
op_cost price fields held (op.Drop e) = price (act.Drop e)
op_cost price fields held (op.Up e) = price (act.Up e)
op_cost price fields held (op.Down e) = price (act.Down e)
op_cost price fields held (op.Raise e) = price (act.Raise e)
op_cost price fields held (op.Assert e) = price (act.Assert e)
op_cost price fields held (op.Push q) = price (act.Push q)

-- all ops, passed over or not
abbrev pub ops_cost : (Act → ℕ) → List Field → Bool → List Op → ℕ
ops_cost price fields held [] = 0
ops_cost price fields held (o ∷ ops) = op_cost price fields held o + ops_cost price fields (held_after o held) ops

-- an accepted script costs no more than its ops
abbrev pub CostsItsOps : Type 0
CostsItsOps = (price : Act → ℕ) (fields : List Field) (ops : List Op) → IsUniform price → Accepted fields ops
    → Costs price (plan fields ops) (ops_cost price fields false ops)
