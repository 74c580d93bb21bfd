-- What is left of a script where a cursor stands.
use Rattle.std.specs.Prelude.{◌≡◌, ℕ, ◌+◌, ◌-◌, ◌≤◌, ◌==◌, ◌%◌, ◌^◌, Bool, true, false, ◌&&◌, ◌||◌, not, nat_lt, nat_le, List, [], ◌∷◌, length, drop, Option, Some, None, slice_get}
use Rattle.field_units.specs.Bits.{byte_count, replaced}
use Rattle.field_units.specs.Field.{Field}
use Rattle.handler_script.specs.declared.cursor.Cursor.{Cursor}
use Rattle.handler_script.specs.declared.op.Op.{Op}
use Rattle.handler_script.specs.declared.op.Op.TheVariants as op
use Rattle.handler_script.specs.declared.stage.Stage.{Stage}
use Rattle.handler_script.specs.declared.stage.Stage.TheVariants as stage
use Rattle.handler_script.specs.Parts.{access_needs, bursts, takes_lock, write_act}
use Rattle.handler_script.specs.Plan.{Plan, Do, End, closed, on_field, opened, plan, plan_from, plan_op, read_from, unlocked, write_from}

-- the value that an op writes to its field, where `last` was read last
abbrev pub written : Op → Field → ℕ → ℕ
written (op.Write f v) field last = v % 2 ^ field.width
written (op.Add f v) field last = (last + v) % 2 ^ field.width
written _ field last = 0

-- once the bytes are read
abbrev pub read_done : Op → Field → Bool → (ℕ → Plan) → ℕ → Plan
read_done (op.Add f v) field held next value = write_from field (access_needs field held) 0 (byte_count field)
    ((value + v) % 2 ^ field.width) (closed field held (next value))
read_done _ field held next value = closed field held (next value)

-- what is left of an op on a field, by the stage within it
abbrev pub rest_of_op : Op → Field → Bool → Stage → ℕ → (ℕ → Plan) → Plan
rest_of_op o field held stage.Before last next = on_field (Some field) o held last next
rest_of_op o field held stage.Opened last next = opened o field held last next
rest_of_op o field held (stage.Reading k so_far) last next = read_from field (access_needs field held) k
    (byte_count field - k) so_far (read_done o field held next)
rest_of_op o field held (stage.Writing k) last next = write_from field (access_needs field held) k
    (byte_count field - k) (written o field last) (closed field held (next last))
rest_of_op o field held (stage.Replacing k old) last next =
    Do (access_needs field held) (write_act field k (replaced field k old (written o field last)))
    (λ _. write_from field (access_needs field held) (k + 1) (byte_count field - (k + 1)) (written o field last)
    (closed field held (next last)))
rest_of_op o field held stage.Closing last next = closed field held (next last)
rest_of_op o field held stage.Unlocking last next = unlocked field held (next last)
rest_of_op o field held stage.Done last next = next last

-- the field that an op names
abbrev pub field_named : List Field → Op → Option Field
field_named fields (op.Read f) = slice_get fields f
field_named fields (op.Write f v) = slice_get fields f
field_named fields (op.Add f v) = slice_get fields f
field_named fields _ = None

-- the stage has a byte of the field before it, or is past the last
abbrev pub stage_fits : Field → Stage → Bool
stage_fits field (stage.Reading k so_far) = nat_le k (byte_count field)
stage_fits field (stage.Writing k) = nat_le k (byte_count field)
stage_fits field (stage.Replacing k old) = nat_lt k (byte_count field)
stage_fits field _ = true

-- an act of the op stands at the stage, or the op is done
abbrev pub is_ready : Field → Bool → Stage → Bool
is_ready field held stage.Before = takes_lock field held
is_ready field held stage.Opened = bursts field
is_ready field held (stage.Reading k so_far) = nat_lt k (byte_count field)
is_ready field held (stage.Writing k) = nat_lt k (byte_count field)
is_ready field held (stage.Replacing k old) = nat_lt k (byte_count field)
is_ready field held stage.Closing = bursts field
is_ready field held stage.Unlocking = takes_lock field held
is_ready field held stage.Done = true

abbrev pub is_done : Stage → Bool
is_done stage.Done = true
is_done _ = false

-- the op reads or writes a field
abbrev pub is_access : Op → Bool
is_access (op.Read f) = true
is_access (op.Write f v) = true
is_access (op.Add f v) = true
is_access _ = false

-- an act of the op stands at the stage, or the op has not begun
abbrev pub is_entered : Field → Bool → Stage → Bool
is_entered field held stage.Before = true
is_entered field held stage.Done = false
is_entered field held s = is_ready field held s

-- what is left of the ops from the cursor's on
abbrev pub left_op : List Field → Bool → Stage → ℕ → Option Field → Op → List Op → Plan
left_op fields held s last None o ops = plan_op fields o held last
    (λ held last skip. plan_from fields ops held last skip)
left_op fields held s last (Some field) o ops = rest_of_op o field held s last
    (λ value. plan_from fields ops held value 0)

abbrev pub left_ops : List Field → List Op → Bool → Stage → ℕ → Plan
left_ops fields [] held s last = End
left_ops fields (o ∷ ops) held s last = left_op fields held s last (field_named fields o) o ops

-- what is left of a script where the cursor stands
unfoldable pub left : List Field → List Op → Cursor → Plan
left fields ops c = left_ops fields (drop c.op ops) c.held c.place.stage c.place.last

abbrev pub stands_at : Option Field → Bool → Stage → Bool
stands_at (Some field) held s = is_entered field held s
stands_at None held stage.Before = true
stands_at None held _ = false

abbrev pub stands_in : List Field → Option Op → Bool → Stage → Bool
stands_in fields (Some o) held s = stands_at (field_named fields o) held s
stands_in fields None held s = stands_at None held s

-- the cursor is at an op that is not done, or at the end
unfoldable pub is_placed : List Field → List Op → Cursor → Bool
is_placed fields ops c = nat_le c.op (length ops) && stands_in fields (slice_get ops c.op) c.held c.place.stage

abbrev pub is_skip : Op → Bool
is_skip (op.Skip v k) = true
is_skip _ = false

abbrev pub is_at_skip : Option Op → Bool
is_at_skip None = false
is_at_skip (Some o) = is_skip o

abbrev pub is_before : Stage → Bool
is_before stage.Before = true
is_before _ = false

-- no act is passed yet
abbrev pub is_new : Cursor → Bool
is_new c = (c.op == 0) && (is_before c.place.stage && ((c.place.last == 0) && not c.held))

-- it is placed, and only a new cursor is at a skip
unfoldable pub stands : List Field → List Op → Cursor → Bool
stands fields ops c = is_placed fields ops c && (is_new c || not (is_at_skip (slice_get ops c.op)))

-- the cursor is at such a place, with some fields
abbrev pub IsPlaced : List Op → Cursor → Type 0
IsPlaced ops c = (fields : List Field) × (is_placed fields ops c ≡ true)

-- the script begins at this op: skips at its begin pass over those before it, and it is no skip itself
pub record Begins (ops : List Op) (begin : ℕ) : Type 0 where
  pub within : begin ≤ length ops
  pub act : (o : Op) → slice_get ops begin ≡ Some o → is_skip o ≡ false
  pub same : (fields : List Field) → plan_from fields (drop begin ops) false 0 0 ≡ plan fields ops

-- whether a hold is open after an op
abbrev pub held_after : Op → Bool → Bool
held_after op.Hold held = true
held_after op.Free held = false
held_after _ held = held
