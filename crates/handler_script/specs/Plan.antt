-- What a script means: the acts that it still has to make, each of which may go on by the byte that it is answered
-- (ACPI 6.5, section 5.5.2.4, on fields and their regions).
use Rattle.std.specs.Prelude.{ℕ, zero, suc, ◌+◌, ◌%◌, ◌^◌, ◌==◌, Bool, true, false, List, [], ◌∷◌, Option, Some, None, slice_get, if◌then◌else◌}
use Rattle.acpi_regs.specs.declared.entry.Request.TheVariants as request
use Rattle.field_units.specs.Bits.{byte_count, joined, replaced}
use Rattle.field_units.specs.Field.{Field}
use Rattle.handler_script.specs.declared.act.Act.{Act}
use Rattle.handler_script.specs.declared.act.Act.TheVariants as act
use Rattle.handler_script.specs.declared.op.Op.{Op}
use Rattle.handler_script.specs.declared.op.Op.TheVariants as op
use Rattle.handler_script.specs.Acts.{brings}
use Rattle.handler_script.specs.Parts.{access_needs, bursts, read_act, reads_first, takes_lock, write_act}

-- Either nothing is left, or an act is next: whether it needs the Global Lock, the act, and what is left once it
-- is answered. An act that brings no byte is answered 0.
pub data Plan : Type 0 where
  End : Plan
  Do : Bool → Act → (ℕ → Plan) → Plan

-- the act that is next, and what is left once it is answered
abbrev pub next_act : Plan → Option Act
next_act End = None
next_act (Do needs a next) = Some a

abbrev pub plan_after : ℕ → Plan → Plan
plan_after byte End = End
plan_after byte (Do needs a next) = next byte

-- the acts of a plan that is answered with these bytes, up to and with the first that has no answer yet
abbrev pub acts_of : Plan → List ℕ → List Act
acts_of End answers = []
acts_of (Do needs a next) [] = a ∷ (if brings a then [] else acts_of (next 0) [])
acts_of (Do needs a next) (byte ∷ answers) = a
    ∷ (if brings a then acts_of (next byte) answers else acts_of (next 0) (byte ∷ answers))

-- an act, where it is wanted
abbrev pub where_wanted : Bool → Bool → Act → Plan → Plan
where_wanted false needs a next = next
where_wanted true needs a next = Do needs a (λ _. next)

-- reading the bytes of a field from byte k on, `left` of them, and going on with the value
abbrev pub read_from : Field → Bool → ℕ → ℕ → ℕ → (ℕ → Plan) → Plan
read_from field needs k zero so_far next = next so_far
read_from field needs k (suc left) so_far next = Do needs (read_act field k)
    (λ byte. read_from field needs (k + 1) left (joined field k byte so_far) next)

-- the byte that a write keeps bits of: it is read where it is wanted
abbrev pub old_byte : Bool → Field → Bool → ℕ → (ℕ → Plan) → Plan
old_byte false field needs k next = next 0
old_byte true field needs k next = Do needs (read_act field k) next

-- writing a value to the bytes of a field from byte k on, `left` of them
abbrev pub write_from : Field → Bool → ℕ → ℕ → ℕ → Plan → Plan
write_from field needs k zero value next = next
write_from field needs k (suc left) value next =
    old_byte (reads_first field k) field needs k
    (λ old. Do needs (write_act field k (replaced field k old value))
    (λ _. write_from field needs (k + 1) left value next))

-- what stands after the bytes of a field: burst mode ends, and the lock is given back
abbrev pub unlocked : Field → Bool → Plan → Plan
unlocked field held next = where_wanted (takes_lock field held) false act.Unlock next

abbrev pub closed : Field → Bool → Plan → Plan
closed field held next = where_wanted (bursts field) (access_needs field held) (act.Ask request.Bd)
    (unlocked field held next)

-- the bytes of an op on a field; it goes on with the value that the field's latest read gave
abbrev pub bytes_of : Op → Field → Bool → ℕ → (ℕ → Plan) → Plan
bytes_of (op.Read f) field held last next =
    read_from field (access_needs field held) 0 (byte_count field) 0 (λ value. closed field held (next value))
bytes_of (op.Write f v) field held last next =
    write_from field (access_needs field held) 0 (byte_count field) (v % 2 ^ field.width)
    (closed field held (next last))
bytes_of (op.Add f v) field held last next =
    read_from field (access_needs field held) 0 (byte_count field) 0
    (λ value. write_from field (access_needs field held) 0 (byte_count field) ((value + v) % 2 ^ field.width)
    (closed field held (next value)))
bytes_of _ field held last next = next last

-- an op on a field, in burst mode and under the lock where they are wanted
abbrev pub opened : Op → Field → Bool → ℕ → (ℕ → Plan) → Plan
opened o field held last next = where_wanted (bursts field) (access_needs field held) (act.Ask request.Be)
    (bytes_of o field held last next)

abbrev pub on_field : Option Field → Op → Bool → ℕ → (ℕ → Plan) → Plan
on_field None o held last next = next last
on_field (Some field) o held last next = where_wanted (takes_lock field held) false act.Lock
    (opened o field held last next)

-- one op, and then the rest, which is told whether a hold is open, the value that was read last, and how many ops it
-- passes over
abbrev pub plan_op : List Field → Op → Bool → ℕ → (Bool → ℕ → ℕ → Plan) → Plan
plan_op fields (op.Read f) held last next = on_field (slice_get fields f) (op.Read f) held last
    (λ value. next held value 0)
plan_op fields (op.Write f v) held last next = on_field (slice_get fields f) (op.Write f v) held last
    (λ value. next held value 0)
plan_op fields (op.Add f v) held last next = on_field (slice_get fields f) (op.Add f v) held last
    (λ value. next held value 0)
plan_op fields (op.Skip v k) held last next = next held last (if last == v then 0 else k)
plan_op fields op.Hold held last next = Do false act.Lock (λ _. next true last 0)
plan_op fields op.Free held last next = Do false act.Unlock (λ _. next false last 0)
plan_op fields (op.Notify d v) held last next = Do false (act.Notify d v) (λ _. next held last 0)
plan_op fields (op.Drop e) held last next = Do false (act.Drop e) (λ _. next held last 0)
plan_op fields (op.Up e) held last next = Do false (act.Up e) (λ _. next held last 0)
plan_op fields (op.Down e) held last next = Do false (act.Down e) (λ _. next held last 0)
plan_op fields (op.Raise e) held last next = Do false (act.Raise e) (λ _. next held last 0)
plan_op fields (op.Assert e) held last next = Do false (act.Assert e) (λ _. next held last 0)
plan_op fields (op.Push q) held last next = Do false (act.Push q) (λ _. next held last 0)

-- ops one by one, from a point at which a hold is open or not and `last` was read last, passing over the first `skip`
abbrev pub plan_from : List Field → List Op → Bool → ℕ → ℕ → Plan
plan_from fields [] held last skip = End
plan_from fields (o ∷ ops) held last (suc skip) = plan_from fields ops held last skip
plan_from fields (o ∷ ops) held last zero = plan_op fields o held last
    (λ held last skip. plan_from fields ops held last skip)

-- a script
abbrev pub plan : List Field → List Op → Plan
plan fields ops = plan_from fields ops false 0 0

-- A query job asks the controller for the first outstanding code (ACPI 6.5, section 12.3.5): under the lock if the
-- controller needs it (`_GLK`, section 6.5.7), and without it otherwise.
abbrev pub query_plan : Bool → Plan
query_plan false = Do false (act.Ask request.Qr) (λ _. End)
query_plan true = Do false act.Lock (λ _. Do true (act.Ask request.Qr) (λ _. Do false act.Unlock (λ _. End)))

-- a code without a handler
abbrev pub empty_plan : Plan
empty_plan = End
