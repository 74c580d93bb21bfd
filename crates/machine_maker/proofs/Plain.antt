-- What is true of an addition to one of the fields and of every push of a code is true of each operation of the firmware; and what is
-- true of the eight events is true of each pulse.
use Rattle.std.proofs.Common.{◌≡◌, ℕ, ◌+◌, ◌*◌, ◌%◌, ◌<◌, Bool, true, false, nat_lt, length, if◌then◌else◌, arith}
use Rattle.acpi_regs.specs.declared.event.Event.{Event}
use Rattle.acpi_regs.specs.declared.event.Event.TheVariants as event
use Rattle.handler_script.specs.declared.op.Op.{Op}
use Rattle.handler_script.specs.declared.op.Op.TheVariants as op
use Rattle.machine_maker.specs.Maker.{drawn, op_at, pulse_at, pulses_of, script_of}
use Rattle.machine_maker.proofs.Rows.{Each, each_row, row_len}

drawn_is : (P : Op → Type 0) → ((f : ℕ) → f < 16 → P (op.Add f 1)) → ((q : ℕ) → 0 < q → P (op.Push q)) → (d : ℕ) → P (drawn d)
drawn_is P adds pushes d = by_half (nat_lt d 128)
  where
    by_half : (b : Bool) → P (if b then op.Add (d % 16) 1 else op.Push (1 + d % 8))
    by_half true = adds (d % 16) (omega arith)
    by_half false = pushes (1 + d % 8) (omega arith)

pub each_op : (P : Op → Type 0) → ((f : ℕ) → f < 16 → P (op.Add f 1)) → ((q : ℕ) → 0 < q → P (op.Push q)) → (number size k : ℕ) → Each P (script_of number size k)
unfolding script_of op_at
each_op P adds pushes number size k = each_row P (16 * size) (λ j. op_at number (16 * size * k + j)) (λ j less. drawn_is P adds pushes ((number + 37 * (16 * size * k + j)) % 256))

pub script_len : (number size k : ℕ) → length (script_of number size k) ≡ 16 * size
unfolding script_of
script_len number size k = row_len (16 * size) (λ j. op_at number (16 * size * k + j))

pub each_pulse : (P : Event → Type 0) → ((n : ℕ) → n < 8 → P (event.Gpe n)) → (size k : ℕ) → Each P (pulses_of size k)
unfolding pulses_of
each_pulse P gpes size k = each_row P (4 * size) (λ j. pulse_at (4 * size * k + j)) (λ j less. gpes ((4 * size * k + j) % 8) (omega arith))

pub pulses_len : (size k : ℕ) → length (pulses_of size k) ≡ 4 * size
unfolding pulses_of
pulses_len size k = row_len (4 * size) (λ j. pulse_at (4 * size * k + j))
