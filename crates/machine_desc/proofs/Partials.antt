-- Of the bytes of a field that are read before they are written, the next one comes first.
use Rattle.std.proofs.Common.{ℕ, suc, ◌+◌, ◌-◌, ◌<◌, ◌≡◌, ap, arith}
use Rattle.field_units.specs.Field.{Field}
use Rattle.handler_script.specs.Costs.{partials_from}
use Rattle.handler_script.specs.Parts.{reads_first}
use Rattle.machine_desc.specs.Weight.{one_if}

pub next_partial : (f : Field) (k n : ℕ) → k < n → partials_from f k (n - k) ≡ one_if (reads_first f k) + partials_from f (k + 1) (n - (k + 1))
next_partial f k n within =
    let count : n - k ≡ suc (n - (k + 1)) = omega arith in
    ap (partials_from f k) count
