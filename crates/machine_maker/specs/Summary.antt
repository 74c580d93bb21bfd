-- The summary of a run of the machine of a number and a size: what the operations of that machine come to. Each
-- addition is made under the lock, and each code that is pushed starts one run, so the schedule makes no difference.
use Rattle.std.specs.Prelude.{ℕ, ◌+◌, ◌/◌, ◌%◌, ◌==◌, nat_lt, List, [], ◌∷◌, ◌++◌, codes, decimal, flat_map, if◌then◌else◌}
use Rattle.std.specs.List.{sum_by}
use Rattle.handler_script.specs.declared.op.Op.{Op}
use Rattle.handler_script.specs.declared.op.Op.TheVariants as op
use Rattle.machine_desc.specs.Machine.{MachineData}
use Rattle.machine_desc.specs.Weight.{weight_of}
use Rattle.machine_maker.specs.Maker.{each_of, made}

-- ---- sums over the operations

-- a sum over the operations of all scripts of the firmware
abbrev pub over_firmware : (Op → ℕ) → MachineData → ℕ
over_firmware f m = sum_by (sum_by f) m.firmware

-- an addition
abbrev pub one_add : Op → ℕ
one_add (op.Add f v) = 1
one_add _ = 0

-- a push of a code, for which its handler is run once and notifies once
abbrev pub one_push : Op → ℕ
one_push (op.Push q) = 1
one_push _ = 0

-- what an operation adds to the field on cell k: an addition to that field its number, and a push of the code k the 1
-- that the handler of the code adds
abbrev pub adds_to : ℕ → Op → ℕ
adds_to k (op.Add f v) = if f == k then v else 0
adds_to k (op.Push q) = if q == k then 1 else 0
adds_to k _ = 0

-- the last byte of cell k, which begins with 0
abbrev pub last_byte : (number size k : ℕ) → ℕ
last_byte number size k = over_firmware (adds_to k) (made number size) % 256

-- ---- the text

-- a hexadecimal digit, of 0 to 9 and A to F
abbrev pub digit_text : ℕ → ℕ
digit_text n = if nat_lt n 10 then 48 + n else 55 + n

-- a space, and a byte as two hexadecimal digits
abbrev pub spaced_byte : ℕ → List ℕ
spaced_byte b = 32 ∷ digit_text (b / 16) ∷ digit_text (b % 16) ∷ []

-- a word, with the spaces round it, and a number in decimal
abbrev pub labelled : List ℕ → ℕ → List ℕ
labelled label n = label ++ decimal n

abbrev pub weight_line : (number size weight : ℕ) → List ℕ
weight_line number size weight =
    labelled (codes "make ") number
    ++ (labelled (codes " ") size ++ (labelled (codes " weight ") weight ++ codes "\n"))

abbrev pub counts_line : (adds runs notifies : ℕ) → List ℕ
counts_line adds runs notifies =
    labelled (codes "adds ") adds
    ++ (labelled (codes " runs ") runs ++ (labelled (codes " notifies ") notifies ++ codes "\n"))

abbrev pub cells_line : List ℕ → List ℕ
cells_line cells = codes "cells" ++ (flat_map spaced_byte cells ++ codes "\n")

-- the three lines of these numbers
abbrev pub summary_text : (number size weight adds runs notifies : ℕ) (cells : List ℕ) → List ℕ
summary_text number size weight adds runs notifies cells =
    weight_line number size weight ++ (counts_line adds runs notifies ++ cells_line cells)

-- The weight; the additions of the firmware; its pushes, once as runs and once as notifies; and the cells.
unfoldable pub summary : (number size : ℕ) → List ℕ
summary number size =
    summary_text number size (weight_of (made number size))
    (over_firmware one_add (made number size))
    (over_firmware one_push (made number size)) (over_firmware one_push (made number size))
    (each_of 16 (last_byte number size))
