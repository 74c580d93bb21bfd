-- How a count of faults rises.
use Rattle.std.specs.Prelude.{◌≡◌, ℕ, ◌+◌, ◌-◌, ◌^◌, min}

-- a count after one more, which stops at the greatest number of 64 bits
abbrev pub one_more : ℕ → ℕ
one_more count = min (count + 1) (2 ^ 64 - 1)

-- The count rose by exactly one, or stands where it stops. From 2^64 - 2 on a count can't tell one fault from more, and
-- at 2^64 - 1 not from none; below, it can.
abbrev pub RoseByOne : ℕ → ℕ → Type 0
RoseByOne before now = now ≡ one_more before
