-- Bits in 17 words of 16 bits, by place: bit b of word k is at place 16 k + b.
use Rattle.std.specs.Prelude.{◌≡◌, ℕ, ◌<◌, ◌-◌, ◌/◌, ◌%◌, ◌==◌, ◌&&◌, not, nat_lt, Bool, true, false, List, slice_index, Option, Some, None, bit_and, if◌then◌else◌}
use Rattle.std.specs.Int.{bit_at}

abbrev pub one : Bool → ℕ
one b = if b then 1 else 0

-- the bit at a place is set
abbrev pub has : List ℕ → ℕ → Bool
has words p = bit_at (slice_index words (p / 16)) (p % 16) == 1

-- each bit that is set in a word is set in the other
abbrev pub IsWithin : (a b : ℕ) → Type 0
IsWithin a b = (i : ℕ) → bit_at a i ≡ 1 → bit_at b i ≡ 1

-- the rank of the event whose bit is at a place: 261, where no event is, if the bit belongs to no event
abbrev pub rank_in : ℕ → ℕ
rank_in p =
    if p == 0 then 0 else (if p == 5 then 1 else (if p == 8 then 2 else (if p == 9 then 3 else (if p == 10 then 4
    else (if nat_lt p 16 then 261 else p - 11)))))

-- ---- two sets of bits, and which of their words meet

-- the bit at a place is set in both
abbrev pub meets : (status enable : List ℕ) → ℕ → Bool
meets status enable p = has status p && has enable p

-- word k has a bit set in both
abbrev pub shares : (status enable : List ℕ) → ℕ → Bool
shares status enable k = not (bit_and (slice_index status k) (slice_index enable k) == 0)

-- bit k of the summary says whether the words k share a bit
abbrev pub IsSummary : (status enable : List ℕ) (summary : ℕ) → Type 0
IsSummary status enable summary = (k : ℕ) → k < 32 → bit_at summary k ≡ one (shares status enable k)

-- the first place whose bit is set in both, if there is one
abbrev pub IsFirstPlace : (status enable : List ℕ) → Option ℕ → Type 0
IsFirstPlace status enable None = (p : ℕ) → p < 272 → meets status enable p ≡ false
IsFirstPlace status enable (Some p) =
    (p < 272) × (meets status enable p ≡ true) × ((q : ℕ) → q < p → meets status enable q ≡ false)
