-- The Firmware ACPI Control Structure (ACPI 6.5, section 5.2.10) by its first 64 bytes: the signature at byte 0, the
-- length at byte 4 and the Global Lock at byte 16, both as 32 bits with the lowest byte first.
use Rattle.std.specs.Prelude.{◌≡◌, ◌<◌, ℕ, ◌+◌, ◌*◌, Bool, not, ◌==◌, ◌&&◌, nat_lt, List, ◌∷◌, ◌++◌, length, take, replicate, slice_index, codes, Result, Ok, Err, if◌then◌else◌}
use Rattle.facs_word.specs.declared.table.FacsFault.{FacsFault}
use Rattle.facs_word.specs.declared.table.FacsFault.TheVariants as fault

-- the 32 bits at a place
abbrev pub number_at : List ℕ → ℕ → ℕ
number_at bytes at =
    slice_index bytes at + 256 * slice_index bytes (at + 1) + 65536 * slice_index bytes (at + 2)
    + 16777216 * slice_index bytes (at + 3)

-- the first four bytes are F, A, C and S
abbrev pub is_signed : List ℕ → Bool
is_signed bytes =
    (slice_index bytes 0 == 70) && (slice_index bytes 1 == 65) && (slice_index bytes 2 == 67)
    && (slice_index bytes 3 == 83)

abbrev pub length_of : List ℕ → ℕ
length_of bytes = number_at bytes 4

abbrev pub lock_of : List ℕ → ℕ
lock_of bytes = number_at bytes 16

-- the table at the start of these bytes, or the first fault
abbrev pub reads : List ℕ → Result (List ℕ) FacsFault
reads bytes =
    if nat_lt (length bytes) 64 then Err fault.Short
    else (if not (is_signed bytes) then Err fault.BadSignature
    else (if nat_lt (length_of bytes) 64 then Err fault.BadLength
    else Ok (take 64 bytes)))

-- a table of length 64 whose other bytes are zero
abbrev pub fresh_table : List ℕ
fresh_table = codes "FACS" ++ 64 ∷ replicate 59 0

-- a table that was read has each of the first 64 bytes that it was read from, and reads as itself
abbrev pub ReadsBack : List ℕ → List ℕ → Type 0
ReadsBack bytes table =
    reads bytes ≡ Ok table
    → (length table ≡ 64) × ((k : ℕ) → k < 64 → slice_index table k ≡ slice_index bytes k) × (reads table ≡ Ok table)
