-- Names of the methods that handle events (ACPI 6.5, section 5.6.4.1): `_Lxx` and `_Exx` for GPE xx,
-- `_Qxx` for query code xx of the embedded controller, xx two upper-case hexadecimal digits.
use Rattle.std.specs.Prelude.{◌≡◌, ◌↔◌, ℕ, ◌+◌, ◌-◌, ◌*◌, ◌/◌, ◌%◌, ◌<◌, ◌==◌, ◌&&◌, nat_lt, nat_le, List, [], ◌∷◌, Option, Some, None, option_map, option_and_then, if◌then◌else◌}
use Rattle.acpi_regs.specs.declared.name.MethodName.{MethodName}
use Rattle.acpi_regs.specs.declared.name.MethodName.TheVariants as name

-- the hexadecimal digit of a number below 16, by its ASCII code: `0` to `9` and `A` to `F`
abbrev pub digit : ℕ → ℕ
digit n = if nat_lt n 10 then 48 + n else 55 + n

-- the text of a name: an underscore, a letter and two digits
abbrev pub spelled : (letter n : ℕ) → List ℕ
spelled letter n = 95 ∷ letter ∷ digit (n / 16) ∷ digit (n % 16) ∷ []

abbrev pub spelling : MethodName → List ℕ
spelling (name.Level n) = spelled 76 n
spelling (name.Edge n) = spelled 69 n
spelling (name.Query q) = spelled 81 q

-- the number is a byte, and no query has code 00
abbrev pub IsName : MethodName → Type 0
IsName (name.Level n) = n < 256
IsName (name.Edge n) = n < 256
IsName (name.Query q) = (0 < q) × (q < 256)

-- the value of a hexadecimal digit
abbrev pub digit_of : ℕ → Option ℕ
digit_of c =
    if nat_le 48 c && nat_le c 57 then Some (c - 48)
    else (if nat_le 65 c && nat_le c 70 then Some (c - 55) else None)

-- the byte of two digits
abbrev pub byte_of : ℕ → ℕ → Option ℕ
byte_of high low = option_and_then (λ h. option_map (λ l. 16 * h + l) (digit_of low)) (digit_of high)

-- a query code
abbrev pub query_of : ℕ → Option MethodName
query_of n = if n == 0 then None else Some (name.Query n)

-- the name with this letter and number
abbrev pub lettered : (letter n : ℕ) → Option MethodName
lettered letter n =
    if letter == 76 then Some (name.Level n)
    else (if letter == 69 then Some (name.Edge n)
    else (if letter == 81 then query_of n else None))

-- the name that a text spells
abbrev pub name_in : List ℕ → Option MethodName
name_in (underscore ∷ letter ∷ high ∷ low ∷ []) =
    if underscore == 95 then option_and_then (lettered letter) (byte_of high low) else None
name_in _ = None

-- a text is read as a name exactly if it is the spelling of that name
abbrev pub SpellsNames : Type 0
SpellsNames = (text : List ℕ) (n : MethodName) → (name_in text ≡ Some n) ↔ (IsName n × (text ≡ spelling n))
