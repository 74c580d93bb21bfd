-- Names in quotes: no byte of a name is escaped.
use Rattle.std.proofs.Common.{◌≡◌, ℕ, ◌+◌, ◌/◌, ◌%◌, ◌^◌, ◌<◌, ◌≤◌, List, [], ◌∷◌, ◌++◌, decimal, refl, rules, arith}
use Rattle.std.proofs.lemmas.Fmt.{decimal_by_steps}
use Rattle.std.proofs.lemmas.Grind.{flat_map-append}
use Rattle.json.specs.Print.{escape, escape_byte}
use Rattle.serde_json.specs.Data.{string}
use Rattle.acpi_regs.specs.declared.event.Event.TheVariants as event
use Rattle.acpi_regs.specs.Names.{digit, spelled}
use Rattle.machine_reader.specs.Canonical.{event_json}
use Rattle.machine_reader.specs.Texts.{json_text}

-- a digit or a capital letter
capital : (x : ℕ) → 48 ≤ x → x ≤ 90 → escape_byte x ≡ x ∷ []
unfolding escape_byte
capital x low high = grind (arith, rules)

small_letter : (x : ℕ) → 97 ≤ x → x ≤ 122 → escape_byte x ≡ x ∷ []
unfolding escape_byte
small_letter x low high = grind (arith, rules)

underscore : escape_byte 95 ≡ 95 ∷ []
unfolding escape_byte
underscore = refl

hex_digit : (n : ℕ) → n < 16 → escape_byte (digit n) ≡ digit n ∷ []
hex_digit n h = capital (digit n) (grind (arith, rules)) (grind (arith, rules))

high_digit : (n : ℕ) → n < 256 → escape_byte (digit (n / 16)) ≡ digit (n / 16) ∷ []
high_digit n h = hex_digit (n / 16) (omega arith)

low_digit : (n : ℕ) → escape_byte (digit (n % 16)) ≡ digit (n % 16) ∷ []
low_digit n = hex_digit (n % 16) (omega arith)

pub quoted_gpe : (n : ℕ) → n < 256 → json_text (event_json (event.Gpe n)) ≡ 34 ∷ 103 ∷ digit (n / 16) ∷ digit (n % 16) ∷ 34 ∷ []
unfolding json_text
quoted_gpe n h = rw (small_letter 103 (omega arith) (omega arith), high_digit n h, low_digit n) refl

pub quoted_method : (letter n : ℕ) → 65 ≤ letter → letter ≤ 90 → n < 256 → json_text (string (spelled letter n)) ≡ 34 ∷ 95 ∷ letter ∷ digit (n / 16) ∷ digit (n % 16) ∷ 34 ∷ []
unfolding json_text
quoted_method letter n low high h = rw (underscore, capital letter (omega arith) high, high_digit n h, low_digit n) refl

-- the digits of a number
decimal_plain : (n : ℕ) → n < 2 ^ 64 → escape (decimal n) ≡ decimal n
decimal_plain = decimal_by_steps (λ n ds. escape ds ≡ ds) one more
  where
    one : (n : ℕ) → n < 10 → escape ((48 + n) ∷ []) ≡ (48 + n) ∷ []
    one n h = rw (capital (48 + n) (omega arith) (omega arith)) refl

    more : (n : ℕ) (ds : List ℕ) → 10 ≤ n → escape ds ≡ ds → escape (ds ++ (48 + n % 10) ∷ []) ≡ ds ++ (48 + n % 10) ∷ []
    more n ds h plain = rw (flat_map-append escape_byte ds ((48 + n % 10) ∷ []), plain, capital (48 + n % 10) (omega arith) (omega arith)) refl

pub quoted_numbered : (letter n : ℕ) → 97 ≤ letter → letter ≤ 122 → n < 256 → json_text (string (letter ∷ decimal n)) ≡ 34 ∷ letter ∷ (decimal n ++ 34 ∷ [])
unfolding json_text
quoted_numbered letter n low high h = rw (small_letter letter low high, decimal_plain n (omega arith)) refl
