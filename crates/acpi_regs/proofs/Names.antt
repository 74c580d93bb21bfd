-- A text is the spelling of the name that it is read as.
use Rattle.std.proofs.Common.{◌≡◌, ℕ, ◌+◌, ◌*◌, ◌/◌, ◌%◌, ◌<◌, List, [], ◌∷◌, Option, Some, None, option_and_then, option_map, refl, ap, ◌∙◌, rules, arith}
use Rattle.acpi_regs.specs.declared.name.MethodName.{MethodName}
use Rattle.acpi_regs.specs.declared.name.MethodName.TheVariants as name
use Rattle.acpi_regs.specs.Names.{digit, digit_of, spelled, byte_of, lettered, name_in, spelling, IsName, SpellsNames}

-- the digit that has a value, and the value of a digit
pub digit_back : (c n : ℕ) → digit_of c ≡ Some n → (n < 16) × (c ≡ digit n)
digit_back c n e = grind (arith, rules)

pub digit_on : (n : ℕ) → n < 16 → digit_of (digit n) ≡ Some n
digit_on n h = grind (arith, rules)

-- the byte of two values of digits
abbrev joined : Option ℕ → Option ℕ → Option ℕ
joined a b = option_and_then (λ h. option_map (λ l. 16 * h + l) b) a

joined_back : (a b : Option ℕ) (n : ℕ) → joined a b ≡ Some n → (x y : ℕ) × (a ≡ Some x) × (b ≡ Some y) × (16 * x + y ≡ n)
joined_back (Some x) (Some y) n e = (x, y, refl, refl, cc)
joined_back (Some x) None n e = cc
joined_back None b n e = cc

pub byte_back : (high low n : ℕ) → byte_of high low ≡ Some n → (n < 256) × (high ≡ digit (n / 16)) × (low ≡ digit (n % 16))
byte_back high low n e =
    let j = joined_back (digit_of high) (digit_of low) n e in
    let h = digit_back high j.0 j.2 in
    let l = digit_back low j.1 j.3 in
    let bound : n < 256 = omega (arith, h.0, l.0, j.4) in
    let first : j.0 ≡ n / 16 = omega (arith, h.0, l.0, j.4) in
    let second : j.1 ≡ n % 16 = omega (arith, h.0, l.0, j.4) in
    (bound, h.1 ∙ ap digit first, l.1 ∙ ap digit second)

pub byte_on : (n : ℕ) → n < 256 → byte_of (digit (n / 16)) (digit (n % 16)) ≡ Some n
byte_on n h =
    let first : n / 16 < 16 = omega arith in
    let second : n % 16 < 16 = omega arith in
    let whole : 16 * (n / 16) + n % 16 ≡ n = omega arith in
    (λ i. joined (digit_on (n / 16) first i) (digit_on (n % 16) second i)) ∙ ap Some whole

-- a name by its letter and number
lettered_back : (letter k : ℕ) (n : MethodName) → k < 256 → lettered letter k ≡ Some n → IsName n × (spelled letter k ≡ spelling n)
lettered_back letter k (name.Level m) h e = grind (arith, rules)
lettered_back letter k (name.Edge m) h e = grind (arith, rules)
lettered_back letter k (name.Query m) h e = grind (arith, rules)

-- a name is what its letter gives at a byte that two digits give
and_then_back : (b : Option ℕ) (letter : ℕ) (n : MethodName) → option_and_then (lettered letter) b ≡ Some n → (k : ℕ) × (b ≡ Some k) × (lettered letter k ≡ Some n)
and_then_back (Some k) letter n e = (k, refl, e)
and_then_back None letter n e = cc

read_back : (underscore letter high low : ℕ) (n : MethodName) → name_in (underscore ∷ letter ∷ high ∷ low ∷ []) ≡ Some n → IsName n × (underscore ∷ letter ∷ high ∷ low ∷ [] ≡ spelling n)
read_back underscore letter high low n e =
    let u : underscore ≡ 95 = grind (arith, rules) in
    let f : option_and_then (lettered letter) (byte_of high low) ≡ Some n = grind (arith, rules) in
    let a = and_then_back (byte_of high low) letter n f in
    let b = byte_back high low a.0 a.1 in
    let l = lettered_back letter a.0 n b.0 a.2 in
    (l.0, (λ i. u i ∷ letter ∷ b.1 i ∷ b.2 i ∷ []) ∙ l.1)

read_on : (n : MethodName) → IsName n → name_in (spelling n) ≡ Some n
read_on (name.Level n) h = ap (option_and_then (lettered 76)) (byte_on n h)
read_on (name.Edge n) h = ap (option_and_then (lettered 69)) (byte_on n h)
read_on (name.Query n) h = ap (option_and_then (lettered 81)) (byte_on n h.1) ∙ grind (arith, h.0)

forth : (text : List ℕ) (n : MethodName) → name_in text ≡ Some n → IsName n × (text ≡ spelling n)
forth [] n e = cc
forth (a ∷ []) n e = cc
forth (a ∷ b ∷ []) n e = cc
forth (a ∷ b ∷ c ∷ []) n e = cc
forth (a ∷ b ∷ c ∷ d ∷ []) n e = read_back a b c d n e
forth (a ∷ b ∷ c ∷ d ∷ x ∷ xs) n e = cc

pub spells : SpellsNames
spells text n = (forth text n, λ p. ap name_in p.1 ∙ read_on n p.0)
