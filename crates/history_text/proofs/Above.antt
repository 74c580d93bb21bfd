-- No line of a log has a newline in it: each of its bytes is above it.
use Rattle.std.specs.Prelude.{ℤ, pos, negsuc}
use Rattle.std.proofs.Common.{inl, inr, ℕ, zero, suc, ◌+◌, ◌/◌, ◌%◌, ◌<◌, ◌≡◌, ◌==◌, ◌&&◌, ◌||◌, nat_lt, Bool, true, false, cond, if◌then◌else◌, List, [], ◌∷◌, ◌++◌, length, get_or, codes, decimal, Some, None, refl, arith}
use Rattle.std.proofs.lemmas.Bool.{and_from, and_parts, eqb-true, lt-ltb, ltb-false, ltb-true, or_cases}
use Rattle.std.specs.Char.{digit_char}
use Rattle.std.specs.Fmt.{digit_glyph, digits, digits_onto, signed_decimal}
use Rattle.std.specs.List.{flat_map}
use Rattle.json.specs.Print.{escape, escape_byte, escape_letter, quoted}
use Rattle.serde_json.specs.Data.{unsigned, negative, float, Data, null, boolean, number, string, array, object, Items, no_items, item, Members, no_members, member}
use Rattle.serde_json.specs.Written.{comma_if, compact_text, items_text, members_text, number_text}
use Rattle.acpi_regs.specs.declared.actor.Actor.{Actor}
use Rattle.acpi_regs.specs.declared.actor.Actor.TheVariants as actor
use Rattle.acpi_regs.specs.declared.entry.Cell.{Cell}
use Rattle.acpi_regs.specs.declared.entry.Deed.{Deed}
use Rattle.acpi_regs.specs.declared.entry.Deed.TheVariants as deed
use Rattle.acpi_regs.specs.declared.entry.Effect.{Effect}
use Rattle.acpi_regs.specs.declared.entry.Effect.TheVariants as effect
use Rattle.acpi_regs.specs.declared.entry.Entry.{Entry}
use Rattle.acpi_regs.specs.declared.entry.HostMove.{HostMove}
use Rattle.acpi_regs.specs.declared.entry.HostMove.TheVariants as host
use Rattle.acpi_regs.specs.declared.entry.Request.{Request}
use Rattle.acpi_regs.specs.declared.entry.Request.TheVariants as request
use Rattle.acpi_regs.specs.declared.event.Event.{Event}
use Rattle.acpi_regs.specs.declared.event.Event.TheVariants as event
use Rattle.acpi_regs.specs.declared.event.Fixed.TheVariants as fixed
use Rattle.machine_desc.specs.Machine.{MachineData}
use Rattle.machine_reader.specs.Canonical.{canonical, description_json}
use Rattle.history_text.specs.Lines.{IsLine, machine_text}
use Rattle.history_text.specs.Text.{actor_text, cell_text, deed_text, digit_text, effect_text, entry_text, event_text, move_text, request_text, rest_text, stuck_text}

-- each byte is above a newline
abbrev above : List ℕ → Bool
above [] = true
above (x ∷ xs) = nat_lt 10 x && above xs

above_line : (xs : List ℕ) → above xs ≡ true → IsLine xs
above_line [] all k within is = omega (arith, within)
above_line (x ∷ xs) all zero within is =
    let p = and_parts (nat_lt 10 x) (above xs) all in
    let more : 10 < x = ltb-true 10 x p.0 in
    omega (arith, more, is)
above_line (x ∷ xs) all (suc k) within is =
    let p = and_parts (nat_lt 10 x) (above xs) all in
    above_line xs p.1 k (omega (arith, within)) is

above-append : (xs ys : List ℕ) → above xs ≡ true → above ys ≡ true → above (xs ++ ys) ≡ true
above-append [] ys xs_above ys_above = ys_above
above-append (x ∷ xs) ys xs_above ys_above =
    let p = and_parts (nat_lt 10 x) (above xs) xs_above in
    and_from (nat_lt 10 x) (above (xs ++ ys)) p.0 (above-append xs ys p.1 ys_above)

above-then : (x : ℕ) (xs : List ℕ) → 10 < x → above xs ≡ true → above (x ∷ xs) ≡ true
above-then x xs more all = and_from (nat_lt 10 x) (above xs) (lt-ltb 10 x more) all

-- ---- digits

glyph : (d : ℕ) → 10 < digit_glyph false d
glyph d = by_size (nat_lt d 10)
  where
    by_size : (b : Bool) → 10 < cond b (48 + d) (87 + d)
    by_size true = omega arith
    by_size false = omega arith

onto_above : (k n : ℕ) (acc : List ℕ) → above acc ≡ true → above (digits_onto k 10 false n acc) ≡ true
onto_above zero n acc all = all
onto_above (suc k) n acc all =
    let more : above (digit_glyph false (n % 10) ∷ acc) ≡ true = above-then (digit_glyph false (n % 10)) acc (glyph (n % 10)) all in
    by_end (n / 10 == 0) more (onto_above k (n / 10) (digit_glyph false (n % 10) ∷ acc) more)
  where
    by_end : (b : Bool) → above (digit_glyph false (n % 10) ∷ acc) ≡ true → above (digits_onto k 10 false (n / 10) (digit_glyph false (n % 10) ∷ acc)) ≡ true → above (if b then digit_glyph false (n % 10) ∷ acc else digits_onto k 10 false (n / 10) (digit_glyph false (n % 10) ∷ acc)) ≡ true
    by_end true last more = last
    by_end false last more = more

decimal_above : (n : ℕ) → above (decimal n) ≡ true
unfolding digits
decimal_above n = onto_above 64 n [] refl

hexadecimal : (d : ℕ) → 10 < digit_text d
hexadecimal d = by_size (nat_lt d 10)
  where
    by_size : (b : Bool) → 10 < cond b (48 + d) (55 + d)
    by_size true = omega arith
    by_size false = omega arith

-- a byte's two digits, and what stands behind them
byte_then : (b : ℕ) (t : List ℕ) → above t ≡ true → above (digit_text (b / 16) ∷ digit_text (b % 16) ∷ t) ≡ true
byte_then b t all =
    above-then (digit_text (b / 16)) (digit_text (b % 16) ∷ t) (hexadecimal (b / 16)) (above-then (digit_text (b % 16)) t (hexadecimal (b % 16)) all)

cell_then : (c : Cell) (t : List ℕ) → above t ≡ true → above (cell_text c ++ t) ≡ true
cell_then c t all =
    byte_then c.region (58 ∷ digit_text (c.offset / 256 / 16) ∷ digit_text (c.offset / 256 % 16) ∷ digit_text (c.offset % 256 / 16) ∷ digit_text (c.offset % 256 % 16) ∷ t)
    (byte_then (c.offset / 256) (digit_text (c.offset % 256 / 16) ∷ digit_text (c.offset % 256 % 16) ∷ t) (byte_then (c.offset % 256) t all))

-- ---- lines

event_above : (n : Event) → above (event_text n) ≡ true
event_above (event.Fixed fixed.Tmr) = refl
event_above (event.Fixed fixed.Gbl) = refl
event_above (event.Fixed fixed.Pwr) = refl
event_above (event.Fixed fixed.Slp) = refl
event_above (event.Fixed fixed.Rtc) = refl
event_above (event.Gpe k) = byte_then k [] refl

request_above : (r : Request) → above (request_text r) ≡ true
request_above (request.Rd x) = byte_then x [] refl
request_above (request.Wr x v) = byte_then x (32 ∷ digit_text (v / 16) ∷ digit_text (v % 16) ∷ []) (byte_then v [] refl)
request_above request.Be = refl
request_above request.Bd = refl
request_above request.Qr = refl

move_above : (h : HostMove) → above (move_text h) ≡ true
move_above (host.Sc x) = byte_then x [] refl
move_above (host.Data x) = byte_then x [] refl
move_above (host.Get x) = byte_then x [] refl

effect_above : (e : Effect) → above (effect_text e) ≡ true
effect_above effect.Taken = refl
effect_above (effect.Out x) = byte_then x [] refl
effect_above effect.Put = refl
effect_above effect.Calm = refl

deed_above : (d : Deed) → above (deed_text d) ≡ true
deed_above deed.Seek = refl
deed_above deed.Busy = refl
deed_above deed.Woken = refl
deed_above deed.Own = refl
deed_above deed.Disown = refl
deed_above (deed.Leave false) = refl
deed_above (deed.Leave true) = refl
deed_above (deed.Read c v) = cell_then c (32 ∷ digit_text (v / 16) ∷ digit_text (v % 16) ∷ []) (byte_then v [] refl)
deed_above (deed.Write c v) = cell_then c (32 ∷ digit_text (v / 16) ∷ digit_text (v % 16) ∷ []) (byte_then v [] refl)
deed_above (deed.Begin r) = request_above r
deed_above (deed.Step h) = move_above h
deed_above (deed.Ctl e) = effect_above e
deed_above (deed.Take None) = refl
deed_above (deed.Take (Some r)) = byte_then r [] refl
deed_above (deed.Push q) = byte_then q [] refl
deed_above (deed.Raise n) = event_above n
deed_above (deed.Latch n) = event_above n
deed_above (deed.Assert n) = event_above n
deed_above (deed.Drop n) = event_above n
deed_above (deed.Claim n) = event_above n
deed_above (deed.Start j) = decimal_above j
deed_above (deed.Finish j) = decimal_above j
deed_above (deed.Notify x v) = byte_then x (32 ∷ digit_text (v / 16) ∷ digit_text (v % 16) ∷ []) (byte_then v [] refl)
deed_above (deed.Up n) = event_above n
deed_above (deed.Down n) = event_above n

actor_above : (a : Actor) → above (actor_text a) ≡ true
actor_above actor.Int = refl
actor_above actor.Poll = refl
actor_above actor.Ec = refl
actor_above (actor.Worker k) = decimal_above k
actor_above (actor.Device k) = decimal_above k
actor_above (actor.Firmware k) = decimal_above k

pub entry_is_line : (e : Entry) → IsLine (entry_text e)
entry_is_line e = above_line (entry_text e) (above-append (actor_text e.actor) (32 ∷ deed_text e.deed) (actor_above e.actor) (deed_above e.deed))

pub stuck_is_line : (n : Event) → IsLine (stuck_text n)
stuck_is_line n = above_line (stuck_text n) (event_above n)

pub rest_is_line : (n : ℕ) → IsLine (rest_text n)
rest_is_line n = above_line (rest_text n) (decimal_above n)

-- ---- the machine's line

abbrev third : Bool → Bool → Bool → ℕ
third c d e = cond c 110 (cond d 114 (cond e 116 0))

third_above : (c d e : Bool) → 0 < third c d e → 10 < third c d e
third_above true d e some = omega arith
third_above false true e some = omega arith
third_above false false true some = omega arith
third_above false false false some = absurd (omega (arith, some))

abbrev second : Bool → Bool → ℕ → ℕ
second a b rest = cond a 98 (cond b 102 rest)

second_above : (a b : Bool) (rest : ℕ) → (0 < rest → 10 < rest) → 0 < second a b rest → 10 < second a b rest
second_above true b rest more some = omega arith
second_above false true rest more some = omega arith
second_above false false rest more some = more some

first_above : (b : Bool) (x rest : ℕ) → (b ≡ true → 10 < x) → (0 < rest → 10 < rest) → 0 < cond b x rest → 10 < cond b x rest
first_above true x rest same more some = same refl
first_above false x rest same more some = more some

quote_above : (x : ℕ) → ((x == 34) || (x == 92)) ≡ true → 10 < x
quote_above x is = elim (or_cases (x == 34) (x == 92) is) [
  | inl same ↦ let e : x ≡ 34 = eqb-true x 34 same in omega (arith, e)
  | inr same ↦ let e : x ≡ 92 = eqb-true x 92 same in omega (arith, e)
]

letter_above : (x : ℕ) → 0 < escape_letter x → 10 < escape_letter x
letter_above x some =
    first_above ((x == 34) || (x == 92)) x (second (x == 8) (x == 12) (third (x == 10) (x == 13) (x == 9))) (quote_above x) (second_above (x == 8) (x == 12) (third (x == 10) (x == 13) (x == 9)) (third_above (x == 10) (x == 13) (x == 9))) some

escape_above : (x : ℕ) → above (escape_byte x) ≡ true
unfolding escape_byte
escape_above x = by_letter (nat_lt 0 (escape_letter x)) refl
  where
    digit : (d : ℕ) → 10 < digit_char d
    digit d = glyph d

    by_size : (b : Bool) → nat_lt x 32 ≡ b → above (cond b (92 ∷ 117 ∷ 48 ∷ 48 ∷ digit_char (x / 16) ∷ digit_char (x % 16) ∷ []) (x ∷ [])) ≡ true
    by_size true is = above-then (digit_char (x / 16)) (digit_char (x % 16) ∷ []) (digit (x / 16)) (above-then (digit_char (x % 16)) [] (digit (x % 16)) refl)
    by_size false is = let many : 32 < x + 1 = omega (arith, ltb-false x 32 is) in above-then x [] (omega (arith, many)) refl

    by_letter : (b : Bool) → nat_lt 0 (escape_letter x) ≡ b → above (cond b (92 ∷ escape_letter x ∷ []) (cond (nat_lt x 32) (92 ∷ 117 ∷ 48 ∷ 48 ∷ digit_char (x / 16) ∷ digit_char (x % 16) ∷ []) (x ∷ []))) ≡ true
    by_letter true is = above-then (escape_letter x) [] (letter_above x (ltb-true 0 (escape_letter x) is)) refl
    by_letter false is = by_size (nat_lt x 32) refl

escapes_above : (s : List ℕ) → above (escape s) ≡ true
escapes_above [] = refl
escapes_above (x ∷ s) = above-append (escape_byte x) (escape s) (escape_above x) (escapes_above s)

quoted_above : (s : List ℕ) → above (quoted s) ≡ true
quoted_above s = above-append (escape s) (34 ∷ []) (escapes_above s) refl

comma_above : (later : Bool) → above (comma_if later) ≡ true
comma_above true = refl
comma_above false = refl

signed_above : (z : ℤ) → above (signed_decimal z) ≡ true
signed_above (pos n) = decimal_above n
signed_above (negsuc n) = decimal_above (suc n)

mutual
  text_above : (d : Data) → above (compact_text d) ≡ true
  text_above null = refl
  text_above (boolean true) = refl
  text_above (boolean false) = refl
  text_above (number (unsigned n)) = decimal_above n
  text_above (number (negative z)) = signed_above z
  text_above (number (float x)) = refl
  text_above (string s) = quoted_above s
  text_above (array ds) = items_above false ds
  text_above (object ms) = members_above false ms

  items_above : (later : Bool) (ds : Items) → above (items_text later ds) ≡ true
  items_above later no_items = refl
  items_above later (item d ds) = above-append (comma_if later) (compact_text d ++ items_text true ds) (comma_above later) (above-append (compact_text d) (items_text true ds) (text_above d) (items_above true ds))

  members_above : (later : Bool) (ms : Members) → above (members_text later ms) ≡ true
  members_above later no_members = refl
  members_above later (member k d ms) = above-append (comma_if later) (quoted k ++ 58 ∷ (compact_text d ++ members_text true ms)) (comma_above later) (above-append (quoted k) (58 ∷ (compact_text d ++ members_text true ms)) (quoted_above k) (above-append (compact_text d) (members_text true ms) (text_above d) (members_above true ms)))

pub machine_is_line : (m : MachineData) → IsLine (machine_text (canonical m))
unfolding canonical
machine_is_line m = above_line (machine_text (canonical m)) (text_above (description_json m))
