-- The compact text of a plain value is read as that value.
use Rattle.std.proofs.Common.{◌≡◌, ℕ, suc, ◌<◌, ◌≤◌, ◌^◌, List, [], ◌∷◌, ◌++◌, Bool, true, false, ◌&&◌, Some, option_and_then, decimal, IsUtf8, refl, sym, ap, ◌∙◌, subst, append-nil}
use Rattle.std.specs.Ordering.{nat_cmp, match_ordering}
use Rattle.std.specs.declared.cmp.Ordering.{Ordering}
use Rattle.std.specs.declared.cmp.Ordering.TheVariants.{Less, Equal, Greater}
use Rattle.std.specs.Cmp.Lexicographic.{slice_cmp}
use Rattle.std.proofs.lemmas.Bool.{and_parts}
use Rattle.std.proofs.lemmas.Fmt.{IsAscii-decimal}
use Rattle.std.proofs.lemmas.Str.{IsUtf8-append, IsUtf8-from_ascii}
use Rattle.json.specs.Print.{quoted}
use Rattle.json.specs.Json as json
use Rattle.json.specs.Lex.{tokens}
use Rattle.json.specs.Tree as tree
use Rattle.json.proofs.Printed.Decimals.{IsNumber-decimal}
use Rattle.json.proofs.Printed.Tokens.{tokens-print}
use Rattle.json.proofs.Printed.Trees.{ArePrintable-json_tokens, value-json_tokens}
use Rattle.json.proofs.Printed.Utf8.{IsUtf8-are_ascii, IsUtf8-boolean, IsUtf8-quoted}
use Rattle.serde_json.specs.Data.{unsigned, negative, float, Data, null, boolean, number, string, array, object, Items, no_items, item, Members, no_members, member, put, depth, items_depth, members_depth}
use Rattle.serde_json.specs.Read.{max_depth, of_items, of_json, of_members, read}
use Rattle.serde_json.specs.Written.{comma_if, compact_text, items_outline, items_text, members_outline, members_text, outline}
use Rattle.serde_json.proofs.Numbers.{number_of-decimal}
use Rattle.serde_json.proofs.Texts.{print-outline}

-- a name that stands behind another, and behind all of these
abbrev is_behind : List ℕ → List ℕ → Bool
is_behind k l = match_ordering (slice_cmp nat_cmp k l) false false true

abbrev is_last : Members → List ℕ → Bool
is_last no_members k = true
is_last (member l e ms) k = is_behind k l && is_last ms k

-- members behind others
abbrev followed : Members → Members → Members
followed no_members ms = ms
followed (member k d ns) ms = member k d (followed ns ms)

-- each name stands behind those before it
abbrev pub in_order : Members → Members → Bool
in_order before no_members = true
in_order before (member k d ms) = is_last before k && in_order (followed before (member k d no_members)) ms

-- numbers of 64 bits, texts in UTF-8, and names in order
abbrev mutual
  pub IsPlain : Data → Type 0
  IsPlain null = Unit {0}
  IsPlain (boolean b) = Unit {0}
  IsPlain (number (unsigned n)) = n < 2 ^ 64
  IsPlain (number (negative z)) = ⊥
  IsPlain (number (float x)) = ⊥
  IsPlain (string s) = IsUtf8 s
  IsPlain (array ds) = ArePlain ds
  IsPlain (object ms) = (in_order no_members ms ≡ true) × HavePlain ms

  pub ArePlain : Items → Type 0
  ArePlain no_items = Unit {0}
  ArePlain (item d ds) = IsPlain d × ArePlain ds

  pub HavePlain : Members → Type 0
  HavePlain no_members = Unit {0}
  HavePlain (member k d ms) = IsUtf8 k × (IsPlain d × HavePlain ms)

-- ---- the text reads as the outline

mutual
  numbers : (d : Data) → IsPlain d → tree.HasNumbers (outline d)
  numbers null h = tt
  numbers (boolean b) h = tt
  numbers (number (unsigned n)) h = IsNumber-decimal n h
  numbers (number (negative z)) h = absurd h
  numbers (number (float x)) h = absurd h
  numbers (string s) h = tt
  numbers (array ds) h = items_numbers ds h
  numbers (object ms) h = members_numbers ms h.1

  items_numbers : (ds : Items) → ArePlain ds → tree.ItemsHaveNumbers (items_outline ds)
  items_numbers no_items h = tt
  items_numbers (item d ds) h = (numbers d h.0, items_numbers ds h.1)

  members_numbers : (ms : Members) → HavePlain ms → tree.MembersHaveNumbers (members_outline ms)
  members_numbers no_members h = tt
  members_numbers (member k d ms) h = (numbers d h.1.0, members_numbers ms h.1.1)

mutual
  same_depth : (d : Data) → tree.depth (outline d) ≡ depth d
  same_depth null = refl
  same_depth (boolean b) = refl
  same_depth (number n) = refl
  same_depth (string s) = refl
  same_depth (array ds) = ap suc (items_same_depth ds)
  same_depth (object ms) = ap suc (members_same_depth ms)

  items_same_depth : (ds : Items) → tree.items_depth (items_outline ds) ≡ items_depth ds
  items_same_depth no_items = refl
  items_same_depth (item d ds) = rw (same_depth d, items_same_depth ds) refl

  members_same_depth : (ms : Members) → tree.members_depth (members_outline ms) ≡ members_depth ms
  members_same_depth no_members = refl
  members_same_depth (member k d ms) = rw (same_depth d, members_same_depth ms) refl

-- ---- and the outline as the value

last_place : (o : Ordering) (a b c : Members) → match_ordering o false false true ≡ true → match_ordering o a b c ≡ c
last_place Less a b c e = cc
last_place Equal a b c e = cc
last_place Greater a b c e = refl

put-last : (ns : Members) (k : List ℕ) (d : Data) → is_last ns k ≡ true → put k d ns ≡ followed ns (member k d no_members)
put-last no_members k d e = refl
put-last (member l f ns) k d e =
    let p = and_parts (is_behind k l) (is_last ns k) e in
    last_place (slice_cmp nat_cmp k l) _ _ _ p.0 ∙ ap (member l f) (put-last ns k d p.1)

followed-followed : (ns ms : Members) (k : List ℕ) (d : Data) → followed (followed ns (member k d no_members)) ms ≡ followed ns (member k d ms)
followed-followed no_members ms k d = refl
followed-followed (member l e ns) ms k d = ap (member l e) (followed-followed ns ms k d)

followed-nothing : (ns : Members) → followed ns no_members ≡ ns
followed-nothing no_members = refl
followed-nothing (member l e ns) = ap (member l e) (followed-nothing ns)

mutual
  back : (d : Data) → IsPlain d → of_json (outline d) ≡ Some d
  back null h = refl
  back (boolean b) h = refl
  back (number (unsigned n)) h = rw (number_of-decimal n h) refl
  back (number (negative z)) h = absurd h
  back (number (float x)) h = absurd h
  back (string s) h = refl
  back (array ds) h = rw (items_back ds h) refl
  back (object ms) h = rw (members_back no_members ms h.0 h.1) refl

  items_back : (ds : Items) → ArePlain ds → of_items (items_outline ds) ≡ Some ds
  items_back no_items h = refl
  items_back (item d ds) h = rw (back d h.0, items_back ds h.1) refl

  members_back : (ns ms : Members) → in_order ns ms ≡ true → HavePlain ms → of_members (members_outline ms) ns ≡ Some (followed ns ms)
  members_back ns no_members e h = ap Some (sym (followed-nothing ns))
  members_back ns (member k d ms) e h =
      let p = and_parts (is_last ns k) (in_order (followed ns (member k d no_members)) ms) e in
      rw (back d h.1.0, put-last ns k d p.0) (members_back (followed ns (member k d no_members)) ms p.1 h.1.1 ∙ ap Some (followed-followed ns ms k d))

pub read-compact_text : (d : Data) → IsPlain d → depth d ≤ max_depth → read (compact_text d) ≡ Some d
read-compact_text d plain shallow =
    let j = outline d in
    let deep : tree.depth j ≤ max_depth = subst (λ n. n ≤ max_depth) (sym (same_depth d)) shallow in
    let seen : tokens (compact_text d) ≡ tree.json_tokens j ++ [] = ap tokens (sym (print-outline d)) ∙ (tokens-print (tree.json_tokens j) (ArePrintable-json_tokens j (numbers d plain)) ∙ sym (append-nil (tree.json_tokens j))) in
    let found = ap (json.value max_depth) seen ∙ value-json_tokens j max_depth [] deep in
    ap (λ v. option_and_then of_json (option_and_then (λ p. json.if_last p.0 p.1) v)) found ∙ back d plain

-- ---- the text is UTF-8

then_byte : (x : ℕ) (xs : List ℕ) → IsUtf8 (x ∷ []) → IsUtf8 xs → IsUtf8 (x ∷ xs)
then_byte x xs one rest = IsUtf8-append (x ∷ []) xs one rest

comma : (later : Bool) → IsUtf8 (comma_if later)
comma true = IsUtf8-are_ascii (44 ∷ []) refl
comma false = IsUtf8-are_ascii [] refl

mutual
  pub text_utf8 : (d : Data) → IsPlain d → IsUtf8 (compact_text d)
  text_utf8 null h = IsUtf8-are_ascii _ refl
  text_utf8 (boolean b) h = IsUtf8-boolean b
  text_utf8 (number (unsigned n)) h = IsUtf8-from_ascii (decimal n) (IsAscii-decimal n h)
  text_utf8 (number (negative z)) h = absurd h
  text_utf8 (number (float x)) h = absurd h
  text_utf8 (string s) h = IsUtf8-quoted s h
  text_utf8 (array ds) h = then_byte 91 (items_text false ds) (IsUtf8-are_ascii (91 ∷ []) refl) (items_utf8 false ds h)
  text_utf8 (object ms) h = then_byte 123 (members_text false ms) (IsUtf8-are_ascii (123 ∷ []) refl) (members_utf8 false ms h.1)

  items_utf8 : (later : Bool) (ds : Items) → ArePlain ds → IsUtf8 (items_text later ds)
  items_utf8 later no_items h = IsUtf8-are_ascii (93 ∷ []) refl
  items_utf8 later (item d ds) h = IsUtf8-append (comma_if later) _ (comma later) (IsUtf8-append (compact_text d) (items_text true ds) (text_utf8 d h.0) (items_utf8 true ds h.1))

  members_utf8 : (later : Bool) (ms : Members) → HavePlain ms → IsUtf8 (members_text later ms)
  members_utf8 later no_members h = IsUtf8-are_ascii (125 ∷ []) refl
  members_utf8 later (member k d ms) h = IsUtf8-append (comma_if later) _ (comma later) (IsUtf8-append (quoted k) _ (IsUtf8-quoted k h.0) (then_byte 58 _ (IsUtf8-are_ascii (58 ∷ []) refl) (IsUtf8-append (compact_text d) (members_text true ms) (text_utf8 d h.1.0) (members_utf8 true ms h.1.1))))
