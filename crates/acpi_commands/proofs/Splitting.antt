-- What clap makes of words that are not empty and do not start with `-`.
use Rattle.std.proofs.Common.{◌≡◌, ◌==◌, ◌<◌, ◌≤◌, ◌⊎◌, inl, inr, ℕ, true, false, List, [], ◌∷◌, length, Some, None, codes, if◌then◌else◌, refl, sym, ap, ap₂, subst, ◌∙◌, arith}
use Rattle.std.proofs.lemmas.Bool.{and_parts, not-true}
use Rattle.std.specs.List.{fold}
use Rattle.std.specs.Prelude.{is_some, slice_get}
use Rattle.std.specs.Str.{bytes_eq}
use Rattle.clap.specs.Faults.{check_fault, defaults_fault, entered_fault, fault_of, is_simple_and_free, settle_fault, step_fault, turn_fault, walk_fault}
use Rattle.clap.specs.Kinds.{HasKind, Kinds, or_else}
use Rattle.clap.specs.Lexer.{long_of, long_of_rest, short_of, short_of_rest, strip_byte}
use Rattle.clap.specs.Matches.{first_value, found_of}
use Rattle.clap.specs.Simple.{App, HasMatchesOf, Shape, built, entered, is_simple, matches_of}
use Rattle.clap.specs.Values.{kind_of}
use Rattle.clap.specs.Walk.{Held, Row, Rule, Step, Text, Waiting, Walk, arg_by_index, finished, first_of, idle, long_or_other, nothing_held, rows_of, settled, short_or_plain, to_positional, trailing, value, walk, walk_from, walked, word_met}
use Rattle.clap.specs.declared.error.Error.{Error}
use Rattle.clap.specs.declared.error.kind.ErrorKind.{ErrorKind}
use Rattle.clap.specs.declared.error.kind.ErrorKind.TheVariants as kind
use Rattle.clap.specs.declared.parser.matches.ArgMatches.{ArgMatches}
use Rattle.clap.specs.declared.parser.matches.Found.{Found}
use Rattle.clap.proofs.OnLiterals.{clap_on_literals}
use Rattle.clap.proofs.WalkLemmas.{first_value-rows}
use Rattle.std.specs.Option.{option_and_then}
use Rattle.acpi_commands.specs.CommandLine.{line}
use Rattle.acpi_commands.specs.Words.{are_plain, is_plain}

-- ---- one plain word

pub record Plain (w : Text) : Type 0 where
  pub dashes : bytes_eq w (45 ∷ 45 ∷ []) ≡ false
  pub long : long_of w ≡ None
  pub short : short_of w ≡ None

no_strip : (x : ℕ) (a : Text) → (x == 45) ≡ false → strip_byte 45 (x ∷ a) ≡ None
no_strip x a e = ap (λ b. if b then Some a else None) e

no_dashes : (x : ℕ) (a : Text) → (x == 45) ≡ false → bytes_eq (x ∷ a) (45 ∷ 45 ∷ []) ≡ false
no_dashes x a e = rw e refl

plain : (w : Text) → is_plain w ≡ true → Plain w
plain [] e = absurd (let x = e in cc)
plain (x ∷ a) e =
    let apart : (x == 45) ≡ false = not-true (x == 45) e in record {
      dashes = no_dashes x a apart;
      long = ap (λ o. option_and_then long_of_rest (option_and_then (strip_byte 45) o)) (no_strip x a apart);
      short = ap (λ o. option_and_then short_of_rest o) (no_strip x a apart);
    }

met : (c : List Rule) (position : ℕ) (w : Text) (h : Held) → Plain w → word_met c [] false idle position w h ≡ (h, value)
met c position w h p =
    ap (λ b. if b then (h, trailing position) else long_or_other c idle w (long_of w) h) p.dashes
    ∙ (ap (λ o. long_or_other c idle w o h) p.long ∙ ap (λ o. short_or_plain c idle w o h) p.short)

-- a walk between two words, with nothing that waits
abbrev between : Held → ℕ → Walk
between h position = record { held = h; waiting = idle; position = position; is_trailing = false; stopped = None }

goes : (c : List Rule) (h : Held) (position : ℕ) (w : Text) → Plain w → walked c [] (between h position) w ≡ to_positional c (arg_by_index c position) w (between h position) h
unfolding walked
goes c h position w p = ap (λ m. Rattle.clap.specs.Walk.after_step c w (between h position) m.0 m.1) (met c position w h p)

turns : (s : Shape) (h : Held) (position : ℕ) (w : Text) → Plain w → turn_fault s [] (between h position) w ≡ step_fault s position h value
turns s h position w p =
    ap₂ (λ k m. or_else k (step_fault s position m.0 m.1)) (quiet s h w p) (met s.rules position w h p)
  where
    quiet : (s : Shape) (h : Held) (w : Text) → Plain w → Rattle.clap.specs.Faults.word_fault s [] false idle w h ≡ []
    quiet s h w p =
        ap (λ b. if b then [] else Rattle.clap.specs.Faults.flag_word_fault s.rules s.args_override_self (long_of w) w h) p.dashes
        ∙ (ap (λ o. Rattle.clap.specs.Faults.flag_word_fault s.rules s.args_override_self o w h) p.long
        ∙ ap (λ o. Rattle.std.specs.Option.option_map_or (λ flags. Rattle.clap.specs.Faults.bundle_fault s.rules s.args_override_self flags h) o []) p.short)

-- ---- the command line

abbrev whole : App
whole = built line

abbrev start : Walk
start = walk_from nothing_held

-- the walk after a word, and after more
abbrev next : Walk → Text → Walk
next w word = to_positional whole.top.rules (arg_by_index whole.top.rules w.position) word w w.held

-- what is found of a walk that had these faults
abbrev ending : Kinds → Walk → Kinds
ending k w = or_else k (or_else (entered_fault whole w.stopped)
    (or_else (settle_fault whole.top.rules whole.top.args_override_self w.held)
    (or_else (defaults_fault (settled whole.top.rules w.held).rows whole.top.rules)
    (check_fault whole.top (finished whole.top.rules w.held) (is_some (entered whole w.stopped))))))

fault_is : (texts : List Text) → fault_of line texts ≡ ending (walk_fault whole.top [] start texts) (fold (walked whole.top.rules []) start texts)
unfolding clap_on_literals
fault_is texts = refl

rows_are : (texts : List Text) → matches_of line texts ≡ finished whole.top.rules (fold (walked whole.top.rules []) start texts).held
unfolding clap_on_literals
rows_are texts = refl

-- ---- the walk

one_walk : (a : Text) → Plain a → walked whole.top.rules [] start a ≡ next start a
one_walk a p = goes whole.top.rules nothing_held 1 a p

two_walk : (a b : Text) → Plain b → walked whole.top.rules [] (next start a) b ≡ next (next start a) b
two_walk a b p = goes whole.top.rules (next start a).held 2 b p

three_walk : (a b c : Text) → Plain c → walked whole.top.rules [] (next (next start a) b) c ≡ next (next (next start a) b) c
three_walk a b c p = goes whole.top.rules (next (next start a) b).held 3 c p

-- ---- the faults of the walk

more : (w : Walk) (a : Text) (rest : List Text) (v : Walk) → turn_fault whole.top [] w a ≡ [] → walked whole.top.rules [] w a ≡ v
    → walk_fault whole.top [] w (a ∷ rest) ≡ walk_fault whole.top [] v rest
unfolding walk_fault
more w a rest v none next_is = ap₂ (λ k x. or_else k (walk_fault whole.top [] x rest)) none next_is

one_turn : (a : Text) → Plain a → turn_fault whole.top [] start a ≡ []
unfolding clap_on_literals
one_turn a p = turns whole.top nothing_held 1 a p

two_turn : (a b : Text) → Plain b → turn_fault whole.top [] (next start a) b ≡ []
unfolding clap_on_literals
two_turn a b p = turns whole.top (next start a).held 2 b p

three_turn : (a b c : Text) → Plain c → turn_fault whole.top [] (next (next start a) b) c ≡ []
unfolding clap_on_literals
three_turn a b c p = turns whole.top (next (next start a) b).held 3 c p

four_turn : (a b c d : Text) → Plain d → turn_fault whole.top [] (next (next (next start a) b) c) d ≡ kind.UnknownArgument ∷ []
unfolding clap_on_literals
four_turn a b c d p = turns whole.top (next (next (next start a) b) c).held 4 d p

-- ---- the ends

none_fault : fault_of line [] ≡ kind.MissingRequiredArgument ∷ []
unfolding clap_on_literals
none_fault = refl

one_end : (a : Text) → ending [] (next start a) ≡ []
unfolding clap_on_literals
one_end a = refl

two_end : (a b : Text) → ending [] (next (next start a) b) ≡ []
unfolding clap_on_literals
two_end a b = refl

three_end : (a b c : Text) → ending [] (next (next (next start a) b) c) ≡ []
unfolding clap_on_literals
three_end a b c = refl

-- what the rows have of a value
pub record HasRows (texts : List Text) (rows : List Row) : Type 0 where
  pub command : first_of (codes "command") rows ≡ slice_get texts 0
  pub number : first_of (codes "number") rows ≡ slice_get texts 1
  pub size : first_of (codes "size") rows ≡ slice_get texts 2

one_rows : (a : Text) → HasRows (a ∷ []) (finished whole.top.rules (next start a).held)
unfolding clap_on_literals
one_rows a = record { command = refl; number = refl; size = refl }

two_rows : (a b : Text) → HasRows (a ∷ b ∷ []) (finished whole.top.rules (next (next start a) b).held)
unfolding clap_on_literals
two_rows a b = record { command = refl; number = refl; size = refl }

three_rows : (a b c : Text) → HasRows (a ∷ b ∷ c ∷ []) (finished whole.top.rules (next (next (next start a) b) c).held)
unfolding clap_on_literals
three_rows a b c = record { command = refl; number = refl; size = refl }

-- ---- words and what clap makes of them

walk_one : (a : Text) → Plain a → fold (walked whole.top.rules []) start (a ∷ []) ≡ next start a
walk_one a p = one_walk a p

walk_two : (a b : Text) → Plain a → Plain b → fold (walked whole.top.rules []) start (a ∷ b ∷ []) ≡ next (next start a) b
walk_two a b p q = ap (λ w. walked whole.top.rules [] w b) (one_walk a p) ∙ two_walk a b q

walk_three : (a b c : Text) → Plain a → Plain b → Plain c → fold (walked whole.top.rules []) start (a ∷ b ∷ c ∷ []) ≡ next (next (next start a) b) c
walk_three a b c p q r = ap (λ w. walked whole.top.rules [] w c) (walk_two a b p q) ∙ three_walk a b c r

faults_one : (a : Text) (rest : List Text) → Plain a → walk_fault whole.top [] start (a ∷ rest) ≡ walk_fault whole.top [] (next start a) rest
faults_one a rest p = more start a rest (next start a) (one_turn a p) (one_walk a p)

faults_two : (a b : Text) (rest : List Text) → Plain a → Plain b → walk_fault whole.top [] start (a ∷ b ∷ rest) ≡ walk_fault whole.top [] (next (next start a) b) rest
faults_two a b rest p q = faults_one a (b ∷ rest) p ∙ more (next start a) b rest (next (next start a) b) (two_turn a b q) (two_walk a b q)

faults_three : (a b c : Text) (rest : List Text) → Plain a → Plain b → Plain c → walk_fault whole.top [] start (a ∷ b ∷ c ∷ rest) ≡ walk_fault whole.top [] (next (next (next start a) b) c) rest
faults_three a b c rest p q r = faults_two a b (c ∷ rest) p q ∙ more (next (next start a) b) c rest (next (next (next start a) b) c) (three_turn a b c r) (three_walk a b c r)

no_more : (w : Walk) → walk_fault whole.top [] w [] ≡ []
unfolding walk_fault
no_more w = refl

stops : (w : Walk) (a : Text) (rest : List Text) (k : ErrorKind) → turn_fault whole.top [] w a ≡ k ∷ [] → walk_fault whole.top [] w (a ∷ rest) ≡ k ∷ []
unfolding walk_fault
stops w a rest k fault = ap (λ ks. or_else ks (walk_fault whole.top [] (walked whole.top.rules [] w a) rest)) fault

faults_four : (a b c d : Text) (rest : List Text) → Plain a → Plain b → Plain c → Plain d → walk_fault whole.top [] start (a ∷ b ∷ c ∷ d ∷ rest) ≡ kind.UnknownArgument ∷ []
faults_four a b c d rest p q r s =
    faults_three a b c (d ∷ rest) p q r ∙ stops (next (next (next start a) b) c) d rest kind.UnknownArgument (four_turn a b c d s)

-- one to three plain words are taken, and each has its place; others are not
pub data Taken (texts : List Text) : Type 0 where
  few : fault_of line texts ≡ [] → HasRows texts (matches_of line texts) → 1 ≤ length texts → length texts ≤ 3 → Taken texts
  many : (k : ErrorKind) → fault_of line texts ≡ k ∷ [] → (texts ≡ []) ⊎ (3 < length texts) → Taken texts

pub taken : (texts : List Text) → are_plain texts ≡ true → Taken texts
taken [] ok = many kind.MissingRequiredArgument none_fault (inl refl)
taken (a ∷ []) ok =
    let pa = plain a (and_parts (is_plain a) true ok).0 in
    few (fault_is (a ∷ []) ∙ (ap₂ ending (faults_one a [] pa ∙ no_more (next start a)) (walk_one a pa) ∙ one_end a))
    (subst (HasRows (a ∷ [])) (sym (rows_are (a ∷ []) ∙ ap (λ w. finished whole.top.rules w.held) (walk_one a pa))) (one_rows a))
    (omega arith) (omega arith)
taken (a ∷ b ∷ []) ok =
    let both = and_parts (is_plain a) (are_plain (b ∷ [])) ok in
    let pa = plain a both.0 in
    let pb = plain b (and_parts (is_plain b) true both.1).0 in
    few (fault_is (a ∷ b ∷ []) ∙ (ap₂ ending (faults_two a b [] pa pb ∙ no_more (next (next start a) b)) (walk_two a b pa pb) ∙ two_end a b))
    (subst (HasRows (a ∷ b ∷ [])) (sym (rows_are (a ∷ b ∷ []) ∙ ap (λ w. finished whole.top.rules w.held) (walk_two a b pa pb))) (two_rows a b))
    (omega arith) (omega arith)
taken (a ∷ b ∷ c ∷ []) ok =
    let first = and_parts (is_plain a) (are_plain (b ∷ c ∷ [])) ok in
    let second = and_parts (is_plain b) (are_plain (c ∷ [])) first.1 in
    let pa = plain a first.0 in
    let pb = plain b second.0 in
    let pc = plain c (and_parts (is_plain c) true second.1).0 in
    few (fault_is (a ∷ b ∷ c ∷ []) ∙ (ap₂ ending (faults_three a b c [] pa pb pc ∙ no_more (next (next (next start a) b) c)) (walk_three a b c pa pb pc) ∙ three_end a b c))
    (subst (HasRows (a ∷ b ∷ c ∷ [])) (sym (rows_are (a ∷ b ∷ c ∷ []) ∙ ap (λ w. finished whole.top.rules w.held) (walk_three a b c pa pb pc))) (three_rows a b c))
    (omega arith) (omega arith)
taken (a ∷ b ∷ c ∷ d ∷ rest) ok =
    let first = and_parts (is_plain a) (are_plain (b ∷ c ∷ d ∷ rest)) ok in
    let second = and_parts (is_plain b) (are_plain (c ∷ d ∷ rest)) first.1 in
    let third = and_parts (is_plain c) (are_plain (d ∷ rest)) second.1 in
    let fourth = and_parts (is_plain d) (are_plain rest) third.1 in
    many kind.UnknownArgument
    (fault_is (a ∷ b ∷ c ∷ d ∷ rest) ∙ ap (λ k. ending k (fold (walked whole.top.rules []) start (a ∷ b ∷ c ∷ d ∷ rest)))
    (faults_four a b c d rest (plain a first.0) (plain b second.0) (plain c third.0) (plain d fourth.0)))
    (inr (omega arith))

-- ---- what a parse gives

is_simple_line : is_simple line ≡ true
unfolding clap_on_literals
is_simple_line = refl

is_free_line : is_simple_and_free line ≡ true
unfolding clap_on_literals
is_free_line = refl

cons≢nil : {X : Type 0} (k : ErrorKind) → k ∷ [] ≡ [] → X
cons≢nil k e = absurd (let x = ap length e in omega arith)

-- the texts by their places, and how many there are
pub record Placed (texts : List Text) (f : Found) : Type 0 where
  pub command : first_value f (codes "command") ≡ slice_get texts 0
  pub number : first_value f (codes "number") ≡ slice_get texts 1
  pub size : first_value f (codes "size") ≡ slice_get texts 2
  pub some : 1 ≤ length texts
  pub few : length texts ≤ 3

pub placed : (app : App) (texts : List Text) (m : ArgMatches) → app ≡ line → are_plain texts ≡ true → HasMatchesOf app texts m
    → (is_simple_and_free app ≡ true → fault_of app texts ≡ []) → Placed texts (found_of m)
placed app texts m is ok has none = by (taken texts ok)
  where
    rows : rows_of (found_of m) ≡ matches_of line texts
    rows = (has (ap is_simple is ∙ is_simple_line)).0 ∙ ap (λ a. matches_of a texts) is

    no_fault : fault_of line texts ≡ []
    no_fault = ap (λ a. fault_of a texts) (sym is) ∙ none (ap is_simple_and_free is ∙ is_free_line)

    by : Taken texts → Placed texts (found_of m)
    by (many k fault bad) = cons≢nil k (sym fault ∙ no_fault)
    by (few fault found least most) = record {
      command = first_value-rows (found_of m) (codes "command") ∙ (ap (first_of (codes "command")) rows ∙ found.command);
      number = first_value-rows (found_of m) (codes "number") ∙ (ap (first_of (codes "number")) rows ∙ found.number);
      size = first_value-rows (found_of m) (codes "size") ∙ (ap (first_of (codes "size")) rows ∙ found.size);
      some = least;
      few = most;
    }

pub refused : (app : App) (texts : List Text) (e : Error) → app ≡ line → are_plain texts ≡ true → (is_simple_and_free app ≡ true → HasKind (fault_of app texts) e)
    → (kind_of e ≡ kind.OutOfMemory → ⊥) → (texts ≡ []) ⊎ (3 < length texts)
refused app texts e is ok has not_memory = by (taken texts ok)
  where
    kinds : HasKind (fault_of line texts) e
    kinds = subst (λ a. HasKind (fault_of a texts) e) is (has (ap is_simple_and_free is ∙ is_free_line))

    none : HasKind [] e → ⊥
    none (inl memory) = not_memory memory
    none (inr no_kind) = no_kind

    by : Taken texts → (texts ≡ []) ⊎ (3 < length texts)
    by (many k fault bad) = bad
    by (few fault found least most) = absurd (none (subst (λ ks. HasKind ks e) fault kinds))
