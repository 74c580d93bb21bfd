-- Words in their places, and the numbers that words are.
use Rattle.std.proofs.Common.{◌≡◌, ◌<◌, ◌≤◌, ℕ, zero, suc, true, false, List, [], ◌∷◌, length, get_or, Some, None, Result, Ok, Err, inl, inr, map, String, Global, string_bytes, refl, sym, ap, subst, ◌∙◌, arith}
use Rattle.std.proofs.lemmas.Fmt.{decimal_digit, decimal_nonempty, first_decimal, parse-decimal}
use Rattle.std.specs.Fmt.{decimal}
use Rattle.std.specs.Prelude.{slice_get}
use Rattle.std.specs.Str.Parse.{ParsesUnsigned}
use Rattle.acpi_commands.specs.CommandLine.{Splits}
use Rattle.acpi_commands.specs.Words.{AreWordsOf, Commands, are_plain, is_plain, words_of}
use Rattle.acpi_commands.specs.declared.command.Command.{Command}
use Rattle.acpi_commands.specs.declared.command.Command.TheVariants as command
use Rattle.acpi_commands.specs.declared.command.NoCommand.{NoCommand}
use Rattle.acpi_commands.specs.declared.command.NoCommand.TheVariants as why
use Rattle.acpi_commands.specs.declared.command.Task.TheVariants as task

-- ---- numbers

pub parsed : {E : Type 0} (n : ℕ) (w : List ℕ) (r : Result ℕ E) → n ≤ 4294967295 → w ≡ decimal n → ParsesUnsigned 32 10 w r → r ≡ Ok n
parsed n w r small is gives = parse-decimal 32 n w r (omega arith) (omega arith) is gives

pub no_false : {X : Type 0} → false ≡ true → X
no_false e = absurd (let x = e in cc)

plain_by_first : (w : List ℕ) → 0 < length w → 48 ≤ get_or w 0 0 → is_plain w ≡ true
plain_by_first [] long first = absurd (omega arith)
plain_by_first (x ∷ w) long first = grind arith

pub decimal_plain : (n : ℕ) → n ≤ 4294967295 → is_plain (decimal n) ≡ true
decimal_plain zero small = subst (λ w. is_plain w ≡ true) (sym (decimal_digit 0 (omega arith))) refl
decimal_plain (suc n) small = plain_by_first (decimal (suc n)) (decimal_nonempty (suc n) (omega arith)) (let first = first_decimal (suc n) (omega arith) (omega arith) in omega arith)

pub command_plain : (c : Command) (texts : List (List ℕ)) → AreWordsOf texts c → are_plain texts ≡ true
command_plain (command.Read task.Run) texts is = subst (λ l. are_plain l ≡ true) (sym is.0) refl
command_plain (command.Read task.Replay) texts is = subst (λ l. are_plain l ≡ true) (sym is.0) refl
command_plain (command.Read task.Check) texts is = subst (λ l. are_plain l ≡ true) (sym is.0) refl
command_plain (command.Make number size) texts is =
    subst (λ l. are_plain l ≡ true) (sym is.0)
    (rw (decimal_plain number is.1.0, decimal_plain size (let few = is.1.2 in omega arith)) refl)

-- ---- places

pub one_text : (texts : List (List ℕ)) (a : List ℕ) → slice_get texts 0 ≡ Some a → slice_get texts 1 ≡ None → texts ≡ a ∷ []
one_text [] a first second = absurd (let x = first in cc)
one_text (x ∷ []) a first second = ap (λ o. Rattle.std.specs.Option.unwrap_or o x ∷ []) first
one_text (x ∷ y ∷ rest) a first second = absurd (let x = second in cc)

pub three_texts : (texts : List (List ℕ)) (a b c : List ℕ) → slice_get texts 0 ≡ Some a → slice_get texts 1 ≡ Some b → slice_get texts 2 ≡ Some c → length texts ≤ 3 → texts ≡ a ∷ b ∷ c ∷ []
three_texts [] a b c first second third few = absurd (let x = first in cc)
three_texts (x ∷ []) a b c first second third few = absurd (let x = second in cc)
three_texts (x ∷ y ∷ []) a b c first second third few = absurd (let x = third in cc)
three_texts (x ∷ y ∷ z ∷ []) a b c first second third few = cc
three_texts (x ∷ y ∷ z ∷ u ∷ rest) a b c first second third few = absurd (omega arith)

-- a command has one word or three
some_words : (c : Command) → (1 ≤ length (words_of c)) × (length (words_of c) ≤ 3)
some_words (command.Read t) = (omega arith, omega arith)
some_words (command.Make number size) = (omega arith, omega arith)

pub none_split : (words : List (String Global)) (e : NoCommand) → are_plain (map string_bytes words) ≡ true → Splits (map string_bytes words) (Err e) → Commands words (Err e)
none_split words why.Memory ok splits = ok
none_split words why.Usage ok (inl none) = λ c is. let count = ap length (sym none ∙ is.0) in let some = (some_words c).0 in omega arith
none_split words why.Usage ok (inr many) = λ c is. let count = ap length is.0 in let few = (some_words c).1 in omega arith
