-- The command line as `clap` knows it.
use Rattle.std.specs.Prelude.{◌≡◌, ◌<◌, ◌≤◌, ◌⊎◌, ℕ, true, List, [], length, codes, decimal, slice_get, Option, Some, None, option_map, Result, Ok, Err}
use Rattle.std.specs.Borrow.{Bor}
use Rattle.clap.specs.Simple.{App, new_app, new_rule, with_rule, on_top}
use Rattle.acpi_commands.specs.declared.command.NoCommand.{NoCommand}
use Rattle.acpi_commands.specs.declared.command.NoCommand.TheVariants as why
use Rattle.acpi_commands.specs.declared.command.Split.{Split}

-- a command without a program's name in front and without a flag for help
abbrev pub bare_line : App
bare_line = on_top (λ s. record s { no_binary_name = true; disable_help_flag = true }) (new_app (codes "acpi_events"))

-- a value that has to be there, and two that may be
abbrev pub line : App
line = with_rule (with_rule (with_rule bare_line (record (new_rule (codes "command")) { required = true }))
    (new_rule (codes "number"))) (new_rule (codes "size"))

abbrev pub text_of : Option (Bor (List ℕ)) → Option (List ℕ)
text_of = option_map (λ s. s.now)

-- the texts by their places, of which there are one to three
pub record IsSplit (texts : List (List ℕ)) (s : Split) : Type 0 where
  pub command : text_of s.command ≡ slice_get texts 0
  pub number : text_of s.number ≡ slice_get texts 1
  pub size : text_of s.size ≡ slice_get texts 2
  pub some : 1 ≤ length texts
  pub few : length texts ≤ 3

-- what `clap` makes of texts
abbrev pub Splits : List (List ℕ) → Result Split NoCommand → Type 0
Splits texts (Ok s) = IsSplit texts s
Splits texts (Err why.Usage) = (texts ≡ []) ⊎ (3 < length texts)
Splits texts (Err why.Memory) = Unit {0}

-- a text is a number of at most so much in decimal, or none
abbrev pub IsNumber : ℕ → List ℕ → Option ℕ → Type 0
IsNumber most text (Some n) = (text ≡ decimal n) × (n ≤ most)
IsNumber most text None = (n : ℕ) → n ≤ most → text ≡ decimal n → ⊥

-- a text is a size in decimal, or none
abbrev pub IsSize : List ℕ → Option ℕ → Type 0
IsSize text (Some n) = (text ≡ decimal n) × (1 ≤ n) × (n ≤ 64)
IsSize text None = (n : ℕ) → 1 ≤ n → n ≤ 64 → text ≡ decimal n → ⊥
