use Rattle.std.proofs.Common.{◌∙◌, map, string_bytes, sym}
use Rattle.std.proofs.lemmas.List.Folds.{list_all-map}
use Rattle.acpi_commands.specs.Words.{is_plain}
use Rattle.acpi_commands.proofs.Places.{command_plain, no_false, none_split}
use Rattle.acpi_commands.proofs.command.command_of.Goals as goal

pub returns-then-not-are_plain : goal.returns-then-not-are_plain
returns-then-not-are_plain c = λ command are.
    let words = c.args.words.now in
    no_false (c.if-not-are_plain.ensures ∙ (sym (list_all-map is_plain string_bytes words) ∙ command_plain command (map string_bytes words) are))

pub split_words-requires : goal.split_words-requires
split_words-requires c = list_all-map is_plain string_bytes c.args.words.now ∙ sym c.if-not-are_plain.ensures

pub returns-in-Err : goal.returns-in-Err
returns-in-Err c =
    let words = c.args.words.now in
    none_split words c.in-Err.refusal (list_all-map is_plain string_bytes words ∙ sym c.if-not-are_plain.ensures) c.in-Err.ensures
