use Rattle.std.proofs.Common.{◌∙◌, map, string_bytes}
use Rattle.clap.specs.Simple.{app_of}
use Rattle.acpi_commands.proofs.Splitting.{placed, refused}
use Rattle.acpi_commands.proofs.command.split_words.Goals as goal

pub returns-in-Ok-try_get_matches_from : goal.returns-in-Ok-try_get_matches_from
returns-in-Ok-try_get_matches_from c =
    let parse = c.in-Ok-try_get_matches_from in
    let at = placed (app_of c.in-Ok.line) (map string_bytes c.args.words.now) parse.matches c.in-Ok.ensures c.requires parse.ensures.matches parse.ensures.kinds in record {
      command = c.get_str.ensures ∙ at.command;
      number = c.get_str-in-Ok-try_get_matches_from.ensures ∙ at.number;
      size = c.get_str-in-Ok-try_get_matches_from-2.ensures ∙ at.size;
      some = at.some;
      few = at.few;
    }

pub returns : goal.returns
returns c =
    refused (app_of c.in-Ok.line) (map string_bytes c.args.words.now) c.in-Err.error c.in-Ok.ensures c.requires c.in-Err.ensures.kinds
    (λ memory. c.in_default-kind.not-OutOfMemory (c.kind.ensures ∙ memory))
