-- What the values of a description are, read from its text or taken from a machine.
use Rattle.std.proofs.Common.{◌≡◌, ℕ, ◌<◌, All, List, Option, Some, None, option_map}
use Rattle.std.proofs.lemmas.List.Elements.{All-map}
use Rattle.acpi_regs.specs.declared.name.MethodName.TheVariants as name
use Rattle.acpi_regs.specs.Names.{name_in}
use Rattle.acpi_regs.proofs.Names.{spells}
use Rattle.machine_desc.specs.declared.machine.ControllerDesc.{ControllerDesc}
use Rattle.machine_desc.specs.Given.{HasGlk, HasQueries, IsEventPart, IsGiven, IsQueryPart}
use Rattle.machine_desc.specs.Kept.{IsMachine, IsQuery, KeepsGlk, queries_of_controller}
use Rattle.machine_desc.specs.Machine.{MachineData}
use Rattle.machine_reader.specs.Parts.{controller_part, event_part, parts_of, query_part}

-- no query has code 0
pub query_code : (text : List ℕ) (q : ℕ) → name_in text ≡ Some (name.Query q) → 0 < q
query_code text q found = ((spells text (name.Query q)).0 found).0.0

queries_given : (m : MachineData) (c : Option ControllerDesc) → All (IsQuery m) (queries_of_controller c) → HasQueries (option_map controller_part c)
queries_given m None kept = tt
queries_given m (Some c) kept = All-map IsQueryPart query_part c.queries (λ k d less. record { code = (kept k d less).code; codes = (kept k d less).script.codes })

glk_given : (version : ℕ) (c : Option ControllerDesc) → KeepsGlk version c → HasGlk version (option_map controller_part c)
glk_given version None kept = tt
glk_given version (Some c) kept = kept

-- the parts of a machine have the form that a description has
pub parts_given : (m : MachineData) → IsMachine m → IsGiven (parts_of m)
parts_given m kept = record {
  version = kept.version;
  glk = glk_given m.version m.controller kept.glk;
  events = All-map IsEventPart event_part m.events (λ k d less. record { listed = (kept.events k d less).lock; level = (kept.events k d less).level; codes = (kept.events k d less).script.codes });
  queries = queries_given m m.controller kept.queries;
  firmware = λ k d less. (kept.firmware k d less).codes;
}
