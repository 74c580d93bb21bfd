-- What the program says of a status on standard error.
use Rattle.std.specs.Prelude.{ℕ, List, [], ◌∷◌, ◌++◌, codes, decimal}
use Rattle.history_text.specs.Text.{actor_text}
use Rattle.machine_desc.specs.declared.fault.BadMachine.{BadMachine}
use Rattle.machine_desc.specs.declared.fault.Part.{Part}
use Rattle.machine_desc.specs.declared.fault.Part.TheVariants as part
use Rattle.machine_desc.specs.declared.fault.Rule.{Rule}
use Rattle.machine_desc.specs.declared.fault.Rule.TheVariants as rule
use Rattle.run_checker.specs.Words.{illegal_text}
use Rattle.acpi_commands.specs.declared.status.Status.{Status}
use Rattle.acpi_commands.specs.declared.status.Status.TheVariants as status

abbrev pub rule_name : Rule → List ℕ
rule_name rule.BadGeometry = codes "BadGeometry"
rule_name rule.TooManyEvents = codes "TooManyEvents"
rule_name rule.BadWorkers = codes "BadWorkers"
rule_name rule.TooMany = codes "TooMany"
rule_name rule.BadRegion = codes "BadRegion"
rule_name rule.UnknownRegion = codes "UnknownRegion"
rule_name rule.BadWidth = codes "BadWidth"
rule_name rule.OutsideRegion = codes "OutsideRegion"
rule_name rule.UnknownEvent = codes "UnknownEvent"
rule_name rule.TakenEvent = codes "TakenEvent"
rule_name rule.BadRefs = codes "BadRefs"
rule_name rule.TakenCode = codes "TakenCode"
rule_name rule.LongList = codes "LongList"
rule_name rule.UnknownActor = codes "UnknownActor"
rule_name rule.LongScript = codes "LongScript"
rule_name rule.Unbalanced = codes "Unbalanced"
rule_name rule.UnknownField = codes "UnknownField"
rule_name rule.BadSkip = codes "BadSkip"
rule_name rule.NotAllowed = codes "NotAllowed"

abbrev pub part_name : Part → List ℕ
part_name part.Gpe = codes "Gpe"
part_name part.Workers = codes "Workers"
part_name part.Region = codes "Region"
part_name part.Field = codes "Field"
part_name part.Event = codes "Event"
part_name part.Controller = codes "Controller"
part_name part.Query = codes "Query"
part_name part.Firmware = codes "Firmware"
part_name part.Device = codes "Device"
part_name part.Schedule = codes "Schedule"

-- the rule, the part, and the numbers of the item and of the operation in it
abbrev pub bad_machine_text : BadMachine → List ℕ
bad_machine_text bad = rule_name bad.rule
    ++ (32 ∷ (part_name bad.place.part ++ (32 ∷ (decimal bad.place.index ++ (32 ∷ decimal bad.place.op)))))

-- the name of a status
abbrev pub name_of : Status → List ℕ
name_of status.Ok = codes "Ok"
name_of status.Usage = codes "Usage"
name_of status.NotJson = codes "NotJson"
name_of (status.BadShape path) = codes "BadShape"
name_of (status.BadMachine bad) = codes "BadMachine"
name_of (status.TooLong weight) = codes "TooLong"
name_of status.ReadFault = codes "ReadFault"
name_of status.WriteFault = codes "WriteFault"
name_of status.Memory = codes "Memory"
name_of status.TooLarge = codes "TooLarge"
name_of (status.Illegal line broken) = codes "Illegal"
name_of (status.Unfinished a) = codes "Unfinished"
name_of (status.BadLog n) = codes "BadLog"

-- what it carries, after a space
abbrev pub carried : Status → List ℕ
carried (status.BadShape path) = 32 ∷ path
carried (status.BadMachine bad) = 32 ∷ bad_machine_text bad
carried (status.TooLong weight) = 32 ∷ decimal weight
carried (status.Illegal line broken) = 32 ∷ illegal_text line broken
carried (status.Unfinished a) = 32 ∷ actor_text a
carried (status.BadLog n) = 32 ∷ decimal n
carried _ = []

-- a line with the name of a status and what it carries
abbrev pub status_line : Status → List ℕ
status_line s = codes "acpi_events: " ++ (name_of s ++ (carried s ++ 10 ∷ []))

-- nothing of a run that went well, and of each refusal its line
abbrev pub error_line : Status → List ℕ
error_line status.Ok = []
error_line s = status_line s
