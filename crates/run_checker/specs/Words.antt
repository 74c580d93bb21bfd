-- The words for a verdict.
use Rattle.std.specs.Prelude.{ℕ, List, ◌++◌, ◌∷◌, codes, decimal}
use Rattle.acpi_regs.specs.declared.actor.Actor.{Actor}
use Rattle.history_text.specs.Text.{actor_text}
use Rattle.machine_history.specs.declared.rule.LogRule.{LogRule}
use Rattle.machine_history.specs.declared.rule.LogRule.TheVariants as rule

-- the name of a rule
abbrev pub rule_text : LogRule → List ℕ
rule_text rule.Actor = codes "Actor"
rule_text rule.Next = codes "Next"
rule_text rule.Seeker = codes "Seeker"
rule_text rule.Busy = codes "Busy"
rule_text rule.Wake = codes "Wake"
rule_text rule.Owner = codes "Owner"
rule_text rule.Value = codes "Value"
rule_text rule.Begin = codes "Begin"
rule_text rule.Wire = codes "Wire"
rule_text rule.Due = codes "Due"
rule_text rule.Latch = codes "Latch"
rule_text rule.Status = codes "Status"
rule_text rule.Job = codes "Job"
rule_text rule.Rest = codes "Rest"

-- a line and a rule
abbrev pub illegal_text : ℕ → LogRule → List ℕ
illegal_text line r = decimal line ++ 32 ∷ rule_text r
