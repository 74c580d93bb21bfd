-- `==` of two statuses, case by case.
use Rattle.std.proofs.Common.{◌≡◌, ℕ, List, Bool, IsTrue, refl, subst, rules}
use Rattle.std.specs.Str.{bytes_eq}
use Rattle.acpi_regs.specs.Comparisons.{IsExact}
use Rattle.machine_desc.specs.declared.fault.BadMachine.{BadMachine}
use Rattle.machine_desc.specs.contracts.fault.BadMachinePartialEq.TheImpl as bad_eq
use Rattle.acpi_regs.specs.declared.actor.Actor.{Actor}
use Rattle.acpi_regs.specs.contracts.actor.ActorPartialEq.TheImpl as actor_eq
use Rattle.machine_history.specs.declared.rule.LogRule.{LogRule}
use Rattle.machine_history.specs.contracts.rule.LogRulePartialEq.TheImpl as log_eq
use Rattle.acpi_commands.specs.declared.status.Status.{Status}
use Rattle.acpi_commands.specs.declared.status.Status.TheVariants as status
use Rattle.acpi_commands.specs.contracts.status.StatusPartialEq.TheImpl as status_eq

abbrev pub eq : Status → Status → Bool
eq = (status_eq.ghosts).eq

same_path : (x y : List ℕ) → IsTrue (bytes_eq x y) → x ≡ y
same_path x y h = search rules

log_rules : IsExact LogRule (log_eq.ghosts).eq
log_rules = λ a b. search rules

same : IsExact BadMachine (bad_eq.ghosts).eq → IsExact Actor (actor_eq.ghosts).eq → (a b : Status) → IsTrue (eq a b) → a ≡ b
same exact actors status.Ok status.Ok h = refl
same exact actors status.Usage status.Usage h = refl
same exact actors status.NotJson status.NotJson h = refl
same exact actors (status.BadShape x) (status.BadShape y) h = let e : x ≡ y = same_path x y h in cc
same exact actors (status.BadMachine x) (status.BadMachine y) h = let e : x ≡ y = (exact x y).0 h in cc
same exact actors (status.TooLong m) (status.TooLong n) h = search rules
same exact actors status.ReadFault status.ReadFault h = refl
same exact actors status.WriteFault status.WriteFault h = refl
same exact actors status.Memory status.Memory h = refl
same exact actors status.TooLarge status.TooLarge h = refl
same exact actors (status.Illegal l x) (status.Illegal k y) h = let e : x ≡ y = (log_rules x y).0 (search rules) in let f : l ≡ k = search rules in cc
same exact actors (status.Unfinished x) (status.Unfinished y) h = let e : x ≡ y = (actors x y).0 h in cc
same exact actors (status.BadLog m) (status.BadLog n) h = search rules
same exact actors _ _ h = cc

back : IsExact BadMachine (bad_eq.ghosts).eq → IsExact Actor (actor_eq.ghosts).eq → (a : Status) → IsTrue (eq a a)
back exact actors (status.BadShape x) = search rules
back exact actors (status.BadMachine x) = (exact x x).1 refl
back exact actors (status.TooLong n) = search rules
back exact actors (status.Illegal l x) = let e : IsTrue ((log_eq.ghosts).eq x x) = (log_rules x x).1 refl in search (rules, e)
back exact actors (status.Unfinished x) = (actors x x).1 refl
back exact actors (status.BadLog n) = search rules
back exact actors _ = refl

pub statuses : IsExact BadMachine (bad_eq.ghosts).eq → IsExact Actor (actor_eq.ghosts).eq → IsExact Status eq
statuses exact actors a b = (same exact actors a b, λ e. subst (λ x. IsTrue (eq a x)) e (back exact actors a))
