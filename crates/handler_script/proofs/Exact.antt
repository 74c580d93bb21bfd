-- `==` of two acts, case by case.
use Rattle.std.proofs.Common.{◌≡◌, refl, Bool, IsTrue, subst, rules}
use Rattle.acpi_regs.specs.Comparisons.{IsExact}
use Rattle.acpi_regs.specs.declared.event.Event.{Event}
use Rattle.acpi_regs.specs.declared.entry.Cell.{Cell}
use Rattle.acpi_regs.specs.declared.entry.Request.{Request}
use Rattle.acpi_regs.specs.contracts.event.EventPartialEq.TheImpl as event_eq
use Rattle.acpi_regs.specs.contracts.entry.CellPartialEq.TheImpl as cell_eq
use Rattle.acpi_regs.specs.contracts.entry.RequestPartialEq.TheImpl as request_eq
use Rattle.handler_script.specs.declared.act.Act.{Act}
use Rattle.handler_script.specs.declared.act.Act.TheVariants as act
use Rattle.handler_script.specs.contracts.act.ActPartialEq.TheImpl as act_eq

abbrev eq_cells : Cell → Cell → Bool
eq_cells = (cell_eq.ghosts).eq

events : IsExact Event (event_eq.ghosts).eq
events = λ a b. search rules

cells : IsExact Cell eq_cells
cells = λ a b. search rules

requests : IsExact Request (request_eq.ghosts).eq
requests = λ a b. search rules

abbrev eq : Act → Act → Bool
eq = (act_eq.ghosts).eq

same : (a b : Act) → IsTrue (eq a b) → a ≡ b
same act.Lock act.Lock h = refl
same act.Unlock act.Unlock h = refl
same (act.Read x) (act.Read y) h = let e : x ≡ y = (cells x y).0 h in cc
same (act.Write x v) (act.Write y w) h = let e : x ≡ y = (cells x y).0 (search rules) in let f : v ≡ w = search rules in cc
same (act.Ask x) (act.Ask y) h = let e : x ≡ y = (requests x y).0 h in cc
same (act.Notify x v) (act.Notify y w) h = search rules
same (act.Drop x) (act.Drop y) h = let e : x ≡ y = (events x y).0 h in cc
same (act.Up x) (act.Up y) h = let e : x ≡ y = (events x y).0 h in cc
same (act.Down x) (act.Down y) h = let e : x ≡ y = (events x y).0 h in cc
same (act.Raise x) (act.Raise y) h = let e : x ≡ y = (events x y).0 h in cc
same (act.Assert x) (act.Assert y) h = let e : x ≡ y = (events x y).0 h in cc
same (act.Push x) (act.Push y) h = search rules
same _ _ h = cc

back : (a : Act) → IsTrue (eq a a)
back act.Lock = refl
back act.Unlock = refl
back (act.Read x) = (cells x x).1 refl
back (act.Write x v) = let e : IsTrue (eq_cells x x) = (cells x x).1 refl in search rules
back (act.Ask x) = (requests x x).1 refl
back (act.Notify x v) = search rules
back (act.Drop x) = (events x x).1 refl
back (act.Up x) = (events x x).1 refl
back (act.Down x) = (events x x).1 refl
back (act.Raise x) = (events x x).1 refl
back (act.Assert x) = (events x x).1 refl
back (act.Push x) = search rules

pub acts : IsExact Act eq
acts a b = (same a b, λ e. subst (λ x. IsTrue (eq a x)) e (back a))
