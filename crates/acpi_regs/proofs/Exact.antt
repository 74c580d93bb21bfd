-- `==` of two entries, case by case.
use Rattle.std.proofs.Common.{◌≡◌, refl, Bool, true, false, ◌&&◌, IsTrue, subst, rules}
use Rattle.acpi_regs.specs.declared.actor.Actor.{Actor}
use Rattle.acpi_regs.specs.contracts.actor.ActorPartialEq.TheImpl as actor_eq
use Rattle.acpi_regs.specs.declared.event.Event.{Event}
use Rattle.acpi_regs.specs.declared.entry.Cell.{Cell}
use Rattle.acpi_regs.specs.declared.entry.Request.{Request}
use Rattle.acpi_regs.specs.declared.entry.HostMove.{HostMove}
use Rattle.acpi_regs.specs.declared.entry.Effect.{Effect}
use Rattle.acpi_regs.specs.declared.entry.Deed.{Deed}
use Rattle.acpi_regs.specs.declared.entry.Deed.TheVariants as deed
use Rattle.acpi_regs.specs.contracts.event.EventPartialEq.TheImpl as event_eq
use Rattle.acpi_regs.specs.contracts.entry.CellPartialEq.TheImpl as cell_eq
use Rattle.acpi_regs.specs.contracts.entry.RequestPartialEq.TheImpl as request_eq
use Rattle.acpi_regs.specs.contracts.entry.HostMovePartialEq.TheImpl as move_eq
use Rattle.acpi_regs.specs.contracts.entry.EffectPartialEq.TheImpl as effect_eq
use Rattle.acpi_regs.specs.declared.entry.Entry.{Entry}
use Rattle.acpi_regs.specs.contracts.entry.DeedPartialEq.TheImpl as deed_eq
use Rattle.acpi_regs.specs.contracts.entry.EntryPartialEq.TheImpl as entry_eq
use Rattle.acpi_regs.specs.Comparisons.{IsExact}

pub actors : IsExact Actor (actor_eq.ghosts).eq
actors = λ a b. search rules

pub events : IsExact Event (event_eq.ghosts).eq
events = λ a b. search rules

pub cells : IsExact Cell (cell_eq.ghosts).eq
cells = λ a b. search rules

pub requests : IsExact Request (request_eq.ghosts).eq
requests = λ a b. search rules

pub moves : IsExact HostMove (move_eq.ghosts).eq
moves = λ a b. search rules

pub effects : IsExact Effect (effect_eq.ghosts).eq
effects = λ a b. search rules

abbrev eq_cells : Cell → Cell → Bool
eq_cells = (cell_eq.ghosts).eq

abbrev eq : Deed → Deed → Bool
eq = (deed_eq.ghosts).eq

pub same : (a b : Deed) → IsTrue (eq a b) → a ≡ b
same deed.Seek deed.Seek h = refl
same deed.Busy deed.Busy h = refl
same deed.Woken deed.Woken h = refl
same deed.Own deed.Own h = refl
same deed.Disown deed.Disown h = refl
same (deed.Leave x) (deed.Leave y) h = search rules
same (deed.Read x v) (deed.Read y w) h = let e : x ≡ y = (cells x y).0 (search rules) in let f : v ≡ w = search rules in cc
same (deed.Write x v) (deed.Write y w) h = let e : x ≡ y = (cells x y).0 (search rules) in let f : v ≡ w = search rules in cc
same (deed.Begin x) (deed.Begin y) h = let e : x ≡ y = (requests x y).0 h in cc
same (deed.Step x) (deed.Step y) h = let e : x ≡ y = (moves x y).0 h in cc
same (deed.Ctl x) (deed.Ctl y) h = let e : x ≡ y = (effects x y).0 h in cc
same (deed.Take x) (deed.Take y) h = search rules
same (deed.Push x) (deed.Push y) h = search rules
same (deed.Raise x) (deed.Raise y) h = let e : x ≡ y = (events x y).0 h in cc
same (deed.Latch x) (deed.Latch y) h = let e : x ≡ y = (events x y).0 h in cc
same (deed.Assert x) (deed.Assert y) h = let e : x ≡ y = (events x y).0 h in cc
same (deed.Drop x) (deed.Drop y) h = let e : x ≡ y = (events x y).0 h in cc
same (deed.Claim x) (deed.Claim y) h = let e : x ≡ y = (events x y).0 h in cc
same (deed.Start x) (deed.Start y) h = search rules
same (deed.Finish x) (deed.Finish y) h = search rules
same (deed.Notify x v) (deed.Notify y w) h = search rules
same (deed.Up x) (deed.Up y) h = let e : x ≡ y = (events x y).0 h in cc
same (deed.Down x) (deed.Down y) h = let e : x ≡ y = (events x y).0 h in cc
same _ _ h = cc

pub back : (a : Deed) → IsTrue (eq a a)
back deed.Seek = refl
back deed.Busy = refl
back deed.Woken = refl
back deed.Own = refl
back deed.Disown = refl
back (deed.Leave x) = search rules
back (deed.Read x v) = let e : IsTrue (eq_cells x x) = (cells x x).1 refl in search rules
back (deed.Write x v) = let e : IsTrue (eq_cells x x) = (cells x x).1 refl in search rules
back (deed.Begin x) = (requests x x).1 refl
back (deed.Step x) = (moves x x).1 refl
back (deed.Ctl x) = (effects x x).1 refl
back (deed.Take x) = search rules
back (deed.Push x) = search rules
back (deed.Raise x) = (events x x).1 refl
back (deed.Latch x) = (events x x).1 refl
back (deed.Assert x) = (events x x).1 refl
back (deed.Drop x) = (events x x).1 refl
back (deed.Claim x) = (events x x).1 refl
back (deed.Start x) = search rules
back (deed.Finish x) = search rules
back (deed.Notify x v) = search rules
back (deed.Up x) = (events x x).1 refl
back (deed.Down x) = (events x x).1 refl

pub deeds : IsExact Deed eq
deeds a b = (same a b, λ e. subst (λ x. IsTrue (eq a x)) e (back a))

both : (x y : Bool) → IsTrue (x && y) → IsTrue x × IsTrue y
both true true h = (refl, refl)
both true false h = cc
both false y h = cc

all : (x y : Bool) → IsTrue x → IsTrue y → IsTrue (x && y)
all true y p q = q
all false y p q = p

abbrev eq_actor : Actor → Actor → Bool
eq_actor = (actor_eq.ghosts).eq

abbrev eq_entry : Entry → Entry → Bool
eq_entry = (entry_eq.ghosts).eq

pub entries : IsExact Entry eq_entry
entries a b = (
  λ h. let p = both (eq_actor a.actor b.actor) (eq a.deed b.deed) h in let e = (actors a.actor b.actor).0 p.0 in let f = same a.deed b.deed p.1 in λ i. record { actor = e i; deed = f i },
  λ e. subst (λ x. IsTrue (eq_entry a x)) e (all (eq_actor a.actor a.actor) (eq a.deed a.deed) ((actors a.actor a.actor).1 refl) (back a.deed)),
)
