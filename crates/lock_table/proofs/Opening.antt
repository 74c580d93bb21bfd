-- A new table keeps the rule: the root has all actors, and the turn.
use Rattle.std.proofs.Common.{◌≡◌, ℕ, zero, suc, ◌==◌, true, false, List, [], ◌∷◌, get_or, refl, sym, ap, subst, ◌∙◌, is_some, None, arith}
use mathlib.Core.Option as m
use mathlib.Core.Option.{some-injective, some-ne-none}
use lib.ListN.{get_elem?}
use Rattle.std.proofs.lemmas.Nat.Bits.{bit_at-zero}
use Rattle.std.specs.Int.{bit_at}
use Rattle.atomic_table.specs.Table.{opening}
use Rattle.acpi_regs.specs.declared.actor.Actor.{Actor}
use Rattle.acpi_regs.specs.declared.actor.Actor.TheVariants as actor
use Rattle.acpi_regs.specs.declared.entry.Entry.{Entry}
use Rattle.acpi_regs.specs.declared.event.Event.{Event}
use Rattle.acpi_regs.specs.Core.{first_core}
use Rattle.acpi_regs.specs.Event.{bit_of, word_of}
use Rattle.acpi_regs.specs.Phases.{first_phase}
use Rattle.acpi_regs.proofs.PinSteps.{core_first}
use Rattle.lock_table.specs.declared.view.View.{View}
use Rattle.lock_table.specs.Pins.{pins_of}
use Rattle.lock_table.specs.Rule.{Fits, Kept, Sits}
use Rattle.lock_table.specs.Views.{NotHolding, first_view, fresh, is_known, phase_of}
use Rattle.lock_table.proofs.PartLists.{all_fresh, each_fresh}
use Rattle.lock_table.proofs.Splitting.{fresh_free}

abbrev no_pins : List ℕ
no_pins = 0 ∷ 0 ∷ 0 ∷ 0 ∷ 0 ∷ []

no_word : (w : ℕ) → get_or no_pins w 0 ≡ 0
no_word zero = refl
no_word (suc zero) = refl
no_word (suc (suc zero)) = refl
no_word (suc (suc (suc zero))) = refl
no_word (suc (suc (suc (suc zero)))) = refl
no_word (suc (suc (suc (suc (suc w))))) = refl

no_pin : (n : Event) → false ≡ pins_of no_pins n
no_pin n = sym (ap (λ x. bit_at x (bit_of n) == 1) (no_word (word_of n)) ∙ ap (λ b. b == 1) (bit_at-zero (bit_of n)))

fresh_stands : (a : Actor) → is_known a ≡ true → Sits first_core (λ _. 0) 0 (fresh a)
fresh_stands a known = (known, refl, (phase a, refl))
  where
    phase : (a : Actor) → phase_of (fresh a).phase ≡ first_phase a
    phase actor.Int = refl
    phase actor.Poll = refl
    phase actor.Ec = refl
    phase (actor.Worker k) = refl
    phase (actor.Device k) = refl
    phase (actor.Firmware k) = refl

module _ {B X : Type 0} (lists : X → List (List Event)) (base : B → X) (entries : B → List Entry) (key : B) where
  first_fits : Fits {B = B} 1 0 first_core (λ _. 0) (m.some None ∷ []) 0 first_view
  first_fits = record {
    seen = ([], refl);
    told = ([], refl);
    sits = each_fresh (Sits first_core (λ _. 0) 0) (λ a known. fresh_stands a known);
    root = refl;
    holds = λ _. record { out = refl; holds = refl; whole = refl; slot = refl; somebody = tt };
    free = each_fresh NotHolding (λ a _. fresh_free a);
  }

  pub opens : Kept lists base entries key (opening (1 ∷ 0 ∷ no_pins) (None ∷ []) first_view)
  opens = record {
    turn = 1;
    holder = 0;
    pins = no_pins;
    core = first_core;
    seat_of = λ _. 0;
    words = refl;
    five = refl;
    pinned = no_pin;
    home = λ home. absurd (omega (arith, home));
    out = λ _. record { out = refl; view = first_view; there = refl; inside = λ e. cc };
    sound = core_first (lists (base key));
    absent = λ a isnt. refl;
    seated = λ a known. record { view = first_view; there = refl; part = ap is_some (all_fresh a known) };
    fits = fits;
  }
    where
      fits : (j : ℕ) (v : View) → get_elem? (first_view ∷ []) j ≡ m.some v → Fits {B = B} 1 0 first_core (λ _. 0) (m.some None ∷ []) j v
      fits zero v there = subst (λ x. Fits {B = B} 1 0 first_core (λ _. 0) (m.some None ∷ []) 0 x) (some-injective first_view v there) first_fits
      fits (suc j) v there = absurd (some-ne-none v (sym there))
