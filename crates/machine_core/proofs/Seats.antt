-- What is kept of the actors at the start.
use Rattle.std.proofs.Common.{ℕ, ◌+◌, ◌<◌, ◌≤◌, ◌≡◌, inl, inr, Bool, true, false, cond, nat_lt, get_or, List, [], length, slice_get, slice_set, replicate, unwrap_or, Option, Some, None, refl, sym, ◌∙◌, subst, arith, get_or-set_other}
use Rattle.std.proofs.lemmas.Bool.{cases_eq, ltb-false, ltb-true}
use Rattle.std.proofs.lemmas.Grind.{get_or-set_at}
use Rattle.std.proofs.lemmas.List.{get_or_past, get_or-replicate, length-set}
use Rattle.std.proofs.lemmas.Option.{slice_get_past}
use Rattle.acpi_regs.specs.declared.actor.Actor.{Actor}
use Rattle.acpi_regs.specs.declared.actor.Actor.TheVariants as actor
use Rattle.handler_script.specs.declared.op.Op.{Op}
use Rattle.handler_script.specs.Plan.{plan}
use Rattle.machine_desc.specs.Kept.{IsMachine}
use Rattle.machine_desc.specs.Machine.{MachineData, act_fields}
use Rattle.machine_core.specs.declared.actors.ActorState.{ActorState}
use Rattle.machine_core.specs.Actors.{IsActor, IsActors, IsFirst, idle, plan_in, state_of}
use Rattle.machine_history.specs.Scripts.{first_plan}

-- workers have nothing to do, and so many firmwares are at the begin of their scripts
pub record AreFirst (states : List ActorState) (count : ℕ) : Type 0 where
  pub size : length states ≡ 12
  pub workers : (k : ℕ) → k < 4 → get_or states k idle ≡ idle
  pub firmware : (k : ℕ) → k < count → IsFirst k (get_or states (4 + k) idle)

pub none_first : (x : ActorState) → x ≡ idle → AreFirst (replicate 12 x) 0
none_first x is = record {
  size = refl;
  workers = λ k below. get_or-replicate 12 k x idle (omega arith) ∙ is;
  firmware = λ k below. absurd (omega arith);
}

pub one_more : (states : List ActorState) (j n : ℕ) (s : ActorState) → AreFirst states j → n ≡ j → j < 8 → IsFirst j s → AreFirst (slice_set states (4 + n) s) (j + 1)
one_more states j n s are number few first =
    let size = are.size in
    let within : 4 + n < length states = omega arith in
    record {
      size = length-set states (4 + n) s ∙ are.size;
      workers = λ k below. get_or-set_other states (4 + n) k s idle (λ e. omega arith) ∙ are.workers k below;
      firmware = λ k below. elim (cases_eq k j) [
        | inl same ↦ let at : 4 + k ≡ 4 + n = omega arith in subst (IsFirst k) (sym (get_or-set_at states (4 + n) (4 + k) s idle at within)) (subst (λ i. IsFirst i s) (sym same) first)
        | inr apart ↦ subst (IsFirst k) (sym (get_or-set_other states (4 + n) (4 + k) s idle (λ e. apart (omega arith)))) (are.firmware k (omega (arith, apart)))
      ];
    }

plan_is : (m : MachineData) (o : Option (List Op)) → plan_in m o ≡ plan (act_fields m) (unwrap_or o [])
plan_is m None = refl
plan_is m (Some ops) = refl

rests : (m : MachineData) (a : Actor) (s : ActorState) → s ≡ idle → first_plan m a ≡ Rattle.handler_script.specs.Plan.End → IsActor m [] a s
rests m a s is none = subst (IsActor m [] a) (sym is) (record { words_are = refl; left_is = sym none; stands = tt })

pub first_actors : (m : MachineData) → IsMachine m → (states : List ActorState) (count : ℕ) → AreFirst states count → 8 ≤ count → IsActors m [] (record { states = states })
first_actors m ok states count are all = record { size = are.size; each = each }
  where
    past : get_or states 12 idle ≡ idle
    past = get_or_past states 12 idle (let size = are.size in omega arith)

    worker : (k : ℕ) (b : Bool) → nat_lt k 4 ≡ b → get_or states (cond b k 12) idle ≡ idle
    worker k true is = are.workers k (ltb-true k 4 is)
    worker k false is = past

    firmware : (k : ℕ) (b : Bool) → nat_lt k 8 ≡ b → IsActor m [] (actor.Firmware k) (get_or states (cond b (4 + k) 12) idle)
    firmware k true is =
        let few = ltb-true k 8 is in
        let first = are.firmware k (omega arith) m in
        record { words_are = first.0; left_is = first.1 ∙ plan_is m (slice_get m.firmware k); stands = first.2 }
    firmware k false is =
        let many = ltb-false k 8 is in
        let few = ok.few_firmware in
        rests m (actor.Firmware k) (get_or states 12 idle) past (rw (slice_get_past m.firmware k (omega arith)) refl)

    each : (a : Actor) → IsActor m [] a (state_of states a)
    each actor.Int = rests m actor.Int (get_or states 12 idle) past refl
    each actor.Poll = rests m actor.Poll (get_or states 12 idle) past refl
    each actor.Ec = rests m actor.Ec (get_or states 12 idle) past refl
    each (actor.Device k) = rests m (actor.Device k) (get_or states 12 idle) past refl
    each (actor.Worker k) = rests m (actor.Worker k) (get_or states (cond (nat_lt k 4) k 12) idle) (worker k (nat_lt k 4) refl) refl
    each (actor.Firmware k) = firmware k (nat_lt k 8) refl
