-- The k-th actor.
use Rattle.std.proofs.Common.{◌≡◌, ℕ, zero, suc, ◌+◌, ◌<◌, refl, sym, ap, ◌∙◌, subst, List, [], ◌∷◌, ◌++◌, length, Option, Some, None, slice_get, arith}
use Rattle.std.proofs.lemmas.List.{length-append}
use Rattle.std.proofs.lemmas.List.FromFn.{get_or-map-range_with_len, length-map-range_with_len}
use Rattle.std.proofs.lemmas.Option.{slice_get-get_or}
use Rattle.acpi_regs.specs.declared.actor.Actor.{Actor}
use Rattle.acpi_regs.specs.declared.actor.Actor.TheVariants as actor
use Rattle.machine_desc.specs.declared.machine.ControllerDesc.{ControllerDesc}
use Rattle.machine_desc.specs.Actors.{actors_of, ec_count, numbered, of_controller}
use Rattle.machine_desc.specs.Machine.{MachineData}

pub count : (make : ℕ → Actor) (n : ℕ) → length (numbered make n) ≡ n
count make n = length-map-range_with_len make 0 n

-- what stands in front, and what stands behind
pub in_front : (xs ys : List Actor) (k : ℕ) → k < length xs → slice_get (xs ++ ys) k ≡ slice_get xs k
in_front [] ys k less = absurd (omega arith)
in_front (x ∷ xs) ys zero less = refl
in_front (x ∷ xs) ys (suc k) less = in_front xs ys k (omega arith)

pub behind : (xs ys : List Actor) (k : ℕ) → slice_get (xs ++ ys) (length xs + k) ≡ slice_get ys k
behind [] ys k = let e : 0 + k ≡ k = omega arith in ap (slice_get ys) e
behind (x ∷ xs) ys k = let e : length (x ∷ xs) + k ≡ suc (length xs + k) = omega arith in ap (slice_get (x ∷ (xs ++ ys))) e ∙ behind xs ys k

pub numbered_at : (make : ℕ → Actor) (n k : ℕ) → k < n → slice_get (numbered make n) k ≡ Some (make k)
numbered_at make n k less =
    let inside : k < length (numbered make n) = subst (λ m. k < m) (sym (count make n)) less in
    let none : 0 + k ≡ k = omega arith in
    slice_get-get_or (numbered make n) k actor.Int inside ∙ ap Some (get_or-map-range_with_len make 0 n k k actor.Int less none)

-- one of a kind, and what stands behind them
pub of_kind : (make : ℕ → Actor) (n : ℕ) (rest : List Actor) (k : ℕ) → k < n → slice_get (numbered make n ++ rest) k ≡ Some (make k)
of_kind make n rest k less = in_front (numbered make n) rest k (subst (λ m. k < m) (sym (count make n)) less) ∙ numbered_at make n k less

pub past_kind : (make : ℕ → Actor) (n : ℕ) (rest : List Actor) (k : ℕ) → slice_get (numbered make n ++ rest) (n + k) ≡ slice_get rest k
past_kind make n rest k = subst (λ m. slice_get (numbered make n ++ rest) (m + k) ≡ slice_get rest k) (count make n) (behind (numbered make n) rest k)

pub kinds_len : (make : ℕ → Actor) (n : ℕ) (rest : List Actor) → length (numbered make n ++ rest) ≡ n + length rest
kinds_len make n rest = length-append (numbered make n) rest ∙ ap (λ k. k + length rest) (count make n)

pub how_many : (m : MachineData) → length (actors_of m) ≡ 2 + m.workers + ec_count m.controller + length m.devices + length m.firmware
unfolding actors_of
how_many m =
    let d : length (numbered actor.Device (length m.devices) ++ numbered actor.Firmware (length m.firmware)) ≡ length m.devices + length (numbered actor.Firmware (length m.firmware)) = kinds_len actor.Device (length m.devices) (numbered actor.Firmware (length m.firmware)) in
    let f : length (numbered actor.Firmware (length m.firmware)) ≡ length m.firmware = count actor.Firmware (length m.firmware) in
    let rest = numbered actor.Device (length m.devices) ++ numbered actor.Firmware (length m.firmware) in
    let e : length (of_controller m.controller ++ rest) ≡ ec_count m.controller + length rest = with_controller m.controller rest in
    let w : length (numbered actor.Worker m.workers ++ (of_controller m.controller ++ rest)) ≡ m.workers + length (of_controller m.controller ++ rest) = kinds_len actor.Worker m.workers (of_controller m.controller ++ rest) in
    total (length rest) (length (of_controller m.controller ++ rest)) (length (numbered actor.Worker m.workers ++ (of_controller m.controller ++ rest))) m.workers (ec_count m.controller) (length m.devices) (length m.firmware) (d ∙ ap (λ k. length m.devices + k) f) e w
  where
    with_controller : (c : Option ControllerDesc) (rest : List Actor) → length (of_controller c ++ rest) ≡ ec_count c + length rest
    with_controller None rest = zero_more (length rest)
      where
        zero_more : (n : ℕ) → n ≡ 0 + n
        zero_more n = omega arith
    with_controller (Some c) rest = one_more (length rest)
      where
        one_more : (n : ℕ) → suc n ≡ 1 + n
        one_more n = omega arith

    total : (a b c w e d f : ℕ) → a ≡ d + f → b ≡ e + a → c ≡ w + b → suc (suc c) ≡ 2 + w + e + d + f
    total a b c w e d f p q r = omega arith

abbrev after_workers : MachineData → List Actor
after_workers m = of_controller m.controller ++ (numbered actor.Device (length m.devices) ++ numbered actor.Firmware (length m.firmware))

-- behind the workers
past_workers : (m : MachineData) (k j : ℕ) → k ≡ 2 + m.workers + j → slice_get (actors_of m) k ≡ slice_get (after_workers m) j
unfolding actors_of
past_workers m k j e =
    let two : k ≡ suc (suc (m.workers + j)) = omega arith in
    ap (slice_get (actor.Int ∷ actor.Poll ∷ (numbered actor.Worker m.workers ++ after_workers m))) two ∙ past_kind actor.Worker m.workers (after_workers m) j

past_controller : (c : Option ControllerDesc) (rest : List Actor) (j : ℕ) → slice_get (of_controller c ++ rest) (ec_count c + j) ≡ slice_get rest j
past_controller None rest j = let e : 0 + j ≡ j = omega arith in ap (slice_get rest) e
past_controller (Some c) rest j = let e : 1 + j ≡ suc j = omega arith in ap (slice_get (actor.Ec ∷ rest)) e

pub int_at : (m : MachineData) (k : ℕ) → k ≡ 0 → slice_get (actors_of m) k ≡ Some actor.Int
unfolding actors_of
int_at m k e = ap (slice_get (actors_of m)) e

pub poll_at : (m : MachineData) (k : ℕ) → k ≡ 1 → slice_get (actors_of m) k ≡ Some actor.Poll
unfolding actors_of
poll_at m k e = ap (slice_get (actors_of m)) e

pub worker_at : (m : MachineData) (k j : ℕ) → k ≡ 2 + j → j < m.workers → slice_get (actors_of m) k ≡ Some (actor.Worker j)
unfolding actors_of
worker_at m k j e less =
    let two : k ≡ suc (suc j) = omega arith in
    ap (slice_get (actor.Int ∷ actor.Poll ∷ (numbered actor.Worker m.workers ++ after_workers m))) two ∙ of_kind actor.Worker m.workers (after_workers m) j less

pub ec_at : (m : MachineData) (k : ℕ) → k ≡ 2 + m.workers → ec_count m.controller ≡ 1 → slice_get (actors_of m) k ≡ Some actor.Ec
ec_at m k e there =
    let more : k ≡ 2 + m.workers + 0 = omega arith in
    past_workers m k 0 more ∙ first m.controller (numbered actor.Device (length m.devices) ++ numbered actor.Firmware (length m.firmware)) there
  where
    first : (c : Option ControllerDesc) (rest : List Actor) → ec_count c ≡ 1 → slice_get (of_controller c ++ rest) 0 ≡ Some actor.Ec
    first None rest e = absurd (omega arith)
    first (Some c) rest e = refl

pub device_at : (m : MachineData) (k j : ℕ) → k ≡ 2 + m.workers + ec_count m.controller + j → j < length m.devices → slice_get (actors_of m) k ≡ Some (actor.Device j)
device_at m k j e less =
    let more : k ≡ 2 + m.workers + (ec_count m.controller + j) = omega arith in
    let rest = numbered actor.Device (length m.devices) ++ numbered actor.Firmware (length m.firmware) in
    past_workers m k (ec_count m.controller + j) more ∙ past_controller m.controller rest j ∙ of_kind actor.Device (length m.devices) (numbered actor.Firmware (length m.firmware)) j less

pub firmware_at : (m : MachineData) (k j : ℕ) → k ≡ 2 + m.workers + ec_count m.controller + length m.devices + j → j < length m.firmware → slice_get (actors_of m) k ≡ Some (actor.Firmware j)
firmware_at m k j e less =
    let more : k ≡ 2 + m.workers + (ec_count m.controller + (length m.devices + j)) = omega arith in
    let rest = numbered actor.Device (length m.devices) ++ numbered actor.Firmware (length m.firmware) in
    past_workers m k (ec_count m.controller + (length m.devices + j)) more ∙ past_controller m.controller rest (length m.devices + j) ∙ past_kind actor.Device (length m.devices) (numbered actor.Firmware (length m.firmware)) j ∙ numbered_at actor.Firmware (length m.firmware) j less
