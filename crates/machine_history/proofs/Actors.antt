-- Sums over the actors of a machine: a count of the entries of workers and firmware is the sum of their own counts.
use Rattle.std.proofs.Common.{ℕ, zero, suc, ◌+◌, ◌<◌, ◌≤◌, ◌≡◌, ◌==◌, ◌⊎◌, inl, inr, Bool, true, false, List, [], ◌∷◌, length, refl, ap, arith}
use Rattle.std.proofs.lemmas.Bool.{cases_eq, eq-eqb, ltb-true, ne_eqb, or_cases}
use Rattle.acpi_regs.specs.declared.actor.Actor.{Actor}
use Rattle.acpi_regs.specs.declared.actor.Actor.TheVariants as actor
use Rattle.acpi_regs.specs.declared.entry.Entry.{Entry}
use Rattle.acpi_regs.specs.Actor.{same_actor}
use Rattle.machine_desc.specs.Machine.{MachineData}
use Rattle.machine_history.specs.Legal.{Allowed, LegalPast, is_firmware, is_worker, runs_scripts}
use Rattle.machine_history.proofs.Totals.{Count, own, total, when}

-- ---- sums up to a number

abbrev pub upto : (ℕ → ℕ) → ℕ → ℕ
upto f zero = 0
upto f (suc n) = f n + upto f n

pub upto-plus : (f g : ℕ → ℕ) (n : ℕ) → upto (λ k. f k + g k) n ≡ upto f n + upto g n
upto-plus f g zero = refl
upto-plus f g (suc n) = let before = upto-plus f g n in omega arith

pub upto-le : (f g : ℕ → ℕ) (n : ℕ) → ((k : ℕ) → f k ≤ g k) → upto f n ≤ upto g n
upto-le f g zero less = omega arith
upto-le f g (suc n) less = let before = upto-le f g n less in let one = less n in omega arith

pub upto-zero : (n : ℕ) → upto (λ k. 0) n ≡ 0
upto-zero zero = refl
upto-zero (suc n) = let before = upto-zero n in omega arith

abbrev pub hit : ℕ → ℕ → ℕ → ℕ
hit j x k = when (k == j) x

pub when_small : (b : Bool) (x : ℕ) → when b x ≤ x
when_small true x = omega arith
when_small false x = omega arith

pub hit-below : (j x n : ℕ) → n ≤ j → upto (hit j x) n ≡ 0
hit-below j x zero below = refl
hit-below j x (suc n) below =
    let rest = hit-below j x n (omega arith) in
    let none : hit j x n ≡ 0 = ap (λ b. when b x) (ne_eqb n j (λ same. omega arith)) in
    omega arith

pub hit-once : (j x n : ℕ) → upto (hit j x) n ≤ x
hit-once j x zero = omega arith
hit-once j x (suc n) = elim (cases_eq n j) [
  | inl same ↦ (let rest = hit-below j x n (omega (arith, same)) in let one = when_small (n == j) x in omega arith)
  | inr other ↦ (let rest = hit-once j x n in let none : hit j x n ≡ 0 = ap (λ b. when b x) (ne_eqb n j other) in omega arith)
]

pub hit-there : (j x n : ℕ) → j < n → x ≤ upto (hit j x) n
hit-there j x zero below = absurd (omega arith)
hit-there j x (suc n) below = elim (cases_eq n j) [
  | inl same ↦ (let here : hit j x n ≡ x = ap (λ b. when b x) (eq-eqb n j same) in omega arith)
  | inr other ↦ (let rest = hit-there j x n (omega (arith, other)) in omega arith)
]

-- ---- over workers and firmware

abbrev pub over : MachineData → (Actor → ℕ) → ℕ
over m f = upto (λ k. f (actor.Worker k)) m.workers + upto (λ k. f (actor.Firmware k)) (length m.firmware)

pub over-plus : (m : MachineData) (f g : Actor → ℕ) → over m (λ a. f a + g a) ≡ over m f + over m g
over-plus m f g =
    let workers = upto-plus (λ k. f (actor.Worker k)) (λ k. g (actor.Worker k)) m.workers in
    let firmware = upto-plus (λ k. f (actor.Firmware k)) (λ k. g (actor.Firmware k)) (length m.firmware) in
    omega arith

pub over-le : (m : MachineData) (f g : Actor → ℕ) → ((a : Actor) → f a ≤ g a) → over m f ≤ over m g
over-le m f g less =
    let workers = upto-le (λ k. f (actor.Worker k)) (λ k. g (actor.Worker k)) m.workers (λ k. less (actor.Worker k)) in
    let firmware = upto-le (λ k. f (actor.Firmware k)) (λ k. g (actor.Firmware k)) (length m.firmware) (λ k. less (actor.Firmware k)) in
    omega arith

-- what an entry of an actor counts, given to that actor
abbrev pub share : Actor → ℕ → Actor → ℕ
share b x a = when (same_actor a b) x

pub share_once : (m : MachineData) (b : Actor) (x : ℕ) → over m (share b x) ≤ x
share_once m (actor.Worker j) x = let one = hit-once j x m.workers in let none = upto-zero (length m.firmware) in omega arith
share_once m (actor.Firmware j) x = let one = hit-once j x (length m.firmware) in let none = upto-zero m.workers in omega arith
share_once m actor.Int x = let none = upto-zero (length m.firmware) in let nobody = upto-zero m.workers in omega arith
share_once m actor.Poll x = let none = upto-zero (length m.firmware) in let nobody = upto-zero m.workers in omega arith
share_once m actor.Ec x = let none = upto-zero (length m.firmware) in let nobody = upto-zero m.workers in omega arith
share_once m (actor.Device j) x = let none = upto-zero (length m.firmware) in let nobody = upto-zero m.workers in omega arith

pub share_firmware : (m : MachineData) (b : Actor) (x : ℕ) → is_firmware m b ≡ true → x ≤ upto (λ k. share b x (actor.Firmware k)) (length m.firmware)
share_firmware m (actor.Firmware j) x is = hit-there j x (length m.firmware) (ltb-true j (length m.firmware) is)
share_firmware m _ x is = cc

pub share_worker : (m : MachineData) (b : Actor) (x : ℕ) → is_worker m b ≡ true → x ≤ upto (λ k. share b x (actor.Worker k)) m.workers
share_worker m (actor.Worker j) x is = hit-there j x m.workers (ltb-true j m.workers is)
share_worker m _ x is = cc

pub share_there : (m : MachineData) (b : Actor) (x : ℕ) → runs_scripts m b ≡ true → x ≤ over m (share b x)
share_there m b x is = elim (or_cases (is_worker m b) (is_firmware m b) is) [
  | inl worker ↦ (let most = share_worker m b x worker in omega arith)
  | inr firmware ↦ (let most = share_firmware m b x firmware in omega arith)
]

-- ---- a count is the sum of the actors' counts

pub over_within : (m : MachineData) (c : Count) (past : List Entry) → over m (λ a. total (own a c) past) ≤ total c past
over_within m c [] = let none = upto-zero (length m.firmware) in let nobody = upto-zero m.workers in omega arith
over_within m c (e ∷ past) =
    let split = over-plus m (share e.actor (c past e)) (λ a. total (own a c) past) in
    let one = share_once m e.actor (c past e) in
    let rest = over_within m c past in
    omega arith

-- each entry that counts is by a worker or a firmware
abbrev pub ByScripts : MachineData → Count → Type 0
ByScripts m c = (past : List Entry) (e : Entry) → Allowed m past e → (c past e ≡ 0) ⊎ (runs_scripts m e.actor ≡ true)

abbrev pub ByFirmware : MachineData → Count → Type 0
ByFirmware m c = (past : List Entry) (e : Entry) → Allowed m past e → (c past e ≡ 0) ⊎ (is_firmware m e.actor ≡ true)

pub within_over : (m : MachineData) (c : Count) → ByScripts m c → (past : List Entry) → LegalPast m past → total c past ≤ over m (λ a. total (own a c) past)
within_over m c by [] legal = omega arith
within_over m c by (e ∷ past) legal =
    let split = over-plus m (share e.actor (c past e)) (λ a. total (own a c) past) in
    let rest = within_over m c by past legal.1 in
    let one : c past e ≤ over m (share e.actor (c past e)) = elim (by past e legal.0) [
      | inl none ↦ omega (arith, none)
      | inr is ↦ share_there m e.actor (c past e) is
    ] in
    omega arith

pub within_firmware : (m : MachineData) (c : Count) → ByFirmware m c → (past : List Entry) → LegalPast m past → total c past ≤ upto (λ k. total (own (actor.Firmware k) c) past) (length m.firmware)
within_firmware m c by [] legal = omega arith
within_firmware m c by (e ∷ past) legal =
    let split = upto-plus (λ k. share e.actor (c past e) (actor.Firmware k)) (λ k. total (own (actor.Firmware k) c) past) (length m.firmware) in
    let rest = within_firmware m c by past legal.1 in
    let one : c past e ≤ upto (λ k. share e.actor (c past e) (actor.Firmware k)) (length m.firmware) = elim (by past e legal.0) [
      | inl none ↦ omega (arith, none)
      | inr is ↦ share_firmware m e.actor (c past e) is
    ] in
    omega arith
