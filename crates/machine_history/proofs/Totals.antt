-- Counts over a past: the sum of what each entry counts for.
use Rattle.std.proofs.Common.{ℕ, ◌+◌, ◌*◌, ◌≤◌, ◌≡◌, Bool, true, false, List, [], ◌∷◌, ◌++◌, if◌then◌else◌, refl, arith}
use Rattle.std.proofs.Common.{add-mul}
use Rattle.acpi_regs.specs.declared.actor.Actor.{Actor}
use Rattle.acpi_regs.specs.declared.entry.Deed.{Deed}
use Rattle.acpi_regs.specs.declared.entry.Entry.{Entry}
use Rattle.acpi_regs.specs.Actor.{same_actor}
use Rattle.machine_desc.specs.Machine.{MachineData}
use Rattle.machine_history.specs.Legal.{Allowed, LegalPast}

-- what an entry counts for, after its past
abbrev pub Count : Type 0
Count = List Entry → Entry → ℕ

abbrev pub total : Count → List Entry → ℕ
total c [] = 0
total c (e ∷ past) = c past e + total c past

-- a count that looks at the deed alone
abbrev pub by_deed : (Deed → ℕ) → Count
by_deed f past e = f e.deed

-- a count of one actor's own entries
abbrev pub own : Actor → Count → Count
own a c past e = if same_actor a e.actor then c past e else 0

-- What came, and what may still come, is no more than what was allowed: where each entry is so, the whole is.
pub bounded : (m : MachineData) (P : List Entry → ℕ) (c d : Count) (k : ℕ) → P [] ≤ k
    → ((past : List Entry) (e : Entry) → LegalPast m past → Allowed m past e → c past e + P (e ∷ past) ≤ d past e + P past)
    → (past : List Entry) → LegalPast m past → total c past + P past ≤ k + total d past
bounded m P c d k first step [] legal = omega arith
bounded m P c d k first step (e ∷ past) legal =
    let before = bounded m P c d k first step past legal.1 in
    let one = step past e legal.1 legal.0 in
    omega arith

pub total-le : (m : MachineData) (c d : Count) → ((past : List Entry) (e : Entry) → LegalPast m past → Allowed m past e → c past e ≤ d past e) → (past : List Entry) → LegalPast m past → total c past ≤ total d past
total-le m c d step [] legal = omega arith
total-le m c d step (e ∷ past) legal =
    let before = total-le m c d step past legal.1 in
    let one = step past e legal.1 legal.0 in
    omega arith

-- the same, where it holds of every entry
pub total-le_all : (c d : Count) → ((past : List Entry) (e : Entry) → c past e ≤ d past e) → (past : List Entry) → total c past ≤ total d past
total-le_all c d step [] = omega arith
total-le_all c d step (e ∷ past) =
    let before = total-le_all c d step past in
    let one = step past e in
    omega arith

pub total-plus : (c d : Count) (past : List Entry) → total (λ p e. c p e + d p e) past ≡ total c past + total d past
total-plus c d [] = refl
total-plus c d (e ∷ past) = let before = total-plus c d past in omega arith

pub total-zero : (past : List Entry) → total (λ p e. 0) past ≡ 0
total-zero [] = refl
total-zero (e ∷ past) = let before = total-zero past in omega arith

pub total-scale : (c : Count) (k : ℕ) (past : List Entry) → total (λ p e. c p e * k) past ≡ total c past * k
total-scale c k [] = omega arith
total-scale c k (e ∷ past) = let before = total-scale c k past in let out = add-mul (c past e) (total c past) k in omega arith

-- ---- sums over a list

abbrev pub sum_of : {X : Type 0} → (X → ℕ) → List X → ℕ
sum_of f [] = 0
sum_of f (x ∷ xs) = f x + sum_of f xs

abbrev pub one : Bool → ℕ
one b = if b then 1 else 0

abbrev pub when : Bool → ℕ → ℕ
when b k = if b then k else 0

pub one_small : (b : Bool) → one b ≤ 1
one_small true = omega arith
one_small false = omega arith

pub sum_of-push : {X : Type 0} (f : X → ℕ) (xs : List X) (y : X) → sum_of f (xs ++ y ∷ []) ≡ sum_of f xs + f y
sum_of-push f [] y = omega arith
sum_of-push f (x ∷ xs) y = let before = sum_of-push f xs y in omega arith
