-- The operations of a machine that is made: what is true of an addition to one of the 16 fields and of a push of one of the 8
-- codes is true of each; and what its handlers are.
use Rattle.std.proofs.Common.{◌≡◌, ℕ, zero, suc, ◌+◌, ◌*◌, ◌%◌, ◌==◌, ◌<◌, Bool, true, false, nat_lt, nat_eq, List, [], ◌∷◌, if◌then◌else◌, refl, ap, ◌∙◌, arith}
use Rattle.std.specs.List.{list_all}
use Rattle.std.proofs.lemmas.Bool.{and_from, eqb-true}
use Rattle.acpi_regs.specs.declared.event.Event.{Event}
use Rattle.acpi_regs.specs.Event.{same_event}
use Rattle.handler_script.specs.declared.op.Op.{Op}
use Rattle.handler_script.specs.declared.op.Op.TheVariants as op
use Rattle.handler_script.specs.Costs.{op_cost, ops_cost}
use Rattle.handler_script.specs.Left.{held_after}
use Rattle.machine_desc.specs.declared.machine.ListedEvent.{ListedEvent}
use Rattle.machine_desc.specs.declared.machine.Query.{Query}
use Rattle.machine_desc.specs.Kept.{queries_in}
use Rattle.machine_desc.specs.Machine.{act_fields, act_fields_of}
use Rattle.machine_history.specs.Machine.{code_script, event_script, query_in, script_in}
use Rattle.machine_history.specs.Scripts as history
use Rattle.machine_history.proofs.ScriptPrices.{push_of}
use Rattle.machine_history.proofs.Totals.{sum_of}
use Rattle.core_laws.specs.Adds.{EveryOp, added, adds, is_no_skip, only_adds}
use Rattle.machine_maker.specs.Maker as maker
use Rattle.machine_maker.specs.Maker.{drawn, each_of, made, op_at, script_of}
use Rattle.machine_maker.specs.Summary.{adds_to, one_add, one_push}
use Rattle.machine_maker.proofs.Rows.{Each, each_row, tested}
use Rattle.run_summary.proofs.Priced.{notify_of, writes_price}

drawn_is : (P : Op → Type 0) → ((f : ℕ) → f < 16 → P (op.Add f 1)) → ((q : ℕ) → q < 8 → P (op.Push (1 + q))) → (d : ℕ) → P (drawn d)
drawn_is P adds pushes d = by_half (nat_lt d 128)
  where
    by_half : (b : Bool) → P (if b then op.Add (d % 16) 1 else op.Push (1 + d % 8))
    by_half true = adds (d % 16) (omega arith)
    by_half false = pushes (d % 8) (omega arith)

each_op : (P : Op → Type 0) → ((f : ℕ) → f < 16 → P (op.Add f 1)) → ((q : ℕ) → q < 8 → P (op.Push (1 + q))) → (number size k : ℕ) → Each P (script_of number size k)
unfolding script_of op_at
each_op P adds pushes number size k = each_row P (16 * size) (λ j. op_at number (16 * size * k + j)) (λ j less. drawn_is P adds pushes ((number + 37 * (16 * size * k + j)) % 256))

-- a script of the machine's firmware is one of the four, or there is none of its number
pub each_script : (P : List Op → Type 0) (number size : ℕ) → P [] → ((k : ℕ) → P (script_of number size k)) → (k : ℕ) → P (history.script_of (made number size) k)
unfolding made each_of act_fields_of
each_script P number size none each zero = each 0
each_script P number size none each (suc zero) = each 1
each_script P number size none each (suc (suc zero)) = each 2
each_script P number size none each (suc (suc (suc zero))) = each 3
each_script P number size none each (suc (suc (suc (suc k)))) = none

-- ---- an operation of the firmware

-- it skips nothing, opens no hold, writes one byte where it adds, and is worth 1 where it pushes
pub record IsDrawn (number size : ℕ) (o : Op) : Type 0 where
  pub no_skip : is_no_skip o ≡ true
  pub held : held_after o false ≡ false
  pub writes : op_cost writes_price (act_fields (made number size)) false o ≡ one_add o
  pub notifies : notify_of o ≡ 0
  pub pushes : (g : ℕ → ℕ) → ((q : ℕ) → q < 8 → g (1 + q) ≡ 1) → push_of g o ≡ one_push o

add_writes : (number size f : ℕ) → f < 16 → op_cost writes_price (act_fields (made number size)) false (op.Add f 1) ≡ 1
unfolding made each_of act_fields_of
add_writes number size f less = eqb-true (op_cost writes_price (act_fields (made number size)) false (op.Add f 1)) 1 (tested (λ k. op_cost writes_price (act_fields (made number size)) false (op.Add k 1) == 1) 0 16 f f refl less (omega arith))

pub each_drawn : (number size k : ℕ) → Each (IsDrawn number size) (script_of number size k)
each_drawn number size k = each_op (IsDrawn number size)
    (λ f less. record { no_skip = refl; held = refl; writes = add_writes number size f less; notifies = refl; pushes = λ g one. refl })
    (λ q less. record { no_skip = refl; held = refl; writes = refl; notifies = refl; pushes = λ g one. one q less })
    number size k

-- ---- a script of operations that are drawn

pub no_skips : (number size : ℕ) (ops : List Op) → Each (IsDrawn number size) ops → list_all is_no_skip ops ≡ true
no_skips number size [] each = refl
no_skips number size (o ∷ ops) each = and_from _ _ each.0.no_skip (no_skips number size ops each.1)

pub writes_sum : (number size : ℕ) (ops : List Op) → Each (IsDrawn number size) ops → ops_cost writes_price (act_fields (made number size)) false ops ≡ sum_of one_add ops
writes_sum number size [] each = refl
writes_sum number size (o ∷ ops) each =
    let one = each.0.writes in
    let rest = writes_sum number size ops each.1 in
    let freed = ap (λ held. ops_cost writes_price (act_fields (made number size)) held ops) each.0.held in
    omega arith

pub no_notifies : (number size : ℕ) (ops : List Op) → Each (IsDrawn number size) ops → sum_of notify_of ops ≡ 0
no_notifies number size [] each = refl
no_notifies number size (o ∷ ops) each = let one = each.0.notifies in let rest = no_notifies number size ops each.1 in omega arith

pub pushes_sum : (number size : ℕ) (g : ℕ → ℕ) → ((q : ℕ) → q < 8 → g (1 + q) ≡ 1) → (ops : List Op) → Each (IsDrawn number size) ops → sum_of (push_of g) ops ≡ sum_of one_push ops
pushes_sum number size g each_one [] each = refl
pushes_sum number size g each_one (o ∷ ops) each = let one = each.0.pushes g each_one in let rest = pushes_sum number size g each_one ops each.1 in omega arith

-- ---- sums over the four scripts

pub four-same : (number size : ℕ) (f g : List Op → ℕ) → ((k : ℕ) → f (script_of number size k) ≡ g (script_of number size k)) → sum_of f (made number size).firmware ≡ sum_of g (made number size).firmware
unfolding made each_of act_fields_of
four-same number size f g same =
    let first = same 0 in
    let second = same 1 in
    let third = same 2 in
    let fourth = same 3 in
    omega arith

-- ---- handlers

quiet_in : (ls : List ListedEvent) (n : Event) → Each (λ (l : ListedEvent). l.script ≡ []) ls → script_in ls n ≡ []
quiet_in [] n each = refl
quiet_in (l ∷ ls) n each = at (same_event l.listed.event n) (quiet_in ls n each.1)
  where
    at : (b : Bool) → script_in ls n ≡ [] → (if b then l.script else script_in ls n) ≡ []
    at true rest = each.0
    at false rest = rest

-- no event has anything to do
pub quiet : (number size : ℕ) (n : Event) → event_script (made number size) n ≡ []
unfolding made each_of act_fields_of
quiet number size n = quiet_in (made number size).events n (refl, (refl, (refl, (refl, (refl, (refl, (refl, (refl, tt))))))))

handler_in : (P : Op → Bool) (qs : List Query) (q : ℕ) → Each (λ (h : Query). list_all P h.script ≡ true) qs → list_all P (query_in qs q) ≡ true
handler_in P [] q each = refl
handler_in P (h ∷ qs) q each = at (nat_eq h.code q) (handler_in P qs q each.1)
  where
    at : (b : Bool) → list_all P (query_in qs q) ≡ true → list_all P (if b then h.script else query_in qs q) ≡ true
    at true rest = each.0
    at false rest = rest

-- a test that additions, pushes and notifies pass
pub record Passes (P : Op → Bool) : Type 0 where
  pub adds : (f v : ℕ) → P (op.Add f v) ≡ true
  pub pushes : (q : ℕ) → P (op.Push q) ≡ true
  pub notifies : (d v : ℕ) → P (op.Notify d v) ≡ true

handler_passes : (P : Op → Bool) → Passes P → (k : ℕ) → list_all P (maker.code_script k) ≡ true
handler_passes P passes k = and_from _ _ (passes.adds k 1) (and_from _ _ (passes.notifies k 128) refl)

pub codes_pass : (P : Op → Bool) → Passes P → (number size q : ℕ) → list_all P (code_script (made number size) q) ≡ true
unfolding made each_of act_fields_of
codes_pass P passes number size q = handler_in P (queries_in (made number size)) q
    (handler_passes P passes 1, (handler_passes P passes 2, (handler_passes P passes 3, (handler_passes P passes 4, (handler_passes P passes 5, (handler_passes P passes 6, (handler_passes P passes 7, (handler_passes P passes 8, tt))))))))

script_passes : (P : Op → Bool) (ops : List Op) → Each (λ o. P o ≡ true) ops → list_all P ops ≡ true
script_passes P [] each = refl
script_passes P (o ∷ ops) each = and_from _ _ each.0 (script_passes P ops each.1)

pub every_op : (P : Op → Bool) → Passes P → (number size : ℕ) → EveryOp P (made number size)
every_op P passes number size = record {
  firmware = λ k. each_script (λ ops. list_all P ops ≡ true) number size refl
      (λ k. script_passes P (script_of number size k) (each_op (λ o. P o ≡ true) (λ f less. passes.adds f 1) (λ q less. passes.pushes (1 + q)) number size k)) k;
  events = λ n. ap (list_all P) (quiet number size n);
  codes = λ q. codes_pass P passes number size q;
}

pub no_skip_anywhere : (number size : ℕ) → EveryOp is_no_skip (made number size)
no_skip_anywhere number size = every_op is_no_skip (record { adds = λ f v. refl; pushes = λ q. refl; notifies = λ d v. refl }) number size

pub adds_alone : (number size k : ℕ) → EveryOp (only_adds k) (made number size)
adds_alone number size k = every_op (only_adds k) (record { adds = λ f v. refl; pushes = λ q. refl; notifies = λ d v. refl }) number size

pub handler_skips : (number size q : ℕ) → list_all is_no_skip (code_script (made number size) q) ≡ true
handler_skips number size q = (no_skip_anywhere number size).codes q

-- the handler of one of the eight codes
pub handler_is : (number size q : ℕ) → q < 8 → code_script (made number size) (1 + q) ≡ maker.code_script (1 + q)
unfolding made each_of act_fields_of
handler_is number size zero less = refl
handler_is number size (suc zero) less = refl
handler_is number size (suc (suc zero)) less = refl
handler_is number size (suc (suc (suc zero))) less = refl
handler_is number size (suc (suc (suc (suc zero)))) less = refl
handler_is number size (suc (suc (suc (suc (suc zero))))) less = refl
handler_is number size (suc (suc (suc (suc (suc (suc zero)))))) less = refl
handler_is number size (suc (suc (suc (suc (suc (suc (suc zero))))))) less = refl
handler_is number size (suc (suc (suc (suc (suc (suc (suc (suc q)))))))) less = absurd (omega arith)

-- each of the eight handlers notifies once
pub handler_notifies : (number size q : ℕ) → q < 8 → sum_of notify_of (code_script (made number size) (1 + q)) ≡ 1
handler_notifies number size q less = ap (sum_of notify_of) (handler_is number size q less)

-- ---- what is added to one field

-- what the handler of a code adds to it
abbrev pub handled : (number size k q : ℕ) → ℕ
handled number size k q = sum_of (added k) (code_script (made number size) q)

one_added : (b : Bool) → (if b then 1 else 0) + (0 + 0) ≡ (if b then 1 else 0)
one_added true = refl
one_added false = refl

handled_is : (number size k q : ℕ) → q < 8 → handled number size k (1 + q) ≡ (if (1 + q) == k then 1 else 0)
handled_is number size k q less = ap (sum_of (added k)) (handler_is number size q less) ∙ one_added ((1 + q) == k)

abbrev pub BothAdd : (number size k : ℕ) → Op → Type 0
BothAdd number size k o = added k o + push_of (handled number size k) o ≡ adds_to k o

each_added : (number size k j : ℕ) → Each (BothAdd number size k) (script_of number size j)
each_added number size k j = each_op (BothAdd number size k)
    (λ f less. omega arith)
    (λ q less. (let is = handled_is number size k q less in omega arith))
    number size j

both_sum : (number size k : ℕ) (ops : List Op) → Each (BothAdd number size k) ops → sum_of (added k) ops + sum_of (push_of (handled number size k)) ops ≡ sum_of (adds_to k) ops
both_sum number size k [] each = refl
both_sum number size k (o ∷ ops) each =
    let one : added k o + push_of (handled number size k) o ≡ adds_to k o = each.0 in
    let rest = both_sum number size k ops each.1 in
    omega arith

pub script_added : (number size k j : ℕ) → sum_of (added k) (script_of number size j) + sum_of (push_of (handled number size k)) (script_of number size j) ≡ sum_of (adds_to k) (script_of number size j)
script_added number size k j = both_sum number size k (script_of number size j) (each_added number size k j)
