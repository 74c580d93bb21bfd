-- What a script's acts cost is no more than what the weight counts for its operations.
use Rattle.std.proofs.Common.{ℕ, ◌+◌, ◌*◌, ◌≤◌, ◌≡◌, Bool, true, false, cond, ◌&&◌, nat_lt, List, [], ◌∷◌, sum_by, Option, Some, None, slice_get, if◌then◌else◌, refl, ap, ◌∙◌, arith}
use Rattle.std.proofs.lemmas.List.Sums.{sum_by-cons}
use Rattle.std.proofs.Math.Nat.{mul-one}
use Rattle.acpi_regs.specs.declared.entry.Cell.{Cell}
use Rattle.acpi_regs.specs.declared.entry.Request.TheVariants as request
use Rattle.acpi_regs.specs.declared.event.Event.{Event}
use Rattle.field_units.specs.declared.rules.RegionKind.{RegionKind}
use Rattle.field_units.specs.declared.rules.RegionKind.TheVariants as kind
use Rattle.field_units.specs.Bits.{byte_count}
use Rattle.field_units.specs.Field.{Field, is_controller}
use Rattle.handler_script.specs.declared.act.Act.{Act}
use Rattle.handler_script.specs.declared.act.Act.TheVariants as act
use Rattle.handler_script.specs.declared.op.Op.{Op}
use Rattle.handler_script.specs.declared.op.Op.TheVariants as op
use Rattle.handler_script.specs.Costs.{IsUniform, field_cost, op_cost, ops_cost, reads_of, writes_of}
use Rattle.handler_script.specs.Left.{held_after}
use Rattle.handler_script.specs.Parts.{bursts, read_in, takes_lock, write_in}
use Rattle.machine_desc.specs.declared.tally.Tally.TheVariants as tally
use Rattle.machine_desc.specs.Weight.{access_moves, access_size, counted, in_script, one_if, op_moves, op_size, script_moves, script_size, size_from}
use Rattle.machine_desc.specs.Weight as weight
use Rattle.machine_history.proofs.Prices.{entries_price, lifts, moves_price, pushes_price, queries_price}
use Rattle.machine_history.proofs.Totals.{sum_of}

pub sums-same : {X : Type 0} (f : X → ℕ) (xs : List X) → sum_by f xs ≡ sum_of f xs
sums-same f [] = refl
sums-same f (x ∷ xs) = sum_by-cons f x xs ∙ ap (λ k. f x + k) (sums-same f xs)

-- ---- entries

pub taken : (b : Bool) → cond b (8 + 0) 0 ≡ 8 * one_if b
taken true = refl
taken false = refl

-- burst mode, where the region is memory
abbrev pub stray : ℕ → RegionKind → Bool → ℕ
stray price kind.Memory burst = if burst then price else 0
stray price kind.Controller burst = 0

-- memory has no burst mode
pub unburst : (price : ℕ) (k : RegionKind) (c : Bool) → stray price k (is_controller k && c) ≡ 0
unburst price kind.Memory c = refl
unburst price kind.Controller c = refl

pub accessed : (k : RegionKind) (f : Field) (burst : Bool) (reads writes : ℕ) → cond burst (6 + 4) 0 + (reads * entries_price (read_in k f 0) + writes * entries_price (write_in k f 0 0)) ≤ access_size k burst reads writes + stray 10 k burst
accessed kind.Memory f true reads writes = let r = mul-one reads in let w = mul-one writes in omega arith
accessed kind.Memory f false reads writes = let r = mul-one reads in let w = mul-one writes in omega arith
accessed kind.Controller f true reads writes = omega arith
accessed kind.Controller f false reads writes = omega arith

pub field_within : (f : Field) (held : Bool) (o : Op) → field_cost entries_price o held (Some f) ≤ weight.field_size f held o
field_within f held o =
    let lock = taken (takes_lock f held) in
    let bytes = accessed f.kind f (bursts f) (reads_of o f) (writes_of o f) in
    let plain = unburst 10 f.kind (nat_lt 1 (byte_count f)) in
    omega arith

pub named_within : (found : Option Field) (held : Bool) (o : Op) → field_cost entries_price o held found ≤ weight.size_on found held o
named_within None held o = omega arith
named_within (Some f) held o = field_within f held o

pub op_within : (fields : List Field) (held : Bool) (o : Op) → op_cost entries_price fields held o ≤ op_size fields held o
unfolding op_size
op_within fields held (op.Read f) = named_within (slice_get fields f) held (op.Read f)
op_within fields held (op.Write f v) = named_within (slice_get fields f) held (op.Write f v)
op_within fields held (op.Add f v) = named_within (slice_get fields f) held (op.Add f v)
op_within fields held (op.Skip v k) = omega arith
op_within fields held op.Hold = omega arith
op_within fields held op.Free = omega arith
op_within fields held (op.Notify d v) = omega arith
op_within fields held (op.Drop e) = omega arith
op_within fields held (op.Up e) = omega arith
op_within fields held (op.Down e) = omega arith
op_within fields held (op.Raise e) = omega arith
op_within fields held (op.Assert e) = omega arith
op_within fields held (op.Push q) = omega arith

pub from_within : (fields : List Field) (held : Bool) (ops : List Op) → ops_cost entries_price fields held ops ≤ size_from fields held ops
from_within fields held [] = omega arith
from_within fields held (o ∷ ops) =
    let one = op_within fields held o in
    let rest = from_within fields (held_after o held) ops in
    omega arith

pub entries_within : (fields : List Field) (ops : List Op) → ops_cost entries_price fields false ops ≤ script_size fields ops
unfolding script_size
entries_within fields ops = from_within fields false ops

-- ---- moves of the controller

pub nothing : (b : Bool) → cond b (0 + 0) 0 ≡ 0
nothing true = refl
nothing false = refl

pub moves_accessed : (k : RegionKind) (f : Field) (burst : Bool) (reads writes : ℕ) → cond burst (1 + 1) 0 + (reads * moves_price (read_in k f 0) + writes * moves_price (write_in k f 0 0)) ≤ access_moves k burst reads writes + stray 2 k burst
moves_accessed kind.Memory f true reads writes = omega arith
moves_accessed kind.Memory f false reads writes = omega arith
moves_accessed kind.Controller f true reads writes = omega arith
moves_accessed kind.Controller f false reads writes = omega arith

pub moves_field : (found : Option Field) (held : Bool) (o : Op) → field_cost moves_price o held found ≤ weight.moves_on found o
moves_field None held o = omega arith
moves_field (Some f) held o =
    let lock = nothing (takes_lock f held) in
    let bytes = moves_accessed f.kind f (bursts f) (reads_of o f) (writes_of o f) in
    let plain = unburst 2 f.kind (nat_lt 1 (byte_count f)) in
    omega arith

pub moves_op : (fields : List Field) (held : Bool) (o : Op) → op_cost moves_price fields held o ≤ op_moves fields o
unfolding op_moves
moves_op fields held (op.Read f) = moves_field (slice_get fields f) held (op.Read f)
moves_op fields held (op.Write f v) = moves_field (slice_get fields f) held (op.Write f v)
moves_op fields held (op.Add f v) = moves_field (slice_get fields f) held (op.Add f v)
moves_op fields held _ = omega arith

pub moves_from : (fields : List Field) (held : Bool) (ops : List Op) → ops_cost moves_price fields held ops ≤ sum_of (op_moves fields) ops
moves_from fields held [] = omega arith
moves_from fields held (o ∷ ops) =
    let one = moves_op fields held o in
    let rest = moves_from fields (held_after o held) ops in
    omega arith

pub moves_within : (fields : List Field) (ops : List Op) → ops_cost moves_price fields false ops ≤ script_moves fields ops
unfolding script_moves
moves_within fields ops = let all = moves_from fields false ops in let same = sums-same (op_moves fields) ops in omega arith

-- ---- prices at which accesses cost nothing

pub record IsFreeOfFields (f : Act → ℕ) : Type 0 where
  pub lock : f act.Lock ≡ 0
  pub unlock : f act.Unlock ≡ 0
  pub be : f (act.Ask request.Be) ≡ 0
  pub bd : f (act.Ask request.Bd) ≡ 0
  pub read : (c : Cell) → f (act.Read c) ≡ 0
  pub write : (c : Cell) (v : ℕ) → f (act.Write c v) ≡ 0
  pub rd : (x : ℕ) → f (act.Ask (request.Rd x)) ≡ 0
  pub wr : (x v : ℕ) → f (act.Ask (request.Wr x v)) ≡ 0

pub free_reads : (f : Act → ℕ) → IsFreeOfFields f → (k : RegionKind) (field : Field) → f (read_in k field 0) ≡ 0
free_reads f free kind.Memory field = free.read _
free_reads f free kind.Controller field = free.rd _

pub free_writes : (f : Act → ℕ) → IsFreeOfFields f → (k : RegionKind) (field : Field) → f (write_in k field 0 0) ≡ 0
free_writes f free kind.Memory field = free.write _ _
free_writes f free kind.Controller field = free.wr _ _

pub free_pair : (b : Bool) (x y : ℕ) → x ≡ 0 → y ≡ 0 → cond b (x + y) 0 ≡ 0
free_pair true x y none nothing = omega arith
free_pair false x y none nothing = refl

pub free_times : (n x : ℕ) → x ≡ 0 → n * x ≡ 0
free_times n x none = let same : n * x ≡ n * 0 = ap (λ k. n * k) none in omega arith

pub free_field : (f : Act → ℕ) → IsFreeOfFields f → (o : Op) (held : Bool) (found : Option Field) → field_cost f o held found ≡ 0
free_field f free o held None = refl
free_field f free o held (Some field) =
    let lock = free_pair (takes_lock field held) (f act.Lock) (f act.Unlock) free.lock free.unlock in
    let burst = free_pair (bursts field) (f (act.Ask request.Be)) (f (act.Ask request.Bd)) free.be free.bd in
    let reads = free_times (reads_of o field) (f (read_in field.kind field 0)) (free_reads f free field.kind field) in
    let writes = free_times (writes_of o field) (f (write_in field.kind field 0 0)) (free_writes f free field.kind field) in
    omega arith

-- ---- runs that a script can bring

pub free_lifts : (n : Event) → IsFreeOfFields (lifts n)
free_lifts n = record { lock = refl; unlock = refl; be = refl; bd = refl; read = λ c. refl; write = λ c v. refl; rd = λ x. refl; wr = λ x v. refl }

pub lifts_op : (n : Event) (fields : List Field) (held : Bool) (o : Op) → op_cost (lifts n) fields held o ≤ counted (tally.Runs n) o
lifts_op n fields held (op.Read f) = let none = free_field (lifts n) (free_lifts n) (op.Read f) held (slice_get fields f) in omega arith
lifts_op n fields held (op.Write f v) = let none = free_field (lifts n) (free_lifts n) (op.Write f v) held (slice_get fields f) in omega arith
lifts_op n fields held (op.Add f v) = let none = free_field (lifts n) (free_lifts n) (op.Add f v) held (slice_get fields f) in omega arith
lifts_op n fields held (op.Raise e) = omega arith
lifts_op n fields held (op.Assert e) = omega arith
lifts_op n fields held _ = omega arith

pub lifts_from : (n : Event) (fields : List Field) (held : Bool) (ops : List Op) → ops_cost (lifts n) fields held ops ≤ sum_of (counted (tally.Runs n)) ops
lifts_from n fields held [] = omega arith
lifts_from n fields held (o ∷ ops) =
    let one = lifts_op n fields held o in
    let rest = lifts_from n fields (held_after o held) ops in
    omega arith

pub lifts_within : (n : Event) (fields : List Field) (ops : List Op) → ops_cost (lifts n) fields false ops ≤ in_script (tally.Runs n) ops
unfolding in_script
lifts_within n fields ops = let all = lifts_from n fields false ops in let same = sums-same (counted (tally.Runs n)) ops in omega arith

-- ---- pushes of a script

abbrev pub push_of : (ℕ → ℕ) → Op → ℕ
push_of g (op.Push q) = g q
push_of g _ = 0

pub free_pushes : (g : ℕ → ℕ) → IsFreeOfFields (pushes_price g)
free_pushes g = record { lock = refl; unlock = refl; be = refl; bd = refl; read = λ c. refl; write = λ c v. refl; rd = λ x. refl; wr = λ x v. refl }

pub pushes_op : (g : ℕ → ℕ) (fields : List Field) (held : Bool) (o : Op) → op_cost (pushes_price g) fields held o ≤ push_of g o
pushes_op g fields held (op.Read f) = let none = free_field (pushes_price g) (free_pushes g) (op.Read f) held (slice_get fields f) in omega arith
pushes_op g fields held (op.Write f v) = let none = free_field (pushes_price g) (free_pushes g) (op.Write f v) held (slice_get fields f) in omega arith
pushes_op g fields held (op.Add f v) = let none = free_field (pushes_price g) (free_pushes g) (op.Add f v) held (slice_get fields f) in omega arith
pushes_op g fields held (op.Push q) = omega arith
pushes_op g fields held _ = omega arith

pub pushes_from : (g : ℕ → ℕ) (fields : List Field) (held : Bool) (ops : List Op) → ops_cost (pushes_price g) fields held ops ≤ sum_of (push_of g) ops
pushes_from g fields held [] = omega arith
pushes_from g fields held (o ∷ ops) =
    let one = pushes_op g fields held o in
    let rest = pushes_from g fields (held_after o held) ops in
    omega arith

-- ---- no script asks for a query

pub free_queries : IsFreeOfFields queries_price
free_queries = record { lock = refl; unlock = refl; be = refl; bd = refl; read = λ c. refl; write = λ c v. refl; rd = λ x. refl; wr = λ x v. refl }

pub queries_op : (fields : List Field) (held : Bool) (o : Op) → op_cost queries_price fields held o ≡ 0
queries_op fields held (op.Read f) = free_field queries_price free_queries (op.Read f) held (slice_get fields f)
queries_op fields held (op.Write f v) = free_field queries_price free_queries (op.Write f v) held (slice_get fields f)
queries_op fields held (op.Add f v) = free_field queries_price free_queries (op.Add f v) held (slice_get fields f)
queries_op fields held _ = refl

pub queries_none : (fields : List Field) (held : Bool) (ops : List Op) → ops_cost queries_price fields held ops ≤ 0
queries_none fields held [] = omega arith
queries_none fields held (o ∷ ops) =
    let one = queries_op fields held o in
    let rest = queries_none fields (held_after o held) ops in
    omega arith

-- ---- the prices do not depend on the place or the byte of an access

pub uniform_entries : IsUniform entries_price
uniform_entries = record { reads = λ c d. refl; writes = λ c d v w. refl; asks = λ x y. refl; puts = λ x y v w. refl }

pub uniform_moves : IsUniform moves_price
uniform_moves = record { reads = λ c d. refl; writes = λ c d v w. refl; asks = λ x y. refl; puts = λ x y v w. refl }

pub uniform_lifts : (n : Event) → IsUniform (lifts n)
uniform_lifts n = record { reads = λ c d. refl; writes = λ c d v w. refl; asks = λ x y. refl; puts = λ x y v w. refl }

pub uniform_pushes : (g : ℕ → ℕ) → IsUniform (pushes_price g)
uniform_pushes g = record { reads = λ c d. refl; writes = λ c d v w. refl; asks = λ x y. refl; puts = λ x y v w. refl }

pub uniform_queries : IsUniform queries_price
uniform_queries = record { reads = λ c d. refl; writes = λ c d v w. refl; asks = λ x y. refl; puts = λ x y v w. refl }
