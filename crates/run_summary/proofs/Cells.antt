-- The last bytes of the cells of a machine that is made.
use Rattle.std.proofs.Common.{ℕ, zero, suc, ◌+◌, ◌%◌, ◌<◌, ◌≤◌, ◌≡◌, ◌==◌, true, nat_le, nat_lt, List, [], ◌∷◌, length, map, reverse, slice_get, sum_by, Option, Some, refl, sym, ap, ◌∙◌, subst, arith}
use Rattle.std.specs.List.{range_with_len}
use Rattle.std.proofs.lemmas.Bool.{and_parts, eqb-true, lt-ltb, leb-true, ltb-true}
use Rattle.std.proofs.lemmas.List.{length-map}
use Rattle.std.proofs.lemmas.Option.{slice_get_within}
use Rattle.acpi_regs.specs.declared.entry.Entry.{Entry}
use Rattle.field_units.specs.Bits.{byte_count, first_byte as first_of, in_span}
use Rattle.field_units.specs.Field.{Field}
use Rattle.handler_script.specs.declared.op.Op.{Op}
use Rattle.machine_desc.specs.Kept.{IsMachine}
use Rattle.machine_desc.specs.Machine.{field_of}
use Rattle.machine_history.specs.declared.parts.Job.{Job}
use Rattle.machine_history.specs.declared.parts.Job.TheVariants as job
use Rattle.machine_history.specs.Acts.{is_memory_cell}
use Rattle.machine_history.specs.Cells.{IsCell, first_byte}
use Rattle.machine_history.specs.Complete.{Complete}
use Rattle.machine_history.specs.Jobs.{jobs}
use Rattle.machine_history.specs.Machine.{code_script}
use Rattle.machine_history.specs.Sentences.{codes_of}
use Rattle.machine_history.specs.Values.{value}
use Rattle.machine_history.proofs.ScriptPrices.{push_of, sums-same}
use Rattle.machine_history.proofs.Machines.{sum-same}
use Rattle.machine_history.proofs.Totals.{sum_of}
use Rattle.core_laws.specs.Adds.{IsAddedTo, SumsAdds, added, adds, job_adds, touches}
use Rattle.machine_maker.specs.Maker.{byte_field, each_of, made, memory}
use Rattle.machine_maker.specs.Summary.{adds_to, last_byte}
use Rattle.machine_maker.proofs.Rows.{row_len, tested}
use Rattle.run_summary.specs.Told.{cell_of}
use Rattle.run_summary.proofs.Counts.{all_pushed, over_firmware-is}
use Rattle.run_summary.proofs.Drawn.{adds_alone, four-same, handled, quiet, script_added}
use Rattle.run_summary.proofs.Pushed.{codes_pushed, pushes_worth}

-- ---- an item of a row

range_get : {A : Type 0} (f : ℕ → A) (a n k : ℕ) → k < n → slice_get (map f (range_with_len a n)) k ≡ Some (f (a + k))
range_get f a zero k less = absurd (omega arith)
range_get f a (suc n) zero less = ap (λ i. Some (f i)) first
  where
    first : a ≡ a + 0
    first = omega arith
range_get f a (suc n) (suc k) less = range_get f (a + 1) n k (omega arith) ∙ ap (λ i. Some (f i)) next
  where
    next : (a + 1) + k ≡ a + suc k
    next = omega arith

pub row_get : {A : Type 0} (f : ℕ → A) (n k : ℕ) → k < n → slice_get (each_of n f) k ≡ Some (f k)
unfolding each_of
row_get f n k less = range_get f 0 n k less ∙ ap (λ i. Some (f i)) same
  where
    same : 0 + k ≡ k
    same = omega arith

pub mapped_get : {A B : Type 0} (to : A → B) (xs : List A) (k : ℕ) (x : A) → slice_get xs k ≡ Some x → slice_get (map to xs) k ≡ Some (to x)
mapped_get to [] k x at = cc
mapped_get to (y ∷ xs) zero x at = let same : y ≡ x = cc in ap (λ z. Some (to z)) same
mapped_get to (y ∷ xs) (suc k) x at = mapped_get to xs k x at

-- ---- the fields of the machine

abbrev byte_of : ℕ → Field
byte_of k = field_of (memory ∷ []) (byte_field k)

field_at : (number size k : ℕ) → k < 16 → slice_get (made number size).fields k ≡ Some (byte_of k)
unfolding made
field_at number size k less = mapped_get (field_of (memory ∷ [])) (each_of 16 byte_field) k (byte_field k) (row_get byte_field 16 k less)

few_fields : (number size g : ℕ) (other : Field) → slice_get (made number size).fields g ≡ Some other → g < 16
unfolding made
few_fields number size g other at =
    let within = slice_get_within (made number size).fields g other at in
    let len : length (made number size).fields ≡ 16 = length-map (each_of 16 byte_field) (field_of (memory ∷ [])) ∙ row_len 16 byte_field in
    omega arith

-- a field's only byte is the cell of its number
touched_by : (g k : ℕ) → touches (byte_of g) (cell_of k) ≡ true → g ≡ k
touched_by g k is =
    let spans = (and_parts ((byte_of g).region == (cell_of k).region) (in_span (byte_of g) k) is).1 in
    let ends = and_parts (nat_le (first_of (byte_of g)) k) (nat_lt k (first_of (byte_of g) + byte_count (byte_of g))) spans in
    let low : first_of (byte_of g) ≤ k = leb-true (first_of (byte_of g)) k ends.0 in
    let high : k < first_of (byte_of g) + byte_count (byte_of g) = ltb-true k (first_of (byte_of g) + byte_count (byte_of g)) ends.1 in
    omega arith

same_found : (o : Option Field) (x y : Field) → o ≡ Some x → o ≡ Some y → x ≡ y
same_found o x y one other = cc

pub is_cell : (number size k : ℕ) → k < 16 → IsCell (made number size) (cell_of k)
unfolding made
is_cell number size k less = less

starts_0 : (number size k : ℕ) → k < 16 → first_byte (made number size) (cell_of k) ≡ 0
unfolding made
starts_0 number size k less = eqb-true (first_byte (made number size) (cell_of k)) 0 (tested (λ i. first_byte (made number size) (cell_of i) == 0) 0 16 k k refl less (omega arith))

in_memory : (number size k : ℕ) → k < 16 → is_memory_cell (made number size) (cell_of k) ≡ true
unfolding made
in_memory number size k less = lt-ltb k 16 less

pub added_to : (number size k : ℕ) → k < 16 → IsAddedTo (made number size) (cell_of k) k
added_to number size k less = record {
  memory = in_memory number size k less;
  byte = (let none = starts_0 number size k less in omega arith);
  field = byte_of k;
  named = field_at number size k less;
  region = refl;
  first = refl;
  width = refl;
  lock = refl;
  alone = λ g other at touched. (
      let field = same_found (slice_get (made number size).fields g) other (byte_of g) at (field_at number size g (few_fields number size g other at)) in
      touched_by g k (subst (λ x. touches x (cell_of k) ≡ true) field touched));
  adds = adds_alone number size k;
}

-- ---- what the jobs add

jobs_add : (number size k : ℕ) (js : List Job) → sum_of (job_adds (made number size) k) js ≡ sum_of (handled number size k) (codes_of js)
jobs_add number size k [] = refl
jobs_add number size k (job.Event n ∷ js) =
    let rest = jobs_add number size k js in
    let none = ap (adds k) (quiet number size n) in
    omega arith
jobs_add number size k (job.Query ∷ js) = let rest = jobs_add number size k js in omega arith
jobs_add number size k (job.Code q ∷ js) =
    let rest = jobs_add number size k js in
    let same = sums-same (added k) (code_script (made number size) q) in
    omega arith

all_jobs_add : (number size k : ℕ) (history : List Entry) → IsMachine (made number size) → Complete (made number size) history
    → sum_by (job_adds (made number size) k) (jobs (made number size) (reverse history)) ≡ sum_of (sum_of (push_of (handled number size k))) (made number size).firmware
all_jobs_add number size k history ok complete =
    let past = reverse history in
    sums-same (job_adds (made number size) k) (jobs (made number size) past)
    ∙ (jobs_add number size k (jobs (made number size) past)
    ∙ (ap (sum_of (handled number size k)) (sym (codes_pushed (made number size) ok past complete.legal complete.rest))
    ∙ (pushes_worth (handled number size k) past
    ∙ all_pushed number size (handled number size k) history complete)))

plus : (f g : List Op → ℕ) (xs : List (List Op)) → sum_of f xs + sum_of g xs ≡ sum_of (λ ops. f ops + g ops) xs
plus f g [] = refl
plus f g (x ∷ xs) = let rest = plus f g xs in omega arith

-- ---- the last byte

pub last_is : (number size k : ℕ) (history : List Entry) → k < 16 → IsMachine (made number size) → Complete (made number size) history → SumsAdds (made number size) history
    → value (made number size) (reverse history) (cell_of k) ≡ last_byte number size k
last_is number size k history less ok complete sums =
    let is = sums (cell_of k) k (added_to number size k less) in
    let none = starts_0 number size k less in
    let firmware : sum_by (adds k) (made number size).firmware ≡ sum_of (sum_of (added k)) (made number size).firmware =
    sums-same (adds k) (made number size).firmware ∙ sum-same (adds k) (sum_of (added k)) (made number size).firmware (sums-same (added k)) in
    let started = all_jobs_add number size k history ok complete in
    let joined = plus (sum_of (added k)) (sum_of (push_of (handled number size k))) (made number size).firmware in
    let all = four-same number size (λ ops. sum_of (added k) ops + sum_of (push_of (handled number size k)) ops) (sum_of (adds_to k)) (script_added number size k) in
    let whole = over_firmware-is (adds_to k) (made number size) in
    is ∙ ap (λ n. n % 256) (omega arith)
