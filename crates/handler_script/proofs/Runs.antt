-- How far the next hold or free is, against the test of a skip.
use Rattle.std.proofs.Common.{◌≡◌, ℕ, zero, suc, ◌+◌, ◌<◌, ◌≤◌, Bool, true, false, ◌&&◌, cond, nat_le, nat_lt, List, [], ◌∷◌, drop, get_or, length, take, Option, Some, None, is_some, refl, sym, ap, ◌∙◌}
use Rattle.std.proofs.Math.Bool.{and-false}
use Rattle.std.proofs.Math.Dec.{leb-zero, leb-suc-zero, leb-suc-suc}
use Rattle.std.proofs.Math.Numerals.{one-add}
use Rattle.std.proofs.lemmas.Bool.{lt-ltb}
use Rattle.std.proofs.lemmas.List.{drop_more}
use Rattle.std.specs.List.{list_all, prefix_len}
use Rattle.acpi_regs.specs.declared.actor.Side.{Side}
use Rattle.handler_script.specs.declared.fault.ScriptFault.{ScriptFault}
use Rattle.handler_script.specs.declared.op.Op.{Op}
use Rattle.handler_script.specs.declared.op.Op.TheVariants as op
use Rattle.handler_script.specs.Accepts.{faults_from, first_of, is_no_hold, is_sound_skip, op_fault, open_after}

-- the first k of a list all pass exactly where as many as that pass from the front on
passing : {X : Type 0} (p : X → Bool) (k : ℕ) (xs : List X) → nat_le k (prefix_len p xs) ≡ (nat_le k (length xs) && list_all p (take k xs))
passing p zero xs = leb-zero (prefix_len p xs) ∙ sym (ap (λ b. b && true) (leb-zero (length xs)))
passing p (suc k) [] = leb-suc-zero k ∙ sym (ap (λ b. b && true) (leb-suc-zero k))
passing {X} p (suc k) (x ∷ xs) = by (passing p k xs) (p x) where
  by : nat_le k (prefix_len p xs) ≡ (nat_le k (length xs) && list_all p (take k xs)) → (b : Bool) → nat_le (suc k) (cond b (1 + prefix_len p xs) 0) ≡ (nat_le (suc k) (suc (length xs)) && (b && list_all p (take k xs)))
  by h true =
      ap (nat_le (suc k)) (one-add (prefix_len p xs)) ∙ leb-suc-suc k (prefix_len p xs) ∙ h
      ∙ sym (ap (λ b. b && list_all p (take k xs)) (leb-suc-suc k (length xs)))
  by h false = leb-suc-zero k ∙ sym (and-false (nat_le (suc k) (suc (length xs))))

-- so a skip is sound exactly where it passes over at least one, and over no more than stand before the next hold or free
pub sound_within : (v k run : ℕ) (rest : List Op) → 0 < k → run ≡ prefix_len is_no_hold rest → nat_le k run ≡ is_sound_skip (op.Skip v k) rest
sound_within v k run rest some e =
    ap (nat_le k) e ∙ passing is_no_hold k rest
    ∙ sym (ap (λ b. b && (nat_le k (length rest) && list_all is_no_hold (take k rest))) (lt-ltb 0 k some))

nothing : (f : Option ScriptFault) → false ≡ is_some f → f ≡ None
nothing None h = refl
nothing (Some f) h = cc

-- what is kept along the walk over a script: what was looked for is what is looked for from here on, and how far the next hold
-- or free is
pub record At (forbidden : Op → Bool) (of_side : Side) (count : ℕ) (hold : Option ℕ) (i run : ℕ) (ops : List Op) (whole : Option ScriptFault) : Type 0 where
  pub left : faults_from forbidden of_side count hold i ops ≡ whole
  pub known : run ≡ prefix_len is_no_hold ops

-- an op with no fault is passed
pub past_op : {forbidden : Op → Bool} {of_side : Side} {count : ℕ} {hold later : Option ℕ} {held : Bool} {i run next : ℕ} {rest : List Op} {found whole : Option ScriptFault} (ops : List Op) (d : Op)
    → At forbidden of_side count hold i run (drop i ops) whole → i < length ops → rest ≡ drop (i + 1) ops
    → ((o : Op) → run ≡ prefix_len is_no_hold (o ∷ rest) → next ≡ prefix_len is_no_hold rest)
    → held ≡ is_some hold
    → ((behind : List Op) → next ≡ prefix_len is_no_hold behind → found ≡ op_fault forbidden of_side count held i (get_or ops i d) behind)
    → false ≡ is_some found → later ≡ open_after i (get_or ops i d) hold
    → At forbidden of_side count later (i + 1) next (drop (i + 1) ops) whole
past_op {forbidden} {of_side} {count} {hold} {later} {held} {i} {run} {next} {rest} {found} ops d at within cut run_next is_held is_found none is_later =
    let o = get_or ops i d in
    let behind = drop (i + 1) ops in
    let here : drop i ops ≡ o ∷ behind = drop_more ops i d within in
    let there : drop i ops ≡ o ∷ rest = here ∙ ap (λ (l : List Op). o ∷ l) (sym cut) in
    let known : next ≡ prefix_len is_no_hold behind = run_next o (at.known ∙ ap (prefix_len is_no_hold) there) ∙ ap (prefix_len is_no_hold) cut in
    let no_fault : op_fault forbidden of_side count (is_some hold) i o behind ≡ None =
    ap (λ h. op_fault forbidden of_side count h i o behind) (sym is_held) ∙ sym (is_found behind known) ∙ nothing found none in
    record {
      left =
          ap (λ l. faults_from forbidden of_side count l (i + 1) behind) is_later
          ∙ sym (ap (λ f. first_of f (faults_from forbidden of_side count (open_after i o hold) (i + 1) behind)) no_fault)
          ∙ sym (ap (faults_from forbidden of_side count hold i) here) ∙ at.left;
      known = known;
    }
