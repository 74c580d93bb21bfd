-- What is left where a cursor stands.
use Rattle.std.proofs.Common.{◌≡◌, ℕ, zero, suc, ◌+◌, ◌≤◌, ◌==◌, Bool, true, false, cond, ◌&&◌, ◌||◌, not, nat_le, List, [], ◌∷◌, length, drop, Option, Some, None, slice_get, refl, sym, ap, ◌∙◌, arith}
use Rattle.std.proofs.lemmas.Bool.{and_from, and_parts, eqb-true, leb-true, le-leb, or_left, or_right}
use Rattle.std.proofs.Math.Seq.{drop-nil}
use Rattle.field_units.specs.Field.{Field}
use Rattle.handler_script.specs.declared.cursor.Cursor.{Cursor}
use Rattle.handler_script.specs.declared.op.Op.{Op}
use Rattle.handler_script.specs.declared.op.Op.TheVariants as op
use Rattle.handler_script.specs.declared.stage.Stage.{Stage}
use Rattle.handler_script.specs.declared.stage.Stage.TheVariants as stage
use Rattle.handler_script.specs.Left.{field_named, is_entered, is_ready, left, left_op, left_ops, rest_of_op, is_at_skip, is_before, is_new, is_placed, is_skip, stands, stands_at, stands_in}
use Rattle.handler_script.specs.Plan.{End, on_field, plan, plan_from, plan_op}

pub drop_at : (ops : List Op) (i : ℕ) (o : Op) → slice_get ops i ≡ Some o → drop i ops ≡ o ∷ drop (i + 1) ops
drop_at [] zero o e = cc
drop_at [] (suc i) o e = cc
drop_at (x ∷ ops) zero o e = let same : x ≡ o = cc in ap (λ y. y ∷ ops) same
drop_at (x ∷ ops) (suc i) o e = let n : suc (i + 1) ≡ suc i + 1 = omega arith in drop_at ops i o e ∙ ap (λ k. o ∷ drop k (x ∷ ops)) n

pub drop_past : (ops : List Op) (i : ℕ) → slice_get ops i ≡ None → drop i ops ≡ []
drop_past [] zero e = refl
drop_past [] (suc i) e = refl
drop_past (x ∷ ops) zero e = cc
drop_past (x ∷ ops) (suc i) e = drop_past ops i e

drop_more : (ops : List Op) (i k : ℕ) → drop k (drop i ops) ≡ drop (i + k) ops
drop_more ops zero k = let n : k ≡ zero + k = omega arith in ap (λ j. drop j ops) n
drop_more [] (suc i) k = drop-nil k ∙ sym (drop-nil (suc i + k))
drop_more (x ∷ ops) (suc i) k = let n : suc (i + k) ≡ suc i + k = omega arith in drop_more ops i k ∙ ap (λ j. drop j (x ∷ ops)) n

-- passing over ops is to go on behind them
plan_skip : (fields : List Field) (ops : List Op) (held : Bool) (last k : ℕ) → plan_from fields ops held last k ≡ plan_from fields (drop k ops) held last 0
plan_skip fields [] held last zero = refl
plan_skip fields [] held last (suc k) = refl
plan_skip fields (o ∷ ops) held last zero = refl
plan_skip fields (o ∷ ops) held last (suc k) = plan_skip fields ops held last k

by_field : (fields : List Field) (o : Op) (ops : List Op) (held : Bool) (last : ℕ) (found : Option Field)
    → ((field : Field) → found ≡ Some field → on_field (Some field) o held last (λ v. plan_from fields ops held v 0) ≡ plan_op fields o held last (λ h l s. plan_from fields ops h l s))
    → left_op fields held stage.Before last found o ops ≡ plan_op fields o held last (λ h l s. plan_from fields ops h l s)
by_field fields o ops held last None p = refl
by_field fields o ops held last (Some field) p = p field refl

plan_of : (fields : List Field) (o : Op) (ops : List Op) (held : Bool) (last : ℕ) → left_op fields held stage.Before last (field_named fields o) o ops ≡ plan_op fields o held last (λ h l s. plan_from fields ops h l s)
plan_of fields (op.Read f) ops held last = by_field fields (op.Read f) ops held last (slice_get fields f) (λ field e. ap (λ x. on_field x (op.Read f) held last (λ v. plan_from fields ops held v 0)) (sym e))
plan_of fields (op.Write f v) ops held last = by_field fields (op.Write f v) ops held last (slice_get fields f) (λ field e. ap (λ x. on_field x (op.Write f v) held last (λ w. plan_from fields ops held w 0)) (sym e))
plan_of fields (op.Add f v) ops held last = by_field fields (op.Add f v) ops held last (slice_get fields f) (λ field e. ap (λ x. on_field x (op.Add f v) held last (λ w. plan_from fields ops held w 0)) (sym e))
plan_of fields (op.Skip v k) ops held last = refl
plan_of fields op.Hold ops held last = refl
plan_of fields op.Free ops held last = refl
plan_of fields (op.Notify d v) ops held last = refl
plan_of fields (op.Drop e) ops held last = refl
plan_of fields (op.Up e) ops held last = refl
plan_of fields (op.Down e) ops held last = refl
plan_of fields (op.Raise e) ops held last = refl
plan_of fields (op.Assert e) ops held last = refl
plan_of fields (op.Push q) ops held last = refl

pub before_is : (fields : List Field) (ops : List Op) (held : Bool) (last : ℕ) → left_ops fields ops held stage.Before last ≡ plan_from fields ops held last 0
before_is fields [] held last = refl
before_is fields (o ∷ ops) held last = plan_of fields o ops held last

pub left_before : (fields : List Field) (ops : List Op) (c : Cursor) → c.place.stage ≡ stage.Before → left fields ops c ≡ plan_from fields (drop c.op ops) c.held c.place.last 0
unfolding left
left_before fields ops c e = ap (λ s. left_ops fields (drop c.op ops) c.held s c.place.last) e ∙ before_is fields (drop c.op ops) c.held c.place.last

pub left_at : (fields : List Field) (ops : List Op) (c : Cursor) (o : Op) → slice_get ops c.op ≡ Some o → left fields ops c ≡ left_op fields c.held c.place.stage c.place.last (field_named fields o) o (drop (c.op + 1) ops)
unfolding left
left_at fields ops c o e = ap (λ xs. left_ops fields xs c.held c.place.stage c.place.last) (drop_at ops c.op o e)

pub left_past : (fields : List Field) (ops : List Op) (c : Cursor) → slice_get ops c.op ≡ None → left fields ops c ≡ End
unfolding left
left_past fields ops c e = ap (λ xs. left_ops fields xs c.held c.place.stage c.place.last) (drop_past ops c.op e)

pub plain_left : (fields : List Field) (ops : List Op) (c : Cursor) (o : Op) → slice_get ops c.op ≡ Some o → field_named fields o ≡ None → left fields ops c ≡ plan_op fields o c.held c.place.last (λ held last skip. plan_from fields (drop (c.op + 1) ops) held last skip)
plain_left fields ops c o e n = left_at fields ops c o e ∙ ap (λ found. left_op fields c.held c.place.stage c.place.last found o (drop (c.op + 1) ops)) n

pub field_left : (fields : List Field) (ops : List Op) (c : Cursor) (o : Op) (field : Field) → slice_get ops c.op ≡ Some o → field_named fields o ≡ Some field → left fields ops c ≡ rest_of_op o field c.held c.place.stage c.place.last (λ value. plan_from fields (drop (c.op + 1) ops) c.held value 0)
field_left fields ops c o field e n = left_at fields ops c o e ∙ ap (λ found. left_op fields c.held c.place.stage c.place.last found o (drop (c.op + 1) ops)) n

-- ---- where a cursor stands
at_before : (found : Option Field) (held : Bool) → stands_at found held stage.Before ≡ true
at_before None held = refl
at_before (Some field) held = refl

in_before : (fields : List Field) (found : Option Op) (held : Bool) → stands_in fields found held stage.Before ≡ true
in_before fields None held = refl
in_before fields (Some o) held = at_before (field_named fields o) held

pub stands_from : (fields : List Field) (ops : List Op) (c : Cursor) → c.op ≤ length ops → c.place.stage ≡ stage.Before → is_placed fields ops c ≡ true
unfolding is_placed
stands_from fields ops c h e = and_from _ _ (le-leb c.op (length ops) h) (ap (λ s. stands_in fields (slice_get ops c.op) c.held s) e ∙ in_before fields (slice_get ops c.op) c.held)

pub stands_within : (fields : List Field) (ops : List Op) (c : Cursor) → is_placed fields ops c ≡ true → c.op ≤ length ops
unfolding is_placed
stands_within fields ops c h = leb-true c.op (length ops) (and_parts (nat_le c.op (length ops)) (stands_in fields (slice_get ops c.op) c.held c.place.stage) h).0

stage_there : (fields : List Field) (ops : List Op) (c : Cursor) (o : Op) (found : Option Field) → slice_get ops c.op ≡ Some o → field_named fields o ≡ found → is_placed fields ops c ≡ true → stands_at found c.held c.place.stage ≡ true
unfolding is_placed
stage_there fields ops c o found e n h =
    let there : stands_in fields (slice_get ops c.op) c.held c.place.stage ≡ true = (and_parts (nat_le c.op (length ops)) (stands_in fields (slice_get ops c.op) c.held c.place.stage) h).1 in
    sym (ap (λ x. stands_in fields x c.held c.place.stage) e ∙ ap (λ x. stands_at x c.held c.place.stage) n) ∙ there

pub stands_entered : (fields : List Field) (ops : List Op) (c : Cursor) (o : Op) (field : Field) → slice_get ops c.op ≡ Some o → field_named fields o ≡ Some field → is_placed fields ops c ≡ true → is_entered field c.held c.place.stage ≡ true
stands_entered fields ops c o field e n h = stage_there fields ops c o (Some field) e n h

pub stands_where : (fields : List Field) (ops : List Op) (c : Cursor) (o : Op) (field : Field) → slice_get ops c.op ≡ Some o → field_named fields o ≡ Some field → c.op ≤ length ops → is_entered field c.held c.place.stage ≡ true → is_placed fields ops c ≡ true
unfolding is_placed
stands_where fields ops c o field e n h s = and_from _ _ (le-leb c.op (length ops) h) (ap (λ x. stands_in fields x c.held c.place.stage) e ∙ ap (λ x. stands_at x c.held c.place.stage) n ∙ s)

stage_of_plain : (s : Stage) (held : Bool) → stands_at None held s ≡ true → s ≡ stage.Before
stage_of_plain stage.Before held h = refl
stage_of_plain _ held h = cc

pub stands_plain : (fields : List Field) (ops : List Op) (c : Cursor) (o : Op) → slice_get ops c.op ≡ Some o → field_named fields o ≡ None → is_placed fields ops c ≡ true → c.place.stage ≡ stage.Before
stands_plain fields ops c o e n h = stage_of_plain c.place.stage c.held (stage_there fields ops c o None e n h)

pub entered_ready : (field : Field) (held : Bool) (s : Stage) → is_ready field held s ≡ true → (s ≡ stage.Done → ⊥) → is_entered field held s ≡ true
entered_ready field held stage.Before r d = refl
entered_ready field held stage.Opened r d = r
entered_ready field held (stage.Reading k so_far) r d = r
entered_ready field held (stage.Writing k) r d = r
entered_ready field held (stage.Replacing k old) r d = r
entered_ready field held stage.Closing r d = r
entered_ready field held stage.Unlocking r d = r
entered_ready field held stage.Done r d = absurd (d refl)

-- ---- a cursor that callers have
pub stands_placed : (fields : List Field) (ops : List Op) (c : Cursor) → stands fields ops c ≡ true → is_placed fields ops c ≡ true
unfolding stands
stands_placed fields ops c h = (and_parts (is_placed fields ops c) (is_new c || not (is_at_skip (slice_get ops c.op))) h).0

new_at_skip : (n s : Bool) → (n || not s) ≡ true → s ≡ true → n ≡ true
new_at_skip true s h e = refl
new_at_skip false true h e = cc
new_at_skip false false h e = e

before_stage : (s : Stage) → is_before s ≡ true → s ≡ stage.Before
before_stage stage.Before h = refl
before_stage _ h = cc

not_held : (held : Bool) → not held ≡ true → held ≡ false
not_held true h = cc
not_held false h = refl

-- at a skip all of the script is left
pub left_new : (fields : List Field) (ops : List Op) (c : Cursor) (o : Op) → slice_get ops c.op ≡ Some o → is_skip o ≡ true → stands fields ops c ≡ true → left fields ops c ≡ plan fields ops
unfolding stands
left_new fields ops c o at skip h =
    let new : is_new c ≡ true = new_at_skip (is_new c) (is_at_skip (slice_get ops c.op)) (and_parts (is_placed fields ops c) (is_new c || not (is_at_skip (slice_get ops c.op))) h).1 (ap is_at_skip at ∙ skip) in
    let parts = and_parts (c.op == 0) (is_before c.place.stage && ((c.place.last == 0) && not c.held)) new in
    let rest = and_parts (is_before c.place.stage) ((c.place.last == 0) && not c.held) parts.1 in
    let last = and_parts (c.place.last == 0) (not c.held) rest.1 in
    left_before fields ops c (before_stage c.place.stage rest.0)
    ∙ ap (λ j. plan_from fields (drop j ops) c.held c.place.last 0) (eqb-true c.op 0 parts.0)
    ∙ ap (λ held. plan_from fields ops held c.place.last 0) (not_held c.held last.1)
    ∙ ap (λ l. plan_from fields ops false l 0) (eqb-true c.place.last 0 last.0)

-- a cursor that is at no skip, or new, stands
no_skip : (found : Option Op) → ((o : Op) → found ≡ Some o → is_skip o ≡ false) → not (is_at_skip found) ≡ true
no_skip None h = refl
no_skip (Some o) h = ap not (h o refl)

pub stands_past : (fields : List Field) (ops : List Op) (c : Cursor) → is_placed fields ops c ≡ true → ((o : Op) → slice_get ops c.op ≡ Some o → is_skip o ≡ false) → stands fields ops c ≡ true
unfolding stands
stands_past fields ops c placed h = and_from _ _ placed (or_right (is_new c) (not (is_at_skip (slice_get ops c.op))) (no_skip (slice_get ops c.op) h))

pub stands_new : (fields : List Field) (ops : List Op) (c : Cursor) → is_placed fields ops c ≡ true → is_new c ≡ true → stands fields ops c ≡ true
unfolding stands
stands_new fields ops c placed new = and_from _ _ placed (or_left (is_new c) (not (is_at_skip (slice_get ops c.op))) new)

-- ---- a new cursor, at an op before which there was no act
abbrev pub fresh : ℕ → Cursor
fresh at = record { op = at; place = record { stage = stage.Before; last = 0 }; held = false }

pub fresh_left : (fields : List Field) (ops : List Op) (c : Cursor) (at : ℕ) → c ≡ fresh at → left fields ops c ≡ plan_from fields (drop at ops) false 0 0
fresh_left fields ops c at e = ap (λ d. left fields ops d) e ∙ left_before fields ops (fresh at) refl

pub fresh_placed : (fields : List Field) (ops : List Op) (c : Cursor) (at : ℕ) → c ≡ fresh at → at ≤ length ops → is_placed fields ops c ≡ true
fresh_placed fields ops c at e within = ap (λ d. is_placed fields ops d) e ∙ stands_from fields ops (fresh at) within refl

pub fresh_stands : (fields : List Field) (ops : List Op) (c : Cursor) → c ≡ fresh 0 → stands fields ops c ≡ true
fresh_stands fields ops c e = stands_new fields ops c (fresh_placed fields ops c 0 e (omega arith)) (ap is_new e)

-- ---- skips
pub skip_step : (fields : List Field) (ops : List Op) (c d : Cursor) (v k n : ℕ) → slice_get ops c.op ≡ Some (op.Skip v k) → c.place.stage ≡ stage.Before → n ≡ cond (c.place.last == v) 0 k → d.op ≡ c.op + 1 + n → d.place ≡ c.place → d.held ≡ c.held → left fields ops d ≡ left fields ops c
skip_step fields ops c d v k n e b n_is at place held =
    let from : plan_from fields (drop (c.op + 1) ops) c.held c.place.last n ≡ plan_from fields (drop (c.op + 1 + n) ops) c.held c.place.last 0 = plan_skip fields (drop (c.op + 1) ops) c.held c.place.last n ∙ ap (λ xs. plan_from fields xs c.held c.place.last 0) (drop_more ops (c.op + 1) n) in
    left_before fields ops d (ap (λ p. p.stage) place ∙ b)
    ∙ ap (λ j. plan_from fields (drop j ops) d.held d.place.last 0) at
    ∙ ap (λ h. plan_from fields (drop (c.op + 1 + n) ops) h d.place.last 0) held
    ∙ ap (λ p. plan_from fields (drop (c.op + 1 + n) ops) c.held p.last 0) place
    ∙ sym from
    ∙ ap (λ m. plan_from fields (drop (c.op + 1) ops) c.held c.place.last m) n_is
    ∙ sym (plain_left fields ops c (op.Skip v k) e refl)

pub skipped_most : (b : Bool) (n k : ℕ) → n ≡ cond b 0 k → n ≤ k
skipped_most true n k e = omega arith
skipped_most false n k e = omega arith
