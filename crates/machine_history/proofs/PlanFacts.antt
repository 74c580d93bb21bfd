-- What is true of each act of every script is true of each act that is left.
use Rattle.std.proofs.Common.{ℕ, ◌≡◌, Bool, true, false, not, List, [], ◌∷◌, Option, Some, None, slice_get, unwrap_or, if◌then◌else◌, refl, sym, ap, ◌∙◌, subst}
use Rattle.acpi_regs.specs.declared.actor.Actor.{Actor}
use Rattle.acpi_regs.specs.declared.actor.Actor.TheVariants as actor
use Rattle.acpi_regs.specs.declared.entry.Deed.{Deed}
use Rattle.acpi_regs.specs.declared.entry.Deed.TheVariants as deed
use Rattle.acpi_regs.specs.declared.entry.Entry.{Entry}
use Rattle.acpi_regs.specs.declared.entry.Request.TheVariants as request
use Rattle.acpi_regs.specs.Actor.{same_actor}
use Rattle.field_units.specs.declared.rules.RegionKind.{RegionKind}
use Rattle.field_units.specs.declared.rules.RegionKind.TheVariants as kind
use Rattle.field_units.specs.Field.{Field}
use Rattle.handler_script.specs.declared.act.Act.{Act}
use Rattle.handler_script.specs.declared.act.Act.TheVariants as act
use Rattle.handler_script.specs.declared.op.Op.{Op}
use Rattle.handler_script.specs.declared.op.Op.TheVariants as op
use Rattle.handler_script.specs.Each.{Each, IsTrueOn, act_alone}
use Rattle.handler_script.specs.Parts.{access_needs, read_in, write_in}
use Rattle.handler_script.specs.Plan.{Plan, Do, End, next_act, plan, plan_after, query_plan}
use Rattle.handler_script.proofs.Each.{each}
use Rattle.machine_desc.specs.Machine.{MachineData, act_fields, glk}
use Rattle.machine_history.specs.declared.parts.Job.{Job}
use Rattle.machine_history.specs.declared.parts.Job.TheVariants as job
use Rattle.machine_history.specs.Jobs.{jobs}
use Rattle.machine_history.specs.Machine.{code_script, event_script}
use Rattle.machine_history.specs.Scripts.{answer_of, first_plan, job_plan, left_after, passes, plan_left, script_of}
use Rattle.machine_history.proofs.Known.{some-injective}

-- a property of plans that each passed act keeps, and that each plan has at its start, every plan that is left has
pub plan_kept : (Q : Plan → Type 0) (m : MachineData) → Q End → ((p : Plan) (byte : ℕ) → Q p → Q (plan_after byte p)) → ((a : Actor) → Q (first_plan m a)) → ((j : Option Job) → Q (job_plan m j)) → (past : List Entry) (a : Actor) → Q (plan_left m past a)
plan_kept Q m end next firsts all [] a = firsts a
plan_kept Q m end next firsts all (e ∷ past) a = at (same_actor a e.actor) (plan_kept Q m end next firsts all past a)
  where
    passed : (b : Bool) (byte : ℕ) (p : Plan) → Q p → Q (if b then plan_after byte p else p)
    passed true byte p before = next p byte before
    passed false byte p before = before

    after : (d : Deed) (p : Plan) → Q p → Q (left_after m (jobs m past) d p)
    after (deed.Start j) p before = all (slice_get (jobs m past) j)
    after (deed.Finish j) p before = end
    after deed.Own p before = passed (passes deed.Own) (answer_of deed.Own) p before
    after deed.Disown p before = next p 0 before
    after (deed.Read c v) p before = next p v before
    after (deed.Write c v) p before = next p 0 before
    after (deed.Take v) p before = next p (unwrap_or v 0) before
    after (deed.Push q) p before = next p 0 before
    after (deed.Raise n) p before = next p 0 before
    after (deed.Assert n) p before = next p 0 before
    after (deed.Drop n) p before = next p 0 before
    after (deed.Notify x v) p before = next p 0 before
    after (deed.Up n) p before = next p 0 before
    after (deed.Down n) p before = next p 0 before
    after _ p before = before

    at : (b : Bool) → Q (plan_left m past a) → Q (if b then left_after m (jobs m past) e.deed (plan_left m past a) else plan_left m past a)
    at true before = after e.deed (plan_left m past a) before
    at false before = before

-- what is true of each act of a plan, of its next one
pub next_each : (P : Bool → Act → Bool) (p : Plan) (x : Act) → next_act p ≡ Some x → Each P p → (needs : Bool) × (P needs x ≡ true)
next_each P End x next all = absurd (none next)
  where
    none : None ≡ Some x → ⊥
    none is = cc
next_each P (Do needs a more) x next all = (needs, ap (P needs) (sym (some-injective a x next)) ∙ all.0)

pub after_each : (P : Bool → Act → Bool) (p : Plan) (byte : ℕ) → Each P p → Each P (plan_after byte p)
after_each P End byte all = tt
after_each P (Do needs a next) byte all = all.1 byte

-- a property that looks neither at the lock's acts nor at accesses and burst mode is true on every field
pub record IsFree (P : Bool → Act → Bool) : Type 0 where
  pub lock : P false act.Lock ≡ true
  pub unlock : P false act.Unlock ≡ true
  pub be : (needs : Bool) → P needs (act.Ask request.Be) ≡ true
  pub bd : (needs : Bool) → P needs (act.Ask request.Bd) ≡ true
  pub reads : (needs : Bool) (of_kind : RegionKind) (field : Field) (k : ℕ) → P needs (read_in of_kind field k) ≡ true
  pub writes : (needs : Bool) (of_kind : RegionKind) (field : Field) (k byte : ℕ) → P needs (write_in of_kind field k byte) ≡ true

pub on_fields : (P : Bool → Act → Bool) → IsFree P → (field : Field) → IsTrueOn P field
on_fields P free field = record {
  lock = λ n. (free.lock, free.unlock);
  burst = λ held b. (free.be (access_needs field held), free.bd (access_needs field held));
  read = λ held k below. free.reads (access_needs field held) field.kind field k;
  write = λ held k byte below. free.writes (access_needs field held) field.kind field k byte;
}

pub script_each : (P : Bool → Act → Bool) → IsFree P → (fields : List Field) (ops : List Op) → ((i : ℕ) (o : Op) (a : Act) → slice_get ops i ≡ Some o → act_alone o ≡ Some a → P false a ≡ true) → Each P (plan fields ops)
script_each P free fields ops alone = each P fields ops (λ f field at. on_fields P free field) alone

-- ---- what a query answers goes nowhere

abbrev pub is_query_act : Act → Bool
is_query_act (act.Ask request.Qr) = true
is_query_act _ = false

-- behind each request for a code the plan does not depend on its answer
abbrev pub Steady : Plan → Type 0
Steady End = Unit {0}
Steady (Do needs a next) = (is_query_act a ≡ true → (byte : ℕ) → next byte ≡ next 0) × ((byte : ℕ) → Steady (next byte))

abbrev pub asks_none : Bool → Act → Bool
asks_none needs a = not (is_query_act a)

pub none_reads : (needs : Bool) (of_kind : RegionKind) (field : Field) (k : ℕ) → asks_none needs (read_in of_kind field k) ≡ true
none_reads needs kind.Memory field k = refl
none_reads needs kind.Controller field k = refl

pub none_writes : (needs : Bool) (of_kind : RegionKind) (field : Field) (k byte : ℕ) → asks_none needs (write_in of_kind field k byte) ≡ true
none_writes needs kind.Memory field k byte = refl
none_writes needs kind.Controller field k byte = refl

pub none_free : IsFree asks_none
none_free = record { lock = refl; unlock = refl; be = λ needs. refl; bd = λ needs. refl; reads = none_reads; writes = none_writes }

pub none_alone : (o : Op) (a : Act) → act_alone o ≡ Some a → asks_none false a ≡ true
none_alone (op.Read f) a is = cc
none_alone (op.Write f v) a is = cc
none_alone (op.Add f v) a is = cc
none_alone (op.Skip v k) a is = cc
none_alone op.Hold a is = subst (λ x. asks_none false x ≡ true) (some-injective _ a is) refl
none_alone op.Free a is = subst (λ x. asks_none false x ≡ true) (some-injective _ a is) refl
none_alone (op.Notify d v) a is = subst (λ x. asks_none false x ≡ true) (some-injective _ a is) refl
none_alone (op.Drop e) a is = subst (λ x. asks_none false x ≡ true) (some-injective _ a is) refl
none_alone (op.Up e) a is = subst (λ x. asks_none false x ≡ true) (some-injective _ a is) refl
none_alone (op.Down e) a is = subst (λ x. asks_none false x ≡ true) (some-injective _ a is) refl
none_alone (op.Raise e) a is = subst (λ x. asks_none false x ≡ true) (some-injective _ a is) refl
none_alone (op.Assert e) a is = subst (λ x. asks_none false x ≡ true) (some-injective _ a is) refl
none_alone (op.Push q) a is = subst (λ x. asks_none false x ≡ true) (some-injective _ a is) refl

pub each_steady : (p : Plan) → Each asks_none p → Steady p
each_steady End all = tt
each_steady (Do needs a next) all = ((λ asks byte. absurd (both (is_query_act a) asks all.0)), λ byte. each_steady (next byte) (all.1 byte))
  where
    both : (b : Bool) → b ≡ true → not b ≡ true → ⊥
    both true is isnt = cc
    both false is isnt = cc

pub script_steady : (fields : List Field) (ops : List Op) → Steady (plan fields ops)
script_steady fields ops = each_steady (plan fields ops) (script_each asks_none none_free fields ops (λ i o a at is. none_alone o a is))

pub first_steady : (m : MachineData) (a : Actor) → Steady (first_plan m a)
first_steady m (actor.Firmware k) = script_steady (act_fields m) (script_of m k)
first_steady m _ = tt

pub query_steady : (needs : Bool) → Steady (query_plan needs)
query_steady false = ((λ asks byte. refl), λ b. tt)
query_steady true = ((λ asks byte. refl), λ b. ((λ asks byte. refl), λ b. ((λ asks byte. refl), λ b. tt)))

pub job_steady : (m : MachineData) (j : Option Job) → Steady (job_plan m j)
job_steady m None = tt
job_steady m (Some (job.Event n)) = script_steady (act_fields m) (event_script m n)
job_steady m (Some job.Query) = query_steady (glk m)
job_steady m (Some (job.Code q)) = script_steady (act_fields m) (code_script m q)

pub after_steady : (p : Plan) (byte : ℕ) → Steady p → Steady (plan_after byte p)
after_steady End byte steady = tt
after_steady (Do needs a next) byte steady = steady.1 byte

pub left_steady : (m : MachineData) (past : List Entry) (a : Actor) → Steady (plan_left m past a)
left_steady m past a = plan_kept Steady m tt after_steady (first_steady m) (job_steady m) past a
