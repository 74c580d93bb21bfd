-- The tests of the form of a description say what they test.
use Rattle.std.proofs.Common.{ℕ, ◌≡◌, ◌↔◌, ◌⊎◌, inl, inr, ◌||◌, IsTrue, zero, suc, refl, sym, subst, Bool, true, false, ◌&&◌, not, nat_lt, ◌==◌, All, List, [], ◌∷◌, Option, Some, None, eqb-true, eq-eqb, ◌∙◌}
use Rattle.std.specs.List.{list_all}
use Rattle.std.proofs.lemmas.Bool.{and_parts, ltb-true, lt-ltb}
use Rattle.acpi_regs.specs.declared.event.Event.{Event}
use Rattle.acpi_regs.specs.declared.event.Event.TheVariants as event
use Rattle.acpi_regs.specs.Event.{is_gbl}
use Rattle.handler_script.specs.declared.op.Op.{Op}
use Rattle.handler_script.specs.declared.op.Op.TheVariants as op
use Rattle.machine_desc.specs.declared.parts.ControllerPart.{ControllerPart}
use Rattle.machine_desc.specs.declared.parts.EventPart.{EventPart}
use Rattle.machine_desc.specs.declared.parts.MachineParts.{MachineParts}
use Rattle.machine_desc.specs.declared.parts.QueryPart.{QueryPart}
use Rattle.machine_desc.specs.Given.{HasCode, HasGlk, HasLevel, HasQueries, HaveCodes, IsEventPart, IsGiven, IsQueryPart, IsVersion, has_code, has_glk, has_level, has_queries, have_codes, is_event_part, is_given, is_query_part, is_version}
use Rattle.machine_desc.proofs.EachItem.{Each, all_each, each_all}

passing : {A : Type 0} (test : A → Bool) (xs : List A) → list_all test xs ≡ true → Each (λ x. test x ≡ true) xs
passing test [] e zero x at = cc
passing test [] e (suc k) x at = cc
passing test (y ∷ ys) e zero x at = let same : y ≡ x = cc in subst (λ z. test z ≡ true) same (and_parts (test y) (list_all test ys) e).0
passing test (y ∷ ys) e (suc k) x at = passing test ys (and_parts (test y) (list_all test ys) e).1 k x at

true_and : (a b : Bool) → a ≡ true → b ≡ true → (a && b) ≡ true
true_and true b e f = f
true_and false b e f = cc

passed : {A : Type 0} (test : A → Bool) (xs : List A) → Each (λ x. test x ≡ true) xs → list_all test xs ≡ true
passed test [] h = refl
passed test (x ∷ xs) h = true_and (test x) (list_all test xs) (h zero x refl) (passed test xs (λ k y at. h (suc k) y at))

-- a test on each item, and what it says of each
all_of : {A : Type 0} (P : A → Type 0) (test : A → Bool) → ((x : A) → test x ≡ true → P x) → (xs : List A) → list_all test xs ≡ true → All P xs
all_of P test says xs e = all_each P xs (λ k x at. says x (passing test xs e k x at))

of_all : {A : Type 0} (P : A → Type 0) (test : A → Bool) → ((x : A) → P x → test x ≡ true) → (xs : List A) → All P xs → list_all test xs ≡ true
of_all P test says xs h = passed test xs (λ k x at. says x (each_all P xs h k x at))

isnt : (b : Bool) → not b ≡ true → b ≡ false
isnt true e = cc
isnt false e = refl

is_not : (b : Bool) → b ≡ false → not b ≡ true
is_not true e = cc
is_not false e = refl

code_of : (o : Op) → has_code o ≡ true → HasCode o
code_of (op.Push q) e = ltb-true 0 q e
code_of _ e = tt

of_code : (o : Op) → HasCode o → has_code o ≡ true
of_code (op.Push q) h = lt-ltb 0 q h
of_code _ h = refl

codes_of : (ops : List Op) → list_all has_code ops ≡ true → HaveCodes ops
codes_of ops e = all_of HasCode has_code code_of ops e

of_codes : (ops : List Op) → HaveCodes ops → list_all has_code ops ≡ true
of_codes ops h = of_all HasCode has_code of_code ops h

level_of : (e : Event) (level : Bool) → has_level e level ≡ true → HasLevel e level
level_of (event.Fixed f) level e = isnt level e
level_of (event.Gpe n) level e = tt

of_level : (e : Event) (level : Bool) → HasLevel e level → has_level e level ≡ true
of_level (event.Fixed f) level h = is_not level h
of_level (event.Gpe n) level h = refl

event_of : (e : EventPart) → is_event_part e ≡ true → IsEventPart e
event_of e h =
    let a = and_parts (not (is_gbl e.event)) (has_level e.event e.level && list_all has_code e.script) h in
    let b = and_parts (has_level e.event e.level) (list_all has_code e.script) a.1 in
    record { listed = isnt (is_gbl e.event) a.0; level = level_of e.event e.level b.0; codes = codes_of e.script b.1 }

of_event : (e : EventPart) → IsEventPart e → is_event_part e ≡ true
of_event e h =
    true_and (not (is_gbl e.event)) (has_level e.event e.level && list_all has_code e.script) (is_not (is_gbl e.event) h.listed)
    (true_and (has_level e.event e.level) (list_all has_code e.script) (of_level e.event e.level h.level) (of_codes e.script h.codes))

query_of : (q : QueryPart) → is_query_part q ≡ true → IsQueryPart q
query_of q h =
    let a = and_parts (nat_lt 0 q.code) (list_all has_code q.script) h in
    record { code = ltb-true 0 q.code a.0; codes = codes_of q.script a.1 }

of_query : (q : QueryPart) → IsQueryPart q → is_query_part q ≡ true
of_query q h = true_and (nat_lt 0 q.code) (list_all has_code q.script) (lt-ltb 0 q.code h.code) (of_codes q.script h.codes)

queries_of : (c : Option ControllerPart) → has_queries c ≡ true → HasQueries c
queries_of None e = tt
queries_of (Some c) e = all_of IsQueryPart is_query_part query_of c.queries e

of_queries : (c : Option ControllerPart) → HasQueries c → has_queries c ≡ true
of_queries None h = refl
of_queries (Some c) h = of_all IsQueryPart is_query_part of_query c.queries h

version_of : (version : ℕ) → is_version version ≡ true → IsVersion version
version_of version e = at (version == 1) refl e
  where
    at : (b : Bool) → (version == 1) ≡ b → (b || (version == 2)) ≡ true → IsVersion version
    at true one e = inl (eqb-true version 1 one)
    at false one e = inr (eqb-true version 2 e)

of_version : (version : ℕ) → IsVersion version → is_version version ≡ true
of_version version (inl one) = rw one refl
of_version version (inr two) = rw two refl

glk_of : (version : ℕ) (c : Option ControllerPart) → has_glk version c ≡ true → HasGlk version c
glk_of version None e = tt
glk_of version (Some c) e = λ one. subst (λ v. (not (v == 1) || c.glk) ≡ true) one e

of_glk : (version : ℕ) (c : Option ControllerPart) → HasGlk version c → has_glk version c ≡ true
of_glk version None h = refl
of_glk version (Some c) h = at (version == 1) refl
  where
    at : (b : Bool) → (version == 1) ≡ b → (not b || c.glk) ≡ true
    at true one = h (eqb-true version 1 one)
    at false one = refl

pub given_of : (p : MachineParts) → is_given p ≡ true → IsGiven p
unfolding is_given
given_of p e =
    let a = and_parts (is_version p.version) (has_glk p.version p.controller && (list_all is_event_part p.events && (has_queries p.controller && have_codes p.firmware))) e in
    let g = and_parts (has_glk p.version p.controller) (list_all is_event_part p.events && (has_queries p.controller && have_codes p.firmware)) a.1 in
    let b = and_parts (list_all is_event_part p.events) (has_queries p.controller && have_codes p.firmware) g.1 in
    let c = and_parts (has_queries p.controller) (have_codes p.firmware) b.1 in
    record {
      version = version_of p.version a.0;
      glk = glk_of p.version p.controller g.0;
      events = all_of IsEventPart is_event_part event_of p.events b.0;
      queries = queries_of p.controller c.0;
      firmware = all_of HaveCodes (λ (ops : List Op). list_all has_code ops) codes_of p.firmware c.1;
    }

pub of_given : (p : MachineParts) → IsGiven p → is_given p ≡ true
unfolding is_given
of_given p g =
    true_and (is_version p.version) (has_glk p.version p.controller && (list_all is_event_part p.events && (has_queries p.controller && have_codes p.firmware))) (of_version p.version g.version)
    (true_and (has_glk p.version p.controller) (list_all is_event_part p.events && (has_queries p.controller && have_codes p.firmware)) (of_glk p.version p.controller g.glk)
    (true_and (list_all is_event_part p.events) (has_queries p.controller && have_codes p.firmware) (of_all IsEventPart is_event_part of_event p.events g.events)
    (true_and (has_queries p.controller) (have_codes p.firmware) (of_queries p.controller g.queries) (of_all HaveCodes (λ (ops : List Op). list_all has_code ops) of_codes p.firmware g.firmware))))

pub given : (p : MachineParts) (b : Bool) → b ≡ is_given p → IsTrue b ↔ IsGiven p
given p b e = (λ t. given_of p (sym e ∙ truth b t), λ g. IsTrue_of b (e ∙ of_given p g))
  where
    truth : (b : Bool) → IsTrue b → b ≡ true
    truth true t = refl
    truth false t = cc

    IsTrue_of : (b : Bool) → b ≡ true → IsTrue b
    IsTrue_of true e = refl
    IsTrue_of false e = cc
