-- No bytes have two first bad lines, and the lines of a log have none; they are those of one log.
use Rattle.std.proofs.Common.{ℕ, zero, suc, ◌+◌, ◌<◌, ◌≡◌, ◌^◌, All, List, [], ◌∷◌, ◌++◌, length, get_or, drop, codes, decimal, Ok, refl, sym, ap, ◌∙◌, subst, append_assoc, arith}
use Rattle.std.proofs.lemmas.List.Elements.{All-head, All-tail}
use Rattle.acpi_regs.specs.declared.actor.Actor.{Actor}
use Rattle.acpi_regs.specs.declared.actor.Actor.TheVariants as actor
use Rattle.acpi_regs.specs.declared.entry.Entry.{Entry}
use Rattle.acpi_regs.specs.declared.event.Event.{Event}
use Rattle.machine_desc.specs.Machine.{MachineData}
use Rattle.machine_reader.specs.Canonical.{canonical}
use Rattle.machine_reader.specs.Description.{Describes}
use Rattle.history_text.specs.Laws.{NoBadLine, OneBadLine, OneLog, OneMachine, OneText}
use Rattle.history_text.specs.Lines.{Bad, Begins, End, Entries, IsLine, IsReadBack, Leads, Place, Start, Stuck, body_lines, log_lines, machine_text}
use Rattle.history_text.specs.Named.{IsEntry, IsEvent}
use Rattle.history_text.specs.Text.{actor_text, deed_text, entry_line, entry_lines, entry_text, event_text, machine_line, rest_line, rest_text, stuck_line, stuck_lines, stuck_text}
use Rattle.history_text.proofs.Above.{entry_is_line, machine_is_line, rest_is_line, stuck_is_line}
use Rattle.history_text.proofs.Described.{described_once}
use Rattle.history_text.proofs.FirstLine.{begins_once, one_line}
use Rattle.history_text.proofs.Guesses.{one_entry, one_rest, one_stuck}

-- ---- lines of two kinds differ in their first byte

actor_stuck : (a : Actor) (t : List ℕ) → get_or (actor_text a ++ t) 0 0 ≡ 115 → ⊥
actor_stuck actor.Int t is = let e : 105 ≡ 115 = is in omega (arith, e)
actor_stuck actor.Poll t is = let e : 112 ≡ 115 = is in omega (arith, e)
actor_stuck (actor.Worker k) t is = let e : 119 ≡ 115 = is in omega (arith, e)
actor_stuck actor.Ec t is = let e : 101 ≡ 115 = is in omega (arith, e)
actor_stuck (actor.Device k) t is = let e : 100 ≡ 115 = is in omega (arith, e)
actor_stuck (actor.Firmware k) t is = let e : 102 ≡ 115 = is in omega (arith, e)

actor_rest : (a : Actor) (t : List ℕ) → get_or (actor_text a ++ t) 0 0 ≡ 114 → ⊥
actor_rest actor.Int t is = let e : 105 ≡ 114 = is in omega (arith, e)
actor_rest actor.Poll t is = let e : 112 ≡ 114 = is in omega (arith, e)
actor_rest (actor.Worker k) t is = let e : 119 ≡ 114 = is in omega (arith, e)
actor_rest actor.Ec t is = let e : 101 ≡ 114 = is in omega (arith, e)
actor_rest (actor.Device k) t is = let e : 100 ≡ 114 = is in omega (arith, e)
actor_rest (actor.Firmware k) t is = let e : 102 ≡ 114 = is in omega (arith, e)

entry_or_stuck : (e : Entry) (n : Event) → entry_text e ≡ stuck_text n → ⊥
entry_or_stuck e n same = actor_stuck e.actor (32 ∷ deed_text e.deed) (ap (λ t. get_or t 0 0) same)

entry_or_rest : (e : Entry) (k : ℕ) → entry_text e ≡ rest_text k → ⊥
entry_or_rest e k same = actor_rest e.actor (32 ∷ deed_text e.deed) (ap (λ t. get_or t 0 0) same)

stuck_or_rest : (n : Event) (k : ℕ) → stuck_text n ≡ rest_text k → ⊥
stuck_or_rest n k same = let first : 115 ≡ 114 = ap (λ t. get_or t 0 0) same in omega (arith, first)

-- ---- a line leads to one place

start_next : (a b : Place) (line : List ℕ) → Leads Start line a → Leads Start line b → a ≡ b
start_next Start b line one other = absurd one
start_next Stuck b line one other = absurd one
start_next End b line one other = absurd one
start_next Entries Start line one other = absurd other
start_next Entries Stuck line one other = absurd other
start_next Entries End line one other = absurd other
start_next Entries Entries line one other = refl

entries_next : (a b : Place) (line : List ℕ) → Leads Entries line a → Leads Entries line b → a ≡ b
entries_next Start b line one other = absurd one
entries_next Entries Start line one other = absurd other
entries_next Stuck Start line one other = absurd other
entries_next End Start line one other = absurd other
entries_next Entries Entries line one other = refl
entries_next Entries Stuck line one other = absurd (entry_or_stuck one.0 other.0 (one.2 ∙ sym other.2))
entries_next Entries End line one other = absurd (entry_or_rest one.0 other.0 (one.2 ∙ sym other.2))
entries_next Stuck Entries line one other = absurd (entry_or_stuck other.0 one.0 (other.2 ∙ sym one.2))
entries_next Stuck Stuck line one other = refl
entries_next Stuck End line one other = absurd (stuck_or_rest one.0 other.0 (one.2 ∙ sym other.2))
entries_next End Entries line one other = absurd (entry_or_rest other.0 one.0 (other.2 ∙ sym one.2))
entries_next End Stuck line one other = absurd (stuck_or_rest other.0 one.0 (other.2 ∙ sym one.2))
entries_next End End line one other = refl

stuck_next : (a b : Place) (line : List ℕ) → Leads Stuck line a → Leads Stuck line b → a ≡ b
stuck_next Start b line one other = absurd one
stuck_next Entries b line one other = absurd one
stuck_next Stuck Start line one other = absurd other
stuck_next Stuck Entries line one other = absurd other
stuck_next Stuck Stuck line one other = refl
stuck_next Stuck End line one other = absurd (stuck_or_rest one.0 other.0 (one.2 ∙ sym other.2))
stuck_next End Start line one other = absurd other
stuck_next End Entries line one other = absurd other
stuck_next End Stuck line one other = absurd (stuck_or_rest other.0 one.0 (other.2 ∙ sym one.2))
stuck_next End End line one other = refl

end_leads : (next : Place) (line : List ℕ) → Leads End line next → ⊥
end_leads Start line leads = leads
end_leads Entries line leads = leads
end_leads Stuck line leads = leads
end_leads End line leads = leads

next_one : (place a b : Place) (line : List ℕ) → Leads place line a → Leads place line b → a ≡ b
next_one Start a b line one other = start_next a b line one other
next_one Entries a b line one other = entries_next a b line one other
next_one Stuck a b line one other = stuck_next a b line one other
next_one End a b line one other = absurd (end_leads a line one)

-- what stands behind a line, by another reading of it
other_way : (place next next2 : Place) (bytes line rest line2 rest2 : List ℕ) (n : ℕ) → Begins bytes line rest → Leads place line next → Begins bytes line2 rest2 → Leads place line2 next2 → Bad next2 rest2 n → Bad next rest n
other_way place next next2 bytes line rest line2 rest2 n begins leads begins2 leads2 bad =
    let same = begins_once bytes line rest line2 rest2 begins begins2 in
    let next_is = next_one place next next2 line leads (subst (λ l. Leads place l next2) (sym same.0) leads2) in
    subst (λ p. Bad p rest n) (sym next_is) (subst (λ r. Bad next2 r n) (sym same.1) bad)

one_bad : (place : Place) (bytes : List ℕ) (n k : ℕ) → Bad place bytes n → Bad place bytes k → n ≡ k
one_bad place bytes zero k one other = absurd one
one_bad place bytes (suc n) zero one other = absurd other
one_bad place bytes (suc zero) (suc zero) one other = refl
one_bad place bytes (suc zero) (suc (suc k)) one other = absurd (one.1 other.0 other.1 other.2 other.3 other.4)
one_bad place bytes (suc (suc n)) (suc zero) one other = absurd (other.1 one.0 one.1 one.2 one.3 one.4)
one_bad place bytes (suc (suc n)) (suc (suc k)) one other =
    ap suc (one_bad one.2 one.1 (suc n) (suc k) one.5 (other_way place one.2 other.2 bytes one.0 one.1 other.0 other.1 (suc k) one.3 one.4 other.3 other.4 other.5))

pub one_bad_line : OneBadLine
one_bad_line bytes n k one other = one_bad Start bytes n k one other

-- ---- the lines of a log have no bad one

good : (place next : Place) (line rest : List ℕ) → IsLine line → Leads place line next → ((n : ℕ) → Bad next rest n → ⊥) → (n : ℕ) → Bad place (line ++ 10 ∷ rest) n → ⊥
good place next line rest is leads none zero bad = bad
good place next line rest is leads none (suc zero) bad = bad.1 line rest next (is, refl) leads
good place next line rest is leads none (suc (suc n)) bad =
    none (suc n) (other_way place next bad.2 (line ++ 10 ∷ rest) line rest bad.0 bad.1 (suc n) (is, refl) leads bad.3 bad.4 bad.5)

good_end : (n : ℕ) → Bad End [] n → ⊥
good_end zero bad = bad
good_end (suc zero) bad = bad.0 refl
good_end (suc (suc n)) bad = end_leads bad.2 bad.0 bad.4

-- a line before others
line_first : (text others behind : List ℕ) → ((text ++ 10 ∷ []) ++ others) ++ behind ≡ text ++ 10 ∷ (others ++ behind)
line_first text others behind =
    append_assoc (text ++ 10 ∷ []) others behind ∙ append_assoc text (10 ∷ []) (others ++ behind)

good_rest : (place : Place) (r : ℕ) → Leads place (rest_text r) End → (n : ℕ) → Bad place (rest_line r) n → ⊥
good_rest place r leads n bad = good place End (rest_text r) [] (rest_is_line r) leads good_end n bad

good_stuck : (events : List Event) (r : ℕ) → All IsEvent events → r < 2 ^ 32 → (n : ℕ) → Bad Stuck (stuck_lines events ++ rest_line r) n → ⊥
good_stuck [] r named small n bad = good_rest Stuck r (r, small, refl) n bad
good_stuck (x ∷ events) r named small n bad =
    good Stuck Stuck (stuck_text x) (stuck_lines events ++ rest_line r) (stuck_is_line x) (x, All-head IsEvent x events named, refl) (good_stuck events r (All-tail IsEvent x events named) small) n (subst (λ t. Bad Stuck t n) (line_first (stuck_text x) (stuck_lines events) (rest_line r)) bad)

good_behind : (events : List Event) (r : ℕ) → All IsEvent events → r < 2 ^ 32 → (n : ℕ) → Bad Entries (stuck_lines events ++ rest_line r) n → ⊥
good_behind [] r named small n bad = good_rest Entries r (r, small, refl) n bad
good_behind (x ∷ events) r named small n bad =
    good Entries Stuck (stuck_text x) (stuck_lines events ++ rest_line r) (stuck_is_line x) (x, All-head IsEvent x events named, refl) (good_stuck events r (All-tail IsEvent x events named) small) n (subst (λ t. Bad Entries t n) (line_first (stuck_text x) (stuck_lines events) (rest_line r)) bad)

good_body : (entries : List Entry) (events : List Event) (r : ℕ) → All IsEntry entries → All IsEvent events → r < 2 ^ 32 → (n : ℕ) → Bad Entries (body_lines entries events r) n → ⊥
good_body [] events r entries_named named small n bad = good_behind events r named small n bad
good_body (e ∷ entries) events r entries_named named small n bad =
    good Entries Entries (entry_text e) (body_lines entries events r) (entry_is_line e) (e, All-head IsEntry e entries entries_named, refl) (good_body entries events r (All-tail IsEntry e entries entries_named) named small) n (subst (λ t. Bad Entries t n) (line_first (entry_text e) (entry_lines entries) (stuck_lines events ++ rest_line r)) bad)

machine_first : (text behind : List ℕ) → machine_line text ++ behind ≡ machine_text text ++ 10 ∷ behind
machine_first text behind =
    append_assoc (codes "machine ") (text ++ 10 ∷ []) behind ∙ (ap (λ t. codes "machine " ++ t) (append_assoc text (10 ∷ []) behind) ∙ sym (append_assoc (codes "machine ") text (10 ∷ behind)))

pub no_bad_line : NoBadLine
no_bad_line m entries events r n read_back entries_named named small bad =
    good Start Entries (machine_text (canonical m)) (body_lines entries events r) (machine_is_line m) (canonical m, (m, read_back, refl), refl) (good_body entries events r entries_named named small) n (subst (λ t. Bad Start t n) (machine_first (canonical m) (body_lines entries events r)) bad)

-- ---- they are those of one log

rest_same : (n k : ℕ) → n < 2 ^ 32 → k < 2 ^ 32 → rest_line n ≡ rest_line k → n ≡ k
rest_same n k n_small k_small same = one_rest n k n_small k_small (one_line (rest_text n) [] (rest_text k) [] (rest_is_line n) (rest_is_line k) same).0

tail_same : (events others : List Event) (n k : ℕ) → All IsEvent events → All IsEvent others → n < 2 ^ 32 → k < 2 ^ 32 → stuck_lines events ++ rest_line n ≡ stuck_lines others ++ rest_line k → (events ≡ others) × (n ≡ k)
tail_same [] [] n k named named2 n_small k_small same = (refl, rest_same n k n_small k_small same)
tail_same [] (y ∷ others) n k named named2 n_small k_small same =
    let line = one_line (rest_text n) [] (stuck_text y) (stuck_lines others ++ rest_line k) (rest_is_line n) (stuck_is_line y) (same ∙ line_first (stuck_text y) (stuck_lines others) (rest_line k)) in
    absurd (stuck_or_rest y n (sym line.0))
tail_same (x ∷ events) [] n k named named2 n_small k_small same =
    let line = one_line (stuck_text x) (stuck_lines events ++ rest_line n) (rest_text k) [] (stuck_is_line x) (rest_is_line k) (sym (line_first (stuck_text x) (stuck_lines events) (rest_line n)) ∙ same) in
    absurd (stuck_or_rest x k line.0)
tail_same (x ∷ events) (y ∷ others) n k named named2 n_small k_small same =
    let line = one_line (stuck_text x) (stuck_lines events ++ rest_line n) (stuck_text y) (stuck_lines others ++ rest_line k) (stuck_is_line x) (stuck_is_line y) (sym (line_first (stuck_text x) (stuck_lines events) (rest_line n)) ∙ (same ∙ line_first (stuck_text y) (stuck_lines others) (rest_line k))) in
    let first : x ≡ y = one_stuck x y (All-head IsEvent x events named) (All-head IsEvent y others named2) line.0 in
    let rest = tail_same events others n k (All-tail IsEvent x events named) (All-tail IsEvent y others named2) n_small k_small line.1 in
    (ap (λ z. z ∷ events) first ∙ ap (λ t. y ∷ t) rest.0, rest.1)

-- the first line of what stands behind the entries is none of an entry
tail_or_entry : (events : List Event) (n : ℕ) (e : Entry) (behind : List ℕ) → stuck_lines events ++ rest_line n ≡ entry_text e ++ 10 ∷ behind → ⊥
tail_or_entry [] n e behind same = entry_or_rest e n (sym (one_line (rest_text n) [] (entry_text e) behind (rest_is_line n) (entry_is_line e) same).0)
tail_or_entry (x ∷ events) n e behind same =
    entry_or_stuck e x (sym (one_line (stuck_text x) (stuck_lines events ++ rest_line n) (entry_text e) behind (stuck_is_line x) (entry_is_line e) (sym (line_first (stuck_text x) (stuck_lines events) (rest_line n)) ∙ same)).0)

abbrev tail : List Event → ℕ → List ℕ
tail events n = stuck_lines events ++ rest_line n

body_same : (es fs : List Entry) (events others : List Event) (n k : ℕ) → All IsEntry es → All IsEntry fs → body_lines es events n ≡ body_lines fs others k → (es ≡ fs) × (tail events n ≡ tail others k)
body_same [] [] events others n k named named2 same = (refl, same)
body_same [] (f ∷ fs) events others n k named named2 same =
    absurd (tail_or_entry events n f (entry_lines fs ++ tail others k) (same ∙ line_first (entry_text f) (entry_lines fs) (tail others k)))
body_same (e ∷ es) [] events others n k named named2 same =
    absurd (tail_or_entry others k e (entry_lines es ++ tail events n) (sym same ∙ line_first (entry_text e) (entry_lines es) (tail events n)))
body_same (e ∷ es) (f ∷ fs) events others n k named named2 same =
    let line = one_line (entry_text e) (body_lines es events n) (entry_text f) (body_lines fs others k) (entry_is_line e) (entry_is_line f) (sym (line_first (entry_text e) (entry_lines es) (tail events n)) ∙ (same ∙ line_first (entry_text f) (entry_lines fs) (tail others k))) in
    let first : e ≡ f = one_entry e f (All-head IsEntry e es named) (All-head IsEntry f fs named2) line.0 in
    let rest = body_same es fs events others n k (All-tail IsEntry e es named) (All-tail IsEntry f fs named2) line.1 in
    (ap (λ z. z ∷ es) first ∙ ap (λ t. f ∷ t) rest.0, rest.1)

log_same : (m n : MachineData) (es fs : List Entry) (events others : List Event) (r k : ℕ) → All IsEntry es → All IsEntry fs → log_lines (canonical m) es events r ≡ log_lines (canonical n) fs others k → (canonical m ≡ canonical n) × (es ≡ fs) × (tail events r ≡ tail others k)
log_same m n es fs events others r k named named2 same =
    let line = one_line (machine_text (canonical m)) (body_lines es events r) (machine_text (canonical n)) (body_lines fs others k) (machine_is_line m) (machine_is_line n) (sym (machine_first (canonical m) (body_lines es events r)) ∙ (same ∙ machine_first (canonical n) (body_lines fs others k))) in
    let text : canonical m ≡ canonical n = ap (drop 8) line.0 in
    let body = body_same es fs events others r k named named2 line.1 in
    (text, body.0, body.1)

pub one_log : OneLog
one_log m n es fs events others r k es_named fs_named named named2 r_small k_small same =
    let all = log_same m n es fs events others r k es_named fs_named same in
    let last = tail_same events others r k named named2 r_small k_small all.2 in
    (all.0, all.1, last.0, last.1)

pub one_machine : OneMachine
one_machine m n read read2 same = described_once (canonical n) m n (subst (λ t. Describes t (Ok m)) same read) read2

pub one_text : OneText
one_text m n history other read read2 named named2 same =
    let all = log_same m n history other _ _ _ _ named named2 same in
    (one_machine m n read read2 all.0, all.1)
