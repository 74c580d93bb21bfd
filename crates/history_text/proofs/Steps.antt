-- A bad line behind others, and the lines that are read one after another.
use Rattle.std.proofs.Common.{ℕ, zero, suc, ◌+◌, ◌<◌, ◌≤◌, ◌≡◌, ◌^◌, All, Bool, List, [], ◌∷◌, ◌++◌, length, get_or, Result, Ok, Err, refl, sym, ap, ◌∙◌, subst, append_assoc, add-one, length-append, arith, rules, codes, take, drop}
use Rattle.std.proofs.lemmas.List.{append-nil, take-append-drop, take_at, drop_at}
use Rattle.std.proofs.lemmas.List.Elements.{All-push, All-nil}
use Rattle.std.specs.Prelude.{IfErr, IfOk}
use Rattle.acpi_regs.specs.declared.entry.Entry.{Entry}
use Rattle.acpi_regs.specs.declared.event.Event.{Event}
use Rattle.machine_desc.specs.Machine.{MachineData}
use Rattle.machine_reader.specs.Canonical.{canonical}
use Rattle.history_text.specs.declared.fault.LogFault.{LogFault}
use Rattle.history_text.specs.declared.fault.LogFault.TheVariants as fault
use Rattle.history_text.specs.Lines.{Bad, Begins, End, Entries, IsEntryText, IsLine, IsMachineText, IsRestText, IsStuckText, IsWhole, Leads, Place, Start, Stuck, body_lines, log_lines, machine_text}
use Rattle.history_text.specs.Named.{IsEntry, IsEvent}
use Rattle.history_text.specs.Reading.{EntriesRead, EntryNext, Names, NamesNext, NoEntryNext, NoStuckNext, StuckNext, StuckRead}
use Rattle.history_text.specs.Text.{entry_line, entry_lines, entry_text, machine_line, rest_line, rest_text, stuck_line, stuck_lines, stuck_text}
use Rattle.history_text.proofs.Above.{rest_is_line}
use Rattle.history_text.proofs.FirstLine.{begins_once}

-- one more line that leads on
later : (place next : Place) (bytes line rest : List ℕ) (n : ℕ) → Begins bytes line rest → Leads place line next → Bad next rest (suc n) → Bad place bytes (suc (suc n))
later place next bytes line rest n begins leads bad = (line, rest, next, begins, leads, bad)

-- ---- entries

pub entries_begin : (bytes : List ℕ) (entries : List Entry) → entries ≡ [] → EntriesRead bytes entries bytes
entries_begin bytes entries none = subst (λ es. EntriesRead bytes es bytes) (sym none) (record {
  text = refl;
  named = λ k d within. absurd (omega (arith, within));
  len = omega arith;
  bad = λ n bad. let same : suc n ≡ suc (0 + n) = omega arith in subst (Bad Entries bytes) same bad;
})

entry_lines-more : (es : List Entry) (e : Entry) → entry_lines (es ++ e ∷ []) ≡ entry_lines es ++ entry_line e
entry_lines-more [] e = append-nil (entry_line e)
entry_lines-more (x ∷ es) e = ap (λ t. entry_line x ++ t) (entry_lines-more es e) ∙ sym (append_assoc (entry_line x) (entry_lines es) (entry_line e))

-- a line is its text and a newline
line_behind : (before text rest : List ℕ) → before ++ (text ++ 10 ∷ rest) ≡ (before ++ (text ++ 10 ∷ [])) ++ rest
line_behind before text rest = ap (λ t. before ++ t) (sym (append_assoc text (10 ∷ []) rest)) ∙ sym (append_assoc before (text ++ 10 ∷ []) rest)

length_begins : (bytes line rest : List ℕ) → Begins bytes line rest → length rest + 1 ≤ length bytes
length_begins bytes line rest begins =
    let size : length bytes ≡ length line + length (10 ∷ rest) = ap length begins.1 ∙ length-append line (10 ∷ rest) in
    omega (arith, size)

pub entries_step : (bytes left rest : List ℕ) (es more : List Entry) (e : Entry) → EntriesRead bytes es left → EntryNext left e rest → more ≡ es ++ e ∷ [] → EntriesRead bytes more rest
entries_step bytes left rest es more e before next more_is = subst (λ x. EntriesRead bytes x rest) (sym more_is) (record {
  text = before.text ∙ (ap (λ t. entry_lines es ++ t) next.0.1 ∙ (line_behind (entry_lines es) (entry_text e) rest ∙ ap (λ t. t ++ rest) (sym (entry_lines-more es e))));
  named = All-push IsEntry es e before.named next.1;
  len = omega (arith, before.len, length-append es (e ∷ []), length_begins left (entry_text e) rest next.0);
  bad = λ n bad.
      let size : length (es ++ e ∷ []) ≡ length es + 1 = length-append es (e ∷ []) in
      let same : suc (length es + (suc n)) ≡ suc (length (es ++ e ∷ []) + n) = omega (arith, size) in
      subst (Bad Entries bytes) same (before.bad (suc n) (later Entries Entries left (entry_text e) rest n next.0 (e, next.1, refl) bad));
})

-- ---- stuck lines

pub stuck_begin : (bytes : List ℕ) (events : List Event) → events ≡ [] → StuckRead bytes events bytes
stuck_begin bytes events none = subst (λ es. StuckRead bytes es bytes) (sym none) (record {
  text = refl;
  named = λ k d within. absurd (omega (arith, within));
  len = omega arith;
  bad = λ n bad. let same : suc n ≡ suc (0 + n) = omega arith in subst (Bad Stuck bytes) same bad;
})

stuck_lines-more : (es : List Event) (e : Event) → stuck_lines (es ++ e ∷ []) ≡ stuck_lines es ++ stuck_line e
stuck_lines-more [] e = append-nil (stuck_line e)
stuck_lines-more (x ∷ es) e = ap (λ t. stuck_line x ++ t) (stuck_lines-more es e) ∙ sym (append_assoc (stuck_line x) (stuck_lines es) (stuck_line e))

pub stuck_step : (bytes left rest : List ℕ) (es more : List Event) (e : Event) → StuckRead bytes es left → StuckNext left e rest → more ≡ es ++ e ∷ [] → StuckRead bytes more rest
stuck_step bytes left rest es more e before next more_is = subst (λ x. StuckRead bytes x rest) (sym more_is) (record {
  text = before.text ∙ (ap (λ t. stuck_lines es ++ t) next.0.1 ∙ (line_behind (stuck_lines es) (stuck_text e) rest ∙ ap (λ t. t ++ rest) (sym (stuck_lines-more es e))));
  named = All-push IsEvent es e before.named next.1;
  len = omega (arith, before.len, length-append es (e ∷ []), length_begins left (stuck_text e) rest next.0);
  bad = λ n bad.
      let size : length (es ++ e ∷ []) ≡ length es + 1 = length-append es (e ∷ []) in
      let same : suc (length es + (suc n)) ≡ suc (length (es ++ e ∷ []) + n) = omega (arith, size) in
      subst (Bad Stuck bytes) same (before.bad (suc n) (later Stuck Stuck left (stuck_text e) rest n next.0 (e, next.1, refl) bad));
})

-- ---- the end

-- the first bytes are no line
pub end_none : (bytes : List ℕ) → ((line rest : List ℕ) → Begins bytes line rest → ⊥) → Bad Stuck bytes 1
end_none bytes none = (λ whole. whole, λ line rest next begins leads. none line rest begins)

-- the first line leads nowhere
pub end_other : (bytes line rest : List ℕ) → NoStuckNext bytes → Begins bytes line rest → (IsRestText line → ⊥) → Bad Stuck bytes 1
end_other bytes line rest no_stuck begins no_rest = (λ whole. whole, λ a r next other leads. at next a r other leads)
  where
    at : (next : Place) (a r : List ℕ) → Begins bytes a r → Leads Stuck a next → ⊥
    at Start a r other leads = leads
    at Entries a r other leads = leads
    at Stuck a r other leads = no_stuck a r other leads
    at End a r other leads = no_rest (subst IsRestText (begins_once bytes a r line rest other begins).0 leads)

-- something stands behind the last line
pub end_more : (bytes line rest : List ℕ) (n : ℕ) → Begins bytes line rest → n < 2 ^ 32 → rest_text n ≡ line → (rest ≡ [] → ⊥) → Bad Stuck bytes 2
end_more bytes line rest n begins small is more = later Stuck End bytes line rest 0 begins (n, small, is) (more, λ a r next other leads. at a next leads)
  where
    at : (a : List ℕ) (next : Place) → Leads End a next → ⊥
    at a Start leads = leads
    at a Entries leads = leads
    at a Stuck leads = leads
    at a End leads = leads

pub end_whole : (bytes line rest : List ℕ) (n : ℕ) → Begins bytes line rest → rest_text n ≡ line → rest ≡ [] → bytes ≡ rest_line n
end_whole bytes line rest n begins is none = begins.1 ∙ (ap (λ r. line ++ 10 ∷ r) none ∙ ap (λ l. l ++ 10 ∷ []) (sym is))

-- a bad line may stand after entries where it may not stand after stuck lines, and is none of an entry
no_entry : (bytes : List ℕ) (n : ℕ) → NoEntryNext bytes → Bad Stuck bytes (suc n) → Bad Entries bytes (suc n)
no_entry bytes zero none bad = (λ whole. whole, λ line rest next begins leads. at next line rest begins leads)
  where
    at : (next : Place) (line rest : List ℕ) → Begins bytes line rest → Leads Entries line next → ⊥
    at Start line rest begins leads = leads
    at Entries line rest begins leads = none line rest begins leads
    at Stuck line rest begins leads = bad.1 line rest Stuck begins leads
    at End line rest begins leads = bad.1 line rest End begins leads
no_entry bytes (suc n) none bad = (bad.0, bad.1, bad.2, bad.3, at bad.2 bad.4, bad.5)
  where
    at : (next : Place) → Leads Stuck bad.0 next → Leads Entries bad.0 next
    at Start leads = leads
    at Entries leads = absurd leads
    at Stuck leads = leads
    at End leads = leads

-- a bad line of the end is one of all that stands behind the machine's line
pub body_bad : (bytes after last : List ℕ) (es : List Entry) (events : List Event) (k : ℕ) → EntriesRead bytes es after → NoEntryNext after → StuckRead after events last → Bad Stuck last (suc k) → Bad Entries bytes (suc (length es + (length events + k)))
body_bad bytes after last es events k entries none stuck bad = entries.bad (length events + k) (no_entry after (length events + k) none (stuck.bad k bad))

pub body_text : (bytes after last : List ℕ) (es : List Entry) (events : List Event) (n : ℕ) → EntriesRead bytes es after → StuckRead after events last → last ≡ rest_line n → bytes ≡ body_lines es events n
body_text bytes after last es events n entries stuck is = entries.text ∙ ap (λ t. entry_lines es ++ t) (stuck.text ∙ ap (λ t. stuck_lines events ++ t) is)

-- ---- the machine's line

-- the first line is none of a machine
pub start_none : (bytes : List ℕ) → ((line rest : List ℕ) → Begins bytes line rest → IsMachineText line → ⊥) → Bad Start bytes 1
start_none bytes none = (λ whole. whole, λ line rest next begins leads. at next line rest begins leads)
  where
    at : (next : Place) (line rest : List ℕ) → Begins bytes line rest → Leads Start line next → ⊥
    at Start line rest begins leads = leads
    at Entries line rest begins leads = none line rest begins leads
    at Stuck line rest begins leads = leads
    at End line rest begins leads = leads

pub start_other : (bytes line rest : List ℕ) → Begins bytes line rest → (IsMachineText line → ⊥) → Bad Start bytes 1
start_other bytes line rest begins none = start_none bytes (λ a r other is. none (subst IsMachineText (begins_once bytes a r line rest other begins).0 is))

pub start_later : (bytes line rest : List ℕ) (n : ℕ) → Begins bytes line rest → IsMachineText line → Bad Entries rest n → Bad Start bytes (n + 1)
start_later bytes line rest zero begins is bad = absurd bad
start_later bytes line rest (suc n) begins is bad = let same : suc (suc n) ≡ suc n + 1 = omega arith in subst (Bad Start bytes) same (later Start Entries bytes line rest n begins is bad)

pub log_text_is : (bytes line rest text : List ℕ) (es : List Entry) (events : List Event) (n : ℕ) → Begins bytes line rest → machine_text text ≡ line → rest ≡ body_lines es events n → bytes ≡ log_lines text es events n
log_text_is bytes line rest text es events n begins is body =
    begins.1 ∙ (ap (λ l. l ++ 10 ∷ rest) (sym is) ∙ (ap (λ r. machine_text text ++ 10 ∷ r) body ∙ around (body_lines es events n)))
  where
    around : (behind : List ℕ) → machine_text text ++ 10 ∷ behind ≡ machine_line text ++ behind
    around behind = append_assoc (codes "machine ") text (10 ∷ behind) ∙ (ap (λ t. codes "machine " ++ t) (sym (append_assoc text (10 ∷ []) behind)) ∙ sym (append_assoc (codes "machine ") (text ++ 10 ∷ []) behind))

-- a fault behind the machine's line
pub names_later : (bytes line rest : List ℕ) → Begins bytes line rest → IsMachineText line → (f : LogFault) → NamesNext Entries rest f → Names Start bytes f
names_later bytes line rest begins is (fault.BadLine n) next = subst (Bad Start bytes) (sym next.1) (start_later bytes line rest next.0 begins is next.2)
names_later bytes line rest begins is fault.Memory next = tt

-- what holds of each value holds of the one that is there
pub if_ok : {A E : Type 0} (P Q : A → Type 0) (r : Result A E) → ((x : A) → P x → Q x) → IfOk r P → IfOk r Q
if_ok P Q (Ok x) all is = all x is
if_ok P Q (Err e) all is = tt

pub if_err : {A E : Type 0} (P Q : E → Type 0) (r : Result A E) → ((x : E) → P x → Q x) → IfErr r P → IfErr r Q
if_err P Q (Ok x) all is = tt
if_err P Q (Err e) all is = all e is
