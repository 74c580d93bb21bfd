-- How steps that put text on its way join.
use Rattle.std.proofs.Common.{◌≡◌, ℕ, ◌+◌, List, [], ◌∷◌, ◌++◌, take, drop, Option, Result, Ok, Err, Some, slice_get, zero, suc, refl, sym, ap, ◌∙◌, subst, append_assoc, add-one}
use Rattle.std.proofs.lemmas.List.{append-nil, take-append-drop}
use Rattle.std.specs.Io.KnownBytes.{Appends}
use Rattle.acpi_io.specs.Sink.{AddsFront, WritesAll}
use Rattle.acpi_io.specs.declared.sink.WriteFault.{WriteFault}
use Rattle.acpi_io.proofs.KnownBytes.{Appends-nil, Appends-append}
use Rattle.acpi_regs.specs.declared.entry.Entry.{Entry}
use Rattle.history_text.specs.Text.{entry_line, entry_lines}
use Rattle.history_text.specs.Written.{Leaves, GoesOn}

pub Leaves-nothing : (known : Option (List ℕ)) (waiting : List ℕ) → Leaves known known waiting waiting
Leaves-nothing known waiting = ([], refl, Appends-nil known)

-- text with more behind it
moved : (text more front waiting front' rest : List ℕ) → text ≡ front ++ waiting → waiting ++ more ≡ front' ++ rest → text ++ more ≡ (front ++ front') ++ rest
moved text more front waiting front' rest split split' =
    ap (λ t. t ++ more) split ∙ (append_assoc front waiting more ∙ (ap (λ t. front ++ t) split' ∙ sym (append_assoc front front' rest)))

pub Leaves-Leaves : (old mid new : Option (List ℕ)) (text waiting more after : List ℕ) → Leaves old mid text waiting → Leaves mid new (waiting ++ more) after → Leaves old new (text ++ more) after
Leaves-Leaves old mid new text waiting more after first next =
    (first.0 ++ next.0, moved text more first.0 waiting next.0 after first.1 next.1, Appends-append old mid new first.0 next.0 first.2 next.2)

pub Leaves-AddsFront : (old mid new : Option (List ℕ)) (text waiting more : List ℕ) → Leaves old mid text waiting → AddsFront mid new (waiting ++ more) → AddsFront old new (text ++ more)
Leaves-AddsFront old mid new text waiting more first next =
    (first.0 ++ next.0, next.1, moved text more first.0 waiting next.0 next.1 first.1 next.2, Appends-append old mid new first.0 next.0 first.2 next.3)

pub AddsFront-more : (old new : Option (List ℕ)) (text more : List ℕ) → AddsFront old new text → AddsFront old new (text ++ more)
AddsFront-more old new text more added =
    (added.0, added.1 ++ more, ap (λ t. t ++ more) added.2 ∙ append_assoc added.0 added.1 more, added.3)

pub Leaves-GoesOn : {U : Type 0} (old mid new : Option (List ℕ)) (text waiting more after : List ℕ) (r : Result U WriteFault) → Leaves old mid text waiting → GoesOn mid new (waiting ++ more) after r → GoesOn old new (text ++ more) after r
Leaves-GoesOn old mid new text waiting more after (Ok u) first next = Leaves-Leaves old mid new text waiting more after first next
Leaves-GoesOn old mid new text waiting more after (Err e) first next = Leaves-AddsFront old mid new text waiting more first next

-- what was left of a text that all of it waits for
pub Leaves-Appends : (old mid new : Option (List ℕ)) (text waiting : List ℕ) → Leaves old mid text waiting → Appends mid new waiting → Appends old new text
Leaves-Appends old mid new text waiting first next =
    subst (Appends old new) (sym first.1) (Appends-append old mid new first.0 waiting first.2 next)

-- a first text, a part and then another
pub then_goes_on : {U : Type 0} (old mid new : Option (List ℕ)) (first part more waiting after : List ℕ) (r : Result U WriteFault) → Leaves old mid (first ++ part) waiting → GoesOn mid new (waiting ++ more) after r → GoesOn old new (first ++ (part ++ more)) after r
then_goes_on old mid new first part more waiting after r before next =
    subst (λ t. GoesOn old new t after r) (append_assoc first part more) (Leaves-GoesOn old mid new (first ++ part) waiting more after r before next)

pub then_Leaves : (old mid new : Option (List ℕ)) (first part more waiting after : List ℕ) → Leaves old mid (first ++ part) waiting → Leaves mid new (waiting ++ more) after → Leaves old new (first ++ (part ++ more)) after
then_Leaves old mid new first part more waiting after before next =
    subst (λ t. Leaves old new t after) (append_assoc first part more) (Leaves-Leaves old mid new (first ++ part) waiting more after before next)

pub then_fails : (old mid new : Option (List ℕ)) (first part more waiting : List ℕ) → Leaves old mid (first ++ part) waiting → AddsFront mid new (waiting ++ more) → AddsFront old new (first ++ (part ++ more))
then_fails old mid new first part more waiting before failed =
    subst (AddsFront old new) (append_assoc first part more) (Leaves-AddsFront old mid new (first ++ part) waiting more before failed)

pub fails_before : (old new : Option (List ℕ)) (first part more : List ℕ) → AddsFront old new (first ++ part) → AddsFront old new (first ++ (part ++ more))
fails_before old new first part more failed =
    subst (AddsFront old new) (append_assoc first part more) (AddsFront-more old new (first ++ part) more failed)

-- what waits is written at last
pub Leaves-WritesAll : {U : Type 0} (old mid new : Option (List ℕ)) (text waiting : List ℕ) (r : Result U WriteFault) → Leaves old mid text waiting → WritesAll mid new waiting r → WritesAll old new text r
Leaves-WritesAll old mid new text waiting (Ok u) first next = Leaves-Appends old mid new text waiting first next
Leaves-WritesAll old mid new text waiting (Err e) first next =
    (first.0 ++ next.0, next.1, first.1 ∙ (ap (λ t. first.0 ++ t) next.2 ∙ sym (append_assoc first.0 next.0 next.1)), Appends-append old mid new first.0 next.0 first.2 next.3)

-- a text up to a place in it, what is next, and the rest
next_part : (first text done rest : List ℕ) (n : ℕ) → text ≡ done ++ rest → first ++ text ≡ ((first ++ done) ++ take n rest) ++ drop n rest
next_part first text done rest n split =
    ap (λ t. first ++ t) (split ∙ ap (λ t. done ++ t) (sym (take-append-drop n rest))) ∙ (sym (append_assoc first done (take n rest ++ drop n rest)) ∙ sym (append_assoc (first ++ done) (take n rest) (drop n rest)))

-- one part of a text more is on its way
pub part_put : (old mid new : Option (List ℕ)) (first text done rest waiting after part behind : List ℕ) (n : ℕ) → part ≡ take n rest → behind ≡ drop n rest → text ≡ done ++ rest → Leaves old mid (first ++ done) waiting → Leaves mid new (waiting ++ part) after → (more : List ℕ) × (text ≡ more ++ behind) × Leaves old new (first ++ more) after
part_put old mid new first text done rest waiting after part behind n is_part is_behind split before next =
    (done ++ part, rw (is_part, is_behind) (split ∙ (ap (λ t. done ++ t) (sym (take-append-drop n rest)) ∙ sym (append_assoc done (take n rest) (drop n rest)))), subst (λ t. Leaves old new t after) (append_assoc first done part) (Leaves-Leaves old mid new (first ++ done) waiting part after before next))

-- one part of a text failed
pub part_failed : (old mid new : Option (List ℕ)) (first text done rest waiting part : List ℕ) (n : ℕ) → part ≡ take n rest → text ≡ done ++ rest → Leaves old mid (first ++ done) waiting → AddsFront mid new (waiting ++ part) → AddsFront old new (first ++ text)
part_failed old mid new first text done rest waiting part n is_part split before failed =
    subst (AddsFront old new) (sym (next_part first text done rest n split)) (AddsFront-more old new ((first ++ done) ++ take n rest) (drop n rest) (subst (λ t. AddsFront old new ((first ++ done) ++ t)) is_part (Leaves-AddsFront old mid new (first ++ done) waiting part before failed)))

-- the lines of one entry more
pub entry_lines-take : (entries : List Entry) (i : ℕ) (e : Entry) → slice_get entries i ≡ Some e → entry_lines (take (suc i) entries) ≡ entry_lines (take i entries) ++ entry_line e
entry_lines-take [] i e at = cc
entry_lines-take (x ∷ entries) zero e at =
    let same : x ≡ e = cc in
    append-nil (entry_line x) ∙ ap entry_line same
entry_lines-take (x ∷ entries) (suc i) e at =
    ap (λ t. entry_line x ++ t) (entry_lines-take entries i e at) ∙ sym (append_assoc (entry_line x) (entry_lines (take i entries)) (entry_line e))

entry_lines-append : (some others : List Entry) → entry_lines (some ++ others) ≡ entry_lines some ++ entry_lines others
entry_lines-append [] others = refl
entry_lines-append (x ∷ some) others =
    ap (λ t. entry_line x ++ t) (entry_lines-append some others) ∙ sym (append_assoc (entry_line x) (entry_lines some) (entry_lines others))

-- the lines up to an entry, its own, and those behind
lines_around : (entries : List Entry) (i : ℕ) (e : Entry) → slice_get entries i ≡ Some e → entry_lines entries ≡ (entry_lines (take i entries) ++ entry_line e) ++ entry_lines (drop (suc i) entries)
lines_around entries i e at =
    ap entry_lines (sym (take-append-drop (suc i) entries)) ∙ (entry_lines-append (take (suc i) entries) (drop (suc i) entries) ∙ ap (λ t. t ++ entry_lines (drop (suc i) entries)) (entry_lines-take entries i e at))

pub entry_put : (old mid new : Option (List ℕ)) (first waiting after line : List ℕ) (entries : List Entry) (i : ℕ) (e : Entry) → slice_get entries i ≡ Some e → line ≡ entry_line e → Leaves old mid (first ++ entry_lines (take i entries)) waiting → Leaves mid new (waiting ++ line) after → Leaves old new (first ++ entry_lines (take (i + 1) entries)) after
entry_put old mid new first waiting after line entries i e at is before next =
    rw (add-one, entry_lines-take entries i e at, ← is) (subst (λ t. Leaves old new t after) (append_assoc first (entry_lines (take i entries)) line) (Leaves-Leaves old mid new (first ++ entry_lines (take i entries)) waiting line after before next))

pub entry_failed : (old mid new : Option (List ℕ)) (first waiting line : List ℕ) (entries : List Entry) (i : ℕ) (e : Entry) → slice_get entries i ≡ Some e → line ≡ entry_line e → Leaves old mid (first ++ entry_lines (take i entries)) waiting → AddsFront mid new (waiting ++ line) → AddsFront old new (first ++ entry_lines entries)
entry_failed old mid new first waiting line entries i e at is before failed =
    rw (lines_around entries i e at, ← is) (fails_before old new first (entry_lines (take i entries) ++ line) (entry_lines (drop (suc i) entries)) (then_fails old mid new first (entry_lines (take i entries)) line waiting before failed))
