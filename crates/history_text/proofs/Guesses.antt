-- What is guessed from the text of an entry is that entry.
use Rattle.std.proofs.Common.{List, ◌⊎◌, inl, inr, take_all, ℕ, ◌+◌, ◌*◌, ◌/◌, ◌%◌, ◌^◌, ◌<◌, ◌≤◌, ◌≡◌, ◌==◌, Bool, true, false, cond, nat_lt, ◌∷◌, ◌++◌, take, decimal, Some, None, refl, sym, ◌∙◌, ap, arith}
use Rattle.std.proofs.lemmas.Bool.{ltb-false, ltb-true, eqb-true}
use Rattle.std.proofs.lemmas.Fmt.{decimal_digit, decimal_is_IsNumeral, length-decimal-le}
use Rattle.std.specs.Str.Parse.{digits_value}
use Rattle.acpi_regs.specs.declared.actor.Actor.{Actor}
use Rattle.acpi_regs.specs.declared.actor.Actor.TheVariants as actor
use Rattle.acpi_regs.specs.declared.entry.Cell.{Cell}
use Rattle.acpi_regs.specs.declared.entry.Deed.{Deed}
use Rattle.acpi_regs.specs.declared.entry.Deed.TheVariants as deed
use Rattle.acpi_regs.specs.declared.entry.Effect.TheVariants as effect
use Rattle.acpi_regs.specs.declared.entry.Entry.{Entry}
use Rattle.acpi_regs.specs.declared.entry.HostMove.TheVariants as host
use Rattle.acpi_regs.specs.declared.entry.Request.TheVariants as request
use Rattle.acpi_regs.specs.declared.event.Event.{Event}
use Rattle.acpi_regs.specs.declared.event.Event.TheVariants as event
use Rattle.acpi_regs.specs.declared.event.Fixed.TheVariants as fixed
use Rattle.history_text.specs.Guess.{deed_guess, digit_guess, entry_guess, event_guess, job_guess}
use Rattle.history_text.specs.Lines.{IsEntryText, IsRestText, IsStuckText}
use Rattle.history_text.specs.Named.{IsActor, IsDeed, IsEntry, IsEvent, OneEntry}
use Rattle.history_text.specs.Text.{actor_text, deed_text, digit_text, entry_text, event_text, rest_text, stuck_text}

-- ---- digits and bytes

digit_same : (d : ℕ) → d < 16 → digit_guess (digit_text d) ≡ d
digit_same d small = by_size (nat_lt d 10) refl
  where
    by_size : (b : Bool) → nat_lt d 10 ≡ b → digit_guess (cond b (48 + d) (55 + d)) ≡ d
    by_size true below = let few : d < 10 = ltb-true d 10 below in omega arith
    by_size false below = let many : 10 ≤ d = ltb-false d 10 below in omega arith

byte_same : (n : ℕ) → n < 256 → 16 * digit_guess (digit_text (n / 16)) + digit_guess (digit_text (n % 16)) ≡ n
byte_same n small =
    let high : digit_guess (digit_text (n / 16)) ≡ n / 16 = digit_same (n / 16) (omega arith) in
    let low : digit_guess (digit_text (n % 16)) ≡ n % 16 = digit_same (n % 16) (omega arith) in
    rw (high, low) (omega arith)

-- the digit is not this byte
apart : (d c : ℕ) → d < 16 → c < 48 ⊎ 70 < c → (digit_text d == c) ≡ false
apart d c small out = by_same (digit_text d == c) refl
  where
    within : (b : Bool) → nat_lt d 10 ≡ b → (48 ≤ cond b (48 + d) (55 + d)) × (cond b (48 + d) (55 + d) ≤ 70)
    within true below = let few : d < 10 = ltb-true d 10 below in (omega arith, omega arith)
    within false below = let many : 10 ≤ d = ltb-false d 10 below in (omega arith, omega arith)

    by_same : (b : Bool) → (digit_text d == c) ≡ b → b ≡ false
    by_same false same = refl
    by_same true same = let is : digit_text d ≡ c = eqb-true _ _ same in let bounds = within (nat_lt d 10) refl in absurd (outside (digit_text d) c is bounds.0 bounds.1 out)
      where
        outside : (x y : ℕ) → x ≡ y → 48 ≤ x → x ≤ 70 → y < 48 ⊎ 70 < y → ⊥
        outside x y is low high (inl less) = omega arith
        outside x y is low high (inr more) = omega arith

abbrev cell_at : ℕ → ℕ → Cell
cell_at r o = record { region = r; offset = o }

cell_same : (r o : ℕ) → r < 256 → o < 65536 → cell_at (16 * digit_guess (digit_text (r / 16)) + digit_guess (digit_text (r % 16))) (256 * (16 * digit_guess (digit_text (o / 256 / 16)) + digit_guess (digit_text (o / 256 % 16))) + (16 * digit_guess (digit_text (o % 256 / 16)) + digit_guess (digit_text (o % 256 % 16)))) ≡ cell_at r o
cell_same r o region offset =
    let high = byte_same (o / 256) (omega arith) in
    let low = byte_same (o % 256) (omega arith) in
    let whole : 256 * (o / 256) + o % 256 ≡ o = omega arith in
    rw (byte_same r region, high, low) (ap (cell_at r) whole)

-- ---- events, at the places where they stand

gpe_same : (n : ℕ) → n < 256 → cond (digit_text (n / 16) == 98) (event.Fixed fixed.Gbl) (event.Gpe (16 * digit_guess (digit_text (n / 16)) + digit_guess (digit_text (n % 16)))) ≡ event.Gpe n
gpe_same n small = rw (apart (n / 16) 98 (omega arith) (inr (omega arith))) (ap event.Gpe (byte_same n small))

event_same_3 : (e : Event) → IsEvent e → (a b c : ℕ) → event_guess (a ∷ b ∷ c ∷ event_text e) 3 ≡ e
event_same_3 (event.Fixed fixed.Tmr) small a b c = refl
event_same_3 (event.Fixed fixed.Gbl) small a b c = refl
event_same_3 (event.Fixed fixed.Pwr) small a b c = refl
event_same_3 (event.Fixed fixed.Slp) small a b c = refl
event_same_3 (event.Fixed fixed.Rtc) small a b c = refl
event_same_3 (event.Gpe n) small a b c = gpe_same n small

event_same_5 : (e : Event) → IsEvent e → (u v a b c : ℕ) → event_guess (u ∷ v ∷ a ∷ b ∷ c ∷ event_text e) 5 ≡ e
event_same_5 (event.Fixed fixed.Tmr) small u v a b c = refl
event_same_5 (event.Fixed fixed.Gbl) small u v a b c = refl
event_same_5 (event.Fixed fixed.Pwr) small u v a b c = refl
event_same_5 (event.Fixed fixed.Slp) small u v a b c = refl
event_same_5 (event.Fixed fixed.Rtc) small u v a b c = refl
event_same_5 (event.Gpe n) small u v a b c = gpe_same n small

event_same_6 : (e : Event) → IsEvent e → (u v w a b c : ℕ) → event_guess (u ∷ v ∷ w ∷ a ∷ b ∷ c ∷ event_text e) 6 ≡ e
event_same_6 (event.Fixed fixed.Tmr) small u v w a b c = refl
event_same_6 (event.Fixed fixed.Gbl) small u v w a b c = refl
event_same_6 (event.Fixed fixed.Pwr) small u v w a b c = refl
event_same_6 (event.Fixed fixed.Slp) small u v w a b c = refl
event_same_6 (event.Fixed fixed.Rtc) small u v w a b c = refl
event_same_6 (event.Gpe n) small u v w a b c = gpe_same n small

event_same_7 : (e : Event) → IsEvent e → (t u v w a b c : ℕ) → event_guess (t ∷ u ∷ v ∷ w ∷ a ∷ b ∷ c ∷ event_text e) 7 ≡ e
event_same_7 (event.Fixed fixed.Tmr) small t u v w a b c = refl
event_same_7 (event.Fixed fixed.Gbl) small t u v w a b c = refl
event_same_7 (event.Fixed fixed.Pwr) small t u v w a b c = refl
event_same_7 (event.Fixed fixed.Slp) small t u v w a b c = refl
event_same_7 (event.Fixed fixed.Rtc) small t u v w a b c = refl
event_same_7 (event.Gpe n) small t u v w a b c = gpe_same n small

-- ---- numbers

job_same : (j : ℕ) → j < 2 ^ 32 → digits_value 10 (take 10 (decimal j)) % 2 ^ 32 ≡ j
job_same j small =
    let all : take 10 (decimal j) ≡ decimal j = take_all 10 (decimal j) (length-decimal-le 10 j (omega arith) (omega arith) (omega arith)) in
    let value : digits_value 10 (decimal j) ≡ j = (decimal_is_IsNumeral j (omega arith)).1 in
    rw (all, value) (omega arith)

-- ---- deeds

deed_same : (d : Deed) → IsDeed d → deed_guess (deed_text d) ≡ d
deed_same deed.Seek ok = refl
deed_same deed.Busy ok = refl
deed_same deed.Woken ok = refl
deed_same deed.Own ok = refl
deed_same deed.Disown ok = refl
deed_same (deed.Leave false) ok = refl
deed_same (deed.Leave true) ok = refl
deed_same (deed.Read c v) ok = rw (byte_same v ok.1) (ap (λ x. deed.Read x v) (cell_same c.region c.offset ok.0.0 ok.0.1))
deed_same (deed.Write c v) ok = rw (byte_same v ok.1) (ap (λ x. deed.Write x v) (cell_same c.region c.offset ok.0.0 ok.0.1))
deed_same (deed.Begin (request.Rd x)) ok = ap (λ n. deed.Begin (request.Rd n)) (byte_same x ok)
deed_same (deed.Begin (request.Wr x v)) ok = rw (byte_same x ok.0, byte_same v ok.1) refl
deed_same (deed.Begin request.Be) ok = refl
deed_same (deed.Begin request.Bd) ok = refl
deed_same (deed.Begin request.Qr) ok = refl
deed_same (deed.Step (host.Sc x)) ok = ap (λ n. deed.Step (host.Sc n)) (byte_same x ok)
deed_same (deed.Step (host.Data x)) ok = ap (λ n. deed.Step (host.Data n)) (byte_same x ok)
deed_same (deed.Step (host.Get x)) ok = ap (λ n. deed.Step (host.Get n)) (byte_same x ok)
deed_same (deed.Ctl effect.Taken) ok = refl
deed_same (deed.Ctl (effect.Out x)) ok = ap (λ n. deed.Ctl (effect.Out n)) (byte_same x ok)
deed_same (deed.Ctl effect.Put) ok = refl
deed_same (deed.Ctl effect.Calm) ok = refl
deed_same (deed.Take None) ok = refl
deed_same (deed.Take (Some r)) ok = rw (apart (r / 16) 45 (omega arith) (inl (omega arith))) (ap (λ n. deed.Take (Some n)) (byte_same r ok))
deed_same (deed.Push q) ok = ap deed.Push (byte_same q ok)
deed_same (deed.Raise n) ok = ap deed.Raise (event_same_6 n ok 114 97 105 115 101 32)
deed_same (deed.Latch n) ok = ap deed.Latch (event_same_6 n ok 108 97 116 99 104 32)
deed_same (deed.Assert n) ok = ap deed.Assert (event_same_7 n ok 97 115 115 101 114 116 32)
deed_same (deed.Drop n) ok = ap deed.Drop (event_same_5 n ok 100 114 111 112 32)
deed_same (deed.Claim n) ok = ap deed.Claim (event_same_6 n ok 99 108 97 105 109 32)
deed_same (deed.Start j) ok = ap deed.Start (job_same j ok)
deed_same (deed.Finish j) ok = ap deed.Finish (job_same j ok)
deed_same (deed.Notify d v) ok = rw (byte_same d ok.0, byte_same v ok.1) refl
deed_same (deed.Up n) ok = ap deed.Up (event_same_3 n ok 117 112 32)
deed_same (deed.Down n) ok = ap deed.Down (event_same_5 n ok 100 111 119 110 32)

-- ---- entries

abbrev with_deed : Actor → Deed → Entry
with_deed a d = record { actor = a; deed = d }

small_4 : (k : ℕ) → k < 4 → digit_guess (48 + k) % 4 ≡ k
small_4 k small = omega arith

small_8 : (k : ℕ) → k < 8 → digit_guess (48 + k) % 8 ≡ k
small_8 k small = omega arith

entry_same : (a : Actor) (d : Deed) → IsActor a → IsDeed d → entry_guess (actor_text a ++ 32 ∷ deed_text d) ≡ with_deed a d
entry_same actor.Int d named ok = ap (with_deed actor.Int) (deed_same d ok)
entry_same actor.Poll d named ok = ap (with_deed actor.Poll) (deed_same d ok)
entry_same actor.Ec d named ok = ap (with_deed actor.Ec) (deed_same d ok)
entry_same (actor.Worker k) d named ok = rw (decimal_digit k (omega arith)) (rw (small_4 k named, deed_same d ok) refl)
entry_same (actor.Device k) d named ok = rw (decimal_digit k (omega arith)) (rw (small_8 k named, deed_same d ok) refl)
entry_same (actor.Firmware k) d named ok = rw (decimal_digit k (omega arith)) (rw (small_8 k named, deed_same d ok) refl)

pub guess_same : (e : Entry) → IsEntry e → entry_guess (entry_text e) ≡ e
guess_same e ok = entry_same e.actor e.deed ok.0 ok.1

pub one_entry : OneEntry
one_entry e f e_ok f_ok same = sym (guess_same e e_ok) ∙ (ap entry_guess same ∙ guess_same f f_ok)

-- where what is guessed has another text, the text is none
pub none_entry : (line : List ℕ) (g : Entry) → g ≡ entry_guess line → (entry_text g ≡ line → ⊥) → IsEntryText line → ⊥
none_entry line g is other found =
    let same : entry_guess line ≡ found.0 = ap entry_guess (sym found.2) ∙ guess_same found.0 found.1 in
    other (ap entry_text (is ∙ same) ∙ found.2)

stuck_same : (n : Event) → IsEvent n → event_guess (stuck_text n) 6 ≡ n
stuck_same n ok = event_same_6 n ok 115 116 117 99 107 32

pub none_stuck : (line : List ℕ) (g : Event) → g ≡ event_guess line 6 → (stuck_text g ≡ line → ⊥) → IsStuckText line → ⊥
none_stuck line g is other found =
    let same : event_guess line 6 ≡ found.0 = ap (λ t. event_guess t 6) (sym found.2) ∙ stuck_same found.0 found.1 in
    other (ap stuck_text (is ∙ same) ∙ found.2)

pub none_rest : (line : List ℕ) (g : ℕ) → g ≡ job_guess line 5 → (rest_text g ≡ line → ⊥) → IsRestText line → ⊥
none_rest line g is other found =
    let same : job_guess line 5 ≡ found.0 = ap (λ t. job_guess t 5) (sym found.2) ∙ job_same found.0 found.1 in
    other (ap rest_text (is ∙ same) ∙ found.2)

pub one_stuck : (n k : Event) → IsEvent n → IsEvent k → stuck_text n ≡ stuck_text k → n ≡ k
one_stuck n k n_ok k_ok same = sym (stuck_same n n_ok) ∙ (ap (λ t. event_guess t 6) same ∙ stuck_same k k_ok)

pub one_rest : (n k : ℕ) → n < 2 ^ 32 → k < 2 ^ 32 → rest_text n ≡ rest_text k → n ≡ k
one_rest n k n_ok k_ok same = sym (job_same n n_ok) ∙ (ap (λ t. job_guess t 5) same ∙ job_same k k_ok)
