-- The machine that bytes describe, and the machine's line.
use Rattle.std.proofs.Common.{◌≡◌, ℕ, ◌+◌, ◌<◌, ◌≤◌, Bool, true, false, cond, nat_lt, List, ◌++◌, length, take, drop, codes, Option, None, Some, Result, Ok, Err, refl, sym, ap, ◌∙◌, subst, arith, length-append}
use Rattle.std.proofs.lemmas.Bool.{ltb-false, ltb-true}
use Rattle.std.proofs.lemmas.List.{take-append-drop}
use Rattle.serde_json.specs.Data.{Data}
use Rattle.machine_desc.specs.declared.fault.BadMachine.{BadMachine}
use Rattle.machine_desc.specs.declared.parts.MachineParts.{MachineParts}
use Rattle.machine_desc.specs.Machine.{MachineData, described}
use Rattle.machine_desc.specs.Rules.{first_fault}
use Rattle.machine_desc.specs.Weight.{weight_of}
use Rattle.machine_reader.specs.declared.fault.ReaderFault.{ReaderFault}
use Rattle.machine_reader.specs.declared.fault.ReaderFault.TheVariants as fault
use Rattle.machine_reader.specs.Canonical.{canonical, description_json}
use Rattle.machine_reader.specs.Description.{Describes, IsJson, limit, machine_in, unless_broken, unless_long, unless_misshapen}
use Rattle.machine_reader.specs.Reading.{Reading}
use Rattle.machine_reader.specs.Shape.{shape}
use Rattle.history_text.specs.Lines.{IsCanonical, IsMachineText, IsReadBack, machine_text}

-- bytes are JSON of one value
same_value : (bytes : List ℕ) (d e : Data) → IsJson bytes d → IsJson bytes e → d ≡ e
same_value bytes d e one other = some-injective d e (sym one.1 ∙ other.1)
  where
    some-injective : (x y : Data) → Some x ≡ Some y → x ≡ y
    some-injective x y same = cc

ok-injective : (r : Result MachineData ReaderFault) (x y : MachineData) → r ≡ Ok x → r ≡ Ok y → x ≡ y
ok-injective (Ok z) x y one other = cc
ok-injective (Err e) x y one other = cc

-- bytes describe one machine, or none
pub described_once : (bytes : List ℕ) (m n : MachineData) → Describes bytes (Ok m) → Describes bytes (Ok n) → m ≡ n
described_once bytes m n one other =
    let same = same_value bytes one.0 other.0 one.1 other.1 in
    ok-injective (machine_in one.0) m n one.2 (ap machine_in same ∙ other.2)

pub not_refused : (bytes : List ℕ) (m : MachineData) (f : ReaderFault) → Describes bytes (Ok m) → ((d : Data) × IsJson bytes d × (machine_in d ≡ Err f)) → ⊥
not_refused bytes m f describes refused =
    let same = same_value bytes refused.0 describes.0 refused.1 describes.1 in
    let other : Err f ≡ Ok m = sym refused.2 ∙ (ap machine_in same ∙ describes.2) in
    cc

-- what describes a machine is refused for want of memory alone
pub refused_free : (bytes : List ℕ) (m : MachineData) (f : ReaderFault) → Describes bytes (Ok m) → Describes bytes (Err f) → f ≡ fault.Memory
refused_free bytes m fault.NotJson describes refused = absurd (refused describes.0 describes.1)
refused_free bytes m (fault.BadShape path) describes refused = absurd (not_refused bytes m (fault.BadShape path) describes refused)
refused_free bytes m (fault.BadMachine bad) describes refused = absurd (not_refused bytes m (fault.BadMachine bad) describes refused)
refused_free bytes m (fault.TooLong weight) describes refused = absurd (not_refused bytes m (fault.TooLong weight) describes refused)
refused_free bytes m fault.Memory describes refused = refl

-- ---- the weight of a machine that was read

long : (b : Bool) (x m : MachineData) → nat_lt 1048576 (weight_of x) ≡ b → cond b (Err (fault.TooLong (weight_of x))) (Ok x) ≡ Ok m → weight_of m ≤ 1048576
long true x m test is = cc
long false x m test is = subst (λ y. weight_of y ≤ 1048576) (ok-injective (Ok x) x m refl is) (ltb-false 1048576 (weight_of x) test)

unbroken : (parts : MachineParts) (o : Option BadMachine) (m : MachineData) → unless_broken parts o ≡ Ok m → weight_of m ≤ 1048576
unbroken parts None m is = long (nat_lt 1048576 (weight_of (described parts))) (described parts) m refl is
unbroken parts (Some bad) m is = cc

shaped : (r : Reading MachineParts) (m : MachineData) → unless_misshapen r ≡ Ok m → weight_of m ≤ 1048576
shaped (Ok parts) m is = unbroken parts (first_fault parts) m is
shaped (Err path) m is = cc

read_weight : (d : Data) (m : MachineData) → machine_in d ≡ Ok m → weight_of m ≤ 1048576
unfolding machine_in
read_weight d m is = shaped (shape d) m is

pub small_weight : (bytes : List ℕ) (m : MachineData) → Describes bytes (Ok m) → weight_of m ≤ 1048576
small_weight bytes m describes = read_weight describes.0 m describes.2

-- ---- canonical texts

pub canonical_refused : (text : List ℕ) (f : ReaderFault) → Describes text (Err f) → (f ≡ fault.Memory → ⊥) → IsCanonical text → ⊥
canonical_refused text f refused known found = known (refused_free text found.0 f found.1 refused)

pub canonical_other : (text written : List ℕ) (m : MachineData) → Describes text (Ok m) → written ≡ canonical m → (written ≡ text → ⊥) → IsCanonical text → ⊥
canonical_other text written m describes is other found = other (is ∙ (ap canonical (described_once text m found.0 describes found.1) ∙ found.2))

pub canonical_same : (text written : List ℕ) (m : MachineData) → Describes text (Ok m) → written ≡ canonical m → written ≡ text → (canonical m ≡ text) × IsReadBack m
canonical_same text written m describes is same =
    let text_is : canonical m ≡ text = sym is ∙ same in
    (text_is, subst (λ t. Describes t (Ok m)) (sym text_is) describes)

pub read_back : (m : MachineData) → weight_of m ≤ limit → IsJson (canonical m) (description_json m) → machine_in (description_json m) ≡ unless_long m → IsReadBack m
read_back m light json is = (description_json m, json, is ∙ fits (nat_lt limit (weight_of m)) refl)
  where
    fits : (b : Bool) → nat_lt limit (weight_of m) ≡ b → cond b (Err (fault.TooLong (weight_of m))) (Ok m) ≡ Ok m
    fits true heavy = absurd (let more : limit < weight_of m = ltb-true limit (weight_of m) heavy in omega (arith, more, light))
    fits false heavy = refl

-- ---- the machine's line

pub word_short : (line : List ℕ) → length line < 8 → IsMachineText line → ⊥
word_short line short found =
    let size : length (codes "machine ") + length found.0 ≡ length line = sym (length-append (codes "machine ") found.0) ∙ ap length found.2 in
    omega (arith, size, short)

pub word_other : (line word : List ℕ) → word ≡ take 8 line → (word ≡ codes "machine " → ⊥) → IsMachineText line → ⊥
word_other line word is other found = other (is ∙ sym (ap (take 8) found.2))

pub word_none : (line text : List ℕ) → text ≡ drop 8 line → (IsCanonical text → ⊥) → IsMachineText line → ⊥
word_none line text is none found =
    let same : found.0 ≡ text = ap (drop 8) found.2 ∙ sym is in
    none (subst IsCanonical same found.1)

pub word_same : (line word text canonical : List ℕ) → word ≡ take 8 line → text ≡ drop 8 line → word ≡ codes "machine " → canonical ≡ text → machine_text canonical ≡ line
word_same line word text canonical word_is text_is is same =
    ap (λ t. codes "machine " ++ t) (same ∙ text_is) ∙ (ap (λ w. w ++ drop 8 line) (sym is ∙ word_is) ∙ take-append-drop 8 line)
