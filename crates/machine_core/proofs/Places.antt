-- Where the regions, the handlers and the pulses of a machine stand.
use Rattle.std.proofs.Common.{ℕ, zero, suc, ◌+◌, ◌<◌, ◌≤◌, ◌≡◌, ◌==◌, inl, inr, ◌&&◌, not, Bool, true, false, cond, nat_lt, get_or, List, [], ◌∷◌, length, drop, drop-cons, slice_get, Option, Some, None, refl, sym, ◌∙◌, ap, subst, arith, slice_set, get_or-set_other, replicate}
use Rattle.std.proofs.lemmas.Bool.{and_from, and_parts, cases_eq, eq-eqb, eqb-true, ltb-true, ne_eqb}
use Rattle.std.proofs.lemmas.Grind.{get_or-set_at}
use Rattle.std.proofs.lemmas.Option.{slice_get-get_or}
use Rattle.acpi_regs.specs.declared.entry.Cell.{Cell}
use Rattle.acpi_regs.specs.declared.event.Event.{Event}
use Rattle.acpi_regs.specs.Event.{event_rank, same_event}
use Rattle.event_chip.proofs.Slots.{same_by_rank}
use Rattle.field_units.specs.Field.{RegionData, is_controller}
use Rattle.machine_desc.specs.declared.machine.ListedEvent.{ListedEvent}
use Rattle.machine_desc.specs.declared.machine.Query.{Query}
use Rattle.machine_desc.specs.Kept.{IsMachine, IsRegion}
use Rattle.machine_desc.specs.Machine.{MachineData}
use Rattle.machine_desc.proofs.EachItem.{each_all}
use Rattle.machine_core.specs.Actors.{handler_of, query_handler_of}
use Rattle.machine_core.specs.Cells.{is_controllers}
use Rattle.machine_core.specs.Events.{unlatched_of}
use Rattle.machine_history.specs.Acts.{is_memory, is_memory_cell}
use Rattle.machine_history.specs.Cells.{IsCell, cells_in}
use Rattle.machine_history.specs.Machine.{controller_place, query_in, script_in, space, times}

-- ---- the controller's region

behind : (region : RegionData) (regions : List RegionData) (n : ℕ) → slice_get (region ∷ regions) (1 + n) ≡ slice_get regions n
behind region regions n = let e : 1 + n ≡ suc n = omega arith in rw e refl

-- where some region is the controller's, one stands at the controller's place
at_place : (regions : List RegionData) (k : ℕ) → is_controllers (slice_get regions k) ≡ true → is_controllers (slice_get regions (controller_place regions)) ≡ true
at_place [] k is = cc
at_place (region ∷ regions) zero is = rw (is, is) refl
at_place (region ∷ regions) (suc k) is = by_kind (is_controller region.kind) refl (at_place regions k is)
  where
    by_kind : (b : Bool) → is_controller region.kind ≡ b → is_controllers (slice_get regions (controller_place regions)) ≡ true → is_controllers (slice_get (region ∷ regions) (cond b 0 (1 + controller_place regions))) ≡ true
    by_kind true kind rest = kind
    by_kind false kind rest = ap is_controllers (behind region regions (controller_place regions)) ∙ rest

found : (o : Option RegionData) → is_controllers o ≡ true → (r : RegionData) × (o ≡ Some r) × (is_controller r.kind ≡ true)
found None is = cc
found (Some r) is = (r, refl, is)

pub own_place : (m : MachineData) → IsMachine m → (k : ℕ) → is_controllers (slice_get m.regions k) ≡ true → controller_place m.regions ≡ k
own_place m ok k is =
    let here = found (slice_get m.regions k) is in
    let there = found (slice_get m.regions (controller_place m.regions)) (at_place m.regions k is) in
    ok.one_controller (controller_place m.regions) k there.0 here.0 there.1 here.1 (and_from _ _ there.2 here.2)

-- a cell of the controller's region is one of its space
pub own_cell : (m : MachineData) → IsMachine m → (c : Cell) → is_controllers (slice_get m.regions c.region) ≡ true → space m c.offset ≡ c
own_cell m ok c is = ap (λ r. cell_at r c.offset) (own_place m ok c.region is)
  where
    cell_at : ℕ → ℕ → Cell
    cell_at r o = record { region = r; offset = o }

pub own_offset : (m : MachineData) → IsMachine m → (c : Cell) → IsCell m c → is_controllers (slice_get m.regions c.region) ≡ true → c.offset < 256
own_offset m ok c within is =
    let here = found (slice_get m.regions c.region) is in
    let size = (each_all (IsRegion m) m.regions ok.regions c.region here.0 here.1).address here.2 in
    let below : c.offset < length (here.0).cells = subst (λ o. c.offset < cells_in o) here.1 within in
    omega arith

-- any other cell of the machine is in memory
pub plain_cell : (m : MachineData) (c : Cell) → IsCell m c → is_controllers (slice_get m.regions c.region) ≡ false → is_memory_cell m c ≡ true
plain_cell m c within is = at (slice_get m.regions c.region) within is
  where
    at : (o : Option RegionData) → c.offset < cells_in o → is_controllers o ≡ false → (is_memory o && nat_lt c.offset (cells_in o)) ≡ true
    at None within is = absurd (omega arith)
    at (Some r) within is = and_from _ _ (ap not is) (Rattle.std.proofs.lemmas.Bool.lt-ltb _ _ within)

-- a cell in memory is one of the machine
pub memory_cell : (m : MachineData) (c : Cell) → is_memory_cell m c ≡ true → IsCell m c
memory_cell m c is = ltb-true _ _ (and_parts _ _ is).1

-- ---- handlers

pub event_found : (events : List ListedEvent) (n : Event) (i : ℕ) (l : ListedEvent) → i < length events → l ≡ get_or events i l → same_event l.listed.event n ≡ true → script_in (drop i events) n ≡ script_in events n → handler_of (slice_get events i) ≡ Some (script_in events n)
event_found events n i l below at same rest =
    let here : script_in (drop i events) n ≡ l.script = rw (drop-cons events i l below, ← at, same) refl in
    rw (slice_get-get_or events i l below, ← at) (ap Some (sym here ∙ rest))

pub event_passed : (events : List ListedEvent) (n : Event) (i : ℕ) (l : ListedEvent) → i < length events → l ≡ get_or events i l → same_event l.listed.event n ≡ false → script_in (drop i events) n ≡ script_in events n → script_in (drop (i + 1) events) n ≡ script_in events n
event_passed events n i l below at same rest =
    let here : script_in (drop i events) n ≡ script_in (drop (suc i) events) n = rw (drop-cons events i l below, ← at, same) refl in
    let next : suc i ≡ i + 1 = omega arith in
    subst (λ k. script_in (drop k events) n ≡ script_in events n) next (sym here ∙ rest)

pub code_found : (queries : List Query) (q i : ℕ) (h : Query) → i < length queries → h ≡ get_or queries i h → (h.code == q) ≡ true → query_in (drop i queries) q ≡ query_in queries q → query_handler_of (slice_get queries i) ≡ Some (query_in queries q)
code_found queries q i h below at same rest =
    let here : query_in (drop i queries) q ≡ h.script = rw (drop-cons queries i h below, ← at, same) refl in
    rw (slice_get-get_or queries i h below, ← at) (ap Some (sym here ∙ rest))

pub code_passed : (queries : List Query) (q i : ℕ) (h : Query) → i < length queries → h ≡ get_or queries i h → (h.code == q) ≡ false → query_in (drop i queries) q ≡ query_in queries q → query_in (drop (i + 1) queries) q ≡ query_in queries q
code_passed queries q i h below at same rest =
    let here : query_in (drop i queries) q ≡ query_in (drop (suc i) queries) q = rw (drop-cons queries i h below, ← at, same) refl in
    let next : suc i ≡ i + 1 = omega arith in
    subst (λ k. query_in (drop k queries) q ≡ query_in queries q) next (sym here ∙ rest)

-- ---- pulses

-- a pulse more is counted at its event's place
counted : (counts : List ℕ) (r : ℕ) (x n : Event) → r ≡ event_rank x → r < length counts → unlatched_of (slice_set counts r (get_or counts r 0 + 1)) n ≡ cond (same_event x n) 1 0 + unlatched_of counts n
counted counts r x n at below = elim (cases_eq (event_rank n) r) [
  | inl same ↦ get_or-set_at counts r (event_rank n) _ 0 same below ∙ rw (same_by_rank x n, eq-eqb (event_rank x) (event_rank n) (sym at ∙ sym same), same) (omega arith)
  | inr apart ↦ get_or-set_other counts r (event_rank n) _ 0 apart ∙ rw (same_by_rank x n, ne_eqb (event_rank x) (event_rank n) (λ e. apart (sym e ∙ sym at))) (omega arith)
]

times_next : (n : Event) (pulses : List Event) (i : ℕ) (d : Event) → i < length pulses → times n (drop i pulses) ≡ cond (same_event (get_or pulses i d) n) 1 0 + times n (drop (i + 1) pulses)
times_next n pulses i d below =
    let next : suc i ≡ i + 1 = omega arith in
    rw (drop-cons pulses i d below) (ap (λ k. cond (same_event (get_or pulses i d) n) 1 0 + times n (drop k pulses)) next)

-- a place's count rises by at most one
pub rises : (counts : List ℕ) (r k : ℕ) → r < length counts → get_or (slice_set counts r (get_or counts r 0 + 1)) k 0 ≤ get_or counts k 0 + 1
rises counts r k below = elim (cases_eq k r) [
  | inl same ↦ rw (get_or-set_at counts r k (get_or counts r 0 + 1) 0 same below, same) (omega arith)
  | inr apart ↦ rw (get_or-set_other counts r k (get_or counts r 0 + 1) 0 apart) (omega arith)
]

pub pulse_step : (counts : List ℕ) (pulses : List Event) (i r total : ℕ) (d n : Event) → r < length counts → r ≡ event_rank (get_or pulses i d) → i < length pulses → unlatched_of counts n + times n (drop i pulses) ≡ total → unlatched_of (slice_set counts r (get_or counts r 0 + 1)) n + times n (drop (i + 1) pulses) ≡ total
pulse_step counts pulses i r total d n below at within before =
    let more = counted counts r (get_or pulses i d) n at below in
    let rest = times_next n pulses i d within in
    omega (arith, more, rest)

abbrev zero_of : ℕ
zero_of = 0

pub zeros : (n k : ℕ) → get_or (replicate n zero_of) k zero_of ≡ zero_of
zeros zero k = refl
zeros (suc n) zero = refl
zeros (suc n) (suc k) = zeros n k
