-- What the row of an allowed entry, and the rules of the machine, give the controller.
use Rattle.std.proofs.Common.{ℕ, ◌<◌, ◌≡◌, Bool, true, false, cond, nat_lt, List, [], ◌∷◌, length, Option, Some, None, is_none, refl, ◌∙◌, ap, subst}
use Rattle.std.proofs.lemmas.Bool.{and_parts, eqb-true}
use Rattle.acpi_regs.specs.declared.actor.Actor.{Actor}
use Rattle.acpi_regs.specs.declared.entry.Cell.{Cell}
use Rattle.acpi_regs.specs.declared.entry.Deed.{Deed}
use Rattle.acpi_regs.specs.declared.entry.Deed.TheVariants as deed
use Rattle.acpi_regs.specs.declared.entry.Effect.TheVariants as effect
use Rattle.acpi_regs.specs.declared.entry.Entry.{Entry}
use Rattle.acpi_regs.specs.declared.entry.Request.{Request}
use Rattle.acpi_regs.specs.declared.entry.Request.TheVariants as request
use Rattle.handler_script.specs.declared.act.Act.{Act}
use Rattle.handler_script.specs.declared.act.Act.TheVariants as act
use Rattle.machine_desc.specs.Kept.{IsMachine}
use Rattle.machine_desc.specs.Machine.{MachineData}
use Rattle.machine_core.specs.Wire.{WireData}
use Rattle.machine_core.proofs.WireSteps.{WireNeeds}
use Rattle.machine_history.specs.declared.rule.LogRule.{LogRule}
use Rattle.machine_history.specs.Acts.{fits, is_addressed, is_memory_cell}
use Rattle.machine_history.specs.Legal.{Allowed, asked_by, conditions, first_failing, row, same_request}
use Rattle.machine_history.specs.Scripts.{next_of}
use Rattle.machine_history.specs.Values.{same_cell}
use Rattle.machine_history.specs.Wire.{open_of}
use Rattle.machine_history.proofs.Fitting.{SomeFits, next_fits}

abbrev pub AllHold : List (LogRule × Bool) → Type 0
AllHold [] = Unit {0}
AllHold (condition ∷ conditions) = (condition.1 ≡ true) × AllHold conditions

pub first_failing-none : (conditions : List (LogRule × Bool)) → first_failing conditions ≡ None → AllHold conditions
first_failing-none [] none = tt
first_failing-none (condition ∷ conditions) none = both condition.1 none (λ rest. first_failing-none conditions rest)
  where
    both : (b : Bool) → cond b (first_failing conditions) (Some condition.0) ≡ None → (first_failing conditions ≡ None → AllHold conditions) → (b ≡ true) × AllHold conditions
    both true none rest = (refl, rest none)
    both false none rest = cc

-- the conditions of the row of an allowed entry
row_holds : (m : MachineData) (past : List Entry) (a : Actor) (d : Deed) → Allowed m past (record { actor = a; deed = d }) → AllHold (row m past a d)
row_holds m past a d allowed = (first_failing-none (conditions m past a d) allowed).1.1

nothing : {X : Type 0} (x : Option X) → is_none x ≡ true → x ≡ None
nothing None none = refl
nothing (Some x) none = cc

same_cells : (c d : Cell) → same_cell c d ≡ true → c ≡ d
same_cells c d same =
    let parts = and_parts _ _ same in
    ap (λ region. cell_at region c.offset) (eqb-true _ _ parts.0) ∙ ap (λ offset. cell_at d.region offset) (eqb-true _ _ parts.1)
  where
    cell_at : ℕ → ℕ → Cell
    cell_at region offset = record { region = region; offset = offset }

addressed : (s r : Request) → same_request s r ≡ true → is_addressed s ≡ true → is_addressed r ≡ true
addressed (request.Rd x) (request.Rd y) same fits = subst (λ n. nat_lt n 256 ≡ true) (eqb-true x y same) fits
addressed (request.Wr x v) (request.Wr y u) same fits = subst (λ n. nat_lt n 256 ≡ true) (eqb-true x y (and_parts _ _ same).0) fits
addressed s request.Be same fits = refl
addressed s request.Bd same fits = refl
addressed s request.Qr same fits = refl
addressed (request.Wr x v) (request.Rd y) same fits = cc
addressed request.Be (request.Rd y) same fits = cc
addressed request.Bd (request.Rd y) same fits = cc
addressed request.Qr (request.Rd y) same fits = cc
addressed (request.Rd x) (request.Wr y u) same fits = cc
addressed request.Be (request.Wr y u) same fits = cc
addressed request.Bd (request.Wr y u) same fits = cc
addressed request.Qr (request.Wr y u) same fits = cc

-- ---- what the next act is

asks_addressed : (m : MachineData) (next : Option Act) (r : Request) → SomeFits m next → asked_by next (deed.Begin r) ≡ true → is_addressed r ≡ true
asks_addressed m None r fitting next_is = cc
asks_addressed m (Some act.Lock) r fitting next_is = cc
asks_addressed m (Some act.Unlock) r fitting next_is = cc
asks_addressed m (Some (act.Read c1)) r fitting next_is = cc
asks_addressed m (Some (act.Write c1 v1)) r fitting next_is = cc
asks_addressed m (Some (act.Ask s)) r fitting next_is = addressed s r next_is fitting.1
asks_addressed m (Some (act.Notify x y)) r fitting next_is = cc
asks_addressed m (Some (act.Drop n1)) r fitting next_is = cc
asks_addressed m (Some (act.Up n1)) r fitting next_is = cc
asks_addressed m (Some (act.Down n1)) r fitting next_is = cc
asks_addressed m (Some (act.Raise n1)) r fitting next_is = cc
asks_addressed m (Some (act.Assert n1)) r fitting next_is = cc
asks_addressed m (Some (act.Push q1)) r fitting next_is = cc

pushes_code : (m : MachineData) (next : Option Act) (q : ℕ) → SomeFits m next → asked_by next (deed.Push q) ≡ true → nat_lt 0 q ≡ true
pushes_code m None q fitting next_is = cc
pushes_code m (Some act.Lock) q fitting next_is = cc
pushes_code m (Some act.Unlock) q fitting next_is = cc
pushes_code m (Some (act.Read c1)) q fitting next_is = cc
pushes_code m (Some (act.Write c1 v1)) q fitting next_is = cc
pushes_code m (Some (act.Ask r1)) q fitting next_is = cc
pushes_code m (Some (act.Notify x y)) q fitting next_is = cc
pushes_code m (Some (act.Drop n1)) q fitting next_is = cc
pushes_code m (Some (act.Up n1)) q fitting next_is = cc
pushes_code m (Some (act.Down n1)) q fitting next_is = cc
pushes_code m (Some (act.Raise n1)) q fitting next_is = cc
pushes_code m (Some (act.Assert n1)) q fitting next_is = cc
pushes_code m (Some (act.Push p)) q fitting next_is = subst (λ n. nat_lt 0 n ≡ true) (eqb-true p q next_is) fitting.1

writes_memory : (m : MachineData) (next : Option Act) (c : Cell) (v : ℕ) → SomeFits m next → asked_by next (deed.Write c v) ≡ true → is_memory_cell m c ≡ true
writes_memory m None c v fitting next_is = cc
writes_memory m (Some act.Lock) c v fitting next_is = cc
writes_memory m (Some act.Unlock) c v fitting next_is = cc
writes_memory m (Some (act.Read c1)) c v fitting next_is = cc
writes_memory m (Some (act.Write d u)) c v fitting next_is = subst (λ x. is_memory_cell m x ≡ true) (same_cells d c (and_parts _ _ next_is).0) fitting.1
writes_memory m (Some (act.Ask r1)) c v fitting next_is = cc
writes_memory m (Some (act.Notify x y)) c v fitting next_is = cc
writes_memory m (Some (act.Drop n1)) c v fitting next_is = cc
writes_memory m (Some (act.Up n1)) c v fitting next_is = cc
writes_memory m (Some (act.Down n1)) c v fitting next_is = cc
writes_memory m (Some (act.Raise n1)) c v fitting next_is = cc
writes_memory m (Some (act.Assert n1)) c v fitting next_is = cc
writes_memory m (Some (act.Push q1)) c v fitting next_is = cc

-- the cell that is read next is one of memory
pub reads_memory : (m : MachineData) (next : Option Act) (c : Cell) (v : ℕ) → SomeFits m next → asked_by next (deed.Read c v) ≡ true → is_memory_cell m c ≡ true
reads_memory m None c v fitting next_is = cc
reads_memory m (Some act.Lock) c v fitting next_is = cc
reads_memory m (Some act.Unlock) c v fitting next_is = cc
reads_memory m (Some (act.Read d)) c v fitting next_is = subst (λ x. is_memory_cell m x ≡ true) (same_cells d c next_is) fitting.1
reads_memory m (Some (act.Write c1 v1)) c v fitting next_is = cc
reads_memory m (Some (act.Ask r1)) c v fitting next_is = cc
reads_memory m (Some (act.Notify x y)) c v fitting next_is = cc
reads_memory m (Some (act.Drop n1)) c v fitting next_is = cc
reads_memory m (Some (act.Up n1)) c v fitting next_is = cc
reads_memory m (Some (act.Down n1)) c v fitting next_is = cc
reads_memory m (Some (act.Raise n1)) c v fitting next_is = cc
reads_memory m (Some (act.Assert n1)) c v fitting next_is = cc
reads_memory m (Some (act.Push q1)) c v fitting next_is = cc

pub wire_needs : (m : MachineData) → IsMachine m → (past : List Entry) (a : Actor) (d : Deed) (w : WireData) → Allowed m past (record { actor = a; deed = d }) → length past < w.chip.room → WireNeeds m past d w
wire_needs m ok past a (deed.Begin r) w allowed room =
    let row = row_holds m past a (deed.Begin r) allowed in
    (nothing (open_of past) row.1.0, asks_addressed m (next_of m past a) r (next_fits m ok past a) row.0)
wire_needs m ok past a (deed.Take v) w allowed room = (row_holds m past a (deed.Take v) allowed).1.0
wire_needs m ok past a (deed.Step h) w allowed room = (row_holds m past a (deed.Step h) allowed).1.0
wire_needs m ok past a (deed.Ctl effect.Calm) w allowed room =
    let row = row_holds m past a (deed.Ctl effect.Calm) allowed in
    let outer = and_parts _ _ row.0 in
    let inner = and_parts _ _ outer.0 in
    (inner.1, nothing (open_of past) outer.1)
wire_needs m ok past a (deed.Ctl effect.Taken) w allowed room = (row_holds m past a (deed.Ctl effect.Taken) allowed).1.0
wire_needs m ok past a (deed.Ctl (effect.Out v)) w allowed room = (row_holds m past a (deed.Ctl (effect.Out v)) allowed).1.0
wire_needs m ok past a (deed.Ctl effect.Put) w allowed room = (row_holds m past a (deed.Ctl effect.Put) allowed).1.0
wire_needs m ok past a (deed.Push q) w allowed room = (pushes_code m (next_of m past a) q (next_fits m ok past a) (row_holds m past a (deed.Push q) allowed).0, room)
wire_needs m ok past a (deed.Write c v) w allowed room = writes_memory m (next_of m past a) c v (next_fits m ok past a) (row_holds m past a (deed.Write c v) allowed).0
wire_needs m ok past a deed.Seek w allowed room = tt
wire_needs m ok past a deed.Busy w allowed room = tt
wire_needs m ok past a deed.Woken w allowed room = tt
wire_needs m ok past a deed.Own w allowed room = tt
wire_needs m ok past a deed.Disown w allowed room = tt
wire_needs m ok past a (deed.Leave s) w allowed room = tt
wire_needs m ok past a (deed.Read c v) w allowed room = tt
wire_needs m ok past a (deed.Raise n) w allowed room = tt
wire_needs m ok past a (deed.Latch n) w allowed room = tt
wire_needs m ok past a (deed.Assert n) w allowed room = tt
wire_needs m ok past a (deed.Drop n) w allowed room = tt
wire_needs m ok past a (deed.Claim n) w allowed room = tt
wire_needs m ok past a (deed.Start j) w allowed room = tt
wire_needs m ok past a (deed.Finish j) w allowed room = tt
wire_needs m ok past a (deed.Notify x y) w allowed room = tt
wire_needs m ok past a (deed.Up n) w allowed room = tt
wire_needs m ok past a (deed.Down n) w allowed room = tt
