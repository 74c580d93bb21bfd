-- What the controller tells is what the past says, and it stays so at each entry.
use Rattle.std.proofs.Common.{ℕ, ◌<◌, ◌≤◌, ◌≡◌, ◌==◌, true, false, cond, List, [], length, slice_index, slice_get, Option, Some, None, unwrap_or, refl, sym, ◌∙◌, ap, subst}
use Rattle.acpi_regs.specs.declared.entry.Entry.{Entry}
use Rattle.acpi_regs.specs.declared.entry.Request.{Request}
use Rattle.acpi_regs.specs.declared.entry.Request.TheVariants as request
use Rattle.ec_chip.specs.Chip.{CanCalm, ChipData, after_step, next_effect, quiet}
use Rattle.ec_driver.specs.Driver.{Stands, chip_after_advance, effect_in, host_of}
use Rattle.ec_driver.specs.Wire.{carried, fill, wire}
use Rattle.machine_desc.specs.Machine.{MachineData}
use Rattle.machine_desc.specs.Weight.{weight_of}
use Rattle.machine_core.specs.declared.wire.Begun.{Begun}
use Rattle.machine_core.specs.Board.{opener_of}
use Rattle.machine_core.specs.Wire.{AreInStep, IsAt, IsBegun, IsSpace, IsWire, WireData, asks_code_in, asks_of, driver_at, effect_in_turn, finished_in, host_in, requester_of}
use Rattle.machine_core.proofs.WirePlaces.{chip_at, filled, next_at, tells}
use Rattle.machine_history.specs.Machine.{space}
use Rattle.machine_history.specs.Values.{answer, blank, next_in, taking_in, value}
use Rattle.machine_history.specs.Wire as history
use Rattle.machine_history.specs.Wire.{Open, asks_code, burst, codes, due, open_of}

-- ---- what is told

-- the byte that the chip would put out is the one that the past says
fill_is : (m : MachineData) (past : List Entry) (c : ChipData) (r : Request) → Rattle.machine_history.specs.Acts.is_addressed r ≡ true → ((x : ℕ) → x < 256 → slice_index c.cells x ≡ value m past (space m x)) → c.codes ≡ codes past → fill r c.cells c.codes ≡ answer m past r
fill_is m past c (request.Rd x) within cells queue = cells x (Rattle.std.proofs.lemmas.Bool.ltb-true x 256 within)
fill_is m past c (request.Wr x v) within cells queue = refl
fill_is m past c request.Be within cells queue = refl
fill_is m past c request.Bd within cells queue = refl
fill_is m past c request.Qr within cells queue = ap Rattle.ec_chip.specs.Parts.first_code queue

-- what the open transaction asks
abbrev pub asks_in : Option Open → Option Request
asks_in None = None
asks_in (Some o) = Some o.asks

pub record Told (m : MachineData) (past : List Entry) (w : WireData) (x : Option Begun) (o : Option Open) : Type 0 where
  pub requester : requester_of x ≡ opener_of o
  pub asks : asks_of x ≡ asks_in o
  pub code : asks_code_in x ≡ asks_code o
  pub host : host_in x w.chip ≡ host_of (next_in m past o)
  pub effect : effect_in_turn x (next_effect w.chip) ≡ effect_in (next_in m past o)
  pub taken : finished_in x w.chip ≡ taking_in m past o
  pub stands : AreInStep x w.chip

pub at_place : {X : Type 0} (f : Rattle.ec_driver.specs.Driver.TransactionData → ChipData → X) (d e : Rattle.ec_driver.specs.Driver.TransactionData) (c k : ChipData) → d ≡ e → c ≡ k → f d c ≡ f e k
at_place f d e c k same alike = rw (same, alike) refl

-- the chip is where its moves left it
pub chip_is : (b : Begun) (c : ChipData) (o : Open) (at : IsAt b c o) → c ≡ chip_at c o.asks o.made at.byte
chip_is b c o at = ap (λ e. record c { exchange = e }) at.exchange_is

-- the blank that the chip has is the one that the past has
filled_is : (m : MachineData) (past : List Entry) (w : WireData) (b : Begun) (o : Open) → IsWire m past w → (at : IsAt b w.chip o) → filled w.chip o.asks o.made at.byte ≡ blank m past o
filled_is m past w b o is at =
    ap (λ x. unwrap_or x (fill o.asks w.chip.cells w.chip.codes)) (sym at.out_is) ∙ ap (λ x. unwrap_or o.out x) (fill_is m past w.chip o.asks at.address is.cells_are is.codes_are)

pub next_is : (m : MachineData) (past : List Entry) (w : WireData) (b : Begun) (o : Open) → IsWire m past w → (at : IsAt b w.chip o) → next_at w.chip o.asks o.made at.byte ≡ next_in m past (Some o)
next_is m past w b o is at = ap (λ v. slice_get (wire o.asks v) o.made) (filled_is m past w b o is at)

told_by : (m : MachineData) (past : List Entry) (w : WireData) (x : Option Begun) (o : Option Open) → IsWire m past w → IsBegun x o w.chip → Told m past w x o
told_by m past w None None is begun = record { requester = refl; asks = refl; code = refl; host = refl; effect = refl; taken = refl; stands = tt }
told_by m past w (Some b) None is begun = absurd begun
told_by m past w None (Some o) is begun = absurd begun
told_by m past w (Some b) (Some o) is at =
    let t = tells w.chip o.asks o.made at.byte at.within in
    let chip = chip_is b w.chip o at in
    let next = next_is m past w b o is at in
    let blank_is = filled_is m past w b o is at in
    record {
      requester = ap Some at.by_same;
      asks = ap Some at.asks_same;
      code = ap history.is_query at.asks_same;
      host = at_place Rattle.ec_driver.specs.Driver.next_host _ _ _ _ at.driver_is chip ∙ (t.host ∙ ap host_of next);
      effect = ap next_effect chip ∙ (t.effect ∙ ap effect_in next);
      taken = at_place Rattle.ec_driver.specs.Driver.finished _ _ _ _ at.driver_is chip ∙ (t.taken ∙ ap (λ v. cond (o.made == length (wire o.asks 0)) (Some (carried o.asks v)) None) blank_is);
      stands = rw at.driver_is (subst (Stands (driver_at o.asks o.made at.byte)) (sym chip) t.stands);
    }

-- each reader gives what the past says
pub told : (m : MachineData) (past : List Entry) (w : WireData) → IsWire m past w → Told m past w w.begun (open_of past)
told m past w is = told_by m past w w.begun (open_of past) is is.begun_is

-- ---- at the start

pub wire_first : (m : MachineData) (cells : List ℕ) (room : ℕ) → IsSpace m cells → weight_of m ≤ room → IsWire m [] (record { chip = Rattle.ec_chip.specs.Chip.fresh cells room; begun = None; due = false })
wire_first m cells room space heavy = record {
  size = space.size;
  room_left = heavy;
  cells_are = space.bytes;
  codes_are = refl;
  burst_is = refl;
  due_is = refl;
  begun_is = refl;
}
