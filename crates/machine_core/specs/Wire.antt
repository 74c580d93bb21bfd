-- The controller and the transaction that is open on it, as the board keeps them: a chip, and beside it how far the
-- host has come.
use Rattle.std.specs.Prelude.{ℕ, zero, suc, ◌≡◌, ◌≤◌, ◌<◌, ◌≢◌, Bool, true, false, List, length, slice_index, take, Option, Some, None}
use Rattle.std.specs.List.{find}
use Rattle.acpi_regs.specs.declared.actor.Actor.{Actor}
use Rattle.acpi_regs.specs.declared.entry.Deed.{Deed}
use Rattle.acpi_regs.specs.declared.entry.Deed.TheVariants as deed
use Rattle.acpi_regs.specs.declared.entry.Effect.{Effect}
use Rattle.acpi_regs.specs.declared.entry.Effect.TheVariants as effect
use Rattle.acpi_regs.specs.declared.entry.Entry.{Entry}
use Rattle.acpi_regs.specs.declared.entry.HostMove.{HostMove}
use Rattle.acpi_regs.specs.declared.entry.Request.{Request}
use Rattle.acpi_regs.specs.declared.entry.Request.TheVariants as request
use Rattle.ec_chip.specs.Chip.{CanCalm, ChipData, after_calm, after_push, after_step, quiet}
use Rattle.ec_driver.specs.Driver.{Stands, TransactionData, after_advance, chip_after_advance, finished, next_host, opened}
use Rattle.ec_driver.specs.Wire.{exchange_from, wire}
use Rattle.field_units.specs.Field.{RegionData, is_controller}
use Rattle.machine_desc.specs.Machine.{MachineData}
use Rattle.machine_desc.specs.Weight.{weight_of}
use Rattle.machine_core.specs.declared.wire.Begun.{Begun}
use Rattle.machine_history.specs.Acts.{is_addressed}
use Rattle.machine_history.specs.Cells.{first_byte}
use Rattle.machine_history.specs.Machine.{space}
use Rattle.machine_history.specs.Values.{value}
use Rattle.machine_history.specs.Wire.{Open, burst, codes, due, due_after, is_query, open_of}

pub record WireData : Type 0 where
  pub chip : ChipData
  pub begun : Option Begun
  pub due : Bool

-- ---- at the start

-- the controller's region
abbrev pub is_controllers : RegionData → Bool
is_controllers region = is_controller region.kind

abbrev pub controller_region : List RegionData → Option RegionData
controller_region regions = find is_controllers regions

-- the bytes of its 256 cells at the start, or zeros where the machine has none
pub record IsSpace (m : MachineData) (cells : List ℕ) : Type 0 where
  pub size : length cells ≡ 256
  pub bytes : (x : ℕ) → x < 256 → slice_index cells x ≡ first_byte m (space m x)

-- ---- what an entry does to it

abbrev pub begun_by : Actor → Request → Begun
begun_by a r = record { by = a; asks = r; driver = opened r }

abbrev pub chip_advanced : Option Begun → ChipData → ChipData
chip_advanced None c = c
chip_advanced (Some b) c = chip_after_advance b.driver c

abbrev pub advanced : Option Begun → ChipData → Option Begun
advanced None c = None
advanced (Some b) c = Some record b { driver = after_advance b.driver c }

abbrev pub chip_after : Deed → WireData → ChipData
chip_after (deed.Step h) w = chip_advanced w.begun w.chip
chip_after (deed.Ctl effect.Calm) w = after_calm w.chip
chip_after (deed.Ctl e) w = after_step w.chip
chip_after (deed.Push q) w = after_push q w.chip
chip_after _ w = w.chip

abbrev pub begun_after : Actor → Deed → WireData → Option Begun
begun_after a (deed.Begin r) w = Some (begun_by a r)
begun_after a (deed.Take v) w = None
begun_after a (deed.Step h) w = advanced w.begun w.chip
begun_after a _ w = w.begun

abbrev pub wire_after : MachineData → Actor → Deed → WireData → WireData
wire_after m a d w = record { chip = chip_after d w; begun = begun_after a d w; due = due_after m a d w.due }

-- the driver's calls stand on what is on its way
abbrev pub AreInStep : Option Begun → ChipData → Type 0
AreInStep None c = Unit {0}
AreInStep (Some b) c = Stands b.driver c

abbrev pub InStep : WireData → Type 0
InStep w = AreInStep w.begun w.chip

-- what an entry asks of the chip
abbrev pub Takes : Deed → WireData → Type 0
Takes (deed.Step h) w = InStep w
Takes (deed.Ctl effect.Calm) w = CanCalm w.chip
Takes (deed.Push q) w = (q ≢ 0) × (length w.chip.codes < w.chip.room)
Takes _ w = Unit {0}

-- ---- what it tells

abbrev pub requester_of : Option Begun → Option Actor
requester_of None = None
requester_of (Some b) = Some b.by

abbrev pub asks_of : Option Begun → Option Request
asks_of None = None
asks_of (Some b) = Some b.asks

abbrev pub host_in : Option Begun → ChipData → Option HostMove
host_in None c = None
host_in (Some b) c = next_host b.driver c

abbrev pub effect_in_turn : Option Begun → Option Effect → Option Effect
effect_in_turn None e = None
effect_in_turn (Some b) e = e

abbrev pub finished_in : Option Begun → ChipData → Option (Option ℕ)
finished_in None c = None
finished_in (Some b) c = finished b.driver c

abbrev pub asks_code_in : Option Begun → Bool
asks_code_in None = false
asks_code_in (Some b) = is_query b.asks

-- ---- what it stands for

-- at a place in a request n moves are made, and b is the byte that the controller put out
abbrev pub made_at : ℕ → ℕ
made_at zero = 0
made_at (suc zero) = 1
made_at (suc (suc zero)) = 1
made_at (suc (suc (suc zero))) = 3
made_at (suc (suc (suc (suc zero)))) = 3
made_at (suc (suc (suc (suc (suc n))))) = 5

abbrev pub got_at : Request → ℕ → ℕ → ℕ
got_at (request.Rd x) (suc (suc (suc (suc (suc n))))) b = b
got_at request.Be (suc (suc (suc n))) b = 144
got_at request.Qr (suc (suc (suc n))) b = b
got_at r n b = 0

abbrev pub out_at : Request → ℕ → ℕ → Option ℕ
out_at (request.Rd x) (suc (suc (suc (suc n)))) b = Some b
out_at request.Be (suc (suc n)) b = Some 144
out_at request.Qr (suc (suc n)) b = Some b
out_at r n b = None

abbrev pub driver_at : Request → ℕ → ℕ → TransactionData
driver_at r n b = record { asks = r; made = made_at n; got = got_at r n b }

-- the driver and the chip are as the moves that were made left them
pub record IsAt (b : Begun) (c : ChipData) (o : Open) : Type 0 where
  pub byte : ℕ
  pub within : o.made ≤ length (wire o.asks 0)
  pub by_same : b.by ≡ o.by
  pub asks_same : b.asks ≡ o.asks
  pub driver_is : b.driver ≡ driver_at o.asks o.made byte
  pub exchange_is : c.exchange ≡ exchange_from (take o.made (wire o.asks byte)) quiet
  pub out_is : o.out ≡ out_at o.asks o.made byte
  pub address : is_addressed o.asks ≡ true

-- where none is open nothing is on its way
abbrev pub IsBegun : Option Begun → Option Open → ChipData → Type 0
IsBegun None None c = c.exchange ≡ quiet
IsBegun (Some b) (Some o) c = IsAt b c o
IsBegun _ _ c = ⊥

-- it is what the past says
pub record IsWire (m : MachineData) (past : List Entry) (w : WireData) : Type 0 where
  pub size : length w.chip.cells ≡ 256
  pub room_left : weight_of m ≤ w.chip.room
  pub cells_are : (x : ℕ) → x < 256 → slice_index w.chip.cells x ≡ value m past (space m x)
  pub codes_are : w.chip.codes ≡ codes past
  pub burst_is : w.chip.burst ≡ burst past
  pub due_is : w.due ≡ due m past
  pub begun_is : IsBegun w.begun (open_of past) w.chip
