-- Each place in a request: what the driver and the chip tell there, and what a turn makes of it.
use Rattle.std.proofs.Common.{ℕ, zero, suc, ◌+◌, ◌≤◌, ◌≡◌, ◌==◌, cond, length, take, slice_index, slice_get, Option, Some, None, unwrap_or, refl, subst, arith}
use Rattle.acpi_regs.specs.declared.entry.Effect.{Effect}
use Rattle.acpi_regs.specs.declared.entry.Effect.TheVariants as effect
use Rattle.acpi_regs.specs.declared.entry.HostMove.{HostMove}
use Rattle.acpi_regs.specs.declared.entry.Request.{Request}
use Rattle.acpi_regs.specs.declared.entry.Request.TheVariants as request
use Rattle.ec_chip.specs.Chip.{ChipData, after_step, next_effect, quiet}
use Rattle.ec_driver.specs.declared.wire.Move.{Move}
use Rattle.ec_driver.specs.declared.wire.Move.TheVariants as move
use Rattle.ec_driver.specs.Driver.{Stands, after_advance, chip_after_advance, effect_in, finished, host_of, next_host}
use Rattle.ec_driver.specs.Wire.{burst_by, carried, cells_by, codes_by, exchange_from, fill, wire}
use Rattle.machine_core.specs.Wire.{driver_at, out_at}

-- the chip where n moves are made
abbrev pub chip_at : ChipData → Request → ℕ → ℕ → ChipData
chip_at c r n b = record c { exchange = exchange_from (take n (wire r b)) quiet }

-- the blank: the byte that was put out, else the one that would be
abbrev pub filled : ChipData → Request → ℕ → ℕ → ℕ
filled c r n b = unwrap_or (out_at r n b) (fill r c.cells c.codes)

abbrev pub next_at : ChipData → Request → ℕ → ℕ → Option Move
next_at c r n b = slice_get (wire r (filled c r n b)) n

-- what is told there
pub record Tells (c : ChipData) (r : Request) (n b : ℕ) : Type 0 where
  pub host : next_host (driver_at r n b) (chip_at c r n b) ≡ host_of (next_at c r n b)
  pub effect : next_effect (chip_at c r n b) ≡ effect_in (next_at c r n b)
  pub taken : finished (driver_at r n b) (chip_at c r n b) ≡ cond (n == length (wire r 0)) (Some (carried r (filled c r n b))) None
  pub stands : Stands (driver_at r n b) (chip_at c r n b)

pub tells : (c : ChipData) (r : Request) (n b : ℕ) → n ≤ length (wire r 0) → Tells c r n b
tells c (request.Rd x) zero b within = record { host = refl; effect = refl; taken = refl; stands = refl }
tells c (request.Rd x) (suc zero) b within = record { host = refl; effect = refl; taken = refl; stands = refl }
tells c (request.Rd x) (suc (suc zero)) b within = record { host = refl; effect = refl; taken = refl; stands = refl }
tells c (request.Rd x) (suc (suc (suc zero))) b within = record { host = refl; effect = refl; taken = refl; stands = refl }
tells c (request.Rd x) (suc (suc (suc (suc zero)))) b within = record { host = refl; effect = refl; taken = refl; stands = refl }
tells c (request.Rd x) (suc (suc (suc (suc (suc zero))))) b within = record { host = refl; effect = refl; taken = refl; stands = refl }
tells c (request.Rd x) (suc (suc (suc (suc (suc (suc n)))))) b within = absurd (omega arith)
tells c (request.Wr x w) zero b within = record { host = refl; effect = refl; taken = refl; stands = refl }
tells c (request.Wr x w) (suc zero) b within = record { host = refl; effect = refl; taken = refl; stands = refl }
tells c (request.Wr x w) (suc (suc zero)) b within = record { host = refl; effect = refl; taken = refl; stands = refl }
tells c (request.Wr x w) (suc (suc (suc zero))) b within = record { host = refl; effect = refl; taken = refl; stands = refl }
tells c (request.Wr x w) (suc (suc (suc (suc zero)))) b within = record { host = refl; effect = refl; taken = refl; stands = refl }
tells c (request.Wr x w) (suc (suc (suc (suc (suc zero))))) b within = record { host = refl; effect = refl; taken = refl; stands = refl }
tells c (request.Wr x w) (suc (suc (suc (suc (suc (suc zero)))))) b within = record { host = refl; effect = refl; taken = refl; stands = refl }
tells c (request.Wr x w) (suc (suc (suc (suc (suc (suc (suc n))))))) b within = absurd (omega arith)
tells c request.Be zero b within = record { host = refl; effect = refl; taken = refl; stands = refl }
tells c request.Be (suc zero) b within = record { host = refl; effect = refl; taken = refl; stands = refl }
tells c request.Be (suc (suc zero)) b within = record { host = refl; effect = refl; taken = refl; stands = refl }
tells c request.Be (suc (suc (suc zero))) b within = record { host = refl; effect = refl; taken = refl; stands = refl }
tells c request.Be (suc (suc (suc (suc n)))) b within = absurd (omega arith)
tells c request.Bd zero b within = record { host = refl; effect = refl; taken = refl; stands = refl }
tells c request.Bd (suc zero) b within = record { host = refl; effect = refl; taken = refl; stands = refl }
tells c request.Bd (suc (suc zero)) b within = record { host = refl; effect = refl; taken = refl; stands = refl }
tells c request.Bd (suc (suc (suc n))) b within = absurd (omega arith)
tells c request.Qr zero b within = record { host = refl; effect = refl; taken = refl; stands = refl }
tells c request.Qr (suc zero) b within = record { host = refl; effect = refl; taken = refl; stands = refl }
tells c request.Qr (suc (suc zero)) b within = record { host = refl; effect = refl; taken = refl; stands = refl }
tells c request.Qr (suc (suc (suc zero))) b within = record { host = refl; effect = refl; taken = refl; stands = refl }
tells c request.Qr (suc (suc (suc (suc n)))) b within = absurd (omega arith)

-- a move of the host's
pub record HostMoves (c : ChipData) (r : Request) (n b : ℕ) : Type 0 where
  pub driver : after_advance (driver_at r n b) (chip_at c r n b) ≡ driver_at r (n + 1) b
  pub exchange : (chip_after_advance (driver_at r n b) (chip_at c r n b)).exchange ≡ exchange_from (take (n + 1) (wire r b)) quiet
  pub cells : (chip_after_advance (driver_at r n b) (chip_at c r n b)).cells ≡ c.cells
  pub codes : (chip_after_advance (driver_at r n b) (chip_at c r n b)).codes ≡ c.codes
  pub room : (chip_after_advance (driver_at r n b) (chip_at c r n b)).room ≡ c.room
  pub burst : (chip_after_advance (driver_at r n b) (chip_at c r n b)).burst ≡ c.burst
  pub out : out_at r (n + 1) b ≡ out_at r n b
  pub within : n + 1 ≤ length (wire r 0)

pub host_moves : (c : ChipData) (r : Request) (n b : ℕ) (h : HostMove) → n ≤ length (wire r 0) → host_of (next_at c r n b) ≡ Some h → HostMoves c r n b
host_moves c (request.Rd x) zero b h within next = record { driver = refl; exchange = refl; cells = refl; codes = refl; room = refl; burst = refl; out = refl; within = omega arith }
host_moves c (request.Rd x) (suc zero) b h within next = cc
host_moves c (request.Rd x) (suc (suc zero)) b h within next = record { driver = refl; exchange = refl; cells = refl; codes = refl; room = refl; burst = refl; out = refl; within = omega arith }
host_moves c (request.Rd x) (suc (suc (suc zero))) b h within next = cc
host_moves c (request.Rd x) (suc (suc (suc (suc zero)))) b h within next = record { driver = refl; exchange = refl; cells = refl; codes = refl; room = refl; burst = refl; out = refl; within = omega arith }
host_moves c (request.Rd x) (suc (suc (suc (suc (suc zero))))) b h within next = cc
host_moves c (request.Rd x) (suc (suc (suc (suc (suc (suc n)))))) b h within next = absurd (omega arith)
host_moves c (request.Wr x w) zero b h within next = record { driver = refl; exchange = refl; cells = refl; codes = refl; room = refl; burst = refl; out = refl; within = omega arith }
host_moves c (request.Wr x w) (suc zero) b h within next = cc
host_moves c (request.Wr x w) (suc (suc zero)) b h within next = record { driver = refl; exchange = refl; cells = refl; codes = refl; room = refl; burst = refl; out = refl; within = omega arith }
host_moves c (request.Wr x w) (suc (suc (suc zero))) b h within next = cc
host_moves c (request.Wr x w) (suc (suc (suc (suc zero)))) b h within next = record { driver = refl; exchange = refl; cells = refl; codes = refl; room = refl; burst = refl; out = refl; within = omega arith }
host_moves c (request.Wr x w) (suc (suc (suc (suc (suc zero))))) b h within next = cc
host_moves c (request.Wr x w) (suc (suc (suc (suc (suc (suc zero)))))) b h within next = cc
host_moves c (request.Wr x w) (suc (suc (suc (suc (suc (suc (suc n))))))) b h within next = absurd (omega arith)
host_moves c request.Be zero b h within next = record { driver = refl; exchange = refl; cells = refl; codes = refl; room = refl; burst = refl; out = refl; within = omega arith }
host_moves c request.Be (suc zero) b h within next = cc
host_moves c request.Be (suc (suc zero)) b h within next = record { driver = refl; exchange = refl; cells = refl; codes = refl; room = refl; burst = refl; out = refl; within = omega arith }
host_moves c request.Be (suc (suc (suc zero))) b h within next = cc
host_moves c request.Be (suc (suc (suc (suc n)))) b h within next = absurd (omega arith)
host_moves c request.Bd zero b h within next = record { driver = refl; exchange = refl; cells = refl; codes = refl; room = refl; burst = refl; out = refl; within = omega arith }
host_moves c request.Bd (suc zero) b h within next = cc
host_moves c request.Bd (suc (suc zero)) b h within next = cc
host_moves c request.Bd (suc (suc (suc n))) b h within next = absurd (omega arith)
host_moves c request.Qr zero b h within next = record { driver = refl; exchange = refl; cells = refl; codes = refl; room = refl; burst = refl; out = refl; within = omega arith }
host_moves c request.Qr (suc zero) b h within next = cc
host_moves c request.Qr (suc (suc zero)) b h within next = record { driver = refl; exchange = refl; cells = refl; codes = refl; room = refl; burst = refl; out = refl; within = omega arith }
host_moves c request.Qr (suc (suc (suc zero))) b h within next = cc
host_moves c request.Qr (suc (suc (suc (suc n)))) b h within next = absurd (omega arith)

-- what an effect puts out
abbrev pub out_by : Effect → Option ℕ → Option ℕ
out_by (effect.Out v) old = Some v
out_by _ old = old

-- a move of the controller's; the byte is the one that it puts out, if it does
pub record CtlMoves (c : ChipData) (r : Request) (n b : ℕ) (e : Effect) : Type 0 where
  pub byte : ℕ
  pub driver : driver_at r n b ≡ driver_at r (n + 1) byte
  pub exchange : (after_step (chip_at c r n b)).exchange ≡ exchange_from (take (n + 1) (wire r byte)) quiet
  pub cells : (after_step (chip_at c r n b)).cells ≡ cells_by r (move.Ctl e) c.cells
  pub codes : (after_step (chip_at c r n b)).codes ≡ codes_by r (move.Ctl e) c.codes
  pub room : (after_step (chip_at c r n b)).room ≡ c.room
  pub burst : (after_step (chip_at c r n b)).burst ≡ burst_by r (move.Ctl e) c.burst
  pub out : out_by e (out_at r n b) ≡ out_at r (n + 1) byte
  pub within : n + 1 ≤ length (wire r 0)

same : {X : Type 0} (x y : X) → Some x ≡ Some y → x ≡ y
same x y e = cc

pub ctl_moves : (c : ChipData) (r : Request) (n b : ℕ) (e : Effect) → n ≤ length (wire r 0) → effect_in (next_at c r n b) ≡ Some e → CtlMoves c r n b e
ctl_moves c (request.Rd x) zero b e within next = cc
ctl_moves c (request.Rd x) (suc zero) b e within next = subst (CtlMoves c (request.Rd x) 1 b) (same _ e next) record { byte = b; driver = refl; exchange = refl; cells = refl; codes = refl; room = refl; burst = refl; out = refl; within = omega arith }
ctl_moves c (request.Rd x) (suc (suc zero)) b e within next = cc
ctl_moves c (request.Rd x) (suc (suc (suc zero))) b e within next = subst (CtlMoves c (request.Rd x) 3 b) (same _ e next) record { byte = slice_index c.cells x; driver = refl; exchange = refl; cells = refl; codes = refl; room = refl; burst = refl; out = refl; within = omega arith }
ctl_moves c (request.Rd x) (suc (suc (suc (suc zero)))) b e within next = cc
ctl_moves c (request.Rd x) (suc (suc (suc (suc (suc zero))))) b e within next = cc
ctl_moves c (request.Rd x) (suc (suc (suc (suc (suc (suc n)))))) b e within next = absurd (omega arith)
ctl_moves c (request.Wr x w) zero b e within next = cc
ctl_moves c (request.Wr x w) (suc zero) b e within next = subst (CtlMoves c (request.Wr x w) 1 b) (same _ e next) record { byte = b; driver = refl; exchange = refl; cells = refl; codes = refl; room = refl; burst = refl; out = refl; within = omega arith }
ctl_moves c (request.Wr x w) (suc (suc zero)) b e within next = cc
ctl_moves c (request.Wr x w) (suc (suc (suc zero))) b e within next = subst (CtlMoves c (request.Wr x w) 3 b) (same _ e next) record { byte = b; driver = refl; exchange = refl; cells = refl; codes = refl; room = refl; burst = refl; out = refl; within = omega arith }
ctl_moves c (request.Wr x w) (suc (suc (suc (suc zero)))) b e within next = cc
ctl_moves c (request.Wr x w) (suc (suc (suc (suc (suc zero))))) b e within next = subst (CtlMoves c (request.Wr x w) 5 b) (same _ e next) record { byte = b; driver = refl; exchange = refl; cells = refl; codes = refl; room = refl; burst = refl; out = refl; within = omega arith }
ctl_moves c (request.Wr x w) (suc (suc (suc (suc (suc (suc zero)))))) b e within next = cc
ctl_moves c (request.Wr x w) (suc (suc (suc (suc (suc (suc (suc n))))))) b e within next = absurd (omega arith)
ctl_moves c request.Be zero b e within next = cc
ctl_moves c request.Be (suc zero) b e within next = subst (CtlMoves c request.Be 1 b) (same _ e next) record { byte = 144; driver = refl; exchange = refl; cells = refl; codes = refl; room = refl; burst = refl; out = refl; within = omega arith }
ctl_moves c request.Be (suc (suc zero)) b e within next = cc
ctl_moves c request.Be (suc (suc (suc zero))) b e within next = cc
ctl_moves c request.Be (suc (suc (suc (suc n)))) b e within next = absurd (omega arith)
ctl_moves c request.Bd zero b e within next = cc
ctl_moves c request.Bd (suc zero) b e within next = subst (CtlMoves c request.Bd 1 b) (same _ e next) record { byte = b; driver = refl; exchange = refl; cells = refl; codes = refl; room = refl; burst = refl; out = refl; within = omega arith }
ctl_moves c request.Bd (suc (suc zero)) b e within next = cc
ctl_moves c request.Bd (suc (suc (suc n))) b e within next = absurd (omega arith)
ctl_moves c request.Qr zero b e within next = cc
ctl_moves c request.Qr (suc zero) b e within next = subst (CtlMoves c request.Qr 1 b) (same _ e next) record { byte = fill request.Qr c.cells c.codes; driver = refl; exchange = refl; cells = refl; codes = refl; room = refl; burst = refl; out = refl; within = omega arith }
ctl_moves c request.Qr (suc (suc zero)) b e within next = cc
ctl_moves c request.Qr (suc (suc (suc zero))) b e within next = cc
ctl_moves c request.Qr (suc (suc (suc (suc n)))) b e within next = absurd (omega arith)
