use Rattle.std.proofs.Common.{◌≡◌, ◌+◌, ◌-◌, length, arith}
use Rattle.machine_desc.specs.Actors.{actors_of, ec_count}
use Rattle.machine_desc.proofs.Order.{device_at, ec_at, firmware_at, how_many, int_at, poll_at, worker_at}
use Rattle.machine_desc.proofs.served.actor.Goals as goal

pub returns-then-k-eq0 : goal.returns-then-k-eq0
returns-then-k-eq0 c = int_at c.args.machine.now c.args.k (omega arith)

pub returns-else-k-eq0 : goal.returns-else-k-eq0
returns-else-k-eq0 c = poll_at c.args.machine.now c.args.k (omega arith)

pub returns-then-k-workers : goal.returns-then-k-workers
returns-then-k-workers c = worker_at c.args.machine.now c.args.k (c.args.k - 2) (omega arith) (omega arith)

pub returns-then-behind-controllers : goal.returns-then-behind-controllers
returns-then-behind-controllers c = ec_at c.args.machine.now c.args.k (omega arith) (omega arith)

pub returns-then-number-devices : goal.returns-then-number-devices
returns-then-number-devices c =
    device_at c.args.machine.now c.args.k (c.args.k - 2 - c.workers-workers.result - c.controllers-controllers.result) (omega arith) (omega arith)

pub returns : goal.returns
returns c =
    let m = c.args.machine.now in
    let all : length (actors_of m) ≡ 2 + m.workers + ec_count m.controller + length m.devices + length m.firmware = how_many m in
    firmware_at m c.args.k (c.args.k - 2 - c.workers-workers.result - c.controllers-controllers.result - c.devices-devices.result) (omega arith) (omega arith)
