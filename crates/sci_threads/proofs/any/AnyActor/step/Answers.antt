use Rattle.std.proofs.Common.{refl}
use Rattle.sci_threads.proofs.AnyStep.{device-steps, ec-steps, firmware-steps, int-steps, poll-steps, worker-steps}
use Rattle.sci_threads.proofs.any.AnyActor.step.Goals as goal

pub returns-in-Int-clause-gives : goal.returns-in-Int-clause-gives
returns-in-Int-clause-gives c = (int-steps c.args.machine.now c.args.self.now c.in-Int.int c.args.world.now c.step.result c.step.new.world c.in-Int.is c.step.ensures.steps).given

pub returns-in-Int-clause-stays : goal.returns-in-Int-clause-stays
returns-in-Int-clause-stays c = (int-steps c.args.machine.now c.args.self.now c.in-Int.int c.args.world.now c.step.result c.step.new.world c.in-Int.is c.step.ensures.steps).still

pub returns-in-Int-clause-answers : goal.returns-in-Int-clause-answers
returns-in-Int-clause-answers c = (int-steps c.args.machine.now c.args.self.now c.in-Int.int c.args.world.now c.step.result c.step.new.world c.in-Int.is c.step.ensures.steps).as_kind _ refl

pub returns-in-Poll-clause-gives : goal.returns-in-Poll-clause-gives
returns-in-Poll-clause-gives c = (poll-steps c.args.machine.now c.args.self.now c.in-Poll.poll c.args.world.now c.step-in-Poll.result c.step-in-Poll.new.world c.in-Poll.is c.step-in-Poll.ensures.steps).given

pub returns-in-Poll-clause-stays : goal.returns-in-Poll-clause-stays
returns-in-Poll-clause-stays c = (poll-steps c.args.machine.now c.args.self.now c.in-Poll.poll c.args.world.now c.step-in-Poll.result c.step-in-Poll.new.world c.in-Poll.is c.step-in-Poll.ensures.steps).still

pub returns-in-Poll-clause-answers : goal.returns-in-Poll-clause-answers
returns-in-Poll-clause-answers c = (poll-steps c.args.machine.now c.args.self.now c.in-Poll.poll c.args.world.now c.step-in-Poll.result c.step-in-Poll.new.world c.in-Poll.is c.step-in-Poll.ensures.steps).as_kind _ refl

pub returns-in-Worker-clause-gives : goal.returns-in-Worker-clause-gives
returns-in-Worker-clause-gives c = (worker-steps c.args.machine.now c.args.self.now c.in-Worker.worker c.step-in-Worker.new.self c.args.world.now c.step-in-Worker.result c.step-in-Worker.new.world c.in-Worker.is c.step-in-Worker.ensures.steps).given

pub returns-in-Worker-clause-stays : goal.returns-in-Worker-clause-stays
returns-in-Worker-clause-stays c = (worker-steps c.args.machine.now c.args.self.now c.in-Worker.worker c.step-in-Worker.new.self c.args.world.now c.step-in-Worker.result c.step-in-Worker.new.world c.in-Worker.is c.step-in-Worker.ensures.steps).still

pub returns-in-Worker-clause-answers : goal.returns-in-Worker-clause-answers
returns-in-Worker-clause-answers c = (worker-steps c.args.machine.now c.args.self.now c.in-Worker.worker c.step-in-Worker.new.self c.args.world.now c.step-in-Worker.result c.step-in-Worker.new.world c.in-Worker.is c.step-in-Worker.ensures.steps).as_kind _ refl

pub returns-in-Ec-clause-gives : goal.returns-in-Ec-clause-gives
returns-in-Ec-clause-gives c = (ec-steps c.args.machine.now c.args.self.now c.in-Ec.controller c.args.world.now c.step-in-Ec.result c.step-in-Ec.new.world c.in-Ec.is c.step-in-Ec.ensures.steps).given

pub returns-in-Ec-clause-stays : goal.returns-in-Ec-clause-stays
returns-in-Ec-clause-stays c = (ec-steps c.args.machine.now c.args.self.now c.in-Ec.controller c.args.world.now c.step-in-Ec.result c.step-in-Ec.new.world c.in-Ec.is c.step-in-Ec.ensures.steps).still

pub returns-in-Ec-clause-answers : goal.returns-in-Ec-clause-answers
returns-in-Ec-clause-answers c = (ec-steps c.args.machine.now c.args.self.now c.in-Ec.controller c.args.world.now c.step-in-Ec.result c.step-in-Ec.new.world c.in-Ec.is c.step-in-Ec.ensures.steps).as_kind _ refl

pub returns-in-Device-clause-gives : goal.returns-in-Device-clause-gives
returns-in-Device-clause-gives c = (device-steps c.args.machine.now c.args.self.now c.in-Device.device c.step-in-Device.new.self c.args.world.now c.step-in-Device.result c.step-in-Device.new.world c.in-Device.is c.step-in-Device.ensures.steps).given

pub returns-in-Device-clause-stays : goal.returns-in-Device-clause-stays
returns-in-Device-clause-stays c = (device-steps c.args.machine.now c.args.self.now c.in-Device.device c.step-in-Device.new.self c.args.world.now c.step-in-Device.result c.step-in-Device.new.world c.in-Device.is c.step-in-Device.ensures.steps).still

pub returns-in-Device-clause-answers : goal.returns-in-Device-clause-answers
returns-in-Device-clause-answers c = (device-steps c.args.machine.now c.args.self.now c.in-Device.device c.step-in-Device.new.self c.args.world.now c.step-in-Device.result c.step-in-Device.new.world c.in-Device.is c.step-in-Device.ensures.steps).as_kind _ refl

pub returns-in-Firmware-clause-gives : goal.returns-in-Firmware-clause-gives
returns-in-Firmware-clause-gives c = (firmware-steps c.args.machine.now c.args.self.now c.in-Firmware.firmware c.step-in-Firmware.new.self c.args.world.now c.step-in-Firmware.result c.step-in-Firmware.new.world c.in-Firmware.is c.step-in-Firmware.ensures.steps).given

pub returns-in-Firmware-clause-stays : goal.returns-in-Firmware-clause-stays
returns-in-Firmware-clause-stays c = (firmware-steps c.args.machine.now c.args.self.now c.in-Firmware.firmware c.step-in-Firmware.new.self c.args.world.now c.step-in-Firmware.result c.step-in-Firmware.new.world c.in-Firmware.is c.step-in-Firmware.ensures.steps).still

pub returns-in-Firmware-clause-answers : goal.returns-in-Firmware-clause-answers
returns-in-Firmware-clause-answers c = (firmware-steps c.args.machine.now c.args.self.now c.in-Firmware.firmware c.step-in-Firmware.new.self c.args.world.now c.step-in-Firmware.result c.step-in-Firmware.new.world c.in-Firmware.is c.step-in-Firmware.ensures.steps).as_kind _ refl
