use Rattle.std.proofs.Common.{refl}
use Rattle.machine_desc.specs.Machine.{act_fields_of}
use Rattle.machine_desc.specs.Weight.{events_moves, events_size, firmware_moves, firmware_size, in_devices, in_firmware, in_script, op_moves, op_size, queries_moves, queries_size, script_moves, script_size, weight_of}
use Rattle.machine_maker.specs.Maker.{each_of, made, op_at, pulses_of, script_of}
use Rattle.machine_maker.specs.Summary.{summary}
use Rattle.machine_maker.proofs.laws.law_rows.Goals as goal

pub returns-clause-least : goal.returns-clause-least
unfolding summary made act_fields_of each_of script_of op_at pulses_of events_moves events_size firmware_moves firmware_size in_devices in_firmware in_script op_moves op_size queries_moves queries_size script_moves script_size weight_of
returns-clause-least c = refl

pub returns-clause-greatest : goal.returns-clause-greatest
unfolding summary made act_fields_of each_of script_of op_at pulses_of events_moves events_size firmware_moves firmware_size in_devices in_firmware in_script op_moves op_size queries_moves queries_size script_moves script_size weight_of
returns-clause-greatest c = refl
