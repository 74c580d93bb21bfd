use Rattle.std.proofs.Common.{◌++◌, map, codes}
use Rattle.std.specs.Option.{option_copied}
use Rattle.machine_reader.specs.Canonical.{controller_json, field_json, list_json, listed_json, pulses_json}
use Rattle.machine_reader.specs.Texts.{json_text}
use Rattle.machine_reader.proofs.Lists.{behind}
use Rattle.machine_reader.proofs.members.put_first_members.Goals as goal

pub returns : goal.returns
returns c =
    let r = c.put_list-3.result in
    let x1 = codes "{\"controller\":" in
    let x2 = json_text (controller_json c.args.version (option_copied c.args.controller)) in
    let x3 = codes ",\"devices\":" in
    let x4 = json_text (list_json (map pulses_json c.args.devices.now)) in
    let x5 = codes ",\"events\":" in
    let x6 = json_text (list_json (map listed_json c.args.events.now)) in
    let x7 = codes ",\"fields\":" in
    let x8 = json_text (list_json (map field_json c.args.fields.now)) in
    let t7 = behind c.put_list-2.new.out.items c.put-4.new.out.items c.put_list-3.new.out.items x7 x8 r c.in_ok-put-4.ensures c.put_list-3.ensures in
    let t6 = behind c.put-3.new.out.items c.put_list-2.new.out.items c.put_list-3.new.out.items x6 (x7 ++ x8) r c.in_ok-put_list-2.ensures t7 in
    let t5 = behind c.put_list.new.out.items c.put-3.new.out.items c.put_list-3.new.out.items x5 (x6 ++ (x7 ++ x8)) r c.in_ok-put-3.ensures t6 in
    let t4 = behind c.put-2.new.out.items c.put_list.new.out.items c.put_list-3.new.out.items x4 (x5 ++ (x6 ++ (x7 ++ x8))) r c.in_ok-put_list.ensures t5 in
    let t3 = behind c.put_controller.new.out.items c.put-2.new.out.items c.put_list-3.new.out.items x3 (x4 ++ (x5 ++ (x6 ++ (x7 ++ x8)))) r c.in_ok-put-2.ensures t4 in
    let t2 = behind c.put.new.out.items c.put_controller.new.out.items c.put_list-3.new.out.items x2 (x3 ++ (x4 ++ (x5 ++ (x6 ++ (x7 ++ x8))))) r c.in_ok-put_controller.ensures t3 in
    let t1 = behind c.args.out.now.items c.put.new.out.items c.put_list-3.new.out.items x1 (x2 ++ (x3 ++ (x4 ++ (x5 ++ (x6 ++ (x7 ++ x8)))))) r c.in_ok-put.ensures t2 in
    t1
