use Rattle.std.proofs.Common.{◌++◌, ap, ◌∙◌, map, codes, decimal}
use Rattle.machine_reader.specs.Canonical.{actor_json, list_json}
use Rattle.machine_reader.specs.Texts.{json_text}
use Rattle.machine_reader.proofs.Lists.{behind}
use Rattle.machine_reader.proofs.members.put_last_members.Goals as goal

pub returns : goal.returns
returns c =
    let r = c.put-4.result in
    let version = c.in_ok-put_number.ensures ∙ ap (λ n. c.put-2.new.out.items ++ decimal n) c.from.ensures in
    let workers = c.in_ok-put_number-2.ensures ∙ ap (λ n. c.put-3.new.out.items ++ decimal n) c.from-2.ensures in
    let x1 = codes ",\"schedule\":" in
    let x2 = json_text (list_json (map actor_json c.args.schedule.now)) in
    let x3 = codes ",\"version\":" in
    let x4 = decimal c.args.version in
    let x5 = codes ",\"workers\":" in
    let x6 = decimal c.args.workers in
    let x7 = codes "}" in
    let t6 = behind c.put-3.new.out.items c.put_number-2.new.out.items c.put-4.new.out.items x6 x7 r workers c.put-4.ensures in
    let t5 = behind c.put_number.new.out.items c.put-3.new.out.items c.put-4.new.out.items x5 (x6 ++ x7) r c.in_ok-put-3.ensures t6 in
    let t4 = behind c.put-2.new.out.items c.put_number.new.out.items c.put-4.new.out.items x4 (x5 ++ (x6 ++ x7)) r version t5 in
    let t3 = behind c.put_list.new.out.items c.put-2.new.out.items c.put-4.new.out.items x3 (x4 ++ (x5 ++ (x6 ++ x7))) r c.in_ok-put-2.ensures t4 in
    let t2 = behind c.put.new.out.items c.put_list.new.out.items c.put-4.new.out.items x2 (x3 ++ (x4 ++ (x5 ++ (x6 ++ x7)))) r c.in_ok-put_list.ensures t3 in
    let t1 = behind c.args.out.now.items c.put.new.out.items c.put-4.new.out.items x1 (x2 ++ (x3 ++ (x4 ++ (x5 ++ (x6 ++ x7))))) r c.in_ok-put.ensures t2 in
    t1
