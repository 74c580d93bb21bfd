use Rattle.machine_reader.proofs.RoundTrip.{json_of, machine_back, read_back}
use Rattle.machine_reader.proofs.laws.law_read_back.Goals as goal

pub returns : goal.returns
returns c =
    let m = c.args.machine.now in
    let fits = c.law_machine_ranges.ensures in
    let kept = c.law_rules.ensures in
    let given = c.law_described.ensures in
    record {
      json = json_of m fits kept;
      machine = machine_back m fits kept given;
      read = read_back m fits kept given;
    }
