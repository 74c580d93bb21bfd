use Rattle.std.proofs.Common.{◌≤◌, length, reverse, sym, ap, ◌∙◌, arith}
use Rattle.run_summary.specs.declared.tally.Tally.{Tally}
use Rattle.run_summary.specs.Told.{tally_after, tally_of}
use Rattle.run_summary.proofs.Walk.{past-all, past-next, tally-adds, tally-codes, tally-notifies}
use Rattle.run_summary.proofs.tally.count_entries.Goals as goal

pub loop-i-preserved : goal.loop-i-preserved
loop-i-preserved c = record {
  is = c.after-tally.ensures.is
      ∙ (ap (tally_after c.entry.result.actor c.entry.result.deed) c.loop-i.invariant.is
      ∙ sym (ap tally_of (past-next c.args.board.now.entries c.loop-i.i c.entry.result c.entry.ensures)));
  few_adds = (let more = c.after-tally.ensures.few_adds in let few = c.loop-i.invariant.few_adds in omega arith);
  few_codes = (let more = c.after-tally.ensures.few_codes in let few = c.loop-i.invariant.few_codes in omega arith);
  few_notifies = (let more = c.after-tally.ensures.few_notifies in let few = c.loop-i.invariant.few_notifies in omega arith);
}

pub returns-clause-adds : goal.returns-clause-adds
returns-clause-adds c =
    let end : length c.args.board.now.entries ≤ c.loop-i.i = (let all = c.len-i-end.ensures in let past = c.loop-i-test.false in omega arith) in
    ap (λ (t : Tally). t.adds) c.loop-i.invariant.is ∙ (ap (λ past. (tally_of past).adds) (past-all c.args.board.now.entries c.loop-i.i end) ∙ tally-adds (reverse c.args.board.now.entries))

pub returns-clause-codes : goal.returns-clause-codes
returns-clause-codes c =
    let end : length c.args.board.now.entries ≤ c.loop-i.i = (let all = c.len-i-end.ensures in let past = c.loop-i-test.false in omega arith) in
    ap (λ (t : Tally). t.codes) c.loop-i.invariant.is ∙ (ap (λ past. (tally_of past).codes) (past-all c.args.board.now.entries c.loop-i.i end) ∙ tally-codes c.args.board.now.machine (reverse c.args.board.now.entries))

pub returns-clause-notifies : goal.returns-clause-notifies
returns-clause-notifies c =
    let end : length c.args.board.now.entries ≤ c.loop-i.i = (let all = c.len-i-end.ensures in let past = c.loop-i-test.false in omega arith) in
    ap (λ (t : Tally). t.notifies) c.loop-i.invariant.is ∙ (ap (λ past. (tally_of past).notifies) (past-all c.args.board.now.entries c.loop-i.i end) ∙ tally-notifies (reverse c.args.board.now.entries))
