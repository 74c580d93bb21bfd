use Rattle.std.proofs.Common.{ℕ, suc, ◌+◌, ◌≡◌, length, subst, arith}
use Rattle.history_text.specs.Lines.{Bad, Entries}
use Rattle.history_text.proofs.Steps.{body_bad}
use Rattle.history_text.proofs.log_read.read_body.Goals as goal

pub returns-in-Err-clause-bad : goal.returns-in-Err-clause-bad
returns-in-Err-clause-bad c =
    let entries = c.in-Ok.entries.items in
    let events = c.in-Ok-read_stuck_lines.stuck.items in
    let same : suc (length entries + (length events + c.in-Err.more)) ≡ c.len.result + c.len-in-Err.result + c.in-Err.more + 1 = omega (arith, c.len.ensures, c.len-in-Err.ensures, c.in-Ok.entries.ok.0, c.in-Ok-read_stuck_lines.stuck.ok.0) in
    subst (Bad Entries c.args.bytes.now) same (body_bad c.args.bytes.now c.in-Ok.after.now c.in-Ok-read_stuck_lines.last.now entries events c.in-Err.more c.in-Ok.ensures.read c.in-Ok.ensures.none c.in-Ok-read_stuck_lines.ensures.read c.in-Err.ensures.bad.1)
