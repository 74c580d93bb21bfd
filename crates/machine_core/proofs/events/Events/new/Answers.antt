use Rattle.std.proofs.Common.{ℕ, ◌≡◌, ◌-◌, ap, ◌∙◌, map, sum_by, arith}
use Rattle.event_chip.specs.Chip.{first_slot}
use Rattle.machine_desc.specs.Kept.{own_event}
use Rattle.machine_history.specs.Machine.{times}
use Rattle.machine_core.proofs.events.Events.new.Goals as goal

less_none : (x : ℕ) → x ≡ x - 0
less_none x = omega arith

pub returns : goal.returns
returns c =
    let listed = c.as_slice.ensures.value ∙ c.in_ok-listed.ensures ∙ ap (λ es. map (λ e. e.listed) es) c.events.ensures in
    record {
      slots_are = λ n. c.in_ok-chip.ensures n ∙ ap (λ ls. first_slot ls c.own_event.result n) listed
          ∙ ap (λ o. first_slot (map (λ e. e.listed) c.args.machine.now.events) o n) c.own_event.ensures;
      size = c.in_ok-unlatched.ensures.size;
      unlatched_are = λ n is. c.in_ok-unlatched.ensures.counts n is ∙ ap (λ ds. sum_by (times n) ds) c.devices.ensures
          ∙ less_none (sum_by (times n) c.args.machine.now.devices);
    }
