-- What an entry does to what is found in the entries.
use Rattle.std.proofs.Common.{ℕ, zero, suc, ◌+◌, ◌-◌, ◌<◌, ◌≤◌, ◌≡◌, ◌||◌, nat_lt, Bool, true, false, cond, if◌then◌else◌, List, [], ◌∷◌, ◌++◌, length, drop, Option, Some, None, refl, sym, ap, ◌∙◌, subst, length-append, arith}
use Rattle.std.proofs.lemmas.Bool.{lt-ltb}
use Rattle.std.proofs.lemmas.List.{length-drop}
use Rattle.acpi_regs.specs.declared.actor.Actor.{Actor}
use Rattle.acpi_regs.specs.declared.entry.Deed.{Deed}
use Rattle.acpi_regs.specs.declared.entry.Deed.TheVariants as deed
use Rattle.acpi_regs.specs.declared.entry.Effect.TheVariants as effect
use Rattle.acpi_regs.specs.declared.entry.Entry.{Entry}
use Rattle.acpi_regs.specs.declared.event.Event.{Event}
use Rattle.acpi_regs.specs.Event.{same_event}
use Rattle.lock_table.specs.declared.words.Bits.{Bits}
use Rattle.lock_table.specs.Bits.{IsEvent, is_set}
use Rattle.machine_history.specs.Events.{latches, latches_after}
use Rattle.machine_history.specs.Wire.{Open, asks_code, codes, moved, open_of, put_out}
use Rattle.run_checker.specs.declared.ends.Queue.{Queue}
use Rattle.run_checker.specs.Ends.{AreLatched, latches_it, queue_after, queue_of}

abbrev pub entry : Actor → Deed → Entry
entry a d = record { actor = a; deed = d }

abbrev queue : Bool → ℕ → Queue
queue asks waiting = record { asks = asks; waiting = waiting }

asks_moved : (o : Option Open) → asks_code (moved o) ≡ asks_code o
asks_moved None = refl
asks_moved (Some o) = refl

asks_put : (v : ℕ) (o : Option Open) → asks_code (put_out v o) ≡ asks_code o
asks_put v None = refl
asks_put v (Some o) = refl

given_one : (b : Bool) (queued : List ℕ) → length (if b then drop 1 queued else queued) ≡ (if b then length queued - 1 else length queued)
given_one true queued = length-drop 1 queued
given_one false queued = refl

by_deed : (past : List Entry) (a : Actor) (d : Deed) → queue_of (entry a d ∷ past) ≡ queue_after d (queue_of past)
by_deed past a (deed.Step h) = ap (λ b. queue b (length (codes past))) (asks_moved (open_of past))
by_deed past a (deed.Ctl effect.Taken) = ap (λ b. queue b (length (codes past))) (asks_moved (open_of past))
by_deed past a (deed.Ctl effect.Put) = ap (λ b. queue b (length (codes past))) (asks_moved (open_of past))
by_deed past a (deed.Ctl (effect.Out v)) =
    ap (λ b. queue b (length (if asks_code (open_of past) then drop 1 (codes past) else codes past))) (asks_put v (open_of past)) ∙ ap (λ n. queue (asks_code (open_of past)) n) (given_one (asks_code (open_of past)) (codes past))
by_deed past a (deed.Ctl effect.Calm) = refl
by_deed past a (deed.Push q) = ap (λ n. queue (asks_code (open_of past)) n) (length-append (codes past) (q ∷ []))
by_deed past a (deed.Begin r) = refl
by_deed past a (deed.Take v) = refl
by_deed past a _ = refl

pub queue_more : (past : List Entry) (e : Entry) → queue_of (e ∷ past) ≡ queue_after e.deed (queue_of past)
queue_more past e = by_deed past e.actor e.deed

-- a queue grows by one at most
pub queue_bound : (d : Deed) (q : Queue) (i : ℕ) → q.waiting ≤ i → (queue_after d q).waiting ≤ i + 1
queue_bound (deed.Push c) q i few = omega (arith, few)
queue_bound (deed.Ctl (effect.Out v)) q i few = by_asks q.asks
  where
    by_asks : (b : Bool) → (if b then q.waiting - 1 else q.waiting) ≤ i + 1
    by_asks true = omega (arith, few)
    by_asks false = omega (arith, few)
queue_bound (deed.Ctl effect.Taken) q i few = omega (arith, few)
queue_bound (deed.Ctl effect.Put) q i few = omega (arith, few)
queue_bound (deed.Ctl effect.Calm) q i few = omega (arith, few)
queue_bound (deed.Begin r) q i few = omega (arith, few)
queue_bound (deed.Take v) q i few = omega (arith, few)
queue_bound d q i few = omega (arith, few)

-- ---- latches

counted : (b : Bool) (old : ℕ) → nat_lt 0 (if b then old + 1 else old) ≡ (b || nat_lt 0 old)
counted true old = lt-ltb 0 (old + 1) (omega arith)
counted false old = refl

latch_more : (n : Event) (d : Deed) (old : ℕ) → nat_lt 0 (latches_after n d old) ≡ (latches_it d n || nat_lt 0 old)
latch_more n (deed.Latch x) old = counted (same_event x n) old
latch_more n _ old = refl

pub latched_more : (past : List Entry) (e : Entry) (old new : Bits) → AreLatched past old → ((n : Event) → IsEvent n → is_set new n ≡ (latches_it e.deed n || is_set old n)) → AreLatched (e ∷ past) new
latched_more past e old new before put n is =
    put n is ∙ (ap (λ b. latches_it e.deed n || b) (before n is) ∙ sym (latch_more n e.deed (latches past n)))
