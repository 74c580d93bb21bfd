-- How the acts of a plan stand to the lock.
use Rattle.std.specs.Prelude.{◌≡◌, ℕ, Bool, true, false, ◌||◌, not}
use Rattle.handler_script.specs.declared.act.Act.{Act}
use Rattle.handler_script.specs.declared.act.Act.TheVariants as act
use Rattle.handler_script.specs.Plan.{Plan, Do, End}

-- whether the lock is held after an act
abbrev pub held_by : Act → Bool → Bool
held_by act.Lock held = true
held_by act.Unlock held = false
held_by _ held = held

-- the lock is taken where it is free, and given back where it is held
abbrev pub is_lock_step : Act → Bool → Bool
is_lock_step act.Lock held = not held
is_lock_step act.Unlock held = held
is_lock_step _ held = true

-- Each act that needs the lock stands where it is held, the lock is taken and given back in turn, and it is free at
-- the end.
abbrev pub Locked : Bool → Plan → Type 0
Locked held End = held ≡ false
Locked held (Do needs a next) = ((not needs || held) ≡ true) × (is_lock_step a held ≡ true)
    × ((byte : ℕ) → Locked (held_by a held) (next byte))
