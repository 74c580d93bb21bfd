-- What the plan of a script comes to, in sentences.
use Rattle.std.specs.Prelude.{◌≡◌, ℕ, Bool, true, false, List, [], ◌∷◌, ◌++◌, Some, None, if◌then◌else◌}
use Rattle.field_units.specs.Field.{Field}
use Rattle.handler_script.specs.declared.act.Act.{Act}
use Rattle.handler_script.specs.declared.op.Op.{Op}
use Rattle.handler_script.specs.Accepts.{Accepted}
use Rattle.handler_script.specs.Acts.{brings}
use Rattle.handler_script.specs.Locked.{Locked}
use Rattle.handler_script.specs.Marked.{Marked}
use Rattle.handler_script.specs.Plan.{Plan, acts_of, next_act, plan, plan_after}

-- the list of acts for more answers begins with that for fewer
abbrev pub GoesOn : Type 0
GoesOn = (p : Plan) (answers more : List ℕ)
    → (rest : List Act) × (acts_of p (answers ++ more) ≡ acts_of p answers ++ rest)

-- once the next act is answered, the acts are that act and then those of what is left
abbrev pub StepsOn : Type 0
StepsOn = (p : Plan) (a : Act) (byte : ℕ) (answers : List ℕ) → next_act p ≡ Some a
    → acts_of p (if brings a then byte ∷ answers else answers)
    ≡ a ∷ acts_of (plan_after (if brings a then byte else 0) p) answers

-- where there is no answer, and the next act is to be answered with a byte, the acts are that one alone
abbrev pub Waits : Type 0
Waits = (p : Plan) (a : Act) → next_act p ≡ Some a → brings a ≡ true → acts_of p [] ≡ a ∷ []

-- where no act is next there is none at all
abbrev pub Ends : Type 0
Ends = (p : Plan) (answers : List ℕ) → next_act p ≡ None → acts_of p answers ≡ []

-- in an accepted script each act that needs the lock stands where it is held, the lock is taken and given back in
-- turn, and it is free at the end
abbrev pub LocksInTurn : Type 0
LocksInTurn = (fields : List Field) (ops : List Op) → Accepted fields ops → Locked false (plan fields ops)

-- In an accepted script the acts that need the lock are marked: each access to a cell, and each request, that only
-- fields which need the lock make, and each access and request while the lock is held. No other act is.
abbrev pub MarksNeeds : Type 0
MarksNeeds = (glk : Bool) (fields : List Field) (ops : List Op) → Accepted fields ops
    → Marked glk fields false (plan fields ops)
