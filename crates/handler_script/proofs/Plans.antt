-- Acts of a plan, one by one.
use Rattle.std.proofs.Common.{◌≡◌, ℕ, Bool, true, false, List, [], ◌∷◌, ◌++◌, refl, sym, ap, append-nil}
use Rattle.handler_script.specs.declared.act.Act.{Act}
use Rattle.handler_script.specs.Acts.{brings}
use Rattle.handler_script.specs.Plan.{Plan, Do, End, acts_of}
use Rattle.handler_script.specs.Laws.{GoesOn}

more_after : (needs : Bool) (a : Act) (next : ℕ → Plan) (answers more : List ℕ) (b : Bool) → brings a ≡ b → ((byte : ℕ) (bs : List ℕ) → (rest : List Act) × (acts_of (next byte) (bs ++ more) ≡ acts_of (next byte) bs ++ rest)) → (rest : List Act) × (acts_of (Do needs a next) (answers ++ more) ≡ acts_of (Do needs a next) answers ++ rest)
more_after needs a next [] [] b e later = ([], sym (append-nil _))
more_after needs a next [] (y ∷ more) true e later = (acts_of (next y) more, rw e refl)
more_after needs a next [] (y ∷ more) false e later = let l = later 0 [] in (l.0, rw e (ap (λ x. a ∷ x) l.1))
more_after needs a next (y ∷ answers) more true e later = let l = later y answers in (l.0, rw e (ap (λ x. a ∷ x) l.1))
more_after needs a next (y ∷ answers) more false e later = let l = later 0 (y ∷ answers) in (l.0, rw e (ap (λ x. a ∷ x) l.1))

pub goes_on : GoesOn
goes_on End answers more = ([], refl)
goes_on (Do needs a next) answers more = more_after needs a next answers more (brings a) refl (λ byte bs. goes_on (next byte) bs more)
