-- How what two calls took or added joins, where it is told.
use Rattle.std.proofs.Common.{◌≡◌, ℕ, ◌+◌, List, [], ◌++◌, drop, length, take, Option, None, Some, refl, sym, ◌∙◌, ap, append_assoc}
use Rattle.std.proofs.Math.Seq.{take-add, take-append_seam}
use Rattle.std.proofs.lemmas.List.{append-nil}
use Rattle.std.specs.Io.KnownBytes.{Appends, Consumes, Keeps}

-- no byte was taken
pub Consumes-nil : (known : Option (List ℕ)) → Consumes known known []
Consumes-nil None = tt
Consumes-nil (Some xs) = refl

-- what two calls took, one after the other
pub Consumes-append : (old mid new : Option (List ℕ)) (a b : List ℕ) → Consumes old mid a → Consumes mid new b → Consumes old new (a ++ b)
Consumes-append None mid new a b p q = tt
Consumes-append (Some xs) None new a b p q = absurd p
Consumes-append (Some xs) (Some ys) None a b p q = absurd q
Consumes-append (Some xs) (Some ys) (Some zs) a b p q = rw append_assoc (p ∙ ap (λ (l : List ℕ). a ++ l) q)

-- a call that took none came after
pub Consumes-Keeps : (old mid new : Option (List ℕ)) (a : List ℕ) → Consumes old mid a → Keeps mid new → Consumes old new a
Consumes-Keeps None mid new a p q = tt
Consumes-Keeps (Some xs) None new a p q = absurd p
Consumes-Keeps (Some xs) (Some ys) None a p q = absurd q
Consumes-Keeps (Some xs) (Some ys) (Some zs) a p q = rw q p

-- no byte was added
pub Appends-nil : (known : Option (List ℕ)) → Appends known known []
Appends-nil None = tt
Appends-nil (Some xs) = rw append-nil refl

-- what two calls added, one after the other
pub Appends-append : (old mid new : Option (List ℕ)) (a b : List ℕ) → Appends old mid a → Appends mid new b → Appends old new (a ++ b)
Appends-append None mid new a b p q = tt
Appends-append (Some xs) None new a b p q = absurd p
Appends-append (Some xs) (Some ys) None a b p q = absurd q
Appends-append (Some xs) (Some ys) (Some zs) a b p q = q ∙ ap (λ (l : List ℕ). l ++ b) p ∙ append_assoc xs a b

-- a call that added none came after
pub Appends-Keeps : (old mid new : Option (List ℕ)) (a : List ℕ) → Appends old mid a → Keeps mid new → Appends old new a
Appends-Keeps None mid new a p q = tt
Appends-Keeps (Some xs) None new a p q = absurd p
Appends-Keeps (Some xs) (Some ys) None a p q = absurd q
Appends-Keeps (Some xs) (Some ys) (Some zs) a p q = q ∙ p

-- what a call took into the room behind those that were taken, which stay as they were
pub Consumes-behind : (old mid new : Option (List ℕ)) (kept room after : List ℕ) (filled count : ℕ)
    → Consumes old mid (take filled kept) → take filled room ≡ take filled kept → take filled after ≡ take filled room
    → Consumes mid new (take count (drop filled after)) → Consumes old new (take (filled + count) after)
Consumes-behind old mid new kept room after filled count before same_room same_after taken =
    let front = take filled after in
    let had : Consumes old mid front = rw (same_after ∙ same_room) before in
    rw (take-add filled count after) (Consumes-append old mid new front (take count (drop filled after)) had taken)

-- a slice of a whole list, written back into it
pub written_back : (len : ℕ) (after items : List ℕ) → length after ≡ len → take len (after ++ drop (length after) items) ≡ after
written_back len after items e = ap (λ n. take n (after ++ drop (length after) items)) (sym e) ∙ take-append_seam after (drop (length after) items)
