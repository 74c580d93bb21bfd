-- The moves since the open begin are a front of the moves of its request.
use Rattle.std.proofs.Common.{ℕ, zero, suc, ◌+◌, ◌<◌, ◌≤◌, ◌≡◌, true, false, List, [], ◌∷◌, ◌++◌, length, reverse, take, drop, Option, Some, None, slice_get, unwrap_or, refl, sym, ap, ◌∙◌, subst, arith}
use Rattle.std.proofs.lemmas.Bool.{eqb-true}
use Rattle.std.proofs.lemmas.List.{append-nil, length-take-le, take-append-drop}
use Rattle.std.proofs.lemmas.Option.{slice_get_within}
use Rattle.acpi_regs.specs.declared.actor.Actor.{Actor}
use Rattle.acpi_regs.specs.declared.entry.Deed.{Deed}
use Rattle.acpi_regs.specs.declared.entry.Deed.TheVariants as deed
use Rattle.acpi_regs.specs.declared.entry.Effect.{Effect}
use Rattle.acpi_regs.specs.declared.entry.Effect.TheVariants as effect
use Rattle.acpi_regs.specs.declared.entry.Entry.{Entry}
use Rattle.acpi_regs.specs.declared.entry.HostMove.{HostMove}
use Rattle.acpi_regs.specs.declared.entry.HostMove.TheVariants as host
use Rattle.acpi_regs.specs.declared.entry.Request.{Request}
use Rattle.acpi_regs.specs.declared.entry.Request.TheVariants as request
use Rattle.ec_driver.specs.declared.wire.Move.{Move}
use Rattle.ec_driver.specs.declared.wire.Move.TheVariants as move
use Rattle.ec_driver.specs.Wire.{wire}
use Rattle.machine_desc.specs.Machine.{MachineData}
use Rattle.machine_history.specs.Legal.{Allowed, Legal, LegalPast, is_ctl_move, is_host_move, same_effect, same_host}
use Rattle.machine_history.specs.Sentences.{FrontOfWire, moves}
use Rattle.machine_history.specs.Values.{answer, blank, next_in}
use Rattle.machine_history.specs.Wire.{Open, moved, open_after, open_of, put_out}
use Rattle.machine_history.proofs.Known.{hold}
use Rattle.machine_history.proofs.Queries.{is_out}

-- ---- lists

pub take-push : {X : Type 0} (xs : List X) (k : ℕ) (x : X) → slice_get xs k ≡ Some x → take (suc k) xs ≡ take k xs ++ x ∷ []
take-push [] k x at = absurd (none at)
  where
    none : None ≡ Some x → ⊥
    none is = cc
take-push (y ∷ xs) zero x at = let same : y ≡ x = cc in ap (λ z. z ∷ []) same
take-push (y ∷ xs) (suc k) x at = ap (λ zs. y ∷ zs) (take-push xs k x at)

pub take-more : {X : Type 0} (xs : List X) (k : ℕ) (x : X) → slice_get xs k ≡ Some x → take (k + 1) xs ≡ take k xs ++ x ∷ []
take-more xs k x at = ap (λ n. take n xs) (one_more k) ∙ take-push xs k x at
  where
    one_more : (n : ℕ) → n + 1 ≡ suc n
    one_more n = omega arith

-- ---- the blank

-- the byte agrees with the one that was put out, if one was
abbrev pub Agrees : Option ℕ → ℕ → Type 0
Agrees None b = Unit {0}
Agrees (Some v) b = v ≡ b

-- how many moves come before the Out; of a request without a blank any number
abbrev pub put_place : Request → ℕ
put_place (request.Rd x) = 3
put_place request.Qr = 1
put_place _ = 6

pub host_same : (r : Request) (b c k : ℕ) (g : HostMove) → k ≤ put_place r → slice_get (wire r b) k ≡ Some (move.Host g) → (slice_get (wire r c) k ≡ Some (move.Host g)) × (k + 1 ≤ put_place r)
host_same (request.Rd x) b c zero g within at = (at, omega arith)
host_same (request.Rd x) b c (suc zero) g within at = cc
host_same (request.Rd x) b c (suc (suc zero)) g within at = (at, omega arith)
host_same (request.Rd x) b c (suc (suc (suc zero))) g within at = cc
host_same (request.Rd x) b c (suc (suc (suc (suc k)))) g within at = absurd (omega arith)
host_same request.Qr b c zero g within at = (at, omega arith)
host_same request.Qr b c (suc zero) g within at = cc
host_same request.Qr b c (suc (suc k)) g within at = absurd (omega arith)
host_same (request.Wr x w) b c k g within at = (at, (let less : k < 6 = slice_get_within (wire (request.Wr x w) b) k (move.Host g) at in omega arith))
host_same request.Be b c k g within at = (at, (let less : k < 3 = slice_get_within (wire request.Be b) k (move.Host g) at in omega arith))
host_same request.Bd b c k g within at = (at, (let less : k < 2 = slice_get_within (wire request.Bd b) k (move.Host g) at in omega arith))

pub ctl_same : (r : Request) (b c k : ℕ) (f : Effect) → is_out f ≡ false → k ≤ put_place r → slice_get (wire r b) k ≡ Some (move.Ctl f) → (slice_get (wire r c) k ≡ Some (move.Ctl f)) × (k + 1 ≤ put_place r)
ctl_same (request.Rd x) b c zero f out within at = cc
ctl_same (request.Rd x) b c (suc zero) f out within at = (at, omega arith)
ctl_same (request.Rd x) b c (suc (suc zero)) f out within at = cc
ctl_same (request.Rd x) b c (suc (suc (suc zero))) f out within at = let is : effect.Out b ≡ f = cc in absurd (no_out b f is out)
  where
    no_out : (b : ℕ) (f : Effect) → effect.Out b ≡ f → is_out f ≡ false → ⊥
    no_out b f is out = let both = ap is_out is in cc
ctl_same (request.Rd x) b c (suc (suc (suc (suc k)))) f out within at = absurd (omega arith)
ctl_same request.Qr b c zero f out within at = cc
ctl_same request.Qr b c (suc zero) f out within at = let is : effect.Out b ≡ f = cc in absurd (no_out b f is out)
  where
    no_out : (b : ℕ) (f : Effect) → effect.Out b ≡ f → is_out f ≡ false → ⊥
    no_out b f is out = let both = ap is_out is in cc
ctl_same request.Qr b c (suc (suc k)) f out within at = absurd (omega arith)
ctl_same (request.Wr x w) b c k f out within at = (at, (let less : k < 6 = slice_get_within (wire (request.Wr x w) b) k (move.Ctl f) at in omega arith))
ctl_same request.Be b c k f out within at = (at, (let less : k < 3 = slice_get_within (wire request.Be b) k (move.Ctl f) at in omega arith))
ctl_same request.Bd b c k f out within at = (at, (let less : k < 2 = slice_get_within (wire request.Bd b) k (move.Ctl f) at in omega arith))

-- the byte that is put out is the blank
pub out_wire : (r : Request) (b k v : ℕ) → slice_get (wire r b) k ≡ Some (move.Ctl (effect.Out v)) → wire r b ≡ wire r v
out_wire (request.Rd x) b zero v at = cc
out_wire (request.Rd x) b (suc zero) v at = cc
out_wire (request.Rd x) b (suc (suc zero)) v at = cc
out_wire (request.Rd x) b (suc (suc (suc zero))) v at = let same : b ≡ v = cc in ap (wire (request.Rd x)) same
out_wire (request.Rd x) b (suc (suc (suc (suc zero)))) v at = cc
out_wire (request.Rd x) b (suc (suc (suc (suc (suc k))))) v at = cc
out_wire request.Qr b zero v at = cc
out_wire request.Qr b (suc zero) v at = let same : b ≡ v = cc in ap (wire request.Qr) same
out_wire request.Qr b (suc (suc zero)) v at = cc
out_wire request.Qr b (suc (suc (suc k))) v at = cc
out_wire (request.Wr x w) b k v at = refl
out_wire request.Be b k v at = refl
out_wire request.Bd b k v at = refl

pub same_host-true : (h g : HostMove) → same_host h g ≡ true → g ≡ h
same_host-true (host.Sc v) (host.Sc w) same = ap host.Sc (sym (eqb-true v w same))
same_host-true (host.Data v) (host.Data w) same = ap host.Data (sym (eqb-true v w same))
same_host-true (host.Get v) (host.Get w) same = ap host.Get (sym (eqb-true v w same))
same_host-true _ _ same = cc

pub same_effect-true : (e f : Effect) → same_effect e f ≡ true → f ≡ e
same_effect-true effect.Taken effect.Taken same = refl
same_effect-true effect.Put effect.Put same = refl
same_effect-true effect.Calm effect.Calm same = refl
same_effect-true (effect.Out v) (effect.Out w) same = ap effect.Out (sym (eqb-true v w same))
same_effect-true _ _ same = cc

pub host_next : (h : HostMove) (x : Option Move) → is_host_move h x ≡ true → x ≡ Some (move.Host h)
host_next h None is = cc
host_next h (Some (move.Host g)) is = ap (λ y. Some (move.Host y)) (same_host-true h g is)
host_next h (Some (move.Ctl e)) is = cc

pub ctl_next : (e : Effect) (x : Option Move) → is_ctl_move e x ≡ true → x ≡ Some (move.Ctl e)
ctl_next e None is = cc
ctl_next e (Some (move.Host g)) is = cc
ctl_next e (Some (move.Ctl f)) is = ap (λ y. Some (move.Ctl y)) (same_effect-true e f is)

-- ---- what is kept of the open transaction

abbrev pub Front : Request → ℕ → Option ℕ → List Move → Type 0
Front r made out ms = ((b : ℕ) → Agrees out b → ms ≡ take made (wire r b)) × (out ≡ None → made ≤ put_place r) × (made ≤ length (wire r 0))

abbrev pub Fronts : Option Open → List Move → Type 0
Fronts None ms = Unit {0}
Fronts (Some o) ms = Front o.asks o.made o.out ms

pub wire-length : (r : Request) (b : ℕ) → length (wire r b) ≡ length (wire r 0)
wire-length (request.Rd x) b = refl
wire-length (request.Wr x w) b = refl
wire-length request.Be b = refl
wire-length request.Bd b = refl
wire-length request.Qr b = refl

pub agrees : (out : Option ℕ) (or_else : ℕ) → Agrees out (unwrap_or out or_else)
agrees None or_else = tt
agrees (Some v) or_else = refl

-- one move more
pub further : (r : Request) (made : ℕ) (out : Option ℕ) (ms : List Move) (b : ℕ) (x : Move) → Agrees out b → slice_get (wire r b) made ≡ Some x
    → ((c : ℕ) → made ≤ put_place r → (slice_get (wire r c) made ≡ Some x) × (made + 1 ≤ put_place r))
    → Front r made out ms → Front r (made + 1) out (ms ++ x ∷ [])
further r made None ms b x agree at other front = (
  λ c same. (let here = (other c (front.1 refl)).0 in ap (λ zs. zs ++ x ∷ []) (front.0 c tt) ∙ sym (take-more (wire r c) made x here)),
  λ none. (other b (front.1 refl)).1,
  (let less = slice_get_within (wire r b) made x at in let long = wire-length r b in omega arith),
)
further r made (Some v) ms b x agree at other front = (
  λ c same. (let is : b ≡ c = sym agree ∙ same in let here = subst (λ y. slice_get (wire r y) made ≡ Some x) is at in ap (λ zs. zs ++ x ∷ []) (front.0 c same) ∙ sym (take-more (wire r c) made x here)),
  λ none. cc,
  (let less = slice_get_within (wire r b) made x at in let long = wire-length r b in omega arith),
)

pub host_front : (m : MachineData) (past : List Entry) (h : HostMove) (oo : Option Open) (ms : List Move) → is_host_move h (next_in m past oo) ≡ true → Fronts oo ms → Fronts (moved oo) (ms ++ move.Host h ∷ [])
host_front m past h None ms is front = tt
host_front m past h (Some o) ms is front =
    let at = host_next h (next_in m past (Some o)) is in
    further o.asks o.made o.out ms (blank m past o) (move.Host h) (agrees o.out (answer m past o.asks)) at (λ c within. host_same o.asks (blank m past o) c o.made h within at) front

pub ctl_front : (m : MachineData) (past : List Entry) (e : Effect) (oo : Option Open) (ms : List Move) → is_out e ≡ false → is_ctl_move e (next_in m past oo) ≡ true → Fronts oo ms → Fronts (moved oo) (ms ++ move.Ctl e ∷ [])
ctl_front m past e None ms out is front = tt
ctl_front m past e (Some o) ms out is front =
    let at = ctl_next e (next_in m past (Some o)) is in
    further o.asks o.made o.out ms (blank m past o) (move.Ctl e) (agrees o.out (answer m past o.asks)) at (λ c within. ctl_same o.asks (blank m past o) c o.made e out within at) front

pub out_front : (m : MachineData) (past : List Entry) (v : ℕ) (oo : Option Open) (ms : List Move) → is_ctl_move (effect.Out v) (next_in m past oo) ≡ true → Fronts oo ms → Fronts (put_out v oo) (ms ++ move.Ctl (effect.Out v) ∷ [])
out_front m past v None ms is front = tt
out_front m past v (Some o) ms is front =
    let at = ctl_next (effect.Out v) (next_in m past (Some o)) is in
    let filled = out_wire o.asks (blank m past o) o.made v at in
    let before : ms ≡ take o.made (wire o.asks v) = front.0 (blank m past o) (agrees o.out (answer m past o.asks)) ∙ ap (take o.made) filled in
    let here : slice_get (wire o.asks v) o.made ≡ Some (move.Ctl (effect.Out v)) = ap (λ w. slice_get w o.made) (sym filled) ∙ at in (
      λ c same. ap (λ zs. zs ++ move.Ctl (effect.Out v) ∷ []) before ∙ (sym (take-more (wire o.asks v) o.made (move.Ctl (effect.Out v)) here) ∙ ap (λ b. take (o.made + 1) (wire o.asks b)) same),
      λ none. cc,
      (let less = slice_get_within (wire o.asks v) o.made (move.Ctl (effect.Out v)) here in let long = wire-length o.asks v in omega arith),
    )

pub fronts_step : (m : MachineData) (past : List Entry) (a : Actor) (d : Deed) → Allowed m past (record { actor = a; deed = d }) → Fronts (open_of past) (moves past) → Fronts (open_after a d (open_of past)) (moves (record { actor = a; deed = d } ∷ past))
fronts_step m past a (deed.Begin r) ok front = (λ b same. refl, λ none. omega arith, omega arith)
fronts_step m past a (deed.Take v) ok front = tt
fronts_step m past a (deed.Step h) ok front = host_front m past h (open_of past) (moves past) (hold m past a (deed.Step h) ok).1.1.1.0 front
fronts_step m past a (deed.Ctl effect.Calm) ok front = subst (Fronts (open_of past)) (sym (append-nil (moves past))) front
fronts_step m past a (deed.Ctl effect.Taken) ok front = ctl_front m past effect.Taken (open_of past) (moves past) refl (hold m past a (deed.Ctl effect.Taken) ok).1.1.1.0 front
fronts_step m past a (deed.Ctl effect.Put) ok front = ctl_front m past effect.Put (open_of past) (moves past) refl (hold m past a (deed.Ctl effect.Put) ok).1.1.1.0 front
fronts_step m past a (deed.Ctl (effect.Out v)) ok front = out_front m past v (open_of past) (moves past) (hold m past a (deed.Ctl (effect.Out v)) ok).1.1.1.0 front
fronts_step m past a _ ok front = subst (Fronts (open_of past)) (sym (append-nil (moves past))) front

pub fronts : (m : MachineData) (past : List Entry) → LegalPast m past → Fronts (open_of past) (moves past)
fronts m [] legal = tt
fronts m (e ∷ past) legal = fronts_step m past e.actor e.deed legal.0 (fronts m past legal.1)

pub front_of : (past : List Entry) (o : Open) → Front o.asks o.made o.out (moves past) → FrontOfWire past o
front_of past o front =
    let b : ℕ = unwrap_or o.out 0 in
    let is = front.0 (unwrap_or o.out 0) (agrees o.out 0) in
    let within = front.2 in
    let long = wire-length o.asks (unwrap_or o.out 0) in (
      unwrap_or o.out 0,
      drop o.made (wire o.asks (unwrap_or o.out 0)),
      sym (take-append-drop o.made (wire o.asks (unwrap_or o.out 0))) ∙ ap (λ ms. ms ++ drop o.made (wire o.asks (unwrap_or o.out 0))) (sym is),
      ap length is ∙ length-take-le o.made (wire o.asks (unwrap_or o.out 0)) (omega arith),
    )

pub front_of_wire : (m : MachineData) (history : List Entry) (o : Open) → Legal m history → open_of (reverse history) ≡ Some o → FrontOfWire (reverse history) o
front_of_wire m history o legal is = front_of (reverse history) o (subst (λ oo. Fronts oo (moves (reverse history))) is (fronts m (reverse history) legal))
