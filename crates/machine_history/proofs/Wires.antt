-- The entries and moves of transactions are no more than what their begins allow.
use Rattle.std.proofs.Common.{ℕ, zero, suc, ◌+◌, ◌≤◌, ◌≡◌, Bool, true, false, ◌&&◌, List, [], ◌∷◌, map, drop, slice_get, Option, Some, None, is_some, is_none, if◌then◌else◌, refl, ap, subst, arith}
use Rattle.std.proofs.lemmas.Bool.{and_parts}
use Rattle.acpi_regs.specs.declared.actor.Actor.{Actor}
use Rattle.acpi_regs.specs.declared.entry.Deed.{Deed}
use Rattle.acpi_regs.specs.declared.entry.Deed.TheVariants as deed
use Rattle.acpi_regs.specs.declared.entry.Effect.{Effect}
use Rattle.acpi_regs.specs.declared.entry.Effect.TheVariants as effect
use Rattle.acpi_regs.specs.declared.entry.Entry.{Entry}
use Rattle.acpi_regs.specs.declared.entry.HostMove.{HostMove}
use Rattle.acpi_regs.specs.declared.entry.Request.{Request}
use Rattle.acpi_regs.specs.declared.entry.Request.TheVariants as request
use Rattle.ec_driver.specs.declared.wire.Move.{Move}
use Rattle.ec_driver.specs.declared.wire.Move.TheVariants as move
use Rattle.ec_driver.specs.Wire.{burst_by, wire}
use Rattle.machine_desc.specs.Machine.{MachineData}
use Rattle.machine_history.specs.Legal.{Allowed, LegalPast, is_ctl_move, is_host_move, same_effect}
use Rattle.machine_history.specs.Machine.{is_fickle}
use Rattle.machine_history.specs.Values.{blank, next_in, taking_in}
use Rattle.machine_history.specs.Wire.{Open, asks_code, burst, burst_after, burst_in, is_query, moved, open_after, open_of, put_out}
use Rattle.machine_history.proofs.Known.{hold}
use Rattle.machine_history.proofs.Totals.{Count, bounded, by_deed, one, one_small, sum_of, total}

-- ---- what is left of the open transaction

abbrev pub is_ctl : Move → Bool
is_ctl (move.Host h) = false
is_ctl (move.Ctl e) = true

-- the moves of a request, each with whether it is the controller's
abbrev pub marks : Request → List Bool
marks r = map is_ctl (wire r 0)

abbrev pub is_be : Request → Bool
is_be request.Be = true
is_be _ = false

-- what a move counts for, the host's or the controller's: as an entry, with the Calm that a Be pays for; as a move of the
-- controller in a script's request; as one in a query
abbrev pub entry_worth : Request → Bool → ℕ
entry_worth r b = if b then 1 + one (is_be r) else 1

abbrev pub move_worth : Request → Bool → ℕ
move_worth r b = if b then (if is_query r then 0 else 1) else 0

abbrev pub query_worth : Request → Bool → ℕ
query_worth r b = if b then (if is_query r then 1 else 0) else 0

abbrev pub left_of : (Request → Bool → ℕ) → Option Open → ℕ
left_of w None = 0
left_of w (Some o) = sum_of (w o.asks) (drop o.made (marks o.asks))

abbrev pub worth_at : (Request → Bool → ℕ) → Option Open → Bool → ℕ
worth_at w None b = 0
worth_at w (Some o) b = w o.asks b

-- ---- one move

pub get-map : {X Y : Type 0} (f : X → Y) (xs : List X) (k : ℕ) (x : X) → slice_get xs k ≡ Some x → slice_get (map f xs) k ≡ Some (f x)
get-map f [] zero x at = cc
get-map f [] (suc k) x at = cc
get-map f (y ∷ ys) zero x at = cc
get-map f (y ∷ ys) (suc k) x at = get-map f ys k x at

pub marks-wire : (r : Request) (v : ℕ) → map is_ctl (wire r v) ≡ marks r
marks-wire (request.Rd x) v = refl
marks-wire (request.Wr x w) v = refl
marks-wire request.Be v = refl
marks-wire request.Bd v = refl
marks-wire request.Qr v = refl

pub drop-sum : (w : Bool → ℕ) (bs : List Bool) (k : ℕ) (b : Bool) → slice_get bs k ≡ Some b → sum_of w (drop k bs) ≡ w b + sum_of w (drop (suc k) bs)
drop-sum w [] zero b at = cc
drop-sum w [] (suc k) b at = cc
drop-sum w (c ∷ bs) zero b at = let same : c ≡ b = cc in ap (λ x. w x + sum_of w bs) same
drop-sum w (c ∷ bs) (suc k) b at = drop-sum w bs k b at

pub one_move : (w : Request → Bool → ℕ) (o : Open) (v : ℕ) (x : Move) → slice_get (wire o.asks v) o.made ≡ Some x → left_of w (Some o) ≡ w o.asks (is_ctl x) + left_of w (moved (Some o))
one_move w o v x at =
    let mark = subst (λ bs. slice_get bs o.made ≡ Some (is_ctl x)) (marks-wire o.asks v) (get-map is_ctl (wire o.asks v) o.made x at) in
    let more : suc o.made ≡ o.made + 1 = omega arith in
    subst (λ k. left_of w (Some o) ≡ w o.asks (is_ctl x) + sum_of (w o.asks) (drop k (marks o.asks))) more (drop-sum (w o.asks) (marks o.asks) o.made (is_ctl x) mark)

pub host_is : (h : HostMove) (x : Option Move) → is_host_move h x ≡ true → (g : HostMove) × (x ≡ Some (move.Host g))
host_is h None is = cc
host_is h (Some (move.Host g)) is = (g, refl)
host_is h (Some (move.Ctl e)) is = cc

pub ctl_is : (e : Effect) (x : Option Move) → is_ctl_move e x ≡ true → (f : Effect) × (x ≡ Some (move.Ctl f)) × (same_effect e f ≡ true)
ctl_is e None is = cc
ctl_is e (Some (move.Host g)) is = cc
ctl_is e (Some (move.Ctl f)) is = (f, refl, is)

pub host_step : (w : Request → Bool → ℕ) (m : MachineData) (past : List Entry) (h : HostMove) (oo : Option Open) → is_host_move h (next_in m past oo) ≡ true → left_of w oo ≡ worth_at w oo false + left_of w (moved oo)
host_step w m past h None is = cc
host_step w m past h (Some o) is = let next = host_is h (next_in m past (Some o)) is in one_move w o (blank m past o) (move.Host next.0) next.1

pub ctl_step : (w : Request → Bool → ℕ) (m : MachineData) (past : List Entry) (e : Effect) (oo : Option Open) → is_ctl_move e (next_in m past oo) ≡ true → left_of w oo ≡ worth_at w oo true + left_of w (moved oo)
ctl_step w m past e None is = cc
ctl_step w m past e (Some o) is = let next = ctl_is e (next_in m past (Some o)) is in one_move w o (blank m past o) (move.Ctl next.0) next.1

pub put_left : (w : Request → Bool → ℕ) (v : ℕ) (oo : Option Open) → left_of w (put_out v oo) ≡ left_of w (moved oo)
put_left w v None = refl
put_left w v (Some o) = refl

-- ---- entries

-- the entries that may still come: moves, the take, and the Calm after a Be
abbrev pub entries_left : Option Open → ℕ
entries_left oo = one (is_some oo) + left_of entry_worth oo

abbrev pub request_entries : Request → ℕ
request_entries (request.Rd x) = 7
request_entries (request.Wr x v) = 8
request_entries request.Be = 6
request_entries request.Bd = 4
request_entries request.Qr = 5

abbrev pub begins_price : (Request → ℕ) → Deed → ℕ
begins_price f (deed.Begin r) = f r
begins_price f _ = 0

abbrev pub is_wire : Deed → ℕ
is_wire (deed.Begin r) = 1
is_wire (deed.Step h) = 1
is_wire (deed.Ctl e) = 1
is_wire (deed.Take v) = 1
is_wire _ = 0

pub begin_entries : (r : Request) → 2 + sum_of (entry_worth r) (marks r) ≡ request_entries r
begin_entries (request.Rd x) = refl
begin_entries (request.Wr x v) = refl
begin_entries request.Be = refl
begin_entries request.Bd = refl
begin_entries request.Qr = refl

-- burst mode is turned on by a Be alone
pub burst_few : (r : Request) (e : Effect) (old : Bool) → one (burst_by r (move.Ctl e) old) ≤ one (is_be r) + one old
burst_few (request.Rd x) e old = omega arith
burst_few (request.Wr x v) e old = omega arith
burst_few request.Be e old = let few = one_small (burst_by request.Be (move.Ctl e) old) in omega arith
burst_few request.Bd effect.Taken old = omega arith
burst_few request.Bd effect.Put old = omega arith
burst_few request.Bd effect.Calm old = omega arith
burst_few request.Bd (effect.Out v) old = omega arith
burst_few request.Qr e old = omega arith

pub burst_paid : (e : Effect) (oo : Option Open) (old : Bool) → is_some oo ≡ true → 1 + one (burst_in oo e old) ≤ worth_at entry_worth oo true + one old
burst_paid e None old some = cc
burst_paid e (Some o) old some = let few = burst_few o.asks e old in omega arith

pub same_some : (oo : Option Open) → one (is_some (moved oo)) ≡ one (is_some oo)
same_some None = refl
same_some (Some o) = refl

pub put_some : (v : ℕ) (oo : Option Open) → one (is_some (put_out v oo)) ≡ one (is_some oo)
put_some v None = refl
put_some v (Some o) = refl

pub none_left : (w : Request → Bool → ℕ) (oo : Option Open) → is_none oo ≡ true → left_of w oo ≡ 0
none_left w None none = refl
none_left w (Some o) none = cc

pub host_entry : (oo : Option Open) → is_some oo ≡ true → worth_at entry_worth oo false ≡ 1
host_entry None some = cc
host_entry (Some o) some = refl

pub taken_some : (m : MachineData) (past : List Entry) (oo : Option Open) → is_some (taking_in m past oo) ≡ true → one (is_some oo) ≡ 1
taken_some m past None some = cc
taken_some m past (Some o) some = refl

pub calm_is : (fickle on none : Bool) → (fickle && on && none) ≡ true → one on ≡ 1
calm_is fickle on none h = ap one (and_parts fickle on (and_parts (fickle && on) none h).0).1

pub entries_step : (m : MachineData) (past : List Entry) (a : Actor) (d : Deed) → Allowed m past (record { actor = a; deed = d })
    → is_wire d + (entries_left (open_after a d (open_of past)) + one (burst_after (open_of past) d (burst past))) ≤ begins_price request_entries d + (entries_left (open_of past) + one (burst past))
entries_step m past a (deed.Begin r) ok =
    let h = hold m past a (deed.Begin r) ok in
    let all = begin_entries r in
    omega arith
entries_step m past a (deed.Step g) ok =
    let h = hold m past a (deed.Step g) ok in
    let left = host_step entry_worth m past g (open_of past) h.1.1.1.0 in
    let price = host_entry (open_of past) h.1.1.0 in
    let some = same_some (open_of past) in
    omega arith
entries_step m past a (deed.Ctl effect.Calm) ok =
    let h = hold m past a (deed.Ctl effect.Calm) ok in
    let on = calm_is (is_fickle m.controller) (burst past) (is_none (open_of past)) h.1.1.0 in
    omega arith
entries_step m past a (deed.Ctl effect.Taken) ok =
    let h = hold m past a (deed.Ctl effect.Taken) ok in
    let left = ctl_step entry_worth m past effect.Taken (open_of past) h.1.1.1.0 in
    let paid = burst_paid effect.Taken (open_of past) (burst past) h.1.1.0 in
    let some = same_some (open_of past) in
    omega arith
entries_step m past a (deed.Ctl effect.Put) ok =
    let h = hold m past a (deed.Ctl effect.Put) ok in
    let left = ctl_step entry_worth m past effect.Put (open_of past) h.1.1.1.0 in
    let paid = burst_paid effect.Put (open_of past) (burst past) h.1.1.0 in
    let some = same_some (open_of past) in
    omega arith
entries_step m past a (deed.Ctl (effect.Out v)) ok =
    let h = hold m past a (deed.Ctl (effect.Out v)) ok in
    let left = ctl_step entry_worth m past (effect.Out v) (open_of past) h.1.1.1.0 in
    let paid = burst_paid (effect.Out v) (open_of past) (burst past) h.1.1.0 in
    let some = put_some v (open_of past) in
    let put = put_left entry_worth v (open_of past) in
    omega arith
entries_step m past a (deed.Take v) ok =
    let h = hold m past a (deed.Take v) ok in
    let some = taken_some m past (open_of past) h.1.1.1.0 in
    omega arith
entries_step m past a _ ok = omega arith

pub wire_entries : (m : MachineData) (past : List Entry) → LegalPast m past → total (by_deed is_wire) past + (entries_left (open_of past) + one (burst past)) ≤ 0 + total (by_deed (begins_price request_entries)) past
wire_entries m past legal =
    bounded m (λ p. entries_left (open_of p) + one (burst p)) (by_deed is_wire) (by_deed (begins_price request_entries)) 0 (omega arith) (λ p e lp ok. entries_step m p e.actor e.deed ok) past legal

-- ---- moves of the controller

-- a move of the controller in a request other than a query
abbrev pub is_move : Option Open → Deed → ℕ
is_move o (deed.Ctl effect.Calm) = 0
is_move o (deed.Ctl e) = if asks_code o then 0 else 1
is_move o _ = 0

abbrev pub moves_in : Count
moves_in past e = is_move (open_of past) e.deed

-- a move of the controller in a query
abbrev pub is_query_move : Option Open → Deed → ℕ
is_query_move o (deed.Ctl effect.Calm) = 0
is_query_move o (deed.Ctl e) = if asks_code o then 1 else 0
is_query_move o _ = 0

abbrev pub query_moves_in : Count
query_moves_in past e = is_query_move (open_of past) e.deed

abbrev pub request_moves : Request → ℕ
request_moves (request.Rd x) = 2
request_moves (request.Wr x v) = 3
request_moves request.Be = 1
request_moves request.Bd = 1
request_moves request.Qr = 0

abbrev pub is_qr : Request → ℕ
is_qr request.Qr = 1
is_qr _ = 0

pub begin_moves : (r : Request) → sum_of (move_worth r) (marks r) ≡ request_moves r
begin_moves (request.Rd x) = refl
begin_moves (request.Wr x v) = refl
begin_moves request.Be = refl
begin_moves request.Bd = refl
begin_moves request.Qr = refl

pub begin_queries : (r : Request) → sum_of (query_worth r) (marks r) ≡ is_qr r
begin_queries (request.Rd x) = refl
begin_queries (request.Wr x v) = refl
begin_queries request.Be = refl
begin_queries request.Bd = refl
begin_queries request.Qr = refl

pub move_priced : (oo : Option Open) → is_some oo ≡ true → worth_at move_worth oo true ≡ (if asks_code oo then 0 else 1)
move_priced None some = cc
move_priced (Some o) some = refl

pub query_priced : (oo : Option Open) → is_some oo ≡ true → worth_at query_worth oo true ≡ (if asks_code oo then 1 else 0)
query_priced None some = cc
query_priced (Some o) some = refl

pub host_move : (oo : Option Open) → worth_at move_worth oo false ≡ 0
host_move None = refl
host_move (Some o) = refl

pub host_query : (oo : Option Open) → worth_at query_worth oo false ≡ 0
host_query None = refl
host_query (Some o) = refl

pub moves_step : (m : MachineData) (past : List Entry) (a : Actor) (d : Deed) → Allowed m past (record { actor = a; deed = d })
    → is_move (open_of past) d + left_of move_worth (open_after a d (open_of past)) ≤ begins_price request_moves d + left_of move_worth (open_of past)
moves_step m past a (deed.Begin r) ok = let all = begin_moves r in omega arith
moves_step m past a (deed.Step g) ok =
    let h = hold m past a (deed.Step g) ok in
    let left = host_step move_worth m past g (open_of past) h.1.1.1.0 in
    let price = host_move (open_of past) in
    omega arith
moves_step m past a (deed.Ctl effect.Calm) ok = omega arith
moves_step m past a (deed.Ctl effect.Taken) ok =
    let h = hold m past a (deed.Ctl effect.Taken) ok in
    let left = ctl_step move_worth m past effect.Taken (open_of past) h.1.1.1.0 in
    let price = move_priced (open_of past) h.1.1.0 in
    omega arith
moves_step m past a (deed.Ctl effect.Put) ok =
    let h = hold m past a (deed.Ctl effect.Put) ok in
    let left = ctl_step move_worth m past effect.Put (open_of past) h.1.1.1.0 in
    let price = move_priced (open_of past) h.1.1.0 in
    omega arith
moves_step m past a (deed.Ctl (effect.Out v)) ok =
    let h = hold m past a (deed.Ctl (effect.Out v)) ok in
    let left = ctl_step move_worth m past (effect.Out v) (open_of past) h.1.1.1.0 in
    let price = move_priced (open_of past) h.1.1.0 in
    let put = put_left move_worth v (open_of past) in
    omega arith
moves_step m past a (deed.Take v) ok = omega arith
moves_step m past a _ ok = omega arith

pub wire_moves : (m : MachineData) (past : List Entry) → LegalPast m past → total moves_in past + left_of move_worth (open_of past) ≤ 0 + total (by_deed (begins_price request_moves)) past
wire_moves m past legal = bounded m (λ p. left_of move_worth (open_of p)) moves_in (by_deed (begins_price request_moves)) 0 (omega arith) (λ p e lp ok. moves_step m p e.actor e.deed ok) past legal

pub queries_step : (m : MachineData) (past : List Entry) (a : Actor) (d : Deed) → Allowed m past (record { actor = a; deed = d })
    → is_query_move (open_of past) d + left_of query_worth (open_after a d (open_of past)) ≤ begins_price is_qr d + left_of query_worth (open_of past)
queries_step m past a (deed.Begin r) ok = let all = begin_queries r in omega arith
queries_step m past a (deed.Step g) ok =
    let h = hold m past a (deed.Step g) ok in
    let left = host_step query_worth m past g (open_of past) h.1.1.1.0 in
    let price = host_query (open_of past) in
    omega arith
queries_step m past a (deed.Ctl effect.Calm) ok = omega arith
queries_step m past a (deed.Ctl effect.Taken) ok =
    let h = hold m past a (deed.Ctl effect.Taken) ok in
    let left = ctl_step query_worth m past effect.Taken (open_of past) h.1.1.1.0 in
    let price = query_priced (open_of past) h.1.1.0 in
    omega arith
queries_step m past a (deed.Ctl effect.Put) ok =
    let h = hold m past a (deed.Ctl effect.Put) ok in
    let left = ctl_step query_worth m past effect.Put (open_of past) h.1.1.1.0 in
    let price = query_priced (open_of past) h.1.1.0 in
    omega arith
queries_step m past a (deed.Ctl (effect.Out v)) ok =
    let h = hold m past a (deed.Ctl (effect.Out v)) ok in
    let left = ctl_step query_worth m past (effect.Out v) (open_of past) h.1.1.1.0 in
    let price = query_priced (open_of past) h.1.1.0 in
    let put = put_left query_worth v (open_of past) in
    omega arith
queries_step m past a (deed.Take v) ok = omega arith
queries_step m past a _ ok = omega arith

pub wire_queries : (m : MachineData) (past : List Entry) → LegalPast m past → total query_moves_in past + left_of query_worth (open_of past) ≤ 0 + total (by_deed (begins_price is_qr)) past
wire_queries m past legal = bounded m (λ p. left_of query_worth (open_of p)) query_moves_in (by_deed (begins_price is_qr)) 0 (omega arith) (λ p e lp ok. queries_step m p e.actor e.deed ok) past legal
