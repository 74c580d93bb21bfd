-- The host's moves keep the transaction and the controller in step.
use Rattle.std.proofs.Common.{ℕ, zero, suc, ◌+◌, ◌≡◌, Bool, true, false, ◌&&◌, cond, List, [], ◌∷◌, take, slice_get, Some, unwrap_or, is_none, refl, sym, ◌∙◌, ap, add-one}
use Rattle.acpi_regs.specs.declared.entry.HostMove.{HostMove}
use Rattle.acpi_regs.specs.declared.entry.HostMove.TheVariants as host
use Rattle.acpi_regs.specs.declared.entry.Request.{Request}
use Rattle.acpi_regs.specs.declared.entry.Request.TheVariants as request
use Rattle.ec_chip.specs.Chip.{ChipData, Exchange, quiet}
use Rattle.ec_driver.specs.declared.wire.Move.{Move}
use Rattle.ec_driver.specs.declared.wire.Move.TheVariants as move
use Rattle.ec_driver.specs.Driver.{TransactionData, Stands, blank, chip_by, is_ctl, moves_made, moves_of, next_move, transaction_by}
use Rattle.ec_driver.specs.Wire.{exchange_by, exchange_from, wire}

-- one more move of a list
pub one_more : (moves : List Move) (n : ℕ) (m : Move) (e : Exchange) → slice_get moves n ≡ Some m → exchange_from (take (n + 1) moves) e ≡ exchange_by m (exchange_from (take n moves) e)
one_more moves n m e at = rw (add-one n) (go moves n e at)
  where
    go : (ms : List Move) (k : ℕ) (x : Exchange) → slice_get ms k ≡ Some m → exchange_from (take (suc k) ms) x ≡ exchange_by m (exchange_from (take k ms) x)
    go [] k x at = cc
    go (y ∷ ys) zero x at = ap (λ z. exchange_by z x) (let same : y ≡ m = cc in same)
    go (y ∷ ys) (suc k) x at = go ys k (exchange_by y x) at

-- what is read is the output that stands, and no move of the controller's follows
pub read_last : (r : Request) (b n v : ℕ) → slice_get (wire r b) n ≡ Some (move.Host (host.Get v)) → ((exchange_from (take n (wire r b)) quiet).output ≡ Some v) × (is_ctl (slice_get (wire r 0) (suc n)) ≡ false)
read_last (request.Rd x) b zero v at = cc
read_last (request.Rd x) b (suc zero) v at = cc
read_last (request.Rd x) b (suc (suc zero)) v at = cc
read_last (request.Rd x) b (suc (suc (suc zero))) v at = cc
read_last (request.Rd x) b (suc (suc (suc (suc zero)))) v at = (cc, refl)
read_last (request.Rd x) b (suc (suc (suc (suc (suc n))))) v at = cc
read_last (request.Wr x w) b zero v at = cc
read_last (request.Wr x w) b (suc zero) v at = cc
read_last (request.Wr x w) b (suc (suc zero)) v at = cc
read_last (request.Wr x w) b (suc (suc (suc zero))) v at = cc
read_last (request.Wr x w) b (suc (suc (suc (suc zero)))) v at = cc
read_last (request.Wr x w) b (suc (suc (suc (suc (suc zero))))) v at = cc
read_last (request.Wr x w) b (suc (suc (suc (suc (suc (suc n)))))) v at = cc
read_last request.Be b zero v at = cc
read_last request.Be b (suc zero) v at = cc
read_last request.Be b (suc (suc zero)) v at = (cc, refl)
read_last request.Be b (suc (suc (suc n))) v at = cc
read_last request.Bd b zero v at = cc
read_last request.Bd b (suc zero) v at = cc
read_last request.Bd b (suc (suc n)) v at = cc
read_last request.Qr b zero v at = cc
read_last request.Qr b (suc zero) v at = cc
read_last request.Qr b (suc (suc zero)) v at = (cc, refl)
read_last request.Qr b (suc (suc (suc n))) v at = cc

-- a write waits to be taken, so no move of the controller's is made behind it
made_waiting : (next : Bool) (n : ℕ) → cond (next && false) (n + 1) n ≡ n
made_waiting true n = refl
made_waiting false n = refl

-- after the host's move everything on its way is again as the moves left it
pub host_stands : (t : TransactionData) (c : ChipData) (m : HostMove) → Stands t c → next_move t c ≡ Some (move.Host m) → Stands (transaction_by (Some m) (moves_made t c) t) (chip_by (Some m) c)
host_stands t c (host.Sc byte) stands next =
    let n = moves_made t c in
    let moves = moves_of t c in
    ap (exchange_by (move.Host (host.Sc byte))) stands ∙ (sym (one_more moves n _ quiet next) ∙ ap (λ k. exchange_from (take k moves) quiet) (sym (made_waiting (is_ctl (slice_get (wire t.asks 0) (n + 1))) (n + 1))))
host_stands t c (host.Data byte) stands next =
    let n = moves_made t c in
    let moves = moves_of t c in
    ap (exchange_by (move.Host (host.Data byte))) stands ∙ (sym (one_more moves n _ quiet next) ∙ ap (λ k. exchange_from (take k moves) quiet) (sym (made_waiting (is_ctl (slice_get (wire t.asks 0) (n + 1))) (n + 1))))
host_stands t c (host.Get v) stands next =
    let n = moves_made t c in
    let moves = moves_of t c in
    let last = read_last t.asks (blank t c) n v next in
    let filled : blank t c ≡ v = ap (λ o. unwrap_or o t.got) (ap (λ e. e.output) stands ∙ last.0) in
    let none : is_ctl (slice_get (wire t.asks 0) (n + 1)) ≡ false = rw (add-one n) last.1 in
    let here : moves_made (transaction_by (Some (host.Get v)) n t) (chip_by (Some (host.Get v)) c) ≡ n + 1 = ap (λ b. cond (b && is_none c.exchange.input) (n + 1 + 1) (n + 1)) none in
    ap (exchange_by (move.Host (host.Get v))) stands ∙ (sym (one_more moves n _ quiet next) ∙ (ap (λ k. exchange_from (take k moves) quiet) (sym here) ∙ ap (λ b. exchange_from (take (moves_made (transaction_by (Some (host.Get v)) n t) (chip_by (Some (host.Get v)) c)) (wire t.asks b)) quiet) filled))
