-- At each entry that is allowed the controller stays what the past says.
use Rattle.std.proofs.Common.{ℕ, suc, ◌+◌, ◌<◌, ◌≤◌, ◌≡◌, ◌==◌, ◌&&◌, Bool, true, false, cond, nat_lt, List, [], ◌∷◌, ◌++◌, length, length-set, length-drop, length-append, take, drop, slice_index, slice_set, slice_get, Option, Some, None, is_some, refl, sym, ◌∙◌, ap, subst, arith}
use Rattle.std.proofs.lemmas.Bool.{and_parts, eq-eqb, eqb-false, eqb-true, ltb-true}
use Rattle.std.proofs.lemmas.Grind.{get_or-set_at}
use Rattle.std.proofs.lemmas.List.{get_or-set_other}
use Rattle.acpi_regs.specs.declared.actor.Actor.{Actor}
use Rattle.acpi_regs.specs.declared.entry.Cell.{Cell}
use Rattle.acpi_regs.specs.declared.entry.Deed.{Deed}
use Rattle.acpi_regs.specs.declared.entry.Deed.TheVariants as deed
use Rattle.acpi_regs.specs.declared.entry.Effect.{Effect}
use Rattle.acpi_regs.specs.declared.entry.Effect.TheVariants as effect
use Rattle.acpi_regs.specs.declared.entry.Entry.{Entry}
use Rattle.acpi_regs.specs.declared.entry.HostMove.{HostMove}
use Rattle.acpi_regs.specs.declared.entry.Request.{Request}
use Rattle.acpi_regs.specs.declared.entry.Request.TheVariants as request
use Rattle.ec_chip.specs.Chip.{CanCalm, ChipData, after_step, next_effect, quiet}
use Rattle.ec_driver.specs.declared.wire.Move.{Move}
use Rattle.ec_driver.specs.declared.wire.Move.TheVariants as move
use Rattle.ec_driver.specs.Driver.{after_advance, chip_after_advance, effect_in, host_of}
use Rattle.ec_driver.specs.Wire.{burst_by, carried, cells_by, codes_by, exchange_from, wire}
use Rattle.machine_desc.specs.Machine.{MachineData}
use Rattle.machine_core.specs.declared.wire.Begun.{Begun}
use Rattle.machine_core.specs.Wire.{IsAt, IsBegun, IsWire, Takes, WireData, begun_after, chip_after, driver_at, out_at, wire_after}
use Rattle.machine_core.proofs.WirePlaces.{CtlMoves, HostMoves, chip_at, ctl_moves, host_moves, out_by}
use Rattle.machine_core.proofs.Wires.{at_place, chip_is, next_is, told}
use Rattle.machine_history.specs.Acts.{is_addressed, is_memory, is_memory_cell}
use Rattle.machine_history.specs.Legal.{is_ctl_move, is_host_move}
use Rattle.machine_history.specs.Machine.{controller_place, space}
use Rattle.machine_history.specs.Values.{access_of, next_in, next_move, open_access, same_cell, taking, taking_in, value, value_after}
use Rattle.machine_history.specs.Wire as history
use Rattle.machine_history.specs.Wire.{Open, burst, burst_after, codes, codes_after, due, open_after, open_of}

abbrev entry : Actor → Deed → Entry
entry a d = record { actor = a; deed = d }

-- what the row of an entry, and the rules of the machine, give of it
abbrev pub WireNeeds : MachineData → List Entry → Deed → WireData → Type 0
WireNeeds m past (deed.Begin r) w = (open_of past ≡ None) × (is_addressed r ≡ true)
WireNeeds m past (deed.Take v) w = is_some (taking m past) ≡ true
WireNeeds m past (deed.Step h) w = is_host_move h (next_move m past) ≡ true
WireNeeds m past (deed.Ctl effect.Calm) w = (burst past ≡ true) × (open_of past ≡ None)
WireNeeds m past (deed.Ctl e) w = is_ctl_move e (next_move m past) ≡ true
WireNeeds m past (deed.Push q) w = (nat_lt 0 q ≡ true) × (length past < w.chip.room)
WireNeeds m past (deed.Write c v) w = is_memory_cell m c ≡ true
WireNeeds m past _ w = Unit {0}

-- ---- entries that leave the controller

still : (m : MachineData) (past : List Entry) (a : Actor) (d : Deed) (w : WireData) → IsWire m past w → chip_after d w ≡ w.chip → begun_after a d w ≡ w.begun → open_after a d (open_of past) ≡ open_of past → codes_after (open_of past) d (codes past) ≡ codes past → burst_after (open_of past) d (burst past) ≡ burst past → ((x : ℕ) → x < 256 → value m (entry a d ∷ past) (space m x) ≡ value m past (space m x)) → IsWire m (entry a d ∷ past) (wire_after m a d w)
still m past a d w is chip begun opened queue mode bytes = record {
  size = ap (λ c. length c.cells) chip ∙ is.size;
  room_left = subst (λ c. Rattle.machine_desc.specs.Weight.weight_of m ≤ c.room) (sym chip) is.room_left;
  cells_are = λ x below. ap (λ c. slice_index c.cells x) chip ∙ (is.cells_are x below ∙ sym (bytes x below));
  codes_are = ap (λ c. c.codes) chip ∙ (is.codes_are ∙ sym queue);
  burst_is = ap (λ c. c.burst) chip ∙ (is.burst_is ∙ sym mode);
  due_is = ap (λ b. history.due_after m a d b) is.due_is;
  begun_is = rw (chip, begun, opened) is.begun_is;
}

-- a cell of memory is none of the controller's space
apart : (m : MachineData) (c : Cell) (x v old : ℕ) → is_memory_cell m c ≡ true → value_after (space m x) (Some (record { by = Rattle.acpi_regs.specs.declared.actor.Actor.TheVariants.Int; cell = c; byte = v; writes = true })) old ≡ old
apart m c x v old plain = by_same (c.region == controller_place m.regions) refl
  where
    by_same : (b : Bool) → (c.region == controller_place m.regions) ≡ b → cond (true && ((c.region == controller_place m.regions) && (c.offset == x))) v old ≡ old
    by_same false is = rw is refl
    by_same true is = absurd (Rattle.machine_core.proofs.Space.no_memory m.regions (subst (λ r. is_memory (slice_get m.regions r) ≡ true) (eqb-true _ _ is) (and_parts _ _ plain).0))

-- ---- the host's moves

host_some : (h : HostMove) (x : Option Move) → is_host_move h x ≡ true → (g : HostMove) × (host_of x ≡ Some g)
host_some h None move = cc
host_some h (Some (move.Host g)) moves = (g, refl)
host_some h (Some (move.Ctl e)) moves = cc

abbrev pub chip_by : Option Begun → ChipData → ChipData
chip_by = Rattle.machine_core.specs.Wire.chip_advanced

-- the place behind a move of the host's
host_place : (m : MachineData) (past : List Entry) (w : WireData) (b : Begun) (o : Open) (h : HostMove) → IsWire m past w → (at : IsAt b w.chip o) → is_host_move h (next_in m past (Some o)) ≡ true → HostMoves w.chip o.asks o.made at.byte
host_place m past w b o h is at moves =
    let some = host_some h (next_in m past (Some o)) moves in
    host_moves w.chip o.asks o.made at.byte some.0 at.within (ap host_of (next_is m past w b o is at) ∙ some.1)

host_at : (m : MachineData) (past : List Entry) (w : WireData) (b : Begun) (o : Open) (at : IsAt b w.chip o) → HostMoves w.chip o.asks o.made at.byte → IsAt (record b { driver = after_advance b.driver w.chip }) (chip_after_advance b.driver w.chip) (record o { made = o.made + 1 })
host_at m past w b o at moved =
    let chip = chip_is b w.chip o at in
    record {
      byte = at.byte;
      within = moved.within;
      by_same = at.by_same;
      asks_same = at.asks_same;
      driver_is = at_place after_advance _ _ _ _ at.driver_is chip ∙ moved.driver;
      exchange_is = at_place (λ d c. (chip_after_advance d c).exchange) _ _ _ _ at.driver_is chip ∙ moved.exchange;
      out_is = at.out_is ∙ sym moved.out;
      address = at.address;
    }

host_step : (m : MachineData) (past : List Entry) (a : Actor) (h : HostMove) (w : WireData) (x : Option Begun) (o : Option Open) → w.begun ≡ x → open_of past ≡ o → IsWire m past w → IsBegun x o w.chip → is_host_move h (next_in m past o) ≡ true → IsWire m (entry a (deed.Step h) ∷ past) (wire_after m a (deed.Step h) w)
host_step m past a h w None None x_is o_is is begun moves = cc
host_step m past a h w (Some b) None x_is o_is is begun moves = absurd begun
host_step m past a h w None (Some o) x_is o_is is begun moves = absurd begun
host_step m past a h w (Some b) (Some o) x_is o_is is at moves =
    let moved = host_place m past w b o h is at moves in
    let chip = chip_is b w.chip o at in
    let place = at_place chip_after_advance _ _ _ _ at.driver_is chip in
    record {
      size = rw x_is (ap (λ c. length c.cells) place ∙ (ap length moved.cells ∙ is.size));
      room_left = rw x_is (subst (λ n. Rattle.machine_desc.specs.Weight.weight_of m ≤ n) (sym (ap (λ c. c.room) place ∙ moved.room)) is.room_left);
      cells_are = λ i below. rw x_is (ap (λ c. slice_index c.cells i) place ∙ (ap (λ l. slice_index l i) moved.cells ∙ is.cells_are i below));
      codes_are = rw x_is (ap (λ c. c.codes) place ∙ (moved.codes ∙ is.codes_are));
      burst_is = rw x_is (ap (λ c. c.burst) place ∙ (moved.burst ∙ is.burst_is));
      due_is = ap (λ b. history.due_after m a (deed.Step h) b) is.due_is;
      begun_is = rw (x_is, o_is) (host_at m past w b o at moved);
    }

-- ---- the controller's moves

ctl_some : (e : Effect) (x : Option Move) → is_ctl_move e x ≡ true → effect_in x ≡ Some e
ctl_some e None moves = cc
ctl_some e (Some (move.Host h)) moves = cc
ctl_some effect.Taken (Some (move.Ctl effect.Taken)) moves = refl
ctl_some (effect.Out v) (Some (move.Ctl (effect.Out u))) moves = ap (λ n. Some (effect.Out n)) (sym (eqb-true v u moves))
ctl_some effect.Put (Some (move.Ctl effect.Put)) moves = refl
ctl_some effect.Calm (Some (move.Ctl effect.Calm)) moves = refl
ctl_some effect.Taken (Some (move.Ctl (effect.Out u))) moves = cc
ctl_some effect.Taken (Some (move.Ctl effect.Put)) moves = cc
ctl_some effect.Taken (Some (move.Ctl effect.Calm)) moves = cc
ctl_some (effect.Out v) (Some (move.Ctl effect.Taken)) moves = cc
ctl_some (effect.Out v) (Some (move.Ctl effect.Put)) moves = cc
ctl_some (effect.Out v) (Some (move.Ctl effect.Calm)) moves = cc
ctl_some effect.Put (Some (move.Ctl effect.Taken)) moves = cc
ctl_some effect.Put (Some (move.Ctl (effect.Out u))) moves = cc
ctl_some effect.Put (Some (move.Ctl effect.Calm)) moves = cc
ctl_some effect.Calm (Some (move.Ctl effect.Taken)) moves = cc
ctl_some effect.Calm (Some (move.Ctl (effect.Out u))) moves = cc
ctl_some effect.Calm (Some (move.Ctl effect.Put)) moves = cc

-- the place behind a move of the controller's
abbrev ctl_open : Effect → Open → Open
ctl_open e o = record o { made = o.made + 1; out = out_by e o.out }

ctl_at : (w : WireData) (b : Begun) (o : Open) (e : Effect) (at : IsAt b w.chip o) → CtlMoves w.chip o.asks o.made at.byte e → IsAt b (after_step w.chip) (ctl_open e o)
ctl_at w b o e at moved =
    let chip = chip_is b w.chip o at in
    record {
      byte = moved.byte;
      within = moved.within;
      by_same = at.by_same;
      asks_same = at.asks_same;
      driver_is = at.driver_is ∙ moved.driver;
      exchange_is = ap (λ c. (after_step c).exchange) chip ∙ moved.exchange;
      out_is = ap (out_by e) at.out_is ∙ moved.out;
      address = at.address;
    }

-- a byte that is set in a list
set_at : (xs : List ℕ) (i j y : ℕ) → i < length xs → slice_index (slice_set xs i y) j ≡ cond (i == j) y (slice_index xs j)
set_at xs i j y below = by_same (i == j) refl
  where
    by_same : (b : Bool) → (i == j) ≡ b → slice_index (slice_set xs i y) j ≡ cond b y (slice_index xs j)
    by_same true is = get_or-set_at xs i j y 0 (sym (eqb-true i j is)) below
    by_same false is = get_or-set_other xs i j y 0 (λ same. eqb-false i j is (sym same))

same_place : (n : ℕ) (b : Bool) → ((n == n) && b) ≡ b
same_place n b = rw (eq-eqb n n refl) refl

-- the byte of a cell after a move of the controller's
ctl_bytes : (m : MachineData) (o : Open) (e : Effect) (cells : List ℕ) (x old : ℕ) → length cells ≡ 256 → is_addressed o.asks ≡ true → slice_index cells x ≡ old → slice_index (cells_by o.asks (move.Ctl e) cells) x ≡ value_after (space m x) (open_access m (Some o) e) old
ctl_bytes m o e cells x old size address was = by_request o.asks e address
  where
    by_request : (r : Request) (e : Effect) → is_addressed r ≡ true → slice_index (cells_by r (move.Ctl e) cells) x ≡ value_after (space m x) (Rattle.machine_history.specs.Values.ctl_access m o.by r e) old
    by_request (request.Rd y) effect.Taken address = was
    by_request (request.Rd y) (effect.Out v) address = was
    by_request (request.Rd y) effect.Put address = was
    by_request (request.Rd y) effect.Calm address = was
    by_request (request.Wr y v) effect.Taken address = was
    by_request (request.Wr y v) (effect.Out u) address = was
    by_request (request.Wr y v) effect.Put address =
        set_at cells y x v (rw size (ltb-true y 256 address)) ∙ (ap (λ n. cond (y == x) v n) was ∙ ap (λ b. cond b v old) (sym (same_place (controller_place m.regions) (y == x))))
    by_request (request.Wr y v) effect.Calm address = was
    by_request request.Be effect.Taken address = was
    by_request request.Be (effect.Out v) address = was
    by_request request.Be effect.Put address = was
    by_request request.Be effect.Calm address = was
    by_request request.Bd effect.Taken address = was
    by_request request.Bd (effect.Out v) address = was
    by_request request.Bd effect.Put address = was
    by_request request.Bd effect.Calm address = was
    by_request request.Qr effect.Taken address = was
    by_request request.Qr (effect.Out v) address = was
    by_request request.Qr effect.Put address = was
    by_request request.Qr effect.Calm address = was

-- what the open transaction, the codes and burst mode are after it
ctl_codes : (o : Open) (e : Effect) (queue : List ℕ) → codes_by o.asks (move.Ctl e) queue ≡ codes_after (Some o) (deed.Ctl e) queue
ctl_codes o e queue = by_request o.asks e
  where
    by_request : (r : Request) (e : Effect) → codes_by r (move.Ctl e) queue ≡ codes_after (Some (record o { asks = r })) (deed.Ctl e) queue
    by_request (request.Rd y) effect.Taken = refl
    by_request (request.Rd y) (effect.Out v) = refl
    by_request (request.Rd y) effect.Put = refl
    by_request (request.Rd y) effect.Calm = refl
    by_request (request.Wr y v) effect.Taken = refl
    by_request (request.Wr y v) (effect.Out u) = refl
    by_request (request.Wr y v) effect.Put = refl
    by_request (request.Wr y v) effect.Calm = refl
    by_request request.Be effect.Taken = refl
    by_request request.Be (effect.Out v) = refl
    by_request request.Be effect.Put = refl
    by_request request.Be effect.Calm = refl
    by_request request.Bd effect.Taken = refl
    by_request request.Bd (effect.Out v) = refl
    by_request request.Bd effect.Put = refl
    by_request request.Bd effect.Calm = refl
    by_request request.Qr effect.Taken = refl
    by_request request.Qr (effect.Out v) = refl
    by_request request.Qr effect.Put = refl
    by_request request.Qr effect.Calm = refl

abbrev is_calm : Effect → Bool
is_calm effect.Calm = true
is_calm _ = false

ctl_burst : (o : Open) (e : Effect) (old : Bool) → is_calm e ≡ false → burst_by o.asks (move.Ctl e) old ≡ burst_after (Some o) (deed.Ctl e) old
ctl_burst o effect.Taken old moves = refl
ctl_burst o (effect.Out v) old moves = refl
ctl_burst o effect.Put old moves = refl
ctl_burst o effect.Calm old moves = cc

ctl_opened : (a : Actor) (o : Open) (e : Effect) → is_calm e ≡ false → open_after a (deed.Ctl e) (Some o) ≡ Some (ctl_open e o)
ctl_opened a o effect.Taken moves = refl
ctl_opened a o (effect.Out v) moves = refl
ctl_opened a o effect.Put moves = refl
ctl_opened a o effect.Calm moves = cc

ctl_chip : (e : Effect) (w : WireData) → is_calm e ≡ false → chip_after (deed.Ctl e) w ≡ after_step w.chip
ctl_chip effect.Taken w moves = refl
ctl_chip (effect.Out v) w moves = refl
ctl_chip effect.Put w moves = refl
ctl_chip effect.Calm w moves = cc

alike : (x y : Option Begun) (o p : Option Open) (c k : ChipData) → x ≡ y → o ≡ p → c ≡ k → IsBegun y p k → IsBegun x o c
alike x y o p c k one two three begun = rw (one, two, three) begun

ctl_step : (m : MachineData) (past : List Entry) (a : Actor) (e : Effect) (w : WireData) (x : Option Begun) (o : Option Open) → w.begun ≡ x → open_of past ≡ o → IsWire m past w → IsBegun x o w.chip → is_calm e ≡ false → is_ctl_move e (next_in m past o) ≡ true → IsWire m (entry a (deed.Ctl e) ∷ past) (wire_after m a (deed.Ctl e) w)
ctl_step m past a e w None None x_is o_is is begun calm moves = cc
ctl_step m past a e w (Some b) None x_is o_is is begun calm moves = absurd begun
ctl_step m past a e w None (Some o) x_is o_is is begun calm moves = absurd begun
ctl_step m past a e w (Some b) (Some o) x_is o_is is at calm moves =
    let moved = ctl_moves w.chip o.asks o.made at.byte e at.within (ap effect_in (next_is m past w b o is at) ∙ ctl_some e (next_in m past (Some o)) moves) in
    let chip : chip_after (deed.Ctl e) w ≡ after_step (chip_at w.chip o.asks o.made at.byte) = ctl_chip e w calm ∙ ap after_step (chip_is b w.chip o at) in
    record {
      size = ap (λ c. length c.cells) chip ∙ (ap length moved.cells ∙ (sized o.asks e w.chip.cells ∙ is.size));
      room_left = subst (λ n. Rattle.machine_desc.specs.Weight.weight_of m ≤ n) (sym (ap (λ c. c.room) chip ∙ moved.room)) is.room_left;
      cells_are = λ i below. rw o_is (ap (λ c. slice_index c.cells i) chip ∙ (ap (λ l. slice_index l i) moved.cells ∙ ctl_bytes m o e w.chip.cells i (value m past (space m i)) is.size at.address (is.cells_are i below)));
      codes_are = (ap (λ c. c.codes) chip ∙ (moved.codes ∙ (ap (codes_by o.asks (move.Ctl e)) is.codes_are ∙ ctl_codes o e (codes past)))) ∙ sym (ap (λ p. codes_after p (deed.Ctl e) (codes past)) o_is);
      burst_is = (ap (λ c. c.burst) chip ∙ (moved.burst ∙ (ap (burst_by o.asks (move.Ctl e)) is.burst_is ∙ ctl_burst o e (burst past) calm))) ∙ sym (ap (λ p. burst_after p (deed.Ctl e) (burst past)) o_is);
      due_is = ap (λ b. history.due_after m a (deed.Ctl e) b) is.due_is;
      begun_is = alike w.begun (Some b) (open_after a (deed.Ctl e) (open_of past)) (Some (ctl_open e o)) (chip_after (deed.Ctl e) w) (after_step w.chip) x_is (ap (open_after a (deed.Ctl e)) o_is ∙ ctl_opened a o e calm) (ctl_chip e w calm) (ctl_at w b o e at moved);
    }
  where
    sized : (r : Request) (e : Effect) (cells : List ℕ) → length (cells_by r (move.Ctl e) cells) ≡ length cells
    sized (request.Rd y) e cells = refl
    sized (request.Wr y v) effect.Taken cells = refl
    sized (request.Wr y v) (effect.Out u) cells = refl
    sized (request.Wr y v) effect.Put cells = length-set cells y v
    sized (request.Wr y v) effect.Calm cells = refl
    sized request.Be e cells = refl
    sized request.Bd e cells = refl
    sized request.Qr e cells = refl

-- ---- a begin, a take, a calm, a push

begin_at : (a : Actor) (r : Request) (c : ChipData) → c.exchange ≡ quiet → is_addressed r ≡ true → IsAt (Rattle.machine_core.specs.Wire.begun_by a r) c (history.begun a r)
begin_at a (request.Rd x) c rests address = record { byte = 0; within = omega arith; by_same = refl; asks_same = refl; driver_is = refl; exchange_is = rests; out_is = refl; address = address }
begin_at a (request.Wr x v) c rests address = record { byte = 0; within = omega arith; by_same = refl; asks_same = refl; driver_is = refl; exchange_is = rests; out_is = refl; address = address }
begin_at a request.Be c rests address = record { byte = 0; within = omega arith; by_same = refl; asks_same = refl; driver_is = refl; exchange_is = rests; out_is = refl; address = address }
begin_at a request.Bd c rests address = record { byte = 0; within = omega arith; by_same = refl; asks_same = refl; driver_is = refl; exchange_is = rests; out_is = refl; address = address }
begin_at a request.Qr c rests address = record { byte = 0; within = omega arith; by_same = refl; asks_same = refl; driver_is = refl; exchange_is = rests; out_is = refl; address = address }

-- where no begin is open nothing is on its way
rests : (x : Option Begun) (o : Option Open) (c : ChipData) → o ≡ None → IsBegun x o c → c.exchange ≡ quiet
rests None None c none begun = begun
rests (Some b) None c none begun = absurd begun
rests x (Some o) c none begun = cc

-- where all moves are made nothing is on its way
all_made : (r : Request) (n b : ℕ) → n ≡ length (wire r 0) → exchange_from (take n (wire r b)) quiet ≡ quiet
all_made (request.Rd x) n b whole = rw whole refl
all_made (request.Wr x v) n b whole = rw whole refl
all_made request.Be n b whole = rw whole refl
all_made request.Bd n b whole = rw whole refl
all_made request.Qr n b whole = rw whole refl

taken_rests : (m : MachineData) (past : List Entry) (x : Option Begun) (o : Option Open) (c : ChipData) → is_some (taking_in m past o) ≡ true → IsBegun x o c → c.exchange ≡ quiet
taken_rests m past x None c some begun = cc
taken_rests m past None (Some o) c some begun = absurd begun
taken_rests m past (Some b) (Some o) c some at = at.exchange_is ∙ all_made o.asks o.made at.byte (whole (o.made == length (wire o.asks 0)) refl some)
  where
    whole : (t : Bool) → (o.made == length (wire o.asks 0)) ≡ t → is_some (cond t (Some (carried o.asks (Rattle.machine_history.specs.Values.blank m past o))) None) ≡ true → o.made ≡ length (wire o.asks 0)
    whole true is some = eqb-true _ _ is
    whole false is some = cc

none_begun : (x : Option Begun) (o : Option Open) (c : ChipData) → o ≡ None → IsBegun x o c → x ≡ None
none_begun None None c none begun = refl
none_begun (Some b) None c none begun = absurd begun
none_begun x (Some o) c none begun = cc

-- what is on its way alone counts
same_exchange : (x : Option Begun) (o : Option Open) (c k : ChipData) → k.exchange ≡ c.exchange → IsBegun x o c → IsBegun x o k
same_exchange None None c k same begun = same ∙ begun
same_exchange (Some b) None c k same begun = absurd begun
same_exchange None (Some o) c k same begun = absurd begun
same_exchange (Some b) (Some o) c k same at = record { byte = at.byte; within = at.within; by_same = at.by_same; asks_same = at.asks_same; driver_is = at.driver_is; exchange_is = same ∙ at.exchange_is; out_is = at.out_is; address = at.address }

-- ---- every entry

pub wire_step : (m : MachineData) (past : List Entry) (a : Actor) (d : Deed) (w : WireData) → IsWire m past w → WireNeeds m past d w → IsWire m (entry a d ∷ past) (wire_after m a d w)
wire_step m past a deed.Seek w is needs = still m past a deed.Seek w is refl refl refl refl refl (λ x below. refl)
wire_step m past a deed.Busy w is needs = still m past a deed.Busy w is refl refl refl refl refl (λ x below. refl)
wire_step m past a deed.Woken w is needs = still m past a deed.Woken w is refl refl refl refl refl (λ x below. refl)
wire_step m past a deed.Own w is needs = still m past a deed.Own w is refl refl refl refl refl (λ x below. refl)
wire_step m past a deed.Disown w is needs = still m past a deed.Disown w is refl refl refl refl refl (λ x below. refl)
wire_step m past a (deed.Leave s) w is needs = still m past a (deed.Leave s) w is refl refl refl refl refl (λ x below. refl)
wire_step m past a (deed.Read c v) w is needs = still m past a (deed.Read c v) w is refl refl refl refl refl (λ x below. refl)
wire_step m past a (deed.Raise n) w is needs = still m past a (deed.Raise n) w is refl refl refl refl refl (λ x below. refl)
wire_step m past a (deed.Latch n) w is needs = still m past a (deed.Latch n) w is refl refl refl refl refl (λ x below. refl)
wire_step m past a (deed.Assert n) w is needs = still m past a (deed.Assert n) w is refl refl refl refl refl (λ x below. refl)
wire_step m past a (deed.Drop n) w is needs = still m past a (deed.Drop n) w is refl refl refl refl refl (λ x below. refl)
wire_step m past a (deed.Claim n) w is needs = still m past a (deed.Claim n) w is refl refl refl refl refl (λ x below. refl)
wire_step m past a (deed.Start j) w is needs = still m past a (deed.Start j) w is refl refl refl refl refl (λ x below. refl)
wire_step m past a (deed.Finish j) w is needs = still m past a (deed.Finish j) w is refl refl refl refl refl (λ x below. refl)
wire_step m past a (deed.Notify x y) w is needs = still m past a (deed.Notify x y) w is refl refl refl refl refl (λ x below. refl)
wire_step m past a (deed.Up n) w is needs = still m past a (deed.Up n) w is refl refl refl refl refl (λ x below. refl)
wire_step m past a (deed.Down n) w is needs = still m past a (deed.Down n) w is refl refl refl refl refl (λ x below. refl)
wire_step m past a (deed.Write c v) w is needs = still m past a (deed.Write c v) w is refl refl refl refl refl (λ x below. apart m c x v (value m past (space m x)) needs)
wire_step m past a (deed.Step h) w is needs = host_step m past a h w w.begun (open_of past) refl refl is is.begun_is needs
wire_step m past a (deed.Ctl effect.Taken) w is needs = ctl_step m past a effect.Taken w w.begun (open_of past) refl refl is is.begun_is refl needs
wire_step m past a (deed.Ctl (effect.Out v)) w is needs = ctl_step m past a (effect.Out v) w w.begun (open_of past) refl refl is is.begun_is refl needs
wire_step m past a (deed.Ctl effect.Put) w is needs = ctl_step m past a effect.Put w w.begun (open_of past) refl refl is is.begun_is refl needs
wire_step m past a (deed.Ctl effect.Calm) w is needs = record {
  size = is.size;
  room_left = is.room_left;
  cells_are = λ x below. rw needs.1 (is.cells_are x below);
  codes_are = is.codes_are;
  burst_is = refl;
  due_is = ap (λ b. history.due_after m a (deed.Ctl effect.Calm) b) is.due_is;
  begun_is = same_exchange w.begun (open_of past) w.chip (Rattle.ec_chip.specs.Chip.after_calm w.chip) refl is.begun_is;
}
wire_step m past a (deed.Push q) w is needs = record {
  size = is.size;
  room_left = is.room_left;
  cells_are = is.cells_are;
  codes_are = ap (λ l. l ++ q ∷ []) is.codes_are;
  burst_is = is.burst_is;
  due_is = ap (λ b. history.due_after m a (deed.Push q) b) is.due_is;
  begun_is = same_exchange w.begun (open_of past) w.chip (Rattle.ec_chip.specs.Chip.after_push q w.chip) refl is.begun_is;
}
wire_step m past a (deed.Begin r) w is needs = record {
  size = is.size;
  room_left = is.room_left;
  cells_are = is.cells_are;
  codes_are = is.codes_are;
  burst_is = is.burst_is;
  due_is = ap (λ b. history.due_after m a (deed.Begin r) b) is.due_is;
  begun_is = begin_at a r w.chip (rests w.begun (open_of past) w.chip needs.0 is.begun_is) needs.1;
}
wire_step m past a (deed.Take v) w is needs = record {
  size = is.size;
  room_left = is.room_left;
  cells_are = is.cells_are;
  codes_are = is.codes_are;
  burst_is = is.burst_is;
  due_is = ap (λ b. history.due_after m a (deed.Take v) b) is.due_is;
  begun_is = taken_rests m past w.begun (open_of past) w.chip needs is.begun_is;
}

-- what it asks of the chip holds
codes_within : (past : List Entry) → length (codes past) ≤ length past
codes_within [] = omega arith
codes_within (e ∷ past) = by_deed e.deed (codes_within past)
  where
    shorter : (b : Bool) → length (codes past) ≤ length past → length (cond b (drop 1 (codes past)) (codes past)) ≤ suc (length past)
    shorter true below = rw (length-drop 1 (codes past)) (omega arith)
    shorter false below = omega arith

    by_deed : (d : Deed) → length (codes past) ≤ length past → length (codes_after (open_of past) d (codes past)) ≤ suc (length past)
    by_deed (deed.Push q) below = rw (length-append (codes past) (q ∷ [])) (omega arith)
    by_deed (deed.Ctl (effect.Out v)) below = shorter (history.asks_code (open_of past)) below
    by_deed (deed.Ctl effect.Taken) below = omega arith
    by_deed (deed.Ctl effect.Put) below = omega arith
    by_deed (deed.Ctl effect.Calm) below = omega arith
    by_deed deed.Seek below = omega arith
    by_deed deed.Busy below = omega arith
    by_deed deed.Woken below = omega arith
    by_deed deed.Own below = omega arith
    by_deed deed.Disown below = omega arith
    by_deed (deed.Leave s) below = omega arith
    by_deed (deed.Read c v) below = omega arith
    by_deed (deed.Write c v) below = omega arith
    by_deed (deed.Begin r) below = omega arith
    by_deed (deed.Step h) below = omega arith
    by_deed (deed.Take v) below = omega arith
    by_deed (deed.Raise n) below = omega arith
    by_deed (deed.Latch n) below = omega arith
    by_deed (deed.Assert n) below = omega arith
    by_deed (deed.Drop n) below = omega arith
    by_deed (deed.Claim n) below = omega arith
    by_deed (deed.Start j) below = omega arith
    by_deed (deed.Finish j) below = omega arith
    by_deed (deed.Notify x y) below = omega arith
    by_deed (deed.Up n) below = omega arith
    by_deed (deed.Down n) below = omega arith

pub wire_takes : (m : MachineData) (past : List Entry) (d : Deed) (w : WireData) → IsWire m past w → WireNeeds m past d w → Takes d w
wire_takes m past (deed.Step h) w is needs = (told m past w is).stands
wire_takes m past (deed.Ctl effect.Calm) w is needs = (is.burst_is ∙ needs.0, rests w.begun (open_of past) w.chip needs.1 is.begun_is)
wire_takes m past (deed.Push q) w is needs = (λ none. below q needs.0 none, let within : length (codes past) ≤ length past = codes_within past in let few : length past < w.chip.room = needs.1 in rw is.codes_are (omega arith))
  where
    below : (q : ℕ) → nat_lt 0 q ≡ true → q ≡ 0 → ⊥
    below q some none = let more : 0 < q = ltb-true 0 q some in absurd (omega arith)
wire_takes m past (deed.Ctl effect.Taken) w is needs = tt
wire_takes m past (deed.Ctl (effect.Out v)) w is needs = tt
wire_takes m past (deed.Ctl effect.Put) w is needs = tt
wire_takes m past deed.Seek w is needs = tt
wire_takes m past deed.Busy w is needs = tt
wire_takes m past deed.Woken w is needs = tt
wire_takes m past deed.Own w is needs = tt
wire_takes m past deed.Disown w is needs = tt
wire_takes m past (deed.Leave s) w is needs = tt
wire_takes m past (deed.Read c v) w is needs = tt
wire_takes m past (deed.Write c v) w is needs = tt
wire_takes m past (deed.Begin r) w is needs = tt
wire_takes m past (deed.Take v) w is needs = tt
wire_takes m past (deed.Raise n) w is needs = tt
wire_takes m past (deed.Latch n) w is needs = tt
wire_takes m past (deed.Assert n) w is needs = tt
wire_takes m past (deed.Drop n) w is needs = tt
wire_takes m past (deed.Claim n) w is needs = tt
wire_takes m past (deed.Start j) w is needs = tt
wire_takes m past (deed.Finish j) w is needs = tt
wire_takes m past (deed.Notify x y) w is needs = tt
wire_takes m past (deed.Up n) w is needs = tt
wire_takes m past (deed.Down n) w is needs = tt
