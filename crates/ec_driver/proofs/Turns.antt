-- Each place in a request, and what a turn makes of it. At a place the first n moves are made.
use Rattle.std.proofs.Common.{ℕ, zero, suc, ◌≤◌, ◌≡◌, Bool, true, false, List, [], ◌∷◌, ◌++◌, length, take, drop, slice_index, slice_set, Option, Some, refl, sym, ◌∙◌, ap, subst, append_assoc, arith}
use Rattle.std.proofs.lemmas.List.{append-nil}
use Rattle.acpi_regs.specs.declared.entry.Request.{Request}
use Rattle.acpi_regs.specs.declared.entry.Request.TheVariants as request
use Rattle.acpi_regs.specs.declared.entry.Effect.TheVariants as effect
use Rattle.ec_chip.specs.Chip.{ChipData, next_effect, quiet}
use Rattle.ec_chip.specs.Parts.{first_code}
use Rattle.ec_driver.specs.Driver.{finished}
use Rattle.ec_driver.specs.Turns.{AlwaysDoes, AlwaysFollows, Does, FollowsWire, GivesFirst, Turn, World, Driver, Controller, Push, after_turn, after_turns, begun, pushed}
use Rattle.ec_driver.specs.Wire.{exchange_from, wire}

-- the byte that fills the blank; for a query it is q
abbrev pub blank_at : Request → List ℕ → ℕ → ℕ
blank_at (request.Rd x) cells q = slice_index cells x
blank_at (request.Wr x w) cells q = 0
blank_at request.Be cells q = 144
blank_at request.Bd cells q = 0
blank_at request.Qr cells q = q

-- the moves that were made when the host had made its last
abbrev pub made_at : ℕ → ℕ
made_at zero = 0
made_at (suc zero) = 1
made_at (suc (suc zero)) = 1
made_at (suc (suc (suc zero))) = 3
made_at (suc (suc (suc (suc zero)))) = 3
made_at (suc (suc (suc (suc (suc n))))) = 5

abbrev pub got_at : Request → ℕ → ℕ → ℕ
got_at (request.Rd x) (suc (suc (suc (suc (suc n))))) b = b
got_at request.Be (suc (suc (suc n))) b = b
got_at request.Qr (suc (suc (suc n))) b = b
got_at r n b = 0

abbrev pub cells_at : Request → ℕ → List ℕ → List ℕ
cells_at (request.Wr x w) (suc (suc (suc (suc (suc (suc n)))))) cells = slice_set cells x w
cells_at r n cells = cells

abbrev pub burst_at : Request → ℕ → Bool → Bool
burst_at request.Be (suc (suc n)) old = true
burst_at request.Bd (suc (suc n)) old = false
burst_at r n old = old

abbrev pub world_at : Request → ChipData → ℕ → ℕ → List ℕ → Bool → World
world_at r c n q codes command = record {
  driver = record { asks = r; made = made_at n; got = got_at r n (blank_at r c.cells q) };
  chip = record {
    cells = cells_at r n c.cells;
    codes = codes;
    room = c.room;
    exchange = exchange_from (take n (wire r (blank_at r c.cells q))) quiet;
    command = command;
    burst = burst_at r n c.burst;
  };
  moves = take n (wire r (blank_at r c.cells q));
}

-- the codes that wait, after these turns
abbrev pub CodesAt : Request → ℕ → ChipData → List Turn → ℕ → List ℕ → Type 0
CodesAt request.Qr (suc (suc n)) c done q codes = GivesFirst c done q codes
CodesAt r n c done q codes = codes ≡ c.codes ++ pushed done

pub record Reached (r : Request) (c : ChipData) (done : List Turn) (w : World) : Type 0 where
  pub n : ℕ
  pub q : ℕ
  pub codes : List ℕ
  pub command : Bool
  pub at : w ≡ world_at r c n q codes command
  pub within : n ≤ length (wire r 0)
  pub codes_at : CodesAt r n c done q codes

-- ---- codes over one more turn

pushed-append : (done later : List Turn) → pushed (done ++ later) ≡ pushed done ++ pushed later
pushed-append [] later = refl
pushed-append (Driver ∷ done) later = pushed-append done later
pushed-append (Controller ∷ done) later = pushed-append done later
pushed-append (Push q ∷ done) later = ap (λ l. q ∷ l) (pushed-append done later)

more_codes : (c : ChipData) (done : List Turn) (t : Turn) (codes : List ℕ) → codes ≡ c.codes ++ pushed done → codes ++ pushed (t ∷ []) ≡ c.codes ++ pushed (done ++ t ∷ [])
more_codes c done t codes are =
    ap (λ l. l ++ pushed (t ∷ [])) are ∙ (append_assoc c.codes (pushed done) (pushed (t ∷ [])) ∙ ap (λ l. c.codes ++ l) (sym (pushed-append done (t ∷ []))))

more_given : (c : ChipData) (done : List Turn) (t : Turn) (q : ℕ) (codes : List ℕ) → GivesFirst c done q codes → GivesFirst c (done ++ t ∷ []) q (codes ++ pushed (t ∷ []))
more_given c done t q codes g = record {
  earlier = g.earlier;
  later = g.later ++ t ∷ [];
  split = sym (append_assoc g.earlier (Controller ∷ g.later) (t ∷ [])) ∙ ap (λ l. l ++ t ∷ []) g.split;
  puts = g.puts;
  first = g.first;
  leaves = ap (λ l. l ++ pushed (t ∷ [])) g.leaves ∙ (append_assoc (drop 1 (c.codes ++ pushed g.earlier)) (pushed g.later) (pushed (t ∷ [])) ∙ ap (λ l. drop 1 (c.codes ++ pushed g.earlier) ++ l) (sym (pushed-append g.later (t ∷ []))));
}

codes_more : (r : Request) (n : ℕ) (c : ChipData) (done : List Turn) (t : Turn) (q : ℕ) (codes : List ℕ) → CodesAt r n c done q codes → CodesAt r n c (done ++ t ∷ []) q (codes ++ pushed (t ∷ []))
codes_more (request.Rd x) n c done t q codes are = more_codes c done t codes are
codes_more (request.Wr x w) n c done t q codes are = more_codes c done t codes are
codes_more request.Be n c done t q codes are = more_codes c done t codes are
codes_more request.Bd n c done t q codes are = more_codes c done t codes are
codes_more request.Qr zero c done t q codes are = more_codes c done t codes are
codes_more request.Qr (suc zero) c done t q codes are = more_codes c done t codes are
codes_more request.Qr (suc (suc n)) c done t q codes are = more_given c done t q codes are

codes_same : (r : Request) (n : ℕ) (c : ChipData) (done : List Turn) (t : Turn) (q : ℕ) (codes : List ℕ) → pushed (t ∷ []) ≡ [] → CodesAt r n c done q codes → CodesAt r n c (done ++ t ∷ []) q codes
codes_same r n c done t q codes none are =
    subst (CodesAt r n c (done ++ t ∷ []) q) (ap (λ l. codes ++ l) none ∙ append-nil codes) (codes_more r n c done t q codes are)

-- ---- the turns of the host and of the controller at each place

pub host_at : (r : Request) (c : ChipData) (done : List Turn) (n q : ℕ) (codes : List ℕ) (command : Bool) → n ≤ length (wire r 0) → CodesAt r n c done q codes → Reached r c (done ++ Driver ∷ []) (after_turn Driver (world_at r c n q codes command))
host_at (request.Rd x) c done zero q codes command within are = record { n = 1; q = q; codes = codes; command = true; at = refl; within = omega arith; codes_at = codes_same (request.Rd x) 1 c done Driver q codes refl are }
host_at (request.Rd x) c done (suc zero) q codes command within are = record { n = 1; q = q; codes = codes; command = command; at = refl; within = within; codes_at = codes_same (request.Rd x) 1 c done Driver q codes refl are }
host_at (request.Rd x) c done (suc (suc zero)) q codes command within are = record { n = 3; q = q; codes = codes; command = false; at = refl; within = omega arith; codes_at = codes_same (request.Rd x) 3 c done Driver q codes refl are }
host_at (request.Rd x) c done (suc (suc (suc zero))) q codes command within are = record { n = 3; q = q; codes = codes; command = command; at = refl; within = within; codes_at = codes_same (request.Rd x) 3 c done Driver q codes refl are }
host_at (request.Rd x) c done (suc (suc (suc (suc zero)))) q codes command within are = record { n = 5; q = q; codes = codes; command = command; at = refl; within = omega arith; codes_at = codes_same (request.Rd x) 5 c done Driver q codes refl are }
host_at (request.Rd x) c done (suc (suc (suc (suc (suc zero))))) q codes command within are = record { n = 5; q = q; codes = codes; command = command; at = refl; within = within; codes_at = codes_same (request.Rd x) 5 c done Driver q codes refl are }
host_at (request.Rd x) c done (suc (suc (suc (suc (suc (suc n)))))) q codes command within are = absurd (omega arith)
host_at (request.Wr x w) c done zero q codes command within are = record { n = 1; q = q; codes = codes; command = true; at = refl; within = omega arith; codes_at = codes_same (request.Wr x w) 1 c done Driver q codes refl are }
host_at (request.Wr x w) c done (suc zero) q codes command within are = record { n = 1; q = q; codes = codes; command = command; at = refl; within = within; codes_at = codes_same (request.Wr x w) 1 c done Driver q codes refl are }
host_at (request.Wr x w) c done (suc (suc zero)) q codes command within are = record { n = 3; q = q; codes = codes; command = false; at = refl; within = omega arith; codes_at = codes_same (request.Wr x w) 3 c done Driver q codes refl are }
host_at (request.Wr x w) c done (suc (suc (suc zero))) q codes command within are = record { n = 3; q = q; codes = codes; command = command; at = refl; within = within; codes_at = codes_same (request.Wr x w) 3 c done Driver q codes refl are }
host_at (request.Wr x w) c done (suc (suc (suc (suc zero)))) q codes command within are = record { n = 5; q = q; codes = codes; command = false; at = refl; within = omega arith; codes_at = codes_same (request.Wr x w) 5 c done Driver q codes refl are }
host_at (request.Wr x w) c done (suc (suc (suc (suc (suc zero))))) q codes command within are = record { n = 5; q = q; codes = codes; command = command; at = refl; within = within; codes_at = codes_same (request.Wr x w) 5 c done Driver q codes refl are }
host_at (request.Wr x w) c done (suc (suc (suc (suc (suc (suc zero)))))) q codes command within are = record { n = 6; q = q; codes = codes; command = command; at = refl; within = within; codes_at = codes_same (request.Wr x w) 6 c done Driver q codes refl are }
host_at (request.Wr x w) c done (suc (suc (suc (suc (suc (suc (suc n))))))) q codes command within are = absurd (omega arith)
host_at request.Be c done zero q codes command within are = record { n = 1; q = q; codes = codes; command = true; at = refl; within = omega arith; codes_at = codes_same request.Be 1 c done Driver q codes refl are }
host_at request.Be c done (suc zero) q codes command within are = record { n = 1; q = q; codes = codes; command = command; at = refl; within = within; codes_at = codes_same request.Be 1 c done Driver q codes refl are }
host_at request.Be c done (suc (suc zero)) q codes command within are = record { n = 3; q = q; codes = codes; command = command; at = refl; within = omega arith; codes_at = codes_same request.Be 3 c done Driver q codes refl are }
host_at request.Be c done (suc (suc (suc zero))) q codes command within are = record { n = 3; q = q; codes = codes; command = command; at = refl; within = within; codes_at = codes_same request.Be 3 c done Driver q codes refl are }
host_at request.Be c done (suc (suc (suc (suc n)))) q codes command within are = absurd (omega arith)
host_at request.Bd c done zero q codes command within are = record { n = 1; q = q; codes = codes; command = true; at = refl; within = omega arith; codes_at = codes_same request.Bd 1 c done Driver q codes refl are }
host_at request.Bd c done (suc zero) q codes command within are = record { n = 1; q = q; codes = codes; command = command; at = refl; within = within; codes_at = codes_same request.Bd 1 c done Driver q codes refl are }
host_at request.Bd c done (suc (suc zero)) q codes command within are = record { n = 2; q = q; codes = codes; command = command; at = refl; within = within; codes_at = codes_same request.Bd 2 c done Driver q codes refl are }
host_at request.Bd c done (suc (suc (suc n))) q codes command within are = absurd (omega arith)
host_at request.Qr c done zero q codes command within are = record { n = 1; q = q; codes = codes; command = true; at = refl; within = omega arith; codes_at = codes_same request.Qr 1 c done Driver q codes refl are }
host_at request.Qr c done (suc zero) q codes command within are = record { n = 1; q = q; codes = codes; command = command; at = refl; within = within; codes_at = codes_same request.Qr 1 c done Driver q codes refl are }
host_at request.Qr c done (suc (suc zero)) q codes command within are = record { n = 3; q = q; codes = codes; command = command; at = refl; within = omega arith; codes_at = codes_same request.Qr 3 c done Driver q codes refl are }
host_at request.Qr c done (suc (suc (suc zero))) q codes command within are = record { n = 3; q = q; codes = codes; command = command; at = refl; within = within; codes_at = codes_same request.Qr 3 c done Driver q codes refl are }
host_at request.Qr c done (suc (suc (suc (suc n)))) q codes command within are = absurd (omega arith)

given_now : (c : ChipData) (done : List Turn) (codes : List ℕ) → codes ≡ c.codes ++ pushed done → next_effect (after_turns done (begun request.Qr c)).chip ≡ Some (effect.Out (first_code codes)) → GivesFirst c (done ++ Controller ∷ []) (first_code codes) (drop 1 codes)
given_now c done codes are puts = record {
  earlier = done;
  later = [];
  split = refl;
  puts = puts;
  first = ap first_code are;
  leaves = ap (drop 1) are ∙ sym (append-nil (drop 1 (c.codes ++ pushed done)));
}

pub controller_at : (r : Request) (c : ChipData) (done : List Turn) (n q : ℕ) (codes : List ℕ) (command : Bool) → n ≤ length (wire r 0) → CodesAt r n c done q codes → next_effect (after_turns done (begun r c)).chip ≡ next_effect (world_at r c n q codes command).chip → Reached r c (done ++ Controller ∷ []) (after_turn Controller (world_at r c n q codes command))
controller_at (request.Rd x) c done zero q codes command within are was = record { n = 0; q = q; codes = codes; command = command; at = refl; within = within; codes_at = codes_same (request.Rd x) 0 c done Controller q codes refl are }
controller_at (request.Rd x) c done (suc zero) q codes command within are was = record { n = 2; q = q; codes = codes; command = command; at = refl; within = omega arith; codes_at = codes_same (request.Rd x) 2 c done Controller q codes refl are }
controller_at (request.Rd x) c done (suc (suc zero)) q codes command within are was = record { n = 2; q = q; codes = codes; command = command; at = refl; within = within; codes_at = codes_same (request.Rd x) 2 c done Controller q codes refl are }
controller_at (request.Rd x) c done (suc (suc (suc zero))) q codes command within are was = record { n = 4; q = q; codes = codes; command = command; at = refl; within = omega arith; codes_at = codes_same (request.Rd x) 4 c done Controller q codes refl are }
controller_at (request.Rd x) c done (suc (suc (suc (suc zero)))) q codes command within are was = record { n = 4; q = q; codes = codes; command = command; at = refl; within = within; codes_at = codes_same (request.Rd x) 4 c done Controller q codes refl are }
controller_at (request.Rd x) c done (suc (suc (suc (suc (suc zero))))) q codes command within are was = record { n = 5; q = q; codes = codes; command = command; at = refl; within = within; codes_at = codes_same (request.Rd x) 5 c done Controller q codes refl are }
controller_at (request.Rd x) c done (suc (suc (suc (suc (suc (suc n)))))) q codes command within are was = absurd (omega arith)
controller_at (request.Wr x w) c done zero q codes command within are was = record { n = 0; q = q; codes = codes; command = command; at = refl; within = within; codes_at = codes_same (request.Wr x w) 0 c done Controller q codes refl are }
controller_at (request.Wr x w) c done (suc zero) q codes command within are was = record { n = 2; q = q; codes = codes; command = command; at = refl; within = omega arith; codes_at = codes_same (request.Wr x w) 2 c done Controller q codes refl are }
controller_at (request.Wr x w) c done (suc (suc zero)) q codes command within are was = record { n = 2; q = q; codes = codes; command = command; at = refl; within = within; codes_at = codes_same (request.Wr x w) 2 c done Controller q codes refl are }
controller_at (request.Wr x w) c done (suc (suc (suc zero))) q codes command within are was = record { n = 4; q = q; codes = codes; command = command; at = refl; within = omega arith; codes_at = codes_same (request.Wr x w) 4 c done Controller q codes refl are }
controller_at (request.Wr x w) c done (suc (suc (suc (suc zero)))) q codes command within are was = record { n = 4; q = q; codes = codes; command = command; at = refl; within = within; codes_at = codes_same (request.Wr x w) 4 c done Controller q codes refl are }
controller_at (request.Wr x w) c done (suc (suc (suc (suc (suc zero))))) q codes command within are was = record { n = 6; q = q; codes = codes; command = command; at = refl; within = omega arith; codes_at = codes_same (request.Wr x w) 6 c done Controller q codes refl are }
controller_at (request.Wr x w) c done (suc (suc (suc (suc (suc (suc zero)))))) q codes command within are was = record { n = 6; q = q; codes = codes; command = command; at = refl; within = within; codes_at = codes_same (request.Wr x w) 6 c done Controller q codes refl are }
controller_at (request.Wr x w) c done (suc (suc (suc (suc (suc (suc (suc n))))))) q codes command within are was = absurd (omega arith)
controller_at request.Be c done zero q codes command within are was = record { n = 0; q = q; codes = codes; command = command; at = refl; within = within; codes_at = codes_same request.Be 0 c done Controller q codes refl are }
controller_at request.Be c done (suc zero) q codes command within are was = record { n = 2; q = q; codes = codes; command = command; at = refl; within = omega arith; codes_at = codes_same request.Be 2 c done Controller q codes refl are }
controller_at request.Be c done (suc (suc zero)) q codes command within are was = record { n = 2; q = q; codes = codes; command = command; at = refl; within = within; codes_at = codes_same request.Be 2 c done Controller q codes refl are }
controller_at request.Be c done (suc (suc (suc zero))) q codes command within are was = record { n = 3; q = q; codes = codes; command = command; at = refl; within = within; codes_at = codes_same request.Be 3 c done Controller q codes refl are }
controller_at request.Be c done (suc (suc (suc (suc n)))) q codes command within are was = absurd (omega arith)
controller_at request.Bd c done zero q codes command within are was = record { n = 0; q = q; codes = codes; command = command; at = refl; within = within; codes_at = codes_same request.Bd 0 c done Controller q codes refl are }
controller_at request.Bd c done (suc zero) q codes command within are was = record { n = 2; q = q; codes = codes; command = command; at = refl; within = omega arith; codes_at = codes_same request.Bd 2 c done Controller q codes refl are }
controller_at request.Bd c done (suc (suc zero)) q codes command within are was = record { n = 2; q = q; codes = codes; command = command; at = refl; within = within; codes_at = codes_same request.Bd 2 c done Controller q codes refl are }
controller_at request.Bd c done (suc (suc (suc n))) q codes command within are was = absurd (omega arith)
controller_at request.Qr c done zero q codes command within are was = record { n = 0; q = q; codes = codes; command = command; at = refl; within = within; codes_at = codes_same request.Qr 0 c done Controller q codes refl are }
controller_at request.Qr c done (suc zero) q codes command within are was = record {
  n = 2;
  q = first_code codes;
  codes = drop 1 codes;
  command = command;
  at = refl;
  within = omega arith;
  codes_at = given_now c done codes are was;
}
controller_at request.Qr c done (suc (suc zero)) q codes command within are was = record { n = 2; q = q; codes = codes; command = command; at = refl; within = within; codes_at = codes_same request.Qr 2 c done Controller q codes refl are }
controller_at request.Qr c done (suc (suc (suc zero))) q codes command within are was = record { n = 3; q = q; codes = codes; command = command; at = refl; within = within; codes_at = codes_same request.Qr 3 c done Controller q codes refl are }
controller_at request.Qr c done (suc (suc (suc (suc n)))) q codes command within are was = absurd (omega arith)

-- ---- every order of turns

reached_turn : (r : Request) (c : ChipData) (done : List Turn) (t : Turn) (w : World) → after_turns done (begun r c) ≡ w → Reached r c done w → Reached r c (done ++ t ∷ []) (after_turn t w)
reached_turn r c done Driver w was x =
    subst (λ v. Reached r c (done ++ Driver ∷ []) (after_turn Driver v)) (sym x.at) (host_at r c done x.n x.q x.codes x.command x.within x.codes_at)
reached_turn r c done Controller w was x =
    subst (λ v. Reached r c (done ++ Controller ∷ []) (after_turn Controller v)) (sym x.at) (controller_at r c done x.n x.q x.codes x.command x.within x.codes_at (ap (λ v. next_effect v.chip) (was ∙ x.at)))
reached_turn r c done (Push p) w was x = record {
  n = x.n;
  q = x.q;
  codes = x.codes ++ p ∷ [];
  command = x.command;
  at = ap (after_turn (Push p)) x.at;
  within = x.within;
  codes_at = codes_more r x.n c done (Push p) x.q x.codes x.codes_at;
}

turns_more : (done : List Turn) (t : Turn) (w : World) → after_turns (done ++ t ∷ []) w ≡ after_turn t (after_turns done w)
turns_more [] t w = refl
turns_more (d ∷ done) t w = turns_more done t (after_turn d w)

reached_turns : (r : Request) (c : ChipData) (turns done : List Turn) (w : World) → after_turns done (begun r c) ≡ w → Reached r c done w → Reached r c (done ++ turns) (after_turns turns w)
reached_turns r c [] done w was x = subst (λ l. Reached r c l w) (sym (append-nil done)) x
reached_turns r c (t ∷ later) done w was x =
    subst (λ l. Reached r c l (after_turns later (after_turn t w))) (append_assoc done (t ∷ []) later) (reached_turns r c later (done ++ t ∷ []) (after_turn t w) (turns_more done t (begun r c) ∙ ap (after_turn t) was) (reached_turn r c done t w was x))

reached_start : (r : Request) (c : ChipData) → c.exchange ≡ quiet → Reached r c [] (begun r c)
reached_start (request.Rd x) c rests = record { n = 0; q = 0; codes = c.codes; command = c.command; at = ap (λ e. begun (request.Rd x) (record c { exchange = e })) rests; within = omega arith; codes_at = sym (append-nil c.codes) }
reached_start (request.Wr x w) c rests = record { n = 0; q = 0; codes = c.codes; command = c.command; at = ap (λ e. begun (request.Wr x w) (record c { exchange = e })) rests; within = omega arith; codes_at = sym (append-nil c.codes) }
reached_start request.Be c rests = record { n = 0; q = 0; codes = c.codes; command = c.command; at = ap (λ e. begun request.Be (record c { exchange = e })) rests; within = omega arith; codes_at = sym (append-nil c.codes) }
reached_start request.Bd c rests = record { n = 0; q = 0; codes = c.codes; command = c.command; at = ap (λ e. begun request.Bd (record c { exchange = e })) rests; within = omega arith; codes_at = sym (append-nil c.codes) }
reached_start request.Qr c rests = record { n = 0; q = 0; codes = c.codes; command = c.command; at = ap (λ e. begun request.Qr (record c { exchange = e })) rests; within = omega arith; codes_at = sym (append-nil c.codes) }

reached : (r : Request) (c : ChipData) (turns : List Turn) → c.exchange ≡ quiet → Reached r c turns (after_turns turns (begun r c))
reached r c turns rests = reached_turns r c turns [] (begun r c) refl (reached_start r c rests)

-- ---- what each place says

follows_at : (r : Request) (c : ChipData) (n q : ℕ) (codes : List ℕ) (command : Bool) → n ≤ length (wire r 0) → FollowsWire r c (world_at r c n q codes command)
follows_at (request.Rd x) c zero q codes command within = record { blank = blank_at (request.Rd x) c.cells q; left = drop 0 (wire (request.Rd x) (blank_at (request.Rd x) c.cells q)); front = refl; host = refl; controller = refl; cells = refl; burst = refl; given = refl; stands = refl }
follows_at (request.Rd x) c (suc zero) q codes command within = record { blank = blank_at (request.Rd x) c.cells q; left = drop 1 (wire (request.Rd x) (blank_at (request.Rd x) c.cells q)); front = refl; host = refl; controller = refl; cells = refl; burst = refl; given = refl; stands = refl }
follows_at (request.Rd x) c (suc (suc zero)) q codes command within = record { blank = blank_at (request.Rd x) c.cells q; left = drop 2 (wire (request.Rd x) (blank_at (request.Rd x) c.cells q)); front = refl; host = refl; controller = refl; cells = refl; burst = refl; given = refl; stands = refl }
follows_at (request.Rd x) c (suc (suc (suc zero))) q codes command within = record { blank = blank_at (request.Rd x) c.cells q; left = drop 3 (wire (request.Rd x) (blank_at (request.Rd x) c.cells q)); front = refl; host = refl; controller = refl; cells = refl; burst = refl; given = refl; stands = refl }
follows_at (request.Rd x) c (suc (suc (suc (suc zero)))) q codes command within = record { blank = blank_at (request.Rd x) c.cells q; left = drop 4 (wire (request.Rd x) (blank_at (request.Rd x) c.cells q)); front = refl; host = refl; controller = refl; cells = refl; burst = refl; given = refl; stands = refl }
follows_at (request.Rd x) c (suc (suc (suc (suc (suc zero))))) q codes command within = record { blank = blank_at (request.Rd x) c.cells q; left = drop 5 (wire (request.Rd x) (blank_at (request.Rd x) c.cells q)); front = refl; host = refl; controller = refl; cells = refl; burst = refl; given = refl; stands = refl }
follows_at (request.Rd x) c (suc (suc (suc (suc (suc (suc n)))))) q codes command within = absurd (omega arith)
follows_at (request.Wr x w) c zero q codes command within = record { blank = blank_at (request.Wr x w) c.cells q; left = drop 0 (wire (request.Wr x w) (blank_at (request.Wr x w) c.cells q)); front = refl; host = refl; controller = refl; cells = refl; burst = refl; given = refl; stands = refl }
follows_at (request.Wr x w) c (suc zero) q codes command within = record { blank = blank_at (request.Wr x w) c.cells q; left = drop 1 (wire (request.Wr x w) (blank_at (request.Wr x w) c.cells q)); front = refl; host = refl; controller = refl; cells = refl; burst = refl; given = refl; stands = refl }
follows_at (request.Wr x w) c (suc (suc zero)) q codes command within = record { blank = blank_at (request.Wr x w) c.cells q; left = drop 2 (wire (request.Wr x w) (blank_at (request.Wr x w) c.cells q)); front = refl; host = refl; controller = refl; cells = refl; burst = refl; given = refl; stands = refl }
follows_at (request.Wr x w) c (suc (suc (suc zero))) q codes command within = record { blank = blank_at (request.Wr x w) c.cells q; left = drop 3 (wire (request.Wr x w) (blank_at (request.Wr x w) c.cells q)); front = refl; host = refl; controller = refl; cells = refl; burst = refl; given = refl; stands = refl }
follows_at (request.Wr x w) c (suc (suc (suc (suc zero)))) q codes command within = record { blank = blank_at (request.Wr x w) c.cells q; left = drop 4 (wire (request.Wr x w) (blank_at (request.Wr x w) c.cells q)); front = refl; host = refl; controller = refl; cells = refl; burst = refl; given = refl; stands = refl }
follows_at (request.Wr x w) c (suc (suc (suc (suc (suc zero))))) q codes command within = record { blank = blank_at (request.Wr x w) c.cells q; left = drop 5 (wire (request.Wr x w) (blank_at (request.Wr x w) c.cells q)); front = refl; host = refl; controller = refl; cells = refl; burst = refl; given = refl; stands = refl }
follows_at (request.Wr x w) c (suc (suc (suc (suc (suc (suc zero)))))) q codes command within = record { blank = blank_at (request.Wr x w) c.cells q; left = drop 6 (wire (request.Wr x w) (blank_at (request.Wr x w) c.cells q)); front = refl; host = refl; controller = refl; cells = refl; burst = refl; given = refl; stands = refl }
follows_at (request.Wr x w) c (suc (suc (suc (suc (suc (suc (suc n))))))) q codes command within = absurd (omega arith)
follows_at request.Be c zero q codes command within = record { blank = blank_at request.Be c.cells q; left = drop 0 (wire request.Be (blank_at request.Be c.cells q)); front = refl; host = refl; controller = refl; cells = refl; burst = refl; given = refl; stands = refl }
follows_at request.Be c (suc zero) q codes command within = record { blank = blank_at request.Be c.cells q; left = drop 1 (wire request.Be (blank_at request.Be c.cells q)); front = refl; host = refl; controller = refl; cells = refl; burst = refl; given = refl; stands = refl }
follows_at request.Be c (suc (suc zero)) q codes command within = record { blank = blank_at request.Be c.cells q; left = drop 2 (wire request.Be (blank_at request.Be c.cells q)); front = refl; host = refl; controller = refl; cells = refl; burst = refl; given = refl; stands = refl }
follows_at request.Be c (suc (suc (suc zero))) q codes command within = record { blank = blank_at request.Be c.cells q; left = drop 3 (wire request.Be (blank_at request.Be c.cells q)); front = refl; host = refl; controller = refl; cells = refl; burst = refl; given = refl; stands = refl }
follows_at request.Be c (suc (suc (suc (suc n)))) q codes command within = absurd (omega arith)
follows_at request.Bd c zero q codes command within = record { blank = blank_at request.Bd c.cells q; left = drop 0 (wire request.Bd (blank_at request.Bd c.cells q)); front = refl; host = refl; controller = refl; cells = refl; burst = refl; given = refl; stands = refl }
follows_at request.Bd c (suc zero) q codes command within = record { blank = blank_at request.Bd c.cells q; left = drop 1 (wire request.Bd (blank_at request.Bd c.cells q)); front = refl; host = refl; controller = refl; cells = refl; burst = refl; given = refl; stands = refl }
follows_at request.Bd c (suc (suc zero)) q codes command within = record { blank = blank_at request.Bd c.cells q; left = drop 2 (wire request.Bd (blank_at request.Bd c.cells q)); front = refl; host = refl; controller = refl; cells = refl; burst = refl; given = refl; stands = refl }
follows_at request.Bd c (suc (suc (suc n))) q codes command within = absurd (omega arith)
follows_at request.Qr c zero q codes command within = record { blank = first_code codes; left = drop 0 (wire request.Qr (first_code codes)); front = refl; host = refl; controller = refl; cells = refl; burst = refl; given = refl; stands = refl }
follows_at request.Qr c (suc zero) q codes command within = record { blank = first_code codes; left = drop 1 (wire request.Qr (first_code codes)); front = refl; host = refl; controller = refl; cells = refl; burst = refl; given = refl; stands = refl }
follows_at request.Qr c (suc (suc zero)) q codes command within = record { blank = blank_at request.Qr c.cells q; left = drop 2 (wire request.Qr (blank_at request.Qr c.cells q)); front = refl; host = refl; controller = refl; cells = refl; burst = refl; given = refl; stands = refl }
follows_at request.Qr c (suc (suc (suc zero))) q codes command within = record { blank = blank_at request.Qr c.cells q; left = drop 3 (wire request.Qr (blank_at request.Qr c.cells q)); front = refl; host = refl; controller = refl; cells = refl; burst = refl; given = refl; stands = refl }
follows_at request.Qr c (suc (suc (suc (suc n)))) q codes command within = absurd (omega arith)

pub follows : (r : Request) (c : ChipData) (turns : List Turn) → AlwaysFollows r c turns
follows r c turns rests =
    let x = reached r c turns rests in
    subst (FollowsWire r c) (sym x.at) (follows_at r c x.n x.q x.codes x.command x.within)

does_at : (r : Request) (c : ChipData) (done : List Turn) (n q : ℕ) (codes : List ℕ) (command : Bool) (taken : Option ℕ) → n ≤ length (wire r 0) → CodesAt r n c done q codes → finished (world_at r c n q codes command).driver (world_at r c n q codes command).chip ≡ Some taken → Does r c done taken (world_at r c n q codes command).chip
does_at (request.Rd x) c done zero q codes command taken within are given = cc
does_at (request.Rd x) c done (suc zero) q codes command taken within are given = cc
does_at (request.Rd x) c done (suc (suc zero)) q codes command taken within are given = cc
does_at (request.Rd x) c done (suc (suc (suc zero))) q codes command taken within are given = cc
does_at (request.Rd x) c done (suc (suc (suc (suc zero)))) q codes command taken within are given = cc
does_at (request.Rd x) c done (suc (suc (suc (suc (suc zero))))) q codes command taken within are given = (cc, record { cells_are = refl; codes_are = are; burst_is = refl; rests = refl })
does_at (request.Rd x) c done (suc (suc (suc (suc (suc (suc n)))))) q codes command taken within are given = absurd (omega arith)
does_at (request.Wr x w) c done zero q codes command taken within are given = cc
does_at (request.Wr x w) c done (suc zero) q codes command taken within are given = cc
does_at (request.Wr x w) c done (suc (suc zero)) q codes command taken within are given = cc
does_at (request.Wr x w) c done (suc (suc (suc zero))) q codes command taken within are given = cc
does_at (request.Wr x w) c done (suc (suc (suc (suc zero)))) q codes command taken within are given = cc
does_at (request.Wr x w) c done (suc (suc (suc (suc (suc zero))))) q codes command taken within are given = cc
does_at (request.Wr x w) c done (suc (suc (suc (suc (suc (suc zero)))))) q codes command taken within are given = (cc, record { cells_are = refl; codes_are = are; burst_is = refl; rests = refl })
does_at (request.Wr x w) c done (suc (suc (suc (suc (suc (suc (suc n))))))) q codes command taken within are given = absurd (omega arith)
does_at request.Be c done zero q codes command taken within are given = cc
does_at request.Be c done (suc zero) q codes command taken within are given = cc
does_at request.Be c done (suc (suc zero)) q codes command taken within are given = cc
does_at request.Be c done (suc (suc (suc zero))) q codes command taken within are given = (cc, record { cells_are = refl; codes_are = are; burst_is = refl; rests = refl })
does_at request.Be c done (suc (suc (suc (suc n)))) q codes command taken within are given = absurd (omega arith)
does_at request.Bd c done zero q codes command taken within are given = cc
does_at request.Bd c done (suc zero) q codes command taken within are given = cc
does_at request.Bd c done (suc (suc zero)) q codes command taken within are given = (cc, record { cells_are = refl; codes_are = are; burst_is = refl; rests = refl })
does_at request.Bd c done (suc (suc (suc n))) q codes command taken within are given = absurd (omega arith)
does_at request.Qr c done zero q codes command taken within are given = cc
does_at request.Qr c done (suc zero) q codes command taken within are given = cc
does_at request.Qr c done (suc (suc zero)) q codes command taken within are given = cc
does_at request.Qr c done (suc (suc (suc zero))) q codes command taken within are given = (q, cc, are, record { cells_are = refl; codes_are = refl; burst_is = refl; rests = refl })
does_at request.Qr c done (suc (suc (suc (suc n)))) q codes command taken within are given = absurd (omega arith)

pub does : (r : Request) (c : ChipData) (turns : List Turn) → AlwaysDoes r c turns
does r c turns rests taken given =
    let x = reached r c turns rests in
    let P : World → Type 0 = λ w. finished w.driver w.chip ≡ Some taken → Does r c turns taken w.chip in
    subst P (sym x.at) (λ so. does_at r c turns x.n x.q x.codes x.command taken x.within x.codes_at so) given
