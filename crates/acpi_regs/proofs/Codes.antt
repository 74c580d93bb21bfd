-- Codes are read back: what a code says has that code, and each code says what it was made of.
use Rattle.std.proofs.Common.{◌≡◌, ◌≢◌, inl, inr, ℕ, ◌+◌, ◌*◌, ◌/◌, ◌%◌, ◌==◌, ◌<◌, ◌≤◌, Bool, true, false, if◌then◌else◌, nat_lt, Option, Some, None, refl, sym, ap, subst, ◌∙◌, arith}
use Rattle.std.proofs.lemmas.Bool.{cases_eq, ne_eqb, eq-eqb}
use Rattle.std.proofs.lemmas.Bool.Decides.{nat_tests}
use Rattle.acpi_regs.specs.declared.actor.Actor.{Actor}
use Rattle.acpi_regs.specs.declared.actor.Actor.TheVariants as actor
use Rattle.acpi_regs.specs.declared.entry.Deed.{Deed}
use Rattle.acpi_regs.specs.declared.entry.Deed.TheVariants as deed
use Rattle.acpi_regs.specs.declared.entry.Effect.{Effect}
use Rattle.acpi_regs.specs.declared.entry.Effect.TheVariants as effect
use Rattle.acpi_regs.specs.declared.entry.Entry.{Entry}
use Rattle.acpi_regs.specs.declared.entry.HostMove.{HostMove}
use Rattle.acpi_regs.specs.declared.entry.HostMove.TheVariants as host
use Rattle.acpi_regs.specs.declared.entry.Request.{Request}
use Rattle.acpi_regs.specs.declared.entry.Request.TheVariants as request
use Rattle.acpi_regs.specs.declared.event.Event.{Event}
use Rattle.acpi_regs.specs.declared.event.Event.TheVariants as event
use Rattle.acpi_regs.specs.declared.event.Fixed.TheVariants as fixed
use Rattle.acpi_regs.specs.Packing.{Decodes, IsAsked, IsDeed, IsEffect, IsMove, IsNumbered, IsPackable, IsSeat, PacksApart, actor_code, deed_code, deed_word, effect_code, event_code, move_code, packing, payload, request_code}
use Rattle.acpi_regs.specs.Unpacking.{actor_at, begin_at, cell_at, ctl_at, deed_at, effect_at, entry_at, entry_of, event_deed, event_in, move_at, request_at, step_at}

-- ---- what a code says has that code

record Fits (A : Type 0) (Is : A → Type 0) (code : A → ℕ) (n : ℕ) (o : Option A) : Type 0 where
  fits : (x : A) → o ≡ Some x → Is x × (code x ≡ n)

none : {A : Type 0} {Is : A → Type 0} {code : A → ℕ} {n : ℕ} → Fits A Is code n None
none = record { fits = λ x h. cc }

some_is : {A : Type 0} {x y : A} → Some x ≡ Some y → x ≡ y
some_is h = cc

some : {A : Type 0} {Is : A → Type 0} {code : A → ℕ} {n : ℕ} {x : A} → Is x → code x ≡ n → Fits A Is code n (Some x)
some {A} {Is} {code} {n} {x} is same = record { fits = λ y h. subst (λ z. Is z × (code z ≡ n)) (some_is h) (is, same) }

when : {A : Type 0} {Is : A → Type 0} {code : A → ℕ} {n : ℕ} {o p : Option A} (b : Bool) → (b ≡ true → Fits A Is code n o) → (b ≡ false → Fits A Is code n p) → Fits A Is code n (if b then o else p)
when true f g = f refl
when false f g = g refl

at : {A : Type 0} {Is : A → Type 0} {code : A → ℕ} {n : ℕ} {o p : Option A} (m k : ℕ) → (m ≡ k → Fits A Is code n o) → (m ≢ k → Fits A Is code n p) → Fits A Is code n (if m == k then o else p)
at m k f g = elim (cases_eq m k) [
  | inl e ↦ rw (eq-eqb m k e) (f e)
  | inr d ↦ rw (ne_eqb m k d) (g d)
]

below : {A : Type 0} {Is : A → Type 0} {code : A → ℕ} {n : ℕ} {o p : Option A} (m k : ℕ) → (m < k → Fits A Is code n o) → (k ≤ m → Fits A Is code n p) → Fits A Is code n (if nat_lt m k then o else p)
below m k f g = when (nat_lt m k) (λ h. f (grind (arith, h))) (λ h. g (grind (arith, h)))

fits_actor : (n : ℕ) → Fits Actor IsSeat actor_code n (actor_at n)
fits_actor n =
    at n 0 (λ e. some tt (sym e)) (λ d0.
    at n 1 (λ e. some tt (sym e)) (λ d1.
    below n 6 (λ l. some (omega (arith, l)) (omega (arith, d0, d1))) (λ g6.
    at n 6 (λ e. some tt (sym e)) (λ d6.
    below n 15 (λ l. some (omega (arith, l)) (omega (arith, d6, g6))) (λ g15.
    below n 23 (λ l. some (omega (arith, l)) (omega (arith, g15))) (λ _. none))))))

fits_event : (n : ℕ) → Fits Event IsNumbered event_code n (event_in n)
fits_event n =
    below n 256 (λ l. some l refl) (λ _.
    at n 256 (λ e. some tt (sym e)) (λ _.
    at n 257 (λ e. some tt (sym e)) (λ _.
    at n 258 (λ e. some tt (sym e)) (λ _.
    at n 259 (λ e. some tt (sym e)) (λ _.
    at n 260 (λ e. some tt (sym e)) (λ _. none))))))

fits_request : (kind bytes w : ℕ) → w ≡ kind + 256 * bytes → Fits Request IsAsked request_code w (request_at kind bytes)
fits_request kind bytes w h =
    at kind 0 (λ e. below bytes 256 (λ l. some {x = request.Rd bytes} l (omega (arith, e, h))) (λ _. none)) (λ _.
    at kind 1 (λ e. below bytes 65536 (λ l. some {x = request.Wr (bytes % 256) (bytes / 256)} (omega (arith, l), omega (arith, l)) (omega (arith, e, h))) (λ _. none)) (λ _.
    at kind 2 (λ e. at bytes 0 (λ z. some tt (omega (arith, e, z, h))) (λ _. none)) (λ _.
    at kind 3 (λ e. at bytes 0 (λ z. some tt (omega (arith, e, z, h))) (λ _. none)) (λ _.
    at kind 4 (λ e. at bytes 0 (λ z. some tt (omega (arith, e, z, h))) (λ _. none)) (λ _. none)))))

fits_move : (kind byte w : ℕ) → w ≡ kind + 256 * byte → Fits HostMove IsMove move_code w (move_at kind byte)
fits_move kind byte w h =
    below byte 256 (λ l.
    at kind 0 (λ e. some {x = host.Sc byte} l (omega (arith, e, h))) (λ _.
    at kind 1 (λ e. some {x = host.Data byte} l (omega (arith, e, h))) (λ _.
    at kind 2 (λ e. some {x = host.Get byte} l (omega (arith, e, h))) (λ _. none)))) (λ _. none)

fits_effect : (kind byte w : ℕ) → w ≡ kind + 256 * byte → Fits Effect IsEffect effect_code w (effect_at kind byte)
fits_effect kind byte w h =
    at kind 0 (λ e. at byte 0 (λ z. some tt (omega (arith, e, z, h))) (λ _. none)) (λ _.
    at kind 1 (λ e. below byte 256 (λ l. some {x = effect.Out byte} l (omega (arith, e, h))) (λ _. none)) (λ _.
    at kind 2 (λ e. at byte 0 (λ z. some tt (omega (arith, e, z, h))) (λ _. none)) (λ _.
    at kind 3 (λ e. at byte 0 (λ z. some tt (omega (arith, e, z, h))) (λ _. none)) (λ _. none))))

-- ---- deeds

fits_begin : (load w : ℕ) (o : Option Request) → w ≡ 8 + 256 * load → Fits Request IsAsked request_code load o → Fits Deed IsDeed deed_word w (begin_at o)
fits_begin load w None h f = none
fits_begin load w (Some r) h f =
    let x = f.fits r refl in
    let same : request_code r ≡ load = x.1 in
    some {x = deed.Begin r} x.0 (omega (arith, h, same))

fits_step : (load w : ℕ) (o : Option HostMove) → w ≡ 9 + 256 * load → Fits HostMove IsMove move_code load o → Fits Deed IsDeed deed_word w (step_at o)
fits_step load w None h f = none
fits_step load w (Some r) h f =
    let x = f.fits r refl in
    let same : move_code r ≡ load = x.1 in
    some {x = deed.Step r} x.0 (omega (arith, h, same))

fits_ctl : (load w : ℕ) (o : Option Effect) → w ≡ 10 + 256 * load → Fits Effect IsEffect effect_code load o → Fits Deed IsDeed deed_word w (ctl_at o)
fits_ctl load w None h f = none
fits_ctl load w (Some r) h f =
    let x = f.fits r refl in
    let same : effect_code r ≡ load = x.1 in
    some {x = deed.Ctl r} x.0 (omega (arith, h, same))

fits_event_deed : (place load w : ℕ) (o : Option Event) → w ≡ place + 256 * load → Fits Event IsNumbered event_code load o → Fits Deed IsDeed deed_word w (event_deed place o)
fits_event_deed place load w None h f = none
fits_event_deed place load w (Some n) h f =
    let x = f.fits n refl in
    let is = x.0 in
    let same : event_code n ≡ load = x.1 in
    at place 13 (λ e. some {x = deed.Raise n} is (omega (arith, e, same, h))) (λ _.
    at place 14 (λ e. some {x = deed.Latch n} is (omega (arith, e, same, h))) (λ _.
    at place 15 (λ e. some {x = deed.Assert n} is (omega (arith, e, same, h))) (λ _.
    at place 16 (λ e. some {x = deed.Drop n} is (omega (arith, e, same, h))) (λ _.
    at place 17 (λ e. some {x = deed.Claim n} is (omega (arith, e, same, h))) (λ _.
    at place 21 (λ e. some {x = deed.Up n} is (omega (arith, e, same, h))) (λ _.
    at place 22 (λ e. some {x = deed.Down n} is (omega (arith, e, same, h))) (λ _. none)))))))

fits_deed : (place load w : ℕ) → w ≡ place + 256 * load → Fits Deed IsDeed deed_word w (deed_at place load)
fits_deed place load w h =
    let halves : load ≡ load % 256 + 256 * (load / 256) = omega arith in
    at place 0 (λ e. at load 0 (λ z. some tt (omega (arith, e, z, h))) (λ _. none)) (λ _.
    at place 1 (λ e. at load 0 (λ z. some tt (omega (arith, e, z, h))) (λ _. none)) (λ _.
    at place 2 (λ e. at load 0 (λ z. some tt (omega (arith, e, z, h))) (λ _. none)) (λ _.
    at place 3 (λ e. at load 0 (λ z. some tt (omega (arith, e, z, h))) (λ _. none)) (λ _.
    at place 4 (λ e. at load 0 (λ z. some tt (omega (arith, e, z, h))) (λ _. none)) (λ _.
    at place 5 (λ e. at load 0 (λ z. some tt (omega (arith, e, z, h))) (λ _. at load 1 (λ z. some tt (omega (arith, e, z, h))) (λ _. none))) (λ _.
    at place 6 (λ e. below load 4294967296 (λ l. some {x = deed.Read (cell_at load) (load / 16777216)} (omega arith, omega arith, omega (arith, l)) (omega (arith, e, h, l))) (λ _. none)) (λ _.
    at place 7 (λ e. below load 4294967296 (λ l. some {x = deed.Write (cell_at load) (load / 16777216)} (omega arith, omega arith, omega (arith, l)) (omega (arith, e, h, l))) (λ _. none)) (λ _.
    at place 8 (λ e. fits_begin load w (request_at (load % 256) (load / 256)) (omega (arith, e, h)) (fits_request (load % 256) (load / 256) load halves)) (λ _.
    at place 9 (λ e. fits_step load w (move_at (load % 256) (load / 256)) (omega (arith, e, h)) (fits_move (load % 256) (load / 256) load halves)) (λ _.
    at place 10 (λ e. fits_ctl load w (effect_at (load % 256) (load / 256)) (omega (arith, e, h)) (fits_effect (load % 256) (load / 256) load halves)) (λ _.
    at place 11 (λ e. at load 0 (λ z. some tt (omega (arith, e, z, h))) (λ _. at (load % 256) 1 (λ z. below load 65536 (λ l. some {x = deed.Take (Some (load / 256))} (omega (arith, l)) (omega (arith, e, z, h))) (λ _. none)) (λ _. none))) (λ _.
    at place 12 (λ e. below load 256 (λ l. some {x = deed.Push load} l (omega (arith, e, h))) (λ _. none)) (λ _.
    at place 18 (λ e. below load 4294967296 (λ l. some {x = deed.Start load} l (omega (arith, e, h))) (λ _. none)) (λ _.
    at place 19 (λ e. below load 4294967296 (λ l. some {x = deed.Finish load} l (omega (arith, e, h))) (λ _. none)) (λ _.
    at place 20 (λ e. below load 65536 (λ l. some {x = deed.Notify (load % 256) (load / 256)} (omega arith, omega (arith, l)) (omega (arith, e, h))) (λ _. none)) (λ _.
    fits_event_deed place load w (event_in load) h (fits_event load)))))))))))))))))

-- ---- entries

whole : (w p : ℕ) (a : Option Actor) (d : Option Deed) → p ≡ w / 256 → Fits Actor IsSeat actor_code (w % 256) a → Fits Deed IsDeed deed_word p d → Fits Entry IsPackable packing w (entry_of a d)
whole w p None d h f g = none
whole w p (Some a) None h f g = none
whole w p (Some a) (Some d) h f g =
    let x = f.fits a refl in
    let y = g.fits d refl in
    let low : actor_code a ≡ w % 256 = x.1 in
    let high : deed_code d + 256 * payload d ≡ p = y.1 in
    some (x.0, y.0) (omega (arith, low, high, h))

fits_entry : (w : ℕ) → Fits Entry IsPackable packing w (entry_at w)
fits_entry w = whole w (w / 256) (actor_at (w % 256)) (deed_at (w / 256 % 256) (w / 65536)) refl (fits_actor (w % 256)) (fits_deed (w / 256 % 256) (w / 65536) (w / 256) (omega arith))

-- ---- each code says what it was made of

round_actor : (a : Actor) → IsSeat a → actor_at (actor_code a) ≡ Some a
round_actor actor.Int h = refl
round_actor actor.Poll h = refl
round_actor (actor.Worker k) h = grind (arith, nat_tests)
round_actor actor.Ec h = refl
round_actor (actor.Device k) h = grind (arith, nat_tests)
round_actor (actor.Firmware k) h = grind (arith, nat_tests)

round_event : (n : Event) → IsNumbered n → event_in (event_code n) ≡ Some n
round_event (event.Gpe n) h = grind (arith, nat_tests)
round_event (event.Fixed fixed.Tmr) h = refl
round_event (event.Fixed fixed.Gbl) h = refl
round_event (event.Fixed fixed.Pwr) h = refl
round_event (event.Fixed fixed.Slp) h = refl
round_event (event.Fixed fixed.Rtc) h = refl

round_request : (r : Request) → IsAsked r → request_at (request_code r % 256) (request_code r / 256) ≡ Some r
round_request (request.Rd a) h = grind (arith, nat_tests)
round_request (request.Wr a v) h = grind (arith, nat_tests)
round_request request.Be h = refl
round_request request.Bd h = refl
round_request request.Qr h = refl

round_move : (m : HostMove) → IsMove m → move_at (move_code m % 256) (move_code m / 256) ≡ Some m
round_move (host.Sc b) h = grind (arith, nat_tests)
round_move (host.Data b) h = grind (arith, nat_tests)
round_move (host.Get b) h = grind (arith, nat_tests)

round_effect : (x : Effect) → IsEffect x → effect_at (effect_code x % 256) (effect_code x / 256) ≡ Some x
round_effect effect.Taken h = refl
round_effect (effect.Out b) h = grind (arith, nat_tests)
round_effect effect.Put h = refl
round_effect effect.Calm h = refl

round_deed : (d : Deed) → IsDeed d → deed_at (deed_code d) (payload d) ≡ Some d
round_deed deed.Seek h = refl
round_deed deed.Busy h = refl
round_deed deed.Woken h = refl
round_deed deed.Own h = refl
round_deed deed.Disown h = refl
round_deed (deed.Leave true) h = refl
round_deed (deed.Leave false) h = refl
round_deed (deed.Read c v) h = grind (arith, nat_tests)
round_deed (deed.Write c v) h = grind (arith, nat_tests)
round_deed (deed.Begin r) h = rw (round_request r h) refl
round_deed (deed.Step m) h = rw (round_move m h) refl
round_deed (deed.Ctl x) h = rw (round_effect x h) refl
round_deed (deed.Take None) h = refl
round_deed (deed.Take (Some b)) h = grind (arith, nat_tests)
round_deed (deed.Push q) h = grind (arith, nat_tests)
round_deed (deed.Raise n) h = rw (round_event n h) refl
round_deed (deed.Latch n) h = rw (round_event n h) refl
round_deed (deed.Assert n) h = rw (round_event n h) refl
round_deed (deed.Drop n) h = rw (round_event n h) refl
round_deed (deed.Claim n) h = rw (round_event n h) refl
round_deed (deed.Start j) h = grind (arith, nat_tests)
round_deed (deed.Finish j) h = grind (arith, nat_tests)
round_deed (deed.Notify x v) h = grind (arith, nat_tests)
round_deed (deed.Up n) h = rw (round_event n h) refl
round_deed (deed.Down n) h = rw (round_event n h) refl

actor_small : (a : Actor) → IsSeat a → actor_code a < 256
actor_small actor.Int h = omega arith
actor_small actor.Poll h = omega arith
actor_small (actor.Worker k) h = omega (arith, h)
actor_small actor.Ec h = omega arith
actor_small (actor.Device k) h = omega (arith, h)
actor_small (actor.Firmware k) h = omega (arith, h)

deed_small : (d : Deed) → deed_code d < 256
deed_small deed.Seek = omega arith
deed_small deed.Busy = omega arith
deed_small deed.Woken = omega arith
deed_small deed.Own = omega arith
deed_small deed.Disown = omega arith
deed_small (deed.Leave s) = omega arith
deed_small (deed.Read c v) = omega arith
deed_small (deed.Write c v) = omega arith
deed_small (deed.Begin r) = omega arith
deed_small (deed.Step m) = omega arith
deed_small (deed.Ctl x) = omega arith
deed_small (deed.Take o) = omega arith
deed_small (deed.Push q) = omega arith
deed_small (deed.Raise n) = omega arith
deed_small (deed.Latch n) = omega arith
deed_small (deed.Assert n) = omega arith
deed_small (deed.Drop n) = omega arith
deed_small (deed.Claim n) = omega arith
deed_small (deed.Start j) = omega arith
deed_small (deed.Finish j) = omega arith
deed_small (deed.Notify x v) = omega arith
deed_small (deed.Up n) = omega arith
deed_small (deed.Down n) = omega arith

pub round_entry : (e : Entry) → IsPackable e → entry_at (packing e) ≡ Some e
round_entry e is =
    let a = actor_small e.actor is.0 in
    let d = deed_small e.deed in
    let low : packing e % 256 ≡ actor_code e.actor = omega (arith, a, d) in
    let middle : packing e / 256 % 256 ≡ deed_code e.deed = omega (arith, a, d) in
    let high : packing e / 65536 ≡ payload e.deed = omega (arith, a, d) in
    ap (λ n. entry_of (actor_at n) (deed_at (packing e / 256 % 256) (packing e / 65536))) low
    ∙ ap (λ o. entry_of o (deed_at (packing e / 256 % 256) (packing e / 65536))) (round_actor e.actor is.0)
    ∙ ap (λ n. entry_of (Some e.actor) (deed_at n (packing e / 65536))) middle
    ∙ ap (λ n. entry_of (Some e.actor) (deed_at (deed_code e.deed) n)) high
    ∙ ap (entry_of (Some e.actor)) (round_deed e.deed is.1)

decide : (w : ℕ) (o : Option Entry) → o ≡ entry_at w → Fits Entry IsPackable packing w o → Decodes Entry IsPackable packing w o
decide w None is f = λ x ok same. let at_w : entry_at w ≡ Some x = ap entry_at (sym same) ∙ round_entry x ok in absurd (differ x (is ∙ at_w))
  where
    differ : (x : Entry) → None ≡ Some x → ⊥
    differ x h = cc
decide w (Some x) is f =
    let h = f.fits x refl in
    (h.0, h.1, λ y ok same. sym (some_is (is ∙ ap entry_at (sym same) ∙ round_entry y ok)))

pub decodes : (w : ℕ) → Decodes Entry IsPackable packing w (entry_at w)
decodes w = decide w (entry_at w) refl (fits_entry w)

pub apart : PacksApart
apart a b is_a is_b same = some_is (sym (round_entry a is_a) ∙ ap entry_at same ∙ round_entry b is_b)
