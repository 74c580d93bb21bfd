-- An entry of the journal in one word of 64 bits (own).
--
-- Bits 0 to 7 hold the actor, bits 8 to 15 the deed's place in its enum, and bits 16 to 47 what the deed carries. The
-- bits above are 0.
use Rattle.std.specs.Prelude.{◌≡◌, ℕ, ◌+◌, ◌*◌, ◌^◌, ◌<◌, Bool, Option, Some, None, if◌then◌else◌}
use Rattle.acpi_regs.specs.declared.actor.Actor.{Actor}
use Rattle.acpi_regs.specs.declared.actor.Actor.TheVariants as actor
use Rattle.acpi_regs.specs.declared.entry.Cell.{Cell}
use Rattle.acpi_regs.specs.declared.entry.Deed.{Deed}
use Rattle.acpi_regs.specs.declared.entry.Deed.TheVariants as deed
use Rattle.acpi_regs.specs.declared.entry.Effect.{Effect}
use Rattle.acpi_regs.specs.declared.entry.Effect.TheVariants as effect
use Rattle.acpi_regs.specs.declared.entry.Entry.{Entry}
use Rattle.acpi_regs.specs.declared.entry.HostMove.{HostMove}
use Rattle.acpi_regs.specs.declared.entry.HostMove.TheVariants as host
use Rattle.acpi_regs.specs.declared.entry.Request.{Request}
use Rattle.acpi_regs.specs.declared.entry.Request.TheVariants as request
use Rattle.acpi_regs.specs.declared.event.Event.{Event}
use Rattle.acpi_regs.specs.declared.event.Event.TheVariants as event
use Rattle.acpi_regs.specs.Event.{fixed_rank}

-- ---- the actor

abbrev pub actor_code : Actor → ℕ
actor_code actor.Int = 0
actor_code actor.Poll = 1
actor_code (actor.Worker k) = 2 + k
actor_code actor.Ec = 6
actor_code (actor.Device k) = 7 + k
actor_code (actor.Firmware k) = 15 + k

-- a machine has at most four workers, eight devices and eight threads of the firmware
abbrev pub IsSeat : Actor → Type 0
IsSeat (actor.Worker k) = k < 4
IsSeat (actor.Device k) = k < 8
IsSeat (actor.Firmware k) = k < 8
IsSeat _ = Unit {0}

-- ---- the deed

abbrev pub deed_code : Deed → ℕ
deed_code deed.Seek = 0
deed_code deed.Busy = 1
deed_code deed.Woken = 2
deed_code deed.Own = 3
deed_code deed.Disown = 4
deed_code (deed.Leave signalled) = 5
deed_code (deed.Read cell value) = 6
deed_code (deed.Write cell value) = 7
deed_code (deed.Begin asked) = 8
deed_code (deed.Step made) = 9
deed_code (deed.Ctl made) = 10
deed_code (deed.Take carried) = 11
deed_code (deed.Push code) = 12
deed_code (deed.Raise n) = 13
deed_code (deed.Latch n) = 14
deed_code (deed.Assert n) = 15
deed_code (deed.Drop n) = 16
deed_code (deed.Claim n) = 17
deed_code (deed.Start job) = 18
deed_code (deed.Finish job) = 19
deed_code (deed.Notify device value) = 20
deed_code (deed.Up n) = 21
deed_code (deed.Down n) = 22

-- ---- what it carries

abbrev pub flag_code : Bool → ℕ
flag_code b = if b then 1 else 0

abbrev pub cell_code : Cell → (value : ℕ) → ℕ
cell_code cell value = cell.region + 256 * cell.offset + 16777216 * value

abbrev pub request_code : Request → ℕ
request_code (request.Rd address) = 256 * address
request_code (request.Wr address value) = 1 + 256 * address + 65536 * value
request_code request.Be = 2
request_code request.Bd = 3
request_code request.Qr = 4

abbrev pub move_code : HostMove → ℕ
move_code (host.Sc byte) = 256 * byte
move_code (host.Data byte) = 1 + 256 * byte
move_code (host.Get byte) = 2 + 256 * byte

abbrev pub effect_code : Effect → ℕ
effect_code effect.Taken = 0
effect_code (effect.Out byte) = 1 + 256 * byte
effect_code effect.Put = 2
effect_code effect.Calm = 3

abbrev pub carried_code : Option ℕ → ℕ
carried_code None = 0
carried_code (Some byte) = 1 + 256 * byte

-- a GPE by its number, and a fixed event after the GPEs by its place in the order of events
abbrev pub event_code : Event → ℕ
event_code (event.Gpe n) = n
event_code (event.Fixed f) = 256 + fixed_rank f

abbrev pub payload : Deed → ℕ
payload (deed.Leave signalled) = flag_code signalled
payload (deed.Read cell value) = cell_code cell value
payload (deed.Write cell value) = cell_code cell value
payload (deed.Begin asked) = request_code asked
payload (deed.Step made) = move_code made
payload (deed.Ctl made) = effect_code made
payload (deed.Take carried) = carried_code carried
payload (deed.Push code) = code
payload (deed.Raise n) = event_code n
payload (deed.Latch n) = event_code n
payload (deed.Assert n) = event_code n
payload (deed.Drop n) = event_code n
payload (deed.Claim n) = event_code n
payload (deed.Start job) = job
payload (deed.Finish job) = job
payload (deed.Notify device value) = device + 256 * value
payload (deed.Up n) = event_code n
payload (deed.Down n) = event_code n
payload _ = 0

-- the deed's place and what it carries, as one number
abbrev pub deed_word : Deed → ℕ
deed_word d = deed_code d + 256 * payload d

-- the word of an entry
abbrev pub packing : Entry → ℕ
packing e = actor_code e.actor + 256 * deed_code e.deed + 65536 * payload e.deed

-- ---- the numbers that the types allow

abbrev pub IsByte : ℕ → Type 0
IsByte n = n < 256

abbrev pub IsAt : Cell → (value : ℕ) → Type 0
IsAt cell value = (cell.region < 256) × (cell.offset < 65536) × (value < 256)

abbrev pub IsAsked : Request → Type 0
IsAsked (request.Rd address) = address < 256
IsAsked (request.Wr address value) = (address < 256) × (value < 256)
IsAsked _ = Unit {0}

abbrev pub IsMove : HostMove → Type 0
IsMove (host.Sc byte) = byte < 256
IsMove (host.Data byte) = byte < 256
IsMove (host.Get byte) = byte < 256

abbrev pub IsEffect : Effect → Type 0
IsEffect (effect.Out byte) = byte < 256
IsEffect _ = Unit {0}

abbrev pub IsCarried : Option ℕ → Type 0
IsCarried None = Unit {0}
IsCarried (Some byte) = byte < 256

abbrev pub IsNumbered : Event → Type 0
IsNumbered (event.Gpe n) = n < 256
IsNumbered (event.Fixed f) = Unit {0}

abbrev pub IsDeed : Deed → Type 0
IsDeed (deed.Read cell value) = IsAt cell value
IsDeed (deed.Write cell value) = IsAt cell value
IsDeed (deed.Begin asked) = IsAsked asked
IsDeed (deed.Step made) = IsMove made
IsDeed (deed.Ctl made) = IsEffect made
IsDeed (deed.Take carried) = IsCarried carried
IsDeed (deed.Push code) = code < 256
IsDeed (deed.Raise n) = IsNumbered n
IsDeed (deed.Latch n) = IsNumbered n
IsDeed (deed.Assert n) = IsNumbered n
IsDeed (deed.Drop n) = IsNumbered n
IsDeed (deed.Claim n) = IsNumbered n
IsDeed (deed.Start job) = job < 2 ^ 32
IsDeed (deed.Finish job) = job < 2 ^ 32
IsDeed (deed.Notify device value) = (device < 256) × (value < 256)
IsDeed (deed.Up n) = IsNumbered n
IsDeed (deed.Down n) = IsNumbered n
IsDeed _ = Unit {0}

-- an entry whose numbers are in range
abbrev pub IsPackable : Entry → Type 0
IsPackable e = IsSeat e.actor × IsDeed e.deed

-- ---- reading a code

-- what a number decodes to: none if it is the code of no A in range, else the one A in range whose code it is
abbrev pub Decodes : (A : Type 0) → (A → Type 0) → (A → ℕ) → ℕ → Option A → Type 0
Decodes A Is code n None = (x : A) → Is x → code x ≡ n → ⊥
Decodes A Is code n (Some x) = Is x × (code x ≡ n) × ((y : A) → Is y → code y ≡ n → y ≡ x)

-- two entries in range with the same packing are the same entry
abbrev pub PacksApart : Type 0
PacksApart = (a b : Entry) → IsPackable a → IsPackable b → packing a ≡ packing b → a ≡ b
