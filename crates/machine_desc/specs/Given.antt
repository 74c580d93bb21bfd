-- What the parts of a description are before any rule is tested, and which machines they describe.
use Rattle.std.specs.Prelude.{ℕ, ◌≡◌, ◌==◌, ◌&&◌, ◌||◌, ◌⊎◌, not, nat_lt, ◌<◌, Bool, true, false, List, All, Option, Some, None}
use Rattle.std.specs.List.{list_all}
use Rattle.acpi_regs.specs.declared.event.Event.{Event}
use Rattle.acpi_regs.specs.declared.event.Event.TheVariants as event
use Rattle.acpi_regs.specs.Event.{is_gbl}
use Rattle.field_units.specs.Field.{Field}
use Rattle.handler_script.specs.declared.op.Op.{Op}
use Rattle.handler_script.specs.declared.op.Op.TheVariants as op
use Rattle.machine_desc.specs.declared.parts.ControllerPart.{ControllerPart}
use Rattle.machine_desc.specs.declared.parts.EventPart.{EventPart}
use Rattle.machine_desc.specs.declared.parts.MachineParts.{MachineParts}
use Rattle.machine_desc.specs.declared.parts.QueryPart.{QueryPart}
use Rattle.machine_desc.specs.Machine.{MachineData, act_fields, described}
use Rattle.machine_desc.specs.Rules.{first_fault}

-- a description is of version 1 or 2
abbrev pub IsVersion : ℕ → Type 0
IsVersion version = (version ≡ 1) ⊎ (version ≡ 2)

-- in version 1, which does not say so, each controller needs the Global Lock
abbrev pub FitsVersion : ℕ → Bool → Type 0
FitsVersion version glk = version ≡ 1 → glk ≡ true

abbrev pub HasGlk : ℕ → Option ControllerPart → Type 0
HasGlk version None = Unit {0}
HasGlk version (Some c) = FitsVersion version c.glk

-- only a general-purpose event is level
abbrev pub HasLevel : Event → Bool → Type 0
HasLevel (event.Fixed f) level = level ≡ false
HasLevel (event.Gpe n) level = Unit {0}

-- a pushed code is not 0
abbrev pub HasCode : Op → Type 0
HasCode (op.Push q) = 0 < q
HasCode _ = Unit {0}

abbrev pub HaveCodes : List Op → Type 0
HaveCodes ops = All HasCode ops

-- a listed event is not that of the Global Lock
pub record IsEventPart (e : EventPart) : Type 0 where
  pub listed : is_gbl e.event ≡ false
  pub level : HasLevel e.event e.level
  pub codes : HaveCodes e.script

pub record IsQueryPart (q : QueryPart) : Type 0 where
  pub code : 0 < q.code
  pub codes : HaveCodes q.script

abbrev pub HasQueries : Option ControllerPart → Type 0
HasQueries None = Unit {0}
HasQueries (Some c) = All IsQueryPart c.queries

-- what the form of a description sees to
pub record IsGiven (p : MachineParts) : Type 0 where
  pub version : IsVersion p.version
  pub glk : HasGlk p.version p.controller
  pub events : All IsEventPart p.events
  pub queries : HasQueries p.controller
  pub firmware : All HaveCodes p.firmware

-- the same as tests

abbrev pub is_version : ℕ → Bool
is_version version = (version == 1) || (version == 2)

abbrev pub has_glk : ℕ → Option ControllerPart → Bool
has_glk version None = true
has_glk version (Some c) = not (version == 1) || c.glk

abbrev pub has_level : Event → Bool → Bool
has_level (event.Fixed f) level = not level
has_level (event.Gpe n) level = true

abbrev pub has_code : Op → Bool
has_code (op.Push q) = nat_lt 0 q
has_code _ = true

abbrev pub is_event_part : EventPart → Bool
is_event_part e = not (is_gbl e.event) && (has_level e.event e.level && list_all has_code e.script)

abbrev pub is_query_part : QueryPart → Bool
is_query_part q = nat_lt 0 q.code && list_all has_code q.script

abbrev pub has_queries : Option ControllerPart → Bool
has_queries None = true
has_queries (Some c) = list_all is_query_part c.queries

abbrev pub have_codes : List (List Op) → Bool
have_codes scripts = list_all (λ ops. list_all has_code ops) scripts

unfoldable pub is_given : MachineParts → Bool
is_given p =
    is_version p.version
    && (has_glk p.version p.controller
    && (list_all is_event_part p.events && (has_queries p.controller && have_codes p.firmware)))

-- some parts describe the machine and break no rule
pub record IsDescribed (m : MachineData) : Type 0 where
  pub parts : MachineParts
  pub given : IsGiven parts
  pub kept : first_fault parts ≡ None
  pub same : described parts ≡ m

-- ... and the fields that acts go by are those of the machine
pub record IsKept (acting : List Field) (m : MachineData) : Type 0 where
  pub described : IsDescribed m
  pub acts : acting ≡ act_fields m
