-- Histories: what happened on a machine, as a list of entries.
--
-- A history has its oldest entry first. State before an entry is defined over the past, which is the same list with its
-- newest entry first: there the last entry that touches a piece of state is the first one found.
use Rattle.std.specs.Prelude.{ℕ, List, take, reverse, filter}
use Rattle.acpi_regs.specs.declared.actor.Actor.{Actor}
use Rattle.acpi_regs.specs.declared.entry.Entry.{Entry}
use Rattle.acpi_regs.specs.Actor.{same_actor}

-- the first i entries
abbrev pub before : List Entry → ℕ → List Entry
before history i = take i history

-- the past of entry i: the entries before it, the newest first
abbrev pub past_of : List Entry → ℕ → List Entry
past_of history i = reverse (before history i)

-- the entries of one actor, in order
abbrev pub entries_of : List Entry → Actor → List Entry
entries_of history a = filter (λ e. same_actor a e.actor) history
