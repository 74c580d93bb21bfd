-- What the board keeps of the Global Lock (ACPI 6.5, section 5.2.10.1).
use Rattle.std.specs.Prelude.{Bool, List, Option}
use Rattle.acpi_regs.specs.declared.actor.Actor.{Actor}
use Rattle.acpi_regs.specs.declared.actor.Side.{Side}
use Rattle.acpi_regs.specs.declared.actor.Side.TheVariants as side
use Rattle.acpi_regs.specs.declared.entry.Deed.{Deed}
use Rattle.acpi_regs.specs.declared.entry.Entry.{Entry}
use Rattle.acpi_regs.specs.Lock.{owner, owner_after, seeker, seeker_after, wake, wake_after}
use Rattle.machine_core.specs.declared.lock.LockState.{LockState}

-- what the past tells of the lock
abbrev pub lock_of : List Entry → LockState
lock_of past = record {
  owner = owner past;
  os_seeker = seeker side.Os past;
  firmware_seeker = seeker side.Firmware
      past;
  os_wake = wake side.Os past;
  firmware_wake = wake side.Firmware past;
}

-- an entry's effect on each part of it
abbrev pub lock_after : Actor → Deed → LockState → LockState
lock_after a d old = record {
  owner = owner_after a d old.owner;
  os_seeker = seeker_after side.Os a d old.os_seeker;
  firmware_seeker = seeker_after side.Firmware a d old.firmware_seeker;
  os_wake = wake_after side.Os a d
      old.os_wake;
  firmware_wake = wake_after side.Firmware a d old.firmware_wake;
}

abbrev pub seeker_on : LockState → Side → Option Actor
seeker_on lock side.Os = lock.os_seeker
seeker_on lock side.Firmware = lock.firmware_seeker

abbrev pub wake_on : LockState → Side → Bool
wake_on lock side.Os = lock.os_wake
wake_on lock side.Firmware = lock.firmware_wake
