-- What contracts see of a wire in memory.
use Rattle.std.specs.Prelude.{ℕ, List}
use Rattle.kc_wire.specs.Events.{WireEvent, Read, Wrote}
use Rattle.kc_wire.specs.declared.event.MemEvent.{MemEvent}
use Rattle.kc_wire.specs.declared.event.MemEvent.TheVariants as kept
use Rattle.kc_wire.specs.declared.faults.WireFaults.{WireFaults}

-- the event that a wire in memory keeps
abbrev pub event_of : MemEvent → WireEvent
event_of (kept.Read bytes) = Read bytes.items
event_of (kept.Wrote bytes) = Wrote bytes.items

-- all that happened, the bytes that are left to be read, and how many calls have failed
pub record WireState : Type 0 where
  pub history : List WireEvent
  pub left : List ℕ
  pub faults : WireFaults
