-- A bus of which the entries are counted.
use Rattle.std.specs.Prelude.{◌≡◌}
use Rattle.memory_banks.specs.declared.entry.BusEntry.{BusEntry}
use Rattle.vx_core.specs.Places.{with_entry}
use Rattle.vx_core.specs.declared.counting_bus.CountingBus.{CountingBus}

-- the loans and the number of the banks are the same
pub record KeepsCounting {B : Type 0} (b c : CountingBus B) : Type 0 where
  pub banks : c.banks ≡ b.banks
  pub bus : c.bus.ghost_name ≡ b.bus.ghost_name
  pub steps : c.steps.ghost_name ≡ b.steps.ghost_name

-- an entry is made on the bus, and counted
pub record CountsEntry {B : Type 0} (acts : B → BusEntry → B → Type 0) (b : CountingBus B) (e : BusEntry) (c : CountingBus B) : Type 0 where
  pub made : acts b.bus.now e c.bus.now
  pub counted : c.steps.now ≡ with_entry b.banks e b.steps.now
  pub kept : KeepsCounting b c
