-- What is reached through the loans that a core makes to its lanes.
use Rattle.std.specs.Prelude.{◌≡◌, ℕ}
use Rattle.vx_isa.specs.WarpSteps.{Access}
use Rattle.memory_banks.specs.declared.entry.BusEntry.{BusEntry}
use Rattle.l1_cache.specs.Caches.{lines_of}
use Rattle.vx_core.specs.Places.{Reach, Reaches}
use Rattle.vx_core.specs.declared.memory.CoreMemory.{CoreMemory}

-- what they lend
abbrev pub reach_of : {B E : Type 0} → CoreMemory B E → Reach B E
reach_of m = record { scratch = m.scratch.now; lines = lines_of m.cache.now; bus = m.bus.now; policy = m.evict.now; steps = m.steps.now }

-- the loans are the same, and so are the number of the banks, the words of the bus and the number under which its entries stand
pub record KeepsLoans {B E : Type 0} (count number : B → ℕ) (m n : CoreMemory B E) : Type 0 where
  pub banks : n.banks ≡ m.banks
  pub words : count n.bus.now ≡ count m.bus.now
  pub port : number n.bus.now ≡ number m.bus.now
  pub scratch : n.scratch.ghost_name ≡ m.scratch.ghost_name
  pub cache : n.cache.ghost_name ≡ m.cache.ghost_name
  pub bus : n.bus.ghost_name ≡ m.bus.ghost_name
  pub evict : n.evict.ghost_name ≡ m.evict.ghost_name
  pub steps : n.steps.ghost_name ≡ m.steps.ghost_name

-- an access through the loans
pub record ActsThrough {B E : Type 0} (acts : B → BusEntry → B → Type 0) (evicts : E → ℕ → ℕ → ℕ → ℕ → E → Type 0) (count number : B → ℕ) (m : CoreMemory B E) (a : Access) (n : CoreMemory B E) : Type 0 where
  pub reaches : Reaches acts evicts (count m.bus.now) (number m.bus.now) m.banks (reach_of m) a (reach_of n)
  pub kept : KeepsLoans count number m n
