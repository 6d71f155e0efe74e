-- What the lanes of a core reach, led on by deeds.
use Rattle.std.specs.Prelude.{◌≡◌, ℕ, List}
use Rattle.memory_banks.specs.declared.entry.BusEntry.{BusEntry}
use Rattle.memory_banks.specs.Buses.{MakesAll}
use Rattle.vx_core.specs.Places.{Reach, with_entries}
use Rattle.core_bytes.specs.Deeds.{Deed, DoesAll, CacheWithPolicy, entries_in}

-- its cache with the policy
abbrev pub kept_in : {B E : Type 0} → Reach B E → CacheWithPolicy E
kept_in p = record { lines = p.lines; policy = p.policy }

-- The deeds lead from one to another: their entries are made on the bus and counted, and they are done by the cache.
pub record Leads {B E : Type 0} (acts : B → BusEntry → B → Type 0) (evicts : E → ℕ → ℕ → ℕ → ℕ → E → Type 0) (port banks : ℕ) (deeds : List Deed) (p q : Reach B E) : Type 0 where
  pub made : MakesAll acts p.bus (entries_in deeds) q.bus
  pub does : DoesAll evicts port deeds (kept_in p) (kept_in q)
  pub counted : q.steps ≡ with_entries banks (entries_in deeds) p.steps

-- so do some deeds
pub record IsLed {B E : Type 0} (acts : B → BusEntry → B → Type 0) (evicts : E → ℕ → ℕ → ℕ → ℕ → E → Type 0) (port banks : ℕ) (p q : Reach B E) : Type 0 where
  pub deeds : List Deed
  pub leads : Leads acts evicts port banks deeds p q
