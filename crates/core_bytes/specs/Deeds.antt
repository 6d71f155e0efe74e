-- What a core does to its cache: reads, writes, and carrying out what waits, each with the entries that it makes on the bus.
use Rattle.std.specs.Prelude.{◌≡◌, ℕ, ◌%◌, List, [], ◌∷◌, ◌++◌}
use Rattle.vx_base.specs.Bytes.{bytes_of}
use Rattle.vx_base.specs.declared.types.Size.{Size}
use Rattle.memory_banks.specs.declared.entry.BusEntry.{BusEntry}
use Rattle.l1_cache.specs.Accesses.{Drains, Reads, Writes}
use Rattle.l1_cache.specs.Lines.{Lines}

-- A read of a field with its answer, a write of the low bytes of a value to a field, or the carrying out of all that waits. A field
-- begins at a byte of the bus's words.
pub data Act : Type 0 where
  Reading : ℕ → Size → ℕ → Act
  Writing : ℕ → Size → ℕ → Act
  Draining : Act

-- a deed: an act and its entries
pub record Deed : Type 0 where
  pub act : Act
  pub entries : List BusEntry

-- the entries of deeds, in order
abbrev pub entries_in : List Deed → List BusEntry
entries_in [] = []
entries_in (d ∷ deeds) = d.entries ++ entries_in deeds

-- an act makes these entries, where the core's cache and the policy of the cache stand so before it and so behind it
abbrev pub ActsSo : {E : Type 0} → (E → ℕ → ℕ → ℕ → ℕ → E → Type 0) → ℕ → Act → List BusEntry → Lines → E → Lines → E → Type 0
ActsSo evicts port (Reading address size answer) entries lines policy lines' policy' =
    (address % bytes_of size ≡ 0) × Reads evicts port address size lines policy entries answer lines' policy'
ActsSo evicts port (Writing address size value) entries lines policy lines' policy' =
    (address % bytes_of size ≡ 0) × Writes port address size value lines entries lines' × (policy' ≡ policy)
ActsSo evicts port Draining entries lines policy lines' policy' = Drains port lines entries lines' × (policy' ≡ policy)

-- a cache with its policy
pub record CacheWithPolicy (E : Type 0) : Type 0 where
  pub lines : Lines
  pub policy : E

abbrev pub Does : {E : Type 0} → (E → ℕ → ℕ → ℕ → ℕ → E → Type 0) → ℕ → Deed → CacheWithPolicy E → CacheWithPolicy E → Type 0
Does evicts port d k k' = ActsSo evicts port d.act d.entries k.lines k.policy k'.lines k'.policy

-- deeds in order
abbrev pub DoesAll : {E : Type 0} → (E → ℕ → ℕ → ℕ → ℕ → E → Type 0) → ℕ → List Deed → CacheWithPolicy E → CacheWithPolicy E → Type 0
DoesAll evicts port [] k k' = k' ≡ k
DoesAll {E} evicts port (d ∷ deeds) k k' = (between : CacheWithPolicy E) × Does evicts port d k between × DoesAll evicts port deeds between k'
