-- How the deeds of the cores and one history of the shared words fit together, and where each deed has its place in it.
use Rattle.std.specs.Prelude.{◌≡◌, ℕ, zero, suc, ◌+◌, ◌<◌, ◌≤◌, Bool, false, nat_eq, nat_lt, if◌then◌else◌, List, [], ◌∷◌, All, length}
use Rattle.memory_banks.specs.declared.entry.BusEntry.{BusEntry}
use Rattle.memory_banks.specs.Entries.{IsLegal, entries_of}
use Rattle.l1_cache.specs.Lines.{no_lines}
use Rattle.core_bytes.specs.Deeds.{Act, Deed, Draining, DoesAll, CacheWithPolicy, Reading, Writing, entries_in}

-- what a core did, from an empty cache on, with a policy that begins so; at the end nothing waits
pub record CoreDid {E : Type 0} (evicts : E → ℕ → ℕ → ℕ → ℕ → E → Type 0) (sets ways room : ℕ) (policy : E) (port : ℕ) (deeds : List Deed) : Type 0 where
  pub last : CacheWithPolicy E
  pub does : DoesAll evicts port deeds (record { lines = no_lines sets ways room; policy = policy }) last
  pub none_waits : last.lines.waiting ≡ []

-- an entry is of some core: the core with number c has the port c + 1
pub record IsOfCore (cores : ℕ) (e : BusEntry) : Type 0 where
  pub core : ℕ
  pub exists : core < cores
  pub port_is : e.port ≡ suc core

-- A run of cores on the words: the history is legal, each entry of it is of some core, and those of each core are the entries
-- of its deeds, in their order.
pub record BusRun {E : Type 0} (evicts : E → ℕ → ℕ → ℕ → ℕ → E → Type 0) (sets ways room : ℕ) (policies : ℕ → E) (opening : List ℕ) (cores : ℕ) (deeds : ℕ → List Deed) (history : List BusEntry) : Type 0 where
  pub legal : IsLegal opening history
  pub of_cores : All (IsOfCore cores) history
  pub projected : (core : ℕ) → core < cores → entries_of (suc core) history ≡ entries_in (deeds core)
  pub did : (core : ℕ) → core < cores → CoreDid evicts sets ways room (policies core) (suc core) (deeds core)

-- ---- places

-- how many entries the least beginning of a history has in which so many are of a port
abbrev pub place_after : ℕ → List BusEntry → ℕ → ℕ
place_after port history zero = 0
place_after port [] (suc m) = 0
place_after port (e ∷ history) (suc m) = suc (if nat_eq e.port port then place_after port history m else place_after port history (suc m))

-- whether a deed is a read that has made entries
abbrev pub loads : Act → List BusEntry → Bool
loads (Reading address size answer) entries = nat_lt 0 (length entries)
loads (Writing address size value) entries = false
loads Draining entries = false

-- The place of a deed, where its core has made so many entries before it and the deed before it stands at a place: a read that
-- loads stands behind the last of its entries, and every other deed where the one before it stands.
abbrev pub place_of : ℕ → List BusEntry → ℕ → ℕ → Deed → ℕ
place_of port history made before d = if loads d.act d.entries then place_after port history (made + length d.entries) else before

-- the places of deeds, one after another
abbrev pub places_from : ℕ → List BusEntry → ℕ → ℕ → List Deed → List ℕ
places_from port history made before [] = []
places_from port history made before (d ∷ deeds) =
    place_of port history made before d ∷ places_from port history (made + length d.entries) (place_of port history made before d) deeds

abbrev pub places : ℕ → List BusEntry → List Deed → List ℕ
places port history deeds = places_from port history 0 0 deeds

-- numbers that never fall, the first of them no less than one before
abbrev pub RisesFrom : ℕ → List ℕ → Type 0
RisesFrom before [] = Unit {0}
RisesFrom before (n ∷ rest) = (before ≤ n) × RisesFrom n rest
