-- The room for what cores give back.
use Rattle.std.specs.Prelude.{◌≡◌, ℕ, ◌+◌, ◌≤◌, List, [], ◌∷◌, ◌++◌, length, map}
use Rattle.std.specs.Vec.{vec_capacity}
use Rattle.core_threads.specs.Joins.{claimer_in, port_in, record_of}
use Rattle.core_threads.specs.declared.room.Room.{Room}
use Rattle.core_threads.specs.declared.work.CoreWork.{CoreWork}

-- there is room for so many cores more
pub record HasRoom (cores : ℕ) (r : Room) : Type 0 where
  pub ports : length r.ports.items + cores ≤ vec_capacity r.ports
  pub claimers : length r.claimers.items + cores ≤ vec_capacity r.claimers
  pub records : length r.records.items + cores ≤ vec_capacity r.records

-- nothing was given back yet
pub record IsEmptyRoom (r : Room) : Type 0 where
  pub ports : r.ports.items ≡ []
  pub claimers : r.claimers.items ≡ []
  pub records : r.records.items ≡ []

-- there is as much room as before
pub record SameRoom (r s : Room) : Type 0 where
  pub ports : vec_capacity s.ports ≡ vec_capacity r.ports
  pub claimers : vec_capacity s.claimers ≡ vec_capacity r.claimers
  pub records : vec_capacity s.records ≡ vec_capacity r.records

-- what a core gives back stands behind the rest
pub record Takes {P E : Type 0} (r : Room) (w : CoreWork P E) (s : Room) : Type 0 where
  pub ports : s.ports.items ≡ r.ports.items ++ port_in w ∷ []
  pub claimers : s.claimers.items ≡ r.claimers.items ++ claimer_in w ∷ []
  pub records : s.records.items ≡ r.records.items ++ record_of w ∷ []
  pub same : SameRoom r s

-- what some cores give back stands behind the rest, in their order
pub record TakesAll {P E : Type 0} (works : List (CoreWork P E)) (r s : Room) : Type 0 where
  pub ports : s.ports.items ≡ r.ports.items ++ map port_in works
  pub claimers : s.claimers.items ≡ r.claimers.items ++ map claimer_in works
  pub records : s.records.items ≡ r.records.items ++ map record_of works
  pub same : SameRoom r s
