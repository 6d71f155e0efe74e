-- Which two accesses of a log race first.
use Rattle.std.specs.Prelude.{◌≡◌, ℕ, ◌<◌, ◌≤◌, IsTrue, ◌⊎◌, List, Some, slice_get}
use Rattle.item_acts.specs.declared.acts.Place.{Place}
use Rattle.item_acts.specs.Launches.{covers}
use Rattle.item_acts.specs.Tame.{Access, IsRace}

-- some byte is in both fields
pub record ShareByte (place : Place) (n : ℕ) (other : Place) (m : ℕ) : Type 0 where
  pub byte : Place
  pub first : IsTrue (covers place n byte)
  pub second : IsTrue (covers other m byte)

-- the accesses at two places of a log race
pub record RacesAt (log : List Access) (one other : ℕ) : Type 0 where
  pub first : Access
  pub second : Access
  pub first_is : slice_get log one ≡ Some first
  pub second_is : slice_get log other ≡ Some second
  pub race : IsRace first second

-- no access behind a place races with the one there
abbrev pub NoRaceFrom : List Access → ℕ → Type 0
NoRaceFrom log one = (other : ℕ) → one < other → RacesAt log one other → ⊥

-- the first access behind a place that races with the one there
pub record IsNextRace (log : List Access) (one other : ℕ) : Type 0 where
  pub behind : one < other
  pub race : RacesAt log one other
  pub least : (later : ℕ) → one < later → RacesAt log one later → other ≤ later

-- the least of the pairs of places that race: by the earlier place, and then by the later
pub record IsLeastRace (log : List Access) (one other : ℕ) : Type 0 where
  pub earlier : one < other
  pub race : RacesAt log one other
  pub least : (one' other' : ℕ) → one' < other' → RacesAt log one' other' → (one < one') ⊎ ((one ≡ one') × (other ≤ other'))
