use Rattle.std.proofs.Common.{ℕ, ◌<◌, map}
use Rattle.item_acts.specs.Worlds.{access_from}
use Rattle.item_acts.specs.LeastRace.{RacesAt}
use Rattle.item_acts.proofs.races.next_race.Given as goal

abbrev pub invariant-loop-other : goal.invariant-loop-other
invariant-loop-other l = (k : ℕ) → l.one < k → k < l.other → RacesAt (map access_from l.log) l.one k → ⊥
