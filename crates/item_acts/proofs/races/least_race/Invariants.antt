use Rattle.std.proofs.Common.{ℕ, ◌<◌, map}
use Rattle.item_acts.specs.Worlds.{access_from}
use Rattle.item_acts.specs.LeastRace.{NoRaceFrom}
use Rattle.item_acts.proofs.races.least_race.Given as goal

abbrev pub invariant-loop-one : goal.invariant-loop-one
invariant-loop-one l = (k : ℕ) → k < l.one → NoRaceFrom (map access_from l.log) k
