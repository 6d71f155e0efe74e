use Rattle.std.proofs.Common.{arith}
use Rattle.item_acts.proofs.RaceTests.{race_within, no_races, least_pair}
use Rattle.item_acts.proofs.races.least_race.Goals as goal

pub returns-in-Some : goal.returns-in-Some
returns-in-Some c = least_pair _ _ _ c.loop-one.invariant c.in-Some.ensures

pub returns : goal.returns
returns c = no_races _ (λ one other order at. c.loop-one.invariant one (let within = race_within c.args.log.now one other at in omega arith) other order at)
