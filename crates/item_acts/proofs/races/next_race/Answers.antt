use Rattle.std.proofs.Common.{map, arith, subst, inl, inr}
use Rattle.std.proofs.lemmas.Bool.{cases_eq}
use Rattle.item_acts.specs.Worlds.{access_from}
use Rattle.item_acts.specs.LeastRace.{RacesAt}
use Rattle.item_acts.proofs.RaceTests.{no_race_at, race_within, next_race_at}
use Rattle.item_acts.proofs.races.next_race.Goals as goal

pub returns-then-races : goal.returns-then-races
returns-then-races c =
    next_race_at c.args.log.now c.args.one c.loop-other.other _ _ (omega arith) (omega arith) c.loop-other.invariant c.if-races.ensures

pub loop-other-preserved : goal.loop-other-preserved
loop-other-preserved c = λ k behind before at.
    elim (cases_eq k c.loop-other.other) [
      | inl e ↦
          no_race_at c.args.log.now c.args.one c.loop-other.other _ _ c.requires (omega arith) c.if-races.ensures
          (subst (λ j. RacesAt (map access_from c.args.log.now) c.args.one j) e at)
      | inr differ ↦ c.loop-other.invariant k behind (omega arith) at
    ]

pub returns : goal.returns
returns c = λ other behind at. c.loop-other.invariant other behind (let within = race_within c.args.log.now c.args.one other at in omega arith) at
