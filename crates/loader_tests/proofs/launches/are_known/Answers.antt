use Rattle.std.proofs.Common.{rules, ◌≡◌, slice_get, true}
use Rattle.loader_tests.specs.Launches.{is_known}
use Rattle.loader_tests.proofs.Cases.{one_more}
use Rattle.loader_tests.proofs.launches.are_known.Goals as goal

-- the places so far and one more
pub loop-place-preserved : goal.loop-place-preserved
loop-place-preserved c =
    let here : is_known (slice_get c.args.args.now c.loop-place.place) ≡ true = search rules in
    one_more (λ k. is_known (slice_get c.args.args.now k) ≡ true) c.loop-place.place c.loop-place.invariant here
