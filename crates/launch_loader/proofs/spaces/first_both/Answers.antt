use Rattle.std.proofs.Common.{rules, ◌≡◌, ◌<◌, ℕ, false}
use Rattle.launch_loader.specs.Spaces.{clash_at}
use Rattle.launch_loader.proofs.Steps.{one_more}
use Rattle.launch_loader.proofs.spaces.first_both.Goals as goal

-- the places so far and one more
pub loop-place-preserved : goal.loop-place-preserved
loop-place-preserved c =
    let here : (j : ℕ) → j < c.loop-place.place → clash_at c.args.kinds.now c.args.args.now j c.loop-place.place ≡ false = search rules in
    one_more (λ k. (j : ℕ) → j < k → clash_at c.args.kinds.now c.args.args.now j k ≡ false) c.loop-place.place c.loop-place.invariant here
