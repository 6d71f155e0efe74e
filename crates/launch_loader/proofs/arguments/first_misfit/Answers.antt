use Rattle.std.proofs.Common.{rules, ◌≡◌, true}
use Rattle.launch_loader.specs.Refusals.{fits_at}
use Rattle.launch_loader.proofs.Steps.{one_more}
use Rattle.launch_loader.proofs.arguments.first_misfit.Goals as goal

-- the places so far and one more
pub loop-place-preserved : goal.loop-place-preserved
loop-place-preserved c =
    let here : fits_at c.args.buffers.now c.args.kinds.now c.args.args.now c.loop-place.place ≡ true = search rules in
    one_more (λ k. fits_at c.args.buffers.now c.args.kinds.now c.args.args.now k ≡ true) c.loop-place.place c.loop-place.invariant here
