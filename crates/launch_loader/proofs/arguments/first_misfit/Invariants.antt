use Rattle.std.proofs.Common.{◌≡◌, ℕ, ◌<◌, true}
use Rattle.launch_loader.specs.Refusals.{fits_at}
use Rattle.launch_loader.proofs.arguments.first_misfit.Given as goal

abbrev pub invariant-loop-place : goal.invariant-loop-place
invariant-loop-place l = (k : ℕ) → k < l.place → fits_at l.buffers l.kinds l.args k ≡ true
