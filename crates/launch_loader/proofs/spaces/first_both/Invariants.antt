use Rattle.std.proofs.Common.{◌≡◌, ℕ, ◌<◌, false}
use Rattle.launch_loader.specs.Spaces.{clash_at}
use Rattle.launch_loader.proofs.spaces.first_both.Given as goal

abbrev pub invariant-loop-place : goal.invariant-loop-place
invariant-loop-place l = (k : ℕ) → k < l.place → (j : ℕ) → j < k → clash_at l.kinds l.args j k ≡ false
