use Rattle.std.proofs.Common.{◌≡◌, ℕ, ◌<◌, false}
use Rattle.launch_loader.specs.Spaces.{clash_at}
use Rattle.launch_loader.proofs.spaces.earlier_clash.Given as goal

abbrev pub invariant-loop-earlier : goal.invariant-loop-earlier
invariant-loop-earlier l = (j : ℕ) → j < l.earlier → clash_at l.kinds l.args j l.place ≡ false
