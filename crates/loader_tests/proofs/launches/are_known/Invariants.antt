use Rattle.std.proofs.Common.{◌≡◌, ℕ, ◌<◌, slice_get, true}
use Rattle.loader_tests.specs.Launches.{is_known}
use Rattle.loader_tests.proofs.launches.are_known.Given as goal

abbrev pub invariant-loop-place : goal.invariant-loop-place
invariant-loop-place l = (k : ℕ) → k < l.place → is_known (slice_get l.args k) ≡ true
