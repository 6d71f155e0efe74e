use Rattle.std.proofs.Common.{ℕ, ◌<◌, ◌≤◌}
use Rattle.std.specs.Prelude.{slice_index}
use Rattle.loader_tests.proofs.launches.are_sizes.Given as goal

abbrev pub invariant-loop-dimension : goal.invariant-loop-dimension
invariant-loop-dimension l = (d : ℕ) → d < l.dimension → 1 ≤ slice_index l.sizes d
