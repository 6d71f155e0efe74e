use Rattle.std.proofs.Common.{◌≡◌, ◌≤◌, ◌+◌, drop}
use Rattle.uniformity.specs.Sweeps.{mark_count}
use Rattle.uniformity.proofs.marks.count_marks.Given as goal

abbrev pub invariant-loop-k : goal.invariant-loop-k
invariant-loop-k l = (l.count + mark_count (drop l.k l.marks) ≡ mark_count l.marks) × (l.count ≤ l.k)
