use Rattle.std.proofs.Common.{◌≡◌}
use Rattle.kir.specs.Shapes.{code_of}
use Rattle.uniformity.specs.Sweeps.{mark_count}
use Rattle.uniformity.proofs.Sweeping.{AreAbove}
use Rattle.uniformity.proofs.sweeps.uniform.Given as goal

abbrev pub invariant-loop-left : goal.invariant-loop-left
invariant-loop-left l = (l.left ≡ mark_count l.marks) × AreAbove (code_of l.code) l.marks

abbrev pub decreases-loop-left : goal.decreases-loop-left
decreases-loop-left l = l.left
