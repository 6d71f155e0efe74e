use Rattle.std.proofs.Common.{◌≡◌, length}
use Rattle.ocl_parser.specs.ExprSteps.{settled}
use Rattle.ocl_parser.proofs.expr_steps.settle.Given as goal

abbrev pub invariant-loop-tree : goal.invariant-loop-tree
invariant-loop-tree l = settled l.level l.tree l.frames ≡ settled l.level l.fn.tree l.fn.frames

abbrev pub decreases-loop-tree : goal.decreases-loop-tree
decreases-loop-tree l = length l.frames
