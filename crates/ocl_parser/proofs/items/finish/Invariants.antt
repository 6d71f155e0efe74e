use Rattle.std.proofs.Common.{◌≡◌, length}
use Rattle.ocl_parser.specs.StmtSteps.{finished}
use Rattle.ocl_parser.proofs.items.finish.Given as goal

abbrev pub invariant-loop-statement : goal.invariant-loop-statement
invariant-loop-statement l = finished l.before_else l.statement l.frames ≡ finished l.before_else l.fn.statement l.fn.frames

abbrev pub decreases-loop-statement : goal.decreases-loop-statement
decreases-loop-statement l = length l.frames
