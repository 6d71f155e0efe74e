use Rattle.std.proofs.Common.{length}
use Rattle.ocl_measures.proofs.Meeting.{IsTaking}
use Rattle.ocl_measures.proofs.recursion.take_new.Given as goal

abbrev pub invariant-loop-callee : goal.invariant-loop-callee
invariant-loop-callee l = IsTaking l.met l.initial.todo.items l.todo.items

abbrev pub decreases-loop-callee : goal.decreases-loop-callee
decreases-loop-callee l = length l.todo.items
