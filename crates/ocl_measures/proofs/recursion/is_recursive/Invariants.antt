use Rattle.std.proofs.Common.{map}
use Rattle.ocl_program.specs.Shapes.{function_node}
use Rattle.ocl_measures.specs.Search.{IsReached}
use Rattle.ocl_measures.proofs.Meeting.{unmet}
use Rattle.ocl_measures.proofs.recursion.is_recursive.Given as goal

abbrev pub invariant-loop-callee : goal.invariant-loop-callee
invariant-loop-callee l = IsReached (map function_node l.functions) l.function l.met.items l.todo.items

abbrev pub decreases-loop-callee : goal.decreases-loop-callee
decreases-loop-callee l = unmet l.met.items
