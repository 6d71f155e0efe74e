use Rattle.std.proofs.Common.{◌≡◌, ℕ, ◌<◌, false, map}
use Rattle.ocl_program.specs.Shapes.{function_node}
use Rattle.ocl_measures.specs.Recursion.{is_recursive}
use Rattle.ocl_measures.proofs.recursion.first_recursive.Given as goal

abbrev pub invariant-loop-number : goal.invariant-loop-number
invariant-loop-number l = (j : ℕ) → j < l.number → is_recursive (map function_node l.functions) j ≡ false
