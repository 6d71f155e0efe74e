use Rattle.std.proofs.Common.{map}
use Rattle.first_kernels.specs.FirstTree.{assigns_of}
use Rattle.first_kernels.proofs.FirstFormLoops.{Makes}
use Rattle.first_kernels.proofs.forms.assignments_from.Given as goal

abbrev pub invariant-loop-stmt : goal.invariant-loop-stmt
invariant-loop-stmt l = Makes l.parameters l.body l.stmt-index (map assigns_of l.assignments.items)
