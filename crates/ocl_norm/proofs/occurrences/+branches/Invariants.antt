use Rattle.std.proofs.Common.{◌≡◌, drop}
use Rattle.ocl_inline.specs.Shapes.{flat_arguments}
use Rattle.ocl_norm.specs.Occurrences.{args_branch}
use Rattle.ocl_norm.proofs.occurrences.+branches.Given as goal

abbrev pub invariant-args_branch-loop-k : goal.invariant-args_branch-loop-k
invariant-args_branch-loop-k l = args_branch (flat_arguments (drop l.k l.args)) ≡ args_branch (flat_arguments l.args)
