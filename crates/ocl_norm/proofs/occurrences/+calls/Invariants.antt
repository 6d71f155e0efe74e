use Rattle.std.proofs.Common.{◌≡◌, drop}
use Rattle.ocl_inline.specs.Shapes.{flat_arguments}
use Rattle.ocl_norm.specs.Occurrences.{args_call}
use Rattle.ocl_norm.proofs.occurrences.+calls.Given as goal

abbrev pub invariant-args_call-loop-k : goal.invariant-args_call-loop-k
invariant-args_call-loop-k l = args_call (flat_arguments (drop l.k l.args)) ≡ args_call (flat_arguments l.args)
