use Rattle.std.proofs.Common.{◌≡◌, drop, map}
use Rattle.ocl_program.specs.Shapes.{function_node}
use Rattle.ocl_types.specs.Functions.{each_from, params_fault}
use Rattle.ocl_types.proofs.limits.check_params.Given as goal

-- what is left of the functions has the first fault of all
abbrev pub invariant-loop-function : goal.invariant-loop-function
invariant-loop-function l = each_from params_fault l.function-index (drop l.function-index (map function_node l.functions)) ≡ each_from params_fault 0 (map function_node l.functions)
