use Rattle.std.proofs.Common.{◌≡◌, drop}
use Rattle.ocl_types.specs.Answers.{standing_of}
use Rattle.ocl_types.specs.Functions.{with_params}
use Rattle.ocl_types.proofs.bodies.declare_params.Given as goal

-- what is left of the parameters gives, from here on, what all of them give
abbrev pub invariant-loop-number : goal.invariant-loop-number
invariant-loop-number l = with_params l.number (standing_of l.st) (drop l.number l.params) ≡ with_params 0 (standing_of l.fn.st) l.params
