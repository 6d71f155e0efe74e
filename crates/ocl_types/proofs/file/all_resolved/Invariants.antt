use Rattle.std.proofs.Common.{◌≡◌, map}
use Rattle.ocl_ast.specs.Shapes.{function_tree}
use Rattle.ocl_ast.specs.declared.units.Function.{Function}
use Rattle.ocl_program.specs.Shapes.{function_node}
use Rattle.ocl_types.specs.Answers.{with_body}
use Rattle.ocl_types.specs.declared.bodies.TypedBody.{TypedBody}
use Rattle.ocl_types.proofs.file.all_resolved.Given as goal

-- the functions so far, with their blocks
abbrev pub invariant-loop-function : goal.invariant-loop-function
invariant-loop-function l = map function_node l.done.items ≡ map (λ (p : Function × TypedBody). with_body (function_tree p.0) p.1) l.yielded
