use Rattle.std.proofs.Common.{◌≡◌, map}
use Rattle.ocl_program.specs.Shapes.{function_node}
use Rattle.ocl_types.specs.Functions.{placed_by}
use Rattle.ocl_types.proofs.file.all_placed.Given as goal

-- the functions so far, with their calls placed
abbrev pub invariant-loop-function : goal.invariant-loop-function
invariant-loop-function l = map function_node l.done.items ≡ map (placed_by l.totals) (map function_node l.yielded)
