use Rattle.std.proofs.Common.{◌≡◌, [], drop, length, take}
use Rattle.ocl_types.specs.Answers.{with_bodies}
use Rattle.ocl_types.specs.Functions.{typed_functions}
use Rattle.ocl_types.specs.Tables.{trees_of}
use Rattle.ocl_check.proofs.bodies.typed_bodies.Given as goal

-- what is left of the functions gives, behind those that are typed, what all of them give
abbrev pub invariant-loop-function : goal.invariant-loop-function
invariant-loop-function l =
    (length l.bodies.items ≡ l.function-index) ×
    (typed_functions (trees_of l.functions.functions.now) (with_bodies (take l.function-index (trees_of l.functions.functions.now)) l.bodies.items) (drop l.function-index (trees_of l.functions.functions.now)) ≡
    typed_functions (trees_of l.functions.functions.now) [] (trees_of l.functions.functions.now))
