-- What stands where the kernel of a name stands.
use Rattle.std.proofs.Common.{◌≡◌, ℕ, ap, ◌∙◌, List, Some, map, option_map, slice_get}
use Rattle.std.proofs.lemmas.Option.{slice_get-map}
use Rattle.ocl_program.specs.Shapes.{function_node}
use Rattle.ocl_program.specs.declared.functions.TypedFunction.{TypedFunction}

-- a function of the program as its node
pub node_at : (functions : List TypedFunction) (number : ℕ) (f : TypedFunction) → slice_get functions number ≡ Some f
    → slice_get (map function_node functions) number ≡ Some (function_node f)
node_at functions number f at = slice_get-map function_node functions number ∙ ap (option_map function_node) at
