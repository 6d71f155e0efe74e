use Rattle.std.proofs.Common.{◌≡◌, List, Some, map, length, true, sym, ap, ◌∙◌, subst}
use Rattle.std.proofs.Math.Bridge.{le_prop}
use Rattle.std.proofs.Math.Logic.{∥∥₁_elim}
use Rattle.std.proofs.lemmas.Option.{slice_get-map, slice_get_read}
use Rattle.std.specs.Prelude.{option_map, slice_get}
use Rattle.ocl_program.specs.Nodes.{FunctionNode}
use Rattle.ocl_program.specs.Shapes.{function_node}
use Rattle.ocl_program.specs.declared.functions.TypedFunction.{TypedFunction}
use Rattle.ocl_launch.specs.Fitting.{are_fitting, params_of}
use Rattle.ocl_launch.proofs.Room.{room_of}
use Rattle.program_laws.proofs.Bodies.{arrays_small}
use Rattle.ocl_launch.proofs.launches.items_of.Goals as goal

pub of-requires : goal.of-requires
of-requires c =
    let functions = c.args.program.now.functions.items in
    let kernel = c.index-functions-kernel.result in
    let program : List FunctionNode = map function_node functions in
    let seen : c.as_slice-functions.result.now ≡ functions = c.as_slice-functions.ensures.value in
    let here : slice_get functions c.args.kernel ≡ Some kernel =
    subst (λ (l : List TypedFunction). slice_get l c.args.kernel ≡ Some kernel) seen
    (slice_get_read c.as_slice-functions.result.now (length functions) c.args.kernel kernel (ap length (sym seen)) c.requires.exists c.index-functions-kernel.is) in
    let at : slice_get program c.args.kernel ≡ Some (function_node kernel) = slice_get-map function_node functions c.args.kernel ∙ ap (option_map function_node) here in
    let fit : are_fitting kernel.params c.args.bounds ≡ true = sym (ap (λ found. are_fitting (params_of found) c.args.bounds) at) ∙ c.requires.kinds in
    record {
      room = λ array. ∥∥₁_elim c.args.program.now.typed le_prop
          (λ is. room_of (function_node kernel) c.args.bounds fit (λ i a e. (arrays_small program is c.args.kernel i (function_node kernel) a at e).1) array);
    }
