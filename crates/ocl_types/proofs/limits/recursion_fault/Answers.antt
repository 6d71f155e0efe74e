use Rattle.std.proofs.Common.{◌≡◌, refl, ap, ◌∙◌, Err, ◌<◌, length, arith}
use Rattle.std.proofs.lemmas.List.{length-map}
use Rattle.std.proofs.lemmas.Option.{slice_get_read}
use Rattle.ocl_program.specs.Shapes.{function_node}
use Rattle.ocl_program.specs.declared.functions.TypedFunction.{TypedFunction}
use Rattle.ocl_types.specs.declared.faults.TypeFault.TheVariants.{Recursive}
use Rattle.ocl_types.proofs.Passing.{one_recursive}
use Rattle.ocl_types.proofs.limits.recursion_fault.Goals as goal

pub bounds-functions-place : goal.bounds-functions-place
bounds-functions-place c =
    let inside = c.requires.here.within in
    omega (arith, length-map c.args.functions.now function_node)

pub returns : goal.returns
returns c =
    let fs = c.args.functions.now in let k = c.args.function in let f = c.index-functions-place.result in
    let among = c.requires.here.within in
    let inside : k < length fs = omega (arith, length-map fs function_node) in
    one_recursive fs k f c.requires (slice_get_read fs (length fs) k f refl inside c.index-functions-place.is)
    ∙ ap (λ (g : TypedFunction). Err (Recursive g.name.pos)) c.index-functions-place.is
