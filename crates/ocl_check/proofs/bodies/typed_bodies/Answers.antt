use Rattle.std.proofs.Common.{◌≡◌, [], Ok, length, take, ap, ◌∙◌, arith}
use Rattle.std.proofs.lemmas.List.{length-map, take_all}
use Rattle.ocl_ast.specs.Shapes.{function_tree}
use Rattle.ocl_types.specs.Answers.{with_bodies}
use Rattle.ocl_types.specs.Functions.{typed_functions}
use Rattle.ocl_types.specs.Tables.{trees_of}
use Rattle.ocl_types.proofs.Lists.{take_counted}
use Rattle.ocl_types.proofs.Loops.{bodies_done, body_refused, body_taken}
use Rattle.ocl_check.proofs.bodies.typed_bodies.Goals as goal

pub returns-in-Err : goal.returns-in-Err
returns-in-Err c =
    let l = c.args.functions.now.functions.now in let fs = trees_of l in let i = c.loop-function.function-index in
    body_refused fs l i c.function-item.result c.in-Err.fault (with_bodies (take i fs) c.loop-function.bodies.items) (typed_functions fs [] fs) (omega arith) c.function-item.is c.in-Err.ensures c.loop-function.invariant.1

pub loop-function-preserved : goal.loop-function-preserved
loop-function-preserved c =
    let l = c.args.functions.now.functions.now in let fs = trees_of l in let i = c.loop-function.function-index in
    let bodies = c.loop-function.bodies.items in
    let counted : length bodies ≡ length (take i fs) = c.loop-function.invariant.0 ∙ take_counted function_tree l i (omega arith) in
    let more = ap length c.in-Ok-push.ensures.items in
    (grind (arith, more), body_taken fs l i c.function-item.result c.in-Ok.body bodies c.push.new.self.items (typed_functions fs [] fs) (omega arith) c.function-item.is counted c.in-Ok-push.ensures.items c.in-Ok.ensures c.loop-function.invariant.1)

pub returns : goal.returns
returns c =
    let l = c.args.functions.now.functions.now in let fs = trees_of l in let i = c.loop-function.function-index in
    let bodies = c.loop-function.bodies.items in
    let many = length-map l function_tree in
    let all = take_all i fs (omega (arith, many)) in
    (bodies_done fs l i (with_bodies (take i fs) bodies) (typed_functions fs [] fs) c.loop-function-test.false c.loop-function.invariant.1 ∙ ap (λ ts. Ok (with_bodies ts bodies)) all, omega (arith, many))
