use Rattle.std.proofs.Common.{inr, map, sym, ◌∙◌, arith}
use Rattle.ocl_program.specs.Shapes.{function_node}
use Rattle.ocl_types.specs.Functions.{each_from, params_fault}
use Rattle.ocl_types.proofs.Passing.{fails, passes}
use Rattle.ocl_types.proofs.limits.check_params.Goals as goal

pub returns-in-Some : goal.returns-in-Some
returns-in-Some c =
    let fs = c.args.functions.now in let k = c.loop-function.function-index in let f = c.function-item.result in
    inr (fails params_fault fs k f c.in-Some.fault (each_from params_fault 0 (map function_node fs)) (omega arith) c.function-item.is (sym (c.params_fault.ensures k) ∙ c.in-Some.is) c.loop-function.invariant)

pub loop-function-preserved : goal.loop-function-preserved
loop-function-preserved c =
    let fs = c.args.functions.now in let k = c.loop-function.function-index in let f = c.function-item.result in
    passes params_fault fs k f (each_from params_fault 0 (map function_node fs)) (omega arith) c.function-item.is (sym (c.params_fault.ensures k) ∙ c.in_default.is) c.loop-function.invariant
