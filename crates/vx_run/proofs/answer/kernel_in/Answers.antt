use Rattle.std.proofs.Common.{map, inl}
use Rattle.std.proofs.lemmas.Result.{err_from_is_err_and}
use Rattle.ocl_program.specs.Shapes.{function_node}
use Rattle.vx_run.proofs.AnswerLaws.{kernel_named, with_kernel, without_form}
use Rattle.vx_run.proofs.answer.kernel_in.Goals as goal

pub returns-in_err-number-clause-stop : goal.returns-in_err-number-clause-stop
returns-in_err-number-clause-stop c =
    let p = err_from_is_err_and c.from_residual.result c.from_residual.ensures.1 in
    rw (p.1, p.2) (inl c.in_err-number.ensures.stop)

pub returns-clause-found : goal.returns-clause-found
returns-clause-found c =
    let named = kernel_named c.args.program.now.functions.items c.args.name.now c.in_ok-number.number c.index.result.now c.in_ok-number.ensures.found c.in_ok-number.ensures.within c.index.ensures in
    with_kernel (map function_node c.args.program.now.functions.items) c.args.name.now (function_node c.index.result.now) named c.built_kernel.result c.built_kernel.ensures.formed

pub returns-clause-stop : goal.returns-clause-stop
returns-clause-stop c =
    let named = kernel_named c.args.program.now.functions.items c.args.name.now c.in_ok-number.number c.index.result.now c.in_ok-number.ensures.found c.in_ok-number.ensures.within c.index.ensures in
    without_form (map function_node c.args.program.now.functions.items) c.args.name.now (function_node c.index.result.now) named c.built_kernel.result c.built_kernel.ensures.stop
