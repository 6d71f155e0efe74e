use Rattle.std.proofs.Common.{map, inl}
use Rattle.std.proofs.lemmas.Result.{err_from_is_err_and}
use Rattle.ocl_program.specs.Shapes.{function_node}
use Rattle.vx_run.proofs.AnswerLaws.{with_source, without_kernel}
use Rattle.vx_run.proofs.answer.kernel_of_source.Goals as goal

pub returns-in_err-program-clause-stop : goal.returns-in_err-program-clause-stop
returns-in_err-program-clause-stop c =
    let p = err_from_is_err_and c.from_residual.result c.from_residual.ensures.1 in
    rw (p.1, p.2) (inl c.in_err-program.ensures.stop)

pub returns-clause-found : goal.returns-clause-found
returns-clause-found c =
    with_source c.args.source.now c.args.name.now (map function_node c.in_ok-program.program.functions.items) c.in_ok-program.ensures.few c.in_ok-program.ensures.found
    c.kernel_in.result c.kernel_in.ensures.found

pub returns-clause-stop : goal.returns-clause-stop
returns-clause-stop c =
    without_kernel c.args.source.now c.args.name.now (map function_node c.in_ok-program.program.functions.items) c.in_ok-program.ensures.few c.in_ok-program.ensures.found
    c.kernel_in.result c.kernel_in.ensures.stop
