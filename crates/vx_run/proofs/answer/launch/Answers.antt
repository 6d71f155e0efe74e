use Rattle.std.proofs.lemmas.Result.{err_from_is_err_and}
use Rattle.first_kernels.specs.FirstTree.{form_of}
use Rattle.first_kernels.proofs.FirstSourceLaws.{has_form}
use Rattle.vx_run.proofs.AnswerLaws.{count_stops, launch_prints, launchable_form}
use Rattle.vx_run.proofs.answer.launch.Goals as goal

pub returns-in_err-check_arguments-clause-stop : goal.returns-in_err-check_arguments-clause-stop
returns-in_err-check_arguments-clause-stop c =
    let p = err_from_is_err_and c.from_residual.result c.from_residual.ensures.1 in
    rw (p.1, p.2) (λ k formed. count_stops c.args.run.now k c.args.contents.now c.args.kernel.now.parameters c.in_err-check_arguments.field-0.0
    (has_form k.kernel (form_of c.args.kernel.now) formed).parameters c.in_err-check_arguments.ensures.stop)

pub print_launch-requires-clause-launchable : goal.print_launch-requires-clause-launchable
print_launch-requires-clause-launchable c =
    launchable_form c.args.run.now (form_of c.args.kernel.now) c.requires.words c.requires.kernel c.in_ok-check_arguments.ensures.same

pub returns-clause-text : goal.returns-clause-text
returns-clause-text c = λ k formed.
    launch_prints c.args.run.now k (form_of c.args.kernel.now) c.args.contents.now c.in_ok-print_launch.field-0 formed
    (launchable_form c.args.run.now (form_of c.args.kernel.now) c.requires.words c.requires.kernel c.in_ok-check_arguments.ensures.same) c.in_ok-print_launch.ensures
