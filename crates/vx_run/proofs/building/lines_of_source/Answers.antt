use Rattle.std.proofs.Common.{◌≡◌, List, map}
use Rattle.std.proofs.lemmas.Result.{err_from_is_err_and}
use Rattle.ocl_program.specs.Nodes.{FunctionNode}
use Rattle.ocl_program.specs.Shapes.{function_node}
use Rattle.vx_run.specs.Answers.{FromEntry, FromSource, HasProgram}
use Rattle.vx_run.proofs.AnswerLaws.{ComesTo-map, no_program_stops}
use Rattle.vx_run.proofs.ImageLaws.{no_program_plain}
use Rattle.vx_run.proofs.building.lines_of_source.Goals as goal

pub returns-in_err-program-clause-comes : goal.returns-in_err-program-clause-comes
returns-in_err-program-clause-comes c =
    let p = err_from_is_err_and c.from_residual.result c.from_residual.ensures.1 in
    rw (p.1, p.2) (no_program_stops (FromEntry c.args.entry.now) c.args.source.now c.in_err-program.field-0.0 c.in_err-program.ensures.stop)

pub returns-in_err-program-clause-plain : goal.returns-in_err-program-clause-plain
returns-in_err-program-clause-plain c =
    let p = err_from_is_err_and c.from_residual.result c.from_residual.ensures.1 in
    rw (p.1, p.2) (no_program_plain c.args.source.now c.in_err-program.field-0.0 c.in_err-program.ensures.stop)

pub returns-clause-comes : goal.returns-clause-comes
returns-clause-comes c =
    let entry = c.args.entry.now in
    let source = c.args.source.now in
    let program : List FunctionNode = map function_node c.in_ok-program.program.functions.items in
    ComesTo-map (FromEntry entry program) (FromSource (FromEntry entry) source) (λ o h. HasProgram program o c.in_ok-program.ensures.few c.in_ok-program.ensures.found h)
    c.lines_of_kernel.result c.lines_of_kernel.ensures.comes
