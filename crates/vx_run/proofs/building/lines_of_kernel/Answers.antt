use Rattle.std.proofs.Common.{◌≡◌, List, map}
use Rattle.std.proofs.lemmas.Result.{err_from_is_err_and}
use Rattle.ocl_program.specs.Nodes.{FunctionNode}
use Rattle.ocl_program.specs.Shapes.{function_node}
use Rattle.vx_run.specs.Answers.{HasImage}
use Rattle.vx_run.proofs.ImageLaws.{image_plain, image_stops}
use Rattle.vx_run.proofs.building.lines_of_kernel.Goals as goal

pub returns-in_err-image-clause-comes : goal.returns-in_err-image-clause-comes
returns-in_err-image-clause-comes c =
    let program : List FunctionNode = map function_node c.args.program.now.functions.items in
    let p = err_from_is_err_and c.from_residual.result c.from_residual.ensures.1 in
    rw (p.1) (image_stops c.args.entry.now program c.in_err-image.field-0.0 p.0 p.2 c.in_err-image.ensures.refused)

pub returns-in_err-image-clause-plain : goal.returns-in_err-image-clause-plain
returns-in_err-image-clause-plain c =
    let p = err_from_is_err_and c.from_residual.result c.from_residual.ensures.1 in
    rw (p.1) (image_plain c.in_err-image.field-0.0 p.0 p.2)

pub returns-clause-comes : goal.returns-clause-comes
returns-clause-comes c =
    rw (c.in_ok-built.ensures) (HasImage c.in_ok-image.image c.in_ok-image.ensures.small c.in_ok-image.ensures.image)
