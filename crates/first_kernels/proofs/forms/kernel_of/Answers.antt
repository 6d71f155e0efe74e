use Rattle.ocl_program.specs.Shapes.{function_node}
use Rattle.first_kernels.specs.FirstTree.{form_of}
use Rattle.first_kernels.proofs.FirstSourceLaws.{form_fits}
use Rattle.first_kernels.proofs.forms.kernel_of.Goals as goal

pub returns-in-Ok-clause-fit : goal.returns-in-Ok-clause-fit
returns-in-Ok-clause-fit c = form_fits (function_node c.args.function.now) (form_of c.in-Ok.kernel) c.in-Ok.ensures
