use Rattle.first_kernels.specs.FirstTree.{form_of}
use Rattle.first_kernels.proofs.FirstCorrect.{kernel_is}
use Rattle.first_kernels.proofs.code.compile.Goals as goal

pub returns-in-Ok : goal.returns-in-Ok
returns-in-Ok c = kernel_is (form_of c.args.kernel.now) c.args.arguments.now c.args.items _ c.requires.launchable c.requires.low c.in-Ok.ensures
