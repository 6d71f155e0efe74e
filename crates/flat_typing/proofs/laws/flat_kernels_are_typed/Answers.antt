use Rattle.flat_typing.proofs.Kernels.{kernel_typed}
use Rattle.flat_typing.proofs.laws.flat_kernels_are_typed.Goals as goal

pub returns : goal.returns
returns c = kernel_typed
