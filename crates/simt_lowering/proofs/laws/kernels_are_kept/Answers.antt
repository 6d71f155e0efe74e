use Rattle.simt_lowering.proofs.Kernels.{kernel_kept}
use Rattle.simt_lowering.proofs.laws.kernels_are_kept.Goals as goal

pub returns : goal.returns
returns c = kernel_kept
