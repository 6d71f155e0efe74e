use Rattle.structured.proofs.Found.{found_kernel}
use Rattle.structured.proofs.laws.found_are_kernels.Goals as goal

pub returns : goal.returns
returns c = found_kernel
