use Rattle.program_laws.proofs.Limits.{kernel_arrays_few, kernels_shallow, params_few}
use Rattle.program_laws.proofs.laws.kernels_are_shallow.Goals as goal

pub returns : goal.returns
returns c = record { nested = kernels_shallow; arrays = kernel_arrays_few; params = params_few }
