-- Powers of two that the usual machine has.
use Rattle.std.proofs.Common.{refl}
use Rattle.launch_plans.specs.Shapes.{IsPowerOfTwo}

pub power_4 : IsPowerOfTwo 4
power_4 = (2, refl)

pub power_16 : IsPowerOfTwo 16
power_16 = (4, refl)
