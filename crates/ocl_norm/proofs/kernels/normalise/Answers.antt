use Rattle.std.proofs.Common.{subst, sym}
use Rattle.ocl_inline.specs.Shapes.{kernel_of}
use Rattle.ocl_norm.specs.Kept.{KeepsMeasures}
use Rattle.ocl_norm.specs.Laws.{DoesTheSame}
use Rattle.ocl_norm.proofs.NormalKeeps.{normal_keeps}
use Rattle.ocl_norm.proofs.NormalMeasures.{normal_measures}
use Rattle.ocl_norm.proofs.kernels.normalise.Goals as goal

pub returns-clause-asks : goal.returns-clause-asks
returns-clause-asks c = λ typed.
    subst (DoesTheSame (kernel_of c.args.flat.now)) (sym c.in_ok-code.ensures.normal)
    (normal_keeps (kernel_of c.args.flat.now) (record { words = c.in_ok-code.ensures.words; typed = typed }))

pub returns-clause-keeps : goal.returns-clause-keeps
returns-clause-keeps c = subst (KeepsMeasures (kernel_of c.args.flat.now)) (sym c.in_ok-code.ensures.normal) (normal_measures (kernel_of c.args.flat.now))
