use Rattle.ocl_inline.specs.FlatLaws.{HaveMeasures}
use Rattle.ocl_inline.proofs.MeasuresAlike.{measures_kept}
use Rattle.ocl_inline.proofs.Sound.{of_kernels}
use Rattle.ocl_inline.proofs.laws.flat_measures_are_kept.Goals as goal

pub returns : goal.returns
returns c = of_kernels HaveMeasures measures_kept
