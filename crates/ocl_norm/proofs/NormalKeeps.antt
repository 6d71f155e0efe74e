-- What the normal form keeps of a kernel's actions.
use Rattle.std.proofs.Common.{refl}
use Rattle.ocl_inline.specs.Trees.{FlatKernel}
use Rattle.ocl_norm.specs.Laws.{DoesTheSame}
use Rattle.ocl_norm.specs.Normal.{normal_kernel}
use Rattle.ocl_inline.specs.Proper.{IsProperKernel}
use Rattle.ocl_norm.proofs.NormalAlike.{normal_alike}

pub normal_keeps : (kernel : FlatKernel) → IsProperKernel kernel → DoesTheSame kernel (normal_kernel kernel)
normal_keeps kernel proper = record {
  same_params = refl;
  same_arrays = refl;
  asks = λ range bounds item room words. normal_alike kernel proper range bounds item room words;
}
