-- The work-items of a launch of a flat kernel.
use Rattle.std.specs.Prelude.{List}
use Rattle.item_acts.specs.declared.acts.Bound.{Bound}
use Rattle.item_acts.specs.declared.acts.Range.{Range}
use Rattle.ocl_inline.specs.Trees.{FlatKernel}

-- the kernel, its work-items, and what its parameters stand for
pub record Launched : Type 0 where
  pub kernel : FlatKernel
  pub range : Range
  pub bounds : List Bound
