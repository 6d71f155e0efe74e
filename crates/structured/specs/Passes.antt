-- Which code the three passes make, one after another.
use Rattle.std.specs.Prelude.{◌≡◌, ℕ, List, Some}
use Rattle.kir.specs.Trees.{KirCode}
use Rattle.kir_flow.specs.Flagging.{flags}
use Rattle.ocl_inline.specs.FlatItems.{flat_at}
use Rattle.ocl_inline.specs.Proper.{NumbersAreWords}
use Rattle.ocl_inline.specs.Trees.{FlatKernel}
use Rattle.ocl_norm.specs.Normal.{normal_kernel}
use Rattle.ocl_program.specs.Nodes.{FunctionNode}

-- calls expanded, normal form, flags; numbers that are written in the kernel are words
pub record IsPassed (program : List FunctionNode) (number : ℕ) (code : KirCode) : Type 0 where
  pub flat : FlatKernel
  pub expanded : flat_at program number ≡ Some flat
  pub words : NumbersAreWords flat
  pub flagged : code ≡ flags (normal_kernel flat)
