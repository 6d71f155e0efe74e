-- What each flat kernel has: its numbers are within its counts, and it is as large as the measures of its function say.
use Rattle.std.specs.Prelude.{◌≡◌, ℕ, true, List, Some, slice_get}
use Rattle.ocl_program.specs.Measures.{measured, own_calls, own_control, own_depth, own_nodes}
use Rattle.ocl_program.specs.Nodes.{FunctionNode}
use Rattle.ocl_types.specs.Functions.{IsProgram}
use Rattle.ocl_inline.specs.Expansion.{kernel_flat}
use Rattle.ocl_inline.specs.FlatMeasures.{flat_calls, flat_control, flat_depth, flat_nodes}
use Rattle.ocl_inline.specs.FlatNumbers.{AreDifferent, flat_sites, flat_variables}
use Rattle.program_laws.specs.Formed.{AreBelow}
use Rattle.ocl_inline.specs.Trees.{FlatKernel}

-- the barriers have different numbers, each below their count
abbrev pub HaveSites : List FunctionNode → ℕ → FlatKernel → Type 0
HaveSites program number flat = AreDifferent (flat_sites flat.body) × AreBelow flat.sites (flat_sites flat.body)

-- each variable's number is below their count
abbrev pub HaveVariables : List FunctionNode → ℕ → FlatKernel → Type 0
HaveVariables program number flat = AreBelow flat.variables (flat_variables flat.body)

-- the measures are those of the kernel with its calls expanded
pub record HaveMeasures (program : List FunctionNode) (number : ℕ) (flat : FlatKernel) : Type 0 where
  pub nodes : flat_nodes flat.body ≡ measured own_nodes program number
  pub depth : flat_depth flat.body ≡ measured own_depth program number
  pub control : flat_control flat.body ≡ measured own_control program number
  pub calls : flat_calls flat.body ≡ measured own_calls program number

-- a property of each kernel of a program of a file, expanded
abbrev pub OfFlatKernels : (List FunctionNode → ℕ → FlatKernel → Type 0) → Type 0
OfFlatKernels P = (program : List FunctionNode) → IsProgram program → (number : ℕ) (kernel : FunctionNode) → slice_get program number ≡ Some kernel → kernel.kernel ≡ true
    → P program number (kernel_flat program number kernel)

-- where a kernel of the program has the number
abbrev pub WhereKernel : List FunctionNode → ℕ → Type 0 → Type 0
WhereKernel program number P = (kernel : FunctionNode) → slice_get program number ≡ Some kernel → kernel.kernel ≡ true → P
