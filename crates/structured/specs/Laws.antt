-- The laws of this crate, each as a statement.
use Rattle.std.specs.Prelude.{◌≡◌, ℕ, List, Some}
use Rattle.ocl_program.specs.Nodes.{FunctionNode}
use Rattle.ocl_types.specs.Functions.{kernel_from}
use Rattle.structured.specs.Ready.{IsKernel}

-- what is found by its name is a kernel
abbrev pub FoundAreKernels : Type 0
FoundAreKernels = (program : List FunctionNode) (name : List ℕ) (number : ℕ) → kernel_from 0 name program ≡ Some number → IsKernel program number
