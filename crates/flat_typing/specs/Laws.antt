-- What the functions of a file and their flat kernels have, as statements.
use Rattle.std.specs.Prelude.{◌≡◌, ℕ, ◌+◌, ◌≤◌, true, count_by, List, Some, slice_get}
use Rattle.ocl_program.specs.Measures.{measured, own_nodes, own_variables}
use Rattle.ocl_program.specs.Nodes.{FunctionNode}
use Rattle.ocl_sem.specs.Source.{is_scalar}
use Rattle.ocl_types.specs.Functions.{IsProgram}
use Rattle.program_laws.specs.Formed.{IsSmall}
use Rattle.ocl_inline.specs.Expansion.{kernel_flat}
use Rattle.ocl_inline.specs.Proper.{IsTypedKernel}
use Rattle.flat_typing.specs.Typed.{IsTypedFunction}

-- a function within the limits is typed
abbrev pub FunctionsAreTyped : Type 0
FunctionsAreTyped = (program : List FunctionNode) → IsProgram program → (k : ℕ) (f : FunctionNode) → IsSmall program k
    → slice_get program k ≡ Some f → IsTypedFunction program f

-- it has no more variables than nodes and scalar parameters, its callees' among them
abbrev pub VariablesAreFew : Type 0
VariablesAreFew = (program : List FunctionNode) → IsProgram program → (k : ℕ) (f : FunctionNode) → IsSmall program k
    → slice_get program k ≡ Some f → measured own_variables program k ≤ measured own_nodes program k + count_by is_scalar f.params

-- each kernel with its calls expanded is typed
abbrev pub FlatKernelsAreTyped : Type 0
FlatKernelsAreTyped = (program : List FunctionNode) → IsProgram program → (number : ℕ) (kernel : FunctionNode)
    → slice_get program number ≡ Some kernel → kernel.kernel ≡ true → IsTypedKernel (kernel_flat program number kernel)
