-- What each program of a file has.
use Rattle.std.specs.Prelude.{◌≡◌, ℕ, ◌<◌, ◌≤◌, false, true, List, length, Some, slice_get}
use Rattle.ocl_measures.specs.Recursion.{is_recursive}
use Rattle.ocl_program.specs.declared.functions.CallSite.{CallSite}
use Rattle.ocl_program.specs.declared.functions.LocalArray.{LocalArray}
use Rattle.ocl_program.specs.Measures.{measured, own_calls, own_control, own_depth, own_nodes, own_sites, own_variables}
use Rattle.ocl_program.specs.Nodes.{FunctionNode}
use Rattle.ocl_types.specs.Functions.{IsProgram}
use Rattle.program_laws.specs.Formed.{IsFormed, IsShallow, IsSmall}

-- each array has at least one element and at most 2 ^ 18
abbrev pub ArraysAreSmall : Type 0
ArraysAreSmall = (program : List FunctionNode) → IsProgram program → (k i : ℕ) (f : FunctionNode) (array : LocalArray)
    → slice_get program k ≡ Some f → slice_get f.arrays i ≡ Some array → (1 ≤ array.count) × (array.count ≤ 262144)

-- no function reaches a call of itself
abbrev pub HaveNoRecursion : List FunctionNode → Type 0
HaveNoRecursion program = (k : ℕ) → k < length program → is_recursive program k ≡ false

abbrev pub NoneIsRecursive : Type 0
NoneIsRecursive = (program : List FunctionNode) → IsProgram program → HaveNoRecursion program

-- what a function has with its calls expanded is its own and what its callees have
abbrev pub Settles : (FunctionNode → (ℕ → ℕ) → ℕ) → List FunctionNode → Type 0
Settles own program = (k : ℕ) (f : FunctionNode) → slice_get program k ≡ Some f → measured own program k ≡ own f (measured own program)

pub record MeasuresSettle (program : List FunctionNode) : Type 0 where
  pub variables : Settles own_variables program
  pub sites : Settles own_sites program
  pub nodes : Settles own_nodes program
  pub depth : Settles own_depth program
  pub control : Settles own_control program
  pub calls : Settles own_calls program

abbrev pub AllSettle : Type 0
AllSettle = (program : List FunctionNode) → IsProgram program → MeasuresSettle program

-- kernels are within the limits, what a function within them calls is within them, and it has no more barriers than nodes
abbrev pub KernelsAreSmall : Type 0
KernelsAreSmall = (program : List FunctionNode) → IsProgram program → (k : ℕ) (f : FunctionNode)
    → slice_get program k ≡ Some f → f.kernel ≡ true → IsSmall program k

abbrev pub CalleesAreSmall : Type 0
CalleesAreSmall = (program : List FunctionNode) → IsProgram program → (k i : ℕ) (f : FunctionNode) (site : CallSite) → IsSmall program k
    → slice_get program k ≡ Some f → slice_get f.calls i ≡ Some site → IsSmall program site.callee

abbrev pub SitesAreFew : Type 0
SitesAreFew = (program : List FunctionNode) → IsProgram program → (k : ℕ) → IsSmall program k → measured own_sites program k ≤ measured own_nodes program k

-- branches and loops of a kernel stand within at most 30 others, its calls within 31, and it declares at most 16 arrays
abbrev pub KernelsAreShallow : Type 0
KernelsAreShallow = (program : List FunctionNode) → IsProgram program → (k : ℕ) (f : FunctionNode)
    → slice_get program k ≡ Some f → f.kernel ≡ true → IsShallow program k

abbrev pub KernelArraysAreFew : Type 0
KernelArraysAreFew = (program : List FunctionNode) → IsProgram program → (k : ℕ) (f : FunctionNode)
    → slice_get program k ≡ Some f → f.kernel ≡ true → length f.arrays ≤ 16

-- a function has at most 16 parameters
abbrev pub ParamsAreFew : Type 0
ParamsAreFew = (program : List FunctionNode) → IsProgram program → (k : ℕ) (f : FunctionNode) → slice_get program k ≡ Some f → length f.params ≤ 16

-- no more calls stand within one another than an expression has levels
abbrev pub CallsAreLevels : Type 0
CallsAreLevels = (program : List FunctionNode) → IsProgram program → (k : ℕ) → IsSmall program k → measured own_calls program k ≤ measured own_depth program k

-- a function within the limits is formed: its numbers are as they are counted, though the typing keeps them below 2 ^ 32
abbrev pub SmallAreFormed : Type 0
SmallAreFormed = (program : List FunctionNode) → IsProgram program → (k : ℕ) (f : FunctionNode) → IsSmall program k
    → slice_get program k ≡ Some f → IsFormed program f
