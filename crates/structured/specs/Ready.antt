-- What structured code has beside what its items ask for: all that the next pass uses.
use Rattle.std.specs.Prelude.{◌≡◌, ℕ, ◌+◌, ◌*◌, ◌≤◌, true, false, count_by, List, length, option_map, slice_get, Some}
use Rattle.kir.specs.Loops.{loop_nesting}
use Rattle.kir.specs.Measures.{IsChecked, branching, jumps, nesting, sites}
use Rattle.kir.specs.Numbered.{AreBelow}
use Rattle.kir.specs.Trees.{KirCode}
use Rattle.kir.specs.Typing.{AreTyped}
use Rattle.kir.specs.Weights.{weight}
use Rattle.ocl_inline.specs.FlatNumbers.{AreDifferent}
use Rattle.ocl_program.specs.declared.functions.LocalArray.{LocalArray}
use Rattle.ocl_program.specs.Measures.{measured, own_calls, own_control, own_depth, own_nodes, own_sites, own_variables}
use Rattle.ocl_program.specs.Nodes.{FunctionNode}
use Rattle.ocl_sem.specs.Source.{is_scalar}
use Rattle.program_laws.specs.Formed.{AreBelow as NumbersAreBelow}

-- function `number` of the program is a kernel
abbrev pub IsKernel : List FunctionNode → ℕ → Type 0
IsKernel program number = option_map (λ (f : FunctionNode). f.kernel) (slice_get program number) ≡ Some true

-- The measures of a kernel with its calls expanded: how many variables and nodes it has, how many levels an expression, and how many
-- branches and loops, and calls, stand within one another.
pub record Measures : Type 0 where
  pub variables : ℕ
  pub nodes : ℕ
  pub depth : ℕ
  pub control : ℕ
  pub calls : ℕ

abbrev pub measures_of : List FunctionNode → ℕ → Measures
measures_of program number = record {
  variables = measured own_variables program number;
  nodes = measured own_nodes program number;
  depth = measured own_depth program number;
  control = measured own_control program number;
  calls = measured own_calls program number;
}

-- what the measures of a kernel with so many scalar parameters are
pub record AreLimited (m : Measures) (scalars : ℕ) : Type 0 where
  pub variables : m.variables ≤ 256
  pub nodes : m.nodes ≤ 16384
  pub control : m.control ≤ 30
  pub calls : m.calls ≤ 31
  pub levels : m.calls ≤ m.depth
  pub declared : m.variables ≤ m.nodes + scalars

-- the code of a kernel with these measures, which has so many barriers
pub record IsReady (m : Measures) (barriers : ℕ) (code : KirCode) : Type 0 where
  -- the measures are within the limits; so are the parameters and the declared arrays, each of which has elements, but no more than 2 ^ 18
  pub limits : AreLimited m (count_by is_scalar code.params)
  pub few_params : length code.params ≤ 16
  pub few_arrays : length code.arrays ≤ 16
  pub small_arrays : (k : ℕ) (array : LocalArray) → slice_get code.arrays k ≡ Some array → (1 ≤ array.count) × (array.count ≤ 262144)
  -- no jump and no call is left
  pub no_jumps : jumps code.ops ≡ false
  -- each load and each store stands behind its check; it is by the type of its array's elements, and no store is to an array that may not
  -- be changed
  pub checked : IsChecked code.ops
  pub typed : AreTyped code.params code.arrays code.ops
  -- variables are numbered below their count, numbers are words, and the scalar parameters are among the variables
  pub below : AreBelow code.variables code.ops
  pub scalars : count_by is_scalar code.params ≤ code.variables
  -- barriers have different numbers, each below the count of the kernel's
  pub distinct : AreDifferent (sites code.ops)
  pub numbered : NumbersAreBelow barriers (sites code.ops)
  -- branches stand within at most one more than in the kernel, with loops too, and loops within no more
  pub nested : nesting code.ops ≤ m.control + 1
  pub branched : branching code.ops ≤ m.control + 1
  pub looped : loop_nesting code.ops ≤ m.control
  -- behind the kernel's variables stand those of expressions, calls and loops
  pub counted : code.variables ≤ m.variables + (m.depth + 3 * m.calls + 2 * m.control + 5)
  -- words of code, with one for each variable and each loop within another, are no more than 39 for each node and 21
  pub words : weight code.ops + (code.variables + loop_nesting code.ops) ≤ 39 * m.nodes + 21

-- the code has the parameters and the declared arrays of a kernel of the program, and all this
pub record IsReadyFor (program : List FunctionNode) (number : ℕ) (code : KirCode) : Type 0 where
  pub same_params : (kernel : FunctionNode) → slice_get program number ≡ Some kernel → code.params ≡ kernel.params
  pub same_arrays : (kernel : FunctionNode) → slice_get program number ≡ Some kernel → code.arrays ≡ kernel.arrays
  pub ready : IsReady (measures_of program number) (measured own_sites program number) code
