-- The launch of a kernel of the resolved program, as the work-item semantics has it: its items in one group, in one dimension,
-- each pointer parameter bound to a buffer with an int for each item.
use Rattle.std.specs.Prelude.{ℕ, ◌*◌, List, [], ◌∷◌, map, replicate}
use Rattle.item_acts.specs.declared.acts.Bound.{Bound}
use Rattle.item_acts.specs.declared.acts.Bound.TheVariants.{Array}
use Rattle.item_acts.specs.declared.acts.Range.{Range}
use Rattle.item_acts.specs.Launches.{Launch}
use Rattle.ocl_program.specs.Nodes.{FunctionNode}
use Rattle.ocl_launch.specs.Launches.{kernel_launch}

-- so many items in one group
abbrev pub one_group : ℕ → Range
one_group items = record { dims = 1; global = items ∷ 1 ∷ 1 ∷ []; local = items ∷ 1 ∷ 1 ∷ [] }

-- each parameter is bound to the buffer of this number
abbrev pub int_bounds : ℕ → List ℕ → List Bound
int_bounds items arguments = map (λ b. Array b items) arguments

-- the launch
abbrev pub source_launch : List FunctionNode → FunctionNode → List ℕ → ℕ → ℕ → Launch
source_launch program kernel arguments items buffers =
    kernel_launch program kernel (one_group items) (int_bounds items arguments) (replicate buffers (4 * items)) []
