-- What each launch of a kernel of typed functions is.
use Rattle.std.specs.Prelude.{◌≡◌, ℕ, ◌<◌, Bool, true, List, length, count_by, Some, slice_get}
use Rattle.item_acts.specs.Launches.{start}
use Rattle.item_acts.specs.OneResult.{InBounds, IsSettled}
use Rattle.item_acts.specs.Tame.{IsTame}
use Rattle.item_settings.specs.Settings.{group_size, is_local_param}
use Rattle.launch_order.specs.Lists.{IsOrderly}
use Rattle.launch_order.specs.Moves.{KeepsToArrays}
use Rattle.ocl_sem.specs.Launched.{Launched}
use Rattle.ocl_types.specs.Functions.{IsProgram}
use Rattle.program_launches.specs.Files.{PassesArrays, locals_behind}
use Rattle.program_launches.specs.Launches.{AreConstant, HasArrays, is_unchanged, launch_over}

-- more small steps never change what an item asks for
abbrev pub LaunchesSettle : Type 0
LaunchesSettle = (launched : Launched) (buffers locals : List ℕ) → IsSettled (launch_over launched buffers locals)

-- over its arrays its items ask for bytes of the launch alone
abbrev pub LaunchesStayInBounds : Type 0
LaunchesStayInBounds = (launched : Launched) (buffers locals : List ℕ) → HasArrays launched buffers locals
    → (given : ℕ → ℕ → ℕ) → InBounds (launch_over launched buffers locals) (start given)

-- the same for all answers, and its items store to no buffer of any that the kernel may not store to
abbrev pub LaunchesKeepToArrays : Type 0
LaunchesKeepToArrays = (launched : Launched) (buffers locals : List ℕ) → HasArrays launched buffers locals
    → (constant : ℕ → Bool) → AreConstant launched constant → KeepsToArrays (launch_over launched buffers locals) constant

-- these are the buffers for which no parameter stands that may be stored to
abbrev pub UnchangedAreConstant : Type 0
UnchangedAreConstant = (launched : Launched) → AreConstant launched (is_unchanged launched)

-- over its arrays a launch with items in its groups is orderly, once it is tame
abbrev pub TameAreOrderly : Type 0
TameAreOrderly = (launched : Launched) (buffers locals : List ℕ) → HasArrays launched buffers locals → 0 < group_size launched.range
    → (given : ℕ → ℕ → ℕ) → IsTame (launch_over launched buffers locals) given → IsOrderly (launch_over launched buffers locals) given

-- In a launch of a kernel of a file the arrays that the kernel declares are there, where the group's local arrays are those of the
-- `__local` parameters and then these: so all arrays are there, once those are that parameters stand for.
abbrev pub DeclaredAreThere : Type 0
DeclaredAreThere = (launched : Launched) (number : ℕ) → IsProgram launched.program → slice_get launched.program number ≡ Some launched.kernel
    → launched.kernel.kernel ≡ true → (buffers passed : List ℕ) → length passed ≡ count_by is_local_param launched.kernel.params
    → PassesArrays launched buffers (locals_behind launched passed) → HasArrays launched buffers (locals_behind launched passed)
