-- The work-items of a launch: how each begins, and what it asks for next.
use Rattle.std.specs.Prelude.{◌≡◌, ℕ, ◌<◌, true, List, [], slice_index}
use Rattle.vx_base.specs.declared.types.Size.{Size}
use Rattle.item_acts.specs.declared.acts.Action.{Action}
use Rattle.item_acts.specs.declared.acts.Action.TheVariants.{Load, Store, Barrier, Fault, End}
use Rattle.item_acts.specs.declared.acts.Asked.{Asked}
use Rattle.item_acts.specs.declared.acts.Bound.{Bound}
use Rattle.item_acts.specs.declared.acts.Place.{Place}
use Rattle.item_acts.specs.declared.acts.Range.{Range}
use Rattle.item_acts.specs.Machine.{Step, asked}
use Rattle.ocl_program.specs.declared.exprs.ArrayRef.{ArrayRef}
use Rattle.ocl_program.specs.Nodes.{FunctionNode}
use Rattle.item_settings.specs.Settings.{Setting, bound_values, elem_size, element_in}
use Rattle.ocl_sem.specs.Settings.{setting_of}
use Rattle.ocl_sem.specs.Source.{PlacedExpr, PlacedStmt, Scope, source_parts, stmts_tasks}
use Rattle.task_machine.specs.Tasks.{State, step}

-- the machine of a program
abbrev pub ItemState : Type 0
ItemState = State PlacedExpr PlacedStmt

abbrev pub item_step : List FunctionNode → Setting → ItemState → Step ItemState
item_step program at s = step (source_parts program) at s

-- a kernel before its first step: it is in no call and in no loop
abbrev pub kernel_scope : FunctionNode → Scope
kernel_scope kernel = record { function = kernel; variables = 0; sites = 0; arrays = [] }

-- An item's start: the kernel's body is left to do, the scalar parameters have the values that they are bound to, and every
-- other variable is 0.
abbrev pub item_start : List FunctionNode → FunctionNode → List Bound → ItemState
item_start program kernel bounds = record {
  tasks = stmts_tasks program (kernel_scope kernel) kernel.body [];
  values = [];
  variables = slice_index (bound_values kernel.params bounds);
  turns = [];
}

-- what an item asks for once it has taken these answers, if at most so many small steps from its start lead there
abbrev pub kernel_asks : List FunctionNode → FunctionNode → Range → List Bound → ℕ → List ℕ → ℕ → Asked
kernel_asks program kernel range bounds item answers fuel =
    asked (item_step program (setting_of kernel range bounds item)) fuel (item_start program kernel bounds) answers

-- ---- each access is of an element that is there

-- the place is that of an element of the array that the kernel names so
pub record IsElement (at : Setting) (array : ArrayRef) (place : Place) (size : Size) : Type 0 where
  pub index : ℕ
  pub within : index < (at.array array).count
  pub place_is : place ≡ element_in at.group (at.array array) index
  pub size_is : size ≡ elem_size (at.array array).elem

-- a load reads an element of an array of the kernel, a store writes one of an array that may be changed
abbrev pub IsInArrays : Setting → Action → Type 0
IsInArrays at (Load place size) = (array : ArrayRef) × IsElement at array place size
IsInArrays at (Store place size value) = (array : ArrayRef) × (IsElement at array place size × ((at.array array).writable ≡ true))
IsInArrays at (Barrier point) = Unit {0}
IsInArrays at (Fault pos) = Unit {0}
IsInArrays at End = Unit {0}
