-- The work-items of a flat kernel: how each begins, what it asks for next, and how many turns of loops it begins.
use Rattle.std.specs.Prelude.{◌≡◌, ℕ, List, [], slice_get, slice_index, Option, Some, option_map}
use Rattle.item_acts.specs.declared.acts.Asked.{Asked}
use Rattle.item_acts.specs.declared.acts.Bound.{Bound}
use Rattle.item_acts.specs.declared.acts.Range.{Range}
use Rattle.item_acts.specs.Machine.{asked}
use Rattle.ocl_program.specs.Nodes.{FunctionNode}
use Rattle.ocl_sem.specs.Items.{kernel_asks}
use Rattle.item_settings.specs.Settings.{Setting, bound_values, setting_of}
use Rattle.ocl_sem.specs.Spending.{turns_begun}
use Rattle.task_machine.specs.Tasks.{State, cost, step}
use Rattle.step_machine.specs.Costs.{spent}
use Rattle.ocl_inline.specs.Expansion.{kernel_flat}
use Rattle.ocl_inline.specs.FlatTasks.{flat_parts, stmts_tasks}
use Rattle.ocl_inline.specs.Trees.{FlatExpr, FlatKernel, FlatStmt}

-- what an item knows of its launch
abbrev pub flat_setting : FlatKernel → Range → List Bound → ℕ → Setting
flat_setting flat range bounds item = setting_of flat.params flat.arrays range bounds item

-- An item's start: the kernel's body is left to do, the scalar parameters have the values that they are bound to, and every
-- other variable is 0.
abbrev pub flat_start : FlatKernel → List Bound → State FlatExpr FlatStmt
flat_start flat bounds = record {
  tasks = stmts_tasks flat.body [];
  values = [];
  variables = slice_index (bound_values flat.params bounds);
  turns = [];
}

-- what an item asks for once it has taken these answers, if at most so many small steps from its start lead there
abbrev pub flat_asks : FlatKernel → Range → List Bound → ℕ → List ℕ → ℕ → Asked
flat_asks flat range bounds item answers fuel = asked (step flat_parts (flat_setting flat range bounds item)) fuel (flat_start flat bounds) answers

-- how many turns of loops it begins in these steps
abbrev pub flat_turns : FlatKernel → Range → List Bound → ℕ → List ℕ → ℕ → ℕ
flat_turns flat range bounds item answers fuel = spent (step flat_parts (flat_setting flat range bounds item)) cost fuel (flat_start flat bounds) answers

-- ---- the kernels of a program

-- the flat form of a program's kernel
abbrev pub flat_at : List FunctionNode → ℕ → Option FlatKernel
flat_at program number = option_map (kernel_flat program number) (slice_get program number)

-- the items of a flat kernel ask for what the items of a program's kernel ask for, at every number of steps
abbrev pub AsksAs : FlatKernel → List FunctionNode → ℕ → Type 0
AsksAs flat program number = (kernel : FunctionNode) → slice_get program number ≡ Some kernel → (range : Range) (bounds : List Bound) (item : ℕ) (answers : List ℕ) (fuel : ℕ)
    → flat_asks flat range bounds item answers fuel ≡ kernel_asks program kernel range bounds item answers fuel

-- and begin as many turns of loops
abbrev pub SpendsAs : FlatKernel → List FunctionNode → ℕ → Type 0
SpendsAs flat program number = (kernel : FunctionNode) → slice_get program number ≡ Some kernel → (range : Range) (bounds : List Bound) (item : ℕ) (answers : List ℕ) (fuel : ℕ)
    → flat_turns flat range bounds item answers fuel ≡ turns_begun program kernel range bounds item answers fuel
