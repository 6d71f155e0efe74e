-- What structured code keeps of the items of a kernel in the source.
use Rattle.std.specs.Prelude.{◌≡◌, ℕ, ◌<◌, ◌≤◌, ◌*◌, ◌^◌, List, slice_get, slice_index, Some}
use Rattle.vx_base.specs.Values.{elem_bytes}
use Rattle.item_acts.specs.declared.acts.Bound.{Bound}
use Rattle.item_acts.specs.declared.acts.Range.{Range}
use Rattle.kir.specs.Machine.{code_setting, cost as code_cost, kir_start, step}
use Rattle.kir.specs.Trees.{KirCode}
use Rattle.ocl_program.specs.declared.exprs.ArrayRef.TheVariants.{Parameter}
use Rattle.ocl_program.specs.Nodes.{FunctionNode}
use Rattle.ocl_sem.specs.Items.{item_start, item_step}
use Rattle.ocl_sem.specs.Settings.{array_of, setting_of}
use Rattle.step_machine.specs.Alike.{AskAlike}
use Rattle.task_machine.specs.Tasks.{cost as item_cost}

-- The sizes of the launch and the number of the item are words, and what a parameter is bound to ends within 2 ^ 32 bytes.
pub record IsWordItem (kernel : FunctionNode) (range : Range) (bounds : List Bound) (item : ℕ) : Type 0 where
  pub dims : range.dims < 2 ^ 32
  pub global : (d : ℕ) → slice_index range.global d < 2 ^ 32
  pub local : (d : ℕ) → slice_index range.local d < 2 ^ 32
  pub number : item < 2 ^ 32
  pub room : (k : ℕ) → (array_of kernel bounds (Parameter k)).count * elem_bytes (array_of kernel bounds (Parameter k)).elem ≤ 2 ^ 32

-- Each such item asks in the code for what it asks for in the source (`kernel_asks`), and for nothing else, whatever the answers are: the
-- same loads and stores, barriers with the same points, faults with the same positions. Until then it begins no more turns of loops
-- (`turns_begun`).
abbrev pub DoesAsSource : List FunctionNode → ℕ → KirCode → Type 0
DoesAsSource program number code = (kernel : FunctionNode) → slice_get program number ≡ Some kernel → (range : Range) (bounds : List Bound) (item : ℕ)
    → IsWordItem kernel range bounds item
    → AskAlike (item_step program (setting_of kernel range bounds item)) (step (code_setting code range bounds item)) item_cost code_cost
    (item_start program kernel bounds) (kir_start code bounds)
