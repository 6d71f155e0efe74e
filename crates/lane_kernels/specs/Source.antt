-- What code for lanes keeps of the items of a kernel in the source, in each launch that is accepted.
use Rattle.std.specs.Prelude.{◌≡◌, ℕ, ◌+◌, ◌*◌, ◌/◌, ◌%◌, ◌<◌, List, [], map, slice_get, Some}
use Rattle.item_settings.specs.Settings.{group_number, local_number}
use Rattle.ocl_program.specs.Nodes.{FunctionNode}
use Rattle.ocl_sem.specs.Items.{item_start, item_step}
use Rattle.ocl_sem.specs.Settings.{setting_of}
use Rattle.step_machine.specs.Alike.{AskAlike}
use Rattle.task_machine.specs.Tasks.{cost as item_cost}
use Rattle.vcode.specs.Code.{VOp}
use Rattle.vcode.specs.Machine.{Around, Lane, cost as lane_cost, lane, lane_start, step}
use Rattle.vx_layout.specs.Launching.{Plan, Accepted, group_count, group_size}
use Rattle.simt_lowering.specs.Kept.{item_place, spawn_place}
use Rattle.simt_lowering.specs.Laid.{HasLane, around_of, array_bytes, item_of, items_of, kind_of}

-- The launch is one of the kernel: it has the kernel's parameters, and the bytes of the `__local` arrays that the kernel declares.
pub record IsLaunchOf (kernel : FunctionNode) (p : Plan) : Type 0 where
  pub params : p.params ≡ map kind_of kernel.params
  pub arrays : p.arrays ≡ map array_bytes kernel.arrays

-- From here the lane asks for what the item asks for in the source (`kernel_asks`), and for nothing else, whatever the answers are: the same
-- loads and stores, barriers with the same points, faults with the same positions. Until then it begins no more turns of loops.
abbrev pub AsksAs : List FunctionNode → FunctionNode → List VOp → Plan → ℕ → Around → Lane → Type 0
AsksAs program kernel ops p item at l =
    AskAlike (item_step program (setting_of kernel p.range p.bounds item)) (step at ops) item_cost (lane_cost ops) (item_start program kernel p.bounds) l

-- From its start on, and with any registers from the place at which other warps begin and from the place behind the operation that leaves the
-- lanes that have an item, whatever the control registers of the core and of the mask answer.
pub record DoesAs (program : List FunctionNode) (kernel : FunctionNode) (ops : List VOp) (p : Plan) (item : ℕ) (at : Around) : Type 0 where
  pub from_start : (numbers : List ℕ) → AsksAs program kernel ops p item at (lane_start numbers)
  pub from_spawn : (registers : ℕ → ℕ) (numbers : List ℕ) → AsksAs program kernel ops p item at (lane spawn_place registers [] numbers)
  pub from_item : (registers : ℕ → ℕ) (numbers : List ℕ) → AsksAs program kernel ops p item at (lane item_place registers [] numbers)

-- Each item has a lane, each lane whose number in its group is below the group's size has an item, and the lane of an item does as the item.
pub record DoAsItems (program : List FunctionNode) (kernel : FunctionNode) (ops : List VOp) (p : Plan) : Type 0 where
  pub each_item : (item : ℕ) → item < items_of p
      → HasLane p item (group_number p.range item) (local_number p.range item / p.lanes) (local_number p.range item % p.lanes)
  pub each_lane : (group warp number : ℕ) → group < group_count p.range → number < p.lanes → warp * p.lanes + number < group_size p.range
      → HasLane p (item_of p group warp number) group warp number
  pub does : (item group warp number : ℕ) → HasLane p item group warp number → DoesAs program kernel ops p item (around_of p group warp number)

-- These operations do so in each accepted launch of function `number`.
abbrev pub LanesDoAsSource : List FunctionNode → ℕ → List VOp → Type 0
LanesDoAsSource program number ops = (kernel : FunctionNode) → slice_get program number ≡ Some kernel → (p : Plan) → Accepted p → IsLaunchOf kernel p
    → DoAsItems program kernel ops p
