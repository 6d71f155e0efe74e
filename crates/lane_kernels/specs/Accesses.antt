-- The lanes of a kernel access elements that its arrays have.
use Rattle.std.specs.Prelude.{◌≡◌, ℕ, List, [], drop, slice_get, Some}
use Rattle.ocl_program.specs.Nodes.{FunctionNode}
use Rattle.ocl_sem.specs.Settings.{setting_of}
use Rattle.vcode.specs.Code.{VOp}
use Rattle.vcode.specs.Machine.{Lane}
use Rattle.vx_layout.specs.Launching.{Plan, Accepted}
use Rattle.simt_lowering.specs.InArrays.{FirstInArray}
use Rattle.simt_lowering.specs.Laid.{HasLane, around_of}
use Rattle.simt_lowering.specs.Runs.{Begins, Comes, begin}
use Rattle.lane_kernels.specs.Source.{IsLaunchOf}

-- In each accepted launch of function `number`, wherever the lane of an item comes to from a place at which it may begin, each load and each
-- store is of an element that an array of the kernel has.
abbrev pub AccessArrays : List FunctionNode → ℕ → List VOp → Type 0
AccessArrays program number ops = (kernel : FunctionNode) → slice_get program number ≡ Some kernel → (p : Plan) → Accepted p → IsLaunchOf kernel p
    → (item group warp lane : ℕ) → HasLane p item group warp lane → (q : ℕ) (rs : ℕ → ℕ) (ns : List ℕ) → Begins q
    → (n : ℕ) (t : Lane) (us : List ℕ) → Comes (around_of p group warp lane) ops n (begin q rs ns) [] t us
    → FirstInArray p (setting_of kernel p.range p.bounds item) group (drop t.place ops) t.registers
