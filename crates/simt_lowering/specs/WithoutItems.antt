-- A lane that has no item ends with the first operations.
use Rattle.std.specs.Prelude.{◌≡◌, ℕ, ◌+◌, ◌*◌, ◌<◌, ◌≤◌, ◌⊎◌, Bool, List, []}
use Rattle.kir.specs.Trees.{KirCode}
use Rattle.vcode.specs.Code.{VOp}
use Rattle.vcode.specs.Machine.{Lane}
use Rattle.vx_layout.specs.Launching.{Plan, Accepted, group_size, warps_for}
use Rattle.simt_lowering.specs.Kept.{item_place, spawn_place}
use Rattle.simt_lowering.specs.Laid.{around_of}
use Rattle.simt_lowering.specs.Lowered.{kernel_code}
use Rattle.simt_lowering.specs.Runs.{Comes, begin}

-- In an accepted launch a lane of a group's warps whose number in the group is not below the group's size comes with these operations neither
-- from the first place nor from that at which other warps begin to the place behind the operation that leaves the lanes that have an item, nor
-- further.
abbrev pub EndWithout : List VOp → Type 0
EndWithout ops = (p : Plan) → Accepted p
    → (group warp number : ℕ) → warp < warps_for (group_size p.range) p.lanes → number < p.lanes → group_size p.range ≤ warp * p.lanes + number
    → (q : ℕ) (rs : ℕ → ℕ) (ns : List ℕ) → (q ≡ 0) ⊎ (q ≡ spawn_place)
    → (n : ℕ) (t : Lane) (us : List ℕ) → Comes (around_of p group warp number) ops n (begin q rs ns) [] t us → t.place < item_place

-- the law: with those of a kernel
abbrev pub WithoutItems : Type 0
WithoutItems = (code : KirCode) (marks : ℕ → Bool) → EndWithout (kernel_code marks code)
