-- An accepted launch of a kernel lays a lane out for each of its items.
use Rattle.std.specs.Prelude.{◌≡◌, ℕ, ◌+◌, ◌*◌, ◌/◌, ◌%◌, ◌<◌, Bool, length, map, Option, None, Some}
use Rattle.vx_base.specs.Values.{elem_bytes}
use Rattle.vx_base.specs.declared.types.ParamKind.{ParamKind}
use Rattle.item_acts.specs.declared.acts.Place.{Place}
use Rattle.item_acts.specs.declared.acts.Place.TheVariants.{Global}
use Rattle.ocl_ast.specs.declared.units.Param.{Param}
use Rattle.ocl_program.specs.declared.functions.LocalArray.{LocalArray}
use Rattle.item_settings.specs.Settings.{Setting, group_number, local_number}
use Rattle.kir.specs.Machine.{code_setting}
use Rattle.kir.specs.Trees.{KirCode}
use Rattle.vcode.specs.Machine.{Around}
use Rattle.vx_layout.specs.Addresses.{place_at}
use Rattle.vx_layout.specs.Blocks.{block_of}
use Rattle.vx_layout.specs.Launching.{Plan, Accepted, group_count, group_size, map_of, size_in}
use Rattle.simt_lowering.specs.Kept.{IsLaidFor}

abbrev pub kind_of : Param → ParamKind
kind_of param = param.kind

abbrev pub array_bytes : LocalArray → ℕ
array_bytes array = array.count * elem_bytes array.elem

-- The launch is one of the kernel: it has the kernel's parameters, and the bytes of the `__local` arrays that the kernel declares.
pub record IsLaunchOf (code : KirCode) (p : Plan) : Type 0 where
  pub params : p.params ≡ map kind_of code.params
  pub arrays : p.arrays ≡ map array_bytes code.arrays

abbrev pub place_or : Place → Option Place → Place
place_or other (Some q) = q
place_or other None = other

-- the byte of an array that an address names in a group; where it names none, a byte of a buffer that is not there
abbrev pub named : Plan → ℕ → ℕ → Place
named p group a = place_or (Global (length p.buffers) a) (place_at (map_of p) group a)

-- what stands around a lane of a warp of a group
abbrev pub around_of : Plan → ℕ → ℕ → ℕ → Around
around_of p group warp number = record { block = block_of p group; warp = warp; number = number; place = named p group }

-- what an item knows of the launch
abbrev pub setting_for : KirCode → Plan → ℕ → Setting
setting_for code p item = code_setting code p.range p.bounds item

-- The lane has this item. An item's number is that of its group and, in the group, that of its lane among all lanes.
pub record HasLane (p : Plan) (item group warp number : ℕ) : Type 0 where
  pub in_launch : group < group_count p.range
  pub in_group : warp * p.lanes + number < group_size p.range
  pub in_warp : number < p.lanes
  pub group_is : group_number p.range item ≡ group
  pub local_is : local_number p.range item ≡ warp * p.lanes + number

-- the item of a lane
abbrev pub item_of : Plan → ℕ → ℕ → ℕ → ℕ
item_of p group warp number = group * group_size p.range + (warp * p.lanes + number)

-- how many items there are
abbrev pub items_of : Plan → ℕ
items_of p = size_in p.range p.range.global 0 * size_in p.range p.range.global 1 * size_in p.range p.range.global 2

-- What is said of the launch: the lane of an item is laid out for it; each lane whose number in its group is below the group's size has an
-- item; and each item has a lane.
pub record LaysOut (code : KirCode) (marks : ℕ → Bool) (p : Plan) : Type 0 where
  pub laid : (item group warp number : ℕ) → HasLane p item group warp number
      → IsLaidFor code marks (setting_for code p item) p.bounds (around_of p group warp number)
  pub each_lane : (group warp number : ℕ) → group < group_count p.range → number < p.lanes → warp * p.lanes + number < group_size p.range
      → HasLane p (item_of p group warp number) group warp number
  pub each_item : (item : ℕ) → item < items_of p
      → HasLane p item (group_number p.range item) (local_number p.range item / p.lanes) (local_number p.range item % p.lanes)

-- the law: it is said of each accepted launch of a kernel
abbrev pub AcceptedIsLaid : Type 0
AcceptedIsLaid = (code : KirCode) (marks : ℕ → Bool) (p : Plan) → Accepted p → IsLaunchOf code p → LaysOut code marks p
