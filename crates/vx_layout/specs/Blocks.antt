-- The launch block: 64 words by which a lane knows its launch and its group.
use Rattle.std.specs.Prelude.{ℕ, ◌+◌, ◌-◌, ◌*◌, ◌/◌, ◌%◌, nat_eq, nat_lt, if◌then◌else◌, List, [], ◌∷◌, count_by, slice_get, slice_index, Option, None, Some}
use Rattle.vx_base.specs.Values.{fitted}
use Rattle.vx_base.specs.declared.types.ParamKind.{ParamKind}
use Rattle.vx_base.specs.declared.types.ParamKind.TheVariants.{Scalar, Pointer}
use Rattle.vx_base.specs.declared.types.Space.{Space}
use Rattle.vx_base.specs.declared.types.Space.TheVariants as space
use Rattle.item_acts.specs.declared.acts.Bound.{Bound}
use Rattle.item_acts.specs.declared.acts.Bound.TheVariants.{Value, Array}
use Rattle.item_acts.specs.declared.acts.Range.{Range}
use Rattle.vx_layout.specs.Addresses.{Span, Map}
use Rattle.vx_layout.specs.Launching.{Plan, map_of, size_in, group_size, groups_in, coordinate, warps_for, is_local_kind}

-- words 0 to 15: the warps of the group, its items, the dimensions, the group's ids, the local and the global sizes, the numbers
-- of groups, and the lanes
abbrev pub head_of : Range → ℕ → ℕ → List ℕ
head_of range lanes group =
    warps_for (group_size range) lanes ∷ group_size range ∷ range.dims
    ∷ coordinate (groups_in range 0) (groups_in range 1) group 0 ∷ coordinate (groups_in range 0) (groups_in range 1) group 1 ∷ coordinate (groups_in range 0) (groups_in range 1) group 2
    ∷ size_in range range.local 0 ∷ size_in range range.local 1 ∷ size_in range range.local 2
    ∷ size_in range range.global 0 ∷ size_in range range.global 1 ∷ size_in range range.global 2
    ∷ groups_in range 0 ∷ groups_in range 1 ∷ groups_in range 2
    ∷ lanes ∷ []

-- the first address of a span, and 0 where there is none
abbrev pub start_of : Option Span → ℕ
start_of None = 0
start_of (Some s) = s.start

abbrev pub array_start : Map → Space → ℕ → ℕ
array_start m space.Local place = start_of (slice_get m.locals place)
array_start m other place = start_of (slice_get m.buffers place)

-- the first word of a parameter: a scalar's value, or the address of an array
abbrev pub first_word : Map → Option ParamKind → Option Bound → ℕ
first_word m (Some (Scalar elem)) (Some (Value value)) = fitted elem value
first_word m (Some (Pointer space elem readonly)) (Some (Array place count)) = array_start m space place
first_word m kind bound = 0

-- the second: how many elements an array has
abbrev pub second_word : Option ParamKind → Option Bound → ℕ
second_word (Some (Pointer space elem readonly)) (Some (Array place count)) = count
second_word kind bound = 0

-- words 16 to 47, counted from 0: two of each parameter
abbrev pub param_word : Plan → ℕ → ℕ
param_word p k =
    if nat_eq (k % 2) 0
    then first_word (map_of p) (slice_get p.params (k / 2)) (slice_get p.bounds (k / 2))
    else second_word (slice_get p.params (k / 2)) (slice_get p.bounds (k / 2))

-- how many parameters are `__local` arrays
abbrev pub local_params : Plan → ℕ
local_params p = count_by is_local_kind p.params

-- words 48 to 63, counted from 0: the addresses of the declared `__local` arrays
abbrev pub declared_word : Plan → ℕ → ℕ
declared_word p j = start_of (slice_get (map_of p).locals (local_params p + j))

-- word k of the launch block of a group
abbrev pub block_of : Plan → ℕ → ℕ → ℕ
block_of p group k =
    if nat_lt k 16 then slice_index (head_of p.range p.lanes group) k
    else if nat_lt k 48 then param_word p (k - 16)
    else declared_word p (k - 48)
