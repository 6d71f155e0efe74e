-- Why a launch is refused, in the order in which it is asked.
use Rattle.std.specs.Prelude.{◌≡◌, ◌≢◌, ℕ, ◌-◌, ◌*◌, ◌%◌, ◌^◌, ◌<◌, ◌≤◌, min, nat_eq, Bool, true, false, not, ◌&&◌, List, length, slice_get, slice_index, Option, None, Some}
use Rattle.vx_base.specs.declared.types.Elem.{Elem}
use Rattle.vx_base.specs.declared.types.Elem.TheVariants.{Char, Uchar, Short, Ushort, Int, Uint}
use Rattle.vx_base.specs.declared.types.ParamKind.{ParamKind}
use Rattle.vx_base.specs.declared.types.ParamKind.TheVariants.{Scalar, Pointer}
use Rattle.item_acts.specs.declared.acts.Range.{Range}
use Rattle.vx_layout.specs.Launching.{is_local, group_size, group_count}
use Rattle.launch_plans.specs.declared.plans.Arg.{Arg}
use Rattle.launch_plans.specs.declared.plans.Arg.TheVariants as arg
use Rattle.launch_loader.specs.declared.buffers.BufShape.{BufShape}
use Rattle.launch_loader.specs.declared.faults.LaunchFault.{LaunchFault}
use Rattle.launch_loader.specs.declared.faults.LaunchFault.TheVariants.{Arguments, Argument, Both, Divide, GroupSize, Groups}
use Rattle.launch_loader.specs.Spaces.{IsBoth, NoneBoth}

-- ---- arguments

abbrev pub same_elem : Elem → Elem → Bool
same_elem Char Char = true
same_elem Uchar Uchar = true
same_elem Short Short = true
same_elem Ushort Ushort = true
same_elem Int Int = true
same_elem Uint Uint = true
same_elem one other = false

-- the buffer has elements of the type
abbrev pub has_elem : Elem → Option BufShape → Bool
has_elem elem None = false
has_elem elem (Some b) = same_elem elem b.elem

-- the parameter takes the argument: a scalar a number, a `__local` array a number of elements, and
-- any other array a buffer with elements of its type
abbrev pub takes : List BufShape → ParamKind → Arg → Bool
takes buffers (Scalar elem) (arg.Int value) = true
takes buffers (Scalar elem) other = false
takes buffers (Pointer space elem readonly) (arg.Local count) = is_local space
takes buffers (Pointer space elem readonly) (arg.Buffer b) =
    not (is_local space) && has_elem elem (slice_get buffers b)
takes buffers (Pointer space elem readonly) (arg.Int value) = false

-- the same of the parameter and the argument at a place, and true where there are none
abbrev pub fits_both : List BufShape → Option ParamKind → Option Arg → Bool
fits_both buffers None given = true
fits_both buffers (Some kind) None = true
fits_both buffers (Some kind) (Some given) = takes buffers kind given

abbrev pub fits_at : List BufShape → List ParamKind → List Arg → ℕ → Bool
fits_at buffers kinds args k = fits_both buffers (slice_get kinds k) (slice_get args k)

-- the first place where an argument is not taken
pub record IsMisfit (buffers : List BufShape) (kinds : List ParamKind) (args : List Arg)
    (place : ℕ) : Type 0 where
  pub inside : place < length args
  pub refused : fits_at buffers kinds args place ≡ false
  pub first : (k : ℕ) → k < place → fits_at buffers kinds args k ≡ true

abbrev pub AllFit : List BufShape → List ParamKind → List Arg → Type 0
AllFit buffers kinds args = (k : ℕ) → k < length args → fits_at buffers kinds args k ≡ true

-- why arguments are refused
abbrev pub RefusesArguments : List BufShape → List ParamKind → List Arg → LaunchFault → Type 0
RefusesArguments buffers kinds args (Arguments given wanted) =
    (given ≡ length args) × (wanted ≡ length kinds) × (given ≢ wanted)
RefusesArguments buffers kinds args (Argument place) =
    (length args ≡ length kinds) × IsMisfit buffers kinds args place
RefusesArguments buffers kinds args (Both place) =
    (length args ≡ length kinds) × AllFit buffers kinds args × IsBoth kinds args place
RefusesArguments buffers kinds args fault = ⊥

-- arguments that are not
pub record TakesArguments (buffers : List BufShape) (kinds : List ParamKind)
    (args : List Arg) : Type 0 where
  pub many : length args ≡ length kinds
  pub fit : AllFit buffers kinds args
  pub spaces : NoneBoth kinds args

-- ---- ranges

-- a number as 64 bits keep it: the greatest that they hold stands for all that are greater
abbrev pub kept : ℕ → ℕ
kept n = min (2 ^ 64 - 1) n

-- the local size of dimension d divides its global size
abbrev pub Divides : Range → ℕ → Type 0
Divides range d = slice_index range.global d % slice_index range.local d ≡ 0

abbrev pub divides : Range → ℕ → Bool
divides range d = nat_eq (slice_index range.global d % slice_index range.local d) 0

abbrev pub AllDivide : Range → Type 0
AllDivide range = (d : ℕ) → d < 3 → Divides range d

-- d is the first dimension in which it does not
pub record IsFirstUneven (range : Range) (d : ℕ) : Type 0 where
  pub inside : d < 3
  pub uneven : slice_index range.global d % slice_index range.local d ≢ 0
  pub first : (e : ℕ) → e < d → Divides range e

-- the most items that a group may have
abbrev pub most_items : ℕ → ℕ → ℕ
most_items warps lanes = min 512 (warps * lanes)

-- why a range is refused on a machine of so many warps and lanes a core
abbrev pub RefusesRange : Range → ℕ → ℕ → LaunchFault → Type 0
RefusesRange range warps lanes (Divide whole part) = (d : ℕ) × IsFirstUneven range d
    × (whole ≡ slice_index range.global d) × (part ≡ slice_index range.local d)
RefusesRange range warps lanes (GroupSize items most) = AllDivide range
    × (most < group_size range) × (items ≡ kept (group_size range))
    × (most ≡ most_items warps lanes)
RefusesRange range warps lanes (Groups count) = AllDivide range
    × (group_size range ≤ most_items warps lanes)
    × (65536 < group_count range) × (count ≡ kept (group_count range))
RefusesRange range warps lanes fault = ⊥

-- a range that is not
pub record TakesRange (range : Range) (warps lanes : ℕ) : Type 0 where
  pub divides : AllDivide range
  pub group : group_size range ≤ most_items warps lanes
  pub groups : group_count range ≤ 65536
