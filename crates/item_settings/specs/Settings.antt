-- What a work-item knows of its launch: its numbers, and the arrays of its kernel. Of the kernel only its parameters and the
-- `__local` arrays that it declares matter.
use Rattle.std.specs.Prelude.{ℕ, zero, suc, ◌+◌, ◌*◌, ◌/◌, ◌%◌, ◌^◌, count_by, Bool, true, false, not, nat_lt, if◌then◌else◌, List, [], ◌∷◌, slice_get, slice_index, Option, None, Some}
use Rattle.vx_base.specs.Values.{elem_bytes, fitted}
use Rattle.vx_base.specs.declared.types.Elem.{Elem}
use Rattle.vx_base.specs.declared.types.Elem.TheVariants.{Char, Uchar, Short, Ushort, Int, Uint}
use Rattle.vx_base.specs.declared.types.ParamKind.{ParamKind}
use Rattle.vx_base.specs.declared.types.ParamKind.TheVariants.{Scalar, Pointer}
use Rattle.vx_base.specs.declared.types.Size.{Size}
use Rattle.vx_base.specs.declared.types.Size.TheVariants.{One, Two, Four}
use Rattle.vx_base.specs.declared.types.Space.{Space}
use Rattle.vx_base.specs.declared.types.Space.TheVariants as space
use Rattle.item_acts.specs.declared.acts.Bound.{Bound}
use Rattle.item_acts.specs.declared.acts.Bound.TheVariants.{Value, Array}
use Rattle.item_acts.specs.declared.acts.Place.{Place}
use Rattle.item_acts.specs.declared.acts.Place.TheVariants.{Global, Local}
use Rattle.item_acts.specs.declared.acts.Range.{Range}
use Rattle.ocl_ast.specs.declared.units.Param.{Param}
use Rattle.ocl_program.specs.declared.exprs.ArrayRef.{ArrayRef}
use Rattle.ocl_program.specs.declared.exprs.ArrayRef.TheVariants.{Parameter, Declared}
use Rattle.ocl_program.specs.declared.exprs.Builtin.{Builtin}
use Rattle.ocl_program.specs.declared.exprs.Builtin.TheVariants.{GlobalId, LocalId, GroupId, GlobalSize, LocalSize, NumGroups}
use Rattle.ocl_program.specs.declared.functions.LocalArray.{LocalArray}
use Rattle.ocl_program.specs.Measures.{cut}
use Rattle.item_settings.specs.declared.arrays.ItemArray.{ItemArray}

-- ---- numbers of an item (OpenCL C 1.2, section 3.2)

-- the size of dimension d, and 1 for a dimension past the last
abbrev pub size_in : Range → List ℕ → ℕ → ℕ
size_in range sizes d = if nat_lt d range.dims then slice_index sizes d else 1

-- how many items a group has
abbrev pub group_size : Range → ℕ
group_size range = size_in range range.local 0 * size_in range range.local 1 * size_in range range.local 2

-- how many groups dimension d has
abbrev pub groups_in : Range → ℕ → ℕ
groups_in range d = size_in range range.global d / size_in range range.local d

-- coordinate d of number n in a box whose first two sizes are these, the first coordinate running fastest
abbrev pub coordinate : ℕ → ℕ → ℕ → ℕ → ℕ
coordinate first second n zero = n % first
coordinate first second n (suc zero) = n / first % second
coordinate first second n (suc (suc zero)) = n / (first * second)
coordinate first second n (suc (suc (suc d))) = 0

-- the group of an item, and its number in the group
abbrev pub group_number : Range → ℕ → ℕ
group_number range item = item / group_size range

abbrev pub local_number : Range → ℕ → ℕ
local_number range item = item % group_size range

-- the numbers of an item in dimension d: of its group, in its group, and in the launch, which is a uint
abbrev pub group_id : Range → ℕ → ℕ → ℕ
group_id range item d = coordinate (groups_in range 0) (groups_in range 1) (group_number range item) d

abbrev pub local_id : Range → ℕ → ℕ → ℕ
local_id range item d = coordinate (size_in range range.local 0) (size_in range range.local 1) (local_number range item) d

abbrev pub global_id : Range → ℕ → ℕ → ℕ
global_id range item d = (group_id range item d * size_in range range.local d + local_id range item d) % 2 ^ 32

-- what a built-in function of a dimension gives (OpenCL C 1.2, section 6.12.1)
abbrev pub id_of : Range → ℕ → Builtin → ℕ → ℕ
id_of range item GlobalId d = global_id range item d
id_of range item LocalId d = local_id range item d
id_of range item GroupId d = group_id range item d
id_of range item GlobalSize d = size_in range range.global d
id_of range item LocalSize d = size_in range range.local d
id_of range item NumGroups d = groups_in range d
id_of range item other d = 0

-- ---- arrays

-- the size of an element
abbrev pub elem_size : Elem → Size
elem_size Char = One
elem_size Uchar = One
elem_size Short = Two
elem_size Ushort = Two
elem_size Int = Four
elem_size Uint = Four

-- byte k of an array, as an item of this group reaches it
abbrev pub byte_in : ℕ → ItemArray → ℕ → Place
byte_in group array k = if array.local then Local group array.number k else Global array.number k

-- where an element begins
abbrev pub element_in : ℕ → ItemArray → ℕ → Place
element_in group array i = byte_in group array (i * elem_bytes array.elem)

-- where an element of a type begins, whether or not the array has it: numbers of bytes are words
abbrev pub place_in : ℕ → ItemArray → Elem → ℕ → Place
place_in group array elem i = byte_in group array ((i * elem_bytes elem) % 2 ^ 32)

-- the low bytes of a value, as an unsigned number
abbrev pub low_bytes : Elem → ℕ → ℕ
low_bytes elem v = v % 2 ^ (8 * elem_bytes elem)

-- an array that has no element
abbrev pub no_array : ItemArray
no_array = record { local = false; number = 0; count = 0; elem = Int; writable = false }

abbrev pub is_local : Space → Bool
is_local space.Local = true
is_local other = false

-- an array of constants is never stored to
abbrev pub is_writable : Space → Bool → Bool
is_writable space.Constant readonly = false
is_writable other readonly = not readonly

-- what a parameter of this kind stands for
abbrev pub bound_array : ParamKind → Bound → ItemArray
bound_array (Pointer space elem readonly) (Array place count) = record {
  local = is_local space;
  number = place;
  count = count;
  elem = elem;
  writable = is_writable space readonly;
}
bound_array kind bound = no_array

abbrev pub array_bound : Option Param → Option Bound → ItemArray
array_bound (Some param) (Some bound) = bound_array param.kind bound
array_bound param bound = no_array

abbrev pub is_local_kind : ParamKind → Bool
is_local_kind (Scalar elem) = false
is_local_kind (Pointer space elem readonly) = is_local space

abbrev pub is_local_param : Param → Bool
is_local_param param = is_local_kind param.kind

-- a `__local` array that the kernel declares; they are numbered behind its `__local` parameters
abbrev pub declared_array : List Param → ℕ → Option LocalArray → ItemArray
declared_array params k None = no_array
declared_array params k (Some array) = record { local = true; number = cut (count_by is_local_param params + k); count = array.count; elem = array.elem; writable = true }

-- the array that a kernel names so
abbrev pub array_of : List Param → List LocalArray → List Bound → ArrayRef → ItemArray
array_of params arrays bounds (Parameter k) = array_bound (slice_get params k) (slice_get bounds k)
array_of params arrays bounds (Declared k) = declared_array params k (slice_get arrays k)

-- ---- numbers that are passed

-- what a scalar parameter is bound to
abbrev pub bound_value : Elem → Bound → ℕ
bound_value elem (Value value) = fitted elem value
bound_value elem (Array place count) = 0

-- the values of the scalar parameters in order
abbrev pub with_value : ParamKind → Bound → List ℕ → List ℕ
with_value (Scalar elem) bound values = bound_value elem bound ∷ values
with_value (Pointer space elem readonly) bound values = values

abbrev pub bound_values : List Param → List Bound → List ℕ
bound_values [] bounds = []
bound_values (param ∷ params) [] = []
bound_values (param ∷ params) (bound ∷ bounds) = with_value param.kind bound (bound_values params bounds)

-- ---- the whole

-- what an item knows of its launch
pub record Setting : Type 0 where
  pub group : ℕ
  pub dims : ℕ
  pub id : Builtin → ℕ → ℕ
  pub array : ArrayRef → ItemArray

abbrev pub setting_of : List Param → List LocalArray → Range → List Bound → ℕ → Setting
setting_of params arrays range bounds item = record {
  group = group_number range item;
  dims = range.dims;
  id = id_of range item;
  array = array_of params arrays bounds;
}
