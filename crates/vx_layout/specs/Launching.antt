-- A launch as it is laid out: its parameters and arrays, its range, what its parameters stand for, where its buffers lie, and
-- how wide the machine is. Then when such a launch is accepted.
use Rattle.std.specs.Prelude.{◌≡◌, ℕ, zero, suc, ◌+◌, ◌-◌, ◌*◌, ◌/◌, ◌%◌, ◌^◌, ◌<◌, ◌≤◌, nat_lt, if◌then◌else◌, List, [], ◌∷◌, ◌++◌, length, map, slice_get, slice_index, sum, Bool, true, false, Option, None, Some}
use Rattle.vx_base.specs.Values.{elem_bytes}
use Rattle.vx_base.specs.declared.types.Elem.{Elem}
use Rattle.vx_base.specs.declared.types.ParamKind.{ParamKind}
use Rattle.vx_base.specs.declared.types.ParamKind.TheVariants.{Scalar, Pointer}
use Rattle.vx_base.specs.declared.types.Space.{Space}
use Rattle.vx_base.specs.declared.types.Space.TheVariants as space
use Rattle.item_acts.specs.declared.acts.Bound.{Bound}
use Rattle.item_acts.specs.declared.acts.Bound.TheVariants.{Value, Array}
use Rattle.item_acts.specs.declared.acts.Range.{Range}
use Rattle.vx_layout.specs.Addresses.{Span, Map, has, in_words, in_lines, spans_from, arrays_start, buffers_start}

-- ---- ranges (OpenCL C 1.2, section 3.2)

-- the size of dimension d, and 1 for a dimension past the last
abbrev pub size_in : Range → List ℕ → ℕ → ℕ
size_in range sizes d = if nat_lt d range.dims then slice_index sizes d else 1

-- how many items a group has
abbrev pub group_size : Range → ℕ
group_size range = size_in range range.local 0 * size_in range range.local 1 * size_in range range.local 2

-- how many groups dimension d has
abbrev pub groups_in : Range → ℕ → ℕ
groups_in range d = size_in range range.global d / size_in range range.local d

-- how many groups there are
abbrev pub group_count : Range → ℕ
group_count range = groups_in range 0 * groups_in range 1 * groups_in range 2

-- coordinate d of number n in a box whose first two sizes are these, the first coordinate running fastest
abbrev pub coordinate : ℕ → ℕ → ℕ → ℕ → ℕ
coordinate first second n zero = n % first
coordinate first second n (suc zero) = n / first % second
coordinate first second n (suc (suc zero)) = n / (first * second)
coordinate first second n (suc (suc (suc d))) = 0

-- how many warps of so many lanes a group of so many items takes
abbrev pub warps_for : ℕ → ℕ → ℕ
warps_for items lanes = (items + lanes - 1) / lanes

-- ---- arrays

abbrev pub is_local : Space → Bool
is_local space.Local = true
is_local other = false

abbrev pub is_local_kind : ParamKind → Bool
is_local_kind (Scalar elem) = false
is_local_kind (Pointer space elem readonly) = is_local space

-- the bytes of a `__local` parameter's array, before those of other parameters
abbrev pub with_local : ParamKind → Bound → List ℕ → List ℕ
with_local (Pointer space.Local elem readonly) (Array place count) sizes = count * elem_bytes elem ∷ sizes
with_local kind bound sizes = sizes

-- the bytes of the `__local` parameters' arrays in order
abbrev pub param_sizes : List ParamKind → List Bound → List ℕ
param_sizes [] bounds = []
param_sizes (kind ∷ kinds) [] = []
param_sizes (kind ∷ kinds) (bound ∷ bounds) = with_local kind bound (param_sizes kinds bounds)

-- how many of the parameters before number k are `__local` arrays
abbrev pub locals_before : List ParamKind → ℕ → ℕ
locals_before [] k = 0
locals_before (kind ∷ kinds) zero = 0
locals_before (kind ∷ kinds) (suc k) = if is_local_kind kind then suc (locals_before kinds k) else locals_before kinds k

-- ---- a launch

pub record Plan : Type 0 where
  -- what the kernel's parameters take, and the bytes of each `__local` array that it declares
  pub params : List ParamKind
  pub arrays : List ℕ
  -- its items, and what the parameters stand for
  pub range : Range
  pub bounds : List Bound
  -- where each buffer lies in the memory that the cores share, from byte 0 on, and how many bytes that memory has
  pub buffers : List Span
  pub shared : ℕ
  -- the warps of a core, the lanes of a warp, the words of a lane's frame, and the words of the code
  pub warps : ℕ
  pub lanes : ℕ
  pub slots : ℕ
  pub code : ℕ

-- the bytes of each local array of a group: those of the parameters, and then the declared ones
abbrev pub local_sizes : Plan → List ℕ
local_sizes p = param_sizes p.params p.bounds ++ p.arrays

abbrev pub buffer_at : Span → Span
buffer_at s = record { start = buffers_start + s.start; size = s.size }

-- where the arrays of a launch lie
abbrev pub map_of : Plan → Map
map_of p = record { buffers = map buffer_at p.buffers; locals = spans_from arrays_start (local_sizes p) }

-- ---- what is accepted

-- the buffer has so many elements of the type, and no byte besides
abbrev pub IsBuffer : List Span → Elem → ℕ → ℕ → Type 0
IsBuffer buffers elem place count = (s : Span) × (slice_get buffers place ≡ Some s) × (s.size ≡ count * elem_bytes elem)

-- A parameter may stand for this, with so many `__local` parameters before it: a scalar for a word, a `__local` array for the
-- next local array, and any other array for the whole of a buffer.
abbrev pub Fits : List Span → ℕ → ParamKind → Bound → Type 0
Fits buffers before (Scalar elem) (Value value) = value < 2 ^ 32
Fits buffers before (Scalar elem) (Array place count) = ⊥
Fits buffers before (Pointer space elem readonly) (Value value) = ⊥
Fits buffers before (Pointer space.Local elem readonly) (Array place count) = place ≡ before
Fits buffers before (Pointer space.Global elem readonly) (Array place count) = IsBuffer buffers elem place count
Fits buffers before (Pointer space.Constant elem readonly) (Array place count) = IsBuffer buffers elem place count

-- the parameter stands for this buffer, as one of the space
abbrev pub NamesIn : Space → ℕ → Option ParamKind → Option Bound → Type 0
NamesIn space place (Some (Pointer space' elem readonly)) (Some (Array place' count)) = (space' ≡ space) × (place' ≡ place)
NamesIn space place kind bound = ⊥

-- some parameter does
abbrev pub Names : Plan → Space → ℕ → Type 0
Names p space place = (k : ℕ) × NamesIn space place (slice_get p.params k) (slice_get p.bounds k)

-- no cache line has bytes of two buffers
abbrev pub ApartByLines : List Span → Type 0
ApartByLines spans = (i j : ℕ) (s t : Span) (a b : ℕ) → slice_get spans i ≡ Some s → slice_get spans j ≡ Some t → has s a ≡ true → has t b ≡ true → a / 64 ≡ b / 64 → i ≡ j

-- A launch that may run.
pub record Accepted (p : Plan) : Type 0 where
  pub some_dims : 1 ≤ p.range.dims
  pub dims : p.range.dims ≤ 3
  pub some_local : (d : ℕ) → d < p.range.dims → 1 ≤ slice_index p.range.local d
  pub some_global : (d : ℕ) → d < p.range.dims → 1 ≤ slice_index p.range.global d
  pub globals : (d : ℕ) → d < p.range.dims → slice_index p.range.global d < 2 ^ 32
  pub divides : (d : ℕ) → d < p.range.dims → slice_index p.range.global d % slice_index p.range.local d ≡ 0
  pub some_lanes : 1 ≤ p.lanes
  pub lanes : p.lanes ≤ 32
  pub warps : p.warps ≤ 16
  pub slots : p.slots ≤ 256
  pub code : p.code ≤ 65536
  pub group : group_size p.range ≤ 512
  pub room : group_size p.range ≤ p.warps * p.lanes
  pub groups : group_count p.range ≤ 65536
  pub params : length p.params ≤ 16
  pub arrays : length p.arrays ≤ 16
  pub local_bytes : sum (map in_words (local_sizes p)) ≤ 262144
  pub bound_each : length p.bounds ≡ length p.params
  pub bound : (k : ℕ) (kind : ParamKind) (b : Bound) → slice_get p.params k ≡ Some kind → slice_get p.bounds k ≡ Some b
      → Fits p.buffers (locals_before p.params k) kind b
  pub one_space : (buffer : ℕ) → Names p space.Constant buffer → Names p space.Global buffer → ⊥
  pub buffers_aligned : (i : ℕ) (s : Span) → slice_get p.buffers i ≡ Some s → s.start % 64 ≡ 0
  pub buffers_apart : ApartByLines p.buffers
  pub buffers_in : (i : ℕ) (s : Span) → slice_get p.buffers i ≡ Some s → s.start + in_lines s.size ≤ p.shared
  pub shared : p.shared ≤ 4194304
