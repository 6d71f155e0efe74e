-- Which launches can be checked, and where the arrays of a launch lie.
use Rattle.std.specs.Prelude.{◌≡◌, ℕ, suc, ◌+◌, ◌*◌, ◌%◌, ◌^◌, ◌<◌, ◌≤◌, max, List, [], ◌∷◌, length, map, slice_get, slice_index, Option, None, Some}
use Rattle.vx_base.specs.Values.{elem_bytes}
use Rattle.vx_base.specs.declared.types.ParamKind.{ParamKind}
use Rattle.item_acts.specs.declared.acts.Bound.{Bound}
use Rattle.item_acts.specs.declared.acts.Bound.TheVariants.{Value, Array}
use Rattle.vx_isa.specs.declared.image.Image.{Image}
use Rattle.vx_layout.specs.Addresses.{Span, in_lines}
use Rattle.vx_layout.specs.Launching.{Plan as Layout, ApartByLines, locals_before}
use Rattle.launch_plans.specs.declared.plans.Arg.{Arg}
use Rattle.launch_plans.specs.declared.plans.Arg.TheVariants.{Buffer, Int, Local}
use Rattle.launch_loader.specs.declared.buffers.BufShape.{BufShape}
use Rattle.launch_plans.specs.declared.plans.Plan.{Plan}
use Rattle.launch_plans.specs.declared.shapes.Shape.{Shape}
use Rattle.launch_plans.specs.Shapes.{IsShape}

-- a launch of an image on a machine, with the buffers that there are
pub record Case : Type 0 where
  pub image : Image
  pub plan : Plan
  pub shape : Shape
  pub buffers : List BufShape

-- the launch of this image
abbrev pub case_of : Image → Plan → Shape → List BufShape → Case
case_of image plan shape buffers = record {
  image = image;
  plan = plan;
  shape = shape;
  buffers = buffers;
}

-- the bytes of a buffer
abbrev pub span_of : BufShape → Span
span_of b = record { start = b.start; size = b.count * elem_bytes b.elem }

-- how many bytes the memory has that holds these buffers, in whole cache lines
abbrev pub shared_bytes : List BufShape → ℕ
shared_bytes [] = 0
shared_bytes (b ∷ bs) = max (b.start + in_lines (b.count * elem_bytes b.elem)) (shared_bytes bs)

abbrev pub count_of : Option BufShape → ℕ
count_of None = 0
count_of (Some b) = b.count

-- what parameter k stands for where this is given for it
abbrev pub bound_of : List ParamKind → List BufShape → ℕ → Arg → Bound
bound_of kinds buffers k (Buffer b) = Array b (count_of (slice_get buffers b))
bound_of kinds buffers k (Int value) = Value value
bound_of kinds buffers k (Local count) = Array (locals_before kinds k) count

-- what the parameters from number k on stand for
abbrev pub bounds_from : List ParamKind → List BufShape → ℕ → List Arg → List Bound
bounds_from kinds buffers k [] = []
bounds_from kinds buffers k (arg ∷ args) =
    bound_of kinds buffers k arg ∷ bounds_from kinds buffers (suc k) args

-- where all that is of the launch lies
abbrev pub layout_of : Case → Layout
layout_of c = record {
  params = c.image.params;
  arrays = c.image.locals;
  range = c.plan.range;
  bounds = bounds_from c.image.params c.buffers 0 c.plan.args;
  buffers = map span_of c.buffers;
  shared = shared_bytes c.buffers;
  warps = c.shape.warps;
  lanes = c.shape.lanes;
  slots = c.image.slots;
  code = length c.image.words;
}

-- the launch can be checked
pub record CanCheck (c : Case) : Type 0 where
  pub shape : IsShape c.shape
  pub some_dims : 1 ≤ c.plan.range.dims
  pub dims : c.plan.range.dims ≤ 3
  pub some_global : (d : ℕ) → d < 3 → 1 ≤ slice_index c.plan.range.global d
  pub some_local : (d : ℕ) → d < 3 → 1 ≤ slice_index c.plan.range.local d
  pub past_global : (d : ℕ) → c.plan.range.dims ≤ d → d < 3 → slice_index c.plan.range.global d ≡ 1
  pub past_local : (d : ℕ) → c.plan.range.dims ≤ d → d < 3 → slice_index c.plan.range.local d ≡ 1
  pub known : (k b : ℕ) → slice_get c.plan.args k ≡ Some (Buffer b) → b < length c.buffers
  pub aligned : (i : ℕ) (b : BufShape) → slice_get c.buffers i ≡ Some b → b.start % 64 ≡ 0
  pub inside : (i : ℕ) (b : BufShape) → slice_get c.buffers i ≡ Some b
      → b.start + b.count * elem_bytes b.elem ≤ 4194304
  pub apart : ApartByLines (map span_of c.buffers)
  pub words : length c.image.words ≤ 65536
  pub slots : c.image.slots ≤ 256
  pub params : length c.image.params ≤ 16
  pub locals : length c.image.locals ≤ 16
  pub args : length c.plan.args < 2 ^ 32
