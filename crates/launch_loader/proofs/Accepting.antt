-- A launch that nothing refuses is accepted.
use Rattle.std.proofs.Common.{◌≡◌, ℕ, zero, suc, ◌+◌, ◌*◌, ◌%◌, ◌≤◌, List, [], ◌∷◌, map, slice_get, Option, None, Some, refl, sym, subst, ◌∙◌, arith, lit≤}
use Rattle.std.specs.Option.{option_map}
use Rattle.std.proofs.Math.Nat.{le-max_left, le-max_right, max-le, min-le_left, min-le_right}
use Rattle.std.proofs.lemmas.Option.{slice_get-map}
use Rattle.vx_base.specs.Values.{elem_bytes}
use Rattle.vx_layout.specs.Addresses.{Span, in_lines}
use Rattle.vx_layout.specs.Launching.{Accepted}
use Rattle.launch_loader.specs.declared.buffers.BufShape.{BufShape}
use Rattle.launch_loader.specs.Checking.{Passes}
use Rattle.launch_loader.specs.Conditions.{Case, CanCheck, layout_of, span_of, shared_bytes}
use Rattle.launch_loader.specs.Words.{AreWordArgs, AreWords}
use Rattle.launch_loader.proofs.Bounds.{bound_fits, bounds_each}
use Rattle.launch_loader.proofs.OneSpace.{one_space}

-- ---- the memory that the cores share

in_shared : (buffers : List BufShape) (i : ℕ) (s : Span) → slice_get (map span_of buffers) i ≡ Some s → s.start + in_lines s.size ≤ shared_bytes buffers
in_shared [] i s at = absurd (cc)
in_shared (b ∷ bs) zero s at =
    let same : span_of b ≡ s = cc in
    subst (λ (t : Span). t.start + in_lines t.size ≤ shared_bytes (b ∷ bs)) same (le-max_left (b.start + in_lines (b.count * elem_bytes b.elem)) (shared_bytes bs))
in_shared (b ∷ bs) (suc i) s at =
    up (in_shared bs i s at) (le-max_right (b.start + in_lines (b.count * elem_bytes b.elem)) (shared_bytes bs))
  where
    up : {x y z : ℕ} → x ≤ y → y ≤ z → x ≤ z
    up one two = omega (arith, one, two)

in_whole_lines : (start size : ℕ) → start % 64 ≡ 0 → start + size ≤ 4194304 → start + in_lines size ≤ 4194304
in_whole_lines start size aligned inside = omega (arith, aligned, inside)

all_inside : (buffers : List BufShape) → ((i : ℕ) (b : BufShape) → slice_get buffers i ≡ Some b → b.start % 64 ≡ 0)
    → ((i : ℕ) (b : BufShape) → slice_get buffers i ≡ Some b → b.start + b.count * elem_bytes b.elem ≤ 4194304) → shared_bytes buffers ≤ 4194304
all_inside [] aligned inside = lit≤ tt
all_inside (b ∷ bs) aligned inside =
    max-le (in_whole_lines b.start (b.count * elem_bytes b.elem) (aligned 0 b refl) (inside 0 b refl))
    (all_inside bs (λ i. aligned (suc i)) (λ i. inside (suc i)))

all_aligned : (buffers : List BufShape) → ((i : ℕ) (b : BufShape) → slice_get buffers i ≡ Some b → b.start % 64 ≡ 0)
    → (i : ℕ) (s : Span) → slice_get (map span_of buffers) i ≡ Some s → s.start % 64 ≡ 0
all_aligned buffers aligned i s at = by (slice_get buffers i) refl (sym (slice_get-map span_of buffers i) ∙ at)
  where
    by : (o : Option BufShape) → slice_get buffers i ≡ o → option_map span_of o ≡ Some s → s.start % 64 ≡ 0
    by None is e = absurd (cc)
    by (Some b) is e = let same : span_of b ≡ s = cc in subst (λ (t : Span). t.start % 64 ≡ 0) same (aligned i b is)

-- ---- all together

up_to : {x y z : ℕ} → x ≤ y → y ≤ z → x ≤ z
up_to one two = omega (arith, one, two)

pub accepted : (c : Case) → CanCheck c → Passes c → AreWordArgs c.plan.args → AreWords c.plan.range.global → Accepted (layout_of c)
accepted c can passes small sizes = record {
  some_dims = can.some_dims;
  dims = can.dims;
  some_local = λ d less. can.some_local d (omega (arith, less, can.dims));
  some_global = λ d less. can.some_global d (omega (arith, less, can.dims));
  globals = λ d less. sizes d;
  divides = λ d less. passes.range.divides d (omega (arith, less, can.dims));
  some_lanes = can.shape.some_lanes;
  lanes = can.shape.lanes;
  warps = can.shape.warps;
  slots = can.slots;
  code = can.words;
  group = up_to passes.range.group (min-le_left 512 (c.shape.warps * c.shape.lanes));
  room = up_to passes.range.group (min-le_right 512 (c.shape.warps * c.shape.lanes));
  groups = passes.range.groups;
  params = can.params;
  arrays = can.locals;
  local_bytes = passes.locals;
  bound_each = bounds_each c.image.params c.buffers 0 c.plan.args ∙ passes.arguments.many;
  bound = bound_fits c.image.params c.buffers c.plan.args passes.arguments.fit small;
  one_space = λ b constant global. one_space c.image.params c.buffers c.plan.args passes.arguments.fit passes.arguments.spaces b constant.0 global.0 constant.1 global.1;
  buffers_aligned = all_aligned c.buffers can.aligned;
  buffers_apart = can.apart;
  buffers_in = in_shared c.buffers;
  shared = all_inside c.buffers can.aligned can.inside;
}
