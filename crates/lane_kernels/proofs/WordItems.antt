-- An item of an accepted launch is one of whose launch the numbers are words.
use Rattle.std.proofs.Common.{inl, inr, ◌≡◌, refl, ap, ◌∙◌, ℕ, ◌+◌, ◌*◌, ◌/◌, ◌%◌, ◌^◌, ◌<◌, ◌≤◌, Option, None, Some, slice_get, arith}
use Rattle.std.specs.Prelude.{option_map, slice_index}
use Rattle.std.proofs.lemmas.Option.{slice_get-map}
use Rattle.std.proofs.lemmas.Nat.{div-add-mod'}
use Rattle.std.proofs.Math.Nat.{mod-eq_of_lt, mul-le-mul}
use Rattle.std.proofs.lemmas.Bool.{cases_lt}
use Rattle.vx_base.specs.Values.{elem_bytes}
use Rattle.vx_base.specs.declared.types.ParamKind.{ParamKind}
use Rattle.vx_base.specs.declared.types.ParamKind.TheVariants.{Scalar, Pointer}
use Rattle.item_acts.specs.declared.acts.Bound.{Bound}
use Rattle.item_acts.specs.declared.acts.Bound.TheVariants.{Value, Array}
use Rattle.ocl_ast.specs.declared.units.Param.{Param}
use Rattle.ocl_program.specs.Nodes.{FunctionNode}
use Rattle.item_settings.specs.declared.arrays.ItemArray.{ItemArray}
use Rattle.item_settings.specs.Settings.{array_bound, bound_array}
use Rattle.vx_layout.specs.Launching.{Plan, Accepted, group_count, group_size}
use Rattle.vx_layout.proofs.Located.{located}
use Rattle.structured.specs.Source.{IsWordItem}
use Rattle.simt_lowering.specs.Laid.{HasLane, kind_of}
use Rattle.lane_kernels.specs.Source.{IsLaunchOf}
use Rattle.lane_kernels.proofs.Ranges.{sizes_small, within}

abbrev HasRoom : ItemArray → Type 0
HasRoom array = array.count * elem_bytes array.elem ≤ 2 ^ 32

module _ (kernel : FunctionNode) (p : Plan) (ok : Accepted p) (plan : IsLaunchOf kernel p) where
  kind_at : (k : ℕ) (param : Param) → slice_get kernel.params k ≡ Some param → slice_get p.params k ≡ Some param.kind
  kind_at k param e = ap (λ kinds. slice_get kinds k) plan.params ∙ slice_get-map kind_of kernel.params k ∙ ap (option_map kind_of) e

  kind_room : (k : ℕ) (kind : ParamKind) (bound : Bound) → slice_get p.params k ≡ Some kind → slice_get p.bounds k ≡ Some bound → HasRoom (bound_array kind bound)
  kind_room k (Scalar elem) bound is here = omega arith
  kind_room k (Pointer space elem readonly) (Value value) is here = omega arith
  kind_room k (Pointer space elem readonly) (Array place count) is here =
      let small = ((located p ok).array_words k place count space elem readonly is here).stands.small in omega arith

  param_room : (k : ℕ) (param : Option Param) (bound : Option Bound) → slice_get kernel.params k ≡ param → slice_get p.bounds k ≡ bound → HasRoom (array_bound param bound)
  param_room k None bound is here = omega arith
  param_room k (Some param) None is here = omega arith
  param_room k (Some param) (Some bound) is here = kind_room k param.kind bound (kind_at k param is) here

  module _ (item group warp number : ℕ) (has : HasLane p item group warp number) where
    item_small : item < 2 ^ 32
    item_small =
        let parts : item / group_size p.range * group_size p.range + item % group_size p.range ≡ item = div-add-mod' item (group_size p.range) in
        let is : item / group_size p.range ≡ group = has.group_is in
        let local_is : item % group_size p.range ≡ warp * p.lanes + number = has.local_is in
        let in_launch : group < group_count p.range = has.in_launch in
        let groups : group_count p.range ≤ 65536 = ok.groups in
        let in_group : warp * p.lanes + number < group_size p.range = has.in_group in
        let size : group_size p.range ≤ 512 = ok.group in
        let low : item / group_size p.range ≤ 65536 = omega arith in
        let whole : item / group_size p.range * group_size p.range ≤ 65536 * 512 = mul-le-mul low size in
        omega arith

    local_small : (d : ℕ) → d < p.range.dims → slice_index p.range.local d < 2 ^ 32
    local_small d below = local_below (slice_index p.range.global d) (slice_index p.range.local d) (ok.some_global d below) (ok.globals d below) (ok.divides d below)
      where
        local_below : (g l : ℕ) → 1 ≤ g → g < 2 ^ 32 → g % l ≡ 0 → l < 2 ^ 32
        local_below g l some small whole =
            elim (cases_lt g l) [
              | inl below ↦ let all : g % l ≡ g = mod-eq_of_lt below in omega arith
              | inr most ↦ omega arith
            ]

    pub is_word_item : IsWordItem kernel (within p.range) p.bounds item
    is_word_item = record {
      dims = let few = ok.dims in omega arith;
      global = sizes_small p.range p.range.global ok.globals;
      local = sizes_small p.range p.range.local local_small;
      number = item_small;
      room = λ k. param_room k (slice_get kernel.params k) (slice_get p.bounds k) refl refl;
    }
