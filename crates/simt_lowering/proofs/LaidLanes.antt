-- Each item of an accepted launch has a lane that is laid out for it.
use Rattle.std.proofs.Common.{inl, inr, ◌≡◌, ℕ, zero, suc, ◌+◌, ◌*◌, ◌/◌, ◌%◌, ◌^◌, ◌<◌, ◌≤◌, Bool, nat_lt, List, [], ◌∷◌, length, Option, None, Some, slice_get, refl, ap, sym, subst, ◌∙◌, arith}
use Rattle.std.specs.Prelude.{slice_index}
use Rattle.std.proofs.lemmas.Bool.{cases_lt, cond-true, cond-false, lt-ltb, le-ltb}
use Rattle.std.proofs.lemmas.List.{length-map}
use Rattle.std.proofs.lemmas.Nat.{div-add-mod', div-mul-add, div_below, mod_below}
use Rattle.std.proofs.Math.Nat.{div-le_self, mod-le, mod-eq_of_lt, mul-add-mod_self_right, mul_assoc, mul_left_comm}
use Rattle.vx_base.specs.Values.{elem_bytes}
use Rattle.vx_base.specs.declared.types.Elem.{Elem}
use Rattle.vx_base.specs.declared.types.ParamKind.{ParamKind}
use Rattle.vx_base.specs.declared.types.ParamKind.TheVariants.{Scalar, Pointer}
use Rattle.item_acts.specs.declared.acts.Bound.{Bound}
use Rattle.item_acts.specs.declared.acts.Bound.TheVariants.{Value, Array}
use Rattle.ocl_ast.specs.declared.units.Param.{Param}
use Rattle.ocl_program.specs.declared.exprs.ArrayRef.{ArrayRef}
use Rattle.ocl_program.specs.declared.exprs.Builtin.{Builtin}
use Rattle.ocl_program.specs.declared.exprs.Builtin.TheVariants.{WorkDim, GlobalId, LocalId, GroupId, GlobalSize, LocalSize, NumGroups, GlobalOffset, Min, Max, Clamp, Abs, MulHi}
use Rattle.ocl_program.specs.declared.functions.LocalArray.{LocalArray}
use Rattle.item_settings.specs.Settings.{Setting, array_bound, bound_array, coordinate, declared_array, group_number, local_number, place_in}
use Rattle.kir.specs.Numbered.{GivesWords}
use Rattle.kir.proofs.TypingLaws.{has_type}
use Rattle.kir.specs.Trees.{KirCode}
use Rattle.kir.specs.Typing.{HasElem}
use Rattle.vcode.specs.Machine.{Around}
use Rattle.vx_layout.specs.Blocks.{second_word}
use Rattle.vx_layout.specs.Launching.{Plan, Accepted, group_count, group_size, groups_in, size_in}
use Rattle.vx_layout.specs.Located.{Located}
use Rattle.vx_layout.proofs.Blocks.{odd_word, size_some}
use Rattle.vx_layout.proofs.Lanes.{some_items}
use Rattle.vx_layout.proofs.Located.{located}
use Rattle.simt_lowering.proofs.ArraysStand.{array_stands, element_stands, few_params, kind_at}
use Rattle.simt_lowering.specs.Around.{CountIs, GivesZero, HasArrays, HasItem, HasNumbers, HasScalars, ScalarIs}
use Rattle.simt_lowering.specs.Kept.{IsLaidFor, known_of_kernel}
use Rattle.simt_lowering.specs.Laid.{AcceptedIsLaid, HasLane, IsLaunchOf, around_of, item_of, items_of, kind_of, setting_for}
use Rattle.simt_lowering.specs.Lowered.{declared_count, start_word}

-- ---- numbers

coordinate_most : (first second n d : ℕ) → coordinate first second n d ≤ n
coordinate_most first second n zero = mod-le n first
coordinate_most first second n (suc zero) = let part = div-le_self n first in let more = mod-le (n / first) second in omega arith
coordinate_most first second n (suc (suc zero)) = div-le_self n (first * second)
coordinate_most first second n (suc (suc (suc d))) = omega arith

-- a dimension past the last has the size 1
one_past : (p : Plan) (sizes : List ℕ) (d : ℕ) → p.range.dims ≤ 3 → 3 ≤ d → size_in p.range sizes d ≡ 1
one_past p sizes d dims past = cond-false (nat_lt d p.range.dims) (slice_index sizes d) 1 (le-ltb d p.range.dims (omega arith))

-- numbers of dimensions are words where the first three are, and the others are at most 1
three_small : (x : ℕ → ℕ) → x 0 < 2 ^ 32 → x 1 < 2 ^ 32 → x 2 < 2 ^ 32 → ((d : ℕ) → 3 ≤ d → x d ≡ 1) → (d : ℕ) → x d < 2 ^ 32
three_small x first second third past zero = first
three_small x first second third past (suc zero) = second
three_small x first second third past (suc (suc zero)) = third
three_small x first second third past (suc (suc (suc d))) = let one : x (suc (suc (suc d))) ≡ 1 = past (suc (suc (suc d))) (omega arith) in omega arith

-- a product of nothing
nothing : (size : ℕ) → (0 * size + 0) % 2 ^ 32 ≡ 0
nothing size = omega arith

-- ---- one lane with its item

module _ (code : KirCode) (marks : ℕ → Bool) (p : Plan) (ok : Accepted p) (plan : IsLaunchOf code p) (item group warp number : ℕ) (has : HasLane p item group warp number) where
  abbrev setting : Setting
  setting = setting_for code p item

  abbrev at : Around
  at = around_of p group warp number

  abbrev of_plan : Located p
  of_plan = located p ok

  -- numbers of the group and of the launch
  group_words : (d : ℕ) → d < 3 → at.block (3 + d) ≡ setting.id GroupId d
  group_words zero low = ap (λ g. coordinate (groups_in p.range 0) (groups_in p.range 1) g 0) (sym has.group_is)
  group_words (suc zero) low = ap (λ g. coordinate (groups_in p.range 0) (groups_in p.range 1) g 1) (sym has.group_is)
  group_words (suc (suc zero)) low = ap (λ g. coordinate (groups_in p.range 0) (groups_in p.range 1) g 2) (sym has.group_is)
  group_words (suc (suc (suc d))) low = absurd (omega arith)

  local_sizes : (d : ℕ) → d < 3 → at.block (6 + d) ≡ setting.id LocalSize d
  local_sizes zero low = refl
  local_sizes (suc zero) low = refl
  local_sizes (suc (suc zero)) low = refl
  local_sizes (suc (suc (suc d))) low = absurd (omega arith)

  global_sizes : (d : ℕ) → d < 3 → at.block (9 + d) ≡ setting.id GlobalSize d
  global_sizes zero low = refl
  global_sizes (suc zero) low = refl
  global_sizes (suc (suc zero)) low = refl
  global_sizes (suc (suc (suc d))) low = absurd (omega arith)

  group_counts : (d : ℕ) → d < 3 → at.block (12 + d) ≡ setting.id NumGroups d
  group_counts zero low = refl
  group_counts (suc zero) low = refl
  group_counts (suc (suc zero)) low = refl
  group_counts (suc (suc (suc d))) low = absurd (omega arith)

  no_group : (d : ℕ) → 3 ≤ d → setting.id GroupId d ≡ 0
  no_group zero past = absurd (omega arith)
  no_group (suc zero) past = absurd (omega arith)
  no_group (suc (suc zero)) past = absurd (omega arith)
  no_group (suc (suc (suc d))) past = refl

  no_local : (d : ℕ) → 3 ≤ d → setting.id LocalId d ≡ 0
  no_local zero past = absurd (omega arith)
  no_local (suc zero) past = absurd (omega arith)
  no_local (suc (suc zero)) past = absurd (omega arith)
  no_local (suc (suc (suc d))) past = refl

  no_global : (d : ℕ) → 3 ≤ d → setting.id GlobalId d ≡ 0
  no_global zero past = absurd (omega arith)
  no_global (suc zero) past = absurd (omega arith)
  no_global (suc (suc zero)) past = absurd (omega arith)
  no_global (suc (suc (suc d))) past = nothing (size_in p.range p.range.local (suc (suc (suc d))))

  one_local : (d : ℕ) → 3 ≤ d → setting.id LocalSize d ≡ 1
  one_local d past = one_past p p.range.local d ok.dims past

  one_global : (d : ℕ) → 3 ≤ d → setting.id GlobalSize d ≡ 1
  one_global d past = one_past p p.range.global d ok.dims past

  one_group : (d : ℕ) → 3 ≤ d → setting.id NumGroups d ≡ 1
  one_group d past = ap (λ n. n / size_in p.range p.range.local d) (one_global d past) ∙ ap (λ n. 1 / n) (one_local d past)

  no_offset : (which : Builtin) (d : ℕ) → GivesZero which → setting.id which d ≡ 0
  no_offset WorkDim d none = absurd none
  no_offset GlobalId d none = absurd none
  no_offset LocalId d none = absurd none
  no_offset GroupId d none = absurd none
  no_offset GlobalSize d none = absurd none
  no_offset LocalSize d none = absurd none
  no_offset NumGroups d none = absurd none
  no_offset GlobalOffset d none = refl
  no_offset Min d none = refl
  no_offset Max d none = refl
  no_offset Clamp d none = refl
  no_offset Abs d none = refl
  no_offset MulHi d none = refl

  -- what the item learns are words
  in_block : (k : ℕ) → at.block k < 2 ^ 32
  in_block k = of_plan.block_small group k has.in_launch

  gives_words : GivesWords setting
  gives_words WorkDim d = let dims = ok.dims in omega arith
  gives_words GlobalId d = omega arith
  gives_words LocalId d =
      let most = coordinate_most (size_in p.range p.range.local 0) (size_in p.range p.range.local 1) (local_number p.range item) d in
      let is = has.local_is in
      let below = has.in_group in
      let size = ok.group in
      omega arith
  gives_words GroupId d =
      let most = coordinate_most (groups_in p.range 0) (groups_in p.range 1) (group_number p.range item) d in
      let is = has.group_is in
      let below = has.in_launch in
      let groups = ok.groups in
      omega arith
  gives_words LocalSize d = three_small (setting.id LocalSize) (in_block 6) (in_block 7) (in_block 8) one_local d
  gives_words GlobalSize d = three_small (setting.id GlobalSize) (in_block 9) (in_block 10) (in_block 11) one_global d
  gives_words NumGroups d = three_small (setting.id NumGroups) (in_block 12) (in_block 13) (in_block 14) one_group d
  gives_words GlobalOffset d = omega arith
  gives_words Min d = omega arith
  gives_words Max d = omega arith
  gives_words Clamp d = omega arith
  gives_words Abs d = omega arith
  gives_words MulHi d = omega arith

  has_numbers : HasNumbers setting at
  has_numbers = record {
    dims = refl;
    group = group_words;
    local_size = local_sizes;
    global_size = global_sizes;
    groups = group_counts;
    no_group = no_group;
    no_local = no_local;
    no_global = no_global;
    one_local = one_local;
    one_global = one_global;
    one_group = one_group;
    no_offset = no_offset;
    words = gives_words;
  }

  -- counts
  kind_counts : (kind : ParamKind) (bound : Option Bound) (param : Param) → param.kind ≡ kind → second_word (Some kind) bound ≡ (array_bound (Some param) bound).count
  kind_counts kind None param e = none_counts kind
    where
      none_counts : (kind : ParamKind) → second_word (Some kind) None ≡ 0
      none_counts (Scalar elem) = refl
      none_counts (Pointer space elem readonly) = refl
  kind_counts kind (Some bound) param e = some_counts kind bound ∙ ap (λ k. (bound_array k bound).count) (sym e)
    where
      some_counts : (kind : ParamKind) (bound : Bound) → second_word (Some kind) (Some bound) ≡ (bound_array kind bound).count
      some_counts (Scalar elem) bound = refl
      some_counts (Pointer space elem readonly) (Value value) = refl
      some_counts (Pointer space elem readonly) (Array place count) = refl

  param_counts : (j : ℕ) (param : Option Param) → slice_get code.params j ≡ param → CountIs at j param (array_bound param (slice_get p.bounds j)).count
  param_counts j None is = refl
  param_counts j (Some param) is =
      odd_word p group j (few_params code p ok plan j param is) ∙ ap (λ o. second_word o (slice_get p.bounds j)) (kind_at code p ok plan j param is)
      ∙ kind_counts param.kind (slice_get p.bounds j) param refl

  declared_counts : (j : ℕ) (array : Option LocalArray) → declared_count array ≡ (declared_array code.params j array).count
  declared_counts j None = refl
  declared_counts j (Some array) = refl

  elements : (array : ArrayRef) (elem : Elem) (i : ℕ) → HasElem code.params code.arrays array elem → i < (setting.array array).count
      → at.place ((at.block (start_word array) + (i * elem_bytes elem) % 2 ^ 32) % 2 ^ 32) ≡ place_in setting.group (setting.array array) elem i
  elements array elem i typed below =
      element_stands p group (setting.array array) (start_word array) i elem (array_stands code p ok plan group array i below)
      (has_type code.params code.arrays p.bounds array elem typed i below) below
      ∙ ap (λ g. place_in g (setting.array array) elem i) (sym has.group_is)

  has_arrays : HasArrays (known_of_kernel marks code) setting at
  has_arrays = record { element = elements; param = λ j. param_counts j (slice_get code.params j) refl; declared = λ j. declared_counts j (slice_get code.arrays j) }

  -- the item
  local_ids : (d : ℕ) → d < 3 → coordinate (at.block 6) (at.block 7) (at.warp * at.block 15 + at.number) d ≡ setting.id LocalId d
  local_ids d low = ap (λ n. coordinate (size_in p.range p.range.local 0) (size_in p.range p.range.local 1) n d) (sym has.local_is)

  global_is : (d g l : ℕ) → g ≡ setting.id GroupId d → l ≡ setting.id LocalSize d → (g * l + setting.id LocalId d) % 2 ^ 32 ≡ setting.id GlobalId d
  global_is d g l e e' = ap (λ x. (x * l + setting.id LocalId d) % 2 ^ 32) e ∙ ap (λ x. (setting.id GroupId d * x + setting.id LocalId d) % 2 ^ 32) e'

  has_item : HasItem setting at
  has_item = record {
    exists = has.in_group;
    few_lanes = let lanes = ok.lanes in let low = has.in_warp in omega arith;
    local = local_ids;
    global = λ d low. global_is d (at.block (3 + d)) (at.block (6 + d)) (group_words d low) (local_sizes d low);
    some_first = size_some p.range p.range.local 0 ok.some_local;
    some_second = size_some p.range p.range.local 1 ok.some_local;
    small = in_block;
  }

  -- scalar parameters
  scalar_is : (j : ℕ) (kind : ParamKind) (bound : Bound) → slice_get p.params j ≡ Some kind → slice_get p.bounds j ≡ Some bound → ScalarIs at j kind bound
  scalar_is j (Pointer space elem readonly) bound is here = tt
  scalar_is j (Scalar elem) (Value value) is here = let words = of_plan.scalar_words j value elem is here group in words.0
  scalar_is j (Scalar elem) (Array place count) is here = absurd (ok.bound j (Scalar elem) (Array place count) is here)

  scalars_are : (j : ℕ) (params : List Param) (bounds : List Bound) → length bounds ≡ length params
      → ((i k : ℕ) (param : Param) (bound : Bound) → k ≡ j + i → slice_get params i ≡ Some param → slice_get bounds i ≡ Some bound → ScalarIs at k param.kind bound)
      → HasScalars at j params bounds
  scalars_are j [] bounds same each = tt
  scalars_are j (param ∷ params) [] same each = absurd (omega arith)
  scalars_are j (param ∷ params) (bound ∷ bounds) same each = (
    each 0 j param bound (omega arith) refl refl,
    scalars_are (suc j) params bounds (omega arith) (λ i k param bound e. each (suc i) k param bound (omega arith)),
  )

  as_many : length p.bounds ≡ length code.params
  as_many = ok.bound_each ∙ ap length plan.params ∙ length-map code.params kind_of

  at_start : (i k : ℕ) → k ≡ 0 + i → k ≡ i
  at_start i k e = omega arith

  has_scalars : HasScalars at 0 code.params p.bounds
  has_scalars =
      scalars_are 0 code.params p.bounds as_many (λ i k param bound e is here.
      subst (λ n. ScalarIs at n param.kind bound) (sym (at_start i k e)) (scalar_is i param.kind bound (kind_at code p ok plan i param is) here))

  is_laid : IsLaidFor code marks setting p.bounds at
  is_laid = record { numbers = has_numbers; arrays = has_arrays; item = has_item; scalars = has_scalars }

-- ---- items and lanes

lane_item : (p : Plan) (group warp number : ℕ) → group < group_count p.range → number < p.lanes → warp * p.lanes + number < group_size p.range
    → HasLane p (item_of p group warp number) group warp number
lane_item p group warp number in_launch in_warp in_group = record {
  in_launch = in_launch;
  in_group = in_group;
  in_warp = in_warp;
  group_is = div-mul-add group (group_size p.range) (warp * p.lanes + number) in_group;
  local_is = mul-add-mod_self_right group (group_size p.range) (warp * p.lanes + number) ∙ mod-eq_of_lt in_group;
}

-- a product of two numbers in each of two dimensions
swap : (a b c d : ℕ) → a * b * (c * d) ≡ a * c * (b * d)
swap a b c d = mul_assoc a b (c * d) ∙ ap (λ x. a * x) (mul_left_comm b c d) ∙ sym (mul_assoc a c (b * d))

-- a size is whole groups
whole : (p : Plan) → Accepted p → (d : ℕ) → size_in p.range p.range.global d % size_in p.range p.range.local d ≡ 0
whole p ok d =
    elim (cases_lt d p.range.dims) [
      | inl below ↦
          ap (λ n. n % size_in p.range p.range.local d) (cond-true (nat_lt d p.range.dims) (slice_index p.range.global d) 1 (lt-ltb d p.range.dims below))
          ∙ ap (λ n. slice_index p.range.global d % n) (cond-true (nat_lt d p.range.dims) (slice_index p.range.local d) 1 (lt-ltb d p.range.dims below))
          ∙ ok.divides d below
      | inr past ↦
          ap (λ n. n % size_in p.range p.range.local d) (cond-false (nat_lt d p.range.dims) (slice_index p.range.global d) 1 (le-ltb d p.range.dims past))
          ∙ ap (λ n. 1 % n) (cond-false (nat_lt d p.range.dims) (slice_index p.range.local d) 1 (le-ltb d p.range.dims past))
    ]

size_is : (p : Plan) → Accepted p → (d : ℕ) → size_in p.range p.range.global d ≡ groups_in p.range d * size_in p.range p.range.local d
size_is p ok d =
    let parts : size_in p.range p.range.global d / size_in p.range p.range.local d * size_in p.range p.range.local d
    + size_in p.range p.range.global d % size_in p.range p.range.local d ≡ size_in p.range p.range.global d
    = div-add-mod' (size_in p.range p.range.global d) (size_in p.range p.range.local d) in
    let none = whole p ok d in
    omega arith

-- all items are those of all groups
items_are : (p : Plan) → Accepted p → items_of p ≡ group_count p.range * group_size p.range
items_are p ok =
    let g : ℕ → ℕ = groups_in p.range in
    let l : ℕ → ℕ = size_in p.range p.range.local in
    ap (λ x. x * size_in p.range p.range.global 1 * size_in p.range p.range.global 2) (size_is p ok 0)
    ∙ ap (λ x. g 0 * l 0 * x * size_in p.range p.range.global 2) (size_is p ok 1)
    ∙ ap (λ x. g 0 * l 0 * (g 1 * l 1) * x) (size_is p ok 2)
    ∙ ap (λ x. x * (g 2 * l 2)) (swap (g 0) (l 0) (g 1) (l 1))
    ∙ swap (g 0 * g 1) (l 0 * l 1) (g 2) (l 2)

in_group_count : (p : Plan) → Accepted p → (item : ℕ) → item < items_of p → group_number p.range item < group_count p.range
in_group_count p ok item below = div_below item (group_size p.range) (group_count p.range) (some_items p ok) (subst (λ n. item < n) (items_are p ok) below)

item_lane : (p : Plan) → Accepted p → (item : ℕ) → item < items_of p
    → HasLane p item (group_number p.range item) (local_number p.range item / p.lanes) (local_number p.range item % p.lanes)
item_lane p ok item below_all =
    let below : local_number p.range item < group_size p.range = mod_below item (group_size p.range) (some_items p ok) in
    let both = (located p ok).item_lane (local_number p.range item) below in
    record {
      in_launch = in_group_count p ok item below_all;
      in_group = subst (λ n. n < group_size p.range) (sym both.1) below;
      in_warp = both.0;
      group_is = refl;
      local_is = sym both.1;
    }

pub accepted_is_laid : AcceptedIsLaid
accepted_is_laid code marks p ok plan = record {
  laid = λ item group warp number has. is_laid code marks p ok plan item group warp number has;
  each_lane = lane_item p;
  each_item = item_lane p ok;
}
