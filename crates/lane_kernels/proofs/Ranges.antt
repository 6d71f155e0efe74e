-- What an item knows of its launch hangs on the sizes of the dimensions that there are, and on no others.
use Rattle.std.proofs.Common.{inl, inr, ◌≡◌, refl, sym, ap, ◌∙◌, ℕ, ◌+◌, ◌*◌, ◌/◌, ◌%◌, ◌^◌, ◌<◌, ◌≤◌, nat_lt, List, length, take, arith}
use Rattle.std.specs.Prelude.{slice_index}
use Rattle.std.proofs.Math.Path.{fun_ext}
use Rattle.std.proofs.Math.ListN.{get_or-eq_default}
use Rattle.std.proofs.lemmas.Bool.{cases_lt, cond-true, cond-false, lt-ltb, le-ltb}
use Rattle.std.proofs.lemmas.List.{get_or-take, length-take}
use Rattle.item_acts.specs.declared.acts.Bound.{Bound}
use Rattle.item_acts.specs.declared.acts.Range.{Range}
use Rattle.ocl_ast.specs.declared.units.Param.{Param}
use Rattle.ocl_program.specs.declared.exprs.Builtin.{Builtin}
use Rattle.ocl_program.specs.declared.exprs.Builtin.TheVariants.{WorkDim, GlobalId, LocalId, GroupId, GlobalSize, LocalSize, NumGroups, GlobalOffset, Min, Max, Clamp, Abs, MulHi}
use Rattle.ocl_program.specs.declared.functions.LocalArray.{LocalArray}
use Rattle.item_settings.specs.Settings.{Setting, array_of, coordinate, id_of, setting_of, size_in}

-- the range with the sizes of its dimensions alone
abbrev pub within : Range → Range
within range = record { dims = range.dims; global = take range.dims range.global; local = take range.dims range.local }

same_size : (range : Range) (sizes : List ℕ) (d : ℕ) → size_in (within range) (take range.dims sizes) d ≡ size_in range sizes d
same_size range sizes d =
    elim (cases_lt d range.dims) [
      | inl below ↦
          cond-true (nat_lt d range.dims) (slice_index (take range.dims sizes) d) 1 (lt-ltb d range.dims below) ∙ get_or-take range.dims sizes d 0 below
          ∙ sym (cond-true (nat_lt d range.dims) (slice_index sizes d) 1 (lt-ltb d range.dims below))
      | inr past ↦
          cond-false (nat_lt d range.dims) (slice_index (take range.dims sizes) d) 1 (le-ltb d range.dims past)
          ∙ sym (cond-false (nat_lt d range.dims) (slice_index sizes d) 1 (le-ltb d range.dims past))
    ]

-- ---- ids by the sizes of all dimensions

abbrev items_in : (ℕ → ℕ) → ℕ
items_in l = l 0 * l 1 * l 2

abbrev group_by : (ℕ → ℕ) → (ℕ → ℕ) → ℕ → ℕ → ℕ
group_by g l item d = coordinate (g 0 / l 0) (g 1 / l 1) (item / items_in l) d

abbrev local_by : (ℕ → ℕ) → ℕ → ℕ → ℕ
local_by l item d = coordinate (l 0) (l 1) (item % items_in l) d

abbrev global_by : (ℕ → ℕ) → (ℕ → ℕ) → ℕ → ℕ → ℕ
global_by g l item d = (group_by g l item d * l d + local_by l item d) % 2 ^ 32

module _ (range : Range) where
  global_same : size_in (within range) (take range.dims range.global) ≡ size_in range range.global
  global_same = fun_ext (same_size range range.global)

  local_same : size_in (within range) (take range.dims range.local) ≡ size_in range range.local
  local_same = fun_ext (same_size range range.local)

  both : {A : Type 0} (f : (ℕ → ℕ) → (ℕ → ℕ) → A)
      → f (size_in (within range) (take range.dims range.global)) (size_in (within range) (take range.dims range.local)) ≡ f (size_in range range.global) (size_in range range.local)
  both f = ap (λ g. f g (size_in (within range) (take range.dims range.local))) global_same ∙ ap (f (size_in range range.global)) local_same

  same_id : (item : ℕ) (which : Builtin) (d : ℕ) → id_of (within range) item which d ≡ id_of range item which d
  same_id item GlobalId d = both (λ g l. global_by g l item d)
  same_id item LocalId d = both (λ g l. local_by l item d)
  same_id item GroupId d = both (λ g l. group_by g l item d)
  same_id item GlobalSize d = both (λ g l. g d)
  same_id item LocalSize d = both (λ g l. l d)
  same_id item NumGroups d = both (λ g l. g d / l d)
  same_id item WorkDim d = refl
  same_id item GlobalOffset d = refl
  same_id item Min d = refl
  same_id item Max d = refl
  same_id item Clamp d = refl
  same_id item Abs d = refl
  same_id item MulHi d = refl

  pub same_setting : (params : List Param) (arrays : List LocalArray) (bounds : List Bound) (item : ℕ)
      → setting_of params arrays (within range) bounds item ≡ setting_of params arrays range bounds item
  same_setting params arrays bounds item =
      ap (λ group. setting_by group (id_of (within range) item)) (both (λ g l. item / items_in l))
      ∙ ap (setting_by (item / items_in (size_in range range.local))) (fun_ext (λ which. fun_ext (same_id item which)))
    where
      setting_by : ℕ → (Builtin → ℕ → ℕ) → Setting
      setting_by group id = record { group = group; dims = range.dims; id = id; array = array_of params arrays bounds }

-- each size that is there is a word where those of the dimensions are
pub sizes_small : (range : Range) (sizes : List ℕ) → ((d : ℕ) → d < range.dims → slice_index sizes d < 2 ^ 32) → (d : ℕ) → slice_index (take range.dims sizes) d < 2 ^ 32
sizes_small range sizes small d =
    elim (cases_lt d range.dims) [
      | inl below ↦ let same : slice_index (take range.dims sizes) d ≡ slice_index sizes d = get_or-take range.dims sizes d 0 below in let less = small d below in omega arith
      | inr past ↦
          let few : length (take range.dims sizes) ≤ d = let is = length-take range.dims sizes in omega (arith, is) in
          let none : slice_index (take range.dims sizes) d ≡ 0 = get_or-eq_default (take range.dims sizes) 0 few in
          omega arith
    ]
