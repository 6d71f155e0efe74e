-- Where the arrays that a kernel names stand in an accepted launch of it.
use Rattle.std.proofs.Common.{◌≡◌, ℕ, ◌+◌, ◌*◌, ◌%◌, ◌^◌, ◌<◌, ◌≤◌, Bool, cond, List, [], ◌∷◌, length, map, Option, None, Some, slice_get, refl, ap, sym, subst, ◌∙◌, arith}
use Rattle.std.specs.Prelude.{option_map}
use Rattle.std.specs.List.{count_by}
use Rattle.std.proofs.lemmas.List.Sums.{sum_by-cons, count_by-le-length}
use Rattle.std.proofs.lemmas.Option.{slice_get-map, slice_get_within}
use Rattle.std.proofs.Math.Nat.{min-eq_left}
use Rattle.vx_base.specs.Values.{elem_bytes}
use Rattle.vx_base.specs.declared.types.Elem.{Elem}
use Rattle.vx_base.specs.declared.types.Elem.TheVariants.{Char, Uchar, Short, Ushort, Int, Uint}
use Rattle.vx_base.specs.declared.types.ParamKind.{ParamKind}
use Rattle.vx_base.specs.declared.types.ParamKind.TheVariants.{Scalar, Pointer}
use Rattle.vx_base.specs.declared.types.Space.{Space}
use Rattle.vx_base.specs.declared.types.Space.TheVariants as space
use Rattle.item_acts.specs.declared.acts.Bound.{Bound}
use Rattle.item_acts.specs.declared.acts.Bound.TheVariants.{Value, Array}
use Rattle.item_acts.specs.declared.acts.Place.TheVariants.{Global, Local}
use Rattle.item_settings.specs.declared.arrays.ItemArray.{ItemArray}
use Rattle.ocl_ast.specs.declared.units.Param.{Param}
use Rattle.ocl_program.specs.declared.exprs.ArrayRef.{ArrayRef}
use Rattle.ocl_program.specs.declared.exprs.ArrayRef.TheVariants.{Parameter, Declared}
use Rattle.ocl_program.specs.declared.functions.LocalArray.{LocalArray}
use Rattle.ocl_program.specs.Measures.{cut}
use Rattle.item_settings.specs.Settings as item
use Rattle.item_settings.specs.Settings.{array_bound, array_of, bound_array, declared_array, is_local_param, place_in}
use Rattle.kir.specs.Trees.{KirCode}
use Rattle.vx_layout.specs.Blocks.{block_of, local_params}
use Rattle.vx_layout.specs.Launching.{Plan, Accepted, is_local_kind}
use Rattle.vx_layout.specs.Located.{StandsAt, byte_in}
use Rattle.vx_layout.proofs.Located.{located}
use Rattle.simt_lowering.specs.Laid.{IsLaunchOf, array_bytes, kind_of, named, place_or}
use Rattle.simt_lowering.specs.Lowered.{start_word}

-- An array as an item of a group knows it stands from an address on, which is in a word of the launch block.
pub record Stands (p : Plan) (group : ℕ) (array : ItemArray) (word : ℕ) : Type 0 where
  pub space : Space
  pub number : ℕ
  pub address : ℕ
  pub is : (k : ℕ) → byte_in space group number k ≡ item.byte_in group array k
  pub first : block_of p group word ≡ address
  pub stands : StandsAt p space number (array.count * elem_bytes array.elem) address

-- ---- numbers

no_wrap : (address n size : ℕ) → n < size → address + size < 2 ^ 32 → (address + n % 2 ^ 32) % 2 ^ 32 ≡ address + n
no_wrap address n size below small = omega arith

pub is_word : (n size address : ℕ) → n < size → address + size < 2 ^ 32 → n % 2 ^ 32 ≡ n
is_word n size address below small = omega arith

pub bytes_below : (elem : Elem) (i count : ℕ) → i < count → i * elem_bytes elem < count * elem_bytes elem
bytes_below Char i count below = omega arith
bytes_below Uchar i count below = omega arith
bytes_below Short i count below = omega arith
bytes_below Ushort i count below = omega arith
bytes_below Int i count below = omega arith
bytes_below Uint i count below = omega arith

-- an element stands where its address is
pub element_stands : (p : Plan) (group : ℕ) (array : ItemArray) (word i : ℕ) (elem : Elem) → Stands p group array word → array.elem ≡ elem → i < array.count
    → named p group ((block_of p group word + (i * elem_bytes elem) % 2 ^ 32) % 2 ^ 32) ≡ place_in group array elem i
element_stands p group array word i elem at typed below =
    let stands : StandsAt p at.space at.number (array.count * elem_bytes elem) at.address
    = subst (λ e. StandsAt p at.space at.number (array.count * elem_bytes e) at.address) typed at.stands in
    let less : i * elem_bytes elem < array.count * elem_bytes elem = bytes_below elem i array.count below in
    ap (λ w. named p group ((w + (i * elem_bytes elem) % 2 ^ 32) % 2 ^ 32)) at.first
    ∙ ap (named p group) (no_wrap at.address (i * elem_bytes elem) (array.count * elem_bytes elem) less stands.small)
    ∙ ap (place_or (Global (length p.buffers) (at.address + i * elem_bytes elem))) (stands.names group (i * elem_bytes elem) less)
    ∙ at.is (i * elem_bytes elem)
    ∙ ap (item.byte_in group array) (sym (is_word (i * elem_bytes elem) (array.count * elem_bytes elem) at.address less stands.small))

-- ---- which array is which

-- parameters and their kinds have as many `__local` arrays
locals_counted : (params : List Param) → count_by is_local_kind (map kind_of params) ≡ count_by is_local_param params
locals_counted [] = refl
locals_counted (param ∷ params) =
    let rest = locals_counted params in
    let left = sum_by-cons (λ (kind : ParamKind). cond (is_local_kind kind) 1 0) (kind_of param) (map kind_of params) in
    let right = sum_by-cons (λ (param : Param). cond (is_local_param param) 1 0) param params in
    left ∙ ap (λ n. cond (is_local_param param) 1 0 + n) rest ∙ sym right

byte_same : (group number count k : ℕ) (space : Space) (elem : Elem) (readonly : Bool)
    → byte_in space group number k ≡ item.byte_in group (bound_array (Pointer space elem readonly) (Array number count)) k
byte_same group number count k space.Local elem readonly = refl
byte_same group number count k space.Global elem readonly = refl
byte_same group number count k space.Constant elem readonly = refl

module _ (code : KirCode) (p : Plan) (ok : Accepted p) (plan : IsLaunchOf code p) where
  -- the parameters and the declared arrays, as the launch has them
  pub kind_at : (j : ℕ) (param : Param) → slice_get code.params j ≡ Some param → slice_get p.params j ≡ Some param.kind
  kind_at j param e = ap (λ kinds. slice_get kinds j) plan.params ∙ slice_get-map kind_of code.params j ∙ ap (option_map kind_of) e

  bytes_at : (j : ℕ) (array : LocalArray) → slice_get code.arrays j ≡ Some array → slice_get p.arrays j ≡ Some (array.count * elem_bytes array.elem)
  bytes_at j array e = ap (λ sizes. slice_get sizes j) plan.arrays ∙ slice_get-map array_bytes code.arrays j ∙ ap (option_map array_bytes) e

  pub few_params : (j : ℕ) (param : Param) → slice_get code.params j ≡ Some param → j < 16
  few_params j param e = let within = slice_get_within p.params j param.kind (kind_at j param e) in let most = ok.params in omega arith

  few_arrays : (j : ℕ) (array : LocalArray) → slice_get code.arrays j ≡ Some array → j < 16
  few_arrays j array e = let within = slice_get_within p.arrays j (array.count * elem_bytes array.elem) (bytes_at j array e) in let most = ok.arrays in omega arith

  -- the number of a declared array
  number_is : (j : ℕ) → j < 16 → local_params p + j ≡ cut (count_by is_local_param code.params + j)
  number_is j low =
      let same : local_params p ≡ count_by is_local_param code.params = ap (count_by is_local_kind) plan.params ∙ locals_counted code.params in
      let few : local_params p ≤ length p.params = count_by-le-length is_local_kind p.params in
      let most = ok.params in
      let uncut : cut (count_by is_local_param code.params + j) ≡ count_by is_local_param code.params + j = min-eq_left (omega arith) in
      omega arith

  module _ (group : ℕ) where
    kind_stands : (j i : ℕ) (kind : ParamKind) (bound : Bound) → slice_get p.params j ≡ Some kind → slice_get p.bounds j ≡ Some bound → i < (bound_array kind bound).count
        → Stands p group (bound_array kind bound) (16 + 2 * j)
    kind_stands j i (Scalar elem) bound is here below = absurd (omega arith)
    kind_stands j i (Pointer space elem readonly) (Value value) is here below = absurd (omega arith)
    kind_stands j i (Pointer space elem readonly) (Array number count) is here below =
        let words = (located p ok).array_words j number count space elem readonly is here in
        record {
          space = space;
          number = number;
          address = words.address;
          is = λ k. byte_same group number count k space elem readonly;
          first = words.first group;
          stands = words.stands;
        }

    param_stands : (j i : ℕ) (param : Option Param) (bound : Option Bound) → slice_get code.params j ≡ param → slice_get p.bounds j ≡ bound → i < (array_bound param bound).count
        → Stands p group (array_bound param bound) (16 + 2 * j)
    param_stands j i None bound is here below = absurd (omega arith)
    param_stands j i (Some param) None is here below = absurd (omega arith)
    param_stands j i (Some param) (Some bound) is here below = kind_stands j i param.kind bound (kind_at j param is) here below

    declared_stands : (j i : ℕ) (array : Option LocalArray) → slice_get code.arrays j ≡ array → i < (declared_array code.params j array).count
        → Stands p group (declared_array code.params j array) (48 + j)
    declared_stands j i None is below = absurd (omega arith)
    declared_stands j i (Some array) is below =
        let word = (located p ok).declared_word j (array.count * elem_bytes array.elem) (bytes_at j array is) in
        record {
          space = space.Local;
          number = local_params p + j;
          address = word.address;
          is = λ k. ap (λ n. Local group n k) (number_is j (few_arrays j array is));
          first = word.word group;
          stands = word.stands;
        }

    -- an array that has an element
    pub array_stands : (array : ArrayRef) (i : ℕ) → i < (array_of code.params code.arrays p.bounds array).count
        → Stands p group (array_of code.params code.arrays p.bounds array) (start_word array)
    array_stands (Parameter j) i below = param_stands j i (slice_get code.params j) (slice_get p.bounds j) refl refl below
    array_stands (Declared j) i below = declared_stands j i (slice_get code.arrays j) refl below
