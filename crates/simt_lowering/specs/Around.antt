-- When what stands around a lane is laid out for an item of a kernel: the words of its launch block, and which bytes its addresses name.
use Rattle.std.specs.Prelude.{◌≡◌, ℕ, suc, ◌+◌, ◌*◌, ◌%◌, ◌^◌, ◌<◌, ◌≤◌, List, [], ◌∷◌, Option, None, Some, slice_get}
use Rattle.vx_base.specs.Values.{elem_bytes}
use Rattle.vx_base.specs.declared.types.Elem.{Elem}
use Rattle.vx_base.specs.declared.types.ParamKind.{ParamKind}
use Rattle.vx_base.specs.declared.types.ParamKind.TheVariants.{Scalar, Pointer}
use Rattle.item_acts.specs.declared.acts.Bound.{Bound}
use Rattle.ocl_ast.specs.declared.units.Param.{Param}
use Rattle.ocl_program.specs.declared.exprs.ArrayRef.{ArrayRef}
use Rattle.ocl_program.specs.declared.exprs.ArrayRef.TheVariants.{Parameter, Declared}
use Rattle.ocl_program.specs.declared.exprs.Builtin.{Builtin}
use Rattle.ocl_program.specs.declared.exprs.Builtin.TheVariants.{WorkDim, GlobalId, LocalId, GroupId, GlobalSize, LocalSize, NumGroups}
use Rattle.item_settings.specs.Settings.{Setting, bound_value, coordinate, place_in}
use Rattle.kir.specs.Numbered.{GivesWords}
use Rattle.kir.specs.Typing.{HasElem}
use Rattle.vcode.specs.Machine.{Around}
use Rattle.simt_lowering.specs.Lowered.{Known, declared_count, start_word}

-- a built-in function that gives 0: the offset of the ids
abbrev pub GivesZero : Builtin → Type 0
GivesZero WorkDim = ⊥
GivesZero GlobalId = ⊥
GivesZero LocalId = ⊥
GivesZero GroupId = ⊥
GivesZero GlobalSize = ⊥
GivesZero LocalSize = ⊥
GivesZero NumGroups = ⊥
GivesZero other = Unit {0}

-- The numbers of the group and of the launch. A dimension past the third has the id 0 and the size 1.
pub record HasNumbers (setting : Setting) (at : Around) : Type 0 where
  pub dims : at.block 2 ≡ setting.dims
  pub group : (d : ℕ) → d < 3 → at.block (3 + d) ≡ setting.id GroupId d
  pub local_size : (d : ℕ) → d < 3 → at.block (6 + d) ≡ setting.id LocalSize d
  pub global_size : (d : ℕ) → d < 3 → at.block (9 + d) ≡ setting.id GlobalSize d
  pub groups : (d : ℕ) → d < 3 → at.block (12 + d) ≡ setting.id NumGroups d
  pub no_group : (d : ℕ) → 3 ≤ d → setting.id GroupId d ≡ 0
  pub no_local : (d : ℕ) → 3 ≤ d → setting.id LocalId d ≡ 0
  pub no_global : (d : ℕ) → 3 ≤ d → setting.id GlobalId d ≡ 0
  pub one_local : (d : ℕ) → 3 ≤ d → setting.id LocalSize d ≡ 1
  pub one_global : (d : ℕ) → 3 ≤ d → setting.id GlobalSize d ≡ 1
  pub one_group : (d : ℕ) → 3 ≤ d → setting.id NumGroups d ≡ 1
  pub no_offset : (which : Builtin) (d : ℕ) → GivesZero which → setting.id which d ≡ 0
  pub words : GivesWords setting

-- the count of a parameter's array stands in the block, if there is such a parameter
abbrev pub CountIs : Around → ℕ → Option Param → ℕ → Type 0
CountIs at j None count = count ≡ 0
CountIs at j (Some param) count = at.block (17 + 2 * j) ≡ count

-- the counts of arrays, and the addresses of their elements
pub record HasArrays (k : Known) (setting : Setting) (at : Around) : Type 0 where
  pub element : (array : ArrayRef) (elem : Elem) (i : ℕ) → HasElem k.params k.arrays array elem → i < (setting.array array).count
      → at.place ((at.block (start_word array) + (i * elem_bytes elem) % 2 ^ 32) % 2 ^ 32) ≡ place_in setting.group (setting.array array) elem i
  pub param : (j : ℕ) → CountIs at j (slice_get k.params j) (setting.array (Parameter j)).count
  pub declared : (j : ℕ) → declared_count (slice_get k.arrays j) ≡ (setting.array (Declared j)).count

-- The lane has an item: its number in the group is the lane's number among all lanes, and gives its ids.
pub record HasItem (setting : Setting) (at : Around) : Type 0 where
  pub exists : at.warp * at.block 15 + at.number < at.block 1
  pub few_lanes : at.number < 32
  pub local : (d : ℕ) → d < 3 → coordinate (at.block 6) (at.block 7) (at.warp * at.block 15 + at.number) d ≡ setting.id LocalId d
  pub global : (d : ℕ) → d < 3 → (at.block (3 + d) * at.block (6 + d) + setting.id LocalId d) % 2 ^ 32 ≡ setting.id GlobalId d
  pub some_first : 0 < at.block 6
  pub some_second : 0 < at.block 7
  pub small : (w : ℕ) → at.block w < 2 ^ 32

-- a scalar parameter's word is the value that it is bound to
abbrev pub ScalarIs : Around → ℕ → ParamKind → Bound → Type 0
ScalarIs at j (Scalar elem) bound = at.block (16 + 2 * j) ≡ bound_value elem bound
ScalarIs at j (Pointer space elem readonly) bound = Unit {0}

-- and so is each of them, where so many parameters stand before these; each parameter is bound
abbrev pub HasScalars : Around → ℕ → List Param → List Bound → Type 0
HasScalars at j [] bounds = Unit {0}
HasScalars at j (param ∷ params) [] = ⊥
HasScalars at j (param ∷ params) (bound ∷ bounds) = ScalarIs at j param.kind bound × HasScalars at (suc j) params bounds
