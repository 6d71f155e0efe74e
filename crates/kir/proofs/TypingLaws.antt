-- What the types of a kernel's accesses say of the arrays of its launches: a place that an array has is of the type of the access and,
-- where it is stored to, may be changed; where the arrays have room, it is where the access asks.
use Rattle.std.proofs.Common.{◌≡◌, ℕ, ◌*◌, ◌%◌, ◌<◌, ◌≤◌, ◌^◌, true, List, refl, ap, sym, ◌∙◌, arith}
use Rattle.std.specs.Prelude.{slice_get, Option, None, Some}
use Rattle.vx_base.specs.Values.{elem_bytes}
use Rattle.vx_base.specs.declared.types.Elem.{Elem}
use Rattle.vx_base.specs.declared.types.Elem.TheVariants.{Char, Uchar, Short, Ushort, Int, Uint}
use Rattle.vx_base.specs.declared.types.ParamKind.{ParamKind}
use Rattle.vx_base.specs.declared.types.ParamKind.TheVariants.{Scalar, Pointer}
use Rattle.item_acts.specs.declared.acts.Bound.{Bound}
use Rattle.item_acts.specs.declared.acts.Bound.TheVariants.{Value, Array}
use Rattle.item_settings.specs.declared.arrays.ItemArray.{ItemArray}
use Rattle.item_settings.specs.Settings.{array_bound, array_of, bound_array, byte_in, declared_array, element_in, place_in}
use Rattle.ocl_ast.specs.declared.units.Param.{Param}
use Rattle.ocl_program.specs.declared.exprs.ArrayRef.{ArrayRef}
use Rattle.ocl_program.specs.declared.exprs.ArrayRef.TheVariants.{Parameter, Declared}
use Rattle.ocl_program.specs.declared.functions.LocalArray.{LocalArray}
use Rattle.kir.specs.Typing.{KindHas, ParamHas, DeclaredHas, HasElem, KindWritten, ParamWritten, IsWritten}

-- ---- the type of the elements

kind_type : (kind : ParamKind) (bound : Bound) (elem : Elem) → KindHas kind elem → (i : ℕ) → i < (bound_array kind bound).count → (bound_array kind bound).elem ≡ elem
kind_type (Scalar elem') bound elem has i below = absurd (omega arith)
kind_type (Pointer space elem' readonly) (Value value) elem has i below = absurd (omega arith)
kind_type (Pointer space elem' readonly) (Array place count) elem has i below = has

param_type : (param : Option Param) (bound : Option Bound) (elem : Elem) → ParamHas param elem → (i : ℕ) → i < (array_bound param bound).count → (array_bound param bound).elem ≡ elem
param_type None bound elem has i below = absurd (omega arith)
param_type (Some param) None elem has i below = absurd (omega arith)
param_type (Some param) (Some bound) elem has i below = kind_type param.kind bound elem has i below

declared_type : (params : List Param) (k : ℕ) (array : Option LocalArray) (elem : Elem) → DeclaredHas array elem → (i : ℕ) → i < (declared_array params k array).count
    → (declared_array params k array).elem ≡ elem
declared_type params k None elem has i below = absurd (omega arith)
declared_type params k (Some array) elem has i below = has

pub has_type : (params : List Param) (arrays : List LocalArray) (bounds : List Bound) (array : ArrayRef) (elem : Elem) → HasElem params arrays array elem
    → (i : ℕ) → i < (array_of params arrays bounds array).count → (array_of params arrays bounds array).elem ≡ elem
has_type params arrays bounds (Parameter k) elem has i below = param_type (slice_get params k) (slice_get bounds k) elem has i below
has_type params arrays bounds (Declared k) elem has i below = declared_type params k (slice_get arrays k) elem has i below

-- ---- where they may be written

kind_written : (kind : ParamKind) (bound : Bound) → KindWritten kind → (i : ℕ) → i < (bound_array kind bound).count → (bound_array kind bound).writable ≡ true
kind_written (Scalar elem) bound written i below = absurd (omega arith)
kind_written (Pointer space elem readonly) (Value value) written i below = absurd (omega arith)
kind_written (Pointer space elem readonly) (Array place count) written i below = written

param_written : (param : Option Param) (bound : Option Bound) → ParamWritten param → (i : ℕ) → i < (array_bound param bound).count → (array_bound param bound).writable ≡ true
param_written None bound written i below = absurd (omega arith)
param_written (Some param) None written i below = absurd (omega arith)
param_written (Some param) (Some bound) written i below = kind_written param.kind bound written i below

declared_written : (params : List Param) (k : ℕ) (array : Option LocalArray) → (i : ℕ) → i < (declared_array params k array).count → (declared_array params k array).writable ≡ true
declared_written params k None i below = absurd (omega arith)
declared_written params k (Some array) i below = refl

pub may_be_written : (params : List Param) (arrays : List LocalArray) (bounds : List Bound) (array : ArrayRef) → IsWritten params array
    → (i : ℕ) → i < (array_of params arrays bounds array).count → (array_of params arrays bounds array).writable ≡ true
may_be_written params arrays bounds (Parameter k) written i below = param_written (slice_get params k) (slice_get bounds k) written i below
may_be_written params arrays bounds (Declared k) written i below = declared_written params k (slice_get arrays k) i below

-- ---- where an element begins

begins_below : (elem : Elem) (i count : ℕ) → i < count → count * elem_bytes elem ≤ 2 ^ 32 → i * elem_bytes elem < 2 ^ 32
begins_below Char i count below room = omega arith
begins_below Uchar i count below room = omega arith
begins_below Short i count below room = omega arith
begins_below Ushort i count below room = omega arith
begins_below Int i count below room = omega arith
begins_below Uint i count below room = omega arith

pub place_is : (group : ℕ) (array : ItemArray) (elem : Elem) (i : ℕ) → i < array.count → array.elem ≡ elem → array.count * elem_bytes array.elem ≤ 2 ^ 32
    → place_in group array elem i ≡ element_in group array i
place_is group array elem i below e room =
    let small : i * elem_bytes array.elem < 2 ^ 32 = begins_below array.elem i array.count below room in
    let kept : (i * elem_bytes array.elem) % 2 ^ 32 ≡ i * elem_bytes array.elem = omega arith in
    ap (λ el. byte_in group array ((i * elem_bytes el) % 2 ^ 32)) (sym e) ∙ ap (byte_in group array) kept
