-- The arrays of a kernel of a program, whose parameters stand for what fits them, have room.
use Rattle.std.proofs.Common.{◌≡◌, ℕ, zero, suc, ◌*◌, ◌^◌, ◌≤◌, ◌==◌, true, List, [], ◌∷◌, length, zip, Option, None, Some, refl, subst, arith}
use Rattle.std.proofs.lemmas.Bool.{and_parts, leb-true}
use Rattle.std.specs.Prelude.{option_map, slice_get}
use Rattle.std.specs.List.{list_all}
use Rattle.vx_base.specs.Values.{elem_bytes}
use Rattle.vx_base.specs.declared.types.Elem.{Elem}
use Rattle.vx_base.specs.declared.types.ParamKind.{ParamKind}
use Rattle.vx_base.specs.declared.types.ParamKind.TheVariants.{Scalar, Pointer}
use Rattle.item_acts.specs.declared.acts.Bound.{Bound}
use Rattle.item_acts.specs.declared.acts.Bound.TheVariants.{Value, Array}
use Rattle.ocl_ast.specs.declared.units.Param.{Param}
use Rattle.ocl_program.specs.declared.exprs.ArrayRef.TheVariants.{Parameter, Declared}
use Rattle.ocl_program.specs.declared.functions.LocalArray.{LocalArray}
use Rattle.ocl_program.specs.Nodes.{FunctionNode}
use Rattle.ocl_sem.specs.Launched.{IsRoomy}
use Rattle.item_settings.specs.Settings.{array_bound, bound_array}
use Rattle.item_settings.specs.Views as views
use Rattle.ocl_types.specs.Functions.{IsProgram}
use Rattle.program_laws.proofs.Bodies.{arrays_small}
use Rattle.program_laws.proofs.Rooms.{HasRoom, declared_room}
use Rattle.ocl_inline.specs.Expansion.{kernel_flat}
use Rattle.ocl_inline.specs.FlatItems.{flat_at}
use Rattle.ocl_inline.specs.Trees.{FlatKernel}
use Rattle.ocl_launch.specs.Fitting.{is_fitting, are_fitting, params_at, params_of}

fitting_room : (kind : ParamKind) (bound : Bound) → is_fitting kind bound ≡ true → HasRoom (bound_array kind bound)
fitting_room (Scalar elem) (Value value) fits = omega arith
fitting_room (Scalar elem) (Array place count) fits = omega arith
fitting_room (Pointer space elem readonly) (Value value) fits = omega arith
fitting_room (Pointer space elem readonly) (Array place count) fits = leb-true (count * elem_bytes elem) (2 ^ 32) fits

no_bound : (param : Option Param) → HasRoom (array_bound param None)
no_bound None = omega arith
no_bound (Some p) = omega arith

abbrev AllFit : List Param → List Bound → Type 0
AllFit params bounds = list_all (λ (pair : Param × Bound). is_fitting pair.0.kind pair.1) (zip params bounds) ≡ true

bound_room : (params : List Param) (bounds : List Bound) (k : ℕ) → AllFit params bounds → HasRoom (array_bound (slice_get params k) (slice_get bounds k))
bound_room [] bounds k fit = omega arith
bound_room (p ∷ ps) [] k fit = no_bound (slice_get (p ∷ ps) k)
bound_room (p ∷ ps) (b ∷ bs) zero fit = fitting_room p.kind b (and_parts (is_fitting p.kind b) (list_all (λ (pair : Param × Bound). is_fitting pair.0.kind pair.1) (zip ps bs)) fit).0
bound_room (p ∷ ps) (b ∷ bs) (suc k) fit = bound_room ps bs k (and_parts (is_fitting p.kind b) (list_all (λ (pair : Param × Bound). is_fitting pair.0.kind pair.1) (zip ps bs)) fit).1

-- the arrays of a kernel whose parameters stand for what fits them, and whose own arrays are small
pub room_of : (kernel : FunctionNode) (bounds : List Bound) → are_fitting kernel.params bounds ≡ true → ((i : ℕ) (array : LocalArray) → slice_get kernel.arrays i ≡ Some array → array.count ≤ 262144)
    → IsRoomy kernel bounds
room_of kernel bounds fit few (Parameter k) = bound_room kernel.params bounds k (and_parts (length kernel.params == length bounds) _ fit).1
room_of kernel bounds fit few (Declared k) = declared_room kernel.params k (slice_get kernel.arrays k) (few k)

some_same : {A : Type 0} (x y : A) → Some x ≡ Some y → x ≡ y
some_same x y h = cc

flat_found : (program : List FunctionNode) → IsProgram program → (k : ℕ) (found : Option FunctionNode) (flat : FlatKernel) (bounds : List Bound) → slice_get program k ≡ found
    → option_map (kernel_flat program k) found ≡ Some flat → are_fitting (params_of found) bounds ≡ true → views.IsRoomy flat.params flat.arrays bounds
flat_found program is k None flat bounds at e fit = absurd (cc)
flat_found program is k (Some f) flat bounds at e fit =
    subst (λ (x : FlatKernel). views.IsRoomy x.params x.arrays bounds) (some_same (kernel_flat program k f) flat e)
    (room_of f bounds fit (λ i a h. (arrays_small program is k i f a at h).1))

-- the arrays of a kernel with its calls expanded are the kernel's
pub flat_room : (program : List FunctionNode) → IsProgram program → (k : ℕ) (flat : FlatKernel) (bounds : List Bound) → flat_at program k ≡ Some flat
    → are_fitting (params_at program k) bounds ≡ true → views.IsRoomy flat.params flat.arrays bounds
flat_room program is k flat bounds e fit = flat_found program is k (slice_get program k) flat bounds refl e fit
