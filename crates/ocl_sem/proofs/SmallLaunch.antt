-- A launch over one small array has room.
use Rattle.std.proofs.Common.{◌≡◌, ℕ, zero, suc, ◌*◌, ◌^◌, ◌≤◌, List, [], ◌∷◌, Option, None, Some, sym, subst, arith}
use Rattle.vx_base.specs.Values.{elem_bytes}
use Rattle.vx_base.specs.declared.types.Elem.{Elem}
use Rattle.vx_base.specs.declared.types.Elem.TheVariants.{Char, Uchar, Short, Ushort, Int, Uint}
use Rattle.vx_base.specs.declared.types.ParamKind.{ParamKind}
use Rattle.vx_base.specs.declared.types.ParamKind.TheVariants.{Scalar, Pointer}
use Rattle.item_acts.specs.declared.acts.Bound.TheVariants.{Array}
use Rattle.ocl_ast.specs.declared.units.Param.{Param}
use Rattle.ocl_program.specs.declared.exprs.ArrayRef.TheVariants.{Parameter, Declared}
use Rattle.ocl_program.specs.declared.functions.LocalArray.{LocalArray}
use Rattle.ocl_program.specs.Nodes.{FunctionNode}
use Rattle.ocl_sem.specs.Launched.{IsRoomy}
use Rattle.item_settings.specs.Settings.{array_bound, bound_array, declared_array}
use Rattle.std.specs.Prelude.{slice_get}

four_of : (elem : Elem) → 4 * elem_bytes elem ≤ 2 ^ 32
four_of Char = omega arith
four_of Uchar = omega arith
four_of Short = omega arith
four_of Ushort = omega arith
four_of Int = omega arith
four_of Uint = omega arith

of_kind : (kind : ParamKind) → (bound_array kind (Array 0 4)).count * elem_bytes (bound_array kind (Array 0 4)).elem ≤ 2 ^ 32
of_kind (Scalar elem) = omega arith
of_kind (Pointer space elem readonly) = four_of elem

of_param : (param : Option Param) (k : ℕ) → (array_bound param (slice_get (Array 0 4 ∷ []) k)).count * elem_bytes (array_bound param (slice_get (Array 0 4 ∷ []) k)).elem ≤ 2 ^ 32
of_param None k = omega arith
of_param (Some param) zero = of_kind param.kind
of_param (Some param) (suc k) = omega arith

pub small_room : (kernel : FunctionNode) → kernel.arrays ≡ [] → IsRoomy kernel (Array 0 4 ∷ [])
small_room kernel none (Parameter k) = of_param (slice_get kernel.params k) k
small_room kernel none (Declared k) =
    let P : List LocalArray → Type 0 = λ arrays. (declared_array kernel.params k (slice_get arrays k)).count * elem_bytes (declared_array kernel.params k (slice_get arrays k)).elem ≤ 2 ^ 32 in
    subst P (sym none) (omega arith)
