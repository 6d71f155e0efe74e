-- What the parameters of a kernel may stand for in a launch.
use Rattle.std.specs.Prelude.{ℕ, ◌*◌, ◌^◌, ◌==◌, nat_le, Bool, true, false, ◌&&◌, List, [], length, zip, slice_get, Option, None, Some}
use Rattle.std.specs.List.{list_all}
use Rattle.vx_base.specs.Values.{elem_bytes}
use Rattle.vx_base.specs.declared.types.Elem.{Elem}
use Rattle.vx_base.specs.declared.types.ParamKind.{ParamKind}
use Rattle.vx_base.specs.declared.types.ParamKind.TheVariants.{Scalar, Pointer}
use Rattle.item_acts.specs.declared.acts.Bound.{Bound}
use Rattle.item_acts.specs.declared.acts.Bound.TheVariants.{Value, Array}
use Rattle.ocl_ast.specs.declared.units.Param.{Param}
use Rattle.ocl_program.specs.Nodes.{FunctionNode}

-- whether an array of so many elements has at most 2 ^ 32 bytes
abbrev pub has_room : Elem → ℕ → Bool
has_room elem count = nat_le (count * elem_bytes elem) (2 ^ 32)

-- a scalar stands for a number, and a pointer for an array
abbrev pub is_fitting : ParamKind → Bound → Bool
is_fitting (Scalar elem) (Value value) = true
is_fitting (Scalar elem) (Array place count) = false
is_fitting (Pointer space elem readonly) (Value value) = false
is_fitting (Pointer space elem readonly) (Array place count) = has_room elem count

-- there are as many bounds as parameters, and each fits its parameter
abbrev pub are_fitting : List Param → List Bound → Bool
are_fitting params bounds = (length params == length bounds) && list_all (λ (pair : Param × Bound). is_fitting pair.0.kind pair.1) (zip params bounds)

-- the parameters of a function of a program
abbrev pub params_of : Option FunctionNode → List Param
params_of None = []
params_of (Some f) = f.params

abbrev pub params_at : List FunctionNode → ℕ → List Param
params_at program k = params_of (slice_get program k)
