-- The flat kernels of a program are typed.
use Rattle.std.proofs.Common.{◌≡◌, refl, ap, ℕ, zero, suc, ◌≤◌, Bool, true, List, length, slice_get, Some, arith}
use Rattle.std.specs.Prelude.{count_by}
use Rattle.std.proofs.Math.Path.{fun_ext}
use Rattle.vx_base.specs.declared.types.ParamKind.{ParamKind}
use Rattle.vx_base.specs.declared.types.ParamKind.TheVariants.{Scalar, Pointer}
use Rattle.ocl_ast.specs.declared.units.Param.{Param}
use Rattle.ocl_program.specs.declared.functions.LocalArray.{LocalArray}
use Rattle.ocl_program.specs.Measures.{cut, measured, own_variables}
use Rattle.ocl_program.specs.Nodes.{FunctionNode}
use Rattle.ocl_sem.specs.Items.{kernel_scope}
use Rattle.ocl_sem.specs.Source.{Scope, is_scalar, scope_at}
use Rattle.ocl_types.specs.Functions.{IsProgram}
use Rattle.ocl_inline.specs.Expansion.{expanded, kernel_flat}
use Rattle.ocl_inline.specs.FlatNumbers.{flat_variables}
use Rattle.ocl_inline.proofs.Sound.{sound_of}
use Rattle.ocl_inline.proofs.VariableNumbers.{variables_are_below}
use Rattle.ocl_inline.specs.Proper.{IsTypedKernel, TypedStmts}
use Rattle.program_laws.specs.Formed.{AreBelow, IsSmall}
use Rattle.program_laws.proofs.Forming.{small_formed}
use Rattle.program_laws.proofs.Limits.{callees_small, kernels_small}
use Rattle.program_laws.proofs.Settling.{measures_settle}
use Rattle.flat_typing.specs.Typed.{IsTypedFunction, frame_of}
use Rattle.flat_typing.proofs.Bodies.{function_typed}
use Rattle.flat_typing.proofs.Expanded.{Walk, stmts_expanded}
use Rattle.flat_typing.proofs.Serving.{Serving, call_serving, kernel_serving}

-- ---- calls

-- the body of an active call, with calls of so many levels expanded
typed_at : (program : List FunctionNode) → IsProgram program → (params : List Param) (arrays : List LocalArray) (count levels k : ℕ) (scope : Scope) → IsSmall program k
    → slice_get program k ≡ Some scope.function → Serving params arrays (frame_of program scope.function) scope → AreBelow count (flat_variables (expanded levels program scope))
    → TypedStmts params arrays count (expanded levels program scope)
unfolding expanded
typed_at program p params arrays count zero k scope small e serving below = tt
typed_at program p params arrays count (suc levels) k scope small e serving below =
    let walk : Walk params arrays count (expanded levels program) program scope = record {
      serving = serving;
      calls = λ call args site callee e' e'' helper fits below'.
          let small' : IsSmall program site.callee = callees_small program p k call scope.function site small e e' in
          let typed : IsTypedFunction program callee = function_typed program p site.callee callee small' e'' in
          typed_at program p params arrays count levels site.callee (scope_at scope site callee args) small' e''
          (call_serving program params arrays scope serving site callee args fits (typed.arrays helper)) below';
    } in
    stmts_expanded params arrays count (expanded levels program) program scope walk scope.function.body (function_typed program p k scope.function small e).body below

-- ---- scalars

scalars_within : (program : List FunctionNode) → IsProgram program → (k : ℕ) (f : FunctionNode) → IsSmall program k → slice_get program k ≡ Some f
    → count_by is_scalar f.params ≤ cut (measured own_variables program k)
scalars_within program p k f small e =
    let few : measured own_variables program k ≤ 256 = small.0 in
    let all : measured own_variables program k ≡ own_variables f (measured own_variables program) = (measures_settle program p).variables k f e in
    let scalars : count_by is_scalar f.params ≤ f.variables = (small_formed program p k f small e).scalars in
    omega arith

-- ---- the law

pub kernel_typed : (program : List FunctionNode) → IsProgram program → (number : ℕ) (kernel : FunctionNode) → slice_get program number ≡ Some kernel → kernel.kernel ≡ true
    → IsTypedKernel (kernel_flat program number kernel)
unfolding expanded
kernel_typed program p number kernel e marked =
    let small : IsSmall program number = kernels_small program p number kernel e marked in
    record {
      scalars = scalars_within program p number kernel small e;
      body = typed_at program p kernel.params kernel.arrays (cut (measured own_variables program number)) (suc (length program)) number (kernel_scope kernel) small e
          (kernel_serving program kernel) (variables_are_below program (sound_of program p) number kernel small e);
    }
