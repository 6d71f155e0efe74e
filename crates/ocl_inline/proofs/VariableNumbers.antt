-- The variables of a flat kernel are below their count.
use Rattle.std.proofs.Common.{◌≡◌, refl, ap, ◌∙◌, ℕ, zero, suc, ◌+◌, ◌<◌, ◌≤◌, Bool, true, if◌then◌else◌, List, length, slice_get, get_or, take, count_by, Option, None, Some, arith}
use Rattle.std.proofs.lemmas.List.Sums.{sum_by_more_le}
use Rattle.std.proofs.lemmas.Option.{get_or_from_slice_get, slice_get_within}
use Rattle.vx_base.specs.declared.types.ParamKind.{ParamKind}
use Rattle.vx_base.specs.declared.types.ParamKind.TheVariants.{Scalar, Pointer}
use Rattle.ocl_ast.specs.declared.units.Param.{Param}
use Rattle.ocl_program.specs.Measures.{callees, cut, measured, own_sites, own_variables}
use Rattle.ocl_program.specs.Nodes.{FunctionNode}
use Rattle.ocl_sem.specs.Items.{kernel_scope}
use Rattle.ocl_sem.specs.Source.{Scope, is_scalar, is_scalar_kind, scope_at}
use Rattle.ocl_inline.specs.Expansion.{binding_as, binding_by, expanded, flat_stmts}
use Rattle.ocl_inline.specs.FlatLaws.{HaveVariables}
use Rattle.ocl_inline.specs.FlatNumbers.{bound_variables, flat_variables}
use Rattle.program_laws.specs.Formed.{AreBelow, IsSmall, stmts_variables}
use Rattle.ocl_inline.proofs.Sound.{IsSound, OfSmallFunctions}
use Rattle.ocl_inline.proofs.Counts.{sum_weight, weight}
use Rattle.ocl_inline.proofs.Tables.{IsWithin, call_within}
use Rattle.ocl_inline.proofs.VariablesBelow.{BoundBelow, CallsBelow, OwnBelow, moves_fact, stmts_below}

abbrev as_one : Bool → ℕ
as_one b = if b then 1 else 0

-- a scalar parameter comes behind the scalars before it
scalar_counts : (params : List Param) (k : ℕ) (param : Param) → slice_get params k ≡ Some param → is_scalar param ≡ true
    → count_by is_scalar (take k params) + 1 ≤ count_by is_scalar params
scalar_counts params k param e scalar =
    let below : k < length params = slice_get_within params k param e in
    let there : get_or params k param ≡ param = get_or_from_slice_get params k param param e in
    let within : count_by is_scalar (take k params) + as_one (is_scalar (get_or params k param)) ≤ count_by is_scalar params =
    sum_by_more_le (λ (p : Param). as_one (is_scalar p)) params k param below in
    let here : as_one (is_scalar (get_or params k param)) ≡ as_one true = ap (λ (p : Param). as_one (is_scalar p)) there ∙ ap as_one scalar in
    omega arith

kind_below : (to variable : ℕ) (kind : ParamKind) → (is_scalar_kind kind ≡ true → variable < to) → AreBelow to (bound_variables (binding_as variable kind))
kind_below to variable (Scalar elem) below = (below refl, tt)
kind_below to variable (Pointer space elem readonly) below = tt

param_below : (to first : ℕ) (params : List Param) → first + count_by is_scalar params ≤ to → (k : ℕ) (param : Option Param) → slice_get params k ≡ param
    → AreBelow to (bound_variables (binding_by (cut (first + count_by is_scalar (take k params))) param))
param_below to first params room k None e = tt
param_below to first params room k (Some param) e =
    kind_below to (cut (first + count_by is_scalar (take k params))) param.kind
    (λ scalar. let fewer : count_by is_scalar (take k params) + 1 ≤ count_by is_scalar params = scalar_counts params k param e scalar in omega arith)

bound_below : (to first : ℕ) (params : List Param) → first + count_by is_scalar params ≤ to → BoundBelow to first params
bound_below to first params room k = param_below to first params room k (slice_get params k) refl

-- a function's own variables are among those that it has with its calls expanded
own_within : (program : List FunctionNode) → IsSound program → (k : ℕ) (f : FunctionNode) → slice_get program k ≡ Some f → f.variables ≤ measured own_variables program k
own_within program sound k f e =
    let V : ℕ → ℕ = measured own_variables program in
    let all : V k ≡ f.variables + weight V (callees f) = sound.variables k f e ∙ ap (λ n. f.variables + n) (sum_weight V (callees f)) in
    omega arith

-- the variables of an active call are in its range
pub variables_at : (program : List FunctionNode) → IsSound program → (to levels k : ℕ) (scope : Scope) → IsSmall program k → slice_get program k ≡ Some scope.function
    → scope.variables + measured own_variables program k ≤ to → AreBelow to (flat_variables (expanded levels program scope))
unfolding expanded
variables_at program sound to zero k scope small e room = tt
variables_at program sound to (suc levels) k scope small e room =
    let f : FunctionNode = scope.function in
    let V : ℕ → ℕ = measured own_variables program in
    let own_room : f.variables ≤ V k = own_within program sound k f e in
    let own : OwnBelow f.variables to scope = λ v below. omega arith in
    let calls : CallsBelow to (expanded levels program) program scope = λ call args site callee e' e''.
    let within : IsWithin V (measured own_sites program) (V k) (measured own_sites program k) site = call_within program sound k f small e call site e' in
    let more : site.variables + V site.callee ≤ V k = within.variables in
    let small' : IsSmall program site.callee = sound.callees k call f site small e e' in
    let its_own : callee.variables ≤ V site.callee = own_within program sound site.callee callee e'' in
    let scalars : count_by is_scalar callee.params ≤ callee.variables = (sound.formed site.callee callee small' e'').scalars in (
      variables_at program sound to levels site.callee (scope_at scope site callee args) small' e'' (omega arith),
      bound_below to (cut (scope.variables + site.variables)) callee.params (omega arith),
    ) in
    moves_fact f.variables to (stmts_variables f.body) (flat_variables (flat_stmts (expanded levels program) program scope f.body))
    (stmts_below f.variables to (expanded levels program) program scope own calls f.body)
    (sound.formed k f small e).variables

pub variables_are_below : OfSmallFunctions HaveVariables
unfolding expanded
variables_are_below program sound number kernel small e =
    let few = small.0 in
    variables_at program sound (cut (measured own_variables program number)) (suc (length program)) number (kernel_scope kernel) small e (omega arith)
