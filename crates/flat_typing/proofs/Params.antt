-- The parameters of a function as its body finds them.
use Rattle.std.proofs.Common.{◌≡◌, refl, sym, ap, ◌∙◌, subst, ℕ, suc, ◌+◌, ◌<◌, is_some, List, [], ◌∷◌, length, slice_get, Some, Ok, arith}
use Rattle.vx_base.specs.declared.types.ParamKind.{ParamKind}
use Rattle.vx_base.specs.declared.types.ParamKind.TheVariants.{Scalar, Pointer}
use Rattle.ocl_ast.specs.declared.units.Param.{Param}
use Rattle.ocl_program.specs.declared.exprs.ArrayRef.TheVariants.{Parameter}
use Rattle.ocl_program.specs.Measures.{cut}
use Rattle.ocl_types.specs.declared.names.Binding.{Binding}
use Rattle.ocl_types.specs.declared.names.Binding.TheVariants.{Scalar as ScalarBinding, Array as ArrayBinding}
use Rattle.ocl_types.specs.Functions.{with_param, with_params}
use Rattle.ocl_types.specs.Names.{entry_named, is_fixed}
use Rattle.ocl_types.specs.Stmts.{Standing, innermost}
use Rattle.program_laws.proofs.Passing.{passing, answered, not_tested}
use Rattle.program_laws.proofs.Pieces.{most}
use Rattle.program_laws.proofs.StmtMoves.{declared_is}
use Rattle.flat_typing.specs.Typed.{Frame, kind_of, param_kind}
use Rattle.flat_typing.proofs.Gains.{AreScopes}
use Rattle.flat_typing.proofs.Names.{entry_behind}

-- parameters give names alone
pub record Named (frame : Frame) (st behind : Standing) : Type 0 where
  pub scopes : AreScopes frame st.scopes → AreScopes frame behind.scopes
  pub arrays : behind.arrays ≡ st.arrays
  pub calls : behind.calls ≡ st.calls

param_named : (frame : Frame) (k : ℕ) (p : Param) (kind : ParamKind) (st now : Standing) → k < most → param_kind (slice_get frame.params k) ≡ kind_of kind
    → with_param k p kind st ≡ Ok now → Named frame st now
param_named frame k p (Scalar elem) st now few is h =
    let binding : ℕ → Binding = λ variable. ScalarBinding variable elem p.constant in
    subst (λ (x : Standing). Named frame st x) (declared_is p.name binding st now h)
    (record { scopes = λ scopes. entry_behind frame st.scopes p.name.text (binding st.variables) scopes tt; arrays = refl; calls = refl })
param_named frame k p (Pointer space elem readonly) st now few is h =
    let whole : cut k ≡ k = omega arith in
    answered (Named frame st) (not_tested (is_some (entry_named p.name.text (innermost st.scopes))) _ _ h)
    (record {
      scopes = λ scopes. entry_behind frame st.scopes p.name.text (ArrayBinding (Parameter (cut k)) space elem (is_fixed space readonly)) scopes
          (ap (λ (n : ℕ). param_kind (slice_get frame.params n)) whole ∙ is);
      arrays = refl;
      calls = refl;
    })

-- parameters from number k on
pub params_named : (frame : Frame) (k : ℕ) (ps : List Param) (st now : Standing) → k + length ps < most → ((i : ℕ) (p : Param) → slice_get ps i ≡ Some p → slice_get frame.params (k + i) ≡ Some p)
    → with_params k st ps ≡ Ok now → Named frame st now
params_named frame k [] st now few at h = answered (Named frame st) h (record { scopes = λ scopes. scopes; arrays = refl; calls = refl })
params_named frame k (p ∷ ps) st now few at h =
    let one = passing (with_param k p p.kind st) h in
    let number : k + 0 ≡ k = omega arith in
    let here : slice_get frame.params k ≡ Some p = ap (λ (n : ℕ). slice_get frame.params n) (sym number) ∙ at 0 p refl in
    let first : Named frame st one.value = param_named frame k p p.kind st one.value (omega arith) (ap param_kind here) one.first in
    let rest : Named frame one.value now = params_named frame (k + 1) ps one.value now (omega arith)
    (λ i q e. let next : (k + 1) + i ≡ k + suc i = omega arith in ap (λ (n : ℕ). slice_get frame.params n) next ∙ at (suc i) q e) one.rest in
    record { scopes = λ scopes. rest.scopes (first.scopes scopes); arrays = rest.arrays ∙ first.arrays; calls = rest.calls ∙ first.calls }
