-- What a measure of the source with its calls expanded has at a call, and what follows for a body with any levels of calls.
use Rattle.std.proofs.Common.{◌≡◌, refl, sym, ap, ◌∙◌, ℕ, zero, suc, List, option_map, slice_get, Option, None, Some}
use Rattle.std.proofs.lemmas.Option.{slice_get-map}
use Rattle.ocl_program.specs.declared.functions.CallSite.{CallSite}
use Rattle.ocl_program.specs.Measures.{at_call, expanded as measured_by, of_function, where_some}
use Rattle.ocl_program.specs.Nodes.{ArgNodes, FunctionNode, StmtNodes}
use Rattle.ocl_sem.specs.Source.{Scope, scope_at, site_of}
use Rattle.ocl_inline.specs.Expansion.{Bodies, expanded, flat_stmts}
use Rattle.ocl_inline.specs.Trees.{FlatStmts, NoFlats}

pub alike_two : {a a' b b' : ℕ} (f : ℕ → ℕ → ℕ) → a ≡ a' → b ≡ b' → f a b ≡ f a' b'
alike_two {a' = a'} {b = b} f e e' = ap (λ x. f x b) e ∙ ap (f a') e'

pub alike_three : {a a' b b' c c' : ℕ} (f : ℕ → ℕ → ℕ → ℕ) → a ≡ a' → b ≡ b' → c ≡ c' → f a b c ≡ f a' b' c'
alike_three {a' = a'} {b = b} {c = c} f e e' e'' = ap (λ x. f x b c) e ∙ alike_two (f a') e' e''

pub alike_four : {a a' b b' c c' d d' : ℕ} (f : ℕ → ℕ → ℕ → ℕ → ℕ) → a ≡ a' → b ≡ b' → c ≡ c' → d ≡ d' → f a b c d ≡ f a' b' c' d'
alike_four {a' = a'} {b = b} {c = c} {d = d} f e e' e'' e''' = ap (λ x. f x b c d) e ∙ alike_three (f a') e' e'' e'''

-- `inner` is what the body at each call has, and 0 where a call leads to no function
pub record CallsMeasure (measure : FlatStmts → ℕ) (bodies : Bodies) (program : List FunctionNode) (scope : Scope) (inner : ℕ → ℕ) : Type 0 where
  pub body : (call : ℕ) (args : ArgNodes) (site : CallSite) (callee : FunctionNode) → site_of scope call ≡ Some site → slice_get program site.callee ≡ Some callee
      → measure (bodies (scope_at scope site callee args)) ≡ inner call
  pub no_callee : (call : ℕ) (site : CallSite) → site_of scope call ≡ Some site → slice_get program site.callee ≡ None → inner call ≡ 0
  pub no_site : (call : ℕ) → site_of scope call ≡ None → inner call ≡ 0

-- what stands at a call, by the row of the table
pub call_by_row : (f : FunctionNode) (inner : ℕ → ℕ) (call : ℕ) (site : Option CallSite) → slice_get f.calls call ≡ site
    → at_call f inner call ≡ where_some (λ (c : CallSite). inner c.callee) site
call_by_row f inner call None e = ap (where_some inner) (slice_get-map (λ (c : CallSite). c.callee) f.calls call ∙ ap (option_map (λ (c : CallSite). c.callee)) e)
call_by_row f inner call (Some site) e = ap (where_some inner) (slice_get-map (λ (c : CallSite). c.callee) f.calls call ∙ ap (option_map (λ (c : CallSite). c.callee)) e)

-- a measure of a body by what stands at its calls
abbrev pub by_body : ((ℕ → ℕ) → StmtNodes → ℕ) → FunctionNode → (ℕ → ℕ) → ℕ
by_body source f inner = source (at_call f inner) f.body

nobody : (source : (ℕ → ℕ) → StmtNodes → ℕ) (program : List FunctionNode) (levels k : ℕ) → slice_get program k ≡ None → measured_by (by_body source) program levels k ≡ 0
unfolding measured_by
nobody source program zero k e = refl
nobody source program (suc levels) k e = ap (of_function (by_body source) (measured_by (by_body source) program levels)) e

-- where a measure of trees is the measure of their sources, so is it for bodies with any levels of calls
pub measured_alike : (measure : FlatStmts → ℕ) (source : (ℕ → ℕ) → StmtNodes → ℕ) → measure NoFlats ≡ 0
    → ((bodies : Bodies) (program : List FunctionNode) (scope : Scope) (inner : ℕ → ℕ) → CallsMeasure measure bodies program scope inner → (ss : StmtNodes)
    → measure (flat_stmts bodies program scope ss) ≡ source inner ss)
    → (program : List FunctionNode) (levels k : ℕ) (scope : Scope) → slice_get program k ≡ Some scope.function
    → measure (expanded levels program scope) ≡ measured_by (by_body source) program levels k
unfolding expanded measured_by
measured_alike measure source none kept program zero k scope e = none
measured_alike measure source none kept program (suc levels) k scope e =
    let f : FunctionNode = scope.function in
    let inner : ℕ → ℕ = measured_by (by_body source) program levels in
    let have : CallsMeasure measure (expanded levels program) program scope (at_call f inner) = record {
      body = λ call args site callee e' e''.
          measured_alike measure source none kept program levels site.callee (scope_at scope site callee args) e'' ∙ sym (call_by_row f inner call (Some site) e');
      no_callee = λ call site e' e''. call_by_row f inner call (Some site) e' ∙ nobody source program levels site.callee e'';
      no_site = λ call e'. call_by_row f inner call None e';
    } in
    kept (expanded levels program) program scope (at_call f inner) have f.body
    ∙ sym (ap (of_function (by_body source) inner) e)
