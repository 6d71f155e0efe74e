-- How many calls of a flat tree stand inside one another, by what each call of its source has.
use Rattle.std.proofs.Common.{◌≡◌, refl, sym, ◌∙◌, ℕ, ◌+◌, max, List, [], ◌∷◌, ◌++◌, map, Option, None, Some, arith}
use Rattle.ocl_ast.specs.declared.units.Param.{Param}
use Rattle.ocl_program.specs.declared.functions.CallSite.{CallSite}
use Rattle.ocl_program.specs.Measures.{greatest}
use Rattle.ocl_program.specs.Nodes.{ExprNode, NumberNode, VariableNode, UnaryNode, BinaryNode, BothNode, EitherNode, ChooseNode, CastNode, LoadNode, CallNode, BuiltinNode, ParenNode, ArgNodes, NoArgs, ValueArg, ArrayArg, StmtNode, DeclareNode, LocalArrayNode, SetVariableNode, SetElementNode, CallStmtNode, BarrierNode, IfNode, IfElseNode, WhileNode, DoNode, ForNode, BreakNode, ContinueNode, ReturnNode, BlockNode, EmptyNode, StmtNodes, NoStmts, AndStmt, FunctionNode}
use Rattle.ocl_sem.specs.Source.{Scope, scope_at, site_of, callee_of}
use Rattle.ocl_inline.specs.Expansion.{Bodies, call_flat, flat_expr, flat_args, flat_value, flat_stmt, flat_stmts}
use Rattle.ocl_inline.specs.FlatMeasures.{flat_args_calls, flat_calls, flat_expr_calls, flat_stmt_calls, flat_value_calls}
use Rattle.program_laws.specs.Formed.{args_calls, expr_calls, stmt_calls, stmts_calls, where_written}
use Rattle.ocl_inline.specs.Trees.{FlatArgs, FlatStmts}
use Rattle.ocl_inline.proofs.CallMeasures.{CallsMeasure, alike_two}

-- a number is the greatest of what some calls have
pub Reaches : (ℕ → ℕ) → ℕ → List ℕ → Type 0
Reaches inner reached calls = reached ≡ greatest (map inner calls)

pub reaches_fact : (inner : ℕ → ℕ) (reached : ℕ) (calls : List ℕ) → Reaches inner reached calls → reached ≡ greatest (map inner calls)
unfolding Reaches
reaches_fact inner reached calls h = h

greatest_append : (inner : ℕ → ℕ) (xs ys : List ℕ) → greatest (map inner (xs ++ ys)) ≡ max (greatest (map inner xs)) (greatest (map inner ys))
greatest_append inner [] ys = omega arith
greatest_append inner (x ∷ xs) ys =
    let h : greatest (map inner (xs ++ ys)) ≡ max (greatest (map inner xs)) (greatest (map inner ys)) = greatest_append inner xs ys in
    omega arith

nothing : (inner : ℕ → ℕ) → Reaches inner 0 []
unfolding Reaches
nothing inner = refl

both : (inner : ℕ → ℕ) (m n : ℕ) (xs ys : List ℕ) → Reaches inner m xs → Reaches inner n ys → Reaches inner (max m n) (xs ++ ys)
unfolding Reaches
both inner m n xs ys h h' = alike_two max h h' ∙ sym (greatest_append inner xs ys)

one_call : (inner : ℕ → ℕ) (n call : ℕ) → n ≡ inner call → Reaches inner n (call ∷ [])
unfolding Reaches
one_call inner n call h = omega arith

lost : (inner : ℕ → ℕ) (n call : ℕ) (xs : List ℕ) → inner call ≡ 0 → Reaches inner n xs → Reaches inner n (xs ++ call ∷ [])
unfolding Reaches
lost inner n call xs none h = omega (arith, greatest_append inner xs (call ∷ []))

-- a body with the call at which it stands
abbrev pub with_call : FlatStmts → ℕ
with_call body = flat_calls body + 1

call_reaches : (bodies : Bodies) (program : List FunctionNode) (scope : Scope) (inner : ℕ → ℕ) → CallsMeasure with_call bodies program scope inner → (call : ℕ) (args : ArgNodes)
    (site : Option CallSite) (callee : Option FunctionNode) → site_of scope call ≡ site → callee_of program site ≡ callee
    → (bound : ℕ → List Param → FlatArgs) → ((first : ℕ) (params : List Param) → Reaches inner (flat_args_calls (bound first params)) (args_calls args))
    → Reaches inner (flat_expr_calls (call_flat bodies scope site callee args bound)) (args_calls args ++ call ∷ [])
call_reaches bodies program scope inner have call args None callee e e' bound same =
    lost inner (flat_args_calls (bound 0 [])) call (args_calls args) (have.no_site call e) (same 0 [])
call_reaches bodies program scope inner have call args (Some site) None e e' bound same =
    lost inner (flat_args_calls (bound 0 [])) call (args_calls args) (have.no_callee call site e e') (same 0 [])
call_reaches bodies program scope inner have call args (Some site) (Some callee) e e' bound same =
    let within : Scope = scope_at scope site callee args in
    both inner (flat_args_calls (bound within.variables callee.params)) (with_call (bodies within)) (args_calls args) (call ∷ []) (same within.variables callee.params)
    (one_call inner (with_call (bodies within)) call (have.body call args site callee e e'))

mutual
  pub expr_reaches : (bodies : Bodies) (program : List FunctionNode) (scope : Scope) (inner : ℕ → ℕ) → CallsMeasure with_call bodies program scope inner → (e : ExprNode) → Reaches inner (flat_expr_calls (flat_expr bodies program scope e)) (expr_calls e)
  expr_reaches bodies program scope inner have (NumberNode value unsigned) = nothing inner
  expr_reaches bodies program scope inner have (VariableNode variable elem) = nothing inner
  expr_reaches bodies program scope inner have (UnaryNode op part) = expr_reaches bodies program scope inner have part
  expr_reaches bodies program scope inner have (BinaryNode op unsigned left right) = both inner _ _ _ _ (expr_reaches bodies program scope inner have left) (expr_reaches bodies program scope inner have right)
  expr_reaches bodies program scope inner have (BothNode left right) = both inner _ _ _ _ (expr_reaches bodies program scope inner have left) (expr_reaches bodies program scope inner have right)
  expr_reaches bodies program scope inner have (EitherNode left right) = both inner _ _ _ _ (expr_reaches bodies program scope inner have left) (expr_reaches bodies program scope inner have right)
  expr_reaches bodies program scope inner have (ChooseNode unsigned test chosen left_out) = both inner _ _ _ _ (expr_reaches bodies program scope inner have test) (both inner _ _ _ _ (expr_reaches bodies program scope inner have chosen) (expr_reaches bodies program scope inner have left_out))
  expr_reaches bodies program scope inner have (CastNode elem part) = expr_reaches bodies program scope inner have part
  expr_reaches bodies program scope inner have (LoadNode array elem place pos) = expr_reaches bodies program scope inner have place
  expr_reaches bodies program scope inner have (CallNode call args) =
      call_reaches bodies program scope inner have call args (site_of scope call) (callee_of program (site_of scope call)) refl refl
      (λ first params. flat_args bodies program scope first params 0 args) (λ first params. args_reach bodies program scope inner have first params 0 args)
  expr_reaches bodies program scope inner have (BuiltinNode which unsigned args) = args_reach bodies program scope inner have 0 [] 0 args
  expr_reaches bodies program scope inner have (ParenNode part) = expr_reaches bodies program scope inner have part

  pub args_reach : (bodies : Bodies) (program : List FunctionNode) (scope : Scope) (inner : ℕ → ℕ) → CallsMeasure with_call bodies program scope inner → (first : ℕ) (params : List Param) (k : ℕ) (args : ArgNodes)
      → Reaches inner (flat_args_calls (flat_args bodies program scope first params k args)) (args_calls args)
  args_reach bodies program scope inner have first params k NoArgs = nothing inner
  args_reach bodies program scope inner have first params k (ValueArg e more) = both inner _ _ _ _ (expr_reaches bodies program scope inner have e) (args_reach bodies program scope inner have first params (k + 1) more)
  args_reach bodies program scope inner have first params k (ArrayArg array more) = args_reach bodies program scope inner have first params (k + 1) more

pub value_reaches : (bodies : Bodies) (program : List FunctionNode) (scope : Scope) (inner : ℕ → ℕ) → CallsMeasure with_call bodies program scope inner → (value : Option ExprNode)
    → Reaches inner (flat_value_calls (flat_value bodies program scope value)) (where_written expr_calls value)
value_reaches bodies program scope inner have None = nothing inner
value_reaches bodies program scope inner have (Some e) = expr_reaches bodies program scope inner have e

mutual
  pub stmt_reaches : (bodies : Bodies) (program : List FunctionNode) (scope : Scope) (inner : ℕ → ℕ) → CallsMeasure with_call bodies program scope inner → (s : StmtNode) → Reaches inner (flat_stmt_calls (flat_stmt bodies program scope s)) (stmt_calls s)
  stmt_reaches bodies program scope inner have (DeclareNode variable elem value) = value_reaches bodies program scope inner have value
  stmt_reaches bodies program scope inner have (LocalArrayNode array count) = expr_reaches bodies program scope inner have count
  stmt_reaches bodies program scope inner have (SetVariableNode variable elem op unsigned value) = value_reaches bodies program scope inner have value
  stmt_reaches bodies program scope inner have (SetElementNode array elem place op unsigned value pos) = both inner _ _ _ _ (expr_reaches bodies program scope inner have place) (value_reaches bodies program scope inner have value)
  stmt_reaches bodies program scope inner have (CallStmtNode call) = expr_reaches bodies program scope inner have call
  stmt_reaches bodies program scope inner have (BarrierNode site) = nothing inner
  stmt_reaches bodies program scope inner have (IfNode test chosen) = both inner _ _ _ _ (expr_reaches bodies program scope inner have test) (stmt_reaches bodies program scope inner have chosen)
  stmt_reaches bodies program scope inner have (IfElseNode test chosen left_out) = both inner _ _ _ _ (expr_reaches bodies program scope inner have test) (both inner _ _ _ _ (stmt_reaches bodies program scope inner have chosen) (stmt_reaches bodies program scope inner have left_out))
  stmt_reaches bodies program scope inner have (WhileNode test body) = both inner _ _ _ _ (expr_reaches bodies program scope inner have test) (stmt_reaches bodies program scope inner have body)
  stmt_reaches bodies program scope inner have (DoNode body test) = both inner _ _ _ _ (stmt_reaches bodies program scope inner have body) (expr_reaches bodies program scope inner have test)
  stmt_reaches bodies program scope inner have (ForNode first test step body) =
      both inner _ _ _ _ (stmts_reach bodies program scope inner have first) (
      both inner _ _ _ _ (value_reaches bodies program scope inner have test) (both inner _ _ _ _ (stmts_reach bodies program scope inner have step) (stmt_reaches bodies program scope inner have body)))
  stmt_reaches bodies program scope inner have BreakNode = nothing inner
  stmt_reaches bodies program scope inner have ContinueNode = nothing inner
  stmt_reaches bodies program scope inner have (ReturnNode value) = value_reaches bodies program scope inner have value
  stmt_reaches bodies program scope inner have (BlockNode items) = stmts_reach bodies program scope inner have items
  stmt_reaches bodies program scope inner have EmptyNode = nothing inner

  pub stmts_reach : (bodies : Bodies) (program : List FunctionNode) (scope : Scope) (inner : ℕ → ℕ) → CallsMeasure with_call bodies program scope inner → (ss : StmtNodes) → Reaches inner (flat_calls (flat_stmts bodies program scope ss)) (stmts_calls ss)
  stmts_reach bodies program scope inner have NoStmts = nothing inner
  stmts_reach bodies program scope inner have (AndStmt s ss) = both inner _ _ _ _ (stmt_reaches bodies program scope inner have s) (stmts_reach bodies program scope inner have ss)
