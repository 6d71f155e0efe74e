-- How often a number is met among the barriers of a flat tree: at most as often as its own barriers and its calls have it.
use Rattle.std.proofs.Common.{◌≡◌, refl, ℕ, ◌+◌, ◌≤◌, List, [], ◌∷◌, ◌++◌, slice_get, Option, None, Some, arith}
use Rattle.ocl_ast.specs.declared.units.Param.{Param}
use Rattle.ocl_program.specs.declared.functions.CallSite.{CallSite}
use Rattle.ocl_program.specs.Nodes.{ExprNode, NumberNode, VariableNode, UnaryNode, BinaryNode, BothNode, EitherNode, ChooseNode, CastNode, LoadNode, CallNode, BuiltinNode, ParenNode, ArgNodes, NoArgs, ValueArg, ArrayArg, StmtNode, DeclareNode, LocalArrayNode, SetVariableNode, SetElementNode, CallStmtNode, BarrierNode, IfNode, IfElseNode, WhileNode, DoNode, ForNode, BreakNode, ContinueNode, ReturnNode, BlockNode, EmptyNode, StmtNodes, NoStmts, AndStmt, FunctionNode}
use Rattle.ocl_sem.specs.Source.{Scope, scope_at, site_of, callee_of, site_in}
use Rattle.ocl_inline.specs.Expansion.{Bodies, call_flat, flat_expr, flat_args, flat_value, flat_stmt, flat_stmts}
use Rattle.ocl_inline.specs.FlatNumbers.{flat_args_sites, flat_expr_sites, flat_sites, flat_stmt_sites, flat_value_sites}
use Rattle.program_laws.specs.Formed.{args_calls, expr_calls, stmt_calls, stmt_sites, stmts_calls, stmts_sites, where_written}
use Rattle.ocl_inline.specs.Trees.{FlatArgs}
use Rattle.ocl_inline.proofs.Counts.{weight, weight_append}
use Rattle.ocl_inline.proofs.Meetings.{met, met_append, one}

-- a number is met among some others at most as often as own barriers and calls have it
pub Holds : (ℕ → ℕ) → (ℕ → ℕ) → ℕ → List ℕ → List ℕ → List ℕ → Type 0
Holds own inner n numbers sites calls = met n numbers ≤ weight own sites + weight inner calls

pub holds_fact : (own inner : ℕ → ℕ) (n : ℕ) (numbers sites calls : List ℕ) → Holds own inner n numbers sites calls → met n numbers ≤ weight own sites + weight inner calls
unfolding Holds
holds_fact own inner n numbers sites calls h = h

nothing : (own inner : ℕ → ℕ) (n : ℕ) → Holds own inner n [] [] []
unfolding Holds
nothing own inner n = omega arith

own_site : (own inner : ℕ → ℕ) (n k site : ℕ) → one n k ≤ own site → Holds own inner n (k ∷ []) (site ∷ []) []
unfolding Holds
own_site own inner n k site h = omega arith

one_call : (own inner : ℕ → ℕ) (n : ℕ) (numbers : List ℕ) (call : ℕ) → met n numbers ≤ inner call → Holds own inner n numbers [] (call ∷ [])
unfolding Holds
one_call own inner n numbers call h = omega arith

both : (own inner : ℕ → ℕ) (n : ℕ) (xs ys sites sites' calls calls' : List ℕ) → Holds own inner n xs sites calls → Holds own inner n ys sites' calls'
    → Holds own inner n (xs ++ ys) (sites ++ sites') (calls ++ calls')
unfolding Holds
both own inner n xs ys sites sites' calls calls' h h' =
    omega (arith, met_append n xs ys, weight_append own sites sites', weight_append inner calls calls')

-- the same where the second part has no barrier of its own
both_first : (own inner : ℕ → ℕ) (n : ℕ) (xs ys sites calls calls' : List ℕ) → Holds own inner n xs sites calls → Holds own inner n ys [] calls'
    → Holds own inner n (xs ++ ys) sites (calls ++ calls')
unfolding Holds
both_first own inner n xs ys sites calls calls' h h' = omega (arith, met_append n xs ys, weight_append inner calls calls')

lost : (own inner : ℕ → ℕ) (n call : ℕ) (xs calls : List ℕ) → Holds own inner n xs [] calls → Holds own inner n xs [] (calls ++ call ∷ [])
unfolding Holds
lost own inner n call xs calls h = omega (arith, weight_append inner calls (call ∷ []))

-- what stands at each call has a number at most as often as the call
abbrev pub CallsHave : (ℕ → ℕ) → ℕ → Bodies → List FunctionNode → Scope → Type 0
CallsHave inner n bodies program scope =
    (call : ℕ) (args : ArgNodes) (site : CallSite) (callee : FunctionNode) → site_of scope call ≡ Some site → slice_get program site.callee ≡ Some callee
    → met n (flat_sites (bodies (scope_at scope site callee args))) ≤ inner call

abbrev pub OwnHave : (ℕ → ℕ) → ℕ → Scope → Type 0
OwnHave own n scope = (site : ℕ) → one n (site_in scope site) ≤ own site

call_holds : (own inner : ℕ → ℕ) (n : ℕ) (bodies : Bodies) (program : List FunctionNode) (scope : Scope) → CallsHave inner n bodies program scope → (call : ℕ) (args : ArgNodes)
    (site : Option CallSite) (callee : Option FunctionNode) → site_of scope call ≡ site → callee_of program site ≡ callee
    → (bound : ℕ → List Param → FlatArgs) → ((first : ℕ) (params : List Param) → Holds own inner n (flat_args_sites (bound first params)) [] (args_calls args))
    → Holds own inner n (flat_expr_sites (call_flat bodies scope site callee args bound)) [] (args_calls args ++ call ∷ [])
call_holds own inner n bodies program scope have call args None callee e e' bound h = lost own inner n call (flat_args_sites (bound 0 [])) (args_calls args) (h 0 [])
call_holds own inner n bodies program scope have call args (Some site) None e e' bound h = lost own inner n call (flat_args_sites (bound 0 [])) (args_calls args) (h 0 [])
call_holds own inner n bodies program scope have call args (Some site) (Some callee) e e' bound h =
    both own inner n (flat_args_sites (bound (scope_at scope site callee args).variables callee.params)) (flat_sites (bodies (scope_at scope site callee args))) [] [] (args_calls args) (call ∷ [])
    (h (scope_at scope site callee args).variables callee.params)
    (one_call own inner n (flat_sites (bodies (scope_at scope site callee args))) call (have call args site callee e e'))

mutual
  pub expr_holds : (own inner : ℕ → ℕ) (n : ℕ) (bodies : Bodies) (program : List FunctionNode) (scope : Scope) → CallsHave inner n bodies program scope → (e : ExprNode)
      → Holds own inner n (flat_expr_sites (flat_expr bodies program scope e)) [] (expr_calls e)
  expr_holds own inner n bodies program scope have (NumberNode value unsigned) = nothing own inner n
  expr_holds own inner n bodies program scope have (VariableNode variable elem) = nothing own inner n
  expr_holds own inner n bodies program scope have (UnaryNode op part) = expr_holds own inner n bodies program scope have part
  expr_holds own inner n bodies program scope have (BinaryNode op unsigned left right) = both own inner n _ _ _ _ _ _ (expr_holds own inner n bodies program scope have left) (expr_holds own inner n bodies program scope have right)
  expr_holds own inner n bodies program scope have (BothNode left right) = both own inner n _ _ _ _ _ _ (expr_holds own inner n bodies program scope have left) (expr_holds own inner n bodies program scope have right)
  expr_holds own inner n bodies program scope have (EitherNode left right) = both own inner n _ _ _ _ _ _ (expr_holds own inner n bodies program scope have left) (expr_holds own inner n bodies program scope have right)
  expr_holds own inner n bodies program scope have (ChooseNode unsigned test chosen left_out) = both own inner n _ _ _ _ _ _ (expr_holds own inner n bodies program scope have test) (both own inner n _ _ _ _ _ _ (expr_holds own inner n bodies program scope have chosen) (expr_holds own inner n bodies program scope have left_out))
  expr_holds own inner n bodies program scope have (CastNode elem part) = expr_holds own inner n bodies program scope have part
  expr_holds own inner n bodies program scope have (LoadNode array elem place pos) = expr_holds own inner n bodies program scope have place
  expr_holds own inner n bodies program scope have (CallNode call args) =
      call_holds own inner n bodies program scope have call args (site_of scope call) (callee_of program (site_of scope call)) refl refl
      (λ first params. flat_args bodies program scope first params 0 args) (λ first params. args_hold own inner n bodies program scope have first params 0 args)
  expr_holds own inner n bodies program scope have (BuiltinNode which unsigned args) = args_hold own inner n bodies program scope have 0 [] 0 args
  expr_holds own inner n bodies program scope have (ParenNode part) = expr_holds own inner n bodies program scope have part

  pub args_hold : (own inner : ℕ → ℕ) (n : ℕ) (bodies : Bodies) (program : List FunctionNode) (scope : Scope) → CallsHave inner n bodies program scope → (first : ℕ) (params : List Param) (k : ℕ) (args : ArgNodes)
      → Holds own inner n (flat_args_sites (flat_args bodies program scope first params k args)) [] (args_calls args)
  args_hold own inner n bodies program scope have first params k NoArgs = nothing own inner n
  args_hold own inner n bodies program scope have first params k (ValueArg e more) = both own inner n _ _ _ _ _ _ (expr_holds own inner n bodies program scope have e) (args_hold own inner n bodies program scope have first params (k + 1) more)
  args_hold own inner n bodies program scope have first params k (ArrayArg array more) = args_hold own inner n bodies program scope have first params (k + 1) more

pub value_holds : (own inner : ℕ → ℕ) (n : ℕ) (bodies : Bodies) (program : List FunctionNode) (scope : Scope) → CallsHave inner n bodies program scope → (value : Option ExprNode)
    → Holds own inner n (flat_value_sites (flat_value bodies program scope value)) [] (where_written expr_calls value)
value_holds own inner n bodies program scope have None = nothing own inner n
value_holds own inner n bodies program scope have (Some e) = expr_holds own inner n bodies program scope have e

mutual
  pub stmt_holds : (own inner : ℕ → ℕ) (n : ℕ) (bodies : Bodies) (program : List FunctionNode) (scope : Scope) → OwnHave own n scope → CallsHave inner n bodies program scope → (s : StmtNode)
      → Holds own inner n (flat_stmt_sites (flat_stmt bodies program scope s)) (stmt_sites s) (stmt_calls s)
  stmt_holds own inner n bodies program scope own_have have (DeclareNode variable elem value) = value_holds own inner n bodies program scope have value
  stmt_holds own inner n bodies program scope own_have have (LocalArrayNode array count) = expr_holds own inner n bodies program scope have count
  stmt_holds own inner n bodies program scope own_have have (SetVariableNode variable elem op unsigned value) = value_holds own inner n bodies program scope have value
  stmt_holds own inner n bodies program scope own_have have (SetElementNode array elem place op unsigned value pos) = both own inner n _ _ _ _ _ _ (expr_holds own inner n bodies program scope have place) (value_holds own inner n bodies program scope have value)
  stmt_holds own inner n bodies program scope own_have have (CallStmtNode call) = expr_holds own inner n bodies program scope have call
  stmt_holds own inner n bodies program scope own_have have (BarrierNode site) = own_site own inner n (site_in scope site) site (own_have site)
  stmt_holds own inner n bodies program scope own_have have (IfNode test chosen) = both own inner n _ _ _ _ _ _ (expr_holds own inner n bodies program scope have test) (stmt_holds own inner n bodies program scope own_have have chosen)
  stmt_holds own inner n bodies program scope own_have have (IfElseNode test chosen left_out) = both own inner n _ _ _ _ _ _ (expr_holds own inner n bodies program scope have test) (both own inner n _ _ _ _ _ _ (stmt_holds own inner n bodies program scope own_have have chosen) (stmt_holds own inner n bodies program scope own_have have left_out))
  stmt_holds own inner n bodies program scope own_have have (WhileNode test body) = both own inner n _ _ _ _ _ _ (expr_holds own inner n bodies program scope have test) (stmt_holds own inner n bodies program scope own_have have body)
  stmt_holds own inner n bodies program scope own_have have (DoNode body test) = both_first own inner n _ _ _ _ _ (stmt_holds own inner n bodies program scope own_have have body) (expr_holds own inner n bodies program scope have test)
  stmt_holds own inner n bodies program scope own_have have (ForNode first test step body) =
      both own inner n _ _ _ _ _ _ (stmts_hold own inner n bodies program scope own_have have first) (
      both own inner n _ _ _ _ _ _ (value_holds own inner n bodies program scope have test) (both own inner n _ _ _ _ _ _ (stmts_hold own inner n bodies program scope own_have have step) (stmt_holds own inner n bodies program scope own_have have body)))
  stmt_holds own inner n bodies program scope own_have have BreakNode = nothing own inner n
  stmt_holds own inner n bodies program scope own_have have ContinueNode = nothing own inner n
  stmt_holds own inner n bodies program scope own_have have (ReturnNode value) = value_holds own inner n bodies program scope have value
  stmt_holds own inner n bodies program scope own_have have (BlockNode items) = stmts_hold own inner n bodies program scope own_have have items
  stmt_holds own inner n bodies program scope own_have have EmptyNode = nothing own inner n

  pub stmts_hold : (own inner : ℕ → ℕ) (n : ℕ) (bodies : Bodies) (program : List FunctionNode) (scope : Scope) → OwnHave own n scope → CallsHave inner n bodies program scope → (ss : StmtNodes)
      → Holds own inner n (flat_sites (flat_stmts bodies program scope ss)) (stmts_sites ss) (stmts_calls ss)
  stmts_hold own inner n bodies program scope own_have have NoStmts = nothing own inner n
  stmts_hold own inner n bodies program scope own_have have (AndStmt s ss) = both own inner n _ _ _ _ _ _ (stmt_holds own inner n bodies program scope own_have have s) (stmts_hold own inner n bodies program scope own_have have ss)
