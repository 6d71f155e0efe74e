-- The depth of a flat tree is that of its source with its calls expanded.
use Rattle.std.proofs.Common.{◌≡◌, refl, ap, ℕ, ◌+◌, max, List, [], Option, None, Some, arith}
use Rattle.ocl_ast.specs.declared.units.Param.{Param}
use Rattle.ocl_program.specs.declared.functions.CallSite.{CallSite}
use Rattle.ocl_program.specs.Measures.{args_depth, depth, stmt_depth, stmts_depth, where_some}
use Rattle.ocl_program.specs.Nodes.{ExprNode, NumberNode, VariableNode, UnaryNode, BinaryNode, BothNode, EitherNode, ChooseNode, CastNode, LoadNode, CallNode, BuiltinNode, ParenNode, ArgNodes, NoArgs, ValueArg, ArrayArg, StmtNode, DeclareNode, LocalArrayNode, SetVariableNode, SetElementNode, CallStmtNode, BarrierNode, IfNode, IfElseNode, WhileNode, DoNode, ForNode, BreakNode, ContinueNode, ReturnNode, BlockNode, EmptyNode, StmtNodes, NoStmts, AndStmt, FunctionNode}
use Rattle.ocl_sem.specs.Source.{Scope, scope_at, site_of, callee_of}
use Rattle.ocl_inline.specs.Expansion.{Bodies, call_flat, flat_expr, flat_args, flat_value, flat_stmt, flat_stmts}
use Rattle.ocl_inline.specs.FlatMeasures.{flat_args_depth, flat_depth, flat_expr_depth, flat_stmt_depth, flat_value_depth}
use Rattle.ocl_inline.specs.Trees.{FlatArgs}
use Rattle.ocl_inline.proofs.CallMeasures.{CallsMeasure, alike_two, alike_three, alike_four}

call_depth_kept : (bodies : Bodies) (program : List FunctionNode) (scope : Scope) (inner : ℕ → ℕ) → CallsMeasure flat_depth bodies program scope inner → (call : ℕ) (args : ArgNodes)
    (site : Option CallSite) (callee : Option FunctionNode) → site_of scope call ≡ site → callee_of program site ≡ callee
    → (bound : ℕ → List Param → FlatArgs) → ((first : ℕ) (params : List Param) → flat_args_depth (bound first params) ≡ args_depth inner args)
    → flat_expr_depth (call_flat bodies scope site callee args bound) ≡ depth inner (CallNode call args)
call_depth_kept bodies program scope inner have call args None callee e e' bound same =
    let none : inner call ≡ 0 = have.no_site call e in
    let h : flat_args_depth (bound 0 []) ≡ args_depth inner args = same 0 [] in
    omega arith
call_depth_kept bodies program scope inner have call args (Some site) None e e' bound same =
    let none : inner call ≡ 0 = have.no_callee call site e e' in
    let h : flat_args_depth (bound 0 []) ≡ args_depth inner args = same 0 [] in
    omega arith
call_depth_kept bodies program scope inner have call args (Some site) (Some callee) e e' bound same =
    alike_two (λ a b. max a b + 1) (same (scope_at scope site callee args).variables callee.params) (have.body call args site callee e e')

mutual
  pub expr_depth_kept : (bodies : Bodies) (program : List FunctionNode) (scope : Scope) (inner : ℕ → ℕ) → CallsMeasure flat_depth bodies program scope inner → (e : ExprNode)
      → flat_expr_depth (flat_expr bodies program scope e) ≡ depth inner e
  expr_depth_kept bodies program scope inner have (NumberNode value unsigned) = refl
  expr_depth_kept bodies program scope inner have (VariableNode variable elem) = refl
  expr_depth_kept bodies program scope inner have (UnaryNode op part) = ap (λ (a : ℕ). a + 1) (expr_depth_kept bodies program scope inner have part)
  expr_depth_kept bodies program scope inner have (BinaryNode op unsigned left right) = alike_two (λ a b. max a (b + 1)) (expr_depth_kept bodies program scope inner have left) (expr_depth_kept bodies program scope inner have right)
  expr_depth_kept bodies program scope inner have (BothNode left right) = alike_two (λ a b. max a (b + 1)) (expr_depth_kept bodies program scope inner have left) (expr_depth_kept bodies program scope inner have right)
  expr_depth_kept bodies program scope inner have (EitherNode left right) = alike_two (λ a b. max a (b + 1)) (expr_depth_kept bodies program scope inner have left) (expr_depth_kept bodies program scope inner have right)
  expr_depth_kept bodies program scope inner have (ChooseNode unsigned test chosen left_out) =
      alike_three (λ a b c. max a (max b c) + 1) (expr_depth_kept bodies program scope inner have test) (expr_depth_kept bodies program scope inner have chosen) (expr_depth_kept bodies program scope inner have left_out)
  expr_depth_kept bodies program scope inner have (CastNode elem part) = ap (λ (a : ℕ). a + 1) (expr_depth_kept bodies program scope inner have part)
  expr_depth_kept bodies program scope inner have (LoadNode array elem place pos) = ap (λ (a : ℕ). a + 1) (expr_depth_kept bodies program scope inner have place)
  expr_depth_kept bodies program scope inner have (CallNode call args) =
      call_depth_kept bodies program scope inner have call args (site_of scope call) (callee_of program (site_of scope call)) refl refl
      (λ first params. flat_args bodies program scope first params 0 args) (λ first params. args_depth_kept bodies program scope inner have first params 0 args)
  expr_depth_kept bodies program scope inner have (BuiltinNode which unsigned args) = ap (λ (a : ℕ). a + 1) (args_depth_kept bodies program scope inner have 0 [] 0 args)
  expr_depth_kept bodies program scope inner have (ParenNode part) = ap (λ (a : ℕ). a + 1) (expr_depth_kept bodies program scope inner have part)

  pub args_depth_kept : (bodies : Bodies) (program : List FunctionNode) (scope : Scope) (inner : ℕ → ℕ) → CallsMeasure flat_depth bodies program scope inner → (first : ℕ) (params : List Param) (k : ℕ) (args : ArgNodes)
      → flat_args_depth (flat_args bodies program scope first params k args) ≡ args_depth inner args
  args_depth_kept bodies program scope inner have first params k NoArgs = refl
  args_depth_kept bodies program scope inner have first params k (ValueArg e more) = alike_two (λ a b. max a b) (expr_depth_kept bodies program scope inner have e) (args_depth_kept bodies program scope inner have first params (k + 1) more)
  args_depth_kept bodies program scope inner have first params k (ArrayArg array more) = ap (λ (a : ℕ). max 1 a) (args_depth_kept bodies program scope inner have first params (k + 1) more)

pub value_depth_kept : (bodies : Bodies) (program : List FunctionNode) (scope : Scope) (inner : ℕ → ℕ) → CallsMeasure flat_depth bodies program scope inner → (value : Option ExprNode)
    → flat_value_depth (flat_value bodies program scope value) ≡ where_some (depth inner) value
value_depth_kept bodies program scope inner have None = refl
value_depth_kept bodies program scope inner have (Some e) = expr_depth_kept bodies program scope inner have e

mutual
  pub stmt_depth_kept : (bodies : Bodies) (program : List FunctionNode) (scope : Scope) (inner : ℕ → ℕ) → CallsMeasure flat_depth bodies program scope inner → (s : StmtNode)
      → flat_stmt_depth (flat_stmt bodies program scope s) ≡ stmt_depth inner s
  stmt_depth_kept bodies program scope inner have (DeclareNode variable elem value) = value_depth_kept bodies program scope inner have value
  stmt_depth_kept bodies program scope inner have (LocalArrayNode array count) = expr_depth_kept bodies program scope inner have count
  stmt_depth_kept bodies program scope inner have (SetVariableNode variable elem op unsigned value) = value_depth_kept bodies program scope inner have value
  stmt_depth_kept bodies program scope inner have (SetElementNode array elem place op unsigned value pos) =
      alike_two (λ a b. max (a + 1) b) (expr_depth_kept bodies program scope inner have place) (value_depth_kept bodies program scope inner have value)
  stmt_depth_kept bodies program scope inner have (CallStmtNode call) = expr_depth_kept bodies program scope inner have call
  stmt_depth_kept bodies program scope inner have (BarrierNode site) = refl
  stmt_depth_kept bodies program scope inner have (IfNode test chosen) = alike_two (λ a b. max a b) (expr_depth_kept bodies program scope inner have test) (stmt_depth_kept bodies program scope inner have chosen)
  stmt_depth_kept bodies program scope inner have (IfElseNode test chosen left_out) =
      alike_three (λ a b c. max a (max b c)) (expr_depth_kept bodies program scope inner have test) (stmt_depth_kept bodies program scope inner have chosen) (stmt_depth_kept bodies program scope inner have left_out)
  stmt_depth_kept bodies program scope inner have (WhileNode test body) = alike_two (λ a b. max a b) (expr_depth_kept bodies program scope inner have test) (stmt_depth_kept bodies program scope inner have body)
  stmt_depth_kept bodies program scope inner have (DoNode body test) = alike_two (λ a b. max a b) (stmt_depth_kept bodies program scope inner have body) (expr_depth_kept bodies program scope inner have test)
  stmt_depth_kept bodies program scope inner have (ForNode first test step body) =
      alike_four (λ a b c d. max a (max b (max c d))) (stmts_depth_kept bodies program scope inner have first) (value_depth_kept bodies program scope inner have test)
      (stmts_depth_kept bodies program scope inner have step) (stmt_depth_kept bodies program scope inner have body)
  stmt_depth_kept bodies program scope inner have BreakNode = refl
  stmt_depth_kept bodies program scope inner have ContinueNode = refl
  stmt_depth_kept bodies program scope inner have (ReturnNode value) = value_depth_kept bodies program scope inner have value
  stmt_depth_kept bodies program scope inner have (BlockNode items) = stmts_depth_kept bodies program scope inner have items
  stmt_depth_kept bodies program scope inner have EmptyNode = refl

  pub stmts_depth_kept : (bodies : Bodies) (program : List FunctionNode) (scope : Scope) (inner : ℕ → ℕ) → CallsMeasure flat_depth bodies program scope inner → (ss : StmtNodes)
      → flat_depth (flat_stmts bodies program scope ss) ≡ stmts_depth inner ss
  stmts_depth_kept bodies program scope inner have NoStmts = refl
  stmts_depth_kept bodies program scope inner have (AndStmt s ss) = alike_two (λ a b. max a b) (stmt_depth_kept bodies program scope inner have s) (stmts_depth_kept bodies program scope inner have ss)
