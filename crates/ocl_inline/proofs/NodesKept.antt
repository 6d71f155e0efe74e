-- The nodes of a flat tree are those of its source with its calls expanded.
use Rattle.std.proofs.Common.{◌≡◌, refl, ap, ℕ, ◌+◌, List, [], Option, None, Some, arith}
use Rattle.ocl_ast.specs.declared.units.Param.{Param}
use Rattle.ocl_program.specs.declared.functions.CallSite.{CallSite}
use Rattle.ocl_program.specs.Measures.{args_nodes, nodes, stmt_size, stmts_size, where_some}
use Rattle.ocl_program.specs.Nodes.{ExprNode, NumberNode, VariableNode, UnaryNode, BinaryNode, BothNode, EitherNode, ChooseNode, CastNode, LoadNode, CallNode, BuiltinNode, ParenNode, ArgNodes, NoArgs, ValueArg, ArrayArg, StmtNode, DeclareNode, LocalArrayNode, SetVariableNode, SetElementNode, CallStmtNode, BarrierNode, IfNode, IfElseNode, WhileNode, DoNode, ForNode, BreakNode, ContinueNode, ReturnNode, BlockNode, EmptyNode, StmtNodes, NoStmts, AndStmt, FunctionNode}
use Rattle.ocl_sem.specs.Source.{Scope, scope_at, site_of, callee_of}
use Rattle.ocl_inline.specs.Expansion.{Bodies, call_flat, flat_expr, flat_args, flat_value, flat_stmt, flat_stmts}
use Rattle.ocl_inline.specs.FlatMeasures.{flat_args_nodes, flat_expr_nodes, flat_nodes, flat_stmt_nodes, flat_value_nodes}
use Rattle.ocl_inline.specs.Trees.{FlatArgs}
use Rattle.ocl_inline.proofs.CallMeasures.{CallsMeasure, alike_two, alike_three, alike_four}

call_nodes_kept : (bodies : Bodies) (program : List FunctionNode) (scope : Scope) (inner : ℕ → ℕ) → CallsMeasure flat_nodes bodies program scope inner → (call : ℕ) (args : ArgNodes)
    (site : Option CallSite) (callee : Option FunctionNode) → site_of scope call ≡ site → callee_of program site ≡ callee
    → (bound : ℕ → List Param → FlatArgs) → ((first : ℕ) (params : List Param) → flat_args_nodes (bound first params) ≡ args_nodes inner args)
    → flat_expr_nodes (call_flat bodies scope site callee args bound) ≡ nodes inner (CallNode call args)
call_nodes_kept bodies program scope inner have call args None callee e e' bound same =
    let none : inner call ≡ 0 = have.no_site call e in
    let h : flat_args_nodes (bound 0 []) ≡ args_nodes inner args = same 0 [] in
    omega arith
call_nodes_kept bodies program scope inner have call args (Some site) None e e' bound same =
    let none : inner call ≡ 0 = have.no_callee call site e e' in
    let h : flat_args_nodes (bound 0 []) ≡ args_nodes inner args = same 0 [] in
    omega arith
call_nodes_kept bodies program scope inner have call args (Some site) (Some callee) e e' bound same =
    alike_two (λ a b. a + b + 1) (same (scope_at scope site callee args).variables callee.params) (have.body call args site callee e e')

mutual
  pub expr_nodes_kept : (bodies : Bodies) (program : List FunctionNode) (scope : Scope) (inner : ℕ → ℕ) → CallsMeasure flat_nodes bodies program scope inner → (e : ExprNode)
      → flat_expr_nodes (flat_expr bodies program scope e) ≡ nodes inner e
  expr_nodes_kept bodies program scope inner have (NumberNode value unsigned) = refl
  expr_nodes_kept bodies program scope inner have (VariableNode variable elem) = refl
  expr_nodes_kept bodies program scope inner have (UnaryNode op part) = ap (λ (a : ℕ). a + 1) (expr_nodes_kept bodies program scope inner have part)
  expr_nodes_kept bodies program scope inner have (BinaryNode op unsigned left right) = alike_two (λ a b. a + b + 1) (expr_nodes_kept bodies program scope inner have left) (expr_nodes_kept bodies program scope inner have right)
  expr_nodes_kept bodies program scope inner have (BothNode left right) = alike_two (λ a b. a + b + 1) (expr_nodes_kept bodies program scope inner have left) (expr_nodes_kept bodies program scope inner have right)
  expr_nodes_kept bodies program scope inner have (EitherNode left right) = alike_two (λ a b. a + b + 1) (expr_nodes_kept bodies program scope inner have left) (expr_nodes_kept bodies program scope inner have right)
  expr_nodes_kept bodies program scope inner have (ChooseNode unsigned test chosen left_out) =
      alike_three (λ a b c. a + b + c + 1) (expr_nodes_kept bodies program scope inner have test) (expr_nodes_kept bodies program scope inner have chosen) (expr_nodes_kept bodies program scope inner have left_out)
  expr_nodes_kept bodies program scope inner have (CastNode elem part) = ap (λ (a : ℕ). a + 1) (expr_nodes_kept bodies program scope inner have part)
  expr_nodes_kept bodies program scope inner have (LoadNode array elem place pos) = ap (λ (a : ℕ). a + 1) (expr_nodes_kept bodies program scope inner have place)
  expr_nodes_kept bodies program scope inner have (CallNode call args) =
      call_nodes_kept bodies program scope inner have call args (site_of scope call) (callee_of program (site_of scope call)) refl refl
      (λ first params. flat_args bodies program scope first params 0 args) (λ first params. args_nodes_kept bodies program scope inner have first params 0 args)
  expr_nodes_kept bodies program scope inner have (BuiltinNode which unsigned args) = ap (λ (a : ℕ). a + 1) (args_nodes_kept bodies program scope inner have 0 [] 0 args)
  expr_nodes_kept bodies program scope inner have (ParenNode part) = expr_nodes_kept bodies program scope inner have part

  pub args_nodes_kept : (bodies : Bodies) (program : List FunctionNode) (scope : Scope) (inner : ℕ → ℕ) → CallsMeasure flat_nodes bodies program scope inner → (first : ℕ) (params : List Param) (k : ℕ) (args : ArgNodes)
      → flat_args_nodes (flat_args bodies program scope first params k args) ≡ args_nodes inner args
  args_nodes_kept bodies program scope inner have first params k NoArgs = refl
  args_nodes_kept bodies program scope inner have first params k (ValueArg e more) = alike_two (λ a b. a + b) (expr_nodes_kept bodies program scope inner have e) (args_nodes_kept bodies program scope inner have first params (k + 1) more)
  args_nodes_kept bodies program scope inner have first params k (ArrayArg array more) = ap (λ (a : ℕ). 1 + a) (args_nodes_kept bodies program scope inner have first params (k + 1) more)

pub value_nodes_kept : (bodies : Bodies) (program : List FunctionNode) (scope : Scope) (inner : ℕ → ℕ) → CallsMeasure flat_nodes bodies program scope inner → (value : Option ExprNode)
    → flat_value_nodes (flat_value bodies program scope value) ≡ where_some (nodes inner) value
value_nodes_kept bodies program scope inner have None = refl
value_nodes_kept bodies program scope inner have (Some e) = expr_nodes_kept bodies program scope inner have e

mutual
  pub stmt_nodes_kept : (bodies : Bodies) (program : List FunctionNode) (scope : Scope) (inner : ℕ → ℕ) → CallsMeasure flat_nodes bodies program scope inner → (s : StmtNode)
      → flat_stmt_nodes (flat_stmt bodies program scope s) ≡ stmt_size inner s
  stmt_nodes_kept bodies program scope inner have (DeclareNode variable elem value) = ap (λ (a : ℕ). a + 1) (value_nodes_kept bodies program scope inner have value)
  stmt_nodes_kept bodies program scope inner have (LocalArrayNode array count) = ap (λ (a : ℕ). a + 1) (expr_nodes_kept bodies program scope inner have count)
  stmt_nodes_kept bodies program scope inner have (SetVariableNode variable elem op unsigned value) = ap (λ (a : ℕ). a + 2) (value_nodes_kept bodies program scope inner have value)
  stmt_nodes_kept bodies program scope inner have (SetElementNode array elem place op unsigned value pos) =
      alike_two (λ a b. a + b + 2) (expr_nodes_kept bodies program scope inner have place) (value_nodes_kept bodies program scope inner have value)
  stmt_nodes_kept bodies program scope inner have (CallStmtNode call) = expr_nodes_kept bodies program scope inner have call
  stmt_nodes_kept bodies program scope inner have (BarrierNode site) = refl
  stmt_nodes_kept bodies program scope inner have (IfNode test chosen) = alike_two (λ a b. a + b + 1) (expr_nodes_kept bodies program scope inner have test) (stmt_nodes_kept bodies program scope inner have chosen)
  stmt_nodes_kept bodies program scope inner have (IfElseNode test chosen left_out) =
      alike_three (λ a b c. a + b + c + 1) (expr_nodes_kept bodies program scope inner have test) (stmt_nodes_kept bodies program scope inner have chosen) (stmt_nodes_kept bodies program scope inner have left_out)
  stmt_nodes_kept bodies program scope inner have (WhileNode test body) = alike_two (λ a b. a + b + 1) (expr_nodes_kept bodies program scope inner have test) (stmt_nodes_kept bodies program scope inner have body)
  stmt_nodes_kept bodies program scope inner have (DoNode body test) = alike_two (λ a b. a + b + 1) (stmt_nodes_kept bodies program scope inner have body) (expr_nodes_kept bodies program scope inner have test)
  stmt_nodes_kept bodies program scope inner have (ForNode first test step body) =
      alike_four (λ a b c d. a + b + c + d + 1) (stmts_nodes_kept bodies program scope inner have first) (value_nodes_kept bodies program scope inner have test)
      (stmts_nodes_kept bodies program scope inner have step) (stmt_nodes_kept bodies program scope inner have body)
  stmt_nodes_kept bodies program scope inner have BreakNode = refl
  stmt_nodes_kept bodies program scope inner have ContinueNode = refl
  stmt_nodes_kept bodies program scope inner have (ReturnNode value) = ap (λ (a : ℕ). a + 1) (value_nodes_kept bodies program scope inner have value)
  stmt_nodes_kept bodies program scope inner have (BlockNode items) = stmts_nodes_kept bodies program scope inner have items
  stmt_nodes_kept bodies program scope inner have EmptyNode = refl

  pub stmts_nodes_kept : (bodies : Bodies) (program : List FunctionNode) (scope : Scope) (inner : ℕ → ℕ) → CallsMeasure flat_nodes bodies program scope inner → (ss : StmtNodes)
      → flat_nodes (flat_stmts bodies program scope ss) ≡ stmts_size inner ss
  stmts_nodes_kept bodies program scope inner have NoStmts = refl
  stmts_nodes_kept bodies program scope inner have (AndStmt s ss) = alike_two (λ a b. a + b) (stmt_nodes_kept bodies program scope inner have s) (stmts_nodes_kept bodies program scope inner have ss)
