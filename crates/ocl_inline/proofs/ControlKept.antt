-- The depth of control of a flat tree is that of its source with its calls expanded.
use Rattle.std.proofs.Common.{◌≡◌, refl, ℕ, ◌+◌, max, List, [], Option, None, Some, arith}
use Rattle.ocl_ast.specs.declared.units.Param.{Param}
use Rattle.ocl_program.specs.declared.functions.CallSite.{CallSite}
use Rattle.ocl_program.specs.Measures.{args_control, control, stmt_control, stmts_control, where_some}
use Rattle.ocl_program.specs.Nodes.{ExprNode, NumberNode, VariableNode, UnaryNode, BinaryNode, BothNode, EitherNode, ChooseNode, CastNode, LoadNode, CallNode, BuiltinNode, ParenNode, ArgNodes, NoArgs, ValueArg, ArrayArg, StmtNode, DeclareNode, LocalArrayNode, SetVariableNode, SetElementNode, CallStmtNode, BarrierNode, IfNode, IfElseNode, WhileNode, DoNode, ForNode, BreakNode, ContinueNode, ReturnNode, BlockNode, EmptyNode, StmtNodes, NoStmts, AndStmt, FunctionNode}
use Rattle.ocl_sem.specs.Source.{Scope, scope_at, site_of, callee_of}
use Rattle.ocl_inline.specs.Expansion.{Bodies, call_flat, flat_expr, flat_args, flat_value, flat_stmt, flat_stmts}
use Rattle.ocl_inline.specs.FlatMeasures.{flat_args_control, flat_control, flat_expr_control, flat_stmt_control, flat_value_control}
use Rattle.ocl_inline.specs.Trees.{FlatArgs}
use Rattle.ocl_inline.proofs.CallMeasures.{CallsMeasure, alike_two, alike_three, alike_four}

call_control_kept : (bodies : Bodies) (program : List FunctionNode) (scope : Scope) (inner : ℕ → ℕ) → CallsMeasure flat_control bodies program scope inner → (call : ℕ) (args : ArgNodes)
    (site : Option CallSite) (callee : Option FunctionNode) → site_of scope call ≡ site → callee_of program site ≡ callee
    → (bound : ℕ → List Param → FlatArgs) → ((first : ℕ) (params : List Param) → flat_args_control (bound first params) ≡ args_control inner args)
    → flat_expr_control (call_flat bodies scope site callee args bound) ≡ control inner (CallNode call args)
call_control_kept bodies program scope inner have call args None callee e e' bound same =
    let none : inner call ≡ 0 = have.no_site call e in
    let h : flat_args_control (bound 0 []) ≡ args_control inner args = same 0 [] in
    omega arith
call_control_kept bodies program scope inner have call args (Some site) None e e' bound same =
    let none : inner call ≡ 0 = have.no_callee call site e e' in
    let h : flat_args_control (bound 0 []) ≡ args_control inner args = same 0 [] in
    omega arith
call_control_kept bodies program scope inner have call args (Some site) (Some callee) e e' bound same =
    alike_two (λ a b. max a b) (same (scope_at scope site callee args).variables callee.params) (have.body call args site callee e e')

mutual
  pub expr_control_kept : (bodies : Bodies) (program : List FunctionNode) (scope : Scope) (inner : ℕ → ℕ) → CallsMeasure flat_control bodies program scope inner → (e : ExprNode)
      → flat_expr_control (flat_expr bodies program scope e) ≡ control inner e
  expr_control_kept bodies program scope inner have (NumberNode value unsigned) = refl
  expr_control_kept bodies program scope inner have (VariableNode variable elem) = refl
  expr_control_kept bodies program scope inner have (UnaryNode op part) = expr_control_kept bodies program scope inner have part
  expr_control_kept bodies program scope inner have (BinaryNode op unsigned left right) = alike_two (λ a b. max a b) (expr_control_kept bodies program scope inner have left) (expr_control_kept bodies program scope inner have right)
  expr_control_kept bodies program scope inner have (BothNode left right) = alike_two (λ a b. max a (b + 1)) (expr_control_kept bodies program scope inner have left) (expr_control_kept bodies program scope inner have right)
  expr_control_kept bodies program scope inner have (EitherNode left right) = alike_two (λ a b. max a (b + 1)) (expr_control_kept bodies program scope inner have left) (expr_control_kept bodies program scope inner have right)
  expr_control_kept bodies program scope inner have (ChooseNode unsigned test chosen left_out) =
      alike_three (λ a b c. max a (max b c + 1)) (expr_control_kept bodies program scope inner have test) (expr_control_kept bodies program scope inner have chosen) (expr_control_kept bodies program scope inner have left_out)
  expr_control_kept bodies program scope inner have (CastNode elem part) = expr_control_kept bodies program scope inner have part
  expr_control_kept bodies program scope inner have (LoadNode array elem place pos) = expr_control_kept bodies program scope inner have place
  expr_control_kept bodies program scope inner have (CallNode call args) =
      call_control_kept bodies program scope inner have call args (site_of scope call) (callee_of program (site_of scope call)) refl refl
      (λ first params. flat_args bodies program scope first params 0 args) (λ first params. args_control_kept bodies program scope inner have first params 0 args)
  expr_control_kept bodies program scope inner have (BuiltinNode which unsigned args) = args_control_kept bodies program scope inner have 0 [] 0 args
  expr_control_kept bodies program scope inner have (ParenNode part) = expr_control_kept bodies program scope inner have part

  pub args_control_kept : (bodies : Bodies) (program : List FunctionNode) (scope : Scope) (inner : ℕ → ℕ) → CallsMeasure flat_control bodies program scope inner → (first : ℕ) (params : List Param) (k : ℕ) (args : ArgNodes)
      → flat_args_control (flat_args bodies program scope first params k args) ≡ args_control inner args
  args_control_kept bodies program scope inner have first params k NoArgs = refl
  args_control_kept bodies program scope inner have first params k (ValueArg e more) = alike_two (λ a b. max a b) (expr_control_kept bodies program scope inner have e) (args_control_kept bodies program scope inner have first params (k + 1) more)
  args_control_kept bodies program scope inner have first params k (ArrayArg array more) = args_control_kept bodies program scope inner have first params (k + 1) more

pub value_control_kept : (bodies : Bodies) (program : List FunctionNode) (scope : Scope) (inner : ℕ → ℕ) → CallsMeasure flat_control bodies program scope inner → (value : Option ExprNode)
    → flat_value_control (flat_value bodies program scope value) ≡ where_some (control inner) value
value_control_kept bodies program scope inner have None = refl
value_control_kept bodies program scope inner have (Some e) = expr_control_kept bodies program scope inner have e

mutual
  pub stmt_control_kept : (bodies : Bodies) (program : List FunctionNode) (scope : Scope) (inner : ℕ → ℕ) → CallsMeasure flat_control bodies program scope inner → (s : StmtNode)
      → flat_stmt_control (flat_stmt bodies program scope s) ≡ stmt_control inner s
  stmt_control_kept bodies program scope inner have (DeclareNode variable elem value) = value_control_kept bodies program scope inner have value
  stmt_control_kept bodies program scope inner have (LocalArrayNode array count) = expr_control_kept bodies program scope inner have count
  stmt_control_kept bodies program scope inner have (SetVariableNode variable elem op unsigned value) = value_control_kept bodies program scope inner have value
  stmt_control_kept bodies program scope inner have (SetElementNode array elem place op unsigned value pos) =
      alike_two (λ a b. max a b) (expr_control_kept bodies program scope inner have place) (value_control_kept bodies program scope inner have value)
  stmt_control_kept bodies program scope inner have (CallStmtNode call) = expr_control_kept bodies program scope inner have call
  stmt_control_kept bodies program scope inner have (BarrierNode site) = refl
  stmt_control_kept bodies program scope inner have (IfNode test chosen) = alike_two (λ a b. max a (b + 1)) (expr_control_kept bodies program scope inner have test) (stmt_control_kept bodies program scope inner have chosen)
  stmt_control_kept bodies program scope inner have (IfElseNode test chosen left_out) =
      alike_three (λ a b c. max a (max b c + 1)) (expr_control_kept bodies program scope inner have test) (stmt_control_kept bodies program scope inner have chosen) (stmt_control_kept bodies program scope inner have left_out)
  stmt_control_kept bodies program scope inner have (WhileNode test body) = alike_two (λ a b. max a b + 1) (expr_control_kept bodies program scope inner have test) (stmt_control_kept bodies program scope inner have body)
  stmt_control_kept bodies program scope inner have (DoNode body test) = alike_two (λ a b. max a b + 1) (stmt_control_kept bodies program scope inner have body) (expr_control_kept bodies program scope inner have test)
  stmt_control_kept bodies program scope inner have (ForNode first test step body) =
      alike_four (λ a b c d. max a (max b (max c d) + 1)) (stmts_control_kept bodies program scope inner have first) (value_control_kept bodies program scope inner have test)
      (stmts_control_kept bodies program scope inner have step) (stmt_control_kept bodies program scope inner have body)
  stmt_control_kept bodies program scope inner have BreakNode = refl
  stmt_control_kept bodies program scope inner have ContinueNode = refl
  stmt_control_kept bodies program scope inner have (ReturnNode value) = value_control_kept bodies program scope inner have value
  stmt_control_kept bodies program scope inner have (BlockNode items) = stmts_control_kept bodies program scope inner have items
  stmt_control_kept bodies program scope inner have EmptyNode = refl

  pub stmts_control_kept : (bodies : Bodies) (program : List FunctionNode) (scope : Scope) (inner : ℕ → ℕ) → CallsMeasure flat_control bodies program scope inner → (ss : StmtNodes)
      → flat_control (flat_stmts bodies program scope ss) ≡ stmts_control inner ss
  stmts_control_kept bodies program scope inner have NoStmts = refl
  stmts_control_kept bodies program scope inner have (AndStmt s ss) = alike_two (λ a b. max a b) (stmt_control_kept bodies program scope inner have s) (stmts_control_kept bodies program scope inner have ss)
