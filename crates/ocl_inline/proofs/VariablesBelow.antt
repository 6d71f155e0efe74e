-- The variables of a flat tree are below a bound, where those of its function and of its calls are.
use Rattle.std.proofs.Common.{◌≡◌, refl, ℕ, ◌+◌, ◌<◌, List, [], ◌∷◌, ◌++◌, slice_get, Option, None, Some}
use Rattle.ocl_ast.specs.declared.units.Param.{Param}
use Rattle.ocl_program.specs.declared.functions.CallSite.{CallSite}
use Rattle.ocl_program.specs.Nodes.{ExprNode, NumberNode, VariableNode, UnaryNode, BinaryNode, BothNode, EitherNode, ChooseNode, CastNode, LoadNode, CallNode, BuiltinNode, ParenNode, ArgNodes, NoArgs, ValueArg, ArrayArg, StmtNode, DeclareNode, LocalArrayNode, SetVariableNode, SetElementNode, CallStmtNode, BarrierNode, IfNode, IfElseNode, WhileNode, DoNode, ForNode, BreakNode, ContinueNode, ReturnNode, BlockNode, EmptyNode, StmtNodes, NoStmts, AndStmt, FunctionNode}
use Rattle.ocl_sem.specs.Source.{Scope, scope_at, site_of, callee_of, variable_in}
use Rattle.ocl_inline.specs.Expansion.{Bodies, binding_at, call_flat, flat_expr, flat_args, flat_value, flat_stmt, flat_stmts}
use Rattle.ocl_inline.specs.FlatNumbers.{bound_variables, flat_args_variables, flat_expr_variables, flat_stmt_variables, flat_value_variables, flat_variables}
use Rattle.program_laws.specs.Formed.{AreBelow, args_variables, expr_variables, stmt_variables, stmts_variables, where_written}
use Rattle.ocl_inline.specs.Trees.{FlatArgs}

-- where some numbers are below one bound, others are below another
pub Moves : ℕ → ℕ → List ℕ → List ℕ → Type 0
Moves from to numbers others = AreBelow from numbers → AreBelow to others

pub moves_fact : (from to : ℕ) (numbers others : List ℕ) → Moves from to numbers others → AreBelow from numbers → AreBelow to others
unfolding Moves
moves_fact from to numbers others moves h = moves h

below_left : (bound : ℕ) (xs ys : List ℕ) → AreBelow bound (xs ++ ys) → AreBelow bound xs
below_left bound [] ys h = tt
below_left bound (x ∷ xs) ys h = (h.0, below_left bound xs ys h.1)

below_right : (bound : ℕ) (xs ys : List ℕ) → AreBelow bound (xs ++ ys) → AreBelow bound ys
below_right bound [] ys h = h
below_right bound (x ∷ xs) ys h = below_right bound xs ys h.1

below_append : (bound : ℕ) (xs ys : List ℕ) → AreBelow bound xs → AreBelow bound ys → AreBelow bound (xs ++ ys)
below_append bound [] ys h h' = h'
below_append bound (x ∷ xs) ys h h' = (h.0, below_append bound xs ys h.1 h')

nothing : (from to : ℕ) → Moves from to [] []
unfolding Moves
nothing from to h = tt

both : (from to : ℕ) (xs ys others others' : List ℕ) → Moves from to xs others → Moves from to ys others' → Moves from to (xs ++ ys) (others ++ others')
unfolding Moves
both from to xs ys others others' moves moves' h =
    below_append to others others' (moves (below_left from xs ys h)) (moves' (below_right from xs ys h))

-- behind what has no place in the source
with_these : (from to : ℕ) (xs these others : List ℕ) → AreBelow to these → Moves from to xs others → Moves from to xs (these ++ others)
unfolding Moves
with_these from to xs these others below moves h = below_append to these others below (moves h)

and_these : (from to : ℕ) (xs these others : List ℕ) → AreBelow to these → Moves from to xs others → Moves from to xs (others ++ these)
unfolding Moves
and_these from to xs these others below moves h = below_append to others these (moves h) below

one_more : (from to k n : ℕ) (xs others : List ℕ) → (k < from → n < to) → Moves from to xs others → Moves from to (k ∷ xs) (n ∷ others)
unfolding Moves
one_more from to k n xs others below moves h = (below h.0, moves h.1)

-- a function's own variables are below the bound
abbrev pub OwnBelow : ℕ → ℕ → Scope → Type 0
OwnBelow from to scope = (k : ℕ) → k < from → variable_in scope k < to

-- and so are the variables that arguments go into
abbrev pub BoundBelow : ℕ → ℕ → List Param → Type 0
BoundBelow to first params = (k : ℕ) → AreBelow to (bound_variables (binding_at first params k))

-- what stands at each call has variables below the bound only
abbrev pub CallsBelow : ℕ → Bodies → List FunctionNode → Scope → Type 0
CallsBelow to bodies program scope =
    (call : ℕ) (args : ArgNodes) (site : CallSite) (callee : FunctionNode) → site_of scope call ≡ Some site → slice_get program site.callee ≡ Some callee
    → AreBelow to (flat_variables (bodies (scope_at scope site callee args))) × BoundBelow to (scope_at scope site callee args).variables callee.params

none_bound : (to first : ℕ) → BoundBelow to first []
none_bound to first k = tt

call_below : (from to : ℕ) (bodies : Bodies) (program : List FunctionNode) (scope : Scope) → CallsBelow to bodies program scope → (call : ℕ) (args : ArgNodes)
    (site : Option CallSite) (callee : Option FunctionNode) → site_of scope call ≡ site → callee_of program site ≡ callee
    → (bound : ℕ → List Param → FlatArgs) → ((first : ℕ) (params : List Param) → BoundBelow to first params → Moves from to (args_variables args) (flat_args_variables (bound first params)))
    → Moves from to (args_variables args) (flat_expr_variables (call_flat bodies scope site callee args bound))
call_below from to bodies program scope below call args None callee e e' bound moves = moves 0 [] (none_bound to 0)
call_below from to bodies program scope below call args (Some site) None e e' bound moves = moves 0 [] (none_bound to 0)
call_below from to bodies program scope below call args (Some site) (Some callee) e e' bound moves =
    let inner : Scope = scope_at scope site callee args in
    let h = below call args site callee e e' in
    and_these from to (args_variables args) (flat_variables (bodies inner)) (flat_args_variables (bound inner.variables callee.params)) h.0 (moves inner.variables callee.params h.1)

mutual
  pub expr_below : (from to : ℕ) (bodies : Bodies) (program : List FunctionNode) (scope : Scope) → OwnBelow from to scope → CallsBelow to bodies program scope → (e : ExprNode)
      → Moves from to (expr_variables e) (flat_expr_variables (flat_expr bodies program scope e))
  expr_below from to bodies program scope own below (NumberNode value unsigned) = nothing from to
  expr_below from to bodies program scope own below (VariableNode variable elem) = one_more from to variable (variable_in scope variable) [] [] (own variable) (nothing from to)
  expr_below from to bodies program scope own below (UnaryNode op part) = expr_below from to bodies program scope own below part
  expr_below from to bodies program scope own below (BinaryNode op unsigned left right) = both from to _ _ _ _ (expr_below from to bodies program scope own below left) (expr_below from to bodies program scope own below right)
  expr_below from to bodies program scope own below (BothNode left right) = both from to _ _ _ _ (expr_below from to bodies program scope own below left) (expr_below from to bodies program scope own below right)
  expr_below from to bodies program scope own below (EitherNode left right) = both from to _ _ _ _ (expr_below from to bodies program scope own below left) (expr_below from to bodies program scope own below right)
  expr_below from to bodies program scope own below (ChooseNode unsigned test chosen left_out) = both from to _ _ _ _ (expr_below from to bodies program scope own below test) (both from to _ _ _ _ (expr_below from to bodies program scope own below chosen) (expr_below from to bodies program scope own below left_out))
  expr_below from to bodies program scope own below (CastNode elem part) = expr_below from to bodies program scope own below part
  expr_below from to bodies program scope own below (LoadNode array elem place pos) = expr_below from to bodies program scope own below place
  expr_below from to bodies program scope own below (CallNode call args) =
      call_below from to bodies program scope below call args (site_of scope call) (callee_of program (site_of scope call)) refl refl
      (λ first params. flat_args bodies program scope first params 0 args) (λ first params bound. args_below from to bodies program scope own below first params bound 0 args)
  expr_below from to bodies program scope own below (BuiltinNode which unsigned args) = args_below from to bodies program scope own below 0 [] (none_bound to 0) 0 args
  expr_below from to bodies program scope own below (ParenNode part) = expr_below from to bodies program scope own below part

  pub args_below : (from to : ℕ) (bodies : Bodies) (program : List FunctionNode) (scope : Scope) → OwnBelow from to scope → CallsBelow to bodies program scope → (first : ℕ) (params : List Param) → BoundBelow to first params → (k : ℕ) (args : ArgNodes)
      → Moves from to (args_variables args) (flat_args_variables (flat_args bodies program scope first params k args))
  args_below from to bodies program scope own below first params bound k NoArgs = nothing from to
  args_below from to bodies program scope own below first params bound k (ValueArg e more) =
      both from to _ _ _ _ (expr_below from to bodies program scope own below e) (with_these from to _ _ _ (bound k) (args_below from to bodies program scope own below first params bound (k + 1) more))
  args_below from to bodies program scope own below first params bound k (ArrayArg array more) = args_below from to bodies program scope own below first params bound (k + 1) more

pub value_below : (from to : ℕ) (bodies : Bodies) (program : List FunctionNode) (scope : Scope) → OwnBelow from to scope → CallsBelow to bodies program scope → (value : Option ExprNode)
    → Moves from to (where_written expr_variables value) (flat_value_variables (flat_value bodies program scope value))
value_below from to bodies program scope own below None = nothing from to
value_below from to bodies program scope own below (Some e) = expr_below from to bodies program scope own below e

mutual
  pub stmt_below : (from to : ℕ) (bodies : Bodies) (program : List FunctionNode) (scope : Scope) → OwnBelow from to scope → CallsBelow to bodies program scope → (s : StmtNode)
      → Moves from to (stmt_variables s) (flat_stmt_variables (flat_stmt bodies program scope s))
  stmt_below from to bodies program scope own below (DeclareNode variable elem value) = one_more from to variable (variable_in scope variable) _ _ (own variable) (value_below from to bodies program scope own below value)
  stmt_below from to bodies program scope own below (LocalArrayNode array count) = expr_below from to bodies program scope own below count
  stmt_below from to bodies program scope own below (SetVariableNode variable elem op unsigned value) = one_more from to variable (variable_in scope variable) _ _ (own variable) (value_below from to bodies program scope own below value)
  stmt_below from to bodies program scope own below (SetElementNode array elem place op unsigned value pos) = both from to _ _ _ _ (expr_below from to bodies program scope own below place) (value_below from to bodies program scope own below value)
  stmt_below from to bodies program scope own below (CallStmtNode call) = expr_below from to bodies program scope own below call
  stmt_below from to bodies program scope own below (BarrierNode site) = nothing from to
  stmt_below from to bodies program scope own below (IfNode test chosen) = both from to _ _ _ _ (expr_below from to bodies program scope own below test) (stmt_below from to bodies program scope own below chosen)
  stmt_below from to bodies program scope own below (IfElseNode test chosen left_out) = both from to _ _ _ _ (expr_below from to bodies program scope own below test) (both from to _ _ _ _ (stmt_below from to bodies program scope own below chosen) (stmt_below from to bodies program scope own below left_out))
  stmt_below from to bodies program scope own below (WhileNode test body) = both from to _ _ _ _ (expr_below from to bodies program scope own below test) (stmt_below from to bodies program scope own below body)
  stmt_below from to bodies program scope own below (DoNode body test) = both from to _ _ _ _ (stmt_below from to bodies program scope own below body) (expr_below from to bodies program scope own below test)
  stmt_below from to bodies program scope own below (ForNode first test step body) =
      both from to _ _ _ _ (stmts_below from to bodies program scope own below first) (
      both from to _ _ _ _ (value_below from to bodies program scope own below test) (both from to _ _ _ _ (stmts_below from to bodies program scope own below step) (stmt_below from to bodies program scope own below body)))
  stmt_below from to bodies program scope own below BreakNode = nothing from to
  stmt_below from to bodies program scope own below ContinueNode = nothing from to
  stmt_below from to bodies program scope own below (ReturnNode value) = value_below from to bodies program scope own below value
  stmt_below from to bodies program scope own below (BlockNode items) = stmts_below from to bodies program scope own below items
  stmt_below from to bodies program scope own below EmptyNode = nothing from to

  pub stmts_below : (from to : ℕ) (bodies : Bodies) (program : List FunctionNode) (scope : Scope) → OwnBelow from to scope → CallsBelow to bodies program scope → (ss : StmtNodes)
      → Moves from to (stmts_variables ss) (flat_variables (flat_stmts bodies program scope ss))
  stmts_below from to bodies program scope own below NoStmts = nothing from to
  stmts_below from to bodies program scope own below (AndStmt s ss) = both from to _ _ _ _ (stmt_below from to bodies program scope own below s) (stmts_below from to bodies program scope own below ss)
