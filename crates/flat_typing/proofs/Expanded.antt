-- The expansion of a typed body is typed, where what stands at its calls is.
use Rattle.std.proofs.Common.{◌≡◌, refl, subst, ℕ, zero, suc, ◌+◌, false, List, [], ◌∷◌, ◌++◌, slice_get, Option, None, Some, option_map}
use Rattle.ocl_ast.specs.declared.units.Param.{Param}
use Rattle.ocl_program.specs.declared.exprs.Builtin.{Builtin}
use Rattle.ocl_program.specs.declared.exprs.Builtin.TheVariants.{WorkDim, GlobalId, LocalId, GroupId, GlobalSize, LocalSize, NumGroups, GlobalOffset, Min, Max, Clamp, Abs, MulHi}
use Rattle.ocl_program.specs.declared.functions.CallSite.{CallSite}
use Rattle.ocl_program.specs.declared.functions.LocalArray.{LocalArray}
use Rattle.ocl_program.specs.Nodes.{ExprNode, NumberNode, VariableNode, UnaryNode, BinaryNode, BothNode, EitherNode, ChooseNode, CastNode, LoadNode, CallNode, BuiltinNode, ParenNode, ArgNodes, NoArgs, ValueArg, ArrayArg, StmtNode, DeclareNode, LocalArrayNode, SetVariableNode, SetElementNode, CallStmtNode, BarrierNode, IfNode, IfElseNode, WhileNode, DoNode, ForNode, BreakNode, ContinueNode, ReturnNode, BlockNode, EmptyNode, StmtNodes, NoStmts, AndStmt, FunctionNode}
use Rattle.ocl_sem.specs.Source.{Scope, scope_at, site_of, callee_of}
use Rattle.ocl_types.specs.Exprs.{arity}
use Rattle.ocl_inline.specs.declared.trees.Binding.{Binding}
use Rattle.ocl_inline.specs.declared.trees.Binding.TheVariants.{Variable as ToVariable, Dropped}
use Rattle.ocl_inline.specs.Expansion.{Bodies, binding_at, call_flat, flat_expr, flat_args, flat_value, flat_stmt, flat_stmts}
use Rattle.ocl_inline.specs.FlatNumbers.{bound_variables, flat_args_variables, flat_expr_variables, flat_stmt_variables, flat_value_variables, flat_variables}
use Rattle.ocl_inline.specs.Trees.{FlatArgs}
use Rattle.ocl_inline.specs.Proper.{AreValues, IsBound, TypedArgs, TypedExpr, TypedStmt, TypedStmts, TypedValue}
use Rattle.program_laws.specs.Formed.{AreBelow}
use Rattle.flat_typing.specs.Typed.{AreTypedArgs, AreTypedStmts, AreValues as AreValueNodes, Fits, IsCall, IsTypedExpr, IsTypedStmt, IsTypedValue, frame_of, head_of}
use Rattle.flat_typing.proofs.Serving.{Serving, is_read, is_stored}

-- ---- numbers that are below

left : (bound : ℕ) (xs ys : List ℕ) → AreBelow bound (xs ++ ys) → AreBelow bound xs
left bound [] ys h = tt
left bound (x ∷ xs) ys h = (h.0, left bound xs ys h.1)

right : (bound : ℕ) (xs ys : List ℕ) → AreBelow bound (xs ++ ys) → AreBelow bound ys
right bound [] ys h = h
right bound (x ∷ xs) ys h = right bound xs ys h.1

middle : (bound : ℕ) (xs ys zs : List ℕ) → AreBelow bound (xs ++ (ys ++ zs)) → AreBelow bound ys
middle bound xs ys zs h = left bound ys zs (right bound xs (ys ++ zs) h)

last : (bound : ℕ) (xs ys zs : List ℕ) → AreBelow bound (xs ++ (ys ++ zs)) → AreBelow bound zs
last bound xs ys zs h = right bound ys zs (right bound xs (ys ++ zs) h)

third : (bound : ℕ) (xs ys zs ws : List ℕ) → AreBelow bound (xs ++ (ys ++ (zs ++ ws))) → AreBelow bound zs
third bound xs ys zs ws h = middle bound ys zs ws (right bound xs (ys ++ (zs ++ ws)) h)

fourth : (bound : ℕ) (xs ys zs ws : List ℕ) → AreBelow bound (xs ++ (ys ++ (zs ++ ws))) → AreBelow bound ws
fourth bound xs ys zs ws h = last bound ys zs ws (right bound xs (ys ++ (zs ++ ws)) h)

bound_below : (count : ℕ) (binding : Binding) → AreBelow count (bound_variables binding) → IsBound count binding
bound_below count (ToVariable variable elem) h = h.0
bound_below count Dropped h = tt

-- ---- built-in functions

values_flat : (bodies : Bodies) (program : List FunctionNode) (scope : Scope) (first : ℕ) (params : List Param) (k n : ℕ) (args : ArgNodes) → AreValueNodes n args
    → AreValues n (flat_args bodies program scope first params k args)
values_flat bodies program scope first params k zero NoArgs h = tt
values_flat bodies program scope first params k zero (ValueArg e more) h = absurd h
values_flat bodies program scope first params k zero (ArrayArg array more) h = absurd h
values_flat bodies program scope first params k (suc n) NoArgs h = absurd h
values_flat bodies program scope first params k (suc n) (ValueArg e more) h = values_flat bodies program scope first params (k + 1) n more h
values_flat bodies program scope first params k (suc n) (ArrayArg array more) h = absurd h

-- ---- calls

-- what stands at each call of a helper with such arguments is typed
abbrev pub CallsTyped : List Param → List LocalArray → ℕ → Bodies → List FunctionNode → Scope → Type 0
CallsTyped params arrays count bodies program scope =
    (call : ℕ) (args : ArgNodes) (site : CallSite) (callee : FunctionNode) → site_of scope call ≡ Some site → slice_get program site.callee ≡ Some callee → callee.kernel ≡ false
    → Fits (frame_of program scope.function) callee.params args → AreBelow count (flat_variables (bodies (scope_at scope site callee args)))
    → TypedStmts params arrays count (bodies (scope_at scope site callee args))

-- what the walk along a body stands on
pub record Walk (params : List Param) (arrays : List LocalArray) (count : ℕ) (bodies : Bodies) (program : List FunctionNode) (scope : Scope) : Type 0 where
  pub serving : Serving params arrays (frame_of program scope.function) scope
  pub calls : CallsTyped params arrays count bodies program scope

call_typed : (params : List Param) (arrays : List LocalArray) (count : ℕ) (bodies : Bodies) (program : List FunctionNode) (scope : Scope) → Walk params arrays count bodies program scope → (call : ℕ) (args : ArgNodes)
    (site : Option CallSite) (callee : Option FunctionNode) → site_of scope call ≡ site → callee_of program site ≡ callee → IsCall (frame_of program scope.function) (option_map head_of callee) args
    → (bound : ℕ → List Param → FlatArgs) → ((first : ℕ) (taking : List Param) → AreBelow count (flat_args_variables (bound first taking)) → TypedArgs params arrays count (bound first taking))
    → AreBelow count (flat_expr_variables (call_flat bodies scope site callee args bound)) → TypedExpr params arrays count (call_flat bodies scope site callee args bound)
call_typed params arrays count bodies program scope walk call args None callee e e' is bound typed below = tt
call_typed params arrays count bodies program scope walk call args (Some site) None e e' is bound typed below = tt
call_typed params arrays count bodies program scope walk call args (Some site) (Some callee) e e' is bound typed below =
    let inside : Scope = scope_at scope site callee args in (
      typed inside.variables callee.params (left count (flat_args_variables (bound inside.variables callee.params)) (flat_variables (bodies inside)) below),
      walk.calls call args site callee e e' is.0 is.1 (right count (flat_args_variables (bound inside.variables callee.params)) (flat_variables (bodies inside)) below),
    )

-- ---- expressions and statements

mutual
  pub expr_expanded : (params : List Param) (arrays : List LocalArray) (count : ℕ) (bodies : Bodies) (program : List FunctionNode) (scope : Scope) → Walk params arrays count bodies program scope → (e : ExprNode)
      → IsTypedExpr (frame_of program scope.function) e → AreBelow count (flat_expr_variables (flat_expr bodies program scope e)) → TypedExpr params arrays count (flat_expr bodies program scope e)
  expr_expanded params arrays count bodies program scope walk (NumberNode value unsigned) typed below = tt
  expr_expanded params arrays count bodies program scope walk (VariableNode variable elem) typed below = below.0
  expr_expanded params arrays count bodies program scope walk (UnaryNode op part) typed below = expr_expanded params arrays count bodies program scope walk part typed below
  expr_expanded params arrays count bodies program scope walk (BinaryNode op unsigned one other) typed below =
      (expr_expanded params arrays count bodies program scope walk one typed.0 (left count _ _ below), expr_expanded params arrays count bodies program scope walk other typed.1 (right count _ _ below))
  expr_expanded params arrays count bodies program scope walk (BothNode one other) typed below =
      (expr_expanded params arrays count bodies program scope walk one typed.0 (left count _ _ below), expr_expanded params arrays count bodies program scope walk other typed.1 (right count _ _ below))
  expr_expanded params arrays count bodies program scope walk (EitherNode one other) typed below =
      (expr_expanded params arrays count bodies program scope walk one typed.0 (left count _ _ below), expr_expanded params arrays count bodies program scope walk other typed.1 (right count _ _ below))
  expr_expanded params arrays count bodies program scope walk (ChooseNode unsigned test one other) typed below = (
    expr_expanded params arrays count bodies program scope walk test typed.0 (left count _ _ below),
    expr_expanded params arrays count bodies program scope walk one typed.1 (middle count _ _ _ below),
    expr_expanded params arrays count bodies program scope walk other typed.2 (last count _ _ _ below),
  )
  expr_expanded params arrays count bodies program scope walk (CastNode elem part) typed below = expr_expanded params arrays count bodies program scope walk part typed below
  expr_expanded params arrays count bodies program scope walk (LoadNode array elem place pos) typed below =
      (is_read params arrays (frame_of program scope.function) scope walk.serving array elem typed.0, expr_expanded params arrays count bodies program scope walk place typed.1 below)
  expr_expanded params arrays count bodies program scope walk (CallNode call args) typed below =
      call_typed params arrays count bodies program scope walk call args (site_of scope call) (callee_of program (site_of scope call)) refl refl typed.0
      (λ first taking. flat_args bodies program scope first taking 0 args) (λ first taking below'. args_expanded params arrays count bodies program scope walk first taking 0 args typed.1 below') below
  expr_expanded params arrays count bodies program scope walk (BuiltinNode which unsigned args) typed below = (
    values_flat bodies program scope 0 [] 0 (arity which) args typed.0,
    args_expanded params arrays count bodies program scope walk 0 [] 0 args typed.1 below,
  )
  expr_expanded params arrays count bodies program scope walk (ParenNode part) typed below = expr_expanded params arrays count bodies program scope walk part typed below

  args_expanded : (params : List Param) (arrays : List LocalArray) (count : ℕ) (bodies : Bodies) (program : List FunctionNode) (scope : Scope) → Walk params arrays count bodies program scope → (first : ℕ) (taking : List Param) (k : ℕ) (args : ArgNodes)
      → AreTypedArgs (frame_of program scope.function) args → AreBelow count (flat_args_variables (flat_args bodies program scope first taking k args)) → TypedArgs params arrays count (flat_args bodies program scope first taking k args)
  args_expanded params arrays count bodies program scope walk first taking k NoArgs typed below = tt
  args_expanded params arrays count bodies program scope walk first taking k (ValueArg e more) typed below = (
    expr_expanded params arrays count bodies program scope walk e typed.0 (left count _ _ below),
    bound_below count (binding_at first taking k) (middle count _ _ _ below),
    args_expanded params arrays count bodies program scope walk first taking (k + 1) more typed.1 (last count _ _ _ below),
  )
  args_expanded params arrays count bodies program scope walk first taking k (ArrayArg array more) typed below = args_expanded params arrays count bodies program scope walk first taking (k + 1) more typed below

value_expanded : (params : List Param) (arrays : List LocalArray) (count : ℕ) (bodies : Bodies) (program : List FunctionNode) (scope : Scope) → Walk params arrays count bodies program scope → (value : Option ExprNode)
    → IsTypedValue (frame_of program scope.function) value → AreBelow count (flat_value_variables (flat_value bodies program scope value)) → TypedValue params arrays count (flat_value bodies program scope value)
value_expanded params arrays count bodies program scope walk None typed below = tt
value_expanded params arrays count bodies program scope walk (Some e) typed below = expr_expanded params arrays count bodies program scope walk e typed below

mutual
  stmt_expanded : (params : List Param) (arrays : List LocalArray) (count : ℕ) (bodies : Bodies) (program : List FunctionNode) (scope : Scope) → Walk params arrays count bodies program scope → (s : StmtNode)
      → IsTypedStmt (frame_of program scope.function) s → AreBelow count (flat_stmt_variables (flat_stmt bodies program scope s)) → TypedStmt params arrays count (flat_stmt bodies program scope s)
  stmt_expanded params arrays count bodies program scope walk (DeclareNode variable elem value) typed below = (below.0, value_expanded params arrays count bodies program scope walk value typed below.1)
  stmt_expanded params arrays count bodies program scope walk (LocalArrayNode array size) typed below = tt
  stmt_expanded params arrays count bodies program scope walk (SetVariableNode variable elem op unsigned value) typed below = (below.0, value_expanded params arrays count bodies program scope walk value typed below.1)
  stmt_expanded params arrays count bodies program scope walk (SetElementNode array elem place op unsigned value pos) typed below = (
    is_read params arrays (frame_of program scope.function) scope walk.serving array elem typed.0,
    is_stored params arrays (frame_of program scope.function) scope walk.serving array typed.1,
    expr_expanded params arrays count bodies program scope walk place typed.2 (left count _ _ below),
    value_expanded params arrays count bodies program scope walk value typed.3 (right count _ _ below),
  )
  stmt_expanded params arrays count bodies program scope walk (CallStmtNode call) typed below = expr_expanded params arrays count bodies program scope walk call typed below
  stmt_expanded params arrays count bodies program scope walk (BarrierNode site) typed below = tt
  stmt_expanded params arrays count bodies program scope walk (IfNode test one) typed below =
      (expr_expanded params arrays count bodies program scope walk test typed.0 (left count _ _ below), stmt_expanded params arrays count bodies program scope walk one typed.1 (right count _ _ below))
  stmt_expanded params arrays count bodies program scope walk (IfElseNode test one other) typed below = (
    expr_expanded params arrays count bodies program scope walk test typed.0 (left count _ _ below),
    stmt_expanded params arrays count bodies program scope walk one typed.1 (middle count _ _ _ below),
    stmt_expanded params arrays count bodies program scope walk other typed.2 (last count _ _ _ below),
  )
  stmt_expanded params arrays count bodies program scope walk (WhileNode test body) typed below =
      (expr_expanded params arrays count bodies program scope walk test typed.0 (left count _ _ below), stmt_expanded params arrays count bodies program scope walk body typed.1 (right count _ _ below))
  stmt_expanded params arrays count bodies program scope walk (DoNode body test) typed below =
      (stmt_expanded params arrays count bodies program scope walk body typed.0 (left count _ _ below), expr_expanded params arrays count bodies program scope walk test typed.1 (right count _ _ below))
  stmt_expanded params arrays count bodies program scope walk (ForNode first test step body) typed below = (
    stmts_expanded params arrays count bodies program scope walk first typed.0 (left count _ _ below),
    value_expanded params arrays count bodies program scope walk test typed.1 (middle count _ _ _ below),
    stmts_expanded params arrays count bodies program scope walk step typed.2 (third count _ _ _ _ below),
    stmt_expanded params arrays count bodies program scope walk body typed.3
        (fourth count (flat_variables (flat_stmts bodies program scope first)) (flat_value_variables (flat_value bodies program scope test)) (flat_variables (flat_stmts bodies program scope step)) _ below),
  )
  stmt_expanded params arrays count bodies program scope walk BreakNode typed below = tt
  stmt_expanded params arrays count bodies program scope walk ContinueNode typed below = tt
  stmt_expanded params arrays count bodies program scope walk (ReturnNode value) typed below = value_expanded params arrays count bodies program scope walk value typed below
  stmt_expanded params arrays count bodies program scope walk (BlockNode items) typed below = stmts_expanded params arrays count bodies program scope walk items typed below
  stmt_expanded params arrays count bodies program scope walk EmptyNode typed below = tt

  pub stmts_expanded : (params : List Param) (arrays : List LocalArray) (count : ℕ) (bodies : Bodies) (program : List FunctionNode) (scope : Scope) → Walk params arrays count bodies program scope → (ss : StmtNodes)
      → AreTypedStmts (frame_of program scope.function) ss → AreBelow count (flat_variables (flat_stmts bodies program scope ss)) → TypedStmts params arrays count (flat_stmts bodies program scope ss)
  stmts_expanded params arrays count bodies program scope walk NoStmts typed below = tt
  stmts_expanded params arrays count bodies program scope walk (AndStmt s ss) typed below =
      (stmt_expanded params arrays count bodies program scope walk s typed.0 (left count _ _ below), stmts_expanded params arrays count bodies program scope walk ss typed.1 (right count _ _ below))
