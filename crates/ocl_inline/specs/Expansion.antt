-- The kernel with its calls expanded: what stands at a call is the body of the function that it leads to, with the numbers that
-- the call gives it.
use Rattle.std.specs.Prelude.{ℕ, zero, suc, ◌+◌, count_by, take, slice_get, List, [], length, Option, None, Some}
use Rattle.vx_base.specs.declared.types.ParamKind.{ParamKind}
use Rattle.vx_base.specs.declared.types.ParamKind.TheVariants.{Scalar, Pointer}
use Rattle.ocl_ast.specs.declared.units.Param.{Param}
use Rattle.ocl_program.specs.declared.functions.CallSite.{CallSite}
use Rattle.ocl_program.specs.Measures.{cut, measured, own_variables, own_sites}
use Rattle.ocl_program.specs.Nodes.{ExprNode, NumberNode, VariableNode, UnaryNode, BinaryNode, BothNode, EitherNode, ChooseNode, CastNode, LoadNode, CallNode, BuiltinNode, ParenNode, ArgNodes, NoArgs, ValueArg, ArrayArg, StmtNode, DeclareNode, LocalArrayNode, SetVariableNode, SetElementNode, CallStmtNode, BarrierNode, IfNode, IfElseNode, WhileNode, DoNode, ForNode, BreakNode, ContinueNode, ReturnNode, BlockNode, EmptyNode, StmtNodes, NoStmts, AndStmt, FunctionNode}
use Rattle.ocl_sem.specs.Items.{kernel_scope}
use Rattle.ocl_sem.specs.Source.{Scope, variable_in, site_in, array_in, scope_at, is_scalar, site_of, callee_of}
use Rattle.ocl_inline.specs.declared.trees.Binding.{Binding}
use Rattle.ocl_inline.specs.declared.trees.Binding.TheVariants.{Variable as ToVariable, Dropped}
use Rattle.ocl_inline.specs.Trees.{FlatValue, NoFlat, SomeFlat, FlatExpr, NumberFlat, VariableFlat, UnaryFlat, BinaryFlat, BothFlat, EitherFlat, ChooseFlat, CastFlat, LoadFlat, CallFlat, LostFlat, BuiltinFlat, ParenFlat, FlatArgs, NoFlatArgs, NumberArg, NamedArg, FlatStmt, DeclareFlat, LocalArrayFlat, SetVariableFlat, SetElementFlat, CallStmtFlat, BarrierFlat, IfFlat, IfElseFlat, WhileFlat, DoFlat, ForFlat, BreakFlat, ContinueFlat, ReturnFlat, BlockFlat, EmptyFlat, FlatStmts, NoFlats, AndFlat, FlatKernel}

-- what a call of each function is expanded to
abbrev pub Bodies : Type 0
Bodies = Scope → FlatStmts

-- what is done with an argument for a parameter of this kind, whose variable is given
abbrev pub binding_as : ℕ → ParamKind → Binding
binding_as variable (Scalar elem) = ToVariable variable elem
binding_as variable (Pointer space elem readonly) = Dropped

abbrev pub binding_by : ℕ → Option Param → Binding
binding_by variable None = Dropped
binding_by variable (Some param) = binding_as variable param.kind

-- what is done with argument k: the scalar parameters are variables in order, of which the first is given
abbrev pub binding_at : ℕ → List Param → ℕ → Binding
binding_at first params k = binding_by (cut (first + count_by is_scalar (take k params))) (slice_get params k)

-- the call of a function, or one that leads to none
abbrev pub call_flat : Bodies → Scope → Option CallSite → Option FunctionNode → ArgNodes → (ℕ → List Param → FlatArgs) → FlatExpr
call_flat bodies scope (Some site) (Some callee) args bound =
    CallFlat (bound (scope_at scope site callee args).variables callee.params) (bodies (scope_at scope site callee args))
call_flat bodies scope site callee args bound = LostFlat (bound 0 [])

abbrev mutual
  pub flat_expr : Bodies → List FunctionNode → Scope → ExprNode → FlatExpr
  flat_expr bodies program scope (NumberNode value unsigned) = NumberFlat value unsigned
  flat_expr bodies program scope (VariableNode variable elem) = VariableFlat (variable_in scope variable)
  flat_expr bodies program scope (UnaryNode op part) = UnaryFlat op (flat_expr bodies program scope part)
  flat_expr bodies program scope (BinaryNode op unsigned left right) =
      BinaryFlat op unsigned (flat_expr bodies program scope left) (flat_expr bodies program scope right)
  flat_expr bodies program scope (BothNode left right) = BothFlat (flat_expr bodies program scope left) (flat_expr bodies program scope right)
  flat_expr bodies program scope (EitherNode left right) = EitherFlat (flat_expr bodies program scope left) (flat_expr bodies program scope right)
  flat_expr bodies program scope (ChooseNode unsigned test one other) =
      ChooseFlat unsigned (flat_expr bodies program scope test) (flat_expr bodies program scope one) (flat_expr bodies program scope other)
  flat_expr bodies program scope (CastNode elem part) = CastFlat elem (flat_expr bodies program scope part)
  flat_expr bodies program scope (LoadNode array elem place pos) = LoadFlat (array_in scope array) elem (flat_expr bodies program scope place) pos
  flat_expr bodies program scope (CallNode call args) =
      call_flat bodies scope (site_of scope call) (callee_of program (site_of scope call)) args (λ first params. flat_args bodies program scope first params 0 args)
  flat_expr bodies program scope (BuiltinNode which unsigned args) = BuiltinFlat which unsigned (flat_args bodies program scope 0 [] 0 args)
  flat_expr bodies program scope (ParenNode part) = ParenFlat (flat_expr bodies program scope part)

  -- arguments from number k on
  pub flat_args : Bodies → List FunctionNode → Scope → ℕ → List Param → ℕ → ArgNodes → FlatArgs
  flat_args bodies program scope first params k NoArgs = NoFlatArgs
  flat_args bodies program scope first params k (ValueArg e more) =
      NumberArg (flat_expr bodies program scope e) (binding_at first params k) (flat_args bodies program scope first params (k + 1) more)
  flat_args bodies program scope first params k (ArrayArg array more) = NamedArg (array_in scope array) (flat_args bodies program scope first params (k + 1) more)

abbrev pub flat_value : Bodies → List FunctionNode → Scope → Option ExprNode → FlatValue
flat_value bodies program scope None = NoFlat
flat_value bodies program scope (Some e) = SomeFlat (flat_expr bodies program scope e)

abbrev mutual
  pub flat_stmt : Bodies → List FunctionNode → Scope → StmtNode → FlatStmt
  flat_stmt bodies program scope (DeclareNode variable elem value) = DeclareFlat (variable_in scope variable) elem (flat_value bodies program scope value)
  flat_stmt bodies program scope (LocalArrayNode array count) = LocalArrayFlat array (flat_expr bodies program scope count)
  flat_stmt bodies program scope (SetVariableNode variable elem op unsigned value) =
      SetVariableFlat (variable_in scope variable) elem op unsigned (flat_value bodies program scope value)
  flat_stmt bodies program scope (SetElementNode array elem place op unsigned value pos) =
      SetElementFlat (array_in scope array) elem (flat_expr bodies program scope place) op unsigned (flat_value bodies program scope value) pos
  flat_stmt bodies program scope (CallStmtNode call) = CallStmtFlat (flat_expr bodies program scope call)
  flat_stmt bodies program scope (BarrierNode site) = BarrierFlat (site_in scope site)
  flat_stmt bodies program scope (IfNode test one) = IfFlat (flat_expr bodies program scope test) (flat_stmt bodies program scope one)
  flat_stmt bodies program scope (IfElseNode test one other) =
      IfElseFlat (flat_expr bodies program scope test) (flat_stmt bodies program scope one) (flat_stmt bodies program scope other)
  flat_stmt bodies program scope (WhileNode test body) = WhileFlat (flat_expr bodies program scope test) (flat_stmt bodies program scope body)
  flat_stmt bodies program scope (DoNode body test) = DoFlat (flat_stmt bodies program scope body) (flat_expr bodies program scope test)
  flat_stmt bodies program scope (ForNode first test step body) =
      ForFlat (flat_stmts bodies program scope first) (flat_value bodies program scope test) (flat_stmts bodies program scope step) (flat_stmt bodies program scope body)
  flat_stmt bodies program scope BreakNode = BreakFlat
  flat_stmt bodies program scope ContinueNode = ContinueFlat
  flat_stmt bodies program scope (ReturnNode value) = ReturnFlat scope.function.gives (flat_value bodies program scope value)
  flat_stmt bodies program scope (BlockNode items) = BlockFlat (flat_stmts bodies program scope items)
  flat_stmt bodies program scope EmptyNode = EmptyFlat

  pub flat_stmts : Bodies → List FunctionNode → Scope → StmtNodes → FlatStmts
  flat_stmts bodies program scope NoStmts = NoFlats
  flat_stmts bodies program scope (AndStmt s ss) = AndFlat (flat_stmt bodies program scope s) (flat_stmts bodies program scope ss)

-- the body of an active call, with calls of at most n levels in it expanded
unfoldable pub expanded : ℕ → List FunctionNode → Bodies
expanded zero program scope = NoFlats
expanded (suc n) program scope = flat_stmts (expanded n program) program scope scope.function.body

-- A kernel with all its calls expanded. Where no function reaches a call of itself, no call has as many levels as there are functions.
abbrev pub kernel_flat : List FunctionNode → ℕ → FunctionNode → FlatKernel
kernel_flat program number kernel = record {
  params = kernel.params;
  arrays = kernel.arrays;
  variables = cut (measured own_variables program number);
  sites = cut (measured own_sites program number);
  body = flat_stmts (expanded (length program) program) program (kernel_scope kernel) kernel.body;
}
