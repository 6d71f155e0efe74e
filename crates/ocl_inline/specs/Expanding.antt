-- What the code makes of the parts of a program.
use Rattle.std.specs.Prelude.{ℕ, ◌+◌, List, map, Option, None, Some, option_map}
use Rattle.vx_base.specs.declared.types.ParamKind.{ParamKind}
use Rattle.vx_base.specs.declared.types.ParamKind.TheVariants.{Scalar, Pointer}
use Rattle.ocl_ast.specs.declared.units.Param.{Param}
use Rattle.ocl_program.specs.declared.exprs.Argument.{Argument}
use Rattle.ocl_program.specs.declared.exprs.TypedExpr.{TypedExpr}
use Rattle.ocl_program.specs.declared.functions.TypedFunction.{TypedFunction}
use Rattle.ocl_program.specs.declared.stmts.TypedStmt.{TypedStmt}
use Rattle.ocl_program.specs.Measures.{cut}
use Rattle.ocl_program.specs.Nodes.{FunctionNode, ArgNode, ValueNode, ArrayNode, arg_nodes}
use Rattle.ocl_program.specs.Shapes.{argument_node, function_node, node_of, stmt_node, typed_stmts}
use Rattle.ocl_sem.specs.declared.scopes.Scope.{Scope}
use Rattle.ocl_sem.specs.Source.{Scope as AnyScope, array_in, callee_of, site_of}
use Rattle.ocl_sem.specs.Views.{scope_of}
use Rattle.ocl_inline.specs.declared.trees.Binding.{Binding}
use Rattle.ocl_inline.specs.Expansion.{Bodies, call_flat, expanded, flat_args, flat_expr, flat_stmt, flat_stmts, flat_value}
use Rattle.ocl_inline.specs.Trees.{FlatArgs, FlatExpr, FlatStmt, FlatStmts, FlatValue, NumberArg, NamedArg}

-- with calls of at most n levels expanded
abbrev pub bodies_in : ℕ → List TypedFunction → Bodies
bodies_in n program = expanded n (map function_node program)

abbrev pub expr_in : ℕ → List TypedFunction → Scope → TypedExpr → FlatExpr
expr_in n program scope expr = flat_expr (bodies_in n program) (map function_node program) (scope_of scope) (node_of expr)

abbrev pub value_in : ℕ → List TypedFunction → Scope → Option TypedExpr → FlatValue
value_in n program scope value = flat_value (bodies_in n program) (map function_node program) (scope_of scope) (option_map node_of value)

abbrev pub args_in : ℕ → List TypedFunction → Scope → ℕ → List Param → ℕ → List Argument → FlatArgs
args_in n program scope first params k args =
    flat_args (bodies_in n program) (map function_node program) (scope_of scope) first params k (arg_nodes (map argument_node args))

-- the variable of the next scalar parameter behind a parameter of this kind, whose own would be `variable`
abbrev pub variable_behind_kind : ℕ → ParamKind → ℕ
variable_behind_kind variable (Scalar elem) = cut (variable + 1)
variable_behind_kind variable (Pointer space elem readonly) = variable

abbrev pub variable_behind : ℕ → Option Param → ℕ
variable_behind variable None = variable
variable_behind variable (Some param) = variable_behind_kind variable param.kind

-- one argument in front of others
abbrev pub with_argument : Bodies → List FunctionNode → AnyScope → Binding → ArgNode → FlatArgs → FlatArgs
with_argument bodies program scope binding (ValueNode e) more = NumberArg (flat_expr bodies program scope e) binding more
with_argument bodies program scope binding (ArrayNode array) more = NamedArg (array_in scope array) more

abbrev pub argument_in : ℕ → List TypedFunction → Scope → Binding → Argument → FlatArgs → FlatArgs
argument_in n program scope binding arg more = with_argument (bodies_in n program) (map function_node program) (scope_of scope) binding (argument_node arg) more

abbrev pub call_in : ℕ → List TypedFunction → Scope → ℕ → List Argument → FlatExpr
call_in n program scope call args =
    call_flat (bodies_in n program) (scope_of scope) (site_of (scope_of scope) call) (callee_of (map function_node program) (site_of (scope_of scope) call))
    (arg_nodes (map argument_node args)) (λ first params. args_in n program scope first params 0 args)

abbrev pub stmt_in : ℕ → List TypedFunction → Scope → TypedStmt → FlatStmt
stmt_in n program scope stmt = flat_stmt (bodies_in n program) (map function_node program) (scope_of scope) (stmt_node stmt)

abbrev pub stmts_in : ℕ → List TypedFunction → Scope → List TypedStmt → FlatStmts
stmts_in n program scope stmts = flat_stmts (bodies_in n program) (map function_node program) (scope_of scope) (typed_stmts stmts)
