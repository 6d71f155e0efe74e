-- Calls and their arguments.
use Rattle.std.proofs.Common.{◌≡◌, ℕ, List, [], ◌∷◌, Vec, Global, map, refl, ap, sym, ◌∙◌}
use Rattle.ocl_program.specs.declared.exprs.Argument.{Argument}
use Rattle.ocl_program.specs.declared.exprs.Builtin.{Builtin as Which}
use Rattle.ocl_program.specs.declared.exprs.TypedExpr.{TypedExpr, Call, Builtin}
use Rattle.ocl_program.specs.Nodes.{CallNode, BuiltinNode, ArgNode, ValueNode, ArrayNode, arg_nodes}
use Rattle.ocl_program.specs.Shapes.{node_of, argument_node}
use Rattle.ocl_program.proofs.Rows.{call_node, builtin_node}
use Rattle.ocl_sem.specs.Source.{Scope, arrays_named}
use Rattle.ocl_sem.specs.Views.{array_named}

-- what a call's node is
pub node_of_call : (expr : TypedExpr) (call : ℕ) (args : Vec Argument Global) (seen : List Argument) → expr ≡ Call call args → seen ≡ args.items
    → node_of expr ≡ CallNode call (arg_nodes (map argument_node seen))
node_of_call expr call args seen e e' = ap node_of e ∙ call_node call args ∙ ap (λ xs. CallNode call (arg_nodes (map argument_node xs))) (sym e')

pub node_of_builtin : (expr : TypedExpr) (which : Which) (unsigned : _) (args : Vec Argument Global) (seen : List Argument) → expr ≡ Builtin which unsigned args → seen ≡ args.items
    → node_of expr ≡ BuiltinNode which unsigned (arg_nodes (map argument_node seen))
node_of_builtin expr which unsigned args seen e e' =
    ap node_of e ∙ builtin_node which unsigned args ∙ ap (λ xs. BuiltinNode which unsigned (arg_nodes (map argument_node xs))) (sym e')

named_cons : (scope : Scope) (arg : ArgNode) (more : List ArgNode) → arrays_named scope (arg_nodes (arg ∷ more)) ≡ array_named scope arg ∷ arrays_named scope (arg_nodes more)
named_cons scope (ValueNode e) more = refl
named_cons scope (ArrayNode array) more = refl

-- the arrays that arguments name, one after another
pub arrays_each : (scope : Scope) (args : List Argument) → arrays_named scope (arg_nodes (map argument_node args)) ≡ map (λ arg. array_named scope (argument_node arg)) args
arrays_each scope [] = refl
arrays_each scope (arg ∷ args) = named_cons scope (argument_node arg) (map argument_node args) ∙ ap (λ xs. array_named scope (argument_node arg) ∷ xs) (arrays_each scope args)
