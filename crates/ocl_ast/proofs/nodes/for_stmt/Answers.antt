use Rattle.std.proofs.Common.{◌≡◌, ap, ◌∙◌}
use Rattle.std.specs.Option.{option_map}
use Rattle.ocl_ast.specs.Shapes.{tree_of, stmt_tree, stmt_trees}
use Rattle.ocl_ast.specs.Trees.{ForTree}
use Rattle.ocl_ast.proofs.Rows.{for_tree}
use Rattle.ocl_ast.proofs.nodes.for_stmt.Goals as goal

pub returns : goal.returns
returns c =
    let kept : c.in_ok-body.body.value ≡ c.args.body = c.in_ok-body.ensures.ok in
    for_tree c.args.first c.args.test c.args.step c.in_ok-body.body ∙
    ap (λ body. ForTree (stmt_trees c.args.first.items) (option_map tree_of c.args.test) (stmt_trees c.args.step.items) (stmt_tree body)) kept
