use Rattle.std.proofs.Common.{◌≡◌, ap, ◌∙◌}
use Rattle.std.specs.Option.{option_map}
use Rattle.ocl_program.specs.Nodes.{ForNode}
use Rattle.ocl_program.specs.Shapes.{node_of, stmt_node, typed_stmts}
use Rattle.ocl_program.proofs.Rows.{for_node}
use Rattle.ocl_program.proofs.nodes.for_stmt.Goals as goal

pub returns : goal.returns
returns c =
    let kept : c.in_ok-body.body.value ≡ c.args.body = c.in_ok-body.ensures.ok in
    for_node c.args.first c.args.test c.args.step c.in_ok-body.body ∙
    ap (λ body. ForNode (typed_stmts c.args.first.items) (option_map node_of c.args.test) (typed_stmts c.args.step.items) (stmt_node body)) kept
