use Rattle.std.proofs.Common.{◌≡◌, ap, ◌∙◌}
use Rattle.std.specs.Option.{option_map}
use Rattle.ocl_inline.specs.Trees.{ForFlat, written}
use Rattle.ocl_inline.specs.Shapes.{expr_of, stmt_of, flat_trees}
use Rattle.ocl_inline.proofs.Rows.{for_flat, written_in}
use Rattle.ocl_inline.proofs.nodes.for_stmt.Goals as goal

pub returns : goal.returns
returns c =
    let kept : c.in_ok-body.body.value ≡ c.args.body = c.in_ok-body.ensures.ok in
    for_flat c.args.first c.in_ok-test.test c.args.step c.in_ok-body.body
    ∙ ap (λ test. ForFlat (flat_trees c.args.first.items) (written test) (flat_trees c.args.step.items) (stmt_of c.in_ok-body.body.value))
    (written_in c.in_ok-test.test ∙ ap (option_map expr_of) c.in_ok-test.ensures)
    ∙ ap (λ body. ForFlat (flat_trees c.args.first.items) (written (option_map expr_of c.args.test)) (flat_trees c.args.step.items) (stmt_of body)) kept
