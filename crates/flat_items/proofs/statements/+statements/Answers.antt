use Rattle.std.proofs.Common.{ap, ◌∙◌}
use Rattle.std.specs.Option.{option_map}
use Rattle.ocl_inline.specs.FlatTasks.{stmts_tasks}
use Rattle.ocl_inline.specs.Shapes.{expr_of, flat_trees, stmt_of}
use Rattle.ocl_inline.specs.Trees.{written}
use Rattle.task_machine.proofs.Viewed.{on_done}
use Rattle.flat_items.specs.Views.{entered_tasks, flat_tasks}
use Rattle.flat_items.proofs.Reading.{block_is, for_tasks}
use Rattle.flat_items.proofs.statements.+statements.Goals as goal

pub push_stmt-returns-in_ok-push_entered-in-For : goal.push_stmt-returns-in_ok-push_entered-in-For
push_stmt-returns-in_ok-push_entered-in-For t c =
    let first = flat_trees c.as_slice-in-For.result.now in
    let test = written (option_map (λ b. expr_of b.value) c.in-For.test) in
    on_done c.push_stmts.result
    (λ e. e ∙ ap (stmts_tasks first) c.in_ok-push_entered-in-For.ensures
    ∙ ap (λ body. stmts_tasks first (entered_tasks test (flat_trees c.as_slice.result.now) (stmt_of body) (flat_tasks c.args.tasks.now))) c.deref-in-For.ensures
    ∙ for_tasks c.args.stmt.now c.in-For.first c.in-For.test c.in-For.step c.in-For.body c.as_slice-in-For.result.now c.as_slice.result.now
    c.in-For.is c.as_slice-in-For.ensures.value c.as_slice.ensures.value (flat_tasks c.args.tasks.now))
    c.push_stmts.ensures

pub push_stmt-returns-in-Block : goal.push_stmt-returns-in-Block
push_stmt-returns-in-Block t c = rw (block_is _ _ _ c.in-Block.is c.as_slice-in-Block.ensures.value) c.push_stmts-in-Block.ensures
