use Rattle.std.proofs.Common.{ap, ◌∙◌, map}
use Rattle.std.specs.Option.{option_map}
use Rattle.ocl_program.specs.Shapes.{function_node, node_of, stmt_node, typed_stmts}
use Rattle.task_machine.proofs.Viewed.{on_done}
use Rattle.ocl_sem.specs.Source.{stmts_tasks}
use Rattle.ocl_sem.specs.Views.{entered_tasks, scope_of, source_tasks}
use Rattle.ocl_sem.proofs.StatementLaws.{for_tasks, node_of_block, test_seen}
use Rattle.ocl_sem.proofs.statements.+statements.Goals as goal

pub push_stmt-returns-in-Block : goal.push_stmt-returns-in-Block
push_stmt-returns-in-Block t c = rw (node_of_block _ _ _ c.in-Block.is c.as_slice-in-Block.ensures.value) c.push_stmts-in-Block.ensures

pub push_stmt-returns-in_ok-push_entered-in-For : goal.push_stmt-returns-in_ok-push_entered-in-For
push_stmt-returns-in_ok-push_entered-in-For t c =
    let program = map function_node c.args.source.now.program.now in
    let scope = scope_of c.args.scope.now.value in
    let before = source_tasks c.args.tasks.now in
    let first = typed_stmts c.as_slice-in-For.result.now in
    on_done c.push_stmts.result
    (λ e. e ∙ ap (stmts_tasks program scope first) c.in_ok-push_entered-in-For.ensures
    ∙ ap (λ test. stmts_tasks program scope first (entered_tasks scope test (typed_stmts c.as_slice.result.now) (stmt_node c.deref-in-For.result.now) before))
    (test_seen (λ r. r.now) c.as_ref.result ∙ ap (option_map node_of) c.as_ref.ensures.value)
    ∙ ap (λ body. stmts_tasks program scope first (entered_tasks scope (option_map node_of c.in-For.test) (typed_stmts c.as_slice.result.now) (stmt_node body) before)) c.deref-in-For.ensures
    ∙ for_tasks program scope c.args.stmt.now c.in-For.first c.in-For.test c.in-For.step c.in-For.body c.as_slice-in-For.result.now c.as_slice.result.now
    c.in-For.is c.as_slice-in-For.ensures.value c.as_slice.ensures.value before)
    c.push_stmts.ensures
