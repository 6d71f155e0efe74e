use Rattle.std.proofs.Common.{map}
use Rattle.ocl_program.specs.Shapes.{function_node}
use Rattle.task_machine.specs.Views.{state_of}
use Rattle.ocl_sem.specs.Views.{expr_of, stmt_of}
use Rattle.ocl_sem.proofs.StatementLaws.{asked_as}
use Rattle.ocl_sem.proofs.items.Items.asked.Goals as goal

pub returns : goal.returns
returns c =
    let items = c.args.self.now in
    asked_as c.run.result (map function_node items.program.now) (function_node items.kernel.now) items.range items.bounds c.args.item c.args.answers.now c.args.fuel
    c.as_slice.result.now c.as_slice-2.result.now c.as_slice-3.result.now (state_of expr_of stmt_of c.in_ok-state.state)
    c.as_slice.ensures c.as_slice-2.ensures.value c.as_slice-3.ensures c.in_ok-state.ensures.start c.run.ensures
