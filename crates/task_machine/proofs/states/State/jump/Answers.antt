use Rattle.std.proofs.Common.{ap, sym, ◌∙◌}
use Rattle.task_machine.specs.Views.{jumped, plain, state_by, task_by}
use Rattle.task_machine.proofs.Viewed.{on_done, left_viewed, continued_viewed, returned_viewed}
use Rattle.task_machine.proofs.states.State.jump.Goals as goal

pub returns-in-Break : goal.returns-in-Break
returns-in-Break g c =
    let f = g.F.Form.expr_of in
    let h = g.F.Form.stmt_of in
    let before = plain c.args.self.now in
    on_done c.leave_loop.result
    (λ e. ap (state_by f h) e ∙ sym (left_viewed f h before.tasks before)
    ∙ sym (ap (λ t. jumped (g.F.Form.parts c.args.form.now) (task_by f h t) (state_by f h before)) c.in-Break.is)) c.leave_loop.ensures

pub returns-in-Continue : goal.returns-in-Continue
returns-in-Continue g c =
    let f = g.F.Form.expr_of in
    let h = g.F.Form.stmt_of in
    let before = plain c.args.self.now in
    on_done c.end_turn.result
    (λ e. ap (state_by f h) e ∙ sym (continued_viewed f h before.tasks before)
    ∙ sym (ap (λ t. jumped (g.F.Form.parts c.args.form.now) (task_by f h t) (state_by f h before)) c.in-Continue.is)) c.end_turn.ensures

pub returns-in-Return : goal.returns-in-Return
returns-in-Return g c =
    let f = g.F.Form.expr_of in
    let h = g.F.Form.stmt_of in
    let before = plain c.args.self.now in
    ap (state_by f h) (sym (c.leave_call.ensures before)) ∙ sym (returned_viewed f h before.tasks before)
    ∙ sym (ap (λ t. jumped (g.F.Form.parts c.args.form.now) (task_by f h t) (state_by f h before)) c.in-Return.is)
