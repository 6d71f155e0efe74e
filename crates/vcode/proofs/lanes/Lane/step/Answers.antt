use Rattle.std.proofs.Common.{◌≡◌, IfOk, sym, subst}
use Rattle.item_acts.specs.Machine.{Step}
use Rattle.step_machine.specs.Steps.{shown}
use Rattle.vcode.specs.Machine.{Lane}
use Rattle.vcode.specs.Views.{lane_of, told_value}
use Rattle.vcode.proofs.Reading.{step_none, step_some}
use Rattle.vcode.proofs.lanes.Lane.step.Goals as goal

pub returns-then-place-code : goal.returns-then-place-code
returns-then-place-code g c =
    subst (λ (x : Step Lane). IfOk c.operate.result (λ found. x ≡ shown told_value found (lane_of c.operate.new.self)))
    (sym (step_some (g.A.Surroundings.around c.args.at.now) c.args.code.now _ (lane_of c.args.self.now) c.op_at-op.result c.op_at-op.ensures))
    c.operate.ensures

pub returns : goal.returns
returns g c = step_none (g.A.Surroundings.around c.args.at.now) c.args.code.now (lane_of c.args.self.now) c.if-place-code.false
