use Rattle.std.proofs.Common.{refl, ap, ◌∙◌}
use Rattle.step_machine.specs.Steps.{shown}
use Rattle.step_machine.proofs.RunLaws.{advance_moved, advance_told, split_first}
use Rattle.step_machine.proofs.runs.advance.Goals as goal

pub returns-in-Moved : goal.returns-in-Moved
returns-in-Moved g c =
    let at = g.M.SmallSteps.step_of c.args.machine.now in
    let after = g.M.SmallSteps.state_of c.step.new.state in
    advance_moved at g.M.SmallSteps.turns_of (g.M.SmallSteps.state_of c.args.state.now) after c.args.answers.now _ (g.met.M.SmallSteps.rises c.args.machine.now)
    (c.in_ok-step.ensures ∙ ap (λ found. shown g.M.SmallSteps.told found after) c.in-Moved.is) (λ next. refl) (λ k low. low)

pub returns-in_ok-take_answer-in-len1-up : goal.returns-in_ok-take_answer-in-len1-up
returns-in_ok-take_answer-in-len1-up g c =
    let at = g.M.SmallSteps.step_of c.args.machine.now in
    let asking = g.M.SmallSteps.state_of c.step.new.state in
    advance_told at g.M.SmallSteps.turns_of (g.M.SmallSteps.state_of c.args.state.now) (g.M.SmallSteps.state_of c.take_answer.new.state) c.args.answers.now _
    c.in-Asks.action (λ answer. g.M.SmallSteps.told c.in-Asks.kept answer asking) _ _ (g.met.M.SmallSteps.rises c.args.machine.now)
    (c.in_ok-step.ensures ∙ ap (λ found. shown g.M.SmallSteps.told found asking) c.in-Asks.is) (split_first c.args.answers.now c.in-len1-up.len_at_least) c.in_ok-take_answer-in-len1-up.ensures (λ next. refl) (λ k low. low)
