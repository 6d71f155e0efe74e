use Rattle.std.proofs.Common.{suc, ◌≤◌, rules, ap, subst, ◌∙◌}
use Rattle.item_acts.specs.Machine.{asked}
use Rattle.step_machine.specs.Steps.{GoesBelow, went}
use Rattle.step_machine.proofs.RunLaws.{going_done, going_end, going_on}
use Rattle.step_machine.proofs.TurnLaws.{below_more}
use Rattle.step_machine.proofs.runs.run.Goals as goal

pub advance-requires : goal.advance-requires
advance-requires g c =
    let small : c.loop.counter ≤ 18446744073709551615 = search rules in
    record { below = below_more c.loop.counter 18446744073709551615 _ small c.loop.invariant.below }

pub at_once-requires : goal.at_once-requires
at_once-requires g c =
    let within = c.loop.invariant.within in
    let small : c.loop.counter ≤ 18446744073709551615 = search rules in
    record { below = below_more c.loop.counter 18446744073709551615 _ small c.loop.invariant.below }

pub returns-in-Ok-Reached : goal.returns-in-Ok-Reached
returns-in-Ok-Reached g c =
    let at = g.M.SmallSteps.step_of c.args.machine.now in
    let after = g.M.SmallSteps.state_of c.advance.new.state in
    going_done at g.M.SmallSteps.turns_of c.loop.counter c.args.fuel (g.M.SmallSteps.state_of c.loop.state) c.loop.rest.now (g.M.SmallSteps.state_of c.args.state.now)
    c.args.answers.now c.in-Ok-Reached.asked c.loop-test.true c.loop.invariant
    (λ n. c.in-Ok-Reached.ensures.asks n ∙ ap (λ p. went p (asked at n after)) c.in-Ok-Reached.field-0-is)

pub loop-preserved : goal.loop-preserved
loop-preserved g c =
    let at = g.M.SmallSteps.step_of c.args.machine.now in
    let after = g.M.SmallSteps.state_of c.advance.new.state in
    going_on at g.M.SmallSteps.turns_of c.loop.counter c.args.fuel (g.M.SmallSteps.state_of c.loop.state) after c.loop.rest.now c.in-Ok-GoesOn.more.now
    (g.M.SmallSteps.state_of c.args.state.now) c.args.answers.now c.loop-test.true c.loop.invariant
    (λ n. c.in-Ok-GoesOn.ensures.asks n ∙ ap (λ p. went p (asked at n after)) c.in-Ok-GoesOn.field-0-is)
    (subst (λ p. GoesBelow p (suc c.loop.counter) (g.M.SmallSteps.turns_of after)) c.in-Ok-GoesOn.field-0-is
    (c.in-Ok-GoesOn.ensures.below c.loop.counter c.loop.invariant.below))

pub returns : goal.returns
returns g c =
    going_end c.at_once.result (g.M.SmallSteps.step_of c.args.machine.now) g.M.SmallSteps.turns_of c.loop.counter c.args.fuel (g.M.SmallSteps.state_of c.loop.state)
    c.loop.rest.now (g.M.SmallSteps.state_of c.args.state.now) c.args.answers.now c.loop-test.false c.loop.invariant c.at_once.ensures
