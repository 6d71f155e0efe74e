use Rattle.std.proofs.Common.{◌<◌, ◌≤◌, sym, subst, refl}
use Rattle.vx_isa.specs.WarpSteps.{warp_step}
use Rattle.vx_isa.specs.declared.warps.Step.{Step}
use Rattle.warp_state.specs.Lanes.{state_of}
use Rattle.vx_core.specs.Ends.{bar_of, lane_of}
use Rattle.vx_core.specs.Places.{fields}
use Rattle.vx_core.proofs.LoanLaws.{Makes-reach, Makes-kept}
use Rattle.vx_core.proofs.OutcomeLaws.{step_within}
use Rattle.vx_core.proofs.crew.step_on.Goals as goal

pub returns-clause-took : goal.returns-clause-took
returns-clause-took g c =
    let m = c.args.memory.now in
    let took = c.step.ensures.step in
    let stepped = warp_step (fields (g.B.Bus.count m.bus.now)) c.args.ids c.args.code.now took.answers (state_of c.args.warp.now) in
    record {
      answers = took.answers;
      made = Makes-reach g.B.Bus.acts g.E.Evictor.evicts g.B.Bus.count g.B.Bus.number (g.B.Bus.count m.bus.now) (g.B.Bus.number m.bus.now) m.banks stepped.accesses m c.step.new.memory refl refl refl took.made;
      warp_is = took.warp_is;
      outcome_is = took.outcome_is;
    }

pub returns-clause-kept : goal.returns-clause-kept
returns-clause-kept g c =
    let m = c.args.memory.now in
    let took = c.step.ensures.step in
    let stepped = warp_step (fields (g.B.Bus.count m.bus.now)) c.args.ids c.args.code.now took.answers (state_of c.args.warp.now) in
    Makes-kept g.B.Bus.acts g.E.Evictor.evicts g.B.Bus.count g.B.Bus.number stepped.accesses m c.step.new.memory took.made

pub returns-clause-lane : goal.returns-clause-lane
returns-clause-lane g c =
    let took = c.step.ensures.step in
    let within = step_within (fields (g.B.Bus.count c.args.memory.now.bus.now)) c.args.ids c.args.code.now took.answers (state_of c.args.warp.now) in
    subst (λ (s : Step). lane_of s ≤ 32) (sym took.outcome_is) within.lane

pub returns-clause-bar : goal.returns-clause-bar
returns-clause-bar g c =
    let took = c.step.ensures.step in
    let within = step_within (fields (g.B.Bus.count c.args.memory.now.bus.now)) c.args.ids c.args.code.now took.answers (state_of c.args.warp.now) in
    subst (λ (s : Step). bar_of s < 16) (sym took.outcome_is) within.bar
