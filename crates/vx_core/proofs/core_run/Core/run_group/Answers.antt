use Rattle.std.proofs.Common.{ℕ, ◌%◌, Option, add-one, ap, ◌∙◌, subst, arith}
use Rattle.vx_core.specs.CoreSteps.{StepsOnce}
use Rattle.vx_core.specs.Cores.{core_state, setting_of}
use Rattle.vx_core.specs.declared.end.GroupEnd.{GroupEnd}
use Rattle.vx_core.proofs.RunLaws.{none_gone, opens_group, one_more_gone, group_ended, turns_gone}
use Rattle.vx_core.proofs.core_run.Core.run_group.Goals as goal

pub loop-turn-init : goal.loop-turn-init
loop-turn-init g c = none_gone g.B.Bus.acts g.E.Evictor.evicts g.P.Picker.picks g.B.Bus.is_sound g.B.Bus.count g.B.Bus.number c.args.image.now c.args.job.now c.args.self.now c.args.bus.now c.args.evict.now c.begin.new.self c.begin_group.new.self
    c.begin_group.ensures.crew c.begin_group.ensures.same_core c.requires.sound

pub step-requires : goal.step-requires
step-requires g c = record {
  ready = c.loop-turn.invariant.some_ready;
  sound = c.loop-turn.invariant.sound;
  lines = ap (λ (n : ℕ). n % 16) c.loop-turn.invariant.words ∙ c.requires.lines;
  lanes = c.requires.lanes;
  items = c.requires.items;
}

pub loop-turn-preserved : goal.loop-turn-preserved
loop-turn-preserved g c =
    rw add-one
    (one_more_gone g.B.Bus.acts g.E.Evictor.evicts g.P.Picker.picks g.B.Bus.is_sound g.B.Bus.count g.B.Bus.number c.args.image.now c.args.job.now c.args.self.now c.args.bus.now (core_state c.begin_group.new.self c.args.bus.now c.args.evict.now c.begin.new.self) c.loop-turn.turn c.loop-turn.self c.loop-turn.bus c.loop-turn.evict c.loop-turn.pick c.loop-turn.invariant
    c.step.new.self c.step.new.bus c.step.new.evict c.step.new.pick
    (subst (λ (end : Option GroupEnd). StepsOnce g.B.Bus.acts g.E.Evictor.evicts g.P.Picker.picks (setting_of c.loop-turn.self (g.B.Bus.count c.loop-turn.bus) (g.B.Bus.number c.loop-turn.bus) c.args.image.now c.args.job.now) (core_state c.loop-turn.self c.loop-turn.bus c.loop-turn.evict c.loop-turn.pick) end (core_state c.step.new.self c.step.new.bus c.step.new.evict c.step.new.pick)) c.in_default.is c.step.ensures.steps)
    (c.step.ensures.ready c.in_default.is) c.step.ensures.same_core c.step.ensures.sound c.step.ensures.same_bus.0 c.step.ensures.same_bus.1)

pub returns-in-Some-clause-runs : goal.returns-in-Some-clause-runs
returns-in-Some-clause-runs g c =
    group_ended g.B.Bus.acts g.E.Evictor.evicts g.P.Picker.begins g.P.Picker.picks g.B.Bus.is_sound g.B.Bus.count g.B.Bus.number c.args.image.now c.args.job.now c.args.self.now c.args.bus.now c.args.evict.now c.args.pick.now (core_state c.begin_group.new.self c.args.bus.now c.args.evict.now c.begin.new.self) c.loop-turn.turn c.loop-turn.self c.loop-turn.bus c.loop-turn.evict c.loop-turn.pick
    (opens_group g.P.Picker.begins c.args.self.now c.begin_group.new.self c.args.bus.now c.args.evict.now c.args.pick.now c.begin.new.self c.args.job.now c.begin_group.ensures.crew c.begin_group.ensures.scratch c.begin_group.ensures.rest.0 c.begin_group.ensures.rest.1 c.begin_group.ensures.rest.2 c.begin.ensures)
    c.loop-turn-test.true c.loop-turn.invariant
    c.step.new.self c.step.new.bus c.step.new.evict c.step.new.pick c.in-Some.end
    (subst (λ (end : Option GroupEnd). StepsOnce g.B.Bus.acts g.E.Evictor.evicts g.P.Picker.picks (setting_of c.loop-turn.self (g.B.Bus.count c.loop-turn.bus) (g.B.Bus.number c.loop-turn.bus) c.args.image.now c.args.job.now) (core_state c.loop-turn.self c.loop-turn.bus c.loop-turn.evict c.loop-turn.pick) end (core_state c.step.new.self c.step.new.bus c.step.new.evict c.step.new.pick)) c.in-Some.is c.step.ensures.steps)

pub returns-clause-runs : goal.returns-clause-runs
returns-clause-runs g c =
    turns_gone g.B.Bus.acts g.E.Evictor.evicts g.P.Picker.begins g.P.Picker.picks g.B.Bus.is_sound g.B.Bus.count g.B.Bus.number c.args.image.now c.args.job.now c.args.self.now c.args.bus.now c.args.evict.now c.args.pick.now (core_state c.begin_group.new.self c.args.bus.now c.args.evict.now c.begin.new.self) c.loop-turn.turn c.loop-turn.self c.loop-turn.bus c.loop-turn.evict c.loop-turn.pick
    (opens_group g.P.Picker.begins c.args.self.now c.begin_group.new.self c.args.bus.now c.args.evict.now c.args.pick.now c.begin.new.self c.args.job.now c.begin_group.ensures.crew c.begin_group.ensures.scratch c.begin_group.ensures.rest.0 c.begin_group.ensures.rest.1 c.begin_group.ensures.rest.2 c.begin.ensures)
    (omega arith) c.loop-turn.invariant
