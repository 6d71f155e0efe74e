use Rattle.std.proofs.Common.{◌≡◌, ap, ◌∙◌, subst, arith}
use Rattle.vx_isa.specs.Warps.{leader, WarpState}
use Rattle.vx_isa.specs.WarpSteps.{Takes, choice_of, effect_in, leads_to, lanes_step}
use Rattle.vx_isa.specs.declared.warps.Step.TheVariants as step
use Rattle.warp_state.specs.Acts.{warp_of}
use Rattle.warp_state.specs.Lanes.{KeptWarp, registers_in, state_of}
use Rattle.warp_state.proofs.StepLaws.{leader_effect, HaveActed-stack, HaveStopped-stack, acted_takes, stopped_takes}
use Rattle.warp_state.proofs.warp.Warp.do_lanes.Goals as goal

pub act_all-requires-clause-shared : goal.act_all-requires-clause-shared
act_all-requires-clause-shared g c =
    let w = warp_of c.self.inside.pc c.self.inside.mask (registers_in c.self.inside.lanes) in
    record {
      rs1_is = c.rs1.ensures;
      rs2_is = c.rs2.ensures;
      chosen_is = c.choice_of.ensures ∙ ap choice_of (leader_effect c.args.i w c.leader.result c.effect_at-did.result c.leader.ensures.value c.effect_at-did.ensures);
    }

pub returns-in-Ok-clause-step : goal.returns-in-Ok-clause-step
returns-in-Ok-clause-step g c =
    let w : WarpState = record { pc = c.self.inside.pc; mask = c.self.inside.mask; registers = registers_in c.self.inside.lanes; stack = c.self.inside.stack } in
    let acts = g.M.LaneMemory.acts in
    let has = g.M.LaneMemory.has c.args.memory.now in
    let did = leader_effect c.args.i w c.leader.result c.effect_at-did.result c.leader.ensures.value c.effect_at-did.ensures in
    let goes : c.leads_to-self-inside.result ≡ leads_to w.pc (effect_in c.args.i w (leader w.mask)) = c.leads_to-self-inside.ensures ∙ ap (leads_to w.pc) did in
    subst (λ (kept : KeptWarp). Takes acts (λ a. lanes_step has c.args.ids c.args.i a (state_of kept)) c.args.memory.now step.Next (record { pc = c.leads_to-self-inside.result; mask = w.mask; registers = registers_in c.act_all.new.lanes; stack = w.stack }) c.act_all.new.memory) c.self.view_is
    (acted_takes acts has c.args.ids c.args.i w c.args.memory.now (registers_in c.act_all.new.lanes) c.act_all.new.memory (omega arith)
    (HaveActed-stack acts has c.args.ids c.args.i (warp_of w.pc w.mask (registers_in c.self.inside.lanes)) c.args.memory.now 32 (registers_in c.act_all.new.lanes) c.act_all.new.memory w.stack c.in-Ok.ensures.acted)
    c.leads_to-self-inside.result goes)

pub returns-in-Err-clause-step : goal.returns-in-Err-clause-step
returns-in-Err-clause-step g c =
    let w : WarpState = record { pc = c.self.inside.pc; mask = c.self.inside.mask; registers = registers_in c.self.inside.lanes; stack = c.self.inside.stack } in
    let acts = g.M.LaneMemory.acts in
    let has = g.M.LaneMemory.has c.args.memory.now in
    subst (λ (kept : KeptWarp). Takes acts (λ a. lanes_step has c.args.ids c.args.i a (state_of kept)) c.args.memory.now (step.Trap c.in-Err.stop.fault c.in-Err.stop.lane w.pc) (record { pc = w.pc; mask = w.mask; registers = registers_in c.act_all.new.lanes; stack = w.stack }) c.act_all.new.memory) c.self.view_is
    (stopped_takes acts has c.args.ids c.args.i w c.args.memory.now c.in-Err.stop (registers_in c.act_all.new.lanes) c.act_all.new.memory
    (HaveStopped-stack acts has c.args.ids c.args.i (warp_of w.pc w.mask (registers_in c.self.inside.lanes)) c.args.memory.now c.in-Err.stop (registers_in c.act_all.new.lanes) c.act_all.new.memory w.stack c.in-Err.ensures.acted))
