use Rattle.std.proofs.Common.{ℕ, ◌%◌, ap, sym, ◌∙◌}
use Rattle.vx_isa.specs.Effects.{address_at}
use Rattle.vx_isa.specs.Warps.{cut}
use Rattle.vx_isa.specs.WarpSteps.{Stepped, with_mask, go_on, split_step, join_step, pred_mask, nonzero_lanes, leader_value, instr_step}
use Rattle.vx_isa.specs.declared.warps.Step.TheVariants as step
use Rattle.warp_state.specs.Lanes.{state_of}
use Rattle.warp_state.proofs.StepLaws.{leaves_takes}
use Rattle.warp_state.proofs.warp.Warp.do_instr.Goals as goal

pub returns-in-Tmc-clause-step : goal.returns-in-Tmc-clause-step
returns-in-Tmc-clause-step g c =
    let w = state_of c.args.self.now in
    let has = g.M.LaneMemory.has c.args.memory.now in
    leaves_takes g.M.LaneMemory.acts (λ a. instr_step has c.args.ids a w c.args.i) (with_mask c.cut.result w) c.args.memory.now c.set_mask.result (state_of c.set_mask.new.self)
    (λ a. ap (λ (mask : ℕ). with_mask mask w) (c.cut.ensures ∙ ap (cut c.args.ids.lanes) c.leader_value.ensures) ∙ ap (instr_step has c.args.ids a w) (sym c.in-Tmc.is))
    c.set_mask.ensures

pub returns-in-Wspawn-clause-step : goal.returns-in-Wspawn-clause-step
returns-in-Wspawn-clause-step g c =
    let w = state_of c.args.self.now in
    let has = g.M.LaneMemory.has c.args.memory.now in
    let spawn : ℕ → ℕ → Stepped = λ count pc. go_on (step.Spawn count pc) (address_at w.pc 4) w.mask w.stack w in
    leaves_takes g.M.LaneMemory.acts (λ a. instr_step has c.args.ids a w c.args.i) (spawn c.leader_value-count.result c.leader_value-pc.result) c.args.memory.now c.go_on.result (state_of c.go_on.new.self)
    (λ a. ap (λ (count : ℕ). spawn count c.leader_value-pc.result) c.leader_value-count.ensures
    ∙ ap (spawn (leader_value w c.in-Wspawn.rs1)) c.leader_value-pc.ensures
    ∙ ap (instr_step has c.args.ids a w) (sym c.in-Wspawn.is))
    c.go_on.ensures

pub returns-in-Split-clause-step : goal.returns-in-Split-clause-step
returns-in-Split-clause-step g c =
    let w = state_of c.args.self.now in
    let has = g.M.LaneMemory.has c.args.memory.now in
    leaves_takes g.M.LaneMemory.acts (λ a. instr_step has c.args.ids a w c.args.i) (split_step c.nonzero_lanes.result c.zero_lanes.result w) c.args.memory.now c.split.result (state_of c.split.new.self)
    (λ a. ap (λ (on : ℕ). split_step on c.zero_lanes.result w) c.nonzero_lanes.ensures
    ∙ ap (λ (off : ℕ). split_step (nonzero_lanes w c.in-Split.rs1) off w) c.zero_lanes.ensures
    ∙ ap (instr_step has c.args.ids a w) (sym c.in-Split.is))
    c.split.ensures

pub returns-in-Join-clause-step : goal.returns-in-Join-clause-step
returns-in-Join-clause-step g c =
    let w = state_of c.args.self.now in
    let has = g.M.LaneMemory.has c.args.memory.now in
    leaves_takes g.M.LaneMemory.acts (λ a. instr_step has c.args.ids a w c.args.i) (join_step w.stack w) c.args.memory.now c.join.result (state_of c.join.new.self)
    (λ a. ap (instr_step has c.args.ids a w) (sym c.in-Join.is))
    c.join.ensures

pub returns-in-Bar-clause-step : goal.returns-in-Bar-clause-step
returns-in-Bar-clause-step g c =
    let w = state_of c.args.self.now in
    let has = g.M.LaneMemory.has c.args.memory.now in
    let wait : ℕ → ℕ → Stepped = λ bar count. go_on (step.Wait (bar % 16) count) (address_at w.pc 4) w.mask w.stack w in
    leaves_takes g.M.LaneMemory.acts (λ a. instr_step has c.args.ids a w c.args.i) (wait c.leader_value-bar.result c.leader_value-count-in-Bar.result) c.args.memory.now c.go_on-in-Bar.result (state_of c.go_on-in-Bar.new.self)
    (λ a. ap (λ (bar : ℕ). wait bar c.leader_value-count-in-Bar.result) c.leader_value-bar.ensures
    ∙ ap (wait (leader_value w c.in-Bar.rs1)) c.leader_value-count-in-Bar.ensures
    ∙ ap (instr_step has c.args.ids a w) (sym c.in-Bar.is))
    c.go_on-in-Bar.ensures

pub returns-in-Pred-clause-step : goal.returns-in-Pred-clause-step
returns-in-Pred-clause-step g c =
    let w = state_of c.args.self.now in
    let has = g.M.LaneMemory.has c.args.memory.now in
    leaves_takes g.M.LaneMemory.acts (λ a. instr_step has c.args.ids a w c.args.i) (with_mask (pred_mask (nonzero_lanes w c.in-Pred.rs1) (cut c.args.ids.lanes (leader_value w c.in-Pred.rs2))) w) c.args.memory.now c.keep_lanes.result (state_of c.keep_lanes.new.self)
    (λ a. ap (instr_step has c.args.ids a w) (sym c.in-Pred.is))
    c.keep_lanes.ensures
