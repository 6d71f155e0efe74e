use Rattle.std.proofs.Common.{ap, sym, ◌∙◌}
use Rattle.vx_isa.specs.WarpSteps.{fetched, fetched_step, warp_step, whole_trap}
use Rattle.warp_state.specs.Lanes.{KeptWarp, state_of}
use Rattle.warp_state.proofs.StepLaws.{leaves_takes}
use Rattle.warp_state.proofs.warp.Warp.step.Goals as goal

pub returns-in-Err-clause-step : goal.returns-in-Err-clause-step
returns-in-Err-clause-step g c =
    let w = state_of c.args.self.now in
    let has = g.M.LaneMemory.has c.args.memory.now in
    leaves_takes g.M.LaneMemory.acts (λ a. warp_step has c.args.ids c.args.code.now a w) (whole_trap c.in-Err.fault w) c.args.memory.now c.trap.result w
    (λ a. ap (fetched_step has c.args.ids a w) (sym c.in-Err.is ∙ c.fetch.ensures ∙ ap (λ (kept : KeptWarp). fetched c.args.code.now (state_of kept).pc) c.self.view_is))
    c.trap.ensures
