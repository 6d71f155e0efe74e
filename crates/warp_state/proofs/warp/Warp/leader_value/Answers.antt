use Rattle.std.proofs.Common.{ℕ, ap, ◌∙◌}
use Rattle.vx_isa.specs.Warps.{value_in}
use Rattle.vx_isa.specs.WarpSteps.{leader_value}
use Rattle.warp_state.specs.Lanes.{KeptWarp, registers_in, state_of}
use Rattle.warp_state.proofs.warp.Warp.leader_value.Goals as goal

pub returns : goal.returns
returns c =
    c.value_at.ensures
    ∙ ap (λ (lane : ℕ). value_in (registers_in c.self.inside.lanes lane) c.args.register) c.leader.ensures.value
    ∙ ap (λ (w : KeptWarp). leader_value (state_of w) c.args.register) c.self.view_is
