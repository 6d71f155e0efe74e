use Rattle.std.proofs.Common.{◌≡◌, ℕ, ◌-◌, not, nat_eq, ap, ◌∙◌, arith, refl, Bool, true, false}
use Rattle.std.specs.Prelude.{bit_and}
use Rattle.vx_isa.specs.Warps.{value_in}
use Rattle.vx_isa.specs.WarpSteps.{zero_lanes}
use Rattle.vx_isa.proofs.MaskLaws.{lanes_below-rest}
use Rattle.warp_state.specs.Lanes.{KeptWarp, registers_in, state_of}
use Rattle.warp_state.proofs.warp.Warp.zero_lanes.Goals as goal

twice_not : (b : Bool) → b ≡ not (not b)
twice_not true = refl
twice_not false = refl

pub returns : goal.returns
returns c =
    let is_zero : ℕ → Bool = λ lane. nat_eq (value_in (registers_in c.self.inside.lanes lane) c.args.register) 0 in
    ap (λ (on : ℕ). bit_and c.self.inside.mask (4294967295 - on)) c.nonzero_lanes.ensures
    ∙ lanes_below-rest c.self.inside.mask (λ lane. not (is_zero lane)) is_zero (omega arith) (λ lane. twice_not (is_zero lane))
    ∙ ap (λ (w : KeptWarp). zero_lanes (state_of w) c.args.register) c.self.view_is
