use Rattle.std.proofs.Common.{ℕ, ◌&&◌, not, nat_eq, ap, ◌∙◌, Bool}
use Rattle.std.specs.Prelude.{bit_or}
use Rattle.std.proofs.Common.{◌*◌, ◌%◌, ◌^◌}
use Rattle.vx_isa.specs.Warps.{has_lane, value_in}
use Rattle.vx_isa.proofs.MaskLaws.{lanes_below-zero, lanes_below-more, lanes_below-same}
use Rattle.warp_state.specs.Lanes.{registers_in}
use Rattle.warp_state.proofs.lanes.nonzero_lanes.Goals as goal
use Rattle.warp_state.proofs.lanes.nonzero_lanes.Goals.{then-is_nonzero, else-is_nonzero}

pub loop-number-init : goal.loop-number-init
loop-number-init c = lanes_below-zero (λ lane. has_lane c.args.mask lane && not (nat_eq (value_in (registers_in c.args.lanes.now lane) c.args.register) 0))

pub loop-number-preserved : goal.loop-number-preserved
loop-number-preserved c =
    let test : ℕ → Bool = λ lane. has_lane c.args.mask lane && not (nat_eq (value_in (registers_in c.args.lanes.now lane) c.args.register) 0) in
    let k = c.loop-number.number in
    elim c.if-is_nonzero.branch [
      | then-is_nonzero w ↦ w.chosen-is ∙ ap (λ (s : ℕ). bit_or s (1 * 2 ^ k % 2 ^ 32)) c.loop-number.invariant ∙ lanes_below-more k test c.loop-number-test.true w.if-is_nonzero.ensures
      | else-is_nonzero w ↦ w.chosen-is ∙ c.loop-number.invariant ∙ lanes_below-same k test w.if-is_nonzero.ensures
    ]
