use Rattle.std.proofs.Common.{ℕ, ◌*◌, ◌%◌, ◌^◌, ap, ◌∙◌, Bool, arith}
use Rattle.std.specs.Prelude.{bit_or}
use Rattle.vx_isa.proofs.MaskLaws.{lanes_below-zero, lanes_below-more, lanes_below-same}
use Rattle.vx_core.specs.Crews.{is_spawned}
use Rattle.vx_core.specs.WarpLists.{warps_of}
use Rattle.vx_core.proofs.crew.spawned_in.Goals as goal
use Rattle.vx_core.proofs.crew.spawned_in.Goals.{then-is_spawned, else-is_spawned}

pub loop-warp-init : goal.loop-warp-init
loop-warp-init c = lanes_below-zero (is_spawned c.args.count (warps_of c.args.warps.now))

pub loop-warp-preserved : goal.loop-warp-preserved
loop-warp-preserved c =
    let test : ℕ → Bool = is_spawned c.args.count (warps_of c.args.warps.now) in
    let k = c.loop-warp.warp in
    elim c.if-is_spawned.branch [
      | then-is_spawned w ↦ w.set-is ∙ ap (λ (s : ℕ). bit_or s (1 * 2 ^ k % 2 ^ 32)) c.loop-warp.invariant ∙ lanes_below-more k test (omega arith) w.if-is_spawned.ensures
      | else-is_spawned w ↦ w.set-is ∙ c.loop-warp.invariant ∙ lanes_below-same k test w.if-is_spawned.ensures
    ]
