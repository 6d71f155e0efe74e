use Rattle.std.proofs.Common.{◌≡◌, ℕ, length, ap, ◌∙◌, subst, arith}
use Rattle.vx_isa.specs.Warps.{WarpState}
use Rattle.vx_core.specs.Crews.{with_one}
use Rattle.vx_core.specs.WarpLists.{warps_of}
use Rattle.vx_core.proofs.WarpLaws.{warps_of-set, ended_below, ended_below-more, ended_below-all}
use Rattle.vx_core.proofs.crew.end_all.Goals as goal

pub loop-warp-preserved : goal.loop-warp-preserved
loop-warp-preserved c =
    let k = c.loop-warp.warp-index in
    let now = warps_of c.loop-warp.warps in
    warps_of-set c.loop-warp.warps k c.start.new.self (omega arith)
    ∙ ap (λ (w : WarpState). with_one k w now) c.start.ensures
    ∙ ended_below-more k (warps_of c.args.warps.now) now c.loop-warp.invariant

pub returns : goal.returns
returns c =
    let end : c.loop-warp.warp-index ≡ length c.args.warps.now = omega arith in
    ended_below-all c.args.warps.now c.loop-warp.warps (omega arith)
    (subst (λ (n : ℕ). warps_of c.loop-warp.warps ≡ ended_below n (warps_of c.args.warps.now)) end c.loop-warp.invariant)
