use Rattle.std.proofs.Common.{◌≡◌, ℕ, true, false, ap, ◌∙◌, subst, arith}
use Rattle.std.proofs.lemmas.List.{set-get_or}
use Rattle.vx_isa.specs.Warps.{WarpState, has_lane}
use Rattle.vx_core.specs.Crews.{with_one}
use Rattle.vx_core.specs.WarpLists.{warps_of}
use Rattle.vx_core.proofs.WarpLaws.{warps_of-set, started_below, started_below-more, started_below-same, started_below-all}
use Rattle.vx_core.proofs.crew.start_warps.Goals as goal
use Rattle.vx_core.proofs.crew.start_warps.Goals.{then-has_warp, else-has_warp}

pub loop-number-preserved : goal.loop-number-preserved
loop-number-preserved c =
    let k = c.loop-number.number in
    let now = warps_of c.loop-number.warps in
    elim c.if-has_warp.branch [
      | then-has_warp w ↦
          let is_in : has_lane c.args.set k ≡ true = cc in
          ap warps_of w.warps-is
          ∙ warps_of-set c.loop-number.warps k w.start.new.self (omega arith)
          ∙ ap (λ (v : WarpState). with_one k v now) w.start.ensures
          ∙ started_below-more k c.args.set c.args.pc (warps_of c.args.warps.now) now c.loop-number.invariant is_in
      | else-has_warp w ↦
          let not_in : has_lane c.args.set k ≡ false = cc in
          ap warps_of (w.warps-is ∙ set-get_or c.loop-number.warps k c.index-warps-number.result)
          ∙ started_below-same k c.args.set c.args.pc (warps_of c.args.warps.now) now c.loop-number.invariant not_in
    ]

pub returns : goal.returns
returns c =
    let end : c.loop-number.number ≡ 16 = omega arith in
    started_below-all c.args.set c.args.pc (warps_of c.args.warps.now) (warps_of c.loop-number.warps) c.requires.set
    (subst (λ (n : ℕ). warps_of c.loop-number.warps ≡ started_below n c.args.set c.args.pc (warps_of c.args.warps.now)) end c.loop-number.invariant)
