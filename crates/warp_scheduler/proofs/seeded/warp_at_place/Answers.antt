use Rattle.std.proofs.Common.{◌≡◌, ℕ, ◌+◌, add-one, subst, arith}
use Rattle.vx_base.proofs.MaskLaws.{set_of_bit}
use Rattle.warp_scheduler.specs.Rules.{count_below}
use Rattle.warp_scheduler.proofs.OrderLaws.{counted_on, is_there, no_place, passed_by}
use Rattle.warp_scheduler.proofs.seeded.warp_at_place.Goals as goal
use Rattle.warp_scheduler.proofs.seeded.warp_at_place.Goals.{then-is_ready+else-left-eq0, else-is_ready}

pub returns-then-left-eq0-clause-warp : goal.returns-then-left-eq0-clause-warp
returns-then-left-eq0-clause-warp c = record {
  is_ready = set_of_bit c.args.ready c.loop-warp.warp (is_there c.args.ready c.loop-warp.warp c.if-is_ready.ensures);
  so_many_below = omega (arith, c.loop-warp.invariant, c.if-left-eq0.true);
}

pub loop-warp-preserved : goal.loop-warp-preserved
loop-warp-preserved c =
    elim c.if-is_ready.branch [
      | then-is_ready+else-left-eq0 w ↦ rw (w.left-is, add-one) (counted_on c.args.ready c.loop-warp.warp c.loop-warp.left c.args.place c.loop-warp.invariant w.if-left-eq0.false w.if-is_ready.ensures)
      | else-is_ready w ↦ rw (w.left-is, add-one) (passed_by c.args.ready c.loop-warp.warp c.loop-warp.left c.args.place c.loop-warp.invariant w.if-is_ready.ensures)
    ]

pub returns-clause-warp : goal.returns-clause-warp
returns-clause-warp c =
    let full : c.loop-warp.warp ≡ 32 = omega (arith, c.loop-warp-test.false) in
    let counted : c.loop-warp.left + count_below c.args.ready 32 ≡ c.args.place = subst (λ (n : ℕ). c.loop-warp.left + count_below c.args.ready n ≡ c.args.place) full c.loop-warp.invariant in
    absurd (no_place c.args.place c.loop-warp.left (count_below c.args.ready 32) counted c.requires)
