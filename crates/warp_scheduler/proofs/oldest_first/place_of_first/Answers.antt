use Rattle.std.proofs.Common.{nat_eq, sym}
use Rattle.std.specs.Int.{bit_at}
use Rattle.std.proofs.lemmas.Bool.{eqb-true}
use Rattle.std.proofs.lemmas.List.Quantifiers.{position-Some}
use Rattle.vx_base.proofs.MaskLaws.{set_of_bit}
use Rattle.warp_scheduler.proofs.OrderLaws.{one_ready}
use Rattle.warp_scheduler.proofs.oldest_first.place_of_first.Goals as goal

pub returns-in-Some-clause-within : goal.returns-in-Some-clause-within
returns-in-Some-clause-within c =
    (position-Some (λ warp. nat_eq (bit_at c.args.ready warp) 1) c.args.order.now c.in-Some.place 0 (sym c.in-Some.ensures)).0

pub returns-in-Some-clause-ready : goal.returns-in-Some-clause-ready
returns-in-Some-clause-ready c =
    let found = position-Some (λ warp. nat_eq (bit_at c.args.ready warp) 1) c.args.order.now c.in-Some.place 0 (sym c.in-Some.ensures) in
    set_of_bit c.args.ready _ (eqb-true _ 1 found.1)

pub returns-in-None-clause-first : goal.returns-in-None-clause-first
returns-in-None-clause-first c = absurd (one_ready c.args.order.now c.args.ready c.requires.all c.requires.some c.ranges.ready.fits (sym c.in-None.ensures))

pub returns-in-None-clause-within : goal.returns-in-None-clause-within
returns-in-None-clause-within c = absurd (one_ready c.args.order.now c.args.ready c.requires.all c.requires.some c.ranges.ready.fits (sym c.in-None.ensures))

pub returns-in-None-clause-ready : goal.returns-in-None-clause-ready
returns-in-None-clause-ready c = absurd (one_ready c.args.order.now c.args.ready c.requires.all c.requires.some c.ranges.ready.fits (sym c.in-None.ensures))
