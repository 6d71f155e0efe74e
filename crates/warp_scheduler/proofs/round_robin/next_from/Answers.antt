use Rattle.std.proofs.Common.{arith}
use Rattle.std.specs.Int.{w32, trailing_zeros}
use Rattle.vx_base.proofs.MaskLaws.{bit_below_word, least_bit}
use Rattle.warp_scheduler.proofs.PickLaws.{picks_above, picks_around, picked_ready}
use Rattle.warp_scheduler.proofs.round_robin.next_from.Goals as goal

pub returns-in-Some-clause-picks : goal.returns-in-Some-clause-picks
returns-in-Some-clause-picks c = picks_above c.args.ready c.args.from c.in-Some.steps c.in-Some.ensures.least

pub returns-in-Some-clause-ready : goal.returns-in-Some-clause-ready
returns-in-Some-clause-ready c = picked_ready c.args.from c.args.ready _ (returns-in-Some-clause-picks c)

pub returns-in-Some-clause-word : goal.returns-in-Some-clause-word
returns-in-Some-clause-word c = bit_below_word c.args.ready _ c.ranges.ready.fits (returns-in-Some-clause-ready c)

pub returns-in-None-clause-picks : goal.returns-in-None-clause-picks
returns-in-None-clause-picks c = picks_around c.args.ready c.args.from (trailing_zeros w32 c.args.ready) c.in-None.ensures.least (least_bit c.args.ready (omega (arith, c.requires.some)) c.ranges.ready.fits)

pub returns-in-None-clause-ready : goal.returns-in-None-clause-ready
returns-in-None-clause-ready c = picked_ready c.args.from c.args.ready _ (returns-in-None-clause-picks c)

pub returns-in-None-clause-word : goal.returns-in-None-clause-word
returns-in-None-clause-word c = bit_below_word c.args.ready _ c.ranges.ready.fits (returns-in-None-clause-ready c)
