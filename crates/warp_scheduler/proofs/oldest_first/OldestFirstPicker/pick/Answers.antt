use Rattle.vx_base.proofs.MaskLaws.{bit_below_word}
use Rattle.warp_scheduler.proofs.oldest_first.OldestFirstPicker.pick.Goals as goal

pub returns-clause-word : goal.returns-clause-word
returns-clause-word c = bit_below_word c.args.ready _ c.ranges.ready.fits c.place_of_first-place.ensures.ready
