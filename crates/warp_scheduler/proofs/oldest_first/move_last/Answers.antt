use Rattle.std.proofs.Common.{refl, subst, sym, arith}
use Rattle.std.proofs.lemmas.Slice.{put_mid-rotated}
use Rattle.warp_scheduler.specs.Rules.{HasAll}
use Rattle.warp_scheduler.proofs.OrderLaws.{all_stay}
use Rattle.warp_scheduler.proofs.oldest_first.move_last.Goals as goal

pub returns-clause-last : goal.returns-clause-last
returns-clause-last c = put_mid-rotated _ _ _ _ 0 c.requires.place (omega (arith, c.requires.place, c.fits-order)) c.rotate_left.ensures.after

pub returns-clause-all : goal.returns-clause-all
returns-clause-all c = subst HasAll (sym (returns-clause-last c)) (all_stay c.args.order.now c.args.place _ c.requires.place refl c.requires.all)
