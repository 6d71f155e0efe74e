use Rattle.std.proofs.Common.{rules, ◌≡◌, false}
use Rattle.launch_loader.specs.Spaces.{clash_at}
use Rattle.launch_loader.proofs.Steps.{one_more}
use Rattle.launch_loader.proofs.spaces.earlier_clash.Goals as goal

-- the earlier places so far and one more
pub loop-earlier-preserved : goal.loop-earlier-preserved
loop-earlier-preserved c =
    let here : clash_at c.args.kinds.now c.args.args.now c.loop-earlier.earlier c.args.place ≡ false = search rules in
    one_more (λ j. clash_at c.args.kinds.now c.args.args.now j c.args.place ≡ false) c.loop-earlier.earlier c.loop-earlier.invariant here
