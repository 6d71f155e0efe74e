use Rattle.std.proofs.Common.{rules}
use Rattle.launch_loader.specs.Checking.{Passes}
use Rattle.launch_loader.specs.Conditions.{case_of}
use Rattle.launch_loader.proofs.Once.{keeps}
use Rattle.launch_loader.proofs.checked.check_and_keep.Goals as goal

pub returns : goal.returns
returns c =
    let passes : Passes (case_of c.args.image.now c.args.plan.now c.args.shape.now c.args.buffers.now) = search rules in
    keeps (case_of c.args.image.now c.args.plan.now c.args.shape.now c.args.buffers.now) c.kept.result passes c.is_accepted.ensures c.kept.ensures
