use Rattle.std.proofs.Common.{rules}
use Rattle.launch_loader.specs.Words.{AreWordArgs, AreWords}
use Rattle.launch_loader.specs.Conditions.{case_of}
use Rattle.launch_loader.proofs.Accepting.{accepted}
use Rattle.launch_loader.proofs.checked.is_accepted.Goals as goal

pub returns : goal.returns
returns c =
    let small : AreWordArgs c.args.plan.now.args = search rules in
    let sizes : AreWords c.args.plan.now.range.global = search rules in
    accepted (case_of c.args.image.now c.args.plan.now c.args.shape.now c.args.buffers.now) c.requires.can c.requires.passes small sizes
