use Rattle.launch_loader.specs.Conditions.{case_of}
use Rattle.launch_loader.proofs.Once.{exactly}
use Rattle.launch_loader.proofs.checked.check_launch.Goals as goal

pub returns-clause-refused : goal.returns-clause-refused
returns-clause-refused c = exactly (case_of c.args.image.now c.args.plan.now c.args.shape.now c.args.buffers.now) c.check_and_keep.result c.check_and_keep.ensures
