use Rattle.launch_order.proofs.ManyLaunches.{warps_release}
use Rattle.launch_order.proofs.laws.warps_release.Goals as goal

pub returns : goal.returns
returns c = warps_release
