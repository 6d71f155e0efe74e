use Rattle.image_lanes.proofs.Whole.{lanes_do_as_source}
use Rattle.image_lanes.proofs.laws.lanes_do_as_source.Goals as goal

pub returns : goal.returns
returns c = lanes_do_as_source
