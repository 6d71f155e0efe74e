use Rattle.image_warps.proofs.Starts.{start_law}
use Rattle.image_warps.proofs.laws.start_law.Goals as goal

pub returns : goal.returns
returns c = start_law
