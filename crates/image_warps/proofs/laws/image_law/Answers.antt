use Rattle.image_warps.proofs.Image.{image_law}
use Rattle.image_warps.proofs.laws.image_law.Goals as goal

pub returns : goal.returns
returns c = image_law
