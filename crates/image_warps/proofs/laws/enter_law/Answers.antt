use Rattle.image_warps.proofs.Image.{enter_law}
use Rattle.image_warps.proofs.laws.enter_law.Goals as goal

pub returns : goal.returns
returns c = enter_law
