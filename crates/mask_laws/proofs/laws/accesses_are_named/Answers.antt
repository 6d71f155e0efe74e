use Rattle.mask_laws.proofs.Accessing.{accesses_named}
use Rattle.mask_laws.proofs.laws.accesses_are_named.Goals as goal

pub returns : goal.returns
returns c = accesses_named
