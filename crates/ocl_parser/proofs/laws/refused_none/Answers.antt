use Rattle.ocl_parser.proofs.RefusalLaws.{refused_none}
use Rattle.ocl_parser.proofs.laws.refused_none.Goals as goal

pub returns : goal.returns
returns c = refused_none
