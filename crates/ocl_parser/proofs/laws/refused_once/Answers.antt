use Rattle.ocl_parser.proofs.RefusalLaws.{refused_once}
use Rattle.ocl_parser.proofs.laws.refused_once.Goals as goal

pub returns : goal.returns
returns c = refused_once
