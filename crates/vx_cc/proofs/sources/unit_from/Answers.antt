use Rattle.vx_cc.proofs.FrontLaws.{bad_tree}
use Rattle.vx_cc.proofs.sources.unit_from.Goals as goal

pub returns-in-Err-clause-fault : goal.returns-in-Err-clause-fault
returns-in-Err-clause-fault c = rw c.parse_fault.ensures (bad_tree c.args.tokens.now c.in-Err.fault c.requires c.in-Err.ensures.refused)
