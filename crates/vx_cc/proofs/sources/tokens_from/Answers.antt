use Rattle.vx_cc.proofs.FrontLaws.{few_tokens, bad_tokens}
use Rattle.vx_cc.proofs.sources.tokens_from.Goals as goal

pub returns-in-Ok-clause-few : goal.returns-in-Ok-clause-few
returns-in-Ok-clause-few c = few_tokens c.args.source.now c.in-Ok.tokens c.in-Ok.ensures.tokens

pub returns-in-Err-clause-fault : goal.returns-in-Err-clause-fault
returns-in-Err-clause-fault c = rw c.lex_fault.ensures (bad_tokens c.args.source.now c.in-Err.fault c.in-Err.ensures.fault)
