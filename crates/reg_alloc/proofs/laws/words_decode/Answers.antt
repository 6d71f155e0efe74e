use Rattle.reg_alloc.proofs.Decoding.{words_decode}
use Rattle.reg_alloc.proofs.laws.words_decode.Goals as goal

pub returns : goal.returns
returns c = words_decode
