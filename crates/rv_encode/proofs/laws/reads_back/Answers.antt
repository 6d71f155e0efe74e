use Rattle.rv_encode.proofs.DecodeLaws.{word_is_read, row_is_written}
use Rattle.rv_encode.proofs.laws.reads_back.Goals as goal

pub returns-clause-back : goal.returns-clause-back
returns-clause-back c = word_is_read

pub returns-clause-forth : goal.returns-clause-forth
returns-clause-forth c = row_is_written
