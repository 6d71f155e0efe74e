use Rattle.asm_text.proofs.HexLaws.{texts_read_back}
use Rattle.asm_text.proofs.hexadecimal.reads_back.Goals as goal

pub returns : goal.returns
returns c = texts_read_back
