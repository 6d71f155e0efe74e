use Rattle.std.proofs.Common.{take, ◌*◌}
use Rattle.buf_text.specs.Elements.{HasBytes}
use Rattle.buf_text.proofs.loading.put_words.Given as goal

abbrev pub invariant-loop-number : goal.invariant-loop-number
invariant-loop-number l = HasBytes (take (4 * l.number) l.bytes) (4 * l.first) l.initial.words l.words
