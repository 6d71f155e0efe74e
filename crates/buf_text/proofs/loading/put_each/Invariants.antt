use Rattle.std.proofs.Common.{take}
use Rattle.buf_text.specs.Elements.{HasBytes}
use Rattle.buf_text.proofs.loading.put_each.Given as goal

abbrev pub invariant-loop-number : goal.invariant-loop-number
invariant-loop-number l = HasBytes (take l.number l.bytes) l.place l.initial.words l.words
