use Rattle.std.proofs.Common.{take}
use Rattle.vx_words.specs.Words.{AreNumbersOf}
use Rattle.vx_words.proofs.numbers.numbers_of.Given as goal

abbrev pub invariant-loop-name : goal.invariant-loop-name
invariant-loop-name l = AreNumbersOf l.buffers l.items.items (take l.name-index l.names)
