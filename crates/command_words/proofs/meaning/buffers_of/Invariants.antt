use Rattle.std.proofs.Common.{◌≡◌, ◌++◌, drop}
use Rattle.command_words.specs.Meaning.{buffers_of}
use Rattle.command_words.proofs.meaning.buffers_of.Given as goal

abbrev pub invariant-loop-word : goal.invariant-loop-word
invariant-loop-word l = l.items.items ++ buffers_of (drop l.word-index l.words) ≡ buffers_of l.words
