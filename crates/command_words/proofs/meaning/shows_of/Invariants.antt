use Rattle.std.proofs.Common.{◌≡◌, ◌++◌, drop}
use Rattle.command_words.specs.Meaning.{shows_of}
use Rattle.command_words.proofs.meaning.shows_of.Given as goal

abbrev pub invariant-loop-word : goal.invariant-loop-word
invariant-loop-word l = l.items.items ++ shows_of l.buffers (drop l.word-index l.words) ≡ shows_of l.buffers l.words
