use Rattle.std.proofs.Common.{◌≡◌, ◌++◌, drop}
use Rattle.command_words.specs.Meaning.{launches_of}
use Rattle.command_words.proofs.meaning.launches_of.Given as goal

abbrev pub invariant-loop-word : goal.invariant-loop-word
invariant-loop-word l = l.items.items ++ launches_of l.buffers (drop l.word-index l.words) ≡ launches_of l.buffers l.words
