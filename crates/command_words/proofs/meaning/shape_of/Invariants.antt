use Rattle.std.proofs.Common.{◌≡◌, drop}
use Rattle.command_words.specs.Meaning.{shaped, usual}
use Rattle.command_words.proofs.meaning.shape_of.Given as goal

abbrev pub invariant-loop-word : goal.invariant-loop-word
invariant-loop-word l = shaped l.shape (drop l.word-index l.words) ≡ shaped usual l.words
