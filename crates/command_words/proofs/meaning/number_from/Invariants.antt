use Rattle.std.proofs.Common.{◌≡◌, drop}
use Rattle.command_words.specs.Meaning.{number_from}
use Rattle.command_words.proofs.meaning.number_from.Given as goal

abbrev pub invariant-loop-number : goal.invariant-loop-number
invariant-loop-number l = number_from l.name l.number (drop l.number l.buffers) ≡ number_from l.name 0 l.buffers
