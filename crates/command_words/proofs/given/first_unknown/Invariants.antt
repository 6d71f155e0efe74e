use Rattle.std.proofs.Common.{◌≡◌, drop}
use Rattle.command_words.specs.Repeats.{unknown_from}
use Rattle.command_words.proofs.given.first_unknown.Given as goal

abbrev pub invariant-loop-place : goal.invariant-loop-place
invariant-loop-place l = unknown_from l.words l.place (drop l.place l.words) ≡ unknown_from l.words 0 l.words
