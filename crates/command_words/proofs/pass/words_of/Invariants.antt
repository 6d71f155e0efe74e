use Rattle.std.proofs.Common.{◌≡◌, [], map, drop}
use Rattle.std.specs.String.{string_bytes}
use Rattle.command_words.specs.Commands.{words_from}
use Rattle.command_words.proofs.pass.words_of.Given as goal

abbrev pub invariant-loop-text : goal.invariant-loop-text
invariant-loop-text l = words_from l.command l.items.items (map string_bytes (drop l.text-index l.texts)) ≡ words_from l.command [] (map string_bytes l.texts)
