use Rattle.std.proofs.Common.{◌≡◌, [], map, drop}
use Rattle.command_words.specs.Readers.{args_from}
use Rattle.command_words.proofs.launches.args_of.Given as goal

abbrev pub invariant-loop-text : goal.invariant-loop-text
invariant-loop-text l = args_from l.items.items (map (λ text. text.now) (drop l.text-index l.texts)) ≡ args_from [] (map (λ text. text.now) l.texts)
