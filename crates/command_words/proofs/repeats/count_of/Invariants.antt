use Rattle.std.proofs.Common.{◌≡◌, ◌≤◌, take}
use Rattle.std.specs.List.{count_by}
use Rattle.command_words.specs.Repeats.{is_same_key}
use Rattle.command_words.proofs.repeats.count_of.Given as goal

abbrev pub invariant-loop-earlier : goal.invariant-loop-earlier
invariant-loop-earlier l = (l.count ≡ count_by (is_same_key l.word) (take l.earlier-index l.before)) × (l.count ≤ l.earlier-index)
