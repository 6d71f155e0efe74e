use Rattle.std.proofs.Common.{take, map}
use Rattle.std.specs.String.{string_bytes}
use Rattle.vx_words.specs.WordForms.{Spells, further_of}
use Rattle.vx_words.proofs.form.read_each.Given as goal

abbrev pub invariant-loop-word : goal.invariant-loop-word
invariant-loop-word l = Spells (map further_of l.further.items) (map string_bytes (take l.word-index l.words))
