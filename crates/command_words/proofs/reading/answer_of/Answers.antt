use Rattle.std.proofs.Common.{map, ◌∙◌}
use Rattle.std.specs.String.{string_bytes}
use Rattle.std.proofs.lemmas.List.{length-map}
use Rattle.command_words.proofs.Answering.{no_words}
use Rattle.command_words.proofs.reading.answer_of.Goals as goal

pub returns-in_default : goal.returns-in_default
returns-in_default c = no_words (map string_bytes c.args.words.now) (length-map c.args.words.now string_bytes ∙ c.in_default.ensures.cases)
