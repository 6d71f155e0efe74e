use Rattle.kir_flow.proofs.WordsGiven.{gives_words}
use Rattle.kir_flow.proofs.laws.items_learn_words.Goals as goal

pub returns : goal.returns
returns c = gives_words
