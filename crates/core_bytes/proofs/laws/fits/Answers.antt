use Rattle.core_bytes.specs.ByteLaws.{gives_oldest}
use Rattle.core_bytes.proofs.FittingWords.{answers_fit, stay_words}
use Rattle.core_bytes.proofs.laws.fits.Goals as goal

pub returns-clause-words : goal.returns-clause-words
returns-clause-words c = λ sets ways room opening cores deeds history run words. stay_words gives_oldest sets ways room (λ core. tt) opening cores deeds history run words

pub returns-clause-answers : goal.returns-clause-answers
returns-clause-answers c = λ sets ways room opening cores deeds history run words. answers_fit gives_oldest sets ways room (λ core. tt) opening cores deeds history run words
