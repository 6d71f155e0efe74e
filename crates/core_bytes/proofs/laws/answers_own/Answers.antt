use Rattle.core_bytes.specs.ByteLaws.{gives_oldest}
use Rattle.core_bytes.proofs.AnswerBytes.{answers_own as bytes_answer}
use Rattle.core_bytes.proofs.laws.answers_own.Goals as goal

pub returns : goal.returns
returns c = λ sets ways room opening cores deeds history run. bytes_answer gives_oldest sets ways room (λ core. tt) opening cores deeds history run
