use Rattle.core_bytes.specs.ByteLaws.{gives_oldest}
use Rattle.core_bytes.proofs.EndBytes.{ends_own as bytes_end}
use Rattle.core_bytes.proofs.laws.ends_own.Goals as goal

pub returns : goal.returns
returns c = λ sets ways room opening cores deeds history run. bytes_end gives_oldest sets ways room (λ core. tt) opening cores deeds history run
