use Rattle.std.proofs.Common.{rules}
use Rattle.memory_banks.proofs.PortLaws.{first_held}
use Rattle.memory_banks.proofs.Seats.{opens}
use Rattle.memory_banks.proofs.banks.Banks.of_words.Goals as goal

pub of_words-requires : goal.of_words-requires
of_words-requires c = opens c.args.words.now c.as_slice-2.result.now (search rules) (search rules)

pub returns-clause-holds : goal.returns-clause-holds
returns-clause-holds c = first_held
