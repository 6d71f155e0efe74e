use Rattle.std.proofs.Common.{map}
use Rattle.std.specs.String.{string_bytes}
use Rattle.command_words.proofs.Answering.{read_spelled, only_read, read_fault, only_fault}
use Rattle.command_words.proofs.reading.read_command_line.Goals as goal

pub returns-clause-spelled : goal.returns-clause-spelled
returns-clause-spelled c = read_spelled (map string_bytes c.args.words.now) c.answer_of.result c.answer_of.ensures

pub returns-clause-only : goal.returns-clause-only
returns-clause-only c = only_read (map string_bytes c.args.words.now) c.answer_of.result c.answer_of.ensures

pub returns-clause-fault : goal.returns-clause-fault
returns-clause-fault c = read_fault (map string_bytes c.args.words.now) c.answer_of.result c.answer_of.ensures

pub returns-clause-fault_only : goal.returns-clause-fault_only
returns-clause-fault_only c = only_fault (map string_bytes c.args.words.now) c.answer_of.result c.answer_of.ensures
