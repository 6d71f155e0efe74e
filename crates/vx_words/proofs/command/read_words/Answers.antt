use Rattle.std.proofs.Common.{map}
use Rattle.std.specs.String.{string_bytes}
use Rattle.vx_words.proofs.OneReading.{only_read, read_fault, only_fault}
use Rattle.vx_words.proofs.command.read_words.Goals as goal

pub returns-clause-only : goal.returns-clause-only
returns-clause-only c = only_read (map string_bytes c.args.words.now) c.command_of.result c.command_of.ensures

pub returns-clause-fault_only : goal.returns-clause-fault_only
returns-clause-fault_only c = only_fault (map string_bytes c.args.words.now) c.command_of.result c.command_of.ensures
