use Rattle.std.proofs.Common.{◌≡◌, ◌++◌, map, drop}
use Rattle.command_words.specs.Meaning.{arg_of}
use Rattle.command_words.proofs.meaning.args_of.Given as goal

abbrev pub invariant-loop-arg : goal.invariant-loop-arg
invariant-loop-arg l = l.items.items ++ map (arg_of l.buffers) (drop l.arg-index l.args) ≡ map (arg_of l.buffers) l.args
