use Rattle.std.proofs.Common.{◌≡◌, [], take}
use Rattle.std.specs.List.{fold}
use Rattle.ocl_lex.specs.Macros.{with_predefined, all_predefined}
use Rattle.ocl_lex.proofs.macros.Macros.new.Given as goal

abbrev pub invariant-loop-predefined : goal.invariant-loop-predefined
invariant-loop-predefined l = l.macros ≡ fold with_predefined [] (take l.predefined-index all_predefined)
