use Rattle.std.proofs.Common.{arith}
use Rattle.ocl_lex.proofs.PredefinedLaws.{defines_next, defines_all}
use Rattle.ocl_lex.proofs.macros.Macros.new.Goals as goal

pub loop-predefined-preserved : goal.loop-predefined-preserved
loop-predefined-preserved c =
    defines_next c.loop-predefined.predefined-index c.loop-predefined.macros c.define_predefined.new.self _ (omega arith) c.loop-predefined.invariant c.in_ok-define_predefined.ensures

pub returns : goal.returns
returns c = defines_all c.loop-predefined.predefined-index c.loop-predefined.macros (omega arith) c.loop-predefined.invariant
