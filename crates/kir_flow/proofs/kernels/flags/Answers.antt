use Rattle.std.proofs.Common.{subst, sym}
use Rattle.kir.specs.Shapes.{code_of}
use Rattle.kir_flow.specs.WithoutJumps.{WithoutJumps}
use Rattle.kir_flow.proofs.FlagsKeep.{flags_keep}
use Rattle.kir_flow.proofs.kernels.flags.Goals as goal

pub returns-clause-keeps : goal.returns-clause-keeps
returns-clause-keeps c = subst (WithoutJumps (code_of c.args.code.now)) (sym c.in_ok-made.ensures) (flags_keep (code_of c.args.code.now))
