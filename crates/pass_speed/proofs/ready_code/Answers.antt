use Rattle.std.proofs.Common.{map}
use Rattle.kir.specs.Shapes.{code_of}
use Rattle.ocl_program.specs.Shapes.{function_node}
use Rattle.pass_speed.proofs.Ready.{limited}
use Rattle.pass_speed.proofs.ready_code.Goals as goal

pub returns-clause-limited : goal.returns-clause-limited
returns-clause-limited c = limited (map function_node c.args.program.now.functions.items) c.args.kernel (code_of c.in_ok-code.code) c.in_ok-code.ensures.ready
