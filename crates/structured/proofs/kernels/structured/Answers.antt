use Rattle.std.proofs.Common.{map}
use Rattle.kir.specs.Shapes.{code_of}
use Rattle.ocl_program.specs.Shapes.{function_node}
use Rattle.structured.proofs.Whole.{passed_does, passed_ready}
use Rattle.structured.proofs.kernels.structured.Goals as goal

pub returns-clause-asks : goal.returns-clause-asks
returns-clause-asks c =
    passed_does (map function_node c.args.program.now.functions.items) c.args.program.now.typed c.args.kernel c.requires.kernel (code_of c.in_ok-code.code) c.in_ok-code.ensures

pub returns-clause-ready : goal.returns-clause-ready
returns-clause-ready c =
    passed_ready (map function_node c.args.program.now.functions.items) c.args.program.now.typed c.args.kernel c.requires.kernel (code_of c.in_ok-code.code) c.in_ok-code.ensures
