use Rattle.ocl_ast.specs.Shapes.{unit_trees}
use Rattle.vx_cc.proofs.FrontLaws.{bad_types}
use Rattle.vx_cc.proofs.sources.program_from.Goals as goal

pub returns-in-Err-clause-fault : goal.returns-in-Err-clause-fault
returns-in-Err-clause-fault c = rw c.type_fault.ensures (bad_types (unit_trees c.args.unit) c.in-Err.fault c.in-Err.ensures)
