-- What the limits and the typing of a file answer.
use Rattle.std.specs.Prelude.{◌≡◌, List, length, map, Result, Ok, Err}
use Rattle.std.specs.declared.alloc.Global.{Global}
use Rattle.std.specs.declared.vec.Vec.{Vec}
use Rattle.ocl_program.specs.Nodes.{FunctionNode}
use Rattle.ocl_program.specs.Shapes.{function_node}
use Rattle.ocl_measures.specs.Totals.{AreTotals}
use Rattle.ocl_measures.specs.declared.sizes.Totals.{Totals}
use Rattle.ocl_types.specs.Answers.{Faults}
use Rattle.ocl_types.specs.declared.faults.TypeFault.{TypeFault}
use Rattle.ocl_types.specs.declared.programs.Program.{Program}

-- nothing, or a fault
abbrev pub PassesTo : Result (Unit {0}) TypeFault → Result (Unit {0}) TypeFault → Type 0
PassesTo (Ok passed) judged = judged ≡ Ok tt
PassesTo (Err fault) judged = Faults fault judged

abbrev pub TotalsTo : Result (Vec Totals Global) TypeFault → List FunctionNode → Result (Unit {0}) TypeFault → Type 0
TotalsTo (Ok totals) program judged = (judged ≡ Ok tt) × AreTotals program (length program) totals.items
TotalsTo (Err fault) program judged = Faults fault judged

-- the program of a file, or its first fault
abbrev pub ProgramTo : Result Program TypeFault → Result (List FunctionNode) TypeFault → Type 0
ProgramTo (Ok program) judged = judged ≡ Ok (map function_node program.functions.items)
ProgramTo (Err fault) judged = Faults fault judged
