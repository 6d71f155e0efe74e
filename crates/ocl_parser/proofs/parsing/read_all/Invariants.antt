use Rattle.std.proofs.Common.{map, take}
use Rattle.ocl_ast.specs.Shapes.{function_tree}
use Rattle.ocl_parser.proofs.RunSteps.{HasRead, HasEnded}
use Rattle.ocl_parser.proofs.UnitClosing.{CanBe}
use Rattle.ocl_parser.proofs.UnitLimits.{RunFits}
use Rattle.ocl_parser.proofs.parsing.read_all.Given as goal

abbrev pub invariant-loop-token : goal.invariant-loop-token
invariant-loop-token l = record {
  reads : HasRead (take l.token-index l.tokens) l.focus (map function_tree l.functions);
  ended : HasEnded (take l.token-index l.tokens) l.focus;
  can : CanBe l.focus;
  fits : RunFits l.focus (map function_tree l.functions);
}
