use Rattle.std.proofs.Common.{map}
use Rattle.ocl_ast.specs.Shapes.{unit_trees}
use Rattle.ocl_program.specs.Shapes.{function_node}
use Rattle.vx_cc.specs.Fronts.{Reads, HasProgram}
use Rattle.vx_cc.proofs.FrontLaws.{ok_map}
use Rattle.vx_cc.proofs.sources.front.Goals as goal

pub returns-clause-program : goal.returns-clause-program
returns-clause-program c =
    let functions = unit_trees c.in_ok-unit.unit in
    let reads : Reads c.args.source.now functions = record {
      tokens = c.in_ok-tokens.tokens;
      lexed = c.in_ok-tokens.ensures.tokens;
      derives = c.in_ok-unit.ensures.derives;
      within = c.in_ok-unit.ensures.within;
    } in
    ok_map c.program_from.result _ _ (λ program is. HasProgram functions (map function_node program.functions.items) reads is) c.program_from.ensures.program
