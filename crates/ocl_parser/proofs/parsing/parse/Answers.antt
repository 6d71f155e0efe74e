use Rattle.std.proofs.Common.{◌≡◌, [], map, Some, rules}
use Rattle.ocl_ast.specs.Shapes.{function_tree}
use Rattle.ocl_parser.specs.Runs.{run}
use Rattle.ocl_parser.specs.declared.states.UnitFocus.TheVariants.{Outside}
use Rattle.ocl_parser.proofs.UnitOrder.{run_derives}
use Rattle.ocl_parser.proofs.parsing.parse.Goals as goal

pub returns-clause-derives : goal.returns-clause-derives
returns-clause-derives c =
    let h : run Outside [] c.args.tokens.now ≡ Some (map function_tree c.in_ok-functions.functions) = search rules in
    run_derives c.args.tokens.now (map function_tree c.in_ok-functions.functions) h
