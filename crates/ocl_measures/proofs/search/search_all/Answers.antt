use Rattle.std.proofs.Common.{map}
use Rattle.ocl_program.specs.Shapes.{function_node}
use Rattle.ocl_measures.proofs.Beginning.{search_ended}
use Rattle.ocl_measures.proofs.search.search_all.Goals as goal

pub returns-in-Nothing : goal.returns-in-Nothing
returns-in-Nothing c =
    let t = c.run.new.search in
    search_ended (map function_node c.args.functions.now) t.marks.items t.totals.items t.path.items t.todo.items c.run.ensures.kept c.in-Nothing.ensures.found.0 c.in-Nothing.ensures.found.1
