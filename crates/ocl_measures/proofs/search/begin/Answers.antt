use Rattle.std.proofs.Common.{sym, length, map, rules}
use Rattle.std.proofs.lemmas.List.{length-map}
use Rattle.ocl_program.specs.Shapes.{function_node}
use Rattle.ocl_measures.proofs.Beginning.{search_begins}
use Rattle.ocl_measures.proofs.search.begin.Goals as goal

pub returns : goal.returns
returns c =
    search_begins (map function_node c.args.functions.now) c.in_ok-marks.marks.items c.in_ok-totals.totals.items c.new.result.items c.in_ok-todo.todo.items _ (length c.args.functions.now)
    (sym (length-map c.args.functions.now function_node)) (c.in_ok-marks.ensures.items_if_clones_equal (λ y e. search rules)) (c.in_ok-totals.ensures.items_if_clones_equal (λ y e. search rules))
    c.new.ensures.items c.in_ok-todo.ensures
