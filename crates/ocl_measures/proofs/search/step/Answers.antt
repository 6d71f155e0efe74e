use Rattle.std.proofs.Common.{sym, ap, ◌∙◌, ◌++◌, ◌∷◌, [], map, option_map, arith, rules}
use Rattle.std.proofs.lemmas.List.{length-map}
use Rattle.std.proofs.lemmas.Option.{slice_get-map}
use Rattle.ocl_program.specs.Shapes.{function_node}
use Rattle.ocl_measures.proofs.Searching.{call_dropped, cycle_found, function_left, function_within, left_unseen}
use Rattle.ocl_measures.proofs.Stacks.{read_there}
use Rattle.ocl_measures.proofs.search.step.Goals as goal

pub finish-requires-clause-within : goal.finish-requires-clause-within
finish-requires-clause-within c =
    let s = c.args.search.now in
    let inside = function_within (map function_node c.args.functions.now) s.marks.items s.totals.items s.path.items c.pop-in-None.new.self.items s.todo.items c.in-Some-pop.frame c.requires c.in-Some-pop.ensures.items in
    omega (arith, length-map c.args.functions.now function_node)

pub returns-in-Open-clause-found : goal.returns-in-Open-clause-found
returns-in-Open-clause-found c =
    let s = c.args.search.now in
    cycle_found (map function_node c.args.functions.now) s.marks.items s.totals.items s.path.items s.todo.items c.in-Some.callee c.requires (search rules) (search rules)

pub returns-in-Done-clause-kept : goal.returns-in-Done-clause-kept
returns-in-Done-clause-kept c =
    let s = c.args.search.now in
    call_dropped (map function_node c.args.functions.now) s.marks.items s.totals.items s.path.items s.todo.items c.pop.new.self.items c.pop.result c.in-Some.callee c.requires (search rules) (search rules) c.pop.ensures.items

pub returns-in-Some-pop-clause-kept : goal.returns-in-Some-pop-clause-kept
returns-in-Some-pop-clause-kept c =
    let s = c.args.search.now in let t = c.finish.new.search in let b = c.in-Some-pop.frame in let fs = c.args.functions.now in
    let inside = function_within (map function_node fs) s.marks.items s.totals.items s.path.items c.pop-in-None.new.self.items s.todo.items b c.requires c.in-Some-pop.ensures.items in
    let found = read_there fs b.function (omega (arith, length-map fs function_node)) in
    function_left (map function_node fs) s.marks.items t.marks.items s.totals.items t.totals.items s.path.items t.path.items s.todo.items t.todo.items b (function_node found.item)
    c.requires (search rules) (slice_get-map function_node fs b.function ∙ ap (option_map function_node) found.there) (c.in-Some-pop.ensures.items ∙ ap (λ p. p ++ b ∷ []) (sym c.finish.ensures.path))
    c.finish.ensures.marks (c.finish.ensures.totals found.item found.there) c.finish.ensures.todo

pub returns-in-Some-pop-clause-unseen : goal.returns-in-Some-pop-clause-unseen
returns-in-Some-pop-clause-unseen c =
    let s = c.args.search.now in let t = c.finish.new.search in let b = c.in-Some-pop.frame in
    left_unseen (map function_node c.args.functions.now) s.marks.items t.marks.items s.totals.items s.path.items c.pop-in-None.new.self.items s.todo.items b c.requires c.in-Some-pop.ensures.items c.finish.ensures.marks
