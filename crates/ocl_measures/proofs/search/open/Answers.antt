use Rattle.std.proofs.Common.{refl, sym, ap, ◌∙◌, ◌++◌, ◌∷◌, [], ◌<◌, set, map, option_map, length, rules}
use Rattle.std.proofs.lemmas.Option.{slice_get-map, slice_get_read}
use Rattle.ocl_program.specs.Shapes.{function_node}
use Rattle.ocl_program.specs.declared.functions.CallSite.{CallSite}
use Rattle.ocl_program.specs.declared.functions.TypedFunction.{TypedFunction}
use Rattle.ocl_measures.specs.declared.search.Mark.TheVariants.{Open}
use Rattle.ocl_measures.proofs.Searching.{function_opened, met_within, opened_unseen}
use Rattle.ocl_measures.proofs.search.open.Goals as goal

pub returns-clause-kept : goal.returns-clause-kept
returns-clause-kept c =
    let s = c.args.search.now in let fs = c.args.functions.now in let k = c.args.function in let f = c.index-functions-place.result in
    let inside : k < length fs = met_within fs s.marks.items k (c.requires.search.many) c.requires.next.1 in
    function_opened (map function_node fs) s.marks.items (set s.marks.items k Open) s.totals.items s.path.items c.push.new.self.items s.todo.items c.push_callees.new.todo.items
    (record { function = k; floor = length s.todo.items }) (function_node f) c.requires.search c.requires.next.0 c.requires.next.1
    (slice_get-map function_node fs k ∙ ap (option_map function_node) (slice_get_read fs (length fs) k f refl inside c.index-functions-place.is))
    refl (c.in_ok-push.ensures.items ∙ ap (λ n. s.path.items ++ record { function = k; floor = n } ∷ []) (search rules))
    (c.in_ok-push_callees.ensures ∙ ap (λ l. s.todo.items ++ map (λ (c : CallSite). c.callee) l) c.as_slice.ensures.value
    ∙ ap (λ (g : TypedFunction). s.todo.items ++ map (λ (c : CallSite). c.callee) g.calls.items) (sym c.index-functions-place.is)) refl

pub returns-clause-unseen : goal.returns-clause-unseen
returns-clause-unseen c =
    let s = c.args.search.now in
    opened_unseen s.marks.items (set s.marks.items c.args.function Open) c.args.function c.requires.next.1 refl
