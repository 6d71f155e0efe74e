use Rattle.std.proofs.Common.{refl, sym, ap, ◌∙◌, ◌++◌, ◌<◌, subst, length, map, option_map, arith, rules}
use Rattle.std.proofs.lemmas.List.{length-map}
use Rattle.std.proofs.lemmas.Option.{slice_get-map, slice_get_read}
use Rattle.ocl_program.specs.Shapes.{function_node}
use Rattle.ocl_program.specs.declared.functions.CallSite.{CallSite}
use Rattle.ocl_program.specs.declared.functions.TypedFunction.{TypedFunction}
use Rattle.ocl_measures.specs.Search.{IsTaken, met_at}
use Rattle.ocl_measures.proofs.Meeting.{itself_not_reached, itself_reached, met_within, no_function, one_met, reached_more, search_for}
use Rattle.ocl_measures.proofs.recursion.is_recursive.Goals as goal

pub returns-in-None : goal.returns-in-None
returns-in-None c = no_function c.args.functions.now c.args.function c.in-None.ensures.lookup.3

pub loop-callee-init : goal.loop-callee-init
loop-callee-init c =
    search_for c.args.functions.now c.args.function c.in-Some.first.now c.in_ok-met.met.items c.push_callees.new.todo.items c.new-todo.result.items (map (λ (c : CallSite). c.callee) c.as_slice.result.now)
    (slice_get_read c.args.functions.now (length c.args.functions.now) c.args.function c.in-Some.first.now refl c.in-Some.ensures.lookup.3.0 c.in-Some.ensures.lookup.1) (c.in_ok-met.ensures.items_if_clones_equal (λ y e. search rules)) c.in_ok-push_callees-in-Some.ensures c.new-todo.ensures.items
    (ap (map (λ (c : CallSite). c.callee)) c.as_slice.ensures.value)

pub returns-then-callee-function : goal.returns-then-callee-function
returns-then-callee-function c =
    let met = c.loop-callee.met.items in let todo = c.loop-callee.todo.items in let left = c.take_new.new.todo.items in let callee = c.in-Some-take_new.callee in
    let taken : IsTaken met todo left callee = subst (λ ms. IsTaken ms todo left callee) c.as_slice-in-loop-callee.ensures.value c.in-Some-take_new.ensures.some in
    itself_reached (map function_node c.args.functions.now) c.args.function callee met todo left c.loop-callee.invariant taken c.if-callee-function.true

pub bounds-functions-place : goal.bounds-functions-place
bounds-functions-place c =
    let met = c.loop-callee.met.items in let todo = c.loop-callee.todo.items in let left = c.take_new.new.todo.items in let callee = c.in-Some-take_new.callee in
    let taken : IsTaken met todo left callee = subst (λ ms. IsTaken ms todo left callee) c.as_slice-in-loop-callee.ensures.value c.in-Some-take_new.ensures.some in
    let below : callee < length met = met_within met callee taken.new in
    let many = c.loop-callee.invariant.many in
    omega (arith, length-map c.args.functions.now function_node)

pub index_mut-requires : goal.index_mut-requires
index_mut-requires c =
    let met = c.loop-callee.met.items in let todo = c.loop-callee.todo.items in let left = c.take_new.new.todo.items in let callee = c.in-Some-take_new.callee in
    let taken : IsTaken met todo left callee = subst (λ ms. IsTaken ms todo left callee) c.as_slice-in-loop-callee.ensures.value c.in-Some-take_new.ensures.some in
    let below : callee < length met = met_within met callee taken.new in
    omega arith

pub loop-callee-smaller : goal.loop-callee-smaller
loop-callee-smaller c =
    let met = c.loop-callee.met.items in let todo = c.loop-callee.todo.items in let left = c.take_new.new.todo.items in let callee = c.in-Some-take_new.callee in
    let taken : IsTaken met todo left callee = subst (λ ms. IsTaken ms todo left callee) c.as_slice-in-loop-callee.ensures.value c.in-Some-take_new.ensures.some in
    one_met met callee taken.new

pub loop-callee-preserved : goal.loop-callee-preserved
loop-callee-preserved c =
    let met = c.loop-callee.met.items in let todo = c.loop-callee.todo.items in let left = c.take_new.new.todo.items in let callee = c.in-Some-take_new.callee in let fs = c.args.functions.now in let f = c.index-functions-place.result in
    let taken : IsTaken met todo left callee = subst (λ ms. IsTaken ms todo left callee) c.as_slice-in-loop-callee.ensures.value c.in-Some-take_new.ensures.some in
    let below : callee < length met = met_within met callee taken.new in
    let many = c.loop-callee.invariant.many in
    reached_more (map function_node fs) c.args.function callee (function_node f) met _ todo left c.push_callees-in-Some-take_new.new.todo.items c.loop-callee.invariant taken c.if-callee-function.false
    (slice_get-map function_node fs callee ∙ ap (option_map function_node) (slice_get_read fs (length fs) callee f refl (omega (arith, length-map fs function_node)) c.index-functions-place.is))
    refl (c.in_ok-push_callees.ensures ∙ ap (λ l. left ++ map (λ (c : CallSite). c.callee) l) c.as_slice-in-Some-take_new.ensures.value
    ∙ ap (λ (g : TypedFunction). left ++ map (λ (c : CallSite). c.callee) g.calls.items) (sym c.index-functions-place.is))

pub returns : goal.returns
returns c =
    let met = c.loop-callee.met.items in let todo = c.loop-callee.todo.items in
    itself_not_reached (map function_node c.args.functions.now) c.args.function met todo c.loop-callee.invariant
    (λ v from. ap (λ ms. met_at ms v) (sym c.as_slice-in-loop-callee.ensures.value) ∙ c.in_default.ensures.none v from)
