use Rattle.std.proofs.Common.{◌≡◌, map, sym, ap, ◌∙◌, arith}
use Rattle.std.specs.Iterator.Adapters.{zip_first, zip_second}
use Rattle.std.specs.Vec.Iter.{into_iter_items, into_iter_len}
use Rattle.std.proofs.lemmas.Iterator.{YieldsList-from_zip}
use Rattle.std.proofs.lemmas.Iterator.Adapters.{YieldsList-from_vec}
use Rattle.std.proofs.lemmas.Iterator.Consumers.{YieldsList-end}
use Rattle.ocl_ast.specs.Shapes.{function_tree}
use Rattle.ocl_ast.specs.declared.units.Function.{Function}
use Rattle.ocl_types.specs.Answers.{with_body}
use Rattle.ocl_types.specs.declared.bodies.TypedBody.{TypedBody}
use Rattle.ocl_types.proofs.Filing.{pairs_kept, with_bodies_is}
use Rattle.ocl_types.proofs.file.all_resolved.Goals as goal

pub returns-clause-ok : goal.returns-clause-ok
returns-clause-ok c =
    let given = c.into_iter-function-iterator.ensures.into_iter_gives in
    let first = c.zip-function-items.ensures.first in
    let second = c.zip-function-items.ensures.second in
    let functions = YieldsList-from_vec {s = zip_first c.into_iter-function-iterator.result} c.args.functions.items
    (ap (λ s. into_iter_items (zip_first s)) given ∙ ap into_iter_items first ∙ c.into_iter.ensures.rest) (ap (λ s. into_iter_len (zip_first s)) given ∙ ap into_iter_len first ∙ c.into_iter.ensures.len ∙ c.args.functions.ok.0) in
    let bodies = YieldsList-from_vec {s = zip_second c.into_iter-function-iterator.result} c.args.bodies.items
    (ap (λ s. into_iter_items (zip_second s)) given ∙ second.0) (ap (λ s. into_iter_len (zip_second s)) given ∙ second.1 ∙ c.args.bodies.ok.0) in
    let end = YieldsList-end (YieldsList-from_zip functions bodies) c.loop-function.yielded c.loop-function.function-iterator c.loop-function.yielded_by c.next.result c.next.new.self c.in-None.is c.next.ensures.steps in
    c.loop-function.invariant ∙ ap (map (λ (p : Function × TypedBody). with_body (function_tree p.0) p.1)) (sym (pairs_kept c.loop-function.yielded) ∙ end.0) ∙
    with_bodies_is c.args.functions.items c.args.bodies.items
