use Rattle.std.proofs.Common.{◌≡◌, ◌<◌, ◌^◌, Ok, map, length, ap, subst, sym, ◌∙◌, List, arith}
use Rattle.std.proofs.lemmas.List.{length-map}
use Rattle.ocl_ast.specs.Shapes.{function_tree}
use Rattle.ocl_ast.specs.declared.units.Function.{Function}
use Rattle.ocl_ast.specs.declared.units.Unit.{Unit as UnitOf}
use Rattle.ocl_program.specs.Shapes.{function_node}
use Rattle.ocl_program.specs.declared.functions.TypedFunction.{TypedFunction}
use Rattle.ocl_measures.specs.Totals.{AreTotals}
use Rattle.ocl_measures.specs.declared.sizes.Totals.{Totals}
use Rattle.ocl_types.specs.Answers.{with_bodies}
use Rattle.ocl_types.specs.Functions.{bodies_of, placed_by, program_of, within_limits}
use Rattle.ocl_types.specs.Tables.{trees_of}
use Rattle.ocl_types.proofs.Filing.{file_typed}
use Rattle.ocl_types.proofs.Placing.{all_placed_same}
use Rattle.ocl_check.proofs.Files.{placed_counted, placed_measured, resolved_counted}
use Rattle.ocl_check.proofs.file.check.Goals as goal

pub limited_totals-requires : goal.limited_totals-requires
limited_totals-requires c =
    let seen : c.as_slice.result.now ≡ c.args.unit.functions = c.as_slice.ensures ∙ ap (λ (u : UnitOf). u.functions) c.unit.view_is in
    let bodies = c.in_ok-bodies.bodies.items in
    let ok : map function_node c.in_ok-functions.functions.items ≡ with_bodies (trees_of c.as_slice.result.now) bodies =
    c.in_ok-functions.ensures.ok ∙ sym (ap (λ (l : List Function). with_bodies (trees_of l) bodies) c.as_slice.ensures) in
    let many : length c.in_ok-functions.functions.items ≡ length (trees_of c.as_slice.result.now) = resolved_counted c.in_ok-functions.functions.items (trees_of c.as_slice.result.now) bodies ok c.in_ok-bodies.ensures.1 in
    let trees : length (trees_of c.as_slice.result.now) ≡ length c.as_slice.result.now = length-map c.as_slice.result.now function_tree in
    let given : length c.as_slice.result.now ≡ length c.args.unit.functions = ap length seen in
    let slice : length c.as_slice-2.result.now ≡ length c.in_ok-functions.functions.items = ap length c.as_slice-2.ensures.value in
    omega (arith, many, trees, given, slice, c.requires)

pub invariant_of-result : goal.invariant_of-result
invariant_of-result c =
    let seen : c.as_slice.result.now ≡ c.args.unit.functions = c.as_slice.ensures ∙ ap (λ (u : UnitOf). u.functions) c.unit.view_is in
    let bodies = c.in_ok-bodies.bodies.items in
    let functions = c.in_ok-functions.functions.items in
    let placed = c.in_ok-functions-2.functions.items in
    let totals = c.in_ok-totals.totals.items in
    let ok : map function_node functions ≡ with_bodies (trees_of c.as_slice.result.now) bodies =
    c.in_ok-functions.ensures.ok ∙ sym (ap (λ (l : List Function). with_bodies (trees_of l) bodies) c.as_slice.ensures) in
    let many : length functions ≡ length (trees_of c.as_slice.result.now) = resolved_counted functions (trees_of c.as_slice.result.now) bodies ok c.in_ok-bodies.ensures.1 in
    let trees : length (trees_of c.as_slice.result.now) ≡ length c.as_slice.result.now = length-map c.as_slice.result.now function_tree in
    let given : length c.as_slice.result.now ≡ length c.args.unit.functions = ap length seen in
    let are : AreTotals (map function_node functions) (length (map function_node functions)) totals =
    subst (λ (l : List TypedFunction). AreTotals (map function_node l) (length (map function_node l)) totals) c.as_slice-2.ensures.value c.in_ok-totals.ensures.1 in
    let put : map function_node placed ≡ map (placed_by totals) (map function_node functions) =
    c.in_ok-functions-2.ensures.ok ∙ ap (λ (l : List Totals). map (placed_by l) (map function_node functions)) c.as_slice-3.ensures.value in
    let same : length placed ≡ length functions = placed_counted functions placed totals put in
    let few : length placed < 2 ^ 32 = omega (arith, many, trees, given, same, c.requires) in
    let fs = trees_of c.as_slice.result.now in
    let typed : bodies_of fs ≡ Ok (map function_node functions) = c.in_ok-bodies.ensures.0 ∙ ap Ok (sym ok) in
    let within : within_limits (map function_node functions) ≡ Ok tt = ap (λ (l : List TypedFunction). within_limits (map function_node l)) (sym c.as_slice-2.ensures.value) ∙ c.in_ok-totals.ensures.0 in
    record {
      few = few;
      measured = placed_measured functions placed totals put are;
      typed = ∣ record {
        functions = fs;
        typed = file_typed fs (map function_node functions) (map function_node placed) typed within (put ∙ all_placed_same (map function_node functions) totals are);
      } ∣₁;
    }

pub returns : goal.returns
returns c =
    let seen : c.as_slice.result.now ≡ c.args.unit.functions = c.as_slice.ensures ∙ ap (λ (u : UnitOf). u.functions) c.unit.view_is in
    let bodies = c.in_ok-bodies.bodies.items in
    let functions = c.in_ok-functions.functions.items in
    let placed = c.in_ok-functions-2.functions.items in
    let totals = c.in_ok-totals.totals.items in
    let fs = trees_of c.as_slice.result.now in
    let ok : map function_node functions ≡ with_bodies fs bodies =
    c.in_ok-functions.ensures.ok ∙ sym (ap (λ (l : List Function). with_bodies (trees_of l) bodies) c.as_slice.ensures) in
    let typed : bodies_of fs ≡ Ok (map function_node functions) = c.in_ok-bodies.ensures.0 ∙ ap Ok (sym ok) in
    let within : within_limits (map function_node functions) ≡ Ok tt = ap (λ (l : List TypedFunction). within_limits (map function_node l)) (sym c.as_slice-2.ensures.value) ∙ c.in_ok-totals.ensures.0 in
    let are : AreTotals (map function_node functions) (length (map function_node functions)) totals =
    subst (λ (l : List TypedFunction). AreTotals (map function_node l) (length (map function_node l)) totals) c.as_slice-2.ensures.value c.in_ok-totals.ensures.1 in
    let put : map function_node placed ≡ map (placed_by totals) (map function_node functions) =
    c.in_ok-functions-2.ensures.ok ∙ ap (λ (l : List Totals). map (placed_by l) (map function_node functions)) c.as_slice-3.ensures.value in
    ap (λ (l : List Function). program_of (trees_of l)) (sym seen) ∙
    file_typed fs (map function_node functions) (map function_node placed) typed within (put ∙ all_placed_same (map function_node functions) totals are)
