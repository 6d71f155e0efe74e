-- The functions of a file keep their number, and their totals, while their blocks are typed and their calls placed.
use Rattle.std.proofs.Common.{◌≡◌, ℕ, List, [], ◌∷◌, map, length, refl, sym, ap, subst, ◌∙◌, arith}
use Rattle.std.proofs.lemmas.List.{length-map}
use Rattle.ocl_ast.specs.Trees.{FunctionTree}
use Rattle.ocl_program.specs.Nodes.{FunctionNode}
use Rattle.ocl_program.specs.Shapes.{function_node}
use Rattle.ocl_program.specs.declared.functions.TypedFunction.{TypedFunction}
use Rattle.ocl_measures.specs.Totals.{AreTotals}
use Rattle.ocl_measures.specs.declared.sizes.Totals.{Totals}
use Rattle.ocl_types.specs.declared.bodies.TypedBody.{TypedBody}
use Rattle.ocl_types.specs.Answers.{with_bodies}
use Rattle.ocl_types.specs.Functions.{placed_by}
use Rattle.ocl_types.proofs.Placing.{totals_kept}

bodies_counted : (fs : List FunctionTree) (bodies : List TypedBody) → length bodies ≡ length fs → length (with_bodies fs bodies) ≡ length fs
bodies_counted [] bodies same = refl
bodies_counted (f ∷ fs) [] same = absurd (omega arith)
bodies_counted (f ∷ fs) (body ∷ bodies) same =
    let rest : length (with_bodies fs bodies) ≡ length fs = bodies_counted fs bodies (omega arith) in
    omega arith

pub resolved_counted : (functions : List TypedFunction) (fs : List FunctionTree) (bodies : List TypedBody) → map function_node functions ≡ with_bodies fs bodies → length bodies ≡ length fs → length functions ≡ length fs
resolved_counted functions fs bodies is same = sym (length-map functions function_node) ∙ ap length is ∙ bodies_counted fs bodies same

pub placed_counted : (functions placed : List TypedFunction) (totals : List Totals) → map function_node placed ≡ map (placed_by totals) (map function_node functions) → length placed ≡ length functions
placed_counted functions placed totals is =
    sym (length-map placed function_node) ∙ ap length is ∙ length-map (map function_node functions) (placed_by totals) ∙ length-map functions function_node

pub placed_measured : (functions placed : List TypedFunction) (totals : List Totals) → map function_node placed ≡ map (placed_by totals) (map function_node functions) →
    AreTotals (map function_node functions) (length (map function_node functions)) totals → AreTotals (map function_node placed) (length placed) totals
placed_measured functions placed totals is are =
    let program : List FunctionNode = map function_node functions in
    let many : length program ≡ length placed = length-map functions function_node ∙ sym (placed_counted functions placed totals is) in
    subst (λ (n : ℕ). AreTotals (map function_node placed) n totals) many
    (subst (λ (p : List FunctionNode). AreTotals p (length program) totals) (sym is) (totals_kept program (length program) totals are))
