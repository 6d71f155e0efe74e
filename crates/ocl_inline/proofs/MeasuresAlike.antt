-- The measures of a flat kernel are those of its function with its calls expanded.
use Rattle.std.proofs.Common.{◌≡◌, refl, sym, ap, ◌∙◌, ℕ, zero, suc, ◌+◌, ◌<◌, List, [], ◌∷◌, map, length, slice_get, None, Some, arith}
use Rattle.ocl_program.specs.declared.functions.CallSite.{CallSite}
use Rattle.ocl_program.specs.Measures.{expanded as measured_by, greatest, measured, of_function, own_calls, stmts_control, stmts_depth, stmts_size, where_some}
use Rattle.ocl_program.specs.Nodes.{FunctionNode, StmtNodes}
use Rattle.ocl_sem.specs.Items.{kernel_scope}
use Rattle.ocl_sem.specs.Source.{Scope, scope_at}
use Rattle.ocl_inline.specs.Expansion.{Bodies, expanded, flat_stmts, kernel_flat}
use Rattle.ocl_inline.specs.FlatLaws.{HaveMeasures}
use Rattle.ocl_inline.specs.FlatMeasures.{flat_calls, flat_control, flat_depth, flat_nodes}
use Rattle.program_laws.specs.Formed.{IsFormed, IsSmall, stmts_calls}
use Rattle.program_laws.specs.Laws.{Settles}
use Rattle.ocl_inline.proofs.Sound.{IsSound, OfSmallFunctions}
use Rattle.ocl_inline.specs.Trees.{FlatStmts, NoFlats}
use Rattle.ocl_inline.proofs.CallMeasures.{CallsMeasure, by_body, measured_alike}
use Rattle.ocl_inline.proofs.CallsReached.{reaches_fact, stmts_reach, with_call}
use Rattle.ocl_inline.proofs.ControlKept.{stmts_control_kept}
use Rattle.ocl_inline.proofs.Counts.{by_row, rows_in_order}
use Rattle.ocl_inline.proofs.DepthKept.{stmts_depth_kept}
use Rattle.ocl_inline.proofs.NodesKept.{stmts_nodes_kept}

-- one more level of calls than there are functions has no more than all levels
one_level_more : (own : FunctionNode → (ℕ → ℕ) → ℕ) (program : List FunctionNode) → Settles own program → (k : ℕ) (f : FunctionNode) → slice_get program k ≡ Some f
    → measured_by own program (suc (length program)) k ≡ measured own program k
unfolding measured_by
one_level_more own program settles k f e = ap (of_function own (measured own program)) e ∙ sym (settles k f e)

kernel_measured : (measure : FlatStmts → ℕ) (source : (ℕ → ℕ) → StmtNodes → ℕ) → measure NoFlats ≡ 0
    → ((bodies : Bodies) (program : List FunctionNode) (scope : Scope) (inner : ℕ → ℕ) → CallsMeasure measure bodies program scope inner → (ss : StmtNodes)
    → measure (flat_stmts bodies program scope ss) ≡ source inner ss)
    → (program : List FunctionNode) → Settles (by_body source) program → (number : ℕ) (kernel : FunctionNode) → slice_get program number ≡ Some kernel
    → measure (kernel_flat program number kernel).body ≡ measured (by_body source) program number
unfolding expanded
kernel_measured measure source none kept program settles number kernel e =
    measured_alike measure source none kept program (suc (length program)) number (kernel_scope kernel) e
    ∙ one_level_more (by_body source) program settles number kernel e

-- ---- calls inside one another

map_map : {A B C : Type 0} (g : B → C) (f : A → B) (xs : List A) → map g (map f xs) ≡ map (λ x. g (f x)) xs
map_map g f [] = refl
map_map g f (x ∷ xs) = ap (λ ys. g (f x) ∷ ys) (map_map g f xs)

past_the_end : {A : Type 0} (xs : List A) (k : ℕ) → k < length xs → slice_get xs k ≡ None → ⊥
past_the_end [] k below e = omega arith
past_the_end (x ∷ xs) zero below e = cc
past_the_end (x ∷ xs) (suc k) below e = past_the_end xs k (omega arith) e

-- a call of a row, and what is called from it
abbrev row_calls : (ℕ → ℕ) → CallSite → ℕ
row_calls inner site = inner site.callee + 1

rows_reach : (program : List FunctionNode) (f : FunctionNode) (inner : ℕ → ℕ) → IsFormed program f
    → greatest (map (by_row f.calls (row_calls inner)) (stmts_calls f.body)) ≡ own_calls f inner
rows_reach program f inner formed =
    ap (λ cs. greatest (map (by_row f.calls (row_calls inner)) cs)) formed.calls
    ∙ ap greatest (rows_in_order f.calls (row_calls inner))
    ∙ ap greatest (sym (map_map (λ callee. inner callee + 1) (λ (c : CallSite). c.callee) f.calls))

pub calls_alike : (program : List FunctionNode) → IsSound program → (levels k : ℕ) (scope : Scope) → IsSmall program k → slice_get program k ≡ Some scope.function
    → flat_calls (expanded levels program scope) ≡ measured_by own_calls program levels k
unfolding expanded measured_by
calls_alike program sound zero k scope small e = refl
calls_alike program sound (suc levels) k scope small e =
    let f : FunctionNode = scope.function in
    let inner : ℕ → ℕ = measured_by own_calls program levels in
    let formed : IsFormed program f = sound.formed k f small e in
    let have : CallsMeasure with_call (expanded levels program) program scope (by_row f.calls (row_calls inner)) = record {
      body = λ call args site callee e' e''.
          ap (λ n. n + 1) (calls_alike program sound levels site.callee (scope_at scope site callee args) (sound.callees k call f site small e e') e'')
          ∙ sym (ap (where_some (row_calls inner)) e');
      no_callee = λ call site e' e''. absurd (past_the_end program site.callee (formed.callees call site e') e'');
      no_site = λ call e'. ap (where_some (row_calls inner)) e';
    } in
    reaches_fact (by_row f.calls (row_calls inner)) (flat_calls (flat_stmts (expanded levels program) program scope f.body)) (stmts_calls f.body)
    (stmts_reach (expanded levels program) program scope (by_row f.calls (row_calls inner)) have f.body)
    ∙ rows_reach program f inner formed
    ∙ sym (ap (of_function own_calls inner) e)

pub measures_kept : OfSmallFunctions HaveMeasures
unfolding expanded
measures_kept program sound number kernel small e = record {
  nodes = kernel_measured flat_nodes stmts_size refl stmts_nodes_kept program sound.nodes number kernel e;
  depth = kernel_measured flat_depth stmts_depth refl stmts_depth_kept program sound.depth number kernel e;
  control = kernel_measured flat_control stmts_control refl stmts_control_kept program sound.control number kernel e;
  calls = calls_alike program sound (suc (length program)) number (kernel_scope kernel) small e ∙ one_level_more own_calls program sound.calls number kernel e;
}
