-- A function that is small with its calls expanded is formed: the cuts in its typing did nothing.
use Rattle.std.proofs.Common.{◌≡◌, refl, sym, ap, ◌∙◌, subst, ℕ, zero, suc, ◌+◌, ◌<◌, ◌≤◌, List, [], ◌∷◌, ◌++◌, map, length, slice_get, Some, option_map, arith}
use Rattle.std.specs.Prelude.{count_by}
use Rattle.std.specs.List.{range_with_len}
use Rattle.std.proofs.lemmas.List.{length-append, length-map}
use Rattle.std.proofs.lemmas.Option.{slice_get-map}
use Rattle.ocl_ast.specs.Trees.{FunctionTree}
use Rattle.ocl_program.specs.declared.functions.CallSite.{CallSite}
use Rattle.ocl_program.specs.Measures.{cut, at_call, callees, measured, own_nodes, own_sites, own_variables}
use Rattle.ocl_program.specs.Nodes.{FunctionNode, StmtNode, stmt_nodes}
use Rattle.ocl_sem.specs.Source.{is_scalar}
use Rattle.ocl_types.specs.Stmts.{Standing}
use Rattle.ocl_types.specs.Functions.{IsProgram, at_start, bare_call, made_of, placed, sites_from}
use Rattle.program_laws.specs.Formed.{AreBelow, IsFormed, IsSmall, counted_up, stmts_arrays, stmts_calls, stmts_declared, stmts_sites, stmts_variables}
use Rattle.program_laws.proofs.Pieces.{InOrder, Counts, Moves, in_stmts, joined, most, moves_both, named}
use Rattle.program_laws.proofs.Bodies.{Typing, Made, program_made, based, behind_of}
use Rattle.program_laws.proofs.NoRecursion.{placed_callees}
use Rattle.program_laws.proofs.Settling.{measures_settle}
use Rattle.program_laws.proofs.Keeping.{keeps_sites, keeps_variables, measured_kept}
use Rattle.program_laws.proofs.Weights.{weight, counted_by_weight, body_load}

-- ---- numbers that are not cut

uncut : (n a : ℕ) → a + n ≤ most → map cut (range_with_len a n) ≡ range_with_len a n
uncut zero a fits = refl
uncut (suc n) a fits =
    let here : cut a ≡ a = omega arith in
    ap (λ (x : ℕ). x ∷ map cut (range_with_len (a + 1) n)) here ∙ ap (λ (xs : List ℕ). a ∷ xs) (uncut n (a + 1) (omega arith))

-- few numbers in order are counted up
pub counted_in_order : (ns : List ℕ) (n : ℕ) → InOrder ns → cut n ≡ cut (length ns) → length ns < most → ns ≡ counted_up 0 n
counted_in_order ns n ordered same few =
    let number : length ns ≡ n = omega arith in
    ordered ∙ uncut (length ns) 0 (omega arith) ∙ ap (counted_up 0) number

pub below_at : (bound : ℕ) (ns : List ℕ) (i n : ℕ) → AreBelow bound ns → slice_get ns i ≡ Some n → n < bound
below_at bound [] i n h e = cc
below_at bound (m ∷ ns) zero n h e = let same : m ≡ n = cc in subst (λ (x : ℕ). x < bound) same h.0
below_at bound (m ∷ ns) (suc i) n h e = below_at bound ns i n h.1 e

-- ---- the table of calls

bare_callees : (ks : List ℕ) → map (λ (c : CallSite). c.callee) (map bare_call ks) ≡ ks
bare_callees [] = refl
bare_callees (k ∷ ks) = ap (λ (xs : List ℕ). k ∷ xs) (bare_callees ks)

table_counted : (V S : ℕ → ℕ) (v s : ℕ) (ks : List ℕ) → length (sites_from V S v s ks) ≡ length ks
table_counted V S v s [] = refl
table_counted V S v s (k ∷ ks) = ap suc (table_counted V S (v + V k) (s + S k) ks)

-- the callees in a function's table are those of its typing
made_callees : (base : List FunctionNode) (tree : FunctionTree) (d : List StmtNode × Standing) → callees (placed base (made_of tree d)) ≡ d.1.calls
made_callees base tree d = placed_callees base (made_of tree d) ∙ bare_callees d.1.calls

made_counted : (base : List FunctionNode) (tree : FunctionTree) (d : List StmtNode × Standing) → length (placed base (made_of tree d)).calls ≡ length d.1.calls
made_counted base tree d =
    table_counted (measured own_variables base) (measured own_sites base) d.1.variables d.1.sites (callees (made_of tree d)) ∙ ap (λ (ks : List ℕ). length ks) (bare_callees d.1.calls)

-- ---- a function by its typing

-- a function is small enough that none of its numbers is cut
pub record IsFew (f : FunctionNode) : Type 0 where
  pub variables : f.variables < most
  pub calls : length (stmts_calls f.body) < most
  pub sites : length (stmts_sites f.body) < most
  pub arrays : length (stmts_arrays f.body) < most

made_formed : (program : List FunctionNode) (made : Made program) (node : FunctionNode) (typing : Typing made.functions node)
    → IsFew (placed made.base (made_of typing.tree typing.made)) → IsFormed program (placed made.base (made_of typing.tree typing.made))
made_formed program made node typing few =
    let all = behind_of made.functions node typing in
    let moves : Moves (length made.functions) at_start (joined (named all.names) (in_stmts (stmt_nodes typing.made.0))) typing.made.1 = moves_both all.params all.body in
    let names : length (all.names ++ stmts_declared (stmt_nodes typing.made.0)) ≡ length all.names + length (stmts_declared (stmt_nodes typing.made.0)) =
    length-append all.names (stmts_declared (stmt_nodes typing.made.0)) in
    let each : length all.names ≡ count_by is_scalar typing.tree.params = all.each in
    let declared : typing.made.1.variables ≤ 0 + length (all.names ++ stmts_declared (stmt_nodes typing.made.0)) = moves.declared in
    let body : Counts typing.start (stmts_variables (stmt_nodes typing.made.0)) typing.made.1 = all.body.variables few.variables in
    let more : typing.start.variables ≤ typing.made.1.variables = body.more in
    let inside : typing.start.variables < most = omega (arith, few.variables) in
    let start = all.params.variables inside in
    let scalars : count_by is_scalar typing.tree.params ≤ typing.start.variables = all.scalars inside in
    let sites_counted : typing.made.1.sites ≡ cut (length (stmts_sites (stmt_nodes typing.made.0))) = moves.sites.count [] refl in
    let calls_counted : cut (length typing.made.1.calls) ≡ cut (length (stmts_calls (stmt_nodes typing.made.0))) = moves.calls.count [] refl in
    let arrays_counted : cut (length typing.made.1.arrays) ≡ cut (length (stmts_arrays (stmt_nodes typing.made.0))) = moves.arrays.count [] refl in
    let few_sites : length (stmts_sites (stmt_nodes typing.made.0)) < most = few.sites in
    let long : length made.functions ≡ length program = sym made.counted ∙ sym (length-map made.base (placed made.base)) ∙ ap (λ (fs : List FunctionNode). length fs) made.is in
    record {
      variables = body.below (start.scopes (tt, tt));
      scalars = omega arith;
      declared = omega arith;
      calls = counted_in_order (stmts_calls (stmt_nodes typing.made.0)) (length typing.made.1.calls) (moves.calls.order [] refl refl) calls_counted few.calls
          ∙ ap (counted_up 0) (sym (made_counted made.base typing.tree typing.made));
      sites = counted_in_order (stmts_sites (stmt_nodes typing.made.0)) typing.made.1.sites (moves.sites.order [] refl refl) (omega arith) few_sites;
      arrays = counted_in_order (stmts_arrays (stmt_nodes typing.made.0)) (length typing.made.1.arrays) (moves.arrays.order [] refl refl) arrays_counted few.arrays;
      table =
          ap (λ (V : ℕ → ℕ). sites_from V (measured own_sites made.base) typing.made.1.variables typing.made.1.sites (callees (made_of typing.tree typing.made))) (measured_kept own_variables keeps_variables program made)
          ∙ ap (λ (S : ℕ → ℕ). sites_from (measured own_variables program) S typing.made.1.variables typing.made.1.sites (callees (made_of typing.tree typing.made))) (measured_kept own_sites keeps_sites program made)
          ∙ ap (sites_from (measured own_variables program) (measured own_sites program) typing.made.1.variables typing.made.1.sites) (sym (placed_callees made.base (made_of typing.tree typing.made)));
      callees = λ i site there.
          let callee : slice_get typing.made.1.calls i ≡ Some site.callee =
          ap (λ (ks : List ℕ). slice_get ks i) (sym (made_callees made.base typing.tree typing.made))
          ∙ slice_get-map (λ (c : CallSite). c.callee) (placed made.base (made_of typing.tree typing.made)).calls i ∙ ap (option_map (λ (c : CallSite). c.callee)) there in
          subst (λ (n : ℕ). site.callee < n) long (below_at (length made.functions) typing.made.1.calls i site.callee (moves.callees tt) callee);
    }

-- ---- the law

small_few : (program : List FunctionNode) → IsProgram program → (k : ℕ) (f : FunctionNode) → IsSmall program k → slice_get program k ≡ Some f → IsFew f
small_few program p k f small at =
    let settle = measures_settle program p in
    let variables : measured own_variables program k ≡ own_variables f (measured own_variables program) = settle.variables k f at in
    let nodes : measured own_nodes program k ≡ own_nodes f (measured own_nodes program) = settle.nodes k f at in
    let few_variables : measured own_variables program k ≤ 256 = small.0 in
    let few_nodes : measured own_nodes program k ≤ 16384 = small.1 in
    let load = body_load (at_call f (measured own_nodes program)) f.body in
    let calls : length (stmts_calls f.body) ≤ weight (at_call f (measured own_nodes program)) (stmts_calls f.body) = counted_by_weight (at_call f (measured own_nodes program)) (stmts_calls f.body) in
    record { variables = omega arith; calls = omega arith; sites = omega arith; arrays = omega arith }

pub small_formed : (program : List FunctionNode) → IsProgram program → (k : ℕ) (f : FunctionNode) → IsSmall program k → slice_get program k ≡ Some f → IsFormed program f
small_formed program p k f small at =
    let made = program_made program p in
    let b = based program made k f at in
    let is : placed made.base (made_of b.typing.tree b.typing.made) ≡ f = ap (placed made.base) b.typing.is ∙ b.is in
    subst (IsFormed program) is (made_formed program made b.node b.typing (subst IsFew (sym is) (small_few program p k f small at)))
