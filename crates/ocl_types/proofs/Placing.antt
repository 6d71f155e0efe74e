-- Where calls begin, and that placing them changes no measure.
use Rattle.std.proofs.Common.{◌≡◌, ℕ, zero, suc, ◌+◌, ◌-◌, ◌^◌, ◌≤◌, ◌<◌, List, [], ◌∷◌, ◌++◌, map, sum, length, drop, get_or, slice_get, Option, None, Some, option_map, refl, sym, ap, ◌∙◌, append_assoc, arith}
use Rattle.std.proofs.Math.Path.{fun_ext}
use Rattle.std.proofs.lemmas.Option.{slice_get-map}
use Rattle.ocl_program.specs.Measures.{cut, where_some, callees, greatest, at_call, expanded, measured, of_function, own_variables, own_sites, own_nodes, own_depth, own_control, own_calls, stmts_size, stmts_depth, stmts_control}
use Rattle.ocl_program.specs.Nodes.{FunctionNode}
use Rattle.ocl_program.specs.declared.functions.CallSite.{CallSite}
use Rattle.ocl_measures.specs.Totals.{AreTotals, variables_of, sites_of}
use Rattle.ocl_measures.specs.declared.sizes.Totals.{Totals}
use Rattle.ocl_types.specs.Functions.{placed, placed_by, sites_from}

site_alike : (callee v v' s s' : ℕ) (more more' : List CallSite) → cut v ≡ cut v' → cut s ≡ cut s' → more ≡ more' →
    record { callee = callee; variables = cut v; sites = cut s } ∷ more ≡ record { callee = callee; variables = cut v'; sites = cut s' } ∷ more'
site_alike callee v v' s s' more more' p q r =
    ap (λ (m : ℕ). record { callee = callee; variables = m; sites = cut s } ∷ more) p ∙
    ap (λ (m : ℕ). record { callee = callee; variables = cut v'; sites = m } ∷ more) q ∙
    ap (λ (l : List CallSite). record { callee = callee; variables = cut v'; sites = cut s' } ∷ l) r

-- only the cut of what calls have counts
pub sites_alike : (V V' S S' : ℕ → ℕ) → ((k : ℕ) → cut (V k) ≡ cut (V' k)) → ((k : ℕ) → cut (S k) ≡ cut (S' k)) → (v v' s s' : ℕ) → cut v ≡ cut v' → cut s ≡ cut s' → (ks : List ℕ) →
    sites_from V S v s ks ≡ sites_from V' S' v' s' ks
sites_alike V V' S S' same_v same_s v v' s s' p q [] = refl
sites_alike V V' S S' same_v same_s v v' s s' p q (k ∷ ks) =
    let a = same_v k in let b = same_s k in
    let p' : cut (v + V k) ≡ cut (v' + V' k) = omega arith in
    let q' : cut (s + S k) ≡ cut (s' + S' k) = omega arith in
    site_alike k v v' s s' (sites_from V S (v + V k) (s + S k) ks) (sites_from V' S' (v' + V' k) (s' + S' k) ks) p q (sites_alike V V' S S' same_v same_s (v + V k) (v' + V' k) (s + S k) (s' + S' k) p' q' ks)

callees_kept : (V S : ℕ → ℕ) (v s : ℕ) (ks : List ℕ) → map (λ (c : CallSite). c.callee) (sites_from V S v s ks) ≡ ks
callees_kept V S v s [] = refl
callees_kept V S v s (k ∷ ks) = ap (λ l. k ∷ l) (callees_kept V S (v + V k) (s + S k) ks)

same_cut : (a b : ℕ) → a ≡ cut b → cut a ≡ cut b
same_cut a b is = omega arith

pub placed_same : (program : List FunctionNode) (totals : List Totals) → AreTotals program (length program) totals → (f : FunctionNode) → placed_by totals f ≡ placed program f
placed_same program totals are f = ap (λ (calls : List CallSite). record f { calls = calls })
    (sites_alike (variables_of totals) (measured own_variables program) (sites_of totals) (measured own_sites program)
    (λ k. same_cut (variables_of totals k) (measured own_variables program k) (are.variables k)) (λ k. same_cut (sites_of totals k) (measured own_sites program k) (are.sites k))
    f.variables f.variables f.sites f.sites refl refl (callees f))

map_same : {A B : Type 0} (g h : A → B) → ((x : A) → g x ≡ h x) → (xs : List A) → map g xs ≡ map h xs
map_same {A = A} {B = B} g h same xs = ap (λ (f : A → B). map f xs) (fun_ext same)

pub all_placed_same : (program : List FunctionNode) (totals : List Totals) → AreTotals program (length program) totals → map (placed_by totals) program ≡ map (placed program) program
all_placed_same program totals are = map_same (placed_by totals) (placed program) (placed_same program totals are) program

-- what a function has does not hang on where its calls begin
abbrev Keeps : (FunctionNode → (ℕ → ℕ) → ℕ) → Type 0
Keeps own = (f : FunctionNode) (calls : List CallSite) (inner : ℕ → ℕ) → map (λ (c : CallSite). c.callee) calls ≡ callees f → own (record f { calls = calls }) inner ≡ own f inner

keeps_variables : Keeps own_variables
keeps_variables f calls inner same = ap (λ ks. f.variables + sum (map inner ks)) same

keeps_sites : Keeps own_sites
keeps_sites f calls inner same = ap (λ ks. f.sites + sum (map inner ks)) same

keeps_calls : Keeps own_calls
keeps_calls f calls inner same = ap (λ ks. greatest (map (λ callee. inner callee + 1) ks)) same

keeps_nodes : Keeps own_nodes
keeps_nodes f calls inner same = ap (λ ks. stmts_size (λ k. where_some inner (slice_get ks k)) f.body) same

keeps_depth : Keeps own_depth
keeps_depth f calls inner same = ap (λ ks. stmts_depth (λ k. where_some inner (slice_get ks k)) f.body) same

keeps_control : Keeps own_control
keeps_control f calls inner same = ap (λ ks. stmts_control (λ k. where_some inner (slice_get ks k)) f.body) same

one_kept : (own : FunctionNode → (ℕ → ℕ) → ℕ) → Keeps own → (totals : List Totals) (inner : ℕ → ℕ) (found : Option FunctionNode) → of_function own inner (option_map (placed_by totals) found) ≡ of_function own inner found
one_kept own keeps totals inner None = refl
one_kept own keeps totals inner (Some f) = keeps f (sites_from (variables_of totals) (sites_of totals) f.variables f.sites (callees f)) inner (callees_kept (variables_of totals) (sites_of totals) f.variables f.sites (callees f))

expanded_kept : (own : FunctionNode → (ℕ → ℕ) → ℕ) → Keeps own → (totals : List Totals) (program : List FunctionNode) (n k : ℕ) → expanded own (map (placed_by totals) program) n k ≡ expanded own program n k
unfolding expanded
expanded_kept own keeps totals program zero k = refl
expanded_kept own keeps totals program (suc n) k =
    ap (λ (inner : ℕ → ℕ). of_function own inner (slice_get (map (placed_by totals) program) k)) (fun_ext (expanded_kept own keeps totals program n)) ∙
    ap (of_function own (expanded own program n)) (slice_get-map (placed_by totals) program k) ∙ one_kept own keeps totals (expanded own program n) (slice_get program k)

pub totals_kept : (program : List FunctionNode) (n : ℕ) (totals : List Totals) → AreTotals program n totals → AreTotals (map (placed_by totals) program) n totals
totals_kept program n totals are = record {
  variables = λ k. are.variables k ∙ sym (ap cut (expanded_kept own_variables keeps_variables totals program n k));
  sites = λ k. are.sites k ∙ sym (ap cut (expanded_kept own_sites keeps_sites totals program n k));
  calls = λ k. are.calls k ∙ sym (ap cut (expanded_kept own_calls keeps_calls totals program n k));
  nodes = λ k. are.nodes k ∙ sym (ap cut (expanded_kept own_nodes keeps_nodes totals program n k));
  depth = λ k. are.depth k ∙ sym (ap cut (expanded_kept own_depth keeps_depth totals program n k));
  control = λ k. are.control k ∙ sym (ap cut (expanded_kept own_control keeps_control totals program n k));
}
