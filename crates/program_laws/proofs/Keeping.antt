-- What a function has with its calls expanded does not hang on where its calls begin.
use Rattle.std.proofs.Common.{◌≡◌, refl, sym, ap, ◌∙◌, ℕ, zero, suc, ◌+◌, List, map, sum, length, slice_get, Option, None, Some, option_map}
use Rattle.std.proofs.Math.Path.{fun_ext}
use Rattle.std.proofs.lemmas.List.{length-map}
use Rattle.std.proofs.lemmas.Option.{slice_get-map}
use Rattle.ocl_program.specs.Measures.{where_some, expanded, greatest, measured, of_function, own_calls, own_control, own_variables, own_sites, own_nodes, stmts_control, stmts_size}
use Rattle.ocl_program.specs.Nodes.{FunctionNode}
use Rattle.ocl_types.specs.Functions.{placed}
use Rattle.program_laws.proofs.NoRecursion.{placed_callees}
use Rattle.program_laws.proofs.Bodies.{Made}

abbrev pub Keeps : (FunctionNode → (ℕ → ℕ) → ℕ) → Type 0
Keeps own = (base : List FunctionNode) (f : FunctionNode) (inner : ℕ → ℕ) → own (placed base f) inner ≡ own f inner

pub keeps_variables : Keeps own_variables
keeps_variables base f inner = ap (λ (ks : List ℕ). f.variables + sum (map inner ks)) (placed_callees base f)

pub keeps_sites : Keeps own_sites
keeps_sites base f inner = ap (λ (ks : List ℕ). f.sites + sum (map inner ks)) (placed_callees base f)

pub keeps_nodes : Keeps own_nodes
keeps_nodes base f inner = ap (λ (ks : List ℕ). stmts_size (λ k. where_some inner (slice_get ks k)) f.body) (placed_callees base f)

pub keeps_control : Keeps own_control
keeps_control base f inner = ap (λ (ks : List ℕ). stmts_control (λ k. where_some inner (slice_get ks k)) f.body) (placed_callees base f)

pub keeps_calls : Keeps own_calls
keeps_calls base f inner = ap (λ (ks : List ℕ). greatest (map (λ (callee : ℕ). inner callee + 1) ks)) (placed_callees base f)

one_kept : (own : FunctionNode → (ℕ → ℕ) → ℕ) → Keeps own → (base : List FunctionNode) (inner : ℕ → ℕ) (found : Option FunctionNode)
    → of_function own inner (option_map (placed base) found) ≡ of_function own inner found
one_kept own keeps base inner None = refl
one_kept own keeps base inner (Some f) = keeps base f inner

expanded_kept : (own : FunctionNode → (ℕ → ℕ) → ℕ) → Keeps own → (base program : List FunctionNode) (n k : ℕ)
    → expanded own (map (placed base) program) n k ≡ expanded own program n k
unfolding expanded
expanded_kept own keeps base program zero k = refl
expanded_kept own keeps base program (suc n) k =
    ap (λ (inner : ℕ → ℕ). of_function own inner (slice_get (map (placed base) program) k)) (fun_ext (expanded_kept own keeps base program n))
    ∙ ap (of_function own (expanded own program n)) (slice_get-map (placed base) program k) ∙ one_kept own keeps base (expanded own program n) (slice_get program k)

-- the program's measures are those of its functions before their calls are placed
pub measured_kept : (own : FunctionNode → (ℕ → ℕ) → ℕ) → Keeps own → (program : List FunctionNode) (made : Made program) → measured own made.base ≡ measured own program
measured_kept own keeps program made =
    sym (fun_ext (λ k. ap (λ (n : ℕ). expanded own (map (placed made.base) made.base) n k) (length-map made.base (placed made.base)) ∙ expanded_kept own keeps made.base made.base (length made.base) k))
    ∙ ap (λ (fs : List FunctionNode). measured own fs) made.is
