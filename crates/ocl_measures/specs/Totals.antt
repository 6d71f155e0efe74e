-- What a table of totals says.
use Rattle.std.specs.Prelude.{◌≡◌, ℕ, ◌+◌, max, List, map, fold}
use Rattle.ocl_program.specs.declared.functions.CallSite.{CallSite}
use Rattle.ocl_program.specs.Measures.{cut, expanded, own_calls, own_control, own_depth, own_nodes, own_sites, own_variables}
use Rattle.ocl_program.specs.Nodes.{FunctionNode}
use Rattle.ocl_measures.specs.declared.sizes.Totals.{Totals}
use Rattle.ocl_measures.specs.Sizes.{total_of}

-- each number of function k, and 0 where the table has none
abbrev pub variables_of : List Totals → ℕ → ℕ
variables_of = total_of (λ (t : Totals). t.variables)

abbrev pub sites_of : List Totals → ℕ → ℕ
sites_of = total_of (λ (t : Totals). t.sites)

abbrev pub calls_of : List Totals → ℕ → ℕ
calls_of = total_of (λ (t : Totals). t.calls)

abbrev pub nodes_of : List Totals → ℕ → ℕ
nodes_of = total_of (λ (t : Totals). t.size.nodes)

abbrev pub depth_of : List Totals → ℕ → ℕ
depth_of = total_of (λ (t : Totals). t.size.depth)

abbrev pub control_of : List Totals → ℕ → ℕ
control_of = total_of (λ (t : Totals). t.size.control)

-- a function's own number with those of its calls, each step cut
abbrev pub added_up : (ℕ → ℕ) → ℕ → List CallSite → ℕ
added_up inner own calls = fold (λ sum (c : CallSite). cut (sum + inner c.callee)) own calls

-- the greatest number of calls inside one another, each step cut
abbrev pub nested : (ℕ → ℕ) → List CallSite → ℕ
nested inner calls = fold (λ most (c : CallSite). max most (cut (inner c.callee + 1))) 0 calls

-- the totals of a function where those of its callees are these
abbrev pub own_totals : List Totals → FunctionNode → Totals
own_totals totals f = record {
  variables = cut (own_variables f (variables_of totals));
  sites = cut (own_sites f (sites_of totals));
  calls = cut (own_calls f (calls_of totals));
  size = record {
    nodes = cut (own_nodes f (nodes_of totals));
    depth = cut (own_depth f (depth_of totals));
    control = cut (own_control f (control_of totals));
  };
}

abbrev pub stepped : List FunctionNode → List Totals → List Totals
stepped program totals = map (own_totals totals) program

-- that a table has what each function has with its calls expanded, for calls of at most n levels
pub record AreTotals (program : List FunctionNode) (n : ℕ) (totals : List Totals) : Type 0 where
  pub variables : (k : ℕ) → variables_of totals k ≡ cut (expanded own_variables program n k)
  pub sites : (k : ℕ) → sites_of totals k ≡ cut (expanded own_sites program n k)
  pub calls : (k : ℕ) → calls_of totals k ≡ cut (expanded own_calls program n k)
  pub nodes : (k : ℕ) → nodes_of totals k ≡ cut (expanded own_nodes program n k)
  pub depth : (k : ℕ) → depth_of totals k ≡ cut (expanded own_depth program n k)
  pub control : (k : ℕ) → control_of totals k ≡ cut (expanded own_control program n k)
