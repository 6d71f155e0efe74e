-- The totals of a function by its six numbers.
use Rattle.std.proofs.Common.{◌≡◌, List}
use Rattle.ocl_program.specs.Nodes.{FunctionNode}
use Rattle.ocl_program.specs.Measures.{cut, own_calls, own_control, own_depth, own_nodes, own_sites, own_variables}
use Rattle.ocl_measures.specs.declared.sizes.Totals.{Totals}
use Rattle.ocl_measures.specs.Totals.{own_totals, variables_of, sites_of, calls_of, nodes_of, depth_of, control_of}

-- totals whose numbers are these
pub totals_are : (made : Totals) (totals : List Totals) (f : FunctionNode) →
    made.variables ≡ cut (own_variables f (variables_of totals)) → made.sites ≡ cut (own_sites f (sites_of totals)) → made.calls ≡ cut (own_calls f (calls_of totals)) →
    made.size.nodes ≡ cut (own_nodes f (nodes_of totals)) → made.size.depth ≡ cut (own_depth f (depth_of totals)) → made.size.control ≡ cut (own_control f (control_of totals)) →
    made ≡ own_totals totals f
totals_are made totals f v s k n d g = λ i. record { variables = v i; sites = s i; calls = k i; size = record { nodes = n i; depth = d i; control = g i } }
