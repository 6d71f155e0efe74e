-- What the calls in a body call: by the table of calls and the totals of all functions.
use Rattle.std.specs.Prelude.{ℕ, List, map, slice_get}
use Rattle.ocl_program.specs.declared.functions.CallSite.{CallSite}
use Rattle.ocl_program.specs.Nodes.{ExprNode, ArgNode, ValueNode, ArrayNode}
use Rattle.ocl_program.specs.Measures.{where_some}
use Rattle.ocl_measures.specs.declared.sizes.Inner.{Inner}
use Rattle.ocl_measures.specs.declared.sizes.Totals.{Totals}

-- what the table of totals has for function k, and 0 where it has none
abbrev pub total_of : (Totals → ℕ) → List Totals → ℕ → ℕ
total_of what totals k = where_some what (slice_get totals k)

-- what stands at call k
abbrev pub at : (Totals → ℕ) → Inner → ℕ → ℕ
at what inner k = where_some (total_of what inner.totals.now) (slice_get (map (λ (c : CallSite). c.callee) inner.calls.now) k)

abbrev pub nodes_at : Inner → ℕ → ℕ
nodes_at inner = at (λ (t : Totals). t.size.nodes) inner

abbrev pub depth_at : Inner → ℕ → ℕ
depth_at inner = at (λ (t : Totals). t.size.depth) inner

abbrev pub control_at : Inner → ℕ → ℕ
control_at inner = at (λ (t : Totals). t.size.control) inner

-- what an argument has: what its expression has, or what an array's name has
abbrev pub of_argument : (ExprNode → ℕ) → ℕ → ArgNode → ℕ
of_argument value array (ValueNode e) = value e
of_argument value array (ArrayNode a) = array
