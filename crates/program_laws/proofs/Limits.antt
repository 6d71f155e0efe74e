-- Which functions are small with their calls expanded.
use Rattle.std.proofs.Common.{◌≡◌, refl, ap, ◌∙◌, subst, ℕ, ◌+◌, ◌<◌, ◌≤◌, nat_lt, Bool, true, false, ◌||◌, if◌then◌else◌, List, [], ◌∷◌, map, sum, length, slice_get, Option, None, Some, option_map, arith, sym, suc, zero}
use Rattle.std.proofs.lemmas.Bool.{ltb-false}
use Rattle.std.proofs.lemmas.Option.{slice_get_within, slice_get-map}
use Rattle.std.specs.List.{range_with_len}
use Rattle.std.proofs.lemmas.List.{length-map}
use Rattle.std.proofs.lemmas.List.FromFn.{length-range_with_len}
use Rattle.std.proofs.lemmas.List.Sums.{sum_by-cons}
use Rattle.ocl_ast.specs.declared.units.Param.{Param}
use Rattle.ocl_program.specs.declared.functions.CallSite.{CallSite}
use Rattle.ocl_program.specs.declared.functions.LocalArray.{LocalArray}
use Rattle.ocl_program.specs.Measures.{where_some, at_call, callees, measured, own_calls, own_control, own_nodes, own_variables, expanded, of_function, own_sites}
use Rattle.ocl_program.specs.Nodes.{FunctionNode}
use Rattle.ocl_types.specs.declared.faults.TypeFault.{TypeFault}
use Rattle.ocl_types.specs.Functions.{IsProgram, kernel_fault, most_arrays, most_calls, most_control, most_nodes, most_params, most_variables, params_fault, size_fault, sized_fault}
use Rattle.program_laws.specs.Formed.{IsShallow, IsSmall, counted_up, stmts_calls, stmts_sites}
use Rattle.program_laws.proofs.NoRecursion.{each_passes, limits_of}
use Rattle.program_laws.proofs.Bodies.{program_made, based}
use Rattle.program_laws.proofs.Settling.{measures_settle}
use Rattle.program_laws.proofs.Keeping.{keeps_calls, keeps_control, keeps_nodes, keeps_variables, measured_kept}
use Rattle.program_laws.proofs.Weights.{weight, body_load, part_of_sum, part_of_weight}
use Rattle.program_laws.proofs.Forming.{small_formed}

-- ---- kernels

record FaultsPassed (test : Bool) (rest : Option TypeFault) : Type 0 where
  here : test ≡ false
  more : rest ≡ None

faults_passed : (test : Bool) (fault : TypeFault) (rest : Option TypeFault) → (if test then Some fault else rest) ≡ None → FaultsPassed test rest
faults_passed true fault rest h = cc
faults_passed false fault rest h = record { here = refl; more = h }

either_passed : (one other : Bool) → (one || other) ≡ false → (one ≡ false) × (other ≡ false)
either_passed true other h = cc
either_passed false other h = (refl, h)

-- what a kernel passes, before its calls are placed
record IsSized (f : FunctionNode) (variables nodes control calls : ℕ) : Type 0 where
  variables_few : variables ≤ 256
  arrays_few : length f.arrays ≤ 16
  nodes_few : nodes ≤ 16384
  control_few : control ≤ 30
  calls_few : calls ≤ 31

sized_passed : (f : FunctionNode) (variables nodes control calls : ℕ) → sized_fault f variables nodes control calls ≡ None → IsSized f variables nodes control calls
sized_passed f variables nodes control calls h =
    let one = faults_passed (nat_lt most_variables variables) _ _ h in
    let two = faults_passed (nat_lt most_arrays (length f.arrays)) _ _ one.more in
    let three = faults_passed (nat_lt most_nodes nodes) _ _ two.more in
    let four = faults_passed (nat_lt most_control control || nat_lt most_calls calls) _ _ three.more in
    let nested = either_passed (nat_lt most_control control) (nat_lt most_calls calls) four.here in
    record {
      variables_few = ltb-false 256 variables one.here;
      arrays_few = ltb-false 16 (length f.arrays) two.here;
      nodes_few = ltb-false 16384 nodes three.here;
      control_few = ltb-false 30 control nested.0;
      calls_few = ltb-false 31 calls nested.1;
    }

abbrev IsSizedBy : List FunctionNode → ℕ → FunctionNode → Type 0
IsSizedBy base k f = IsSized f (measured own_variables base k) (measured own_nodes base k) (measured own_control base k) (measured own_calls base k)

kernel_passed : (base : List FunctionNode) (k : ℕ) (f : FunctionNode) (kernel : Bool) → (if kernel then size_fault base k f else None) ≡ None → kernel ≡ true → IsSizedBy base k f
kernel_passed base k f true h is = sized_passed f (measured own_variables base k) (measured own_nodes base k) (measured own_control base k) (measured own_calls base k) h
kernel_passed base k f false h is = cc

-- a kernel of a program is within the limits
kernel_sized : (program : List FunctionNode) → IsProgram program → (k : ℕ) (f : FunctionNode) → slice_get program k ≡ Some f → f.kernel ≡ true → IsSizedBy program k f
kernel_sized program p k f at kernel =
    let made = program_made program p in
    let b = based program made k f at in
    let number : 0 + k ≡ k = omega arith in
    let passed : kernel_fault made.base (0 + k) b.node ≡ None = each_passes (kernel_fault made.base) 0 made.base k b.node (limits_of made.base made.limits).kernels b.at in
    let here : kernel_fault made.base k b.node ≡ None = subst (λ (x : ℕ). kernel_fault made.base x b.node ≡ None) number passed in
    let is : b.node.kernel ≡ true = ap (λ (x : FunctionNode). x.kernel) b.is ∙ kernel in
    let sized : IsSizedBy made.base k b.node = kernel_passed made.base k b.node b.node.kernel here is in
    let same : b.node.arrays ≡ f.arrays = ap (λ (x : FunctionNode). x.arrays) b.is in
    record {
      variables_few = subst (λ (measure : ℕ → ℕ). measure k ≤ 256) (measured_kept own_variables keeps_variables program made) sized.variables_few;
      arrays_few = subst (λ (arrays : List LocalArray). length arrays ≤ 16) same sized.arrays_few;
      nodes_few = subst (λ (measure : ℕ → ℕ). measure k ≤ 16384) (measured_kept own_nodes keeps_nodes program made) sized.nodes_few;
      control_few = subst (λ (measure : ℕ → ℕ). measure k ≤ 30) (measured_kept own_control keeps_control program made) sized.control_few;
      calls_few = subst (λ (measure : ℕ → ℕ). measure k ≤ 31) (measured_kept own_calls keeps_calls program made) sized.calls_few;
    }

pub kernels_small : (program : List FunctionNode) → IsProgram program → (k : ℕ) (f : FunctionNode) → slice_get program k ≡ Some f → f.kernel ≡ true → IsSmall program k
kernels_small program p k f at kernel = let sized = kernel_sized program p k f at kernel in (sized.variables_few, sized.nodes_few)

pub kernels_shallow : (program : List FunctionNode) → IsProgram program → (k : ℕ) (f : FunctionNode) → slice_get program k ≡ Some f → f.kernel ≡ true → IsShallow program k
kernels_shallow program p k f at kernel = let sized = kernel_sized program p k f at kernel in (sized.control_few, sized.calls_few)

pub kernel_arrays_few : (program : List FunctionNode) → IsProgram program → (k : ℕ) (f : FunctionNode) → slice_get program k ≡ Some f → f.kernel ≡ true → length f.arrays ≤ 16
kernel_arrays_few program p k f at kernel = (kernel_sized program p k f at kernel).arrays_few

-- ---- parameters

few_of : (n : ℕ) (fault : TypeFault) → (if nat_lt most_params n then Some fault else None) ≡ None → n ≤ 16
few_of n fault h = ltb-false 16 n (faults_passed (nat_lt most_params n) fault None h).here

pub params_few : (program : List FunctionNode) → IsProgram program → (k : ℕ) (f : FunctionNode) → slice_get program k ≡ Some f → length f.params ≤ 16
params_few program p k f at =
    let made = program_made program p in
    let b = based program made k f at in
    let few : length b.node.params ≤ 16 = few_of (length b.node.params) _ (each_passes params_fault 0 made.base k b.node (limits_of made.base made.limits).params b.at) in
    let same : b.node.params ≡ f.params = ap (λ (x : FunctionNode). x.params) b.is in
    subst (λ (params : List Param). length params ≤ 16) same few

-- ---- callees

pub callees_small : (program : List FunctionNode) → IsProgram program → (k i : ℕ) (f : FunctionNode) (site : CallSite) → IsSmall program k
    → slice_get program k ≡ Some f → slice_get f.calls i ≡ Some site → IsSmall program site.callee
callees_small program p k i f site small at there =
    let settle = measures_settle program p in
    let formed = small_formed program p k f small at in
    let callee : slice_get (callees f) i ≡ Some site.callee = slice_get-map (λ (c : CallSite). c.callee) f.calls i ∙ ap (option_map (λ (c : CallSite). c.callee)) there in
    let below : i < length f.calls = slice_get_within f.calls i site there in
    let few_variables : measured own_variables program k ≤ 256 = small.0 in
    let few_nodes : measured own_nodes program k ≤ 16384 = small.1 in
    let variables : measured own_variables program k ≡ own_variables f (measured own_variables program) = settle.variables k f at in
    let nodes : measured own_nodes program k ≡ own_nodes f (measured own_nodes program) = settle.nodes k f at in
    let part : measured own_variables program site.callee ≤ sum (map (measured own_variables program) (callees f)) = part_of_sum (measured own_variables program) (callees f) i site.callee callee in
    let load = body_load (at_call f (measured own_nodes program)) f.body in
    let met : at_call f (measured own_nodes program) i ≤ weight (at_call f (measured own_nodes program)) (counted_up 0 (length f.calls)) =
    part_of_weight (at_call f (measured own_nodes program)) (length f.calls) 0 i (omega arith) (omega arith) in
    let written : weight (at_call f (measured own_nodes program)) (stmts_calls f.body) ≡ weight (at_call f (measured own_nodes program)) (counted_up 0 (length f.calls)) =
    ap (weight (at_call f (measured own_nodes program))) formed.calls in
    let is : at_call f (measured own_nodes program) i ≡ measured own_nodes program site.callee = ap (where_some (measured own_nodes program)) callee in
    (omega arith, omega arith)

-- the same by the list of callees
found_small : (program : List FunctionNode) → IsProgram program → (k i : ℕ) (f : FunctionNode) (callee : ℕ) → IsSmall program k → slice_get program k ≡ Some f
    → (found : Option CallSite) → slice_get f.calls i ≡ found → option_map (λ (c : CallSite). c.callee) found ≡ Some callee → IsSmall program callee
found_small program p k i f callee small at None e there = cc
found_small program p k i f callee small at (Some site) e there =
    let same : site.callee ≡ callee = cc in subst (IsSmall program) same (callees_small program p k i f site small at e)

pub callee_small : (program : List FunctionNode) → IsProgram program → (k i : ℕ) (f : FunctionNode) (callee : ℕ) → IsSmall program k → slice_get program k ≡ Some f
    → slice_get (callees f) i ≡ Some callee → IsSmall program callee
callee_small program p k i f callee small at there =
    found_small program p k i f callee small at (slice_get f.calls i) refl (sym (slice_get-map (λ (c : CallSite). c.callee) f.calls i) ∙ there)

-- ---- barriers

weight_shifted : (inner : ℕ → ℕ) (n a : ℕ) → weight inner (range_with_len (suc a) n) ≡ weight (λ i. inner (suc i)) (range_with_len a n)
weight_shifted inner zero a = refl
weight_shifted inner (suc n) a =
    let next : suc a + 1 ≡ suc (a + 1) = omega arith in
    ap (λ (b : ℕ). inner (suc a) + 1 + weight inner (range_with_len b n)) next ∙ ap (λ (w : ℕ). inner (suc a) + 1 + w) (weight_shifted inner n (a + 1))

-- what the calls of a table have
weight_listed : (inner : ℕ → ℕ) (ks : List ℕ) → weight (λ i. where_some inner (slice_get ks i)) (range_with_len 0 (length ks)) ≡ sum (map inner ks) + length ks
weight_listed inner [] = refl
weight_listed inner (k ∷ ks) =
    let rest = weight_listed inner ks in
    let shifted = weight_shifted (λ i. where_some inner (slice_get (k ∷ ks) i)) (length ks) 0 in
    let whole : sum (map inner (k ∷ ks)) ≡ inner k + sum (map inner ks) = sum_by-cons (λ (n : ℕ). n) (inner k) (map inner ks) in
    omega arith

sums_within : (one other : ℕ → ℕ) (ks : List ℕ) → ((i k : ℕ) → slice_get ks i ≡ Some k → one k ≤ other k) → sum (map one ks) ≤ sum (map other ks)
sums_within one other [] within = omega arith
sums_within one other (k ∷ ks) within =
    let rest = sums_within one other ks (λ i k there. within (suc i) k there) in
    let first = within 0 k refl in
    let sooner : sum (map one (k ∷ ks)) ≡ one k + sum (map one ks) = sum_by-cons (λ (n : ℕ). n) (one k) (map one ks) in
    let later : sum (map other (k ∷ ks)) ≡ other k + sum (map other ks) = sum_by-cons (λ (n : ℕ). n) (other k) (map other ks) in
    omega arith

-- at each number of levels a function has no more barriers than nodes
sites_within : (program : List FunctionNode) → IsProgram program → (n k : ℕ) (found : Option FunctionNode) → slice_get program k ≡ found → IsSmall program k
    → expanded own_sites program n k ≤ expanded own_nodes program n k
unfolding expanded
sites_within program p zero k found at small = omega arith
sites_within program p (suc n) k None at small =
    let sites : of_function own_sites (expanded own_sites program n) (slice_get program k) ≡ 0 = ap (of_function own_sites (expanded own_sites program n)) at in
    omega arith
sites_within program p (suc n) k (Some f) at small =
    let sites : of_function own_sites (expanded own_sites program n) (slice_get program k) ≡ own_sites f (expanded own_sites program n) = ap (of_function own_sites (expanded own_sites program n)) at in
    let nodes : of_function own_nodes (expanded own_nodes program n) (slice_get program k) ≡ own_nodes f (expanded own_nodes program n) = ap (of_function own_nodes (expanded own_nodes program n)) at in
    let formed = small_formed program p k f small at in
    let own : length (stmts_sites f.body) ≡ f.sites = ap (λ (xs : List ℕ). length xs) formed.sites ∙ length-range_with_len 0 f.sites in
    let load = body_load (at_call f (expanded own_nodes program n)) f.body in
    let long : length f.calls ≡ length (callees f) = sym (length-map f.calls (λ (c : CallSite). c.callee)) in
    let written : weight (at_call f (expanded own_nodes program n)) (stmts_calls f.body) ≡ weight (at_call f (expanded own_nodes program n)) (counted_up 0 (length (callees f))) =
    ap (weight (at_call f (expanded own_nodes program n))) (formed.calls ∙ ap (counted_up 0) long) in
    let listed : weight (at_call f (expanded own_nodes program n)) (counted_up 0 (length (callees f))) ≡ sum (map (expanded own_nodes program n) (callees f)) + length (callees f) =
    weight_listed (expanded own_nodes program n) (callees f) in
    let callees_have : sum (map (expanded own_sites program n) (callees f)) ≤ sum (map (expanded own_nodes program n) (callees f)) =
    sums_within (expanded own_sites program n) (expanded own_nodes program n) (callees f) (λ i callee there.
    sites_within program p n callee (slice_get program callee) refl (callee_small program p k i f callee small at there)) in
    omega arith

pub sites_few : (program : List FunctionNode) → IsProgram program → (k : ℕ) → IsSmall program k → measured own_sites program k ≤ measured own_nodes program k
sites_few program p k small = sites_within program p (length program) k (slice_get program k) refl small
