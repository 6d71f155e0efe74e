-- The first fault of functions that are gone through one by one.
use Rattle.std.proofs.Common.{◌≡◌, ℕ, zero, suc, ◌+◌, ◌-◌, ◌^◌, ◌<◌, ◌≤◌, Bool, true, false, ◌||◌, if◌then◌else◌, nat_lt, min, List, [], ◌∷◌, map, length, drop, get_or, slice_get, Option, None, Some, option_map, Result, Ok, Err, refl, sym, ap, subst, ◌∙◌, arith}
use Rattle.std.proofs.lemmas.Bool.Decides.{nat_tests}
use Rattle.std.proofs.lemmas.List.{length-map}
use Rattle.std.proofs.lemmas.Option.{slice_get-map}
use Rattle.ocl_program.specs.Measures.{cut, measured, own_variables, own_nodes, own_control, own_calls}
use Rattle.ocl_program.specs.Nodes.{FunctionNode}
use Rattle.ocl_program.specs.Shapes.{function_node}
use Rattle.ocl_program.specs.declared.functions.TypedFunction.{TypedFunction}
use Rattle.ocl_measures.specs.Recursion.{IsFirstRecursive, NoneRecursive, is_recursive}
use Rattle.ocl_measures.specs.Totals.{AreTotals, variables_of, nodes_of, control_of, calls_of}
use Rattle.ocl_measures.specs.declared.sizes.Totals.{Totals}
use Rattle.ocl_types.specs.declared.faults.Counted.TheVariants.{Variables, Nodes}
use Rattle.ocl_types.specs.declared.faults.TypeFault.{TypeFault}
use Rattle.ocl_types.specs.declared.faults.TypeFault.TheVariants.{Recursive, TooMany, TooNested}
use Rattle.ocl_types.specs.Functions.{each_from, unless_fault, recursion_of, kernel_fault, sized_fault, most_variables, most_arrays, most_nodes, most_control, most_calls}
use Rattle.ocl_types.proofs.Lists.{next_left, none_left}

-- a function without a fault leaves the fault of the others
pub passes : (fault : ℕ → FunctionNode → Option TypeFault) (fs : List TypedFunction) (k : ℕ) (f : TypedFunction) (whole : Result (Unit {0}) TypeFault) →
    k < length fs → f ≡ get_or fs k f → fault k (function_node f) ≡ None →
    each_from fault k (drop k (map function_node fs)) ≡ whole → each_from fault (k + 1) (drop (k + 1) (map function_node fs)) ≡ whole
passes fault fs k f whole within is none known =
    sym (ap (λ (r : Option TypeFault). unless_fault r (each_from fault (k + 1) (drop (k + 1) (map function_node fs)))) none) ∙
    sym (ap (each_from fault k) (next_left function_node fs k f within is)) ∙ known

-- a function's fault is the fault of the file where those before it have none
pub fails : (fault : ℕ → FunctionNode → Option TypeFault) (fs : List TypedFunction) (k : ℕ) (f : TypedFunction) (found : TypeFault) (whole : Result (Unit {0}) TypeFault) →
    k < length fs → f ≡ get_or fs k f → fault k (function_node f) ≡ Some found →
    each_from fault k (drop k (map function_node fs)) ≡ whole → whole ≡ Err found
fails fault fs k f found whole within is some known =
    sym known ∙ ap (each_from fault k) (next_left function_node fs k f within is) ∙
    ap (λ (r : Option TypeFault). unless_fault r (each_from fault (k + 1) (drop (k + 1) (map function_node fs)))) some

-- behind the last function there is no fault
pub none_fails : (fault : ℕ → FunctionNode → Option TypeFault) (fs : List TypedFunction) (k : ℕ) (whole : Result (Unit {0}) TypeFault) →
    length fs ≤ k → each_from fault k (drop k (map function_node fs)) ≡ whole → whole ≡ Ok tt
none_fails fault fs k whole past known = sym known ∙ ap (each_from fault k) (none_left function_node fs k past)

not_recursive : (program : List FunctionNode) (k : ℕ) (f : FunctionNode) → is_recursive program k ≡ false → recursion_of program k f ≡ None
not_recursive program k f is = ap (λ (b : Bool). if b then Some (Recursive f.name.pos) else None) is

is_recursive_there : (program : List FunctionNode) (k : ℕ) (f : FunctionNode) → is_recursive program k ≡ true → recursion_of program k f ≡ Some (Recursive f.name.pos)
is_recursive_there program k f is = ap (λ (b : Bool). if b then Some (Recursive f.name.pos) else None) is

none_from : (program : List FunctionNode) → NoneRecursive program → (j : ℕ) (fs : List FunctionNode) → each_from (recursion_of program) j fs ≡ Ok tt
none_from program none j [] = refl
none_from program none j (f ∷ more) =
    ap (λ (r : Option TypeFault). unless_fault r (each_from (recursion_of program) (j + 1) more)) (not_recursive program j f (none j)) ∙ none_from program none (j + 1) more

-- where no function reaches itself there is no fault
pub none_recursive : (program : List FunctionNode) → NoneRecursive program → each_from (recursion_of program) 0 program ≡ Ok tt
none_recursive program none = none_from program none 0 program

first_from : (program : List FunctionNode) (j i : ℕ) (fs : List FunctionNode) (f : FunctionNode) → ((k : ℕ) → k < j + i → is_recursive program k ≡ false) → is_recursive program (j + i) ≡ true
    → slice_get fs i ≡ Some f → each_from (recursion_of program) j fs ≡ Err (Recursive f.name.pos)
first_from program j i [] f before here there = cc
first_from program j zero (g ∷ more) f before here there =
    let at : j + 0 ≡ j = omega arith in
    let same : g ≡ f = cc in
    ap (λ (r : Option TypeFault). unless_fault r (each_from (recursion_of program) (j + 1) more)) (is_recursive_there program j g (sym (ap (is_recursive program) at) ∙ here))
    ∙ ap (λ (h : FunctionNode). Err (Recursive h.name.pos)) same
first_from program j (suc i) (g ∷ more) f before here there =
    let at : j + suc i ≡ (j + 1) + i = omega arith in
    ap (λ (r : Option TypeFault). unless_fault r (each_from (recursion_of program) (j + 1) more)) (not_recursive program j g (before j (omega arith)))
    ∙ first_from program (j + 1) i more f (λ k below. before k (omega arith)) (sym (ap (is_recursive program) at) ∙ here) there

-- the first function that reaches itself has the fault
pub one_recursive : (fs : List TypedFunction) (k : ℕ) (f : TypedFunction) → IsFirstRecursive (map function_node fs) k → slice_get fs k ≡ Some f
    → each_from (recursion_of (map function_node fs)) 0 (map function_node fs) ≡ Err (Recursive f.name.pos)
one_recursive fs k f first there =
    let at : k ≡ 0 + k = omega arith in
    first_from (map function_node fs) 0 k (map function_node fs) (function_node f) (λ j below. first.none_before j (omega arith))
    (subst (λ i. is_recursive (map function_node fs) i ≡ true) at first.here.calls) (slice_get-map function_node fs k ∙ ap (option_map function_node) there)

-- a limit is passed exactly where it is passed up to the cut
over_limit : (limit n : ℕ) → limit < 2 ^ 32 - 1 → nat_lt limit (cut n) ≡ nat_lt limit n
over_limit limit n below = grind (arith, nat_tests)

cut_again : (n : ℕ) → cut (cut n) ≡ cut n
cut_again n = omega arith

abbrev faults_by : FunctionNode → Bool → ℕ → Bool → Bool → ℕ → Bool → Bool → Option TypeFault
faults_by f variables v arrays nodes n control calls =
    if variables then Some (TooMany f.name.pos Variables v)
    else if arrays then Some (TooMany f.name.pos Variables (cut (length f.arrays)))
    else if nodes then Some (TooMany f.name.pos Nodes n)
    else if control || calls then Some (TooNested f.name.pos)
    else None

sized_cut : (f : FunctionNode) (v n c d : ℕ) → sized_fault f (cut v) (cut n) (cut c) (cut d) ≡ sized_fault f v n c d
sized_cut f v n c d =
    let arrays = nat_lt most_arrays (length f.arrays) in
    ap (λ b. faults_by f b (cut (cut v)) arrays (nat_lt most_nodes (cut n)) (cut (cut n)) (nat_lt most_control (cut c)) (nat_lt most_calls (cut d))) (over_limit most_variables v (omega arith)) ∙
    ap (λ m. faults_by f (nat_lt most_variables v) m arrays (nat_lt most_nodes (cut n)) (cut (cut n)) (nat_lt most_control (cut c)) (nat_lt most_calls (cut d))) (cut_again v) ∙
    ap (λ b. faults_by f (nat_lt most_variables v) (cut v) arrays b (cut (cut n)) (nat_lt most_control (cut c)) (nat_lt most_calls (cut d))) (over_limit most_nodes n (omega arith)) ∙
    ap (λ m. faults_by f (nat_lt most_variables v) (cut v) arrays (nat_lt most_nodes n) m (nat_lt most_control (cut c)) (nat_lt most_calls (cut d))) (cut_again n) ∙
    ap (λ b. faults_by f (nat_lt most_variables v) (cut v) arrays (nat_lt most_nodes n) (cut n) b (nat_lt most_calls (cut d))) (over_limit most_control c (omega arith)) ∙
    ap (λ b. faults_by f (nat_lt most_variables v) (cut v) arrays (nat_lt most_nodes n) (cut n) (nat_lt most_control c) b) (over_limit most_calls d (omega arith))

-- the fault of a kernel by the table of totals
pub kernel_sized : (program : List FunctionNode) (totals : List Totals) (k : ℕ) (f : FunctionNode) → AreTotals program (length program) totals →
    (if f.kernel then sized_fault f (variables_of totals k) (nodes_of totals k) (control_of totals k) (calls_of totals k) else None) ≡ kernel_fault program k f
kernel_sized program totals k f are =
    ap (λ v. if f.kernel then sized_fault f v (nodes_of totals k) (control_of totals k) (calls_of totals k) else None) (are.variables k) ∙
    ap (λ n. if f.kernel then sized_fault f (cut (measured own_variables program k)) n (control_of totals k) (calls_of totals k) else None) (are.nodes k) ∙
    ap (λ c. if f.kernel then sized_fault f (cut (measured own_variables program k)) (cut (measured own_nodes program k)) c (calls_of totals k) else None) (are.control k) ∙
    ap (λ d. if f.kernel then sized_fault f (cut (measured own_variables program k)) (cut (measured own_nodes program k)) (cut (measured own_control program k)) d else None) (are.calls k) ∙
    ap (λ found. if f.kernel then found else None) (sized_cut f (measured own_variables program k) (measured own_nodes program k) (measured own_control program k) (measured own_calls program k))

-- the fault of a kernel by its row of the table of totals
pub kernel_by : (program : List FunctionNode) (totals : List Totals) (k : ℕ) (f : FunctionNode) (t : Totals) → AreTotals program (length program) totals →
    t.variables ≡ variables_of totals k → t.size.nodes ≡ nodes_of totals k → t.size.control ≡ control_of totals k → t.calls ≡ calls_of totals k →
    (if f.kernel then sized_fault f t.variables t.size.nodes t.size.control t.calls else None) ≡ kernel_fault program k f
kernel_by program totals k f t are v n c d =
    ap (λ x. if f.kernel then sized_fault f x t.size.nodes t.size.control t.calls else None) v ∙
    ap (λ x. if f.kernel then sized_fault f (variables_of totals k) x t.size.control t.calls else None) n ∙
    ap (λ x. if f.kernel then sized_fault f (variables_of totals k) (nodes_of totals k) x t.calls else None) c ∙
    ap (λ x. if f.kernel then sized_fault f (variables_of totals k) (nodes_of totals k) (control_of totals k) x else None) d ∙
    kernel_sized program totals k f are

pub measured_all : (fs : List TypedFunction) (totals : List Totals) → AreTotals (map function_node fs) (length fs) totals → AreTotals (map function_node fs) (length (map function_node fs)) totals
measured_all fs totals are = subst (λ n. AreTotals (map function_node fs) n totals) (sym (length-map fs function_node)) are
