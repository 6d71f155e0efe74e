-- The functions of a file gone through one by one, and what the parts of the typing of a file answer.
use Rattle.std.proofs.Common.{◌≡◌, ℕ, zero, suc, ◌+◌, ◌-◌, ◌^◌, ◌<◌, ◌≤◌, Bool, true, false, ◌&&◌, if◌then◌else◌, List, [], ◌∷◌, ◌++◌, map, zip, length, drop, get_or, Option, None, Some, Result, Ok, Err, inl, inr, Vec, Global, refl, sym, ap, ◌∙◌, append_assoc, arith}
use Rattle.std.specs.Str.{bytes_eq}
use Rattle.ocl_ast.specs.Shapes.{function_tree}
use Rattle.ocl_ast.specs.Trees.{FunctionTree}
use Rattle.ocl_ast.specs.declared.units.Function.{Function}
use Rattle.ocl_program.specs.Measures.{cut, callees}
use Rattle.ocl_program.specs.Nodes.{FunctionNode}
use Rattle.ocl_program.specs.Shapes.{function_node}
use Rattle.ocl_program.specs.declared.functions.CallSite.{CallSite}
use Rattle.ocl_program.specs.declared.functions.TypedFunction.{TypedFunction}
use Rattle.ocl_types.specs.declared.bodies.TypedBody.{TypedBody}
use Rattle.ocl_types.specs.declared.faults.TypeFault.{TypeFault}
use Rattle.ocl_types.specs.Answers.{BodiesTo, Faults, with_bodies, with_body}
use Rattle.ocl_types.specs.Exprs.{◌>>=◌}
use Rattle.ocl_types.specs.Functions.{bodies_of, each_from, kernel_fault, kernel_from, names_from, params_fault, placed, program_of, recursion_of, sites_from, typed_functions, within_limits}
use Rattle.ocl_types.proofs.Lists.{next_left, none_left}
use Rattle.ocl_types.proofs.Placing.{sites_alike}
use Rattle.ocl_types.proofs.Steps.{fault_behind, fault_onward}

-- ---- the kernel of a name

pub kernel_here : (name : List ℕ) (fs : List TypedFunction) (k : ℕ) (f : TypedFunction) (whole : Option ℕ) → k < length fs → f ≡ get_or fs k f → f.kernel && bytes_eq name f.name.text ≡ true →
    kernel_from k name (drop k (map function_node fs)) ≡ whole → whole ≡ Some k
kernel_here name fs k f whole within is named known =
    sym known ∙ ap (kernel_from k name) (next_left function_node fs k f within is) ∙ ap (λ b. if b then Some k else kernel_from (k + 1) name (drop (k + 1) (map function_node fs))) named

pub no_kernel_here : (name : List ℕ) (fs : List TypedFunction) (k : ℕ) (f : TypedFunction) (whole : Option ℕ) → k < length fs → f ≡ get_or fs k f → f.kernel && bytes_eq name f.name.text ≡ false →
    kernel_from k name (drop k (map function_node fs)) ≡ whole → kernel_from (k + 1) name (drop (k + 1) (map function_node fs)) ≡ whole
no_kernel_here name fs k f whole within is other known =
    sym (ap (λ b. if b then Some k else kernel_from (k + 1) name (drop (k + 1) (map function_node fs))) other) ∙ sym (ap (kernel_from k name) (next_left function_node fs k f within is)) ∙ known

pub no_kernel_left : (name : List ℕ) (fs : List TypedFunction) (k : ℕ) (whole : Option ℕ) → length fs ≤ k → kernel_from k name (drop k (map function_node fs)) ≡ whole → whole ≡ None
no_kernel_left name fs k whole past known = sym known ∙ ap (kernel_from k name) (none_left function_node fs k past)

-- ---- functions with their blocks

pub with_bodies_is : (fs : List Function) (bodies : List TypedBody) → map (λ (p : Function × TypedBody). with_body (function_tree p.0) p.1) (zip fs bodies) ≡ with_bodies (map function_tree fs) bodies
with_bodies_is [] bodies = refl
with_bodies_is (f ∷ fs) [] = refl
with_bodies_is (f ∷ fs) (body ∷ bodies) = ap (λ l. with_body (function_tree f) body ∷ l) (with_bodies_is fs bodies)

-- ---- calls placed one by one

left_from : {A : Type 0} (xs : List A) (i : ℕ) (x : A) → i < length xs → x ≡ get_or xs i x → drop i xs ≡ x ∷ drop (suc i) xs
left_from [] i x within is = absurd (omega arith)
left_from (y ∷ ys) zero x within is = ap (λ z. z ∷ ys) (sym is)
left_from (y ∷ ys) (suc i) x within is = left_from ys i x (omega arith) is

suc_is : (i : ℕ) → suc i ≡ i + 1
suc_is i = omega arith

nothing_left : {A : Type 0} (xs : List A) (i : ℕ) → length xs ≤ i → drop i xs ≡ []
nothing_left [] zero past = refl
nothing_left [] (suc i) past = refl
nothing_left (y ∷ ys) zero past = absurd (omega arith)
nothing_left (y ∷ ys) (suc i) past = nothing_left ys i (omega arith)

cut_again : (n : ℕ) → cut (cut n) ≡ cut n
cut_again n = omega arith

fits_cut : (n : ℕ) → n ≤ 2 ^ 32 - 1 → cut n ≡ n
fits_cut n fits = omega arith

pub placed_more : (V S : ℕ → ℕ) (v s v' s' : ℕ) (calls : List CallSite) (k : ℕ) (c : CallSite) (sofar more whole : List CallSite) → k < length calls → c ≡ get_or calls k c → v ≤ 2 ^ 32 - 1 → s ≤ 2 ^ 32 - 1 →
    v' ≡ cut (v + V c.callee) → s' ≡ cut (s + S c.callee) → more ≡ sofar ++ record { callee = c.callee; variables = v; sites = s } ∷ [] →
    sofar ++ sites_from V S v s (map (λ (c : CallSite). c.callee) (drop k calls)) ≡ whole → more ++ sites_from V S v' s' (map (λ (c : CallSite). c.callee) (drop (k + 1) calls)) ≡ whole
placed_more V S v s v' s' calls k c sofar more whole within is fits_v fits_s next_v next_s pushed known =
    let ks = map (λ (c : CallSite). c.callee) (drop (k + 1) calls) in
    let rest : sites_from V S v' s' ks ≡ sites_from V S (v + V c.callee) (s + S c.callee) ks =
    sites_alike V V S S (λ j. refl) (λ j. refl) v' (v + V c.callee) s' (s + S c.callee) (ap cut next_v ∙ cut_again (v + V c.callee)) (ap cut next_s ∙ cut_again (s + S c.callee)) ks in
    let here : record { callee = c.callee; variables = cut v; sites = cut s } ≡ record { callee = c.callee; variables = v; sites = s } = λ i. record { callee = c.callee; variables = fits_cut v fits_v i; sites = fits_cut s fits_s i } in
    let left : drop k calls ≡ c ∷ drop (k + 1) calls = left_from calls k c within is ∙ ap (λ j. c ∷ drop j calls) (suc_is k) in
    ap (λ l. l ++ sites_from V S v' s' ks) pushed ∙ append_assoc sofar (record { callee = c.callee; variables = v; sites = s } ∷ []) (sites_from V S v' s' ks) ∙
    ap (λ l. sofar ++ record { callee = c.callee; variables = v; sites = s } ∷ l) rest ∙
    sym (ap (λ (r : CallSite). sofar ++ r ∷ sites_from V S (v + V c.callee) (s + S c.callee) ks) here) ∙
    sym (ap (λ l. sofar ++ sites_from V S v s (map (λ (c : CallSite). c.callee) l)) left) ∙ known

pub placed_all : (V S : ℕ → ℕ) (v s : ℕ) (calls : List CallSite) (k : ℕ) (sofar whole : List CallSite) → length calls ≤ k →
    sofar ++ sites_from V S v s (map (λ (c : CallSite). c.callee) (drop k calls)) ≡ whole → sofar ++ [] ≡ whole
placed_all V S v s calls k sofar whole past known = sym (ap (λ l. sofar ++ sites_from V S v s (map (λ (c : CallSite). c.callee) l)) (nothing_left calls k past)) ∙ known

-- ---- a file

pub bodies_behind : {A : Type 0} (r : Result (Vec TypedBody Global) TypeFault) (fs : List FunctionTree) (m : Result A TypeFault) (f : A → Result (List FunctionNode) TypeFault) (x : A) →
    m ≡ Ok x → BodiesTo r fs (f x) → BodiesTo r fs (m >>= f)
bodies_behind (Ok bodies) fs m f x passed is = (ap (λ r. r >>= f) passed ∙ is.0, is.1)
bodies_behind (Err fault) fs m f x passed is = fault_behind fault m f x passed is

pub bodies_fault : (fault : TypeFault) (fs : List FunctionTree) → Faults fault (names_from [] fs) → Faults fault (bodies_of fs)
bodies_fault fault fs faults = fault_onward fault (names_from [] fs) (λ (_ : Unit {0}). typed_functions fs [] fs) faults

abbrev two_left : List FunctionNode → Result (Unit {0}) TypeFault
two_left program = each_from params_fault 0 program >>= λ (_ : Unit {0}). each_from (kernel_fault program) 0 program

pub recursion_fault : (fault : TypeFault) (program : List FunctionNode) → Faults fault (each_from (recursion_of program) 0 program) → Faults fault (within_limits program)
recursion_fault fault program faults = fault_onward fault (each_from (recursion_of program) 0 program) (λ (_ : Unit {0}). two_left program) faults

pub params_too_many : (fault : TypeFault) (program : List FunctionNode) → each_from (recursion_of program) 0 program ≡ Ok tt → Faults fault (each_from params_fault 0 program) → Faults fault (within_limits program)
params_too_many fault program first faults =
    fault_behind fault (each_from (recursion_of program) 0 program) (λ (_ : Unit {0}). two_left program) tt first
    (fault_onward fault (each_from params_fault 0 program) (λ (_ : Unit {0}). each_from (kernel_fault program) 0 program) faults)

pub kernel_too_large : (fault : TypeFault) (program : List FunctionNode) → each_from (recursion_of program) 0 program ≡ Ok tt → each_from params_fault 0 program ≡ Ok tt →
    Faults fault (each_from (kernel_fault program) 0 program) → Faults fault (within_limits program)
kernel_too_large fault program first second faults =
    fault_behind fault (each_from (recursion_of program) 0 program) (λ (_ : Unit {0}). two_left program) tt first
    (fault_behind fault (each_from params_fault 0 program) (λ (_ : Unit {0}). each_from (kernel_fault program) 0 program) tt second faults)

pub all_within : (program : List FunctionNode) → each_from (recursion_of program) 0 program ≡ Ok tt → each_from params_fault 0 program ≡ Ok tt → each_from (kernel_fault program) 0 program ≡ Ok tt → within_limits program ≡ Ok tt
all_within program first second third =
    ap (λ (r : Result (Unit {0}) TypeFault). r >>= λ (_ : Unit {0}). two_left program) first ∙
    ap (λ (r : Result (Unit {0}) TypeFault). r >>= λ (_ : Unit {0}). each_from (kernel_fault program) 0 program) second ∙ third

abbrev limited : List FunctionNode → Result (List FunctionNode) TypeFault
limited program = within_limits program >>= λ (_ : Unit {0}). Ok (map (placed program) program)

pub file_fault : (fault : TypeFault) (fs : List FunctionTree) → Faults fault (bodies_of fs) → Faults fault (program_of fs)
file_fault fault fs faults = fault_onward fault (bodies_of fs) limited faults

pub limit_fault : (fault : TypeFault) (fs : List FunctionTree) (program : List FunctionNode) → bodies_of fs ≡ Ok program → Faults fault (within_limits program) → Faults fault (program_of fs)
limit_fault fault fs program typed faults =
    fault_behind fault (bodies_of fs) limited program typed (fault_onward fault (within_limits program) (λ (_ : Unit {0}). Ok (map (placed program) program)) faults)

pub file_typed : (fs : List FunctionTree) (program placed_program : List FunctionNode) → bodies_of fs ≡ Ok program → within_limits program ≡ Ok tt → placed_program ≡ map (placed program) program → program_of fs ≡ Ok placed_program
file_typed fs program placed_program typed within is =
    ap (λ (r : Result (List FunctionNode) TypeFault). r >>= limited) typed ∙ ap (λ (r : Result (Unit {0}) TypeFault). r >>= λ (_ : Unit {0}). Ok (map (placed program) program)) within ∙ sym (ap Ok is)

pub pairs_kept : (xs : List (Function × TypedBody)) → map (λ (p : Function × TypedBody). (p.0, p.1)) xs ≡ xs
pairs_kept [] = refl
pairs_kept (x ∷ xs) = ap (λ l. x ∷ l) (pairs_kept xs)

read_both : {A : Type 0} (xs : List A) (k : ℕ) (d e : A) → k < length xs → get_or xs k d ≡ get_or xs k e
read_both [] k d e within = absurd (omega arith)
read_both (x ∷ xs) zero d e within = refl
read_both (x ∷ xs) (suc k) d e within = read_both xs k d e (omega arith)

-- what is read at a place is what is read there with any default
pub read_any : {A : Type 0} (xs : List A) (k : ℕ) (d : A) → k < length xs → get_or xs k d ≡ get_or xs k (get_or xs k d)
read_any xs k d within = read_both xs k d (get_or xs k d) within
