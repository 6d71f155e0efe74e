-- No function of a program reaches a call of itself.
use Rattle.std.proofs.Common.{◌≡◌, refl, sym, ap, ◌∙◌, subst, ℕ, zero, suc, ◌+◌, ◌<◌, ◌==◌, Bool, true, false, ◌||◌, if◌then◌else◌, List, [], ◌∷◌, map, length, slice_get, Option, None, Some, option_map, Result, Ok, arith}
use Rattle.std.specs.List.{list_any}
use Rattle.std.proofs.Math.Path.{fun_ext}
use Rattle.std.proofs.lemmas.List.{length-map}
use Rattle.std.proofs.lemmas.Option.{slice_get-map}
use Rattle.ocl_program.specs.declared.functions.CallSite.{CallSite}
use Rattle.ocl_program.specs.Measures.{callees, measured, own_sites, own_variables}
use Rattle.ocl_program.specs.Nodes.{FunctionNode}
use Rattle.ocl_measures.specs.Recursion.{calls_at, is_recursive, leads, some_leads}
use Rattle.ocl_types.specs.declared.faults.TypeFault.{TypeFault}
use Rattle.ocl_types.specs.declared.faults.TypeFault.TheVariants.{Recursive}
use Rattle.ocl_types.specs.Functions.{IsProgram, each_from, kernel_fault, params_fault, placed, recursion_of, sites_from, unless_fault, within_limits}
use Rattle.program_laws.specs.Laws.{HaveNoRecursion}
use Rattle.program_laws.proofs.Passing.{passing}
use Rattle.program_laws.proofs.Bodies.{program_made}

-- ---- what each function passes

record NoFault (found : Option TypeFault) (rest : Result (Unit {0}) TypeFault) : Type 0 where
  here : found ≡ None
  more : rest ≡ Ok tt

no_fault : (found : Option TypeFault) (rest : Result (Unit {0}) TypeFault) → unless_fault found rest ≡ Ok tt → NoFault found rest
no_fault None rest h = record { here = refl; more = h }
no_fault (Some fault) rest h = cc

pub each_passes : (fault : ℕ → FunctionNode → Option TypeFault) (j : ℕ) (fs : List FunctionNode) (k : ℕ) (f : FunctionNode) → each_from fault j fs ≡ Ok tt
    → slice_get fs k ≡ Some f → fault (j + k) f ≡ None
each_passes fault j [] k f h e = cc
each_passes fault j (g ∷ more) zero f h e =
    let same : g ≡ f = cc in let number : j ≡ j + 0 = omega arith in
    subst (λ (x : ℕ). fault x f ≡ None) number (subst (λ (x : FunctionNode). fault j x ≡ None) same ((no_fault (fault j g) (each_from fault (j + 1) more) h).here))
each_passes fault j (g ∷ more) (suc k) f h e =
    let number : (j + 1) + k ≡ j + suc k = omega arith in
    subst (λ (x : ℕ). fault x f ≡ None) number (each_passes fault (j + 1) more k f ((no_fault (fault j g) (each_from fault (j + 1) more) h).more) e)

-- the limits of a program
pub record Limits (program : List FunctionNode) : Type 0 where
  pub recursion : each_from (recursion_of program) 0 program ≡ Ok tt
  pub params : each_from params_fault 0 program ≡ Ok tt
  pub kernels : each_from (kernel_fault program) 0 program ≡ Ok tt

pub limits_of : (program : List FunctionNode) → within_limits program ≡ Ok tt → Limits program
limits_of program h =
    let recursion = passing (each_from (recursion_of program) 0 program) h in
    let params = passing (each_from params_fault 0 program) recursion.rest in
    record { recursion = recursion.first; params = params.first; kernels = params.rest }

not_recursive : (k : ℕ) (f : FunctionNode) (test : Bool) → (if test then Some (Recursive f.name.pos) else None) ≡ None → test ≡ false
not_recursive k f true h = cc
not_recursive k f false h = refl

-- ---- where calls begin does not matter

pub callees_kept : (V S : ℕ → ℕ) (v s : ℕ) (ks : List ℕ) → map (λ (c : CallSite). c.callee) (sites_from V S v s ks) ≡ ks
callees_kept V S v s [] = refl
callees_kept V S v s (k ∷ ks) = ap (λ l. k ∷ l) (callees_kept V S (v + V k) (s + S k) ks)

pub placed_callees : (base : List FunctionNode) (f : FunctionNode) → callees (placed base f) ≡ callees f
placed_callees base f = callees_kept (measured own_variables base) (measured own_sites base) f.variables f.sites (callees f)

any_callee : (p : ℕ → Bool) (calls : List CallSite) → list_any (λ (c : CallSite). p c.callee) calls ≡ list_any p (map (λ (c : CallSite). c.callee) calls)
any_callee p [] = refl
any_callee p (c ∷ cs) = ap (λ (b : Bool). p c.callee || b) (any_callee p cs)

calls_alike : (base : List FunctionNode) (p : ℕ → Bool) (found : Option FunctionNode)
    → list_any (λ (c : CallSite). p c.callee) (calls_at (option_map (placed base) found)) ≡ list_any (λ (c : CallSite). p c.callee) (calls_at found)
calls_alike base p None = refl
calls_alike base p (Some f) = any_callee p (placed base f).calls ∙ ap (list_any p) (placed_callees base f) ∙ sym (any_callee p f.calls)

leads_alike : (base fs : List FunctionNode) (to n from : ℕ) → leads (map (placed base) fs) to n from ≡ leads fs to n from
unfolding leads
leads_alike base fs to zero from = refl
leads_alike base fs to (suc n) from =
    ap (λ (onward : ℕ → Bool). some_leads onward to (calls_at (slice_get (map (placed base) fs) from))) (fun_ext (leads_alike base fs to n))
    ∙ ap (λ found. some_leads (leads fs to n) to (calls_at found)) (slice_get-map (placed base) fs from)
    ∙ calls_alike base (λ callee. (callee == to) || leads fs to n callee) (slice_get fs from)

-- ---- the law

some_within : {A : Type 0} (xs : List A) (k : ℕ) → slice_get xs k ≡ None → k < length xs → ⊥
some_within [] k e below = absurd (omega arith)
some_within (x ∷ xs) zero e below = cc
some_within (x ∷ xs) (suc k) e below = some_within xs k e (omega arith)

base_recursion : (base : List FunctionNode) (k : ℕ) → within_limits base ≡ Ok tt → (found : Option FunctionNode) → slice_get base k ≡ found → k < length base → is_recursive base k ≡ false
base_recursion base k h None e below = absurd (some_within base k e below)
base_recursion base k h (Some f) e below =
    let here : recursion_of base (0 + k) f ≡ None = each_passes (recursion_of base) 0 base k f (limits_of base h).recursion e in
    let number : 0 + k ≡ k = omega arith in
    not_recursive k f (is_recursive base k) (subst (λ (x : ℕ). recursion_of base x f ≡ None) number here)

pub none_recursive : (program : List FunctionNode) → IsProgram program → HaveNoRecursion program
none_recursive program p k below =
    let made = program_made program p in
    let long : length made.base ≡ length program = sym (length-map made.base (placed made.base)) ∙ ap length made.is in
    let same : is_recursive program k ≡ is_recursive made.base k =
    ap (λ (fs : List FunctionNode). leads fs k (length fs) k) (sym made.is) ∙ ap (λ (n : ℕ). leads (map (placed made.base) made.base) k n k) (length-map made.base (placed made.base))
    ∙ leads_alike made.base made.base k (length made.base) k in
    same ∙ base_recursion made.base k made.limits (slice_get made.base k) refl (omega arith)
