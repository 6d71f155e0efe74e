-- The tables of calls: where a call's variables and barriers begin.
use Rattle.std.proofs.Common.{◌≡◌, sym, ap, ◌∙◌, subst, ℕ, zero, suc, ◌+◌, ◌≤◌, List, [], ◌∷◌, slice_get, Some, arith}
use Rattle.ocl_program.specs.declared.functions.CallSite.{CallSite}
use Rattle.ocl_program.specs.Measures.{callees, cut, measured, own_sites, own_variables}
use Rattle.ocl_program.specs.Nodes.{FunctionNode}
use Rattle.ocl_types.specs.Functions.{sites_from}
use Rattle.program_laws.specs.Formed.{IsSmall}
use Rattle.ocl_inline.proofs.Sound.{IsSound}
use Rattle.ocl_inline.proofs.Counts.{between, between_both, sum_weight, weight}

pub cut_small : (n : ℕ) → n ≤ 16384 → cut n ≡ n
cut_small n small = omega arith

-- ---- each row

-- what the call of a row has is within what all calls have
pub record IsWithin (inner inner' : ℕ → ℕ) (v s : ℕ) (site : CallSite) : Type 0 where
  pub variables : site.variables + inner site.callee ≤ v
  pub sites : site.sites + inner' site.callee ≤ s

pub row_within : (variables sites : ℕ → ℕ) (v s : ℕ) (ks : List ℕ) (i : ℕ) (site : CallSite) → slice_get (sites_from variables sites v s ks) i ≡ Some site
    → IsWithin variables sites (v + weight variables ks) (s + weight sites ks) site
row_within variables sites v s [] i site e = cc
row_within variables sites v s (k ∷ ks) zero site e =
    let row : CallSite = record { callee = k; variables = cut v; sites = cut s } in
    let same : row ≡ site = cc in
    subst (IsWithin variables sites (v + (variables k + weight variables ks)) (s + (sites k + weight sites ks))) same
    (record { variables = omega arith; sites = omega arith })
row_within variables sites v s (k ∷ ks) (suc i) site e =
    let h : IsWithin variables sites ((v + variables k) + weight variables ks) ((s + sites k) + weight sites ks) site = row_within variables sites (v + variables k) (s + sites k) ks i site e in
    let more = h.variables in
    let more' = h.sites in
    record { variables = omega arith; sites = omega arith }

-- what a call of a small function has is within what the function has
pub call_within : (program : List FunctionNode) → IsSound program → (k : ℕ) (f : FunctionNode) → IsSmall program k → slice_get program k ≡ Some f → (i : ℕ) (site : CallSite) → slice_get f.calls i ≡ Some site
    → IsWithin (measured own_variables program) (measured own_sites program) (measured own_variables program k) (measured own_sites program k) site
call_within program sound k f small e i site e' =
    let V : ℕ → ℕ = measured own_variables program in
    let S : ℕ → ℕ = measured own_sites program in
    let v : V k ≡ f.variables + weight V (callees f) = sound.variables k f e ∙ ap (λ n. f.variables + n) (sum_weight V (callees f)) in
    let s : S k ≡ f.sites + weight S (callees f) = sound.sites k f e ∙ ap (λ n. f.sites + n) (sum_weight S (callees f)) in
    let there : slice_get (sites_from V S f.variables f.sites (callees f)) i ≡ Some site = ap (λ (cs : List CallSite). slice_get cs i) (sym (sound.formed k f small e).table) ∙ e' in
    let h = row_within V S f.variables f.sites (callees f) i site there in
    let more = h.variables in
    let more' = h.sites in
    record { variables = omega arith; sites = omega arith }

-- ---- all rows

-- 1 where a number is one of those of a call's barriers, where the calling function's begin at `base`
abbrev pub in_call : (ℕ → ℕ) → ℕ → ℕ → CallSite → ℕ
in_call sites base n site = between n (base + site.sites) (base + site.sites + sites site.callee)

-- the barriers of the calls stand behind one another
pub rows_apart : (variables sites : ℕ → ℕ) (base n v s : ℕ) (ks : List ℕ) → s + weight sites ks ≤ 16384
    → weight (in_call sites base n) (sites_from variables sites v s ks) ≡ between n (base + s) (base + s + weight sites ks)
rows_apart variables sites base n v s [] small =
    let ends : base + s + weight sites [] ≡ base + s = omega arith in
    let none : 0 ≡ between n (base + s) (base + s) = omega arith in
    none ∙ ap (between n (base + s)) (sym ends)
rows_apart variables sites base n v s (k ∷ ks) small =
    let rest : weight (in_call sites base n) (sites_from variables sites (v + variables k) (s + sites k) ks) ≡ between n (base + (s + sites k)) (base + (s + sites k) + weight sites ks) =
    rows_apart variables sites base n (v + variables k) (s + sites k) ks (omega arith) in
    let begins : cut s ≡ s = cut_small s (omega arith) in
    let row : in_call sites base n (record { callee = k; variables = cut v; sites = cut s }) ≡ between n (base + s) (base + (s + sites k)) =
    ap (λ x. between n (base + x) (base + x + sites k)) begins ∙ ap (between n (base + s)) (omega arith) in
    let ends : base + (s + sites k) + weight sites ks ≡ base + s + (sites k + weight sites ks) = omega arith in
    let all : between n (base + s) (base + (s + sites k)) + between n (base + (s + sites k)) (base + s + (sites k + weight sites ks)) ≡ between n (base + s) (base + s + (sites k + weight sites ks)) =
    between_both n _ _ _ (omega arith) (omega arith) in
    let rest' : weight (in_call sites base n) (sites_from variables sites (v + variables k) (s + sites k) ks) ≡ between n (base + (s + sites k)) (base + s + (sites k + weight sites ks)) =
    rest ∙ ap (between n (base + (s + sites k))) ends in
    ap (λ x. x + weight (in_call sites base n) (sites_from variables sites (v + variables k) (s + sites k) ks)) row
    ∙ ap (λ x. between n (base + s) (base + (s + sites k)) + x) rest'
    ∙ all
