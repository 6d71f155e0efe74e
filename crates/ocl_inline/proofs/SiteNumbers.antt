-- The barriers of a flat kernel have different numbers.
use Rattle.std.proofs.Common.{◌≡◌, sym, ap, ◌∙◌, ℕ, zero, suc, ◌+◌, ◌≤◌, List, length, slice_get, Some, arith}
use Rattle.ocl_program.specs.declared.functions.CallSite.{CallSite}
use Rattle.ocl_program.specs.Measures.{callees, cut, measured, own_sites, own_variables, where_some}
use Rattle.ocl_program.specs.Nodes.{FunctionNode}
use Rattle.ocl_sem.specs.Items.{kernel_scope}
use Rattle.ocl_sem.specs.Source.{Scope, scope_at, site_in}
use Rattle.ocl_inline.specs.Expansion.{expanded, flat_stmts, kernel_flat}
use Rattle.ocl_inline.specs.FlatLaws.{HaveSites}
use Rattle.ocl_inline.specs.FlatNumbers.{flat_sites}
use Rattle.program_laws.specs.Formed.{IsFormed, IsSmall, counted_up, stmts_calls, stmts_sites}
use Rattle.ocl_inline.proofs.Sound.{IsSound, OfSmallFunctions}
use Rattle.ocl_inline.proofs.Counts.{are_below, between, between_both, by_row, one_between, rows_in_order, sum_weight, under, under_one, weight, weight_map}
use Rattle.ocl_inline.proofs.Meetings.{are_different, met, one}
use Rattle.ocl_inline.proofs.SitesHeld.{CallsHave, holds_fact, stmts_hold}
use Rattle.ocl_inline.proofs.Tables.{IsWithin, call_within, cut_small, in_call, rows_apart}

-- a function's own barriers are behind one another
own_apart : (n base k m : ℕ) → base + k + m ≤ 16384 → weight (λ site. one n (cut (base + site))) (counted_up k m) ≤ between n (base + k) (base + k + m)
own_apart n base k zero small = omega arith
own_apart n base k (suc m) small =
    let rest : weight (λ site. one n (cut (base + site))) (counted_up (k + 1) m) ≤ between n (base + (k + 1)) (base + (k + 1) + m) = own_apart n base (k + 1) m (omega arith) in
    let first : one n (base + k) ≤ between n (base + k) (base + k + 1) = one_between n (base + k) in
    let here : one n (cut (base + k)) ≡ one n (base + k) = ap (one n) (cut_small (base + k) (omega arith)) in
    let both : between n (base + k) (base + k + 1) + between n (base + k + 1) (base + k + suc m) ≡ between n (base + k) (base + k + suc m) =
    between_both n _ _ _ (omega arith) (omega arith) in
    let begins : base + (k + 1) ≡ base + k + 1 = omega arith in
    let ends : base + (k + 1) + m ≡ base + k + suc m = omega arith in
    let same : between n (base + (k + 1)) (base + (k + 1) + m) ≡ between n (base + k + 1) (base + k + suc m) =
    ap (λ x. between n x (base + (k + 1) + m)) begins ∙ ap (between n (base + k + 1)) ends in
    omega arith

rows_weigh : (rows : List CallSite) (inner : CallSite → ℕ) → weight (by_row rows inner) (counted_up 0 (length rows)) ≡ weight inner rows
rows_weigh rows inner =
    sym (weight_map (λ x. x) (by_row rows inner) (counted_up 0 (length rows))) ∙ ap (weight (λ x. x)) (rows_in_order rows inner) ∙ weight_map (λ x. x) inner rows

-- the barriers of a body with those of its calls
body_apart : (program : List FunctionNode) → IsSound program → (n k : ℕ) (scope : Scope) → IsSmall program k → slice_get program k ≡ Some scope.function
    → scope.sites + measured own_sites program k ≤ 16384
    → weight (λ site. one n (site_in scope site)) (stmts_sites scope.function.body)
    + weight (by_row scope.function.calls (in_call (measured own_sites program) scope.sites n)) (stmts_calls scope.function.body)
    ≤ between n scope.sites (scope.sites + measured own_sites program k)
body_apart program sound n k scope small e room =
    let f : FunctionNode = scope.function in
    let base : ℕ = scope.sites in
    let V : ℕ → ℕ = measured own_variables program in
    let S : ℕ → ℕ = measured own_sites program in
    let formed : IsFormed program f = sound.formed k f small e in
    let all : S k ≡ f.sites + weight S (callees f) = sound.sites k f e ∙ ap (λ n. f.sites + n) (sum_weight S (callees f)) in
    let own : weight (λ site. one n (site_in scope site)) (stmts_sites f.body) ≡ weight (λ site. one n (site_in scope site)) (counted_up 0 f.sites) =
    ap (weight (λ site. one n (site_in scope site))) formed.sites in
    let own_bound : weight (λ site. one n (site_in scope site)) (counted_up 0 f.sites) ≤ between n (base + 0) (base + 0 + f.sites) = own_apart n base 0 f.sites (omega arith) in
    let zero_first : base + 0 ≡ base = omega arith in
    let own_same : between n (base + 0) (base + 0 + f.sites) ≡ between n base (base + f.sites) = ap (λ x. between n x (x + f.sites)) zero_first in
    let calls : weight (by_row f.calls (in_call S base n)) (stmts_calls f.body) ≡ weight (in_call S base n) f.calls =
    ap (weight (by_row f.calls (in_call S base n))) formed.calls ∙ rows_weigh f.calls (in_call S base n) in
    let rows : weight (in_call S base n) f.calls ≡ between n (base + f.sites) (base + f.sites + weight S (callees f)) =
    ap (weight (in_call S base n)) formed.table ∙ rows_apart V S base n f.variables f.sites (callees f) (omega arith) in
    let ends : base + f.sites + weight S (callees f) ≡ base + S k = omega arith in
    let rows_same : between n (base + f.sites) (base + f.sites + weight S (callees f)) ≡ between n (base + f.sites) (base + S k) = ap (between n (base + f.sites)) ends in
    let both : between n base (base + f.sites) + between n (base + f.sites) (base + S k) ≡ between n base (base + S k) = between_both n _ _ _ (omega arith) (omega arith) in
    omega arith

-- the barriers of an active call are those of its range, each at most once
pub sites_at : (program : List FunctionNode) → IsSound program → (n levels k : ℕ) (scope : Scope) → IsSmall program k → slice_get program k ≡ Some scope.function
    → scope.sites + measured own_sites program k ≤ 16384
    → met n (flat_sites (expanded levels program scope)) ≤ between n scope.sites (scope.sites + measured own_sites program k)
unfolding expanded
sites_at program sound n zero k scope small e room = omega arith
sites_at program sound n (suc levels) k scope small e room =
    let f : FunctionNode = scope.function in
    let S : ℕ → ℕ = measured own_sites program in
    let own : ℕ → ℕ = λ site. one n (site_in scope site) in
    let inner : ℕ → ℕ = by_row f.calls (in_call S scope.sites n) in
    let have : CallsHave inner n (expanded levels program) program scope = λ call args site callee e' e''.
    let within : IsWithin (measured own_variables program) S (measured own_variables program k) (S k) site = call_within program sound k f small e call site e' in
    let more : site.sites + S site.callee ≤ S k = within.sites in
    let begins : cut (scope.sites + site.sites) ≡ scope.sites + site.sites = cut_small (scope.sites + site.sites) (omega arith) in
    let there : met n (flat_sites (expanded levels program (scope_at scope site callee args))) ≤ between n (cut (scope.sites + site.sites)) (cut (scope.sites + site.sites) + S site.callee) =
    sites_at program sound n levels site.callee (scope_at scope site callee args) (sound.callees k call f site small e e') e'' (omega arith) in
    let same : between n (cut (scope.sites + site.sites)) (cut (scope.sites + site.sites) + S site.callee) ≡ in_call S scope.sites n site = ap (λ x. between n x (x + S site.callee)) begins in
    let row : inner call ≡ in_call S scope.sites n site = ap (where_some (in_call S scope.sites n)) e' in
    omega arith in
    let held : met n (flat_sites (flat_stmts (expanded levels program) program scope f.body)) ≤ weight own (stmts_sites f.body) + weight inner (stmts_calls f.body) =
    holds_fact own inner n (flat_sites (flat_stmts (expanded levels program) program scope f.body)) (stmts_sites f.body) (stmts_calls f.body)
    (stmts_hold own inner n (expanded levels program) program scope (λ site. omega arith) have f.body) in
    let all : weight own (stmts_sites f.body) + weight inner (stmts_calls f.body) ≤ between n scope.sites (scope.sites + S k) = body_apart program sound n k scope small e room in
    omega arith

few_sites : (program : List FunctionNode) → IsSound program → (k : ℕ) → IsSmall program k → measured own_sites program k ≤ 16384
few_sites program sound k small = let fewer = sound.few_sites k small in let nodes = small.1 in omega arith

kernel_met : (program : List FunctionNode) → IsSound program → (number : ℕ) (kernel : FunctionNode) → IsSmall program number → slice_get program number ≡ Some kernel → (n : ℕ)
    → met n (flat_sites (kernel_flat program number kernel).body) ≤ under n (kernel_flat program number kernel).sites
unfolding expanded
kernel_met program sound number kernel small e n =
    let few : measured own_sites program number ≤ 16384 = few_sites program sound number small in
    let at_most : met n (flat_sites (kernel_flat program number kernel).body) ≤ between n 0 (0 + measured own_sites program number) =
    sites_at program sound n (suc (length program)) number (kernel_scope kernel) small e (omega arith) in
    let kept : 0 + measured own_sites program number ≡ cut (measured own_sites program number) = omega arith in
    let same : under n (0 + measured own_sites program number) ≡ under n (cut (measured own_sites program number)) = ap (under n) kept in
    omega arith

pub sites_differ : OfSmallFunctions HaveSites
sites_differ program sound number kernel small e =
    let flat = kernel_flat program number kernel in (
      are_different (flat_sites flat.body) (λ n.
          let at_most : met n (flat_sites flat.body) ≤ under n flat.sites = kernel_met program sound number kernel small e n in
          let few : under n flat.sites ≤ 1 = under_one n flat.sites in omega arith),
      are_below flat.sites (flat_sites flat.body) (kernel_met program sound number kernel small e),
    )
