-- What is added up call by call, each step cut, is the cut of the whole.
use Rattle.std.proofs.Common.{◌≡◌, ℕ, ◌+◌, ◌≤◌, ◌-◌, ◌^◌, max, List, [], ◌∷◌, map, sum, fold, ap, ◌∙◌, arith}
use Rattle.std.proofs.lemmas.List.Sums.{sum_by-cons}
use Rattle.ocl_program.specs.declared.functions.CallSite.{CallSite}
use Rattle.ocl_program.specs.Measures.{cut, greatest}
use Rattle.ocl_measures.specs.Totals.{added_up, nested}

abbrev callees_in : List CallSite → List ℕ
callees_in calls = map (λ (c : CallSite). c.callee) calls

sums_from : (inner : ℕ → ℕ) (v : ℕ) (calls : List CallSite) → added_up inner (cut v) calls ≡ cut (v + sum (map inner (callees_in calls)))
sums_from inner v [] = let e : cut v ≡ cut (v + 0) = omega arith in e
sums_from inner v (c ∷ cs) =
    let one : cut (cut v + inner c.callee) ≡ cut (v + inner c.callee) = omega arith in
    let more : sum (map inner (callees_in (c ∷ cs))) ≡ inner c.callee + sum (map inner (callees_in cs)) = sum_by-cons (λ (x : ℕ). x) (inner c.callee) (map inner (callees_in cs)) in
    let whole : v + inner c.callee + sum (map inner (callees_in cs)) ≡ v + sum (map inner (callees_in (c ∷ cs))) = omega arith in
    ap (λ (s : ℕ). added_up inner s cs) one ∙ sums_from inner (v + inner c.callee) cs ∙ ap cut whole

pub sums_up : (inner : ℕ → ℕ) (v : ℕ) (calls : List CallSite) → v ≤ 2 ^ 32 - 1 → added_up inner v calls ≡ cut (v + sum (map inner (callees_in calls)))
sums_up inner v calls fits =
    let same : v ≡ cut v = omega arith in
    ap (λ (s : ℕ). added_up inner s calls) same ∙ sums_from inner v calls

nests_from : (inner : ℕ → ℕ) (v : ℕ) (calls : List CallSite) →
    fold (λ most (c : CallSite). max most (cut (inner c.callee + 1))) (cut v) calls ≡ cut (max v (greatest (map (λ callee. inner callee + 1) (callees_in calls))))
nests_from inner v [] = let e : cut v ≡ cut (max v 0) = omega arith in e
nests_from inner v (c ∷ cs) =
    let one : max (cut v) (cut (inner c.callee + 1)) ≡ cut (max v (inner c.callee + 1)) = omega arith in
    let rest = greatest (map (λ callee. inner callee + 1) (callees_in cs)) in
    let whole : max (max v (inner c.callee + 1)) rest ≡ max v (max (inner c.callee + 1) rest) = omega arith in
    ap (λ (s : ℕ). fold (λ most (c : CallSite). max most (cut (inner c.callee + 1))) s cs) one ∙ nests_from inner (max v (inner c.callee + 1)) cs ∙ ap cut whole

pub nests : (inner : ℕ → ℕ) (calls : List CallSite) → nested inner calls ≡ cut (greatest (map (λ callee. inner callee + 1) (callees_in calls)))
nests inner calls =
    let none : cut (max 0 (greatest (map (λ callee. inner callee + 1) (callees_in calls)))) ≡ cut (greatest (map (λ callee. inner callee + 1) (callees_in calls))) = omega arith in
    nests_from inner 0 calls ∙ none
