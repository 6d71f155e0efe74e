-- The barriers of the code have different numbers, each below the count of the kernel's.
use Rattle.std.proofs.Common.{◌≡◌, sym, ap, ◌∙◌, ℕ, ◌<◌, ◌≤◌, ◌==◌, nat_lt, Bool, true, if◌then◌else◌, inl, inr, List, [], ◌∷◌, Some, slice_get, arith, eqb-true}
use Rattle.std.specs.List.{count_by}
use Rattle.std.proofs.lemmas.Bool.{cases_Bool, ltb-false}
use Rattle.kir.specs.Measures.{sites}
use Rattle.ocl_inline.proofs.Counts.{are_below, under, under_more}
use Rattle.ocl_inline.proofs.KernelLaws.{kernel_sites}
use Rattle.ocl_inline.proofs.Meetings.{met, met_counts, met_once, one}
use Rattle.ocl_inline.specs.Expansion.{kernel_flat}
use Rattle.ocl_inline.specs.FlatLaws.{HaveSites}
use Rattle.ocl_inline.specs.FlatNumbers.{AreDifferent, flat_sites}
use Rattle.ocl_norm.proofs.NormalMeasures.{normal_measures}
use Rattle.ocl_norm.specs.Kept.{KeepsMeasures}
use Rattle.ocl_norm.specs.Normal.{normal_kernel}
use Rattle.ocl_program.specs.Measures.{cut, measured, own_sites}
use Rattle.ocl_program.specs.Nodes.{FunctionNode}
use Rattle.ocl_types.specs.Functions.{IsProgram}
use Rattle.program_laws.specs.Formed.{AreBelow}
use Rattle.structured.proofs.Held.{some_same}

-- a number that is met among others below a bound is below it
not_met : (bound n : ℕ) (ks : List ℕ) → AreBelow bound ks → bound ≤ n → met n ks ≤ 0
not_met bound n [] below beyond = omega arith
not_met bound n (k ∷ ks) below beyond =
    let more : met n ks ≤ 0 = not_met bound n ks below.1 beyond in
    elim (cases_Bool (n == k)) [
      | inl same ↦ let is : n ≡ k = eqb-true n k same in let less : k < bound = below.0 in absurd (omega arith)
      | inr other ↦ let none : one n k ≡ 0 = ap (λ (b : Bool). if b then 1 else 0) other in omega arith
    ]

-- numbers that differ and are below a bound are met once at most, and none beyond it
met_under : (bound n : ℕ) (ks : List ℕ) → AreDifferent ks → AreBelow bound ks → met n ks ≤ under n bound
met_under bound n ks different below = elim (cases_Bool (nat_lt n bound)) [
  | inl within ↦
      let whole : under n bound ≡ 1 = ap (λ (b : Bool). if b then 1 else 0) within in
      let once : met n ks ≤ 1 = met_once ks n different in omega arith
  | inr beyond ↦
      let none : met n ks ≤ 0 = not_met bound n ks below (ltb-false n bound beyond) in omega arith
]

-- the barriers of the normal form are among those of the flat kernel
pub normal_barriers : (program : List FunctionNode) → ∥ IsProgram program ∥₁ → (number : ℕ) (f : FunctionNode) → slice_get program number ≡ Some f → (marked : f.kernel ≡ true)
    → AreDifferent (sites (normal_kernel (kernel_flat program number f)).ops) × AreBelow (measured own_sites program number) (sites (normal_kernel (kernel_flat program number f)).ops)
normal_barriers program typed number f at marked =
    let have : HaveSites program number (kernel_flat program number f) =
    kernel_sites program typed number (kernel_flat program number f) (λ g there. ap (kernel_flat program number) (some_same f g (sym at ∙ there))) f at marked in
    let keeps : KeepsMeasures (kernel_flat program number f) (normal_kernel (kernel_flat program number f)) = normal_measures (kernel_flat program number f) in (
      keeps.distinct have.0,
      are_below (measured own_sites program number) (sites (normal_kernel (kernel_flat program number f)).ops) (λ n.
          let fewer : count_by (λ (k : ℕ). n == k) (sites (normal_kernel (kernel_flat program number f)).ops) ≤ count_by (λ (k : ℕ). n == k) (flat_sites (kernel_flat program number f).body) = keeps.barriers n in
          let here : count_by (λ (k : ℕ). n == k) (sites (normal_kernel (kernel_flat program number f)).ops) ≡ met n (sites (normal_kernel (kernel_flat program number f)).ops) =
          met_counts n (sites (normal_kernel (kernel_flat program number f)).ops) in
          let there : count_by (λ (k : ℕ). n == k) (flat_sites (kernel_flat program number f).body) ≡ met n (flat_sites (kernel_flat program number f).body) = met_counts n (flat_sites (kernel_flat program number f).body) in
          let once : met n (flat_sites (kernel_flat program number f).body) ≤ under n (cut (measured own_sites program number)) = met_under (cut (measured own_sites program number)) n (flat_sites (kernel_flat program number f).body) have.0 have.1 in
          let more : under n (cut (measured own_sites program number)) ≤ under n (measured own_sites program number) = under_more n (cut (measured own_sites program number)) (measured own_sites program number) (omega arith) in
          omega arith),
    )
