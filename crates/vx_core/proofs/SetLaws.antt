-- Sets of warps.
use Rattle.std.proofs.Common.{◌≡◌, ℕ, zero, suc, ◌*◌, ◌^◌, ◌<◌, ◌≤◌, Bool, true, false, not, nat_eq, if◌then◌else◌, inl, inr, ap, sym, ◌∙◌, arith, refl, eq-eqb, ne_eqb, List}
use Rattle.std.proofs.Math.Path.{fun_ext}
use Rattle.std.specs.Prelude.{bit_and, min}
use Rattle.std.specs.Int.{IsBitSet, bit_at, bit_not, w32}
use Rattle.std.proofs.lemmas.Nat.Bits.{and_pow, bit_at-lt, bit_at_and, bit_at_above}
use Rattle.std.proofs.lemmas.Bool.{cases_eq, cases_lt, true≢false}
use Rattle.vx_isa.specs.Warps.{WarpState, has_lane, lanes_below, started}
use Rattle.vx_isa.proofs.MaskLaws.{has_lane-one, has_lane-zero, lanes_below-lt, bit_at-lanes_below}
use Rattle.barrier_table.specs.Waiting.{all_waiting}
use Rattle.vx_core.specs.Crews.{CrewState, Opens, is_running, ready_warps, running_warps, waiting_warps, with_started, without}

-- a bit that is set is 1
set_bit : (b value power : ℕ) → b < 2 → value ≡ b * power → (value ≡ 0 → ⊥) → b ≡ 1
set_bit zero value power few form some = let none : value ≡ 0 = omega (arith, form) in absurd (some none)
set_bit (suc zero) value power few form some = refl
set_bit (suc (suc b)) value power few form some = let none : ⊥ = omega arith in absurd none

pub bit_at-set : (n k : ℕ) → IsBitSet n k → bit_at n k ≡ 1
bit_at-set n k some = set_bit (bit_at n k) (bit_and n (2 ^ k)) (2 ^ k) (bit_at-lt n k) (and_pow n k) some

pub has_lane-set : (n k : ℕ) → IsBitSet n k → has_lane n k ≡ true
has_lane-set n k some = has_lane-one n k (bit_at-set n k some)

-- a set of warps below 16 has none from 16 on
pub has_lane-past : (set k : ℕ) → set < 2 ^ 16 → 16 ≤ k → has_lane set k ≡ false
has_lane-past set k below past = has_lane-zero set k (bit_at_above set 16 k below past)

one_then : (b : Bool) → ◌≡◌ {A = ℕ} (if b then 1 else 0) 1 → b ≡ true
one_then true same = refl
one_then false same = let none : ⊥ = omega arith in absurd none

not_zero : (mask : ℕ) → not (nat_eq mask 0) ≡ true → mask ≡ 0 → ⊥
not_zero mask holds none = true≢false (sym holds ∙ ap not (eq-eqb mask 0 none))

running_warp : (s : CrewState) (warp : ℕ) → bit_at (running_warps s) warp ≡ 1 → (warp < 16) × ((s.warps warp).mask ≡ 0 → ⊥)
running_warp s warp one =
    elim (cases_lt warp 16) [
      | inl below ↦ (below, not_zero (s.warps warp).mask (one_then (is_running s.warps warp) (sym (bit_at-lanes_below 16 (is_running s.warps) warp below) ∙ one)))
      | inr past ↦
          let off : bit_at (running_warps s) warp ≡ 0 = bit_at_above (running_warps s) 16 warp (lanes_below-lt 16 (is_running s.warps)) past in
          let none : ⊥ = omega (arith, off, one) in
          absurd none
    ]

-- a warp that can take a step is one of the sixteen, and has not ended
pub ready_warp : (s : CrewState) (warp : ℕ) → IsBitSet (ready_warps s) warp → (warp < 16) × ((s.warps warp).mask ≡ 0 → ⊥)
ready_warp s warp some =
    let one : bit_at (ready_warps s) warp ≡ 1 = bit_at-set (ready_warps s) warp some in
    let both : bit_at (ready_warps s) warp ≡ min (bit_at (running_warps s) warp) (bit_at (bit_not w32 (waiting_warps s)) warp) = bit_at_and (running_warps s) (bit_not w32 (waiting_warps s)) warp in
    let few : bit_at (running_warps s) warp < 2 = bit_at-lt (running_warps s) warp in
    running_warp s warp (omega (arith, one, both, few))

-- where a group begins, warp 0 can take a step
running_first : (s : CrewState) → Opens s → is_running s.warps ≡ (λ w. nat_eq w 0)
running_first s o = fun_ext (λ w.
    elim (cases_eq w 0) [
      | inl first ↦
          rw (eq-eqb w 0 first)
          (ap (λ (k : ℕ). not (nat_eq (s.warps k).mask 0)) first ∙ ap (λ (v : WarpState). not (nat_eq v.mask 0)) o.first)
      | inr other ↦ rw (ne_eqb w 0 other) (ap (λ (m : ℕ). not (nat_eq m 0)) (o.others w other))
    ])

pub ready-opening : (s : CrewState) → Opens s → ready_warps s ≡ 1
unfolding lanes_below
ready-opening s o =
    ap (λ (test : ℕ → Bool). without (lanes_below 16 test) (waiting_warps s)) (running_first s o)
    ∙ ap (λ (held : List ℕ). without 1 (all_waiting held)) o.none_wait

-- the set of warp 0
one_alone : (w : ℕ) → (w ≡ 0 → ⊥) → has_lane 1 w ≡ false
one_alone w other = has_lane-zero 1 w (bit_at_above 1 1 w (omega arith) (omega (arith, other)))

-- what a start of warp 0 alone leaves of warps that have ended
pub first-started : (w : ℕ) (pc : ℕ) → (w ≡ 0 → ⊥) → with_started 1 pc (λ v. started 0 0) w ≡ started 0 0
first-started w pc other = rw (one_alone w other) refl
