-- Warps in a list, by number.
use Rattle.std.proofs.Common.{◌≡◌, ℕ, ◌+◌, ◌^◌, ◌<◌, ◌≤◌, true, false, ◌&&◌, nat_lt, if◌then◌else◌, List, [], length, get_or, set, replicate, inl, inr, ap, sym, ◌∙◌, subst, arith, refl, eq-eqb, ne_eqb, lt-ltb, le-ltb}
use Rattle.std.proofs.Math.Path.{fun_ext}
use Rattle.std.proofs.lemmas.Bool.{cases_lt, cases_eq}
use Rattle.std.proofs.lemmas.List.{get_or_past, get_or-set_same, get_or-set_other}
use Rattle.vx_isa.specs.Warps.{Registers, WarpState, has_lane, started}
use Rattle.warp_state.specs.Lanes.{KeptWarp, idle, state_of}
use Rattle.warp_state.proofs.IdleLanes.{registers_in-idle}
use Rattle.vx_core.specs.Crews.{with_started, with_one}
use Rattle.vx_core.specs.WarpLists.{warps_of}
use Rattle.vx_core.proofs.SetLaws.{has_lane-past}

-- one warp of a list is changed
pub warps_of-set : (warps : List KeptWarp) (k : ℕ) (w : KeptWarp) → k < length warps → warps_of (set warps k w) ≡ with_one k (state_of w) (warps_of warps)
warps_of-set warps k w within = fun_ext (λ j.
    elim (cases_eq j k) [
      | inl same ↦
          rw (eq-eqb j k same)
          (ap state_of (ap (λ (n : ℕ). get_or (set warps k w) n (record { pc = 0; mask = 0; lanes = replicate 32 idle; stack = [] })) same ∙ get_or-set_same warps k w _ within))
      | inr other ↦
          rw (ne_eqb j k other)
          (ap state_of (get_or-set_other warps k j w _ other))
    ])

-- behind the last of a list stand warps that have ended
pub warps_of-past : (warps : List KeptWarp) (k : ℕ) → length warps ≤ k → warps_of warps k ≡ started 0 0
warps_of-past warps k past =
    ap state_of (get_or_past warps k _ past) ∙ ap (λ (r : ℕ → Registers). record { pc = 0; mask = 0; registers = r; stack = [] }) registers_in-idle

-- the warps below a number have ended, and then one more
abbrev pub ended_below : ℕ → (ℕ → WarpState) → ℕ → WarpState
ended_below n warps = λ w. if nat_lt w n then started 0 0 else warps w

pub ended_below-none : (warps : ℕ → WarpState) → warps ≡ ended_below 0 warps
ended_below-none warps = fun_ext (λ w. rw (le-ltb w 0 (omega arith)) refl)

pub ended_below-more : (n : ℕ) (warps now : ℕ → WarpState) → now ≡ ended_below n warps → with_one n (started 0 0) now ≡ ended_below (n + 1) warps
ended_below-more n warps now same = fun_ext (λ w.
    elim (cases_lt w n) [
      | inl below ↦ rw (ne_eqb w n (λ equal. omega arith), lt-ltb w (n + 1) (omega arith)) (ap (λ (f : ℕ → WarpState). f w) same ∙ rw (lt-ltb w n below) refl)
      | inr above ↦
          elim (cases_eq w n) [
            | inl equal ↦ rw (eq-eqb w n equal, lt-ltb w (n + 1) (omega arith)) refl
            | inr other ↦ rw (ne_eqb w n other, le-ltb w (n + 1) (omega arith)) (ap (λ (f : ℕ → WarpState). f w) same ∙ rw (le-ltb w n above) refl)
          ]
    ])

pub ended_below-all : (old now : List KeptWarp) → length now ≡ length old → warps_of now ≡ ended_below (length old) (warps_of old) → warps_of now ≡ (λ w. started 0 0)
ended_below-all old now same_length same = fun_ext (λ w.
    elim (cases_lt w (length old)) [
      | inl below ↦ ap (λ (f : ℕ → WarpState). f w) same ∙ rw (lt-ltb w (length old) below) refl
      | inr past ↦ warps_of-past now w (omega arith)
    ])

-- the warps of a set below a number have started, and then one more
abbrev pub started_below : ℕ → ℕ → ℕ → (ℕ → WarpState) → ℕ → WarpState
started_below n chosen pc warps = λ w. if nat_lt w n && has_lane chosen w then started pc 1 else warps w

pub started_below-none : (chosen pc : ℕ) (warps : ℕ → WarpState) → warps ≡ started_below 0 chosen pc warps
started_below-none chosen pc warps = fun_ext (λ w. rw (le-ltb w 0 (omega arith)) refl)

-- what another warp than the next is
started_other : (n chosen pc : ℕ) (warps : ℕ → WarpState) (w : ℕ) → (w ≡ n → ⊥) → started_below n chosen pc warps w ≡ started_below (n + 1) chosen pc warps w
started_other n chosen pc warps w other =
    elim (cases_lt w n) [
      | inl below ↦ rw (lt-ltb w n below, lt-ltb w (n + 1) (omega arith)) refl
      | inr above ↦ rw (le-ltb w n above, le-ltb w (n + 1) (omega arith)) refl
    ]

pub started_below-more : (n chosen pc : ℕ) (warps now : ℕ → WarpState) → now ≡ started_below n chosen pc warps → has_lane chosen n ≡ true → with_one n (started pc 1) now ≡ started_below (n + 1) chosen pc warps
started_below-more n chosen pc warps now same is_in = fun_ext (λ w.
    elim (cases_eq w n) [
      | inl equal ↦
          rw (eq-eqb w n equal)
          (subst (λ (k : ℕ). started pc 1 ≡ started_below (n + 1) chosen pc warps k) (sym equal) (rw (lt-ltb n (n + 1) (omega arith), is_in) refl))
      | inr other ↦ rw (ne_eqb w n other) (ap (λ (f : ℕ → WarpState). f w) same ∙ started_other n chosen pc warps w other)
    ])

pub started_below-same : (n chosen pc : ℕ) (warps now : ℕ → WarpState) → now ≡ started_below n chosen pc warps → has_lane chosen n ≡ false → now ≡ started_below (n + 1) chosen pc warps
started_below-same n chosen pc warps now same not_in = fun_ext (λ w.
    elim (cases_eq w n) [
      | inl equal ↦
          subst (λ (k : ℕ). now k ≡ started_below (n + 1) chosen pc warps k) (sym equal)
          (ap (λ (f : ℕ → WarpState). f n) same ∙ rw (le-ltb n n (omega arith), lt-ltb n (n + 1) (omega arith), not_in) refl)
      | inr other ↦ ap (λ (f : ℕ → WarpState). f w) same ∙ started_other n chosen pc warps w other
    ])

pub started_below-all : (chosen pc : ℕ) (warps now : ℕ → WarpState) → chosen < 2 ^ 16 → now ≡ started_below 16 chosen pc warps → now ≡ with_started chosen pc warps
started_below-all chosen pc warps now below same = fun_ext (λ w.
    ap (λ (f : ℕ → WarpState). f w) same ∙ elim (cases_lt w 16) [
      | inl within ↦ rw (lt-ltb w 16 within) refl
      | inr past ↦ rw (le-ltb w 16 past, has_lane-past chosen w below past) refl
    ])
