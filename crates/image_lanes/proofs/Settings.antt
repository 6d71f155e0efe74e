-- What stands around the lane of an item in an accepted launch is a setting of the words that are made of the kernel's code.
use Rattle.std.proofs.Common.{◌≡◌, ℕ, ◌+◌, ◌*◌, ◌^◌, ◌<◌, ◌≤◌, List, refl, subst, arith, inl, inr}
use Rattle.std.proofs.Math.Nat.{mul-le-mul_right}
use Rattle.std.proofs.lemmas.Bool.{cases_order}
use Rattle.vcode.specs.Code.{VOp}
use Rattle.vx_layout.specs.Addresses.{frame_of}
use Rattle.vx_layout.specs.Launching.{Plan, Accepted, group_size}
use Rattle.vx_layout.proofs.Lanes.{frame_ends}
use Rattle.vx_layout.proofs.Located.{located}
use Rattle.simt_lowering.specs.Laid.{HasLane}
use Rattle.reg_alloc.specs.Keeping.{IsSettingOf}
use Rattle.reg_alloc.specs.Layout.{sites_of, words_of}
use Rattle.image_lanes.specs.Lanes.{setting_at}

-- a warp that has an item is one of a core
warp_below : (warp warps lanes number size : ℕ) → warp * lanes + number < size → size ≤ warps * lanes → warps ≤ 16 → warp < 16
warp_below warp warps lanes number size in_group room few =
    let most : warps * lanes ≤ 16 * lanes = mul-le-mul_right lanes few in
    elim (cases_order warp 16) [
      | inl same ↦ let least : 16 ≤ warp = omega arith in let much : 16 * lanes ≤ warp * lanes = mul-le-mul_right lanes least in absurd (omega arith)
      | inr (inl less) ↦ less
      | inr (inr more) ↦ let least : 16 ≤ warp = omega arith in let much : 16 * lanes ≤ warp * lanes = mul-le-mul_right lanes least in absurd (omega arith)
    ]

pub is_setting : (p : Plan) → Accepted p → (item group warp lane : ℕ) → HasLane p item group warp lane → (slots : ℕ) → p.slots ≡ slots → (ops : List VOp)
    → IsSettingOf slots ops (setting_at (words_of slots ops) (sites_of ops) p group warp lane)
is_setting p ok item group warp lane has slots same ops =
    subst (λ n. IsSettingOf n ops (setting_at (words_of n ops) (sites_of ops) p group warp lane)) same
    (record {
      words = refl;
      sites = refl;
      block_small = λ w below. (located p ok).block_small group w has.in_launch;
      warp_small = let low : warp < 16 = few in omega arith;
      number_small = let low : lane < 32 = few_lanes in omega arith;
      stands = record {
        block_word = λ w below. (located p ok).block_word group warp lane w below;
        own_word = λ r below. (located p ok).own_word group warp lane r few few_lanes below;
        small = ends;
      };
    })
  where
    few : warp < 16
    few = warp_below warp p.warps p.lanes lane (group_size p.range) has.in_group ok.room ok.warps

    few_lanes : lane < 32
    few_lanes = let low = has.in_warp in let most = ok.lanes in omega arith

    ends : frame_of warp p.lanes lane p.slots + 4 * p.slots < 2 ^ 32
    ends = let within = frame_ends warp p.lanes lane p.slots few ok.lanes few_lanes ok.slots in omega arith
