-- A warp is in step behind the operation that leaves the lanes that have an item.
use Rattle.std.proofs.Common.{◌≡◌, ℕ, ◌^◌, ◌<◌, ◌≤◌, Bool, true, false, not, [], refl, ap, sym, ◌∙◌, mod-lt, pow_pos, pow_mono, lt_of_lt_of_le}
use Rattle.std.specs.Prelude.{if◌then◌else◌}
use Rattle.std.proofs.lemmas.Bool.{and_right, and_from}
use Rattle.kir.specs.Trees.{KirCode}
use Rattle.vx_isa.specs.Warps.{has_lane}
use Rattle.simt_lowering.specs.Kept.{item_place}
use Rattle.warp_code.specs.Warps.{Crew, begun}
use Rattle.mask_laws.proofs.Sets.{In, some_of}
use Rattle.mask_laws.proofs.Frames.{Uniform, Inv}
use Rattle.mask_laws.specs.Labels.{kernel_spots, spot_in}
use Rattle.mask_laws.proofs.Going.{lane_at}
use Rattle.mask_laws.specs.Laws.{MayLower}
use Rattle.mask_laws.proofs.Opening.{no_registers, solo_lanes, item_mask, item_warp}

module _ (k : Crew) (start : ℕ) (marks : ℕ → Bool) (kernel : KirCode) (may : MayLower marks kernel) (few : k.ids.lanes ≤ 32) (rs : ℕ → ℕ) (none : (r : ℕ) → r < kernel.variables → rs r ≡ 0)
    (some : In (item_mask k start marks kernel) 0) where
  abbrev pub mask : ℕ
  mask = item_mask k start marks kernel

  at_place : (l : ℕ) (b : Bool) → has_lane 1 l ≡ b → In mask l → begun item_place 1 mask (solo_lanes start item_place rs) l ≡ lane_at item_place (if b then rs else no_registers) []
  at_place l true one is_in =
      ap (λ c. if c then record { place = item_place; registers = (solo_lanes start item_place rs l).registers; turns = [] } else solo_lanes start item_place rs l)
      (and_right (has_lane mask l) (not (has_lane 1 l)) (ap not one))
      ∙ ap (λ c. if c then lane_at item_place rs [] else lane_at start no_registers []) one
  at_place l false one is_in =
      ap (λ c. if c then record { place = item_place; registers = (solo_lanes start item_place rs l).registers; turns = [] } else solo_lanes start item_place rs l)
      (and_from (has_lane mask l) (not (has_lane 1 l)) is_in (ap not one))
      ∙ ap (λ c. lane_at item_place (if c then lane_at item_place rs [] else lane_at start no_registers []).registers []) one

  pub there : (l : ℕ) → In mask l → begun item_place 1 mask (solo_lanes start item_place rs) l ≡ lane_at item_place (if has_lane 1 l then rs else no_registers) []
  there l is_in = at_place l (has_lane 1 l) refl is_in

  no_value : (b : Bool) (r : ℕ) → r < kernel.variables → (if b then rs else no_registers) r ≡ 0
  no_value true r less = none r less
  no_value false r less = refl

  value_is : (l r : ℕ) → In mask l → r < kernel.variables → (begun item_place 1 mask (solo_lanes start item_place rs) l).registers r ≡ 0
  value_is l r is_in less = ap (λ v. v.registers r) (there l is_in) ∙ no_value (has_lane 1 l) r less

  same_start : Uniform marks mask (begun item_place 1 mask (solo_lanes start item_place rs))
  same_start r e l l' is_in is_in' = value_is l r is_in (may.within r e) ∙ sym (value_is l' r is_in' (may.within r e))

  mask_low : mask < 2 ^ k.ids.lanes
  mask_low = mod-lt _ (pow_pos k.ids.lanes)

  pub item_in_step : Inv (spot_in (kernel_spots marks kernel)) marks mask (item_warp k start marks kernel rs)
  item_in_step = record {
    small = lt_of_lt_of_le mask_low (pow_mono few);
    some = some_of mask 0 some;
    inside = λ l is_in. is_in;
    here = λ l is_in. ap (λ v. v.place) (there l is_in);
    uniform = same_start;
    agreed = same_start;
    held = ([], (λ l is_in. ap (λ v. v.turns) (there l is_in)), (refl, refl, refl));
  }
