-- Laws of what a lane reaches, and of the warps of a group.
use Rattle.std.proofs.Common.{◌≡◌, ℕ, zero, suc, ◌+◌, ◌-◌, ◌*◌, ◌/◌, ◌%◌, ◌^◌, ◌<◌, ◌≤◌, ◌⊎◌, Bool, true, false, ◌&&◌, cond, nat_eq, nat_le, nat_lt, List, slice_get, Option, None, Some, refl, ap, sym, ◌∙◌, inl, inr, arith, eq-eqb, le-leb}
use Rattle.std.proofs.Math.Nat.{mul-le-mul, mul-le-mul_left}
use Rattle.std.proofs.lemmas.Bool.{cases_lt, cases_order, and_from, and_left, or_left, or_right}
use Rattle.std.proofs.lemmas.Nat.{div_below, le-div, mod_below, div-add-mod'}
use Rattle.item_acts.specs.declared.acts.Place.{Place}
use Rattle.item_acts.specs.declared.acts.Place.TheVariants.{Global, Local}
use Rattle.vx_layout.specs.Addresses.{Span, Map, IsMap, Where, Block, Own, Array, Nowhere, has, in_lines, block_start, block_words, arrays_start, frames_start, scratch_end, buffers_start, frame_of, is_word, word_if, array_or, is_part, has_field, place_at, where_at, address_of, span_byte}
use Rattle.vx_layout.specs.Launching.{Plan, Accepted, local_sizes, map_of, size_in, group_size, warps_for}
use Rattle.vx_layout.specs.Located.{HasBytes}
use Rattle.vx_layout.proofs.Spans.{has_byte, has_not}
use Rattle.vx_layout.proofs.Maps.{is_map, at_nothing, has_address, held, Held, InBuffer, InLocal, buffer_span}
use Rattle.vx_layout.proofs.Blocks.{size_some}

-- ---- words

-- a word of some that stand one after another
is_word_at : (start count k : ℕ) → k < count → is_word start count (start + 4 * k) ≡ true
is_word_at start count k below =
    let back : (start + 4 * k - start) % 4 ≡ 0 = omega arith in
    and_from _ _ (has_byte (record { start = start; size = 4 * count }) (4 * k) (omega arith)) (eq-eqb ((start + 4 * k - start) % 4) 0 back)

-- an address outside of them
is_no_word : (start count a : ℕ) → (a < start) ⊎ (start + 4 * count ≤ a) → is_word start count a ≡ false
is_no_word start count a outside = and_left _ _ (has_not (record { start = start; size = 4 * count }) a outside)

pub block_word : (p : Plan) → Accepted p → (group frame slots k : ℕ) → k < block_words → where_at (map_of p) group frame slots (block_start + 4 * k) ≡ Block k
block_word p ok group frame slots k below =
    let a = block_start + 4 * k in
    let none = at_nothing (map_of p) group (block_start + 4 * k) (is_map p ok) (omega arith) (inl (omega arith)) in
    let back : (block_start + 4 * k - block_start) / 4 ≡ k = omega arith in
    ap (λ (o : Option Place). array_or o (word_if (is_word block_start block_words (block_start + 4 * k)) (Block ((block_start + 4 * k - block_start) / 4))
    (word_if (is_word frame slots (block_start + 4 * k)) (Own ((block_start + 4 * k - frame) / 4)) Nowhere))) none
    ∙ ap (λ (b : Bool). word_if b (Block ((block_start + 4 * k - block_start) / 4))
    (word_if (is_word frame slots (block_start + 4 * k)) (Own ((block_start + 4 * k - frame) / 4)) Nowhere)) (is_word_at block_start block_words k below)
    ∙ ap Block back

-- the frame of a lane, also of one without an item, ends within the scratchpad
pub frame_ends : (warp lanes lane slots : ℕ) → warp < 16 → lanes ≤ 32 → lane < 32 → slots ≤ 256 → frame_of warp lanes lane slots + 4 * slots ≤ scratch_end
frame_ends warp lanes lane slots warp_below lanes_most lane_below slots_most =
    let warp_most : warp ≤ 15 = omega arith in
    let whole : warp * lanes ≤ 15 * 32 = mul-le-mul warp_most lanes_most in
    let number : warp * lanes + lane ≤ 511 = omega arith in
    let size : 4 * slots ≤ 1024 = omega arith in
    let part : (warp * lanes + lane) * (4 * slots) ≤ 511 * 1024 = mul-le-mul number size in
    omega arith

pub own_word : (p : Plan) → Accepted p → (group warp lane r : ℕ) → warp < 16 → lane < 32 → r < p.slots
    → where_at (map_of p) group (frame_of warp p.lanes lane p.slots) p.slots (frame_of warp p.lanes lane p.slots + 4 * r) ≡ Own r
own_word p ok group warp lane r warp_below lane_below below = by (frame_of warp p.lanes lane p.slots) (omega arith) (frame_ends warp p.lanes lane p.slots warp_below ok.lanes lane_below ok.slots)
  where
    by : (frame : ℕ) → frames_start ≤ frame → frame + 4 * p.slots ≤ scratch_end → where_at (map_of p) group frame p.slots (frame + 4 * r) ≡ Own r
    by frame from ends =
        let none = at_nothing (map_of p) group (frame + 4 * r) (is_map p ok) (omega arith) (inr (omega arith)) in
        let back : (frame + 4 * r - frame) / 4 ≡ r = omega arith in
        ap (λ (o : Option Place). array_or o (word_if (is_word block_start block_words (frame + 4 * r)) (Block ((frame + 4 * r - block_start) / 4))
        (word_if (is_word frame p.slots (frame + 4 * r)) (Own ((frame + 4 * r - frame) / 4)) Nowhere))) none
        ∙ ap (λ (b : Bool). word_if b (Block ((frame + 4 * r - block_start) / 4))
        (word_if (is_word frame p.slots (frame + 4 * r)) (Own ((frame + 4 * r - frame) / 4)) Nowhere)) (is_no_word block_start block_words (frame + 4 * r) (inr (omega arith)))
        ∙ ap (λ (b : Bool). word_if b (Own ((frame + 4 * r - frame) / 4)) Nowhere) (is_word_at frame p.slots r below)
        ∙ ap Own back

-- an array comes first
pub at_array : (m : Map) (group frame slots a : ℕ) (q : Place) → place_at m group a ≡ Some q → where_at m group frame slots a ≡ Array q
at_array m group frame slots a q e =
    ap (λ (o : Option Place). array_or o (word_if (is_word block_start block_words a) (Block ((a - block_start) / 4)) (word_if (is_word frame slots a) (Own ((a - frame) / 4)) Nowhere))) e

pub of_array : (m : Map) (group frame slots a : ℕ) (q : Place) → where_at m group frame slots a ≡ Array q → place_at m group a ≡ Some q
of_array m group frame slots a q e = by (place_at m group a) (is_word block_start block_words a) (is_word frame slots a) e
  where
    by : (o : Option Place) (b b' : Bool) → array_or o (word_if b (Block ((a - block_start) / 4)) (word_if b' (Own ((a - frame) / 4)) Nowhere)) ≡ Array q → o ≡ Some q
    by (Some place) b b' e = let same : place ≡ q = cc in ap Some same
    by None true b' e = absurd (cc)
    by None false true e = absurd (cc)
    by None false false e = absurd (cc)

-- ---- frames of different lanes

before : (n n' size : ℕ) → n < n' → n * size + size ≤ n' * size
before n n' size below = let more = mul-le-mul_left size below in omega arith

pub frames_apart : (p : Plan) (warp lane warp' lane' a : ℕ) → (warp * p.lanes + lane ≡ warp' * p.lanes + lane' → ⊥)
    → frame_of warp p.lanes lane p.slots ≤ a → a < frame_of warp p.lanes lane p.slots + 4 * p.slots
    → (a < frame_of warp' p.lanes lane' p.slots) ⊎ (frame_of warp' p.lanes lane' p.slots + 4 * p.slots ≤ a)
frames_apart p warp lane warp' lane' a differ from below = by (warp * p.lanes + lane) (warp' * p.lanes + lane') (4 * p.slots) differ from below
  where
    by : (n n' size : ℕ) → (n ≡ n' → ⊥) → frames_start + n * size ≤ a → a < frames_start + n * size + size
        → (a < frames_start + n' * size) ⊎ (frames_start + n' * size + size ≤ a)
    by n n' size differ from below =
        elim (cases_order n n') [
          | inl same ↦ absurd (differ same)
          | inr (inl less) ↦ let step = before n n' size less in inl (omega arith)
          | inr (inr more) ↦ let step = before n' n size more in inr (omega arith)
        ]

-- ---- all of it lies in the memory

part_at : (low high a n : ℕ) → low ≤ a → a + n ≤ high → is_part low high a n ≡ true
part_at low high a n from ends = and_from _ _ (le-leb low a from) (le-leb (a + n) high ends)

pub block_in_memory : (shared k : ℕ) → k < block_words → has_field shared (block_start + 4 * k) 4 ≡ true
block_in_memory shared k below = or_left _ _ (part_at block_start scratch_end (block_start + 4 * k) 4 (omega arith) (omega arith))

pub own_in_memory : (p : Plan) → Accepted p → (warp lane r : ℕ) → warp < 16 → lane < 32 → r < p.slots
    → has_field p.shared (frame_of warp p.lanes lane p.slots + 4 * r) 4 ≡ true
own_in_memory p ok warp lane r warp_below lane_below below =
    let ends = frame_ends warp p.lanes lane p.slots warp_below ok.lanes lane_below ok.slots in
    or_left _ _ (part_at block_start scratch_end (frame_of warp p.lanes lane p.slots + 4 * r) 4 (omega arith) (omega arith))

pub array_in_memory : (p : Plan) → Accepted p → (group a n : ℕ) (q : Place) → place_at (map_of p) group a ≡ Some q → HasBytes p group q n → has_field p.shared a n ≡ true
array_in_memory p ok group a n q e h = by (held p group q n h)
  where
    by : Held p group q n → has_field p.shared a n ≡ true
    by (InBuffer i byte s same at fits) =
        let named : Some a ≡ Some (s.start + byte) = sym (has_address p group a q e) ∙ ap (address_of (map_of p)) same ∙ ap (λ (o : Option Span). span_byte o byte) at in
        let first : a ≡ s.start + byte = cc in
        let b = buffer_span p i s at in
        let start = b.start in
        let sized = b.sized in
        let end = ok.buffers_in i b.span b.at in
        or_right _ _ (part_at buffers_start (buffers_start + p.shared) a n (omega arith) (omega arith))
    by (InLocal i byte s same at fits) =
        let named : Some a ≡ Some (s.start + byte) = sym (has_address p group a q e) ∙ ap (address_of (map_of p)) same ∙ ap (λ (o : Option Span). span_byte o byte) at in
        let first : a ≡ s.start + byte = cc in
        let m = is_map p ok in
        let within = m.locals_in i s at in
        or_left _ _ (part_at block_start scratch_end a n (omega (arith, within.0)) (omega (arith, within.1)))

-- ---- the warps of a group

-- the product of positive numbers is positive
product_some : (a b c : ℕ) → 1 ≤ a → 1 ≤ b → 1 ≤ c → 1 ≤ a * b * c
product_some a b c a_some b_some c_some =
    let first : 1 * 1 ≤ a * b = mul-le-mul a_some b_some in
    let some : 1 ≤ a * b = omega arith in
    let whole : 1 * 1 ≤ a * b * c = mul-le-mul some c_some in
    omega arith

pub some_items : (p : Plan) → Accepted p → 1 ≤ group_size p.range
some_items p ok =
    product_some (size_in p.range p.range.local 0) (size_in p.range p.range.local 1) (size_in p.range p.range.local 2)
    (size_some p.range p.range.local 0 ok.some_local) (size_some p.range p.range.local 1 ok.some_local) (size_some p.range p.range.local 2 ok.some_local)

-- so many items take no more warps than hold them
pub warps_most : (items lanes warps : ℕ) → 1 ≤ lanes → items ≤ warps * lanes → warps_for items lanes ≤ warps
warps_most items lanes warps some fits =
    let e : suc warps * lanes ≡ warps * lanes + lanes = omega arith in
    let below : (items + lanes - 1) / lanes < suc warps = div_below (items + lanes - 1) lanes (suc warps) (omega arith) (omega arith) in
    omega arith

pub some_warp : (items lanes : ℕ) → 1 ≤ lanes → 1 ≤ items → 1 ≤ warps_for items lanes
some_warp items lanes some some_items = le-div 1 (items + lanes - 1) lanes (omega arith) (omega arith)

pub warp_has_items : (items lanes warp : ℕ) → 1 ≤ lanes → warp < warps_for items lanes → warp * lanes < items
warp_has_items items lanes warp some below =
    elim (cases_lt (warp * lanes) items) [
      | inl less ↦ less
      | inr past ↦ let most = warps_most items lanes warp some past in absurd (omega arith)
    ]

pub item_warp : (items lanes local : ℕ) → 1 ≤ lanes → local < items → local / lanes < warps_for items lanes
item_warp items lanes local some below =
    let e : local / lanes * lanes + local % lanes ≡ local = div-add-mod' local lanes in
    let step : suc (local / lanes) * lanes ≡ local / lanes * lanes + lanes = omega arith in
    let more : suc (local / lanes) ≤ (items + lanes - 1) / lanes = le-div (suc (local / lanes)) (items + lanes - 1) lanes (omega arith) (omega arith) in
    more
