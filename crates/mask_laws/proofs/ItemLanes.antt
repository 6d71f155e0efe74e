-- The lanes that have an item are in the mask that a warp keeps of them.
use Rattle.std.proofs.Common.{◌≡◌, ℕ, ◌+◌, ◌-◌, ◌*◌, ◌/◌, ◌%◌, ◌^◌, ◌<◌, ◌≤◌, ◌⊎◌, inl, inr, nat_eq, ap, sym, ◌∙◌, subst, arith, div-add-mod', div-lt_iff_lt-mul, pow_pos, pow-add, mod-lt, lt-ltb}
use Rattle.std.specs.Prelude.{if◌then◌else◌}
use Rattle.std.specs.Int.{bit_at}
use Rattle.std.proofs.lemmas.Nat.Bits.{bit_at_above, bit_at_cat_low}
use Rattle.vx_base.specs.Values.{alu_value_of}
use Rattle.vx_base.specs.declared.types.Alu.TheVariants.{Sub, Sltu, Mul}
use Rattle.vx_isa.specs.Warps.{has_lane, cut}
use Rattle.simt_lowering.proofs.IdWords.{difference}
use Rattle.simt_lowering.proofs.LaneMasks.{lanes_left, lane_stays, lt_or_le}
use Rattle.warp_code.specs.Warps.{Crew}
use Rattle.mask_laws.specs.Laws.{HasItems, HasItem}
use Rattle.vx_isa.proofs.MaskLaws.{has_lane-zero}
use Rattle.mask_laws.proofs.Sets.{In, Out, clash}

cut_in : (n mask l : ℕ) → l < n → has_lane (cut n mask) l ≡ has_lane mask l
cut_in n mask l less =
    ap (λ (b : ℕ). nat_eq b 1) (sym (bit_at_cat_low (mask / 2 ^ n) n (mask % 2 ^ n) l less) ∙ ap (λ (x : ℕ). bit_at x l) (div-add-mod' mask (2 ^ n)))

uncut : (p : ℕ) → p < 2 ^ 32 → p % 2 ^ 32 ≡ p
uncut p low = omega (arith, low)

left_of : (items before : ℕ) → before < items → items < 2 ^ 32 → (items + (2 ^ 32 - before)) % 2 ^ 32 ≡ items - before
left_of items before less small = omega (arith, less, small)

below_word : (before items : ℕ) → before < items → items < 2 ^ 32 → before < 2 ^ 32
below_word before items less small = omega (arith, less, small)

is_left : (items before l : ℕ) → before + l < items → l < items - before
is_left items before l less = omega (arith, less)

before_some : (items before l : ℕ) → before + l < items → before < items
before_some items before l less = omega (arith, less)

-- ---- and no other lane is

by_one : (a b : ℕ) → a ≡ b → b < 2 ^ 32 → (a * 1) % 2 ^ 32 ≡ b
by_one a b e low = omega (arith, e, low)

gap_of : (left : ℕ) → left < 32 → (32 + (2 ^ 32 - left)) % 2 ^ 32 ≡ 32 - left
gap_of left few = omega (arith, few)

word_of_few : (left : ℕ) → left < 32 → left < 2 ^ 32
word_of_few left few = omega (arith, few)

word_of_gap : (left : ℕ) → 32 - left < 2 ^ 32
word_of_gap left = omega arith

gap_uncut : (left : ℕ) → 0 < left → (32 - left) % 32 ≡ 32 - left
gap_uncut left some = omega (arith, some)

whole_gap : (left : ℕ) → left < 32 → left + (32 - left) ≡ 32
whole_gap left few = omega (arith, few)

shift_is : (left : ℕ) → left < 32 → alu_value_of Mul (alu_value_of Sub 32 left) (alu_value_of Sltu left 32) ≡ 32 - left
shift_is left few =
    ap (λ x. (alu_value_of Sub 32 left * x) % 2 ^ 32) (ap (λ b. if b then 1 else 0) (lt-ltb left 32 few))
    ∙ by_one (alu_value_of Sub 32 left) (32 - left) (difference 32 left thirty_two (word_of_few left few) ∙ gap_of left few) (word_of_gap left) where
      thirty_two : 32 < 2 ^ 32
      thirty_two = omega arith

mask_is : (left : ℕ) → 0 < left → left < 32 → lanes_left left ≡ 0xffffffff / 2 ^ (32 - left)
mask_is left some few = ap (λ x. 0xffffffff / 2 ^ (x % 32)) (shift_is left few) ∙ ap (λ x. 0xffffffff / 2 ^ x) (gap_uncut left some)

mask_low : (left : ℕ) → 0 < left → left < 32 → lanes_left left < 2 ^ left
mask_low left some few =
    subst (λ m. m < 2 ^ left) (sym (mask_is left some few))
    ((div-lt_iff_lt-mul (pow_pos (32 - left))).1 (subst (λ n. 0xffffffff < n) (ap (λ n. 2 ^ n) (sym (whole_gap left few)) ∙ pow-add 2 left (32 - left)) ones)) where
      ones : 0xffffffff < 2 ^ 32
      ones = omega arith

not_kept : (left l : ℕ) → 0 < left → left < 32 → left ≤ l → Out (lanes_left left) l
not_kept left l some few more = has_lane-zero (lanes_left left) l (bit_at_above (lanes_left left) left l (mask_low left some few) more)

cut_out : (n mask l : ℕ) → n ≤ l → Out (cut n mask) l
cut_out n mask l more = has_lane-zero (cut n mask) l (bit_at_above (mask % 2 ^ n) n l (mod-lt mask (pow_pos n)) more)

few_clash : {P : Type 0} (n l left : ℕ) → n ≤ 32 → l < n → 32 ≤ left → left ≤ l → P
few_clash n l left few less many more = absurd (omega (arith, few, less, many, more))

back_left : (items before l : ℕ) → before < items → l < items - before → before + l < items
back_left items before l less more = omega (arith, less, more)

some_left : (items before : ℕ) → before < items → 0 < items - before
some_left items before less = omega (arith, less)

-- lanes of the mask are below the number of lanes and of items
kept_only : (n left l : ℕ) → n ≤ 32 → 0 < left → In (cut n (lanes_left left)) l → (l < n) × (l < left)
kept_only n left l few some is_in = elim (lt_or_le l n) [
  | inr more ↦ clash (has_lane (cut n (lanes_left left)) l) is_in (cut_out n (lanes_left left) l more)
  | inl less ↦ (less, below less (lt_or_le l left) (lt_or_le left 32))
] where
  below : l < n → ((l < left) ⊎ (left ≤ l)) → ((left < 32) ⊎ (32 ≤ left)) → l < left
  below less (inl e) many = e
  below less (inr more) (inl few') = clash (has_lane (lanes_left left) l) (sym (cut_in n (lanes_left left) l less) ∙ is_in) (not_kept left l some few' more)
  below less (inr more) (inr many) = few_clash n l left few less many more

module _ (k : Crew) (has : HasItems k) where
  -- how many items there are from the warp's first one on
  left_is : alu_value_of Sub (k.block 1) (alu_value_of Mul k.ids.warp (k.block 15)) ≡ k.block 1 - k.ids.warp * k.block 15
  left_is =
      ap (alu_value_of Sub (k.block 1)) (uncut (k.ids.warp * k.block 15) (below_word (k.ids.warp * k.block 15) (k.block 1) has.first has.small))
      ∙ difference (k.block 1) (k.ids.warp * k.block 15) has.small (below_word (k.ids.warp * k.block 15) (k.block 1) has.first has.small)
      ∙ left_of (k.block 1) (k.ids.warp * k.block 15) has.first has.small

  few_lanes : (l : ℕ) → l < k.ids.lanes → l < 32
  few_lanes l less = omega (arith, less, has.few)

  pub kept_lane : (l : ℕ) → HasItem k l → In (lanes_left (alu_value_of Sub (k.block 1) (alu_value_of Mul k.ids.warp (k.block 15)))) l
  kept_lane l item =
      ap (λ x. has_lane (lanes_left x) l) left_is ∙ lane_stays (k.block 1 - k.ids.warp * k.block 15) l (is_left (k.block 1) (k.ids.warp * k.block 15) l item.1) (few_lanes l item.0)

  pub item_lane : (l : ℕ) → HasItem k l → In (cut k.ids.lanes (lanes_left (alu_value_of Sub (k.block 1) (alu_value_of Mul k.ids.warp (k.block 15))))) l
  item_lane l item = cut_in k.ids.lanes (lanes_left (alu_value_of Sub (k.block 1) (alu_value_of Mul k.ids.warp (k.block 15)))) l item.0 ∙ kept_lane l item

  none_more : (n : ℕ) → n < k.block 1 → n + 0 < k.block 1
  none_more n less = omega (arith, less)

  pub first_item : HasItem k 0
  first_item = (has.some, none_more (k.ids.warp * k.block 15) has.first)

  pub only_items : (l : ℕ) → In (cut k.ids.lanes (lanes_left (alu_value_of Sub (k.block 1) (alu_value_of Mul k.ids.warp (k.block 15))))) l → HasItem k l
  only_items l is_in =
      let found = kept_only k.ids.lanes (k.block 1 - k.ids.warp * k.block 15) l has.few (some_left (k.block 1) (k.ids.warp * k.block 15) has.first) (subst (λ x. In (cut k.ids.lanes (lanes_left x)) l) left_is is_in) in
      (found.0, back_left (k.block 1) (k.ids.warp * k.block 15) l has.first found.1)
