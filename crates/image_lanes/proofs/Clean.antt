-- The lane of an item runs clean from each place at which it may begin.
use Rattle.std.proofs.Common.{◌≡◌, ℕ, Bool, List, [], ◌∷◌, drop, length, refl, ap, sym, subst, ◌∙◌, inl, inr}
use Rattle.item_acts.specs.declared.acts.Place.{Place}
use Rattle.item_acts.specs.declared.acts.Place.TheVariants.{Global}
use Rattle.item_settings.specs.Settings.{Setting as ItemSetting, element_in}
use Rattle.kir.specs.Machine.{value}
use Rattle.kir.specs.Trees.{KirCode}
use Rattle.vx_base.specs.declared.types.Elem.{Elem}
use Rattle.vcode.specs.Code.{VOp, Fresh, Copy, Compute, Cut, Word, WordAt, Learn, Fetch, Write, IfZero, IfNot, Goto, Split, Join, Pred, Tmc, Wspawn, Bar, Trap, Enter, Leaves, Again}
use Rattle.vx_layout.specs.Addresses.{Array, frame_of}
use Rattle.vx_layout.specs.Launching.{Plan, Accepted}
use Rattle.vx_layout.proofs.Located.{located}
use Rattle.simt_lowering.specs.InArrays.{FirstInArray, IsElement, OpInArray}
use Rattle.simt_lowering.specs.Laid.{named, place_or}
use Rattle.simt_lowering.specs.Lowered.{kernel_code}
use Rattle.simt_lowering.specs.Runs.{Begins}
use Rattle.vx_isa.specs.declared.image.Site.{Site}
use Rattle.reg_alloc.specs.Alone.{Setting}
use Rattle.reg_alloc.specs.Keeping.{FirstNamed, OpNamed}
use Rattle.image_lanes.specs.Lanes.{setting_at}

-- ---- places at which a warp may begin

abbrev pub IsFresh : List VOp → ℕ → Type 0
IsFresh ops q = (rest : List VOp) × (drop q ops ≡ Fresh ∷ rest)

fresh_at : (marks : ℕ → Bool) (code : KirCode) (q : ℕ) → Begins q → IsFresh (kernel_code marks code) q
fresh_at marks code q (inl e) = subst (IsFresh (kernel_code marks code)) (sym e) (drop 1 (kernel_code marks code), refl)
fresh_at marks code q (inr (inl e)) = subst (IsFresh (kernel_code marks code)) (sym e) (drop 4 (kernel_code marks code), refl)
fresh_at marks code q (inr (inr e)) = subst (IsFresh (kernel_code marks code)) (sym e) (drop 15 (kernel_code marks code), refl)

pub is_fresh : (marks : ℕ → Bool) (code : KirCode) (ops : List VOp) → ops ≡ kernel_code marks code → (q : ℕ) → Begins q → IsFresh ops q
is_fresh marks code ops same q begins = subst (λ os. IsFresh os q) (sym same) (fresh_at marks code q begins)

-- ---- what accesses name

module _ (p : Plan) (ok : Accepted p) (setting : ItemSetting) (words : List ℕ) (sites : List Site) (group warp lane : ℕ) where
  abbrev pub k : Setting
  k = setting_at words sites p group warp lane

  -- the address of an element names its byte to both lanes
  element_named : (elem : Elem) (a : ℕ) → IsElement p setting group elem a → k.at a ≡ Array (named p group a)
  element_named elem a element =
      let q : Place = element_in group (setting.array element.array) element.index in
      let there : k.at a ≡ Array q = (located p ok).at_array group (frame_of warp p.lanes lane p.slots) p.slots a q element.names in
      let same : named p group a ≡ q = ap (place_or (Global (length p.buffers) a)) element.names in
      there ∙ ap Array (sym same)

  op_named : (op : VOp) (rs : ℕ → ℕ) → OpInArray p setting group op rs → OpNamed k (named p group) op rs
  op_named Fresh rs one = tt
  op_named (Copy d a) rs one = tt
  op_named (Compute d o a c) rs one = tt
  op_named (Cut d t a) rs one = tt
  op_named (Word d w) rs one = tt
  op_named (WordAt d a w) rs one = tt
  op_named (Learn d c) rs one = tt
  op_named (Fetch d t a) rs one = element_named t (value rs a) one
  op_named (Write t a c) rs one = element_named t (value rs a) one.element
  op_named (IfZero a q) rs one = tt
  op_named (IfNot a q) rs one = tt
  op_named (Goto q) rs one = tt
  op_named (Split a) rs one = tt
  op_named Join rs one = tt
  op_named (Pred a r) rs one = tt
  op_named (Tmc a) rs one = tt
  op_named (Wspawn a q) rs one = tt
  op_named (Bar site) rs one = tt
  op_named (Trap pos) rs one = tt
  op_named Enter rs one = tt
  op_named (Leaves a q) rs one = tt
  op_named (Again q) rs one = tt

  pub first_named : (ops : List VOp) (rs : ℕ → ℕ) → FirstInArray p setting group ops rs → FirstNamed k (named p group) ops rs
  first_named [] rs one = tt
  first_named (op ∷ ops) rs one = op_named op rs one
