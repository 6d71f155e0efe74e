-- At a barrier: the active lanes are at one point, and no other lane of the items comes to it any more.
use Rattle.std.proofs.Common.{◌≡◌, ℕ, Bool, List, [], ◌∷◌, drop, reverse, refl, ap, sym, ◌∙◌, subst}
use Rattle.std.specs.Prelude.{Option, None, Some}
use Rattle.std.proofs.lemmas.List.{reverse-reverse}
use Rattle.item_acts.specs.declared.acts.Action.TheVariants.{Barrier}
use Rattle.item_acts.specs.declared.acts.Point.{Point}
use Rattle.item_acts.specs.Machine.{Asks}
use Rattle.vcode.specs.Code.{VOp, Bar}
use Rattle.vcode.specs.Machine as vcode
use Rattle.vcode.specs.Machine.{Around}
use Rattle.warp_code.specs.Warps.{VWarp}
use Rattle.warp_code.specs.Runs.{alone}
use Rattle.mask_laws.specs.Spots.{Shape, Straight, Sides, Test, Meet, Nowhere, Spot}
use Rattle.mask_laws.specs.Labels.{first_of_list, spot_in, ops_of}
use Rattle.mask_laws.proofs.Sets.{In, Out}
use Rattle.mask_laws.proofs.Frames.{Turned, ShapeHeld}
use Rattle.mask_laws.proofs.Fits.{FitsAt, Fits}
use Rattle.mask_laws.proofs.RunLaw.{drop_ops}
use Rattle.mask_laws.proofs.Order.{never_itself, Before, starts_of, frames_of, stamp, stamp_at}
use Rattle.mask_laws.proofs.Later.{point_at}
use Rattle.mask_laws.proofs.Waiting.{Later, idle_later}

-- ---- points

abbrev some_or : Point → Option Point → Point
some_or p None = p
some_or p (Some q) = q

same_point : (p q : Point) → Some p ≡ Some q → p ≡ q
same_point p q e = ap (some_or p) e

-- an operation that asks for a point is its barrier
pub bar_of_point : (op : VOp) (ts : List ℕ) (point : Point) → point_at op ts ≡ Some point → (site : ℕ) × (op ≡ Bar site) × (record { site = site; turns = reverse ts } ≡ point)
bar_of_point (Bar site) ts point e = (site, refl, same_point (record { site = site; turns = reverse ts }) point e)
bar_of_point op ts point e = absurd (cc)

same_turns : (ts ts' : List ℕ) → reverse ts ≡ reverse ts' → ts ≡ ts'
same_turns ts ts' e = sym (reverse-reverse ts) ∙ ap reverse e ∙ reverse-reverse ts'

module _ (whole : List Spot) (code : List VOp) (spelled : ops_of whole ≡ code) (uni : ℕ → Bool) (fits : (p : ℕ) → Fits (spot_in whole) uni p) where
  -- the numbers of turns of the active lanes, and that others go on behind
  pub record BarFacts (all : ℕ) (w : VWarp) : Type 0 where
    pub ts : List ℕ
    pub turned : Turned w.lanes w.mask ts
    pub later : (at : Around) (l : ℕ) → In all l → Out w.mask l → Later whole code spelled uni fits at (w.lanes l) (stamp_at (spot_in whole) w.place ts)

  facts_by : (all : ℕ) (w : VWarp) (site : ℕ) (sh : Shape) (ag : ℕ → Bool) (shared : Bool) → (spot_in whole w.place).shape ≡ sh → FitsAt (spot_in whole) uni w.place (Bar site) sh ag shared
      → ShapeHeld sh all w.lanes w.mask w.stack → BarFacts all w
  facts_by all w site (Straight fs) ag shared e fit h = record {
    ts = h.0;
    turned = h.1;
    later = λ at l has idle.
        subst (λ ss. Later whole code spelled uni fits at (w.lanes l) (stamp ss h.0 (w.place ∷ []))) (sym (ap (λ sh. starts_of (frames_of sh)) e))
        (idle_later whole code spelled uni fits at w.lanes all l has fs w.mask w.stack h.0 w.place [] h.2 idle fit.1 fit.2);
  }
  facts_by all w site (Sides q e' j t fs) ag shared e fit h = absurd fit
  facts_by all w site (Test s p x m t fs) ag shared e fit h = absurd fit
  facts_by all w site (Meet q e' j t fs) ag shared e fit h = absurd fit
  facts_by all w site Nowhere ag shared e fit h = absurd h

  pub bar_facts : (all : ℕ) (w : VWarp) (site : ℕ) → (spot_in whole w.place).op ≡ Bar site → ShapeHeld (spot_in whole w.place).shape all w.lanes w.mask w.stack → BarFacts all w
  bar_facts all w site e h =
      facts_by all w site (spot_in whole w.place).shape (spot_in whole w.place).agree (spot_in whole w.place).shared refl
      (subst (λ o. FitsAt (spot_in whole) uni w.place o (spot_in whole w.place).shape (spot_in whole w.place).agree (spot_in whole w.place).shared) e (fits w.place)) h

  -- where the spot of a place has a barrier, the code has it
  bar_in : (site : ℕ) (list : List Spot) → (first_of_list list).op ≡ Bar site → (c : List VOp) × (ops_of list ≡ Bar site ∷ c)
  bar_in site [] e = absurd (cc)
  bar_in site (s ∷ list) e = (ops_of list, ap (λ o. o ∷ ops_of list) e)

  pub bar_stands : (p site : ℕ) → (spot_in whole p).op ≡ Bar site → (c : List VOp) × (drop p code ≡ Bar site ∷ c)
  bar_stands p site e = let found = bar_in site (drop p whole) e in (found.0, ap (λ c. drop p c) (sym spelled) ∙ drop_ops whole p ∙ found.1)

  -- A lane that waits does not come to the point of the active ones, where the barrier stands at one place.
  pub never_there : (all : ℕ) (w : VWarp) (site : ℕ) (at : Around) (l : ℕ) (facts : BarFacts all w) → (spot_in whole w.place).op ≡ Bar site
      → ((p p' : ℕ) (c c' : List VOp) → drop p code ≡ Bar site ∷ c → drop p' code ≡ Bar site ∷ c' → p ≡ p') → In all l → Out w.mask l
      → (numbers answers : List ℕ) → Asks (vcode.step at code) (alone (w.lanes l) numbers) answers (Barrier (record { site = site; turns = reverse facts.ts })) → ⊥
  never_there all w site at l facts op one_place has idle numbers answers asks =
      let found = facts.later at l has idle asks.0 numbers answers (record { site = site; turns = reverse facts.ts }) asks.1 in
      let bar = bar_of_point (spot_in whole found.place).op found.turns (record { site = site; turns = reverse facts.ts }) found.is_bar in
      let same_site : bar.0 ≡ site = ap (λ p. p.site) bar.2 in
      let turns : found.turns ≡ facts.ts = same_turns found.turns facts.ts (ap (λ p. p.turns) bar.2) in
      let mine = bar_stands w.place site op in
      let other = bar_stands found.place site (bar.1 ∙ ap Bar same_site) in
      let place : found.place ≡ w.place = one_place found.place w.place other.0 mine.0 other.1 mine.1 in
      never_itself (stamp_at (spot_in whole) w.place facts.ts)
      (subst (λ p. Before (stamp_at (spot_in whole) w.place facts.ts) (stamp_at (spot_in whole) p facts.ts)) place
      (subst (λ ts. Before (stamp_at (spot_in whole) w.place facts.ts) (stamp_at (spot_in whole) found.place ts)) turns found.later))
