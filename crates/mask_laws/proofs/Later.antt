-- A lane alone rises with each step, and comes to a barrier only at a place that is no earlier.
use Rattle.std.proofs.Common.{◌≡◌, ℕ, zero, suc, ◌+◌, ◌<◌, ◌⊎◌, inl, inr, Bool, true, false, ◌==◌, List, [], ◌∷◌, drop, reverse, refl, ap, sym, ◌∙◌, subst, arith}
use Rattle.std.specs.Prelude.{if◌then◌else◌, Option, None, Some}
use Rattle.item_acts.specs.declared.acts.Action.TheVariants.{Barrier, End}
use Rattle.item_acts.specs.declared.acts.Asked.{Asked}
use Rattle.item_acts.specs.declared.acts.Asked.TheVariants.{Act}
use Rattle.item_acts.specs.declared.acts.Point.{Point}
use Rattle.item_acts.specs.Machine.{Step, Go, Ask, Stop, asked, asked_at_once, asked_behind}
use Rattle.kir.specs.Machine.{value}
use Rattle.kir.specs.Trees.{Operand, VariableOf, NumberOf}
use Rattle.step_machine.specs.Stacks.{under}
use Rattle.step_machine.specs.Turns.{risen}
use Rattle.vcode.specs.declared.ops.Csr.{Csr}
use Rattle.vcode.specs.declared.ops.Csr.TheVariants.{LaneNumber, WarpNumber, CoreNumber, MaskNow}
use Rattle.vcode.specs.Code.{VOp, Fresh, Copy, Compute, Cut, Word, WordAt, Learn, Fetch, Write, IfZero, IfNot, Goto, Split, Join, Pred, Tmc, Wspawn, Bar, Trap, Enter, Leaves, Again}
use Rattle.vcode.specs.Machine as vcode
use Rattle.vcode.specs.Machine.{Around, Lane, lane, op_step, step_from}
use Rattle.vx_isa.specs.Warps.{has_lane}
use Rattle.simt_lowering.proofs.LaneMasks.{none_stays}
use Rattle.mask_laws.specs.Spots.{Frame, First, Second, Round, Turning, Shape, Straight, Sides, Test, Meet, Nowhere, Spot}
use Rattle.mask_laws.proofs.Fits.{LeadsOn, WritesWell, LearnsWell, IsLoop, IsNone, FitsAt, StraightFits, SidesFit, TestFits, MeetFits, Fits}
use Rattle.mask_laws.specs.Labels.{first_of_list, spot_in, ops_of}
use Rattle.mask_laws.proofs.RunLaw.{drop_ops}
use Rattle.mask_laws.proofs.Order.{Before, before_both, stamp, stamp_before, AsMany, starts_of, frames_of, starts_at, IsThere, into_starts, stamp_at, MayBe}

module _ (spots : ℕ → Spot) where
  -- from loops and numbers of turns at a place to a later state
  pub record RisesFrom (ss : List ℕ) (p : ℕ) (ts : List ℕ) (p' : ℕ) (ts' : List ℕ) : Type 0 where
    pub may : MayBe spots p' ts'
    pub later : Before (stamp ss ts (p ∷ [])) (stamp_at spots p' ts')

  abbrev pub StepRises : List ℕ → ℕ → List ℕ → Step Lane → Type 0
  StepRises ss p ts (Go s) = RisesFrom ss p ts s.place s.turns
  StepRises ss p ts (Ask a next) = (x : ℕ) → RisesFrom ss p ts (next x).place (next x).turns
  StepRises ss p ts (Stop a) = Unit {0}

  -- to a place further on, with the same loops round it
  on_to : (ss ts : List ℕ) (p q : ℕ) → starts_at spots q ≡ ss → IsThere (spots q).shape → p < q → AsMany ss ts → RisesFrom ss p ts q ts
  on_to ss ts p q same there less many = record {
    may = record { there = there; many = subst (λ x. AsMany x ts) (sym same) many };
    later = subst (λ x. Before (stamp ss ts (p ∷ [])) (stamp x ts (q ∷ []))) (sym same) (stamp_before ss ts (p ∷ []) (q ∷ []) (inl less));
  }

  leads_to : (ag : ℕ → Bool) (fs : List Frame) (ts : List ℕ) (p q : ℕ) → LeadsOn spots ag fs q → p < q → AsMany (starts_of fs) ts → RisesFrom (starts_of fs) p ts q ts
  leads_to ag fs ts p q leads less many =
      let found = into_starts (spots q).shape fs leads.0 in on_to (starts_of fs) ts p q found.0 found.1 less many

  just_on : (p : ℕ) → p < suc p
  just_on p = omega arith

  -- into a loop, to its next turn, and out of it
  enters : (ss ts : List ℕ) (p q s : ℕ) → starts_at spots q ≡ s ∷ ss → IsThere (spots q).shape → p < s → AsMany ss ts → RisesFrom ss p ts q (0 ∷ ts)
  enters ss ts p q s same there less many = record {
    may = record { there = there; many = subst (λ x. AsMany x (0 ∷ ts)) (sym same) many };
    later = subst (λ x. Before (stamp ss ts (p ∷ [])) (stamp x (0 ∷ ts) (q ∷ []))) (sym same) (stamp_before ss ts (p ∷ []) (s ∷ 0 ∷ q ∷ []) (inl less));
  }

  turns_again : (s : ℕ) (ss ts : List ℕ) (p q : ℕ) → starts_at spots q ≡ s ∷ ss → IsThere (spots q).shape → AsMany (s ∷ ss) ts → RisesFrom (s ∷ ss) p ts q (risen ts)
  turns_again s ss [] p q same there many = absurd many
  turns_again s ss (n ∷ ns) p q same there many = record {
    may = record { there = there; many = subst (λ x. AsMany x ((n + 1) ∷ ns)) (sym same) many };
    later = subst (λ x. Before (stamp ss ns (s ∷ n ∷ p ∷ [])) (stamp x ((n + 1) ∷ ns) (q ∷ []))) (sym same)
        (stamp_before ss ns (s ∷ n ∷ p ∷ []) (s ∷ (n + 1) ∷ q ∷ []) (inr (refl, inl (one_more n))));
  } where
    one_more : (m : ℕ) → m < m + 1
    one_more m = omega arith

  goes_out : (s : ℕ) (ss ts : List ℕ) (p q : ℕ) → starts_at spots q ≡ ss → IsThere (spots q).shape → s < q → AsMany (s ∷ ss) ts → RisesFrom (s ∷ ss) p ts q (under ts)
  goes_out s ss [] p q same there less many = absurd many
  goes_out s ss (n ∷ ns) p q same there less many = record {
    may = record { there = there; many = subst (λ x. AsMany x ns) (sym same) many };
    later = subst (λ x. Before (stamp ss ns (s ∷ n ∷ p ∷ [])) (stamp x ns (q ∷ []))) (sym same) (stamp_before ss ns (s ∷ n ∷ p ∷ []) (q ∷ []) (inl less));
  }

  -- ---- each operation

  either_place : (ss ts : List ℕ) (p q q' : ℕ) (b : Bool) → RisesFrom ss p ts q ts → RisesFrom ss p ts q' ts → RisesFrom ss p ts (if b then q else q') ts
  either_place ss ts p q q' true one other = one
  either_place ss ts p q q' false one other = other

  either_lane : (ss ts : List ℕ) (p q q' : ℕ) (rs : ℕ → ℕ) (ns : List ℕ) (b : Bool) → RisesFrom ss p ts q (under ts) → RisesFrom ss p ts q' ts
      → RisesFrom ss p ts (if b then lane q rs (under ts) ns else lane q' rs ts ns).place (if b then lane q rs (under ts) ns else lane q' rs ts ns).turns
  either_lane ss ts p q q' rs ns true one other = one
  either_lane ss ts p q q' rs ns false one other = other

  module _ (uni : ℕ → Bool) (at : Around) (p : ℕ) (rs : ℕ → ℕ) (ts ns : List ℕ) where
    written : (fs : List Frame) (ag : ℕ → Bool) (d : ℕ) (same : Bool) → AsMany (starts_of fs) ts → WritesWell spots uni p fs ag d same → RisesFrom (starts_of fs) p ts (suc p) ts
    written fs ag d same many well = leads_to _ fs ts p (suc p) well.next (just_on p) many

    learned_rises : (fs : List Frame) (ag : ℕ → Bool) (d : ℕ) (csr : Csr) → AsMany (starts_of fs) ts → LearnsWell spots uni p fs ag d csr → RisesFrom (starts_of fs) p ts (suc p) ts
    learned_rises fs ag d LaneNumber many well = written fs ag d false many well
    learned_rises fs ag d WarpNumber many well = written fs ag d true many well
    learned_rises fs ag d CoreNumber many well = written fs ag d true many well
    learned_rises fs ag d MaskNow many well =
        let found = into_starts (spots (suc p)).shape _ well.next.0 in
        on_to (starts_of fs) ts p (suc p) (found.0 ∙ ap starts_of (sym well.frames)) found.1 (just_on p) many

    tmc_stops : (a : Operand) (ss : List ℕ) → IsNone a → StepRises ss p ts (op_step at (Tmc a) p rs ts ns)
    tmc_stops (NumberOf zero) ss none = subst (λ b. StepRises ss p ts (if b then Go (lane (suc p) rs ts ns) else Stop End)) (sym (none_stays at.number)) tt
    tmc_stops (NumberOf (suc n)) ss none = absurd none
    tmc_stops (VariableOf r) ss none = absurd none

    again_rises : (f : Frame) (round : List Frame) (q : ℕ) → IsLoop f → AsMany (starts_of (f ∷ round)) ts → (starts_at spots q ≡ starts_of (f ∷ round)) × IsThere (spots q).shape → RisesFrom (starts_of (f ∷ round)) p ts q (risen ts)
    again_rises (First q' e j t) round q loop many found = absurd loop
    again_rises (Second q' e j t) round q loop many found = absurd loop
    again_rises (Round s x) round q loop many found = turns_again s (starts_of round) ts p q found.0 found.1 many
    again_rises (Turning s p' x m t) round q loop many found = turns_again s (starts_of round) ts p q found.0 found.1 many

    straight_rises : (op : VOp) (fs : List Frame) (ag : ℕ → Bool) (shared : Bool) → AsMany (starts_of fs) ts → StraightFits spots uni p fs ag shared op → StepRises (starts_of fs) p ts (op_step at op p rs ts ns)
    straight_rises Fresh fs ag shared many fits = leads_to ag fs ts p (suc p) fits (just_on p) many
    straight_rises (Copy d a) fs ag shared many fits = written fs ag d _ many fits
    straight_rises (Compute d op a b) fs ag shared many fits = written fs ag d _ many fits
    straight_rises (Cut d elem a) fs ag shared many fits = written fs ag d _ many fits
    straight_rises (Word d k) fs ag shared many fits = written fs ag d _ many fits
    straight_rises (WordAt d a k) fs ag shared many fits = written fs ag d _ many fits
    straight_rises (Learn d csr) fs ag shared many fits = learned_rises fs ag d csr many fits
    straight_rises (Fetch d elem a) fs ag shared many fits = λ x. written fs ag d _ many fits
    straight_rises (Write elem a b) fs ag shared many fits = λ x. leads_to ag fs ts p (suc p) fits (just_on p) many
    straight_rises (IfZero a q) fs ag shared many fits =
        either_place (starts_of fs) ts p q (suc p) (value rs a == 0) (leads_to ag fs ts p q fits.there fits.later many) (leads_to ag fs ts p (suc p) fits.on (just_on p) many)
    straight_rises (IfNot a q) fs ag shared many fits =
        either_place (starts_of fs) ts p (suc p) q (value rs a == 0) (leads_to ag fs ts p (suc p) fits.on (just_on p) many) (leads_to ag fs ts p q fits.there fits.later many)
    straight_rises (Goto q) fs ag shared many fits = leads_to ag fs ts p q fits.0 fits.1 many
    straight_rises (Split t) fs ag shared many fits =
        on_to (starts_of fs) ts p (suc p) (ap (λ sh. starts_of (frames_of sh)) fits.shape) (subst IsThere (sym fits.shape) tt) (just_on p) many
    straight_rises Join fs ag shared many fits = absurd fits
    straight_rises (Pred t m) fs ag shared many fits =
        on_to (starts_of fs) ts p (suc p) (ap (λ sh. starts_of (frames_of sh)) fits.shape ∙ ap starts_of (sym fits.frames)) (subst IsThere (sym fits.shape) tt) (just_on p) many
    straight_rises (Tmc a) fs ag shared many fits = tmc_stops a (starts_of fs) fits.1
    straight_rises (Wspawn a q) fs ag shared many fits = absurd fits
    straight_rises (Bar site) fs ag shared many fits = λ x. leads_to ag fs ts p (suc p) fits.0 (just_on p) many
    straight_rises (Trap pos) fs ag shared many fits = tt
    straight_rises Enter fs ag shared many fits =
        let found = into_starts (spots (suc p)).shape (Round fits.start fits.exit ∷ fs) fits.next.0 in enters (starts_of fs) ts p (suc p) fits.start found.0 found.1 fits.later many
    straight_rises (Leaves a x) fs ag shared many fits =
        let same : starts_of fs ≡ fits.start ∷ starts_of fits.round = ap starts_of fits.frames in
        let found = into_starts (spots x).shape fits.round fits.out.0 in
        either_lane (starts_of fs) ts p x (suc p) rs ns (value rs a == 0)
        (subst (λ ss. RisesFrom ss p ts x (under ts)) (sym same) (goes_out fits.start (starts_of fits.round) ts p x found.0 found.1 fits.before (subst (λ ss. AsMany ss ts) same many)))
        (leads_to ag fs ts p (suc p) fits.on (just_on p) many)
    straight_rises (Again q) fs ag shared many fits =
        let same : starts_of fs ≡ starts_of (fits.frame ∷ fits.round) = ap starts_of fits.frames in
        let found = into_starts (spots q).shape fs fits.back.0 in
        subst (λ ss. RisesFrom ss p ts q (risen ts)) (sym same) (again_rises fits.frame fits.round q fits.is_loop (subst (λ ss. AsMany ss ts) same many) (found.0 ∙ same, found.1))

    sides_rises : (op : VOp) (q e j : ℕ) (t : Operand) (fs : List Frame) (ag : ℕ → Bool) → AsMany (starts_of fs) ts → SidesFit spots p q e j t fs ag op → StepRises (starts_of fs) p ts (op_step at op p rs ts ns)
    sides_rises (IfZero a o) q e j t fs ag many fits =
        either_place (starts_of fs) ts p o (suc p) (value rs a == 0) (leads_to ag (Second q e j t ∷ fs) ts p o fits.second fits.second_later many)
        (leads_to ag (First q e j t ∷ fs) ts p (suc p) fits.first fits.first_later many)
    sides_rises (IfNot a o) q e j t fs ag many fits =
        either_place (starts_of fs) ts p (suc p) o (value rs a == 0) (leads_to ag (Second q e j t ∷ fs) ts p (suc p) fits.second fits.second_later many)
        (leads_to ag (First q e j t ∷ fs) ts p o fits.first fits.first_later many)
    sides_rises other q e j t fs ag many fits = absurd fits

    test_rises : (op : VOp) (s p' x m : ℕ) (t : Operand) (fs : List Frame) (ag : ℕ → Bool) → AsMany (s ∷ starts_of fs) ts → TestFits spots p s p' x m t fs ag op → StepRises (s ∷ starts_of fs) p ts (op_step at op p rs ts ns)
    test_rises (Leaves a o) s p' x m t fs ag many fits =
        let found = into_starts (spots o).shape fs fits.out.0 in
        either_lane (s ∷ starts_of fs) ts p o (suc p) rs ns (value rs a == 0) (goes_out s (starts_of fs) ts p o found.0 found.1 fits.before many)
        (leads_to ag (Turning s p' x m t ∷ fs) ts p (suc p) fits.on (just_on p) many)
    test_rises other s p' x m t fs ag many fits = absurd fits

    meet_rises : (op : VOp) (q e j : ℕ) (t : Operand) (fs : List Frame) → AsMany (starts_of fs) ts → MeetFits spots uni p q e j t fs op → StepRises (starts_of fs) p ts (op_step at op p rs ts ns)
    meet_rises Join q e j t fs many fits = leads_to uni fs ts p (suc p) fits.next (just_on p) many
    meet_rises other q e j t fs many fits = absurd fits

    step_rises : (op : VOp) (sh : Shape) (ag : ℕ → Bool) (shared : Bool) → IsThere sh → AsMany (starts_of (frames_of sh)) ts → FitsAt spots uni p op sh ag shared
        → StepRises (starts_of (frames_of sh)) p ts (op_step at op p rs ts ns)
    step_rises op (Straight fs) ag shared there many fits = straight_rises op fs ag shared many fits
    step_rises op (Sides q e j t fs) ag shared there many fits = sides_rises op q e j t fs ag many fits
    step_rises op (Test s p' x m t fs) ag shared there many fits = test_rises op s p' x m t fs ag many fits
    step_rises op (Meet q e j t fs) ag shared there many fits = meet_rises op q e j t fs many fits
    step_rises op Nowhere ag shared there many fits = absurd there

-- ---- barriers that a lane asks for

abbrev pub point_of : Asked → Option Point
point_of (Act (Barrier point)) = Some point
point_of other = None

abbrev point_in : Step Lane → Option Point
point_in (Go s) = None
point_in (Ask a next) = point_of (Act a)
point_in (Stop a) = point_of (Act a)

-- a barrier that is asked for at once, and what an operation asks for
at_once : (d : Step Lane) (answers : List ℕ) (point : Point) → point_of (asked_at_once d answers) ≡ Some point → point_in d ≡ Some point
at_once (Go s) answers point e = absurd (cc)
at_once (Ask a next) [] point e = e
at_once (Ask a next) (answer ∷ answers) point e = absurd (cc)
at_once (Stop a) [] point e = e
at_once (Stop a) (answer ∷ answers) point e = absurd (cc)

abbrev pub point_at : VOp → List ℕ → Option Point
point_at (Bar site) ts = Some (record { site = site; turns = reverse ts })
point_at other ts = None

tmc_point : (b : Bool) (s : Lane) → point_in (if b then Go s else Stop End) ≡ None
tmc_point true s = refl
tmc_point false s = refl

op_point : (at : Around) (op : VOp) (p : ℕ) (rs : ℕ → ℕ) (ts ns : List ℕ) → point_in (op_step at op p rs ts ns) ≡ point_at op ts
op_point at (Tmc a) p rs ts ns = tmc_point (has_lane (value rs a) at.number) (lane (suc p) rs ts ns)
op_point at Fresh p rs ts ns = refl
op_point at (Copy d a) p rs ts ns = refl
op_point at (Compute d op a b) p rs ts ns = refl
op_point at (Cut d elem a) p rs ts ns = refl
op_point at (Word d k) p rs ts ns = refl
op_point at (WordAt d a k) p rs ts ns = refl
op_point at (Learn d csr) p rs ts ns = refl
op_point at (Fetch d elem a) p rs ts ns = refl
op_point at (Write elem a b) p rs ts ns = refl
op_point at (IfZero a q) p rs ts ns = refl
op_point at (IfNot a q) p rs ts ns = refl
op_point at (Goto q) p rs ts ns = refl
op_point at (Split a) p rs ts ns = refl
op_point at Join p rs ts ns = refl
op_point at (Pred a m) p rs ts ns = refl
op_point at (Wspawn a q) p rs ts ns = refl
op_point at (Bar site) p rs ts ns = refl
op_point at (Trap pos) p rs ts ns = refl
op_point at Enter p rs ts ns = refl
op_point at (Leaves a q) p rs ts ns = refl
op_point at (Again q) p rs ts ns = refl

-- where a lane that is at a place with these numbers of turns comes to a barrier
pub record ComesTo (spots : ℕ → Spot) (p : ℕ) (ts : List ℕ) (point : Point) : Type 0 where
  pub place : ℕ
  pub turns : List ℕ
  pub is_bar : point_at (spots place).op turns ≡ Some point
  pub not_earlier : (stamp_at spots p ts ≡ stamp_at spots place turns) ⊎ Before (stamp_at spots p ts) (stamp_at spots place turns)

module _ (whole : List Spot) (code : List VOp) (spelled : ops_of whole ≡ code) (uni : ℕ → Bool) (fits : (p : ℕ) → Fits (spot_in whole) uni p) (at : Around) where
  pub there_stands : (list : List Spot) → IsThere (first_of_list list).shape → (ops : List VOp) × (ops_of list ≡ (first_of_list list).op ∷ ops)
  there_stands [] h = absurd h
  there_stands (s ∷ list) h = (ops_of list, refl)

  -- the step of a lane that may be where it is
  pub lane_step : (p : ℕ) (rs : ℕ → ℕ) (ts ns : List ℕ) → IsThere (spot_in whole p).shape → vcode.step at code (lane p rs ts ns) ≡ op_step at (spot_in whole p).op p rs ts ns
  lane_step p rs ts ns there =
      let found = there_stands (drop p whole) there in
      ap (λ c. step_from at c p rs ts ns) (ap (λ c. drop p c) (sym spelled) ∙ drop_ops whole p ∙ found.1)

  pub rises_at : (p : ℕ) (rs : ℕ → ℕ) (ts ns : List ℕ) → MayBe (spot_in whole) p ts → StepRises (spot_in whole) (starts_at (spot_in whole) p) p ts (op_step at (spot_in whole p).op p rs ts ns)
  rises_at p rs ts ns may =
      step_rises (spot_in whole) uni at p rs ts ns (spot_in whole p).op (spot_in whole p).shape (spot_in whole p).agree (spot_in whole p).shared may.there may.many (fits p)

  later_too : (p : ℕ) (ts : List ℕ) (s : Lane) (point : Point) → RisesFrom (spot_in whole) (starts_at (spot_in whole) p) p ts s.place s.turns → ComesTo (spot_in whole) s.place s.turns point → ComesTo (spot_in whole) p ts point
  later_too p ts s point up there = record {
    place = there.place;
    turns = there.turns;
    is_bar = there.is_bar;
    not_earlier = inr (behind there.not_earlier);
  } where
    behind : (stamp_at (spot_in whole) s.place s.turns ≡ stamp_at (spot_in whole) there.place there.turns) ⊎ Before (stamp_at (spot_in whole) s.place s.turns) (stamp_at (spot_in whole) there.place there.turns)
        → Before (stamp_at (spot_in whole) p ts) (stamp_at (spot_in whole) there.place there.turns)
    behind (inl same) = subst (λ x. Before (stamp_at (spot_in whole) p ts) x) same up.later
    behind (inr more) = before_both (stamp_at (spot_in whole) p ts) (stamp_at (spot_in whole) s.place s.turns) (stamp_at (spot_in whole) there.place there.turns) up.later more

  here_now : (p : ℕ) (ts : List ℕ) (point : Point) → point_at (spot_in whole p).op ts ≡ Some point → ComesTo (spot_in whole) p ts point
  here_now p ts point e = record { place = p; turns = ts; is_bar = e; not_earlier = inl refl }

  -- behind one step
  by_step : (n p : ℕ) (ts : List ℕ) (point : Point) (d : Step Lane) (answers : List ℕ)
      → ((s : Lane) (later : List ℕ) → MayBe (spot_in whole) s.place s.turns → asked (vcode.step at code) n s later ≡ Act (Barrier point) → ComesTo (spot_in whole) s.place s.turns point)
      → StepRises (spot_in whole) (starts_at (spot_in whole) p) p ts d → point_in d ≡ point_at (spot_in whole p).op ts
      → asked_behind (asked (vcode.step at code) n) d answers ≡ Act (Barrier point) → ComesTo (spot_in whole) p ts point
  by_step n p ts point (Go s) answers rest up same e = later_too p ts s point up (rest s answers up.may e)
  by_step n p ts point (Ask a next) [] rest up same e = here_now p ts point (sym same ∙ ap point_of e)
  by_step n p ts point (Ask a next) (answer ∷ answers) rest up same e = later_too p ts (next answer) point (up answer) (rest (next answer) answers (up answer).may e)
  by_step n p ts point (Stop a) [] rest up same e = here_now p ts point (sym same ∙ ap point_of e)
  by_step n p ts point (Stop a) (answer ∷ answers) rest up same e = absurd (cc)

  -- A lane alone comes to a barrier at a place that is no earlier than its own.
  pub comes_to : (n : ℕ) (s : Lane) (answers : List ℕ) (point : Point) → MayBe (spot_in whole) s.place s.turns → asked (vcode.step at code) n s answers ≡ Act (Barrier point) → ComesTo (spot_in whole) s.place s.turns point
  comes_to zero s answers point may e =
      here_now s.place s.turns point
      (sym (op_point at (spot_in whole s.place).op s.place s.registers s.turns s.numbers)
      ∙ at_once (op_step at (spot_in whole s.place).op s.place s.registers s.turns s.numbers) answers point
      (ap (λ d. point_of (asked_at_once d answers)) (sym (lane_step s.place s.registers s.turns s.numbers may.there)) ∙ ap point_of e))
  comes_to (suc n) s answers point may e =
      by_step n s.place s.turns point (op_step at (spot_in whole s.place).op s.place s.registers s.turns s.numbers) answers (λ s' later may' e'. comes_to n s' later point may' e')
      (rises_at s.place s.registers s.turns s.numbers may) (op_point at (spot_in whole s.place).op s.place s.registers s.turns s.numbers)
      (ap (λ d. asked_behind (asked (vcode.step at code) n) d answers) (sym (lane_step s.place s.registers s.turns s.numbers may.there)) ∙ e)
