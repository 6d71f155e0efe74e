-- Spots in their list: what stands at a place and behind it, and when a list of spots fits from a place on.
use Rattle.std.proofs.Common.{◌≡◌, ℕ, zero, suc, ◌+◌, Bool, true, false, ◌&&◌, List, [], ◌∷◌, drop, refl, ap, sym, ◌∙◌, subst, nat_eq, eqb-true, inl, inr, arith}
use Rattle.std.specs.Prelude.{if◌then◌else◌}
use Rattle.item_acts.specs.Launches.{put_at}
use Rattle.vcode.specs.declared.ops.Csr.{Csr}
use Rattle.vcode.specs.declared.ops.Csr.TheVariants.{LaneNumber, WarpNumber, CoreNumber, MaskNow}
use Rattle.vcode.specs.Code.{VOp, Fresh, Copy, Compute, Cut, Word, WordAt, Learn, Fetch, Write, IfZero, IfNot, Goto, Split, Join, Pred, Tmc, Wspawn, Bar, Trap, Enter, Leaves, Again}
use Rattle.mask_laws.proofs.Sets.{which}
use Rattle.mask_laws.specs.Spots.{Frame, Spot}
use Rattle.mask_laws.proofs.Frames.{Clear, Whole}
use Rattle.mask_laws.specs.Labels.{agrees, alike_in}
use Rattle.mask_laws.proofs.Fits.{Into, Under, LeadsOn, WritesWell, FitsAt, StraightFits, Fits}
use Rattle.mask_laws.specs.Labels.{flows, flows_all, straight, first_of_list, spot_in}

-- what stands behind a spot
pub behind_spot : (whole rest : List Spot) (s : Spot) (p : ℕ) → drop p whole ≡ s ∷ rest → drop (suc p) whole ≡ rest
behind_spot [] rest s zero e = absurd (cc)
behind_spot [] rest s (suc p) e = absurd (cc)
behind_spot (x ∷ whole) rest s zero e = cc
behind_spot (x ∷ whole) rest s (suc p) e = behind_spot whole rest s p e

-- a list that may be come to with these frames, whatever agrees there but what is the same in all lanes
abbrev pub Starts : (ℕ → Bool) → List Frame → List Spot → Type 0
Starts uni fs c = Into (first_of_list c).shape fs × Under (first_of_list c).agree uni

pub all_under : (uni : ℕ → Bool) → Under uni uni
all_under uni r e = e

module _ (whole : List Spot) (uni : ℕ → Bool) where
  abbrev pub spots : ℕ → Spot
  spots = spot_in whole

  pub spot_is : (p : ℕ) (s : Spot) (rest : List Spot) → drop p whole ≡ s ∷ rest → spots p ≡ s
  spot_is p s rest e = ap first_of_list e

  pub leads : (q : ℕ) (c : List Spot) (fs : List Frame) (ag : ℕ → Bool) → drop q whole ≡ c → Starts uni fs c → Under uni ag → LeadsOn spots ag fs q
  leads q c fs ag e starts more =
      (subst (λ d. Into (first_of_list d).shape fs) (sym e) starts.0, λ r h. more r (starts.1 r (subst (λ d. (first_of_list d).agree r ≡ true) e h)))

  -- a list of spots fits from a place on
  abbrev pub FitFrom : ℕ → List Spot → Type 0
  FitFrom p [] = Unit {0}
  FitFrom p (s ∷ rest) = FitsAt spots uni p s.op s.shape s.agree s.shared × FitFrom (suc p) rest

  -- ---- straight code

  -- an operation of straight code that may stand in these frames
  abbrev pub WriteOk : List Frame → ℕ → Bool → Type 0
  WriteOk fs d same = Clear d fs × (uni d ≡ true → Whole fs × (same ≡ true))

  abbrev pub LearnOk : List Frame → ℕ → Csr → Type 0
  LearnOk fs d MaskNow = ⊥
  LearnOk fs d csr = WriteOk fs d (alike_in csr)

  abbrev pub PlainOk : List Frame → Bool → (ℕ → Bool) → VOp → Type 0
  PlainOk fs shared ag Fresh = Unit {0}
  PlainOk fs shared ag (Copy d a) = WriteOk fs d (agrees ag a)
  PlainOk fs shared ag (Compute d op a b) = WriteOk fs d (agrees ag a && agrees ag b)
  PlainOk fs shared ag (Cut d elem a) = WriteOk fs d (agrees ag a)
  PlainOk fs shared ag (Word d k) = WriteOk fs d true
  PlainOk fs shared ag (WordAt d a k) = WriteOk fs d (agrees ag a)
  PlainOk fs shared ag (Learn d csr) = LearnOk fs d csr
  PlainOk fs shared ag (Fetch d elem a) = WriteOk fs d (shared && agrees ag a)
  PlainOk fs shared ag (Write elem a b) = Unit {0}
  PlainOk fs shared ag other = ⊥

  abbrev pub AllOk : List Frame → Bool → (ℕ → Bool) → List VOp → Type 0
  AllOk fs shared ag [] = Unit {0}
  AllOk fs shared ag (op ∷ ops) = PlainOk fs shared ag op × AllOk fs shared (flows shared ag op) ops

  -- a list that begins so, where lanes agree in these registers
  abbrev pub Begins : List Frame → (ℕ → Bool) → List Spot → Type 0
  Begins fs ag c = Into (first_of_list c).shape fs × Under (first_of_list c).agree ag

  leads_in : (fs : List Frame) (ag : ℕ → Bool) (q : ℕ) (c : List Spot) → drop q whole ≡ c → Begins fs ag c → LeadsOn spots ag fs q
  leads_in fs ag q c e begins = (subst (λ d. Into (first_of_list d).shape fs) (sym e) begins.0, subst (λ d. Under (first_of_list d).agree ag) (sym e) begins.1)

  write_ok : (p : ℕ) (fs : List Frame) (ag : ℕ → Bool) (d : ℕ) (same : Bool) → WriteOk fs d same → LeadsOn spots (put_at d same ag) fs (suc p) → WritesWell spots uni p fs ag d same
  write_ok p fs ag d same ok next = record { clear = ok.0; marked = ok.1; next = next }

  learn_fits : (p : ℕ) (fs : List Frame) (ag : ℕ → Bool) (shared : Bool) (d : ℕ) (csr : Csr) → LearnOk fs d csr → LeadsOn spots (put_at d (alike_in csr) ag) fs (suc p) → StraightFits spots uni p fs ag shared (Learn d csr)
  learn_fits p fs ag shared d LaneNumber ok next = write_ok p fs ag d false ok next
  learn_fits p fs ag shared d WarpNumber ok next = write_ok p fs ag d true ok next
  learn_fits p fs ag shared d CoreNumber ok next = write_ok p fs ag d true ok next
  learn_fits p fs ag shared d MaskNow ok next = absurd ok

  plain_fits : (p : ℕ) (fs : List Frame) (ag : ℕ → Bool) (shared : Bool) (op : VOp) → PlainOk fs shared ag op → LeadsOn spots (flows shared ag op) fs (suc p) → StraightFits spots uni p fs ag shared op
  plain_fits p fs ag shared Fresh ok next = next
  plain_fits p fs ag shared (Copy d a) ok next = write_ok p fs ag d (agrees ag a) ok next
  plain_fits p fs ag shared (Compute d op a b) ok next = write_ok p fs ag d (agrees ag a && agrees ag b) ok next
  plain_fits p fs ag shared (Cut d elem a) ok next = write_ok p fs ag d (agrees ag a) ok next
  plain_fits p fs ag shared (Word d k) ok next = write_ok p fs ag d true ok next
  plain_fits p fs ag shared (WordAt d a k) ok next = write_ok p fs ag d (agrees ag a) ok next
  plain_fits p fs ag shared (Learn d csr) ok next = learn_fits p fs ag shared d csr ok next
  plain_fits p fs ag shared (Fetch d elem a) ok next = write_ok p fs ag d (shared && agrees ag a) ok next
  plain_fits p fs ag shared (Write elem a b) ok next = next
  plain_fits p fs ag shared (IfZero a q) ok next = absurd ok
  plain_fits p fs ag shared (IfNot a q) ok next = absurd ok
  plain_fits p fs ag shared (Goto q) ok next = absurd ok
  plain_fits p fs ag shared (Split t) ok next = absurd ok
  plain_fits p fs ag shared Join ok next = absurd ok
  plain_fits p fs ag shared (Pred t m) ok next = absurd ok
  plain_fits p fs ag shared (Tmc a) ok next = absurd ok
  plain_fits p fs ag shared (Wspawn a q) ok next = absurd ok
  plain_fits p fs ag shared (Bar site) ok next = absurd ok
  plain_fits p fs ag shared (Trap pos) ok next = absurd ok
  plain_fits p fs ag shared Enter ok next = absurd ok
  plain_fits p fs ag shared (Leaves a x) ok next = absurd ok
  plain_fits p fs ag shared (Again q) ok next = absurd ok

  -- what is the same in all lanes stays so where an operation writes it well
  put_under : (ag : ℕ → Bool) (d : ℕ) (same : Bool) → (uni d ≡ true → same ≡ true) → Under uni ag → Under uni (put_at d same ag)
  put_under ag d same ok under r e = elim (which (nat_eq r d)) [
    | inl here ↦ ap (λ b. if b then same else ag r) here ∙ ok (ap uni (sym (eqb-true r d here)) ∙ e)
    | inr there ↦ ap (λ b. if b then same else ag r) there ∙ under r e
  ]

  ok_under : (fs : List Frame) (shared : Bool) (ag : ℕ → Bool) (op : VOp) → PlainOk fs shared ag op → Under uni ag → Under uni (flows shared ag op)
  ok_under fs shared ag Fresh ok under = under
  ok_under fs shared ag (Copy d a) ok under = put_under ag d (agrees ag a) (λ e. (ok.1 e).1) under
  ok_under fs shared ag (Compute d op a b) ok under = put_under ag d (agrees ag a && agrees ag b) (λ e. (ok.1 e).1) under
  ok_under fs shared ag (Cut d elem a) ok under = put_under ag d (agrees ag a) (λ e. (ok.1 e).1) under
  ok_under fs shared ag (Word d k) ok under = put_under ag d true (λ e. refl) under
  ok_under fs shared ag (WordAt d a k) ok under = put_under ag d (agrees ag a) (λ e. (ok.1 e).1) under
  ok_under fs shared ag (Learn d LaneNumber) ok under = put_under ag d false (λ e. (ok.1 e).1) under
  ok_under fs shared ag (Learn d WarpNumber) ok under = put_under ag d true (λ e. refl) under
  ok_under fs shared ag (Learn d CoreNumber) ok under = put_under ag d true (λ e. refl) under
  ok_under fs shared ag (Learn d MaskNow) ok under = absurd ok
  ok_under fs shared ag (Fetch d elem a) ok under = put_under ag d (shared && agrees ag a) (λ e. (ok.1 e).1) under
  ok_under fs shared ag (Write elem a b) ok under = under
  ok_under fs shared ag (Bar site) ok under = absurd ok
  ok_under fs shared ag (IfZero a q) ok under = absurd ok
  ok_under fs shared ag (IfNot a q) ok under = absurd ok
  ok_under fs shared ag (Goto q) ok under = absurd ok
  ok_under fs shared ag (Split t) ok under = absurd ok
  ok_under fs shared ag Join ok under = absurd ok
  ok_under fs shared ag (Pred t m) ok under = absurd ok
  ok_under fs shared ag (Tmc a) ok under = absurd ok
  ok_under fs shared ag (Wspawn a q) ok under = absurd ok
  ok_under fs shared ag (Trap pos) ok under = absurd ok
  ok_under fs shared ag Enter ok under = absurd ok
  ok_under fs shared ag (Leaves a x) ok under = absurd ok
  ok_under fs shared ag (Again q) ok under = absurd ok

  pub all_ok_under : (fs : List Frame) (shared : Bool) (ag : ℕ → Bool) (ops : List VOp) → AllOk fs shared ag ops → Under uni ag → Under uni (flows_all shared ag ops)
  all_ok_under fs shared ag [] ok under = under
  all_ok_under fs shared ag (op ∷ ops) ok under = all_ok_under fs shared (flows shared ag op) ops ok.1 (ok_under fs shared ag op ok.0 under)

  -- the place behind so many operations
  abbrev pub after : List VOp → ℕ → ℕ
  after [] p = p
  after (op ∷ ops) p = after ops (suc p)

  pub straight_ends : (fs : List Frame) (shared : Bool) (ag : ℕ → Bool) (ops : List VOp) (p : ℕ) (c : List Spot) → drop p whole ≡ straight fs shared ag ops c → drop (after ops p) whole ≡ c
  straight_ends fs shared ag [] p c e = e
  straight_ends fs shared ag (op ∷ ops) p c e = straight_ends fs shared (flows shared ag op) ops (suc p) c (behind_spot whole _ _ p e)

  straight_begins : (fs : List Frame) (shared : Bool) (ag : ℕ → Bool) (ops : List VOp) (c : List Spot) → Begins fs (flows_all shared ag ops) c → Begins fs ag (straight fs shared ag ops c)
  straight_begins fs shared ag [] c begins = begins
  straight_begins fs shared ag (op ∷ ops) c begins = (refl, all_under ag)

  pub straight_fits : (fs : List Frame) (shared : Bool) (ag : ℕ → Bool) (ops : List VOp) (p : ℕ) (c : List Spot) → drop p whole ≡ straight fs shared ag ops c → AllOk fs shared ag ops
      → Begins fs (flows_all shared ag ops) c → FitFrom (after ops p) c → FitFrom p (straight fs shared ag ops c)
  straight_fits fs shared ag [] p c e ok begins fits = fits
  straight_fits fs shared ag (op ∷ ops) p c e ok begins fits =
      let next : drop (suc p) whole ≡ straight fs shared (flows shared ag op) ops c = behind_spot whole _ _ p e in (
        plain_fits p fs ag shared op ok.0 (leads_in fs (flows shared ag op) (suc p) _ next (straight_begins fs shared (flows shared ag op) ops c begins)),
        straight_fits fs shared (flows shared ag op) ops (suc p) c next ok.1 begins fits,
      )

-- ---- from the list to each place

pub fits_at : (whole : List Spot) (uni : ℕ → Bool) (list : List Spot) (p q : ℕ) → FitFrom whole uni p list
    → FitsAt (spot_in whole) uni (q + p) (first_of_list (drop q list)).op (first_of_list (drop q list)).shape (first_of_list (drop q list)).agree (first_of_list (drop q list)).shared
fits_at whole uni [] p zero fits = tt
fits_at whole uni [] p (suc q) fits = tt
fits_at whole uni (s ∷ list) p zero fits = subst (λ n. FitsAt (spot_in whole) uni n s.op s.shape s.agree s.shared) (zero_more p) fits.0 where
  zero_more : (n : ℕ) → n ≡ 0 + n
  zero_more n = omega arith
fits_at whole uni (s ∷ list) p (suc q) fits =
    subst (λ n. FitsAt (spot_in whole) uni n (first_of_list (drop q list)).op (first_of_list (drop q list)).shape (first_of_list (drop q list)).agree (first_of_list (drop q list)).shared) (one_more p q)
    (fits_at whole uni list (suc p) q fits.1) where
      one_more : (n m : ℕ) → m + suc n ≡ suc m + n
      one_more n m = omega arith

-- each place of a list that fits from its first place on fits
pub all_fit : (whole : List Spot) (uni : ℕ → Bool) → FitFrom whole uni 0 whole → (p : ℕ) → Fits (spot_in whole) uni p
all_fit whole uni fits p =
    subst (λ n. FitsAt (spot_in whole) uni n (spot_in whole p).op (spot_in whole p).shape (spot_in whole p).agree (spot_in whole p).shared) (no_more p) (fits_at whole uni whole 0 p fits) where
      no_more : (n : ℕ) → n + 0 ≡ n
      no_more n = omega arith
