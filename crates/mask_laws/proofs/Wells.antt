-- The spots of a check, a branch and a loop fit where those of their parts do.
use Rattle.std.proofs.Common.{◌≡◌, ℕ, suc, ◌<◌, ◌≤◌, inl, inr, Bool, true, false, List, [], ◌∷◌, drop, refl, ap, subst, arith, nat_eq, le_of_lt}
use Rattle.std.specs.Prelude.{if◌then◌else◌}
use Rattle.item_acts.specs.Launches.{put_at}
use Rattle.vx_base.specs.declared.types.Pos.{Pos}
use Rattle.kir.specs.Trees.{Operand}
use Rattle.simt_lowering.specs.Lowered.{Known, held, check_end, if_end, loop_end}
use Rattle.mask_laws.specs.Spots.{Frame, First, Second, Round, Turning, Spot}
use Rattle.mask_laws.proofs.Frames.{Clear, sides}
use Rattle.mask_laws.specs.Labels.{agrees}
use Rattle.mask_laws.proofs.Fits.{Under, Regions, FramesThere}
use Rattle.mask_laws.specs.Labels.{bare, Labelled, check_spots, if_spots, loop_spots}
use Rattle.mask_laws.proofs.Whole.{Starts, all_under, behind_spot, spots, spot_is, leads, FitFrom}

-- earlier places are below the same
pub regions_down : (p q : ℕ) (fs : List Frame) → p ≤ q → Regions q fs → Regions p fs
regions_down p q [] less r = tt
regions_down p q (First q' e j t ∷ fs) less r = (omega (arith, less, r.0), regions_down p q fs less r.1)
regions_down p q (Second q' e j t ∷ fs) less r = (omega (arith, less, r.0), regions_down p q fs less r.1)
regions_down p q (Round s x ∷ fs) less r = r
regions_down p q (Turning s p' x m t ∷ fs) less r = r

next_later : (p : ℕ) → p < suc p
next_later p = omega arith

third_later : (p : ℕ) → p < suc (suc p)
third_later p = omega arith

step_later : (p q : ℕ) → suc p ≤ q → p < suc q
step_later p q less = omega (arith, less)

two_later : (p q : ℕ) → suc (suc p) ≤ q → suc p < suc q
two_later p q less = omega (arith, less)

less_from : (p q : ℕ) → suc p ≤ q → p < q
less_from p q less = omega (arith, less)

weaker : (p q : ℕ) → suc p ≤ q → p ≤ q
weaker p q less = omega (arith, less)

weaker_twice : (p q : ℕ) → suc p ≤ q → p ≤ suc q
weaker_twice p q less = omega (arith, less)

itself_more : (p : ℕ) → p ≤ suc p
itself_more p = omega arith

chain_less : (p a b c : ℕ) → suc (suc p) ≤ a → a ≤ b → suc b ≤ c → suc p < suc c
chain_less p a b c h h' h'' = omega (arith, h, h', h'')

chain_less' : (p a b c : ℕ) → suc (suc (suc p)) ≤ a → a ≤ b → suc (suc b) ≤ c → suc p < suc c
chain_less' p a b c h h' h'' = omega (arith, h, h', h'')

module _ (whole : List Spot) (uni : ℕ → Bool) where
  -- a place has this shape, and what agrees there is the same in all lanes
  shape_is : (p : ℕ) (s : Spot) (rest : List Spot) → drop p whole ≡ s ∷ rest → (spots whole uni p).shape ≡ s.shape
  shape_is p s rest e = ap (λ x. x.shape) (spot_is whole uni p s rest e)

  agree_is : (p : ℕ) (s : Spot) (rest : List Spot) (ag : ℕ → Bool) → drop p whole ≡ s ∷ rest → Under s.agree ag → Under (spots whole uni p).agree ag
  agree_is p s rest ag e under r h = under r (subst (λ x. x.agree r ≡ true) (spot_is whole uni p s rest e) h)

  -- what follows the operations of a part, and when they fit
  pub record PartWell (lab : Labelled) (fs : List Frame) (p : ℕ) (c : List Spot) : Type 0 where
    pub ends : drop (lab.end p) whole ≡ c
    pub fits : Regions (lab.end p) fs → FramesThere (spots whole uni) fs → FitFrom whole uni (lab.end p) c → FitFrom whole uni p (lab.label fs p c)

  abbrev pub Well : Labelled → List Frame → Type 0
  Well lab fs = (p : ℕ) (c : List Spot) → drop p whole ≡ lab.label fs p c → Starts uni fs c → PartWell lab fs p c

  abbrev pub Starting : Labelled → List Frame → Type 0
  Starting lab fs = (p : ℕ) (c : List Spot) → Starts uni fs c → Starts uni fs (lab.label fs p c)

  -- a part ends no earlier than it begins
  abbrev pub Forward : Labelled → Type 0
  Forward lab = (p : ℕ) → p ≤ lab.end p

  same : Under uni uni
  same = all_under uni

  -- ---- a check

  module _ (k : Known) (pos : Pos) (fs : List Frame) (ag : ℕ → Bool) (more : Under uni ag) where
    abbrev pub check_lab : Bool → Labelled
    check_lab u = record { end = check_end u; label = λ gs q d. check_spots k u pos q gs uni ag d }

    pub check_one : agrees ag (held k 0) ≡ true → Well (check_lab true) fs
    check_one alike p c e starts =
        let e1 = behind_spot whole _ _ p e in
        let e2 = behind_spot whole _ _ (suc p) e1 in
        record {
          ends = e2;
          fits = λ r th f.
              (record { later = third_later p; alike = alike; there = leads whole uni (suc (suc p)) c fs ag e2 starts more; on = leads whole uni (suc p) _ fs ag e1 (refl, same) more }, (tt, f));
        }

    pub check_two : sides fs ≤ 31 → Well (check_lab false) fs
    check_two few p c e starts =
        let e1 = behind_spot whole _ _ p e in
        let e2 = behind_spot whole _ _ (suc p) e1 in
        let e3 = behind_spot whole _ _ (suc (suc p)) e2 in
        let e4 = behind_spot whole _ _ (suc (suc (suc p))) e3 in
        record {
          ends = e4;
          fits = λ r th f. (
            record { few = few; second = suc (suc p); meet = suc (suc (suc p)); shape = shape_is (suc p) _ _ e1; agree = agree_is (suc p) _ _ ag e1 more },
            (
              record {
                operand = refl;
                at_split = refl;
                first_later = third_later (suc p);
                second_later = next_later (suc p);
                second_is = refl;
                first = leads whole uni (suc (suc (suc p))) _ _ uni e3 (inl refl, same) same;
                second = leads whole uni (suc (suc p)) _ _ uni e2 (refl, same) same;
              },
              (tt, (record { at_meet = refl; next = leads whole uni (suc (suc (suc (suc p)))) c fs uni e4 starts same; shape = shape_is (suc p) _ _ e1; agree = agree_is (suc p) _ _ uni e1 same }, f)),
            ),
          );
        }

  -- ---- a branch

  module _ (t : Operand) (one other : Labelled) (fs : List Frame) where
    abbrev pub if_lab : Bool → Labelled
    if_lab u = record { end = if_end u (bare one) (bare other); label = λ gs q d. if_spots u t one other gs uni q d }

    pub if_one : agrees uni t ≡ true → Forward one → Forward other → Well one fs → Well other fs → Starting one fs → Starting other fs → Well (if_lab true) fs
    if_one alike forward forward' first second begins begins' p c e starts =
        let e1 = behind_spot whole _ _ p e in
        let w1 = first (suc p) _ e1 (refl, same) in
        let e3 = behind_spot whole _ _ (one.end (suc p)) w1.ends in
        let w2 = second (suc (one.end (suc p))) c e3 starts in
        record {
          ends = w2.ends;
          fits = λ r th f. (
            record {
              later = step_later p (one.end (suc p)) (forward (suc p));
              alike = alike;
              there = leads whole uni (suc (one.end (suc p))) _ fs uni e3 (begins' _ c starts) same;
              on = leads whole uni (suc p) _ fs uni e1 (begins (suc p) _ (refl, same)) same;
            },
            w1.fits (regions_down (one.end (suc p)) (other.end (suc (one.end (suc p)))) fs (weaker (one.end (suc p)) (other.end (suc (one.end (suc p)))) (forward' (suc (one.end (suc p))))) r) th
                ((leads whole uni (other.end (suc (one.end (suc p)))) c fs uni w2.ends starts same, less_from (one.end (suc p)) (other.end (suc (one.end (suc p)))) (forward' (suc (one.end (suc p))))), w2.fits r th f),
          );
        }

    abbrev pub split_e : ℕ → ℕ
    split_e p = suc (one.end (suc (suc p)))

    abbrev pub split_j : ℕ → ℕ
    split_j p = other.end (split_e p)

    pub if_two : sides fs ≤ 31 → Forward one → Forward other → ((p : ℕ) → Well one (First p (split_e p) (split_j p) t ∷ fs)) → ((p : ℕ) → Well other (Second p (split_e p) (split_j p) t ∷ fs))
        → ((p : ℕ) → Starting one (First p (split_e p) (split_j p) t ∷ fs)) → ((p : ℕ) → Starting other (Second p (split_e p) (split_j p) t ∷ fs)) → Well (if_lab false) fs
    if_two few forward forward' first second begins begins' p c e starts =
        let e1 = behind_spot whole _ _ p e in
        let e2 = behind_spot whole _ _ (suc p) e1 in
        let w1 = first p (suc (suc p)) _ e2 (refl, same) in
        let e4 = behind_spot whole _ _ (one.end (suc (suc p))) w1.ends in
        let w2 = second p (split_e p) _ e4 (inr refl, same) in
        let e6 = behind_spot whole _ _ (split_j p) w2.ends in
        record {
          ends = e6;
          fits = λ r th f. (
            record { few = few; second = split_e p; meet = split_j p; shape = shape_is (suc p) _ _ e1; agree = agree_is (suc p) _ _ uni e1 same },
            (
              record {
                operand = refl;
                at_split = refl;
                first_later = next_later (suc p);
                second_later = two_later p (one.end (suc (suc p))) (forward (suc (suc p)));
                second_is = refl;
                first = leads whole uni (suc (suc p)) _ _ uni e2 (begins p (suc (suc p)) _ (refl, same)) same;
                second = leads whole uni (split_e p) _ _ uni e4 (begins' p (split_e p) _ (inr refl, same)) same;
              },
              w1.fits
                  (next_later (one.end (suc (suc p))), regions_down (one.end (suc (suc p))) (suc (split_j p)) fs (weaker_twice (one.end (suc (suc p))) (split_j p) (forward' (split_e p))) r)
                  (shape_is (suc p) _ _ e1, th) (
                    (leads whole uni (split_j p) _ _ uni w2.ends (inl refl, same) same, less_from (one.end (suc (suc p))) (split_j p) (forward' (split_e p))),
                    w2.fits (next_later (split_j p), regions_down (split_j p) (suc (split_j p)) fs (itself_more (split_j p)) r) ((leads whole uni (suc (split_j p)) c fs uni e6 starts same).0, th)
                        (record { at_meet = refl; next = leads whole uni (suc (split_j p)) c fs uni e6 starts same; shape = shape_is (suc p) _ _ e1; agree = agree_is (suc p) _ _ uni e1 same }, f),
                  ),
            ),
          );
        }

  -- ---- a loop

  module _ (t : Operand) (m : ℕ) (step head body : Labelled) (fs : List Frame) where
    abbrev pub loop_lab : Bool → Labelled
    loop_lab u = record { end = loop_end u (bare step) (bare head) (bare body); label = λ gs q d. loop_spots u t m step head body gs uni q d }

    -- where the parts of a loop stand whose lanes stay together
    abbrev pub head_at : ℕ → ℕ
    head_at p = step.end (suc (suc p))

    abbrev pub test_at : ℕ → ℕ
    test_at p = head.end (head_at p)

    abbrev pub out_at : ℕ → ℕ
    out_at p = suc (body.end (suc (test_at p)))

    abbrev pub rounds : ℕ → List Frame
    rounds p = Round (suc p) (out_at p) ∷ fs

    pub loop_one : agrees uni t ≡ true → Forward step → Forward head → Forward body → ((p : ℕ) → Well step (rounds p)) → ((p : ℕ) → Well head (rounds p)) → ((p : ℕ) → Well body (rounds p))
        → ((p : ℕ) → Starting step (rounds p)) → ((p : ℕ) → Starting head (rounds p)) → ((p : ℕ) → Starting body (rounds p)) → Well (loop_lab true) fs
    loop_one alike forward forward' forward'' first second third begins begins' begins'' p c e starts =
        let far : suc p < out_at p = chain_less p (head_at p) (test_at p) (body.end (suc (test_at p))) (forward (suc (suc p))) (forward' (head_at p)) (forward'' (suc (test_at p))) in
        let e1 = behind_spot whole _ _ p e in
        let e2 = behind_spot whole _ _ (suc p) e1 in
        let w1 = first p (suc (suc p)) _ e2 (begins' p (head_at p) _ (refl, same)) in
        let w2 = second p (head_at p) _ w1.ends (refl, same) in
        let e5 = behind_spot whole _ _ (test_at p) w2.ends in
        let w3 = third p (suc (test_at p)) _ e5 (refl, same) in
        let e7 = behind_spot whole _ _ (body.end (suc (test_at p))) w3.ends in
        record {
          ends = e7;
          fits = λ r th f. (
            record { start = suc p; exit = out_at p; later = next_later p; next = leads whole uni (suc p) _ (rounds p) uni e1 (refl, same) same },
            (
              (leads whole uni (head_at p) _ (rounds p) uni w1.ends (begins' p (head_at p) _ (refl, same)) same, less_from (suc p) (head_at p) (forward (suc (suc p)))),
              w1.fits (regions_down (suc p) (out_at p) fs (le_of_lt far) r) th (w2.fits (regions_down (suc p) (out_at p) fs (le_of_lt far) r) th (
                record {
                  alike = alike;
                  start = suc p;
                  round = fs;
                  frames = refl;
                  before = far;
                  out = leads whole uni (out_at p) c fs uni e7 starts same;
                  on = leads whole uni (suc (test_at p)) _ (rounds p) uni e5 (begins'' p (suc (test_at p)) _ (refl, same)) same;
                },
                w3.fits (regions_down (suc p) (out_at p) fs (le_of_lt far) r) th (
                  record {
                    frame = Round (suc p) (out_at p);
                    round = fs;
                    is_loop = tt;
                    frames = refl;
                    back = leads whole uni (suc (suc p)) _ (rounds p) uni e2 (begins p (suc (suc p)) _ (begins' p (head_at p) _ (refl, same))) same;
                  },
                  f,
                ),
              )),
            ),
          );
        }

    -- and of a loop that lanes leave one by one
    abbrev pub head_at' : ℕ → ℕ
    head_at' p = step.end (suc (suc (suc p)))

    abbrev pub pred_at : ℕ → ℕ
    pred_at p = head.end (head_at' p)

    abbrev pub out_at' : ℕ → ℕ
    out_at' p = suc (body.end (suc (suc (pred_at p))))

    abbrev pub turnings : ℕ → List Frame
    turnings p = Turning (suc p) (pred_at p) (out_at' p) m t ∷ fs

    put_more : Under uni (put_at m true uni)
    put_more r e = either (nat_eq r m) where
      either : (b : Bool) → (if b then true else uni r) ≡ true
      either true = refl
      either false = e

    pub loop_two : uni m ≡ false → Clear m fs → Forward step → Forward head → Forward body → ((p : ℕ) → Well step (turnings p)) → ((p : ℕ) → Well head (turnings p)) → ((p : ℕ) → Well body (turnings p))
        → ((p : ℕ) → Starting step (turnings p)) → ((p : ℕ) → Starting head (turnings p)) → ((p : ℕ) → Starting body (turnings p)) → Well (loop_lab false) fs
    loop_two unmarked clear forward forward' forward'' first second third begins begins' begins'' p c e starts =
        let far : suc p < out_at' p = chain_less' p (head_at' p) (pred_at p) (body.end (suc (suc (pred_at p)))) (forward (suc (suc (suc p)))) (forward' (head_at' p)) (forward'' (suc (suc (pred_at p)))) in
        let e1 = behind_spot whole _ _ p e in
        let e2 = behind_spot whole _ _ (suc p) e1 in
        let e3 = behind_spot whole _ _ (suc (suc p)) e2 in
        let w1 = first p (suc (suc (suc p))) _ e3 (begins' p (head_at' p) _ (refl, same)) in
        let w2 = second p (head_at' p) _ w1.ends (refl, same) in
        let e5 = behind_spot whole _ _ (pred_at p) w2.ends in
        let e6 = behind_spot whole _ _ (suc (pred_at p)) e5 in
        let w3 = third p (suc (suc (pred_at p))) _ e6 (refl, same) in
        let e8 = behind_spot whole _ _ (body.end (suc (suc (pred_at p)))) w3.ends in
        record {
          ends = e8;
          fits = λ r th f. (
            record { start = suc p; exit = out_at' p; later = next_later p; next = leads whole uni (suc p) _ (Round (suc p) (out_at' p) ∷ fs) uni e1 (refl, same) same },
            (
              record {
                start = suc p;
                test = pred_at p;
                exit = out_at' p;
                by = t;
                round = fs;
                frames = refl;
                clear = clear;
                unmarked = unmarked;
                next = leads whole uni (suc (suc p)) _ (turnings p) (put_at m true uni) e2 (refl, same) put_more;
              },
              (
                (leads whole uni (head_at' p) _ (turnings p) uni w1.ends (begins' p (head_at' p) _ (refl, same)) same, less_from (suc (suc p)) (head_at' p) (forward (suc (suc (suc p))))),
                w1.fits (far, regions_down (suc p) (out_at' p) fs (le_of_lt far) r) (shape_is (suc (pred_at p)) _ _ e5, th)
                    (w2.fits (far, regions_down (suc p) (out_at' p) fs (le_of_lt far) r) (shape_is (suc (pred_at p)) _ _ e5, th) (
                      record { start = suc p; exit = out_at' p; round = fs; frames = refl; shape = shape_is (suc (pred_at p)) _ _ e5; agree = agree_is (suc (pred_at p)) _ _ uni e5 same },
                      (
                        record {
                          operand = refl;
                          at_pred = refl;
                          before = far;
                          exit_is = refl;
                          on = leads whole uni (suc (suc (pred_at p))) _ (turnings p) uni e6 (begins'' p (suc (suc (pred_at p))) _ (refl, same)) same;
                          out = leads whole uni (out_at' p) c fs uni e8 starts same;
                        },
                        w3.fits (far, regions_down (suc p) (out_at' p) fs (le_of_lt far) r) (shape_is (suc (pred_at p)) _ _ e5, th) (
                          record {
                            frame = Turning (suc p) (pred_at p) (out_at' p) m t;
                            round = fs;
                            is_loop = tt;
                            frames = refl;
                            back = leads whole uni (suc (suc (suc p))) _ (turnings p) uni e3 (begins p (suc (suc (suc p))) _ (begins' p (head_at' p) _ (refl, same))) same;
                          },
                          f,
                        ),
                      ),
                    )),
              ),
            ),
          );
        }
