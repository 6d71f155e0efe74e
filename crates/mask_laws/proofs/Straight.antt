-- Operations at a place that is straight on, but for those at which the warp as a whole does something.
use Rattle.std.proofs.Common.{◌≡◌, ◌≢◌, ℕ, suc, ◌+◌, Bool, true, false, ◌&&◌, ◌==◌, if◌then◌else◌, List, [], ◌∷◌, refl, ap, sym, ◌∙◌, subst, eq-eqb}
use Rattle.std.proofs.lemmas.Bool.{true≢false}
use Rattle.vx_base.specs.Values.{alu_value_of, fitted}
use Rattle.vx_base.specs.declared.types.Alu.{Alu}
use Rattle.vx_base.specs.declared.types.Elem.{Elem}
use Rattle.item_acts.specs.Launches.{put_at}
use Rattle.step_machine.specs.Stacks.{under}
use Rattle.step_machine.specs.Turns.{risen}
use Rattle.kir.specs.Machine.{value}
use Rattle.kir.specs.Trees.{Operand}
use Rattle.vx_isa.specs.Warps.{has_lane, leader}
use Rattle.vcode.specs.declared.ops.Csr.{Csr}
use Rattle.vcode.specs.declared.ops.Csr.TheVariants.{LaneNumber, WarpNumber, CoreNumber, MaskNow}
use Rattle.vcode.specs.Machine.{lane}
use Rattle.vcode.specs.Code.{VOp, Fresh, Copy, Compute, Cut, Word, WordAt, Learn, Fetch, Write, IfZero, IfNot, Goto, Bar, Enter, Leaves, Again}
use Rattle.warp_code.specs.Warps.{Crew, VLane, VWarp, moved, does, as_lane, lane_behind, chooses, lanes_step, warp_op}
use Rattle.mask_laws.specs.Honest.{AnswersAgree}
use Rattle.mask_laws.proofs.Sets.{In, Out, clash, both_true, leader_in, moved_in, moved_out}
use Rattle.mask_laws.specs.Spots.{Frame, First, Second, Round, Turning, Straight, Spot}
use Rattle.mask_laws.proofs.Frames.{Inside, HeldBy, Turned, InvAt, Inv}
use Rattle.mask_laws.specs.Labels.{agrees}
use Rattle.mask_laws.proofs.Fits.{LeadsOn, WritesWell, KeepsWell, BranchesWell, EntersWell, LeavesWell, IsLoop, TurnsWell, LearnsWell, Fine}
use Rattle.mask_laws.proofs.FrameLaws.{held_moves, clear_kept, arrives}
use Rattle.mask_laws.proofs.Going.{agree_value, lane_at, rests, others_kept, put_agreed, put_uniform, written, writes_there, goes}

module _ (spots : ℕ → Spot) (uni : ℕ → Bool) (all : ℕ) (k : Crew) (w : VWarp) (answers : ℕ → ℕ) (fs : List Frame) (ag : ℕ → Bool) (inv : InvAt uni all ag (Straight fs) w) where
  -- ---- each active lane behind the operation

  -- where its step leads to a place that depends on its own
  to_place : (op : VOp) (f : ℕ → ℕ → VLane) → ((l : ℕ) → lane_behind (answers l) (w.lanes l) (does k w.mask op l (w.lanes l)) ≡ f l (w.lanes l).place) → (l : ℕ) → In w.mask l
      → moved k op answers w l ≡ f l w.place
  to_place op f step l is_in = moved_in k op answers w l is_in ∙ step l ∙ ap (f l) (inv.here l is_in)

  same_turns : Turned w.lanes w.mask inv.held.0
  same_turns = inv.held.1

  -- no register is written, and the lane goes on behind the operation
  abbrev Passes : VOp → Type 0
  Passes op = (l : ℕ) → lane_behind (answers l) (w.lanes l) (does k w.mask op l (w.lanes l)) ≡ lane_at (suc (w.lanes l).place) (w.lanes l).registers (w.lanes l).turns

  passed : (op : VOp) → Passes op → LeadsOn spots ag fs (suc w.place)
      → Inv spots uni all (record { place = suc w.place; mask = w.mask; lanes = moved k op answers w; stack = w.stack })
  passed op step leads =
      rests spots uni all w (moved k op answers w) (moved_out k op answers w) ag (Straight fs) (suc w.place) (λ l. (w.lanes l).turns) fs inv.held.0 inv
      (to_place op (λ l p. lane_at (suc p) (w.lanes l).registers (w.lanes l).turns) step) same_turns leads inv.held.2

  -- a register is written, and the lane goes on behind the operation
  wrote : (op : VOp) (d : ℕ) (val : ℕ → ℕ) (same : Bool)
      → ((l : ℕ) → lane_behind (answers l) (w.lanes l) (does k w.mask op l (w.lanes l)) ≡ lane_at (suc (w.lanes l).place) (put_at d (val l) (w.lanes l).registers) (w.lanes l).turns)
      → (same ≡ true → (l l' : ℕ) → In w.mask l → In w.mask l' → val l ≡ val l') → WritesWell spots uni w.place fs ag d same
      → Inv spots uni all (record { place = suc w.place; mask = w.mask; lanes = moved k op answers w; stack = w.stack })
  wrote op d val same step alike well =
      writes_there spots uni all w (moved k op answers w) (moved_out k op answers w) d val (suc w.place)
      (to_place op (λ l p. lane_at (suc p) (put_at d (val l) (w.lanes l).registers) (w.lanes l).turns) step) same alike ag (Straight fs) fs inv.held.0 inv
      well.clear well.marked well.next same_turns inv.held.2

  place_of : (op : VOp) (q : ℕ) (rs : ℕ → ℕ → ℕ) (ts : ℕ → List ℕ) → ((l : ℕ) → In w.mask l → moved k op answers w l ≡ lane_at q (rs l) (ts l)) → (l : ℕ) → In w.mask l → (moved k op answers w l).place ≡ q
  place_of op q rs ts ins l is_in = ap (λ v. v.place) (ins l is_in)

  -- an operation that each lane does without a choice
  plain_passes : (op : VOp) → Passes op → ((l : ℕ) → chooses op (w.lanes l).registers ≡ true) → LeadsOn spots ag fs (suc w.place)
      → Fine spots uni all op w (lanes_step op (moved k op answers w) w)
  plain_passes op step none leads =
      goes spots uni all w (moved k op answers w) (moved_out k op answers w) op op true (suc w.place) (λ l is_in. none l) inv.small inv.some
      (place_of op (suc w.place) (λ l. (w.lanes l).registers) (λ l. (w.lanes l).turns) (to_place op (λ l p. lane_at (suc p) (w.lanes l).registers (w.lanes l).turns) step))
      (passed op step leads)

  plain_writes : (op : VOp) (d : ℕ) (val : ℕ → ℕ) (same : Bool)
      → ((l : ℕ) → lane_behind (answers l) (w.lanes l) (does k w.mask op l (w.lanes l)) ≡ lane_at (suc (w.lanes l).place) (put_at d (val l) (w.lanes l).registers) (w.lanes l).turns)
      → ((l : ℕ) → chooses op (w.lanes l).registers ≡ true)
      → (same ≡ true → (l l' : ℕ) → In w.mask l → In w.mask l' → val l ≡ val l') → WritesWell spots uni w.place fs ag d same
      → Fine spots uni all op w (lanes_step op (moved k op answers w) w)
  plain_writes op d val same step none alike well =
      goes spots uni all w (moved k op answers w) (moved_out k op answers w) op op true (suc w.place) (λ l is_in. none l) inv.small inv.some
      (place_of op (suc w.place) (λ l. put_at d (val l) (w.lanes l).registers) (λ l. (w.lanes l).turns) (to_place op (λ l p. lane_at (suc p) (put_at d (val l) (w.lanes l).registers) (w.lanes l).turns) step))
      (wrote op d val same step alike well)

  alike_value : (a : Operand) → agrees ag a ≡ true → (l l' : ℕ) → In w.mask l → In w.mask l' → value (w.lanes l).registers a ≡ value (w.lanes l').registers a
  alike_value a e = agree_value ag w.mask w.lanes a inv.agreed e

  -- ---- writers

  pub at_fresh : LeadsOn spots ag fs (suc w.place) → Fine spots uni all Fresh w (warp_op k Fresh (moved k Fresh answers w) w)
  at_fresh leads = plain_passes Fresh (λ l. refl) (λ l. refl) leads

  pub at_write : (elem : Elem) (a b : Operand) → LeadsOn spots ag fs (suc w.place) → Fine spots uni all (Write elem a b) w (warp_op k (Write elem a b) (moved k (Write elem a b) answers w) w)
  at_write elem a b leads = plain_passes (Write elem a b) (λ l. refl) (λ l. refl) leads

  pub at_bar : (site : ℕ) → LeadsOn spots ag fs (suc w.place) → Fine spots uni all (Bar site) w (warp_op k (Bar site) (moved k (Bar site) answers w) w)
  at_bar site leads = passed (Bar site) (λ l. refl) leads

  pub at_copy : (d : ℕ) (a : Operand) → WritesWell spots uni w.place fs ag d (agrees ag a) → Fine spots uni all (Copy d a) w (warp_op k (Copy d a) (moved k (Copy d a) answers w) w)
  at_copy d a well = plain_writes (Copy d a) d (λ l. value (w.lanes l).registers a) (agrees ag a) (λ l. refl) (λ l. refl) (alike_value a) well

  pub at_compute : (d : ℕ) (op : Alu) (a b : Operand) → WritesWell spots uni w.place fs ag d (agrees ag a && agrees ag b)
      → Fine spots uni all (Compute d op a b) w (warp_op k (Compute d op a b) (moved k (Compute d op a b) answers w) w)
  at_compute d op a b well =
      plain_writes (Compute d op a b) d (λ l. alu_value_of op (value (w.lanes l).registers a) (value (w.lanes l).registers b)) (agrees ag a && agrees ag b) (λ l. refl) (λ l. refl)
      (λ e l l' is_in is_in'.
      ap (λ x. alu_value_of op x (value (w.lanes l).registers b)) (alike_value a (both_true (agrees ag a) (agrees ag b) e).0 l l' is_in is_in')
      ∙ ap (λ x. alu_value_of op (value (w.lanes l').registers a) x) (alike_value b (both_true (agrees ag a) (agrees ag b) e).1 l l' is_in is_in'))
      well

  pub at_cut : (d : ℕ) (elem : Elem) (a : Operand) → WritesWell spots uni w.place fs ag d (agrees ag a) → Fine spots uni all (Cut d elem a) w (warp_op k (Cut d elem a) (moved k (Cut d elem a) answers w) w)
  at_cut d elem a well =
      plain_writes (Cut d elem a) d (λ l. fitted elem (value (w.lanes l).registers a)) (agrees ag a) (λ l. refl) (λ l. refl)
      (λ e l l' is_in is_in'. ap (fitted elem) (alike_value a e l l' is_in is_in')) well

  pub at_word : (d n : ℕ) → WritesWell spots uni w.place fs ag d true → Fine spots uni all (Word d n) w (warp_op k (Word d n) (moved k (Word d n) answers w) w)
  at_word d n well = plain_writes (Word d n) d (λ l. k.block n) true (λ l. refl) (λ l. refl) (λ e l l' is_in is_in'. refl) well

  pub at_word_at : (d : ℕ) (a : Operand) (n : ℕ) → WritesWell spots uni w.place fs ag d (agrees ag a) → Fine spots uni all (WordAt d a n) w (warp_op k (WordAt d a n) (moved k (WordAt d a n) answers w) w)
  at_word_at d a n well =
      plain_writes (WordAt d a n) d (λ l. k.block (n + value (w.lanes l).registers a)) (agrees ag a) (λ l. refl) (λ l. refl)
      (λ e l l' is_in is_in'. ap (λ x. k.block (n + x)) (alike_value a e l l' is_in is_in')) well

  pub at_fetch : (d : ℕ) (elem : Elem) (a : Operand) (shared : Bool) → AnswersAgree shared w answers a → WritesWell spots uni w.place fs ag d (shared && agrees ag a)
      → Fine spots uni all (Fetch d elem a) w (warp_op k (Fetch d elem a) (moved k (Fetch d elem a) answers w) w)
  at_fetch d elem a shared honest well =
      plain_writes (Fetch d elem a) d (λ l. fitted elem (answers l)) (shared && agrees ag a) (λ l. refl) (λ l. refl)
      (λ e l l' is_in is_in'.
      ap (fitted elem) (honest (both_true shared (agrees ag a) e).0 l l' is_in is_in' (alike_value a (both_true shared (agrees ag a) e).1 l l' is_in is_in')))
      well

  -- ---- control registers

  -- of what register d holds then, a loop's frame holds
  module _ (d : ℕ) (well : KeepsWell spots uni w.place fs ag d) where
    abbrev vs : ℕ → VLane
    vs = moved k (Learn d MaskNow) answers w

    keeps_ins : (l : ℕ) → In w.mask l → vs l ≡ lane_at (suc w.place) (put_at d w.mask (w.lanes l).registers) (w.lanes l).turns
    keeps_ins = to_place (Learn d MaskNow) (λ l p. lane_at (suc p) (put_at d w.mask (w.lanes l).registers) (w.lanes l).turns) (λ l. refl)

    others : (l r : ℕ) → r ≢ d → (vs l).registers r ≡ (w.lanes l).registers r
    others = others_kept spots uni all w vs (moved_out k (Learn d MaskNow) answers w) d (λ l. w.mask) (suc w.place) keeps_ins

    begins : Inside (Round well.start well.exit) w.lanes (HeldBy w.lanes all well.round) w.mask w.stack inv.held.0
        → HeldBy vs all (Turning well.start well.test well.exit d well.by ∷ well.round) w.mask w.stack inv.held.0
    begins h = record {
      outer = h.outer;
      rest = h.rest;
      inner = h.inner;
      small = h.small;
      inside = h.inside;
      waits = λ l is_in is_out. clash (has_lane h.outer l) is_in (subst (λ m. Out m l) h.stacked.1 is_out);
      stacked = h.stacked.0;
      turned = h.turned;
      saved = λ l is_in.
          written spots uni all w vs (moved_out k (Learn d MaskNow) answers w) d (λ j. w.mask) (suc w.place) keeps_ins l d (subst (λ m. In m l) (sym h.stacked.1) is_in) (eq-eqb d d refl)
          ∙ h.stacked.1;
      below = held_moves w.lanes vs all well.round h.outer h.rest h.inner
          (λ l is_out. moved_out k (Learn d MaskNow) answers w l (subst (λ m. Out m l) (sym h.stacked.1) is_out))
          (clear_kept d well.round w.lanes vs well.clear others) h.below;
    }

    kept : Inv spots uni all (record { place = suc w.place; mask = w.mask; lanes = vs; stack = w.stack })
    kept =
        arrives spots uni all (put_at d true ag) (Turning well.start well.test well.exit d well.by ∷ well.round) (suc w.place) w.mask vs w.stack inv.held.0 well.next inv.small inv.some
        (λ l is_in. ap (λ v. v.place) (keeps_ins l is_in))
        (put_uniform spots uni all w vs (moved_out k (Learn d MaskNow) answers w) d (λ l. w.mask) (suc w.place) keeps_ins true (λ e l l' i i'. refl)
        (λ e. clash (uni d) e well.unmarked) inv.uniform)
        (put_agreed spots uni all w vs (moved_out k (Learn d MaskNow) answers w) d (λ l. w.mask) (suc w.place) keeps_ins true (λ e l l' i i'. refl) ag inv.agreed)
        (λ l is_in. ap (λ v. v.turns) (keeps_ins l is_in) ∙ same_turns l is_in)
        (begins (subst (λ g. HeldBy w.lanes all g w.mask w.stack inv.held.0) well.frames inv.held.2))

    pub at_keep : Fine spots uni all (Learn d MaskNow) w (warp_op k (Learn d MaskNow) (moved k (Learn d MaskNow) answers w) w)
    at_keep =
        goes spots uni all w vs (moved_out k (Learn d MaskNow) answers w) (Learn d MaskNow) (Learn d MaskNow) true (suc w.place) (λ l is_in. refl) inv.small inv.some
        (place_of (Learn d MaskNow) (suc w.place) (λ l. put_at d w.mask (w.lanes l).registers) (λ l. (w.lanes l).turns) keeps_ins) kept

  pub at_learn : (d : ℕ) (csr : Csr) → LearnsWell spots uni w.place fs ag d csr → Fine spots uni all (Learn d csr) w (warp_op k (Learn d csr) (moved k (Learn d csr) answers w) w)
  at_learn d LaneNumber well = plain_writes (Learn d LaneNumber) d (λ l. l) false (λ l. refl) (λ l. refl) (λ e. absurd (true≢false (sym e))) well
  at_learn d WarpNumber well = plain_writes (Learn d WarpNumber) d (λ l. k.ids.warp) true (λ l. refl) (λ l. refl) (λ e l l' i i'. refl) well
  at_learn d CoreNumber well = plain_writes (Learn d CoreNumber) d (λ l. k.ids.core) true (λ l. refl) (λ l. refl) (λ e l l' i i'. refl) well
  at_learn d MaskNow well = at_keep d well

  -- ---- jumps

  pub at_goto : (q : ℕ) → LeadsOn spots ag fs q → Fine spots uni all (Goto q) w (warp_op k (Goto q) (moved k (Goto q) answers w) w)
  at_goto q leads =
      let ins : (l : ℕ) → In w.mask l → moved k (Goto q) answers w l ≡ lane_at q (w.lanes l).registers (w.lanes l).turns =
      to_place (Goto q) (λ l p. lane_at q (w.lanes l).registers (w.lanes l).turns) (λ l. refl) in
      goes spots uni all w (moved k (Goto q) answers w) (moved_out k (Goto q) answers w) (Goto q) (Goto q) true q (λ l is_in. refl) inv.small inv.some
      (place_of (Goto q) q (λ l. (w.lanes l).registers) (λ l. (w.lanes l).turns) ins)
      (rests spots uni all w (moved k (Goto q) answers w) (moved_out k (Goto q) answers w) ag (Straight fs) q (λ l. (w.lanes l).turns) fs inv.held.0 inv ins same_turns leads inv.held.2)

  -- A branch: each lane goes to a place and to numbers of turns by whether an operand is 0, and all find the same there.
  branch_by : (op : VOp) (b : Bool) (place : Bool → ℕ) (turns : Bool → List ℕ → List ℕ) (fs' : List Frame) (ts : List ℕ)
      → ((l : ℕ) → In w.mask l → chooses op (w.lanes l).registers ≡ b)
      → ((l : ℕ) → In w.mask l → moved k op answers w l ≡ lane_at (place b) (w.lanes l).registers (turns b (w.lanes l).turns))
      → LeadsOn spots ag fs' (place b) → turns b inv.held.0 ≡ ts → HeldBy w.lanes all fs' w.mask w.stack ts
      → Fine spots uni all op w (lanes_step op (moved k op answers w) w)
  branch_by op b place turns fs' ts alike ins leads turned held =
      goes spots uni all w (moved k op answers w) (moved_out k op answers w) op op b (place b) alike inv.small inv.some
      (place_of op (place b) (λ l. (w.lanes l).registers) (λ l. turns b (w.lanes l).turns) ins)
      (rests spots uni all w (moved k op answers w) (moved_out k op answers w) ag (Straight fs) (place b) (λ l. turns b (w.lanes l).turns) fs' ts inv ins
      (λ l is_in. ap (turns b) (same_turns l is_in) ∙ turned) leads held)

  first_in : In w.mask (leader w.mask)
  first_in = leader_in w.mask inv.some inv.small

  abbrev zero_in : Operand → ℕ → Bool
  zero_in a l = value (w.lanes l).registers a == 0

  zero_alike : (a : Operand) → agrees ag a ≡ true → (l : ℕ) → In w.mask l → zero_in a l ≡ zero_in a (leader w.mask)
  zero_alike a e l is_in = ap (λ x. x == 0) (alike_value a e l (leader w.mask) is_in first_in)

  either : (P : Bool → Type 0) (b : Bool) → P true → P false → P b
  either P true yes' no' = yes'
  either P false yes' no' = no'

  pub at_if_zero : (a : Operand) (q : ℕ) → BranchesWell spots w.place fs ag a q → Fine spots uni all (IfZero a q) w (warp_op k (IfZero a q) (moved k (IfZero a q) answers w) w)
  at_if_zero a q well =
      let b : Bool = zero_in a (leader w.mask) in
      branch_by (IfZero a q) b (λ c. if c then q else suc w.place) (λ c ts. ts) fs inv.held.0 (zero_alike a well.alike)
      (λ l is_in.
      to_place (IfZero a q) (λ l' p. lane_at (if zero_in a l' then q else suc p) (w.lanes l').registers (w.lanes l').turns) (λ l'. refl) l is_in
      ∙ ap (λ c. lane_at (if c then q else suc w.place) (w.lanes l).registers (w.lanes l).turns) (zero_alike a well.alike l is_in))
      (either (λ c. LeadsOn spots ag fs (if c then q else suc w.place)) b well.there well.on) refl inv.held.2

  pub at_if_not : (a : Operand) (q : ℕ) → BranchesWell spots w.place fs ag a q → Fine spots uni all (IfNot a q) w (warp_op k (IfNot a q) (moved k (IfNot a q) answers w) w)
  at_if_not a q well =
      let b : Bool = zero_in a (leader w.mask) in
      branch_by (IfNot a q) b (λ c. if c then suc w.place else q) (λ c ts. ts) fs inv.held.0 (zero_alike a well.alike)
      (λ l is_in.
      to_place (IfNot a q) (λ l' p. lane_at (if zero_in a l' then suc p else q) (w.lanes l').registers (w.lanes l').turns) (λ l'. refl) l is_in
      ∙ ap (λ c. lane_at (if c then suc w.place else q) (w.lanes l).registers (w.lanes l).turns) (zero_alike a well.alike l is_in))
      (either (λ c. LeadsOn spots ag fs (if c then suc w.place else q)) b well.on well.there) refl inv.held.2

  -- ---- loops

  pub at_enter : EntersWell spots w.place fs ag → Fine spots uni all Enter w (warp_op k Enter (moved k Enter answers w) w)
  at_enter well =
      let ins : (l : ℕ) → In w.mask l → moved k Enter answers w l ≡ lane_at (suc w.place) (w.lanes l).registers (0 ∷ (w.lanes l).turns) =
      to_place Enter (λ l p. lane_at (suc p) (w.lanes l).registers (0 ∷ (w.lanes l).turns)) (λ l. refl) in
      goes spots uni all w (moved k Enter answers w) (moved_out k Enter answers w) Enter Enter true (suc w.place) (λ l is_in. refl) inv.small inv.some
      (place_of Enter (suc w.place) (λ l. (w.lanes l).registers) (λ l. 0 ∷ (w.lanes l).turns) ins)
      (rests spots uni all w (moved k Enter answers w) (moved_out k Enter answers w) ag (Straight fs) (suc w.place) (λ l. 0 ∷ (w.lanes l).turns) (Round well.start well.exit ∷ fs) (0 ∷ inv.held.0) inv ins
      (λ l is_in. ap (λ ts. 0 ∷ ts) (same_turns l is_in)) well.next
      (record {
        outer = w.mask;
        rest = w.stack;
        inner = inv.held.0;
        small = inv.small;
        inside = λ l is_in. is_in;
        waits = λ l is_in is_out. clash (has_lane w.mask l) is_in is_out;
        stacked = (refl, refl);
        turned = (0, refl);
        saved = tt;
        below = inv.held.2;
      }))

  abbrev leave_by : Bool → List ℕ → List ℕ
  leave_by c ts = if c then under ts else ts

  leaves_lane : (c : Bool) (q p : ℕ) (rs : ℕ → ℕ) (ts : List ℕ) → as_lane (if c then lane q rs (under ts) [] else lane p rs ts []) ≡ lane_at (if c then q else p) rs (leave_by c ts)
  leaves_lane true q p rs ts = refl
  leaves_lane false q p rs ts = refl

  held_out : (s x : ℕ) (round : List Frame) → (h : Inside (Round s x) w.lanes (HeldBy w.lanes all round) w.mask w.stack inv.held.0) → HeldBy w.lanes all round w.mask w.stack h.inner
  held_out s x round h = subst (λ m. HeldBy w.lanes all round m w.stack h.inner) (sym h.stacked.1) (subst (λ st. HeldBy w.lanes all round h.outer st h.inner) (sym h.stacked.0) h.below)

  pub at_leaves : (a : Operand) (x : ℕ) → LeavesWell spots w.place fs ag a x → Fine spots uni all (Leaves a x) w (warp_op k (Leaves a x) (moved k (Leaves a x) answers w) w)
  at_leaves a x well = by_choice (zero_in a (leader w.mask)) (zero_alike a well.alike) where
    ins : (b : Bool) → ((l : ℕ) → In w.mask l → zero_in a l ≡ b) → (l : ℕ) → In w.mask l → moved k (Leaves a x) answers w l ≡ lane_at (if b then x else suc w.place) (w.lanes l).registers (leave_by b (w.lanes l).turns)
    ins b alike l is_in =
        to_place (Leaves a x) (λ l' p. lane_at (if zero_in a l' then x else suc p) (w.lanes l').registers (leave_by (zero_in a l') (w.lanes l').turns))
        (λ l'. leaves_lane (zero_in a l') x (suc (w.lanes l').place) (w.lanes l').registers (w.lanes l').turns) l is_in
        ∙ ap (λ c. lane_at (if c then x else suc w.place) (w.lanes l).registers (leave_by c (w.lanes l).turns)) (alike l is_in)

    held : Inside (Round well.start x) w.lanes (HeldBy w.lanes all well.round) w.mask w.stack inv.held.0
    held = subst (λ g. HeldBy w.lanes all g w.mask w.stack inv.held.0) well.frames inv.held.2

    by_choice : (b : Bool) → ((l : ℕ) → In w.mask l → zero_in a l ≡ b) → Fine spots uni all (Leaves a x) w (lanes_step (Leaves a x) (moved k (Leaves a x) answers w) w)
    by_choice true alike =
        branch_by (Leaves a x) true (λ c. if c then x else suc w.place) leave_by well.round held.inner alike (ins true alike) well.out (ap under held.turned.1)
        (held_out well.start x well.round held)
    by_choice false alike = branch_by (Leaves a x) false (λ c. if c then x else suc w.place) leave_by fs inv.held.0 alike (ins false alike) well.on refl inv.held.2

  again_held : (f : Frame) (round : List Frame) → IsLoop f → HeldBy w.lanes all (f ∷ round) w.mask w.stack inv.held.0 → HeldBy w.lanes all (f ∷ round) w.mask w.stack (risen inv.held.0)
  again_held (First q e j t) round loop h = absurd loop
  again_held (Second q e j t) round loop h = absurd loop
  again_held (Round s x) round loop h = record { outer = h.outer; rest = h.rest; inner = h.inner; small = h.small; inside = h.inside; waits = h.waits; stacked = h.stacked; turned = (h.turned.0 + 1, ap risen h.turned.1); saved = h.saved; below = h.below }
  again_held (Turning s p x m t) round loop h = record { outer = h.outer; rest = h.rest; inner = h.inner; small = h.small; inside = h.inside; waits = h.waits; stacked = h.stacked; turned = (h.turned.0 + 1, ap risen h.turned.1); saved = h.saved; below = h.below }

  pub at_again : (q : ℕ) → TurnsWell spots fs ag q → Fine spots uni all (Again q) w (warp_op k (Again q) (moved k (Again q) answers w) w)
  at_again q well =
      let ins : (l : ℕ) → In w.mask l → moved k (Again q) answers w l ≡ lane_at q (w.lanes l).registers (risen (w.lanes l).turns) =
      to_place (Again q) (λ l p. lane_at q (w.lanes l).registers (risen (w.lanes l).turns)) (λ l. refl) in
      goes spots uni all w (moved k (Again q) answers w) (moved_out k (Again q) answers w) (Again q) (Again q) true q (λ l is_in. refl) inv.small inv.some
      (place_of (Again q) q (λ l. (w.lanes l).registers) (λ l. risen (w.lanes l).turns) ins)
      (rests spots uni all w (moved k (Again q) answers w) (moved_out k (Again q) answers w) ag (Straight fs) q (λ l. risen (w.lanes l).turns) fs (risen inv.held.0) inv ins
      (λ l is_in. ap risen (same_turns l is_in)) well.back
      (subst (λ g. HeldBy w.lanes all g w.mask w.stack (risen inv.held.0)) (sym well.frames)
      (again_held well.frame well.round well.is_loop (subst (λ g. HeldBy w.lanes all g w.mask w.stack inv.held.0) well.frames inv.held.2))))
