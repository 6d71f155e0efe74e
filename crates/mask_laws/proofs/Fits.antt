-- When the operation of a place fits what stands round it and round the places that it leads to.
use Rattle.std.proofs.Common.{◌≡◌, ℕ, zero, suc, ◌<◌, ◌≤◌, ◌⊎◌, Bool, true, false, ◌&&◌, List, [], ◌∷◌}
use Rattle.item_acts.specs.Launches.{put_at}
use Rattle.kir.specs.Trees.{Operand, NumberOf}
use Rattle.vcode.specs.declared.ops.Csr.{Csr}
use Rattle.vcode.specs.declared.ops.Csr.TheVariants.{MaskNow}
use Rattle.vcode.specs.Code.{VOp, Fresh, Copy, Compute, Cut, Word, WordAt, Learn, Fetch, Write, IfZero, IfNot, Goto, Split, Join, Pred, Tmc, Wspawn, Bar, Trap, Enter, Leaves, Again}
use Rattle.vx_isa.specs.Warps.{leader}
use Rattle.vx_isa.specs.declared.warps.MachineTrap.TheVariants as trap
use Rattle.vx_isa.specs.declared.warps.Step.{Step}
use Rattle.vx_isa.specs.declared.warps.Step.TheVariants as step
use Rattle.warp_code.specs.Warps.{VWarp, Stepped}
use Rattle.mask_laws.specs.Labels.{agrees, alike_in}
use Rattle.mask_laws.specs.Spots.{Frame, First, Second, Round, Turning, Shape, Straight, Sides, Test, Meet, Nowhere, Spot}
use Rattle.mask_laws.proofs.Frames.{Clear, Whole, sides, Inv}

-- a place may be come to with these frames
abbrev pub Into : Shape → List Frame → Type 0
Into (Straight fs') fs = fs ≡ fs'
Into (Meet q e j t fs') fs = (fs ≡ First q e j t ∷ fs') ⊎ (fs ≡ Second q e j t ∷ fs')
Into other fs = ⊥

-- registers of one kind are of another
abbrev pub Under : (ℕ → Bool) → (ℕ → Bool) → Type 0
Under few many = (r : ℕ) → few r ≡ true → many r ≡ true

abbrev pub LeadsOn : (ℕ → Spot) → (ℕ → Bool) → List Frame → ℕ → Type 0
LeadsOn spots ag fs q = Into (spots q).shape fs × Under (spots q).agree ag

-- A place is below where the other lanes of each frame round it go on: within a loop that is where the loop begins.
abbrev pub Regions : ℕ → List Frame → Type 0
Regions p [] = Unit {0}
Regions p (First q e j t ∷ fs) = (p < e) × Regions p fs
Regions p (Second q e j t ∷ fs) = (p < suc j) × Regions p fs
Regions p (Round s x ∷ fs) = Regions s fs
Regions p (Turning s p' x m t ∷ fs) = (s < x) × Regions s fs

-- the places at which the other lanes of each frame wait
abbrev pub FramesThere : (ℕ → Spot) → List Frame → Type 0
FramesThere spots [] = Unit {0}
FramesThere spots (First q e j t ∷ fs) = ((spots (suc q)).shape ≡ Sides q e j t fs) × FramesThere spots fs
FramesThere spots (Second q e j t ∷ fs) = Into (spots (suc j)).shape fs × FramesThere spots fs
FramesThere spots (Round s x ∷ fs) = FramesThere spots fs
FramesThere spots (Turning s p x m t ∷ fs) = ((spots (suc p)).shape ≡ Test s p x m t fs) × FramesThere spots fs

-- a register is written, with the same in all active lanes or not
pub record WritesWell (spots : ℕ → Spot) (uni : ℕ → Bool) (p : ℕ) (fs : List Frame) (ag : ℕ → Bool) (d : ℕ) (same : Bool) : Type 0 where
  pub clear : Clear d fs
  pub marked : uni d ≡ true → Whole fs × (same ≡ true)
  pub next : LeadsOn spots (put_at d same ag) fs (suc p)

-- the active lanes are kept in a register, and from there on some may leave the loop
pub record KeepsWell (spots : ℕ → Spot) (uni : ℕ → Bool) (p : ℕ) (fs : List Frame) (ag : ℕ → Bool) (d : ℕ) : Type 0 where
  pub start : ℕ
  pub test : ℕ
  pub exit : ℕ
  pub by : Operand
  pub round : List Frame
  pub frames : fs ≡ Round start exit ∷ round
  pub clear : Clear d round
  pub unmarked : uni d ≡ false
  pub next : LeadsOn spots (put_at d true ag) (Turning start test exit d by ∷ round) (suc p)

pub record BranchesWell (spots : ℕ → Spot) (p : ℕ) (fs : List Frame) (ag : ℕ → Bool) (a : Operand) (q : ℕ) : Type 0 where
  pub later : p < q
  pub alike : agrees ag a ≡ true
  pub there : LeadsOn spots ag fs q
  pub on : LeadsOn spots ag fs (suc p)

pub record SplitsWell (spots : ℕ → Spot) (p : ℕ) (fs : List Frame) (ag : ℕ → Bool) (t : Operand) : Type 0 where
  pub few : sides fs ≤ 31
  pub second : ℕ
  pub meet : ℕ
  pub shape : (spots (suc p)).shape ≡ Sides p second meet t fs
  pub agree : Under (spots (suc p)).agree ag

pub record LeavesSome (spots : ℕ → Spot) (uni : ℕ → Bool) (p : ℕ) (fs : List Frame) (t : Operand) (m : ℕ) : Type 0 where
  pub start : ℕ
  pub exit : ℕ
  pub round : List Frame
  pub frames : fs ≡ Turning start p exit m t ∷ round
  pub shape : (spots (suc p)).shape ≡ Test start p exit m t round
  pub agree : Under (spots (suc p)).agree uni

pub record EntersWell (spots : ℕ → Spot) (p : ℕ) (fs : List Frame) (ag : ℕ → Bool) : Type 0 where
  pub start : ℕ
  pub exit : ℕ
  pub later : p < start
  pub next : LeadsOn spots ag (Round start exit ∷ fs) (suc p)

pub record LeavesWell (spots : ℕ → Spot) (p : ℕ) (fs : List Frame) (ag : ℕ → Bool) (a : Operand) (x : ℕ) : Type 0 where
  pub alike : agrees ag a ≡ true
  pub start : ℕ
  pub round : List Frame
  pub frames : fs ≡ Round start x ∷ round
  pub before : start < x
  pub out : LeadsOn spots ag round x
  pub on : LeadsOn spots ag fs (suc p)

abbrev pub IsLoop : Frame → Type 0
IsLoop (Round s x) = Unit {0}
IsLoop (Turning s p x m t) = Unit {0}
IsLoop other = ⊥

pub record TurnsWell (spots : ℕ → Spot) (fs : List Frame) (ag : ℕ → Bool) (q : ℕ) : Type 0 where
  pub frame : Frame
  pub round : List Frame
  pub is_loop : IsLoop frame
  pub frames : fs ≡ frame ∷ round
  pub back : LeadsOn spots ag fs q

abbrev pub LearnsWell : (ℕ → Spot) → (ℕ → Bool) → ℕ → List Frame → (ℕ → Bool) → ℕ → Csr → Type 0
LearnsWell spots uni p fs ag d MaskNow = KeepsWell spots uni p fs ag d
LearnsWell spots uni p fs ag d csr = WritesWell spots uni p fs ag d (alike_in csr)

-- the operand is 0
abbrev pub IsNone : Operand → Type 0
IsNone (NumberOf zero) = Unit {0}
IsNone other = ⊥

abbrev pub StraightFits : (ℕ → Spot) → (ℕ → Bool) → ℕ → List Frame → (ℕ → Bool) → Bool → VOp → Type 0
StraightFits spots uni p fs ag shared Fresh = LeadsOn spots ag fs (suc p)
StraightFits spots uni p fs ag shared (Copy d a) = WritesWell spots uni p fs ag d (agrees ag a)
StraightFits spots uni p fs ag shared (Compute d op a b) = WritesWell spots uni p fs ag d (agrees ag a && agrees ag b)
StraightFits spots uni p fs ag shared (Cut d elem a) = WritesWell spots uni p fs ag d (agrees ag a)
StraightFits spots uni p fs ag shared (Word d k) = WritesWell spots uni p fs ag d true
StraightFits spots uni p fs ag shared (WordAt d a k) = WritesWell spots uni p fs ag d (agrees ag a)
StraightFits spots uni p fs ag shared (Learn d csr) = LearnsWell spots uni p fs ag d csr
StraightFits spots uni p fs ag shared (Fetch d elem a) = WritesWell spots uni p fs ag d (shared && agrees ag a)
StraightFits spots uni p fs ag shared (Write elem a b) = LeadsOn spots ag fs (suc p)
StraightFits spots uni p fs ag shared (IfZero a q) = BranchesWell spots p fs ag a q
StraightFits spots uni p fs ag shared (IfNot a q) = BranchesWell spots p fs ag a q
StraightFits spots uni p fs ag shared (Goto q) = LeadsOn spots ag fs q × (p < q)
StraightFits spots uni p fs ag shared (Split t) = SplitsWell spots p fs ag t
StraightFits spots uni p fs ag shared Join = ⊥
StraightFits spots uni p fs ag shared (Pred t m) = LeavesSome spots uni p fs t m
StraightFits spots uni p fs ag shared (Tmc a) = (fs ≡ []) × IsNone a
StraightFits spots uni p fs ag shared (Wspawn a q) = ⊥
StraightFits spots uni p fs ag shared (Bar site) = LeadsOn spots ag fs (suc p) × Regions p fs × FramesThere spots fs
StraightFits spots uni p fs ag shared (Trap pos) = Unit {0}
StraightFits spots uni p fs ag shared Enter = EntersWell spots p fs ag
StraightFits spots uni p fs ag shared (Leaves a x) = LeavesWell spots p fs ag a x
StraightFits spots uni p fs ag shared (Again q) = TurnsWell spots fs ag q

-- the branch behind a split: where its operand is not 0 the first side begins, and where it is 0 the second
pub record ChoosesWell (spots : ℕ → Spot) (p : ℕ) (q e j : ℕ) (t : Operand) (fs : List Frame) (ag : ℕ → Bool) (a : Operand) (one other : ℕ) : Type 0 where
  pub operand : a ≡ t
  pub at_split : p ≡ suc q
  pub first_later : p < one
  pub second_later : p < other
  pub second_is : other ≡ e
  pub first : LeadsOn spots ag (First q e j t ∷ fs) one
  pub second : LeadsOn spots ag (Second q e j t ∷ fs) other

abbrev pub SidesFit : (ℕ → Spot) → ℕ → (q e j : ℕ) → Operand → List Frame → (ℕ → Bool) → VOp → Type 0
SidesFit spots p q e j t fs ag (IfZero a o) = ChoosesWell spots p q e j t fs ag a (suc p) o
SidesFit spots p q e j t fs ag (IfNot a o) = ChoosesWell spots p q e j t fs ag a o (suc p)
SidesFit spots p q e j t fs ag other = ⊥

-- the test behind the operation that leaves only some lanes in a loop
pub record TestsWell (spots : ℕ → Spot) (p : ℕ) (s p' x m : ℕ) (t : Operand) (fs : List Frame) (ag : ℕ → Bool) (a : Operand) (o : ℕ) : Type 0 where
  pub operand : a ≡ t
  pub at_pred : p ≡ suc p'
  pub before : s < o
  pub exit_is : o ≡ x
  pub on : LeadsOn spots ag (Turning s p' x m t ∷ fs) (suc p)
  pub out : LeadsOn spots ag fs o

abbrev pub TestFits : (ℕ → Spot) → ℕ → (s p' x m : ℕ) → Operand → List Frame → (ℕ → Bool) → VOp → Type 0
TestFits spots p s p' x m t fs ag (Leaves a o) = TestsWell spots p s p' x m t fs ag a o
TestFits spots p s p' x m t fs ag other = ⊥

-- where two sides meet; the other lanes of a split go on at the branch behind it
pub record MeetsWell (spots : ℕ → Spot) (uni : ℕ → Bool) (p : ℕ) (q e j : ℕ) (t : Operand) (fs : List Frame) : Type 0 where
  pub at_meet : p ≡ j
  pub next : LeadsOn spots uni fs (suc p)
  pub shape : (spots (suc q)).shape ≡ Sides q e j t fs
  pub agree : Under (spots (suc q)).agree uni

abbrev pub MeetFits : (ℕ → Spot) → (ℕ → Bool) → ℕ → (q e j : ℕ) → Operand → List Frame → VOp → Type 0
MeetFits spots uni p q e j t fs Join = MeetsWell spots uni p q e j t fs
MeetFits spots uni p q e j t fs other = ⊥

abbrev pub FitsAt : (ℕ → Spot) → (ℕ → Bool) → ℕ → VOp → Shape → (ℕ → Bool) → Bool → Type 0
FitsAt spots uni p op (Straight fs) ag shared = StraightFits spots uni p fs ag shared op
FitsAt spots uni p op (Sides q e j t fs) ag shared = SidesFit spots p q e j t fs ag op
FitsAt spots uni p op (Test s p' x m t fs) ag shared = TestFits spots p s p' x m t fs ag op
FitsAt spots uni p op (Meet q e j t fs) ag shared = MeetFits spots uni p q e j t fs op
FitsAt spots uni p op Nowhere ag shared = Unit {0}

-- the place of a spot fits
abbrev pub Fits : (ℕ → Spot) → (ℕ → Bool) → ℕ → Type 0
Fits spots uni p = FitsAt spots uni p (spots p).op (spots p).shape (spots p).agree (spots p).shared

-- ---- what a step may come to

abbrev pub IsTrap : VOp → Type 0
IsTrap (Trap pos) = Unit {0}
IsTrap other = ⊥

-- The warp goes on as it should, or ends with all lanes and an empty stack, or traps at a trap by its least active lane.
abbrev pub FineBy : (ℕ → Spot) → (ℕ → Bool) → ℕ → VOp → VWarp → VWarp → Step → Type 0
FineBy spots uni all op w w' step.Next = Inv spots uni all w'
FineBy spots uni all op w w' step.Diverged = Inv spots uni all w'
FineBy spots uni all op w w' step.Agreed = Inv spots uni all w'
FineBy spots uni all op w w' (step.Wait bar count) = Inv spots uni all w'
FineBy spots uni all op w w' (step.Spawn count place) = ⊥
FineBy spots uni all op w w' step.Ended = (w.mask ≡ all) × (w.stack ≡ [])
FineBy spots uni all op w w' (step.Trap fault lane place) = (fault ≡ trap.Break) × (lane ≡ leader w.mask) × IsTrap op

abbrev pub Fine : (ℕ → Spot) → (ℕ → Bool) → ℕ → VOp → VWarp → Stepped → Type 0
Fine spots uni all op w s = FineBy spots uni all op w s.warp s.outcome
