-- What stands round a place of lowered code, and what a warp that stands there has on its stack.
use Rattle.std.proofs.Common.{◌≡◌, ◌≢◌, ℕ, suc, ◌^◌, ◌<◌, ◌⊎◌, Bool, true, false, not, ◌&&◌, ◌==◌, List, [], ◌∷◌}
use Rattle.kir.specs.Machine.{value}
use Rattle.kir.specs.Trees.{Operand}
use Rattle.vx_isa.specs.Warps.{has_lane}
use Rattle.vx_isa.specs.declared.warps.Held.{Held}
use Rattle.vx_isa.specs.declared.warps.Held.TheVariants.{Restore, Else}
use Rattle.warp_code.specs.Warps.{VLane, VWarp}
use Rattle.mask_laws.specs.Spots.{Frame, First, Second, Round, Turning, Shape, Straight, Sides, Test, Meet, Nowhere, Spot}
use Rattle.mask_laws.proofs.Sets.{In, Out}

-- ---- one frame

-- how a lane stands that waits, where the lanes that it entered with have these numbers of turns
abbrev pub FrameWaits : Frame → List ℕ → VLane → Type 0
FrameWaits (First q e j t) ts v = (v.place ≡ suc q) × ((value v.registers t == 0) ≡ true) × (v.turns ≡ ts)
FrameWaits (Second q e j t) ts v = (v.place ≡ suc j) × (v.turns ≡ ts)
FrameWaits (Round s x) ts v = ⊥
FrameWaits (Turning s p x m t) ts v = (v.place ≡ suc p) × ((value v.registers t == 0) ≡ true) × ((n : ℕ) × (v.turns ≡ n ∷ ts))

-- the lanes that wait for the first side to end
pub record OtherSide (q act outer : ℕ) (rest st : List Held) : Type 0 where
  pub off : ℕ
  pub stacked : st ≡ Else off (suc q) ∷ Restore outer ∷ rest
  pub small : off < 2 ^ 32
  pub some : 0 < off
  pub apart : (l : ℕ) → has_lane off l ≡ (has_lane outer l && not (has_lane act l))

-- all that entered are on one side
pub record OneSide (act outer : ℕ) (rest st : List Held) : Type 0 where
  pub stacked : st ≡ Restore outer ∷ rest
  pub all_in : act ≡ outer

abbrev pub FrameStack : Frame → ℕ → ℕ → List Held → List Held → Type 0
FrameStack (First q e j t) act outer rest st = OtherSide q act outer rest st ⊎ OneSide act outer rest st
FrameStack (Second q e j t) act outer rest st = st ≡ Restore outer ∷ rest
FrameStack (Round s x) act outer rest st = (st ≡ rest) × (act ≡ outer)
FrameStack (Turning s p x m t) act outer rest st = st ≡ rest

abbrev pub FrameTurns : Frame → List ℕ → List ℕ → Type 0
FrameTurns (First q e j t) ts inner = ts ≡ inner
FrameTurns (Second q e j t) ts inner = ts ≡ inner
FrameTurns (Round s x) ts inner = (n : ℕ) × (ts ≡ n ∷ inner)
FrameTurns (Turning s p x m t) ts inner = (n : ℕ) × (ts ≡ n ∷ inner)

-- a loop's register holds the lanes that entered, in each of them
abbrev pub FrameSaves : Frame → (ℕ → VLane) → ℕ → Type 0
FrameSaves (Turning s p x m t) vs outer = (l : ℕ) → In outer l → (vs l).registers m ≡ outer
FrameSaves other vs outer = Unit {0}

-- Within a frame: of the lanes that entered some are active, and the others wait; and round it is what was there when they entered.
pub record Inside (frame : Frame) (vs : ℕ → VLane) (round : ℕ → List Held → List ℕ → Type 0) (act : ℕ) (st : List Held) (ts : List ℕ) : Type 0 where
  pub outer : ℕ
  pub rest : List Held
  pub inner : List ℕ
  pub small : outer < 2 ^ 32
  pub inside : (l : ℕ) → In act l → In outer l
  pub waits : (l : ℕ) → In outer l → Out act l → FrameWaits frame inner (vs l)
  pub stacked : FrameStack frame act outer rest st
  pub turned : FrameTurns frame ts inner
  pub saved : FrameSaves frame vs outer
  pub below : round outer rest inner

-- Within all of them: outside of all frames each lane of the items is active, and the stack is empty.
abbrev pub HeldBy : (ℕ → VLane) → ℕ → List Frame → ℕ → List Held → List ℕ → Type 0
HeldBy vs all [] act st ts = (act ≡ all) × (st ≡ []) × (ts ≡ [])
HeldBy vs all (f ∷ fs) act st ts = Inside f vs (HeldBy vs all fs) act st ts

-- ---- facts of frames alone

-- a register that keeps no loop's lanes
abbrev pub FrameClear : ℕ → Frame → Type 0
FrameClear d (Turning s p x m t) = m ≢ d
FrameClear d other = Unit {0}

abbrev pub Clear : ℕ → List Frame → Type 0
Clear d [] = Unit {0}
Clear d (f ∷ fs) = FrameClear d f × Clear d fs

-- no lane can wait: none of them parts the lanes
abbrev pub Whole : List Frame → Type 0
Whole [] = Unit {0}
Whole (Round s x ∷ fs) = Whole fs
Whole (other ∷ fs) = ⊥

-- how many sides of splits there are
abbrev pub with_side : Frame → ℕ → ℕ
with_side (First q e j t) n = suc n
with_side (Second q e j t) n = suc n
with_side other n = n

abbrev pub sides : List Frame → ℕ
sides [] = 0
sides (f ∷ fs) = with_side f (sides fs)

-- ---- a warp at a place

-- all active lanes have these numbers of turns
abbrev pub Turned : (ℕ → VLane) → ℕ → List ℕ → Type 0
Turned vs mask ts = (l : ℕ) → In mask l → (vs l).turns ≡ ts

-- and these but for the innermost
abbrev pub TurnedUnder : (ℕ → VLane) → ℕ → List ℕ → Type 0
TurnedUnder vs mask ts = (l : ℕ) → In mask l → (n : ℕ) × ((vs l).turns ≡ n ∷ ts)

-- an operand is 0 in no active lane, and in all
abbrev pub IsZero : (ℕ → VLane) → ℕ → Operand → Bool → Type 0
IsZero vs mask t b = (l : ℕ) → In mask l → (value (vs l).registers t == 0) ≡ b

abbrev pub ShapeHeld : Shape → ℕ → (ℕ → VLane) → ℕ → List Held → Type 0
ShapeHeld (Straight fs) all vs mask st = (ts : List ℕ) × Turned vs mask ts × HeldBy vs all fs mask st ts
ShapeHeld (Sides q e j t fs) all vs mask st =
    (ts : List ℕ) × Turned vs mask ts
    × ((IsZero vs mask t false × HeldBy vs all (First q e j t ∷ fs) mask st ts) ⊎ (IsZero vs mask t true × HeldBy vs all (Second q e j t ∷ fs) mask st ts))
ShapeHeld (Test s p x m t fs) all vs mask st =
    (ts : List ℕ)
    × ((Turned vs mask ts × IsZero vs mask t false × HeldBy vs all (Turning s p x m t ∷ fs) mask st ts)
    ⊎ (TurnedUnder vs mask ts × IsZero vs mask t true × HeldBy vs all fs mask st ts))
ShapeHeld (Meet q e j t fs) all vs mask st =
    (ts : List ℕ) × Turned vs mask ts × (HeldBy vs all (First q e j t ∷ fs) mask st ts ⊎ HeldBy vs all (Second q e j t ∷ fs) mask st ts)
ShapeHeld Nowhere all vs mask st = ⊥

-- registers that are the same in all lanes of the items, and registers that are the same in the active lanes
abbrev pub Uniform : (ℕ → Bool) → ℕ → (ℕ → VLane) → Type 0
Uniform uni all vs = (r : ℕ) → uni r ≡ true → (l l' : ℕ) → In all l → In all l' → (vs l).registers r ≡ (vs l').registers r

-- What holds of a warp in step with its lanes, at a place of this shape where active lanes agree in these registers.
pub record InvAt (uni : ℕ → Bool) (all : ℕ) (agree : ℕ → Bool) (shape : Shape) (w : VWarp) : Type 0 where
  pub small : w.mask < 2 ^ 32
  pub some : 0 < w.mask
  pub inside : (l : ℕ) → In w.mask l → In all l
  pub here : (l : ℕ) → In w.mask l → (w.lanes l).place ≡ w.place
  pub uniform : Uniform uni all w.lanes
  pub agreed : Uniform agree w.mask w.lanes
  pub held : ShapeHeld shape all w.lanes w.mask w.stack

abbrev pub Inv : (ℕ → Spot) → (ℕ → Bool) → ℕ → VWarp → Type 0
Inv spots uni all w = InvAt uni all (spots w.place).agree (spots w.place).shape w
