-- The shortest way to go on from what has been read is within the limits.
use Rattle.std.proofs.Common.{ℕ, ◌+◌, ◌≤◌, max, length, List, [], ◌∷◌, Option}
use Rattle.ocl_ast.specs.Trees.{ExprTree, StmtTree, StmtTrees}
use Rattle.ocl_ast.specs.Measures.{height, levels, all_levels}
use Rattle.ocl_parser.specs.ExprSteps.{ExprNext, Goes, Ends, Refuses, ExprInFrames}
use Rattle.ocl_parser.specs.StmtSteps.{StmtNext, GoesOn, Closes, Stops, and_stmt}
use Rattle.ocl_parser.specs.UnitSteps.{UnitNext, Reads, Adds, Fails}
use Rattle.ocl_parser.specs.Limits.{IsLowExpr, AreLowArgs, IsLowIfAny, IsLowTarget, IsLow, AreLow, IsWithin}
use Rattle.ocl_parser.specs.Levels.{beside, levels_around}
use Rattle.ocl_parser.specs.Rooms.{least_height, left_height, HasHeight, HasLevels, HasLowExpr, HasRoom}
use Rattle.ocl_parser.specs.declared.states.ExprFocus.{ExprFocus}
use Rattle.ocl_parser.specs.declared.states.ExprFrame.{ExprFrame}
use Rattle.ocl_parser.specs.declared.states.Part.{Part}
use Rattle.ocl_parser.specs.declared.states.Part.TheVariants.{InBlock, InFirst, InStep}
use Rattle.ocl_parser.specs.declared.states.Purpose.{Purpose}
use Rattle.ocl_parser.specs.declared.states.Purpose.TheVariants.{InitOf, CountOf, IndexOf, CountedIndexOf, ValueOf, ArgsOf, IfTest, WhileTest, DoTest, ForTest, ReturnOf}
use Rattle.ocl_parser.specs.declared.states.StmtFocus.{StmtFocus}
use Rattle.ocl_parser.specs.declared.states.StmtFocus.TheVariants.{ItemStart, BodyStart, Finished, Ending, Reading, IfWord, WhileWord, ForWord, DoWhile, BarrierWord, BarrierOpen, BarrierNumber, QualifiersRead, ScalarRead, TypeRead, NameNext, Declared, LocalWord, LocalScalar, LocalNamed, AssignNext, AssignNamed, CountedBefore, CountedNamed, Targeted, Assigned, CallOpen, FirstStart, TestStart, StepStart, Returning}
use Rattle.ocl_parser.specs.declared.states.StmtFrame.{StmtFrame}
use Rattle.ocl_parser.specs.declared.states.StmtFrame.TheVariants.{Block as BlockFrame, Then as ThenFrame, Else as ElseFrame, While as WhileFrame, Do as DoFrame, For as ForFrame}
use Rattle.ocl_parser.specs.declared.states.UnitFocus.{UnitFocus}
use Rattle.ocl_parser.specs.declared.states.UnitFocus.TheVariants.{Inside}

-- expressions: each frame is a node above what stands in it
abbrev pub LeftsFit : List ExprFrame → Type 0
LeftsFit [] = Unit {0}
LeftsFit (f ∷ K) = (left_height f + length (f ∷ K) ≤ 128) × LeftsFit K

abbrev pub ExprFits : ExprFocus → List ExprFrame → Type 0
ExprFits focus K = (least_height focus + length K ≤ 128) × LeftsFit K

abbrev pub ExprInFramesFits : ExprInFrames → Type 0
ExprInFramesFits s = (height s.tree + length s.frames ≤ 128) × LeftsFit s.frames

abbrev pub ExprNextFits : ExprNext → Type 0
ExprNextFits (Goes focus K) = ExprFits focus K
ExprNextFits (Ends e) = IsLowExpr e
ExprNextFits Refuses = ⊥

abbrev pub ExprRoom : ExprNext → Type 0
ExprRoom (Goes focus K) = HasHeight focus K
ExprRoom (Ends e) = Unit {0}
ExprRoom Refuses = ⊥

-- the finished parts in the frames of a statement, with this many levels around a statement in the frame
abbrev pub FrameFits : StmtFrame → ℕ → Type 0
FrameFits (BlockFrame items) n = (all_levels items + n ≤ 31) × AreLow items
FrameFits (ThenFrame test) n = IsLowExpr test
FrameFits (ElseFrame test one) n = (levels 0 one + n ≤ 31) × IsLowExpr test × IsLow one
FrameFits (WhileFrame test) n = IsLowExpr test
FrameFits DoFrame n = Unit {0}
FrameFits (ForFrame first test step) n = (max (all_levels first) (all_levels step) + n ≤ 31) × AreLow first × IsLowIfAny test × AreLow step

abbrev pub FramesFit : List StmtFrame → Type 0
FramesFit [] = Unit {0}
FramesFit (f ∷ K) = FrameFits f (levels_around (f ∷ K)) × FramesFit K

-- a simple statement, and one with another in it
abbrev pub SimpleFits : List StmtFrame → Type 0
SimpleFits K = (1 + levels_around K ≤ 31) × FramesFit K

abbrev pub HeadFits : List StmtFrame → Type 0
HeadFits K = (2 + levels_around K ≤ 31) × FramesFit K

-- a whole statement
abbrev pub WholeFits : StmtTree → List StmtFrame → Type 0
WholeFits s K = (levels (beside K) s + levels_around K ≤ 31) × IsLow s × FramesFit K

-- a body of a `do`
abbrev pub DoFits : StmtTree → List StmtFrame → Type 0
DoFits body K = (levels 0 body + 1 + levels_around K ≤ 31) × IsLow body × FramesFit K

-- a `for` with its first part and its test
abbrev pub ForFits : StmtTrees → Option ExprTree → List StmtFrame → Type 0
ForFits first test K = (all_levels first + 1 + levels_around K ≤ 31) × AreLow first × IsLowIfAny test × FramesFit K

-- a declaration or an assignment that is one of these
abbrev pub PartFits : Part → List StmtFrame → Type 0
PartFits InBlock K = SimpleFits K
PartFits (InFirst done) K = (all_levels done + 1 + levels_around K ≤ 31) × AreLow done × FramesFit K
PartFits (InStep first test done) K =
    (max (all_levels first) (all_levels done) + 1 + levels_around K ≤ 31) × AreLow first × IsLowIfAny test × AreLow done × FramesFit K

-- a whole assignment
abbrev pub AssignedFits : Part → StmtTree → List StmtFrame → Type 0
AssignedFits InBlock s K = WholeFits s K
AssignedFits (InFirst done) s K = PartFits (InFirst (and_stmt done s)) K
AssignedFits (InStep first test done) s K = PartFits (InStep first test (and_stmt done s)) K

abbrev pub PurposeFits : Purpose → List StmtFrame → Type 0
PurposeFits (InitOf place elem constant n) K = PartFits place K
PurposeFits (CountOf elem n) K = SimpleFits K
PurposeFits (IndexOf place n at) K = PartFits place K
PurposeFits (CountedIndexOf place op pos n at) K = PartFits place K
PurposeFits (ValueOf place target op pos) K = PartFits place K × IsLowTarget target
PurposeFits (ArgsOf n args) K = SimpleFits K × AreLowArgs args
PurposeFits IfTest K = HeadFits K
PurposeFits WhileTest K = HeadFits K
PurposeFits (DoTest body) K = DoFits body K
PurposeFits (ForTest first) K = PartFits (InFirst first) K
PurposeFits (ReturnOf at) K = SimpleFits K

abbrev pub StmtFits : StmtFocus → List StmtFrame → Type 0
StmtFits ItemStart K = SimpleFits K
StmtFits BodyStart K = SimpleFits K
StmtFits (Finished s) K = WholeFits s K
StmtFits (Ending s) K = WholeFits s K
StmtFits (Reading purpose focus inner) K = PurposeFits purpose K × ExprFits focus inner
StmtFits IfWord K = HeadFits K
StmtFits WhileWord K = HeadFits K
StmtFits ForWord K = HeadFits K
StmtFits (DoWhile body) K = DoFits body K
StmtFits (BarrierWord at) K = SimpleFits K
StmtFits (BarrierOpen at) K = SimpleFits K
StmtFits (BarrierNumber at) K = SimpleFits K
StmtFits (QualifiersRead place constant) K = PartFits place K
StmtFits (ScalarRead place constant s) K = PartFits place K
StmtFits (TypeRead place elem constant) K = PartFits place K
StmtFits (NameNext place elem constant) K = PartFits place K
StmtFits (Declared place elem constant n) K = PartFits place K
StmtFits LocalWord K = SimpleFits K
StmtFits (LocalScalar s) K = SimpleFits K
StmtFits (LocalNamed elem n) K = SimpleFits K
StmtFits (AssignNext place) K = PartFits place K
StmtFits (AssignNamed place n) K = PartFits place K
StmtFits (CountedBefore place op at) K = PartFits place K
StmtFits (CountedNamed place op at n) K = PartFits place K
StmtFits (Targeted place target) K = PartFits place K × IsLowTarget target
StmtFits (Assigned place s) K = AssignedFits place s K
StmtFits (CallOpen n) K = SimpleFits K
StmtFits FirstStart K = HeadFits K
StmtFits (TestStart first) K = PartFits (InFirst first) K
StmtFits (StepStart first test) K = ForFits first test K
StmtFits (Returning at) K = SimpleFits K

abbrev pub StmtNextFits : StmtNext → Type 0
StmtNextFits (GoesOn focus K) = StmtFits focus K
StmtNextFits (Closes items) = IsWithin items
StmtNextFits Stops = ⊥

abbrev pub StmtRoom : StmtNext → Type 0
StmtRoom (GoesOn focus K) = HasLevels focus K × HasLowExpr focus
StmtRoom (Closes items) = Unit {0}
StmtRoom Stops = ⊥

abbrev pub UnitFits : UnitFocus → Type 0
UnitFits (Inside head ps focus K) = StmtFits focus K
UnitFits _ = Unit {0}

abbrev pub UnitNextFits : UnitNext → Type 0
UnitNextFits (Reads focus) = UnitFits focus
UnitNextFits (Adds f) = IsWithin f.body
UnitNextFits Fails = ⊥

abbrev pub UnitRoom : UnitNext → Type 0
UnitRoom (Reads focus) = HasRoom focus
UnitRoom (Adds f) = Unit {0}
UnitRoom Fails = ⊥

-- Behind a step the shortest way is within the limits exactly where it was so before, and there is room for what the step begins.
abbrev pub Keeps : Type 0 → Type 0 → Type 0 → Type 0
Keeps before room after = (after → before) × (before → room → after)

abbrev pub Both : Type 0 → Type 0 → Type 0
Both A B = (A → B) × (B → A)

abbrev pub ExprKeeps : Type 0 → ExprNext → Type 0
ExprKeeps before next = Keeps before (ExprRoom next) (ExprNextFits next)

abbrev pub StmtKeeps : Type 0 → StmtNext → Type 0
StmtKeeps before next = Keeps before (StmtRoom next) (StmtNextFits next)

abbrev pub UnitKeeps : Type 0 → UnitNext → Type 0
UnitKeeps before next = Keeps before (UnitRoom next) (UnitNextFits next)

pub same : {A R : Type 0} → Keeps A R A
same = (λ x. x, λ x r. x)

pub refused : {A : Type 0} → Keeps A ⊥ ⊥
refused = (λ x. absurd x, λ x r. r)

-- what is said in two ways
pub alike : {A B R : Type 0} → Both A B → Keeps A R B
alike h = (h.1, λ x r. h.0 x)

pub through : {A B R C : Type 0} → Both A B → Keeps B R C → Keeps A R C
through h k = (λ c. h.1 (k.0 c), λ a r. k.1 (h.0 a) r)
