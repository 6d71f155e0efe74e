-- What the limits of statements say of each other.
use Rattle.std.proofs.Common.{◌≡◌, ◌≤◌, ◌+◌, refl, sym, arith, Bool, true, max, ℕ, List, [], ◌∷◌, ◌++◌, Option, Some, None, true≢false}
use Rattle.vx_base.specs.declared.types.Pos.{Pos}
use Rattle.ocl_ast.specs.declared.stmts.AssignOp.{AssignOp}
use Rattle.ocl_ast.specs.Measures.{height, args_height, levels, all_levels}
use Rattle.ocl_ast.specs.Trees.{FunctionTree, ExprTree, ArgTrees, TargetTree, StmtTree, DeclareTree, LocalArrayTree, AssignTree, CallStmtTree, BarrierTree, IfTree, IfElseTree, WhileTree, DoTree, ForTree, BreakTree, ContinueTree, ReturnTree, BlockTree, EmptyTree, StmtTrees, NoStmts, AndStmt}
use Rattle.ocl_parser.specs.Limits.{IsLowExpr, AreLowArgs, IsLowIfAny, IsLowTarget, IsLow, AreLow, IsWithin, AreWithin}
use Rattle.ocl_parser.specs.Levels.{beside, levels_around}
use Rattle.ocl_parser.specs.ExprSteps.{and_arg}
use Rattle.ocl_parser.specs.StmtSteps.{and_stmt, ends_with, completed}
use Rattle.ocl_parser.specs.declared.states.Part.{Part}
use Rattle.ocl_parser.specs.declared.states.Part.TheVariants.{InBlock, InFirst, InStep}
use Rattle.ocl_parser.specs.declared.states.StmtFrame.{StmtFrame}
use Rattle.ocl_parser.specs.declared.states.StmtFrame.TheVariants.{Block as BlockFrame, Then as ThenFrame, Else as ElseFrame, While as WhileFrame, Do as DoFrame, For as ForFrame}
use Rattle.ocl_parser.proofs.ExprLimits.{args_more}
use Rattle.ocl_parser.proofs.Fits.{SimpleFits, HeadFits, WholeFits, ForFits, PartFits, AssignedFits, Both}

-- measures of statements
pub some_level : (ss : StmtTrees) → 1 ≤ all_levels ss
some_level NoStmts = omega arith
some_level (AndStmt s ss) = omega (arith, some_level ss)

pub a_level : (block : ℕ) (s : StmtTree) → 1 ≤ levels block s
a_level block (DeclareTree elem constant n value) = omega arith
a_level block (LocalArrayTree elem n count) = omega arith
a_level block (AssignTree target op value pos) = omega arith
a_level block (CallStmtTree n args) = omega arith
a_level block (BarrierTree pos) = omega arith
a_level block (IfTree test body) = omega arith
a_level block (IfElseTree test one other) = omega arith
a_level block (WhileTree test body) = omega arith
a_level block (DoTree body test) = omega arith
a_level block (ForTree first test step body) = omega arith
a_level block (BreakTree pos) = omega arith
a_level block (ContinueTree pos) = omega arith
a_level block (ReturnTree value pos) = omega arith
a_level block (BlockTree items) = omega (arith, some_level items)
a_level block EmptyTree = omega arith

pub and_levels : (ss : StmtTrees) (s : StmtTree) → all_levels (and_stmt ss s) ≡ max (all_levels ss) (levels 1 s)
and_levels NoStmts s = omega arith
and_levels (AndStmt x ss) s = omega (arith, and_levels ss s)

-- a statement of one level
pub and_simple : (ss : StmtTrees) (s : StmtTree) → levels 1 s ≡ 1 → all_levels (and_stmt ss s) ≡ all_levels ss
and_simple ss s h = omega (arith, and_levels ss s, some_level ss)

pub and_low : (ss : StmtTrees) (s : StmtTree) → Both (AreLow ss × IsLow s) (AreLow (and_stmt ss s))
and_low NoStmts s = (λ x. (x.1, tt), λ x. (tt, x.0))
and_low (AndStmt y ss) s =
    let h : Both (AreLow ss × IsLow s) (AreLow (and_stmt ss s)) = and_low ss s in
    (λ x. (x.0.0, h.0 (x.0.1, x.1)), λ x. let y : AreLow ss × IsLow s = h.1 x.1 in ((x.0, y.0), y.1))

-- one item more in a block
pub block_fits : (items : StmtTrees) (s : StmtTree) (K : List StmtFrame) → levels 1 s ≡ 1 →
    Both (SimpleFits (BlockFrame items ∷ K) × IsLow s) (SimpleFits (BlockFrame (and_stmt items s) ∷ K))
block_fits items s K e =
    let h : Both (AreLow items × IsLow s) (AreLow (and_stmt items s)) = and_low items s in
    let l : all_levels (and_stmt items s) ≡ all_levels items = and_simple items s e in (
      λ x.
          let a : all_levels items + levels_around (BlockFrame items ∷ K) ≤ 31 = x.0.1.0.0 in
          (x.0.0, ((omega arith, h.0 (x.0.1.0.1, x.1)), x.0.1.1)),
      λ x.
          let a : all_levels (and_stmt items s) + levels_around (BlockFrame items ∷ K) ≤ 31 = x.1.0.0 in
          let y : AreLow items × IsLow s = h.1 x.1.0.1 in
          ((x.0, ((omega arith, y.0), x.1.1)), y.1),
    )

-- a whole statement as an item of a block
pub items_fit : (items : StmtTrees) (s : StmtTree) (K : List StmtFrame) → Both (WholeFits s (BlockFrame items ∷ K)) (SimpleFits (BlockFrame (and_stmt items s) ∷ K))
items_fit items s K =
    let h : Both (AreLow items × IsLow s) (AreLow (and_stmt items s)) = and_low items s in
    let l : all_levels (and_stmt items s) ≡ max (all_levels items) (levels 1 s) = and_levels items s in
    let n : 1 ≤ all_levels items = some_level items in (
      λ x.
          let a : levels 1 s + levels_around (BlockFrame items ∷ K) ≤ 31 = x.0 in
          let b : all_levels items + levels_around (BlockFrame items ∷ K) ≤ 31 = x.2.0.0 in
          (omega arith, ((omega arith, h.0 (x.2.0.1, x.1)), x.2.1)),
      λ x.
          let a : all_levels (and_stmt items s) + levels_around (BlockFrame items ∷ K) ≤ 31 = x.1.0.0 in
          let y : AreLow items × IsLow s = h.1 x.1.0.1 in
          (omega arith, y.1, ((omega arith, y.0), x.1.1)),
    )

-- one declaration more in the first part of a `for`
pub first_fits : (done : StmtTrees) (s : StmtTree) (K : List StmtFrame) → levels 1 s ≡ 1 → Both (PartFits (InFirst done) K × IsLow s) (PartFits (InFirst (and_stmt done s)) K)
first_fits done s K e =
    let h : Both (AreLow done × IsLow s) (AreLow (and_stmt done s)) = and_low done s in
    let l : all_levels (and_stmt done s) ≡ all_levels done = and_simple done s e in (
      λ x. let a : all_levels done + 1 + levels_around K ≤ 31 = x.0.0 in (omega arith, h.0 (x.0.1, x.1), x.0.2),
      λ x.
          let a : all_levels (and_stmt done s) + 1 + levels_around K ≤ 31 = x.0 in
          let y : AreLow done × IsLow s = h.1 x.1 in
          ((omega arith, y.0, x.2), y.1),
    )

pub step_fits : (first : StmtTrees) (test : Option ExprTree) (done : StmtTrees) (s : StmtTree) (K : List StmtFrame) → levels 1 s ≡ 1 →
    Both (PartFits (InStep first test done) K × IsLow s) (PartFits (InStep first test (and_stmt done s)) K)
step_fits first test done s K e =
    let h : Both (AreLow done × IsLow s) (AreLow (and_stmt done s)) = and_low done s in
    let l : all_levels (and_stmt done s) ≡ all_levels done = and_simple done s e in (
      λ x. let a : max (all_levels first) (all_levels done) + 1 + levels_around K ≤ 31 = x.0.0 in (omega arith, x.0.1, x.0.2, h.0 (x.0.3, x.1), x.0.4),
      λ x.
          let a : max (all_levels first) (all_levels (and_stmt done s)) + 1 + levels_around K ≤ 31 = x.0 in
          let y : AreLow done × IsLow s = h.1 x.3 in
          ((omega arith, x.1, x.2, y.0, x.4), y.1),
    )

-- a whole assignment
pub assigned_fits : (place : Part) (target : TargetTree) (op : AssignOp) (value : Option ExprTree) (pos : Pos) (K : List StmtFrame) →
    Both (PartFits place K × (IsLowTarget target × IsLowIfAny value)) (AssignedFits place (AssignTree target op value pos) K)
assigned_fits InBlock target op value pos K = (λ x. (x.0.0, x.1, x.0.1), λ x. ((x.0, x.2), x.1))
assigned_fits (InFirst done) target op value pos K = first_fits done (AssignTree target op value pos) K refl
assigned_fits (InStep first test done) target op value pos K = step_fits first test done (AssignTree target op value pos) K refl

-- an assignment without a value
pub plain_fits : (place : Part) (target : TargetTree) (op : AssignOp) (at : Pos) (K : List StmtFrame) →
    Both (PartFits place K × IsLowTarget target) (AssignedFits place (AssignTree target op None at) K)
plain_fits place target op at K =
    let h : Both (PartFits place K × (IsLowTarget target × IsLowIfAny None)) (AssignedFits place (AssignTree target op None at) K) = assigned_fits place target op None at K in
    (λ x. h.0 (x.0, (x.1, tt)), λ x. let y : PartFits place K × (IsLowTarget target × IsLowIfAny None) = h.1 x in (y.0, y.1.0))

-- the body of a `for`
pub for_body : (first : StmtTrees) (test : Option ExprTree) (done : StmtTrees) (K : List StmtFrame) →
    Both (PartFits (InStep first test done) K) (SimpleFits (ForFrame first test done ∷ K))
for_body first test done K =
    let l : 1 ≤ all_levels first = some_level first in (
      λ x. let a : max (all_levels first) (all_levels done) + 1 + levels_around K ≤ 31 = x.0 in (omega arith, ((omega arith, x.1, x.2, x.3), x.4)),
      λ x. let a : max (all_levels first) (all_levels done) + (levels_around K + 1) ≤ 31 = x.1.0.0 in (omega arith, x.1.0.1, x.1.0.2, x.1.0.3, x.1.1),
    )

pub for_begins : (first : StmtTrees) (test : Option ExprTree) (K : List StmtFrame) → Both (ForFits first test K) (PartFits (InStep first test NoStmts) K)
for_begins first test K =
    let l : 1 ≤ all_levels first = some_level first in
    (λ x. (omega (arith, x.0), x.1, x.2, tt, x.3), λ x. (omega (arith, x.0), x.1, x.2, x.4))

pub head_begins : (K : List StmtFrame) → Both (HeadFits K) (PartFits (InFirst NoStmts) K)
head_begins K = (λ x. (omega (arith, x.0), tt, x.1), λ x. (omega (arith, x.0), x.2))

-- one argument more
pub args_low : (args : ArgTrees) (e : ExprTree) → Both (AreLowArgs args × IsLowExpr e) (AreLowArgs (and_arg args e))
args_low args e =
    let m : args_height (and_arg args e) ≡ max (args_height args) (height e) = args_more args e in
    (λ x. omega (arith, x.0, x.1), λ x. (omega (arith, x), omega (arith, x)))

-- a frame that its statement ends
pub completed_fits : (b : Bool) (f : StmtFrame) (s : StmtTree) (K : List StmtFrame) → ends_with b f ≡ true → Both (WholeFits s (f ∷ K)) (WholeFits (completed f s) K)
completed_fits b (ThenFrame test) s K h = (λ x. (omega (arith, x.0), (x.2.0, x.1), x.2.1), λ x. (omega (arith, x.0), x.1.1, (x.1.0, x.2)))
completed_fits b (ElseFrame test one) s K h = (
  λ x.
      let a : levels 0 s + (levels_around K + 1) ≤ 31 = x.0 in
      let b : levels 0 one + (levels_around K + 1) ≤ 31 = x.2.0.0 in
      (omega arith, (x.2.0.1, x.2.0.2, x.1), x.2.1),
  λ x. let a : max (levels 0 one) (levels 0 s) + 1 + levels_around K ≤ 31 = x.0 in (omega arith, x.1.2, ((omega arith, x.1.0, x.1.1), x.2)),
)
completed_fits b (WhileFrame test) s K h = (λ x. (omega (arith, x.0), (x.2.0, x.1), x.2.1), λ x. (omega (arith, x.0), x.1.1, (x.1.0, x.2)))
completed_fits b (ForFrame first test step) s K h = (
  λ x.
      let a : levels 0 s + (levels_around K + 1) ≤ 31 = x.0 in
      let b : max (all_levels first) (all_levels step) + (levels_around K + 1) ≤ 31 = x.2.0.0 in
      (omega arith, (x.2.0.1, x.2.0.2, x.2.0.3, x.1), x.2.1),
  λ x.
      let a : max (all_levels first) (max (all_levels step) (levels 0 s)) + 1 + levels_around K ≤ 31 = x.0 in
      (omega arith, x.1.3, ((omega arith, x.1.0, x.1.1, x.1.2), x.2)),
)
completed_fits b DoFrame s K h = absurd (true≢false (sym h))
completed_fits b (BlockFrame items) s K h = absurd (true≢false (sym h))

-- the end of a block
pub body_fits : (items : StmtTrees) → Both (SimpleFits (BlockFrame items ∷ [])) (IsWithin items)
body_fits items = (λ x. (omega (arith, x.1.0.0), x.1.0.1), λ x. (omega arith, ((omega (arith, x.0), x.1), tt)))

pub inner_fits : (items : StmtTrees) (f : StmtFrame) (K : List StmtFrame) → Both (SimpleFits (BlockFrame items ∷ f ∷ K)) (WholeFits (BlockTree items) (f ∷ K))
inner_fits items f K =
    let l : 1 ≤ all_levels items = some_level items in (
      λ x. let a : all_levels items + (levels_around (f ∷ K) + beside (f ∷ K)) ≤ 31 = x.1.0.0 in (omega arith, x.1.0.1, x.1.1),
      λ x. let a : all_levels items + beside (f ∷ K) + levels_around (f ∷ K) ≤ 31 = x.0 in (omega arith, ((omega arith, x.1), x.2)),
    )

-- an assignment with a value
pub value_fits : (place : Part) (target : TargetTree) (op : AssignOp) (pos : Pos) (e : ExprTree) (K : List StmtFrame) →
    Both ((PartFits place K × IsLowTarget target) × IsLowExpr e) (AssignedFits place (AssignTree target op (Some e) pos) K)
value_fits place target op pos e K =
    let h : Both (PartFits place K × (IsLowTarget target × IsLowExpr e)) (AssignedFits place (AssignTree target op (Some e) pos) K)
    = assigned_fits place target op (Some e) pos K in (
      λ x. h.0 (x.0.0, (x.0.1, x.1)),
      λ x. let y : PartFits place K × (IsLowTarget target × IsLowExpr e) = h.1 x in ((y.0, y.1.0), y.1.1),
    )

-- one function more
pub functions_within : (fs : List FunctionTree) (f : FunctionTree) → AreWithin fs → IsWithin f.body → AreWithin (fs ++ (f ∷ []))
functions_within [] f g x = (x, tt)
functions_within (h ∷ fs) f g x = (g.0, functions_within fs f g.1 x)
