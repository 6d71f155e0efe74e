-- The limit of an expression, over each token.
use Rattle.std.proofs.Common.{◌≡◌, ◌≤◌, ◌+◌, refl, sym, arith, Bool, true, false, cond, max, ℕ, length, List, [], ◌∷◌, Option, Some, None, true≢false}
use Rattle.vx_base.specs.declared.types.Pos.{Pos}
use Rattle.ocl_ast.specs.declared.exprs.Ident.{Ident}
use Rattle.ocl_ast.specs.declared.exprs.UnOp.{UnOp}
use Rattle.ocl_ast.specs.Measures.{height, args_height}
use Rattle.ocl_ast.specs.Trees.{ExprTree, NumberTree, NameTree, UnaryTree, BinaryTree, BothTree, EitherTree, ChooseTree, CastTree, IndexTree, CallTree, ParenTree, ArgTrees, NoArgs, AndArg}
use Rattle.ocl_tokens.specs.declared.marks.Mark.{Mark}
use Rattle.ocl_tokens.specs.declared.marks.Mark.TheVariants.{OpenParen, CloseParen, OpenBracket, CloseBracket, Comma, Question, Colon}
use Rattle.ocl_tokens.specs.declared.tokens.TokenKind.{TokenKind}
use Rattle.ocl_tokens.specs.declared.tokens.TokenKind.TheVariants.{Name as NameKind, Word as WordKind, Number as NumberKind, Mark as MarkKind, End}
use Rattle.ocl_parser.specs.Rooms.{left_height, last_height, HasHeight}
use Rattle.ocl_parser.specs.Scalars.{scalar_elem}
use Rattle.ocl_parser.specs.ScalarSteps.{scalar_first, scalar_more}
use Rattle.ocl_parser.specs.ExprSteps.{ExprNext, Goes, Refuses, infix_of, unary_of, infix_level, infix_tree, and_arg, ExprInFrames, ends, closed_by, settled, standing, operand_step, operand_mark, named_step, opened_step, opened_word, casting_step, calling_step, done_step, done_mark, infix_step, question_step, close_standing, close_step, close_test, close_index, close_args, close_paren, expr_step}
use Rattle.ocl_parser.specs.declared.operators.Infix.{Infix}
use Rattle.ocl_parser.specs.declared.operators.Infix.TheVariants.{Both as BothOp, Either, Op}
use Rattle.ocl_parser.specs.declared.scalars.Scalar.{Scalar}
use Rattle.ocl_parser.specs.declared.states.ExprFocus.{ExprFocus}
use Rattle.ocl_parser.specs.declared.states.ExprFocus.TheVariants.{Operand, Named, Opened, Casting, Calling, Done}
use Rattle.ocl_parser.specs.declared.states.ExprFrame.{ExprFrame}
use Rattle.ocl_parser.specs.declared.states.ExprFrame.TheVariants.{Unary as UnaryFrame, Cast as CastFrame, Between as InfixFrame, Test as TestFrame, Other as OtherFrame, Index as IndexFrame, Call as ArgsFrame, Paren as ParenFrame}
use Rattle.ocl_parser.proofs.Fits.{LeftsFit, ExprFits, ExprInFramesFits, ExprRoom, ExprKeeps, Both, same, refused, alike, through}

pub args_more : (args : ArgTrees) (e : ExprTree) → args_height (and_arg args e) ≡ max (args_height args) (height e)
args_more NoArgs e = omega arith
args_more (AndArg arg args) e = omega (arith, args_more args e)

-- closing a frame
infix_height : (op : Infix) (left right : ExprTree) (pos : Pos) → height (infix_tree op left right pos) ≡ max (height left) (height right) + 1
infix_height (Op op) left right pos = refl
infix_height BothOp left right pos = refl
infix_height Either left right pos = refl

closed_height : (n : ℕ) (f : ExprFrame) (e : ExprTree) → ends n f ≡ true → height (closed_by f e) ≡ max (left_height f) (height e) + 1
closed_height n (UnaryFrame op pos) e h = omega arith
closed_height n (CastFrame elem pos) e h = omega arith
closed_height n (InfixFrame op left pos) e h = infix_height op left e pos
closed_height n (OtherFrame test one pos) e h = omega arith
closed_height n (TestFrame test pos) e h = absurd (true≢false (sym h))
closed_height n (IndexFrame array pos) e h = absurd (true≢false (sym h))
closed_height n (ArgsFrame called args) e h = absurd (true≢false (sym h))
closed_height n (ParenFrame pos) e h = absurd (true≢false (sym h))

pub closed_fits : (n : ℕ) (f : ExprFrame) (e : ExprTree) (K : List ExprFrame) → ends n f ≡ true → Both (ExprInFramesFits (standing e (f ∷ K))) (ExprInFramesFits (standing (closed_by f e) K))
closed_fits n f e K h =
    let c : height (closed_by f e) ≡ max (left_height f) (height e) + 1 = closed_height n f e h in (
      λ x. let a : height e + length (f ∷ K) ≤ 128 = x.0 in let b : left_height f + length (f ∷ K) ≤ 128 = x.1.0 in (omega arith, x.1.1),
      λ x. let a : height (closed_by f e) + length K ≤ 128 = x.0 in (omega arith, (omega arith, x.1)),
    )

by_end : (n : ℕ) (e : ExprTree) (f : ExprFrame) (K : List ExprFrame) (b : Bool) → ends n f ≡ b →
    (b ≡ true → Both (ExprInFramesFits (standing (closed_by f e) K)) (ExprInFramesFits (settled n (closed_by f e) K))) →
    Both (ExprInFramesFits (standing e (f ∷ K))) (ExprInFramesFits (cond b (settled n (closed_by f e) K) (standing e (f ∷ K))))
by_end n e f K true h further =
    let c : Both (ExprInFramesFits (standing e (f ∷ K))) (ExprInFramesFits (standing (closed_by f e) K)) = closed_fits n f e K h in
    let g : Both (ExprInFramesFits (standing (closed_by f e) K)) (ExprInFramesFits (settled n (closed_by f e) K)) = further refl in
    (λ x. g.0 (c.0 x), λ x. c.1 (g.1 x))
by_end n e f K false h further = (λ x. x, λ x. x)

pub settled_fits : (n : ℕ) (e : ExprTree) (K : List ExprFrame) → Both (ExprInFramesFits (standing e K)) (ExprInFramesFits (settled n e K))
settled_fits n e [] = (λ x. x, λ x. x)
settled_fits n e (f ∷ K) = by_end n e f K (ends n f) refl (λ h. settled_fits n (closed_by f e) K)

-- Where the frames below the innermost one fit, room is all that is asked.
abbrev LastsFit : List ExprFrame → Type 0
LastsFit [] = Unit {0}
LastsFit (f ∷ K) = LeftsFit K

lefts : (K : List ExprFrame) → LastsFit K → last_height K + length K ≤ 128 → LeftsFit K
lefts [] x h = tt
lefts (f ∷ K) x h = (h, x)

roomy : (focus : ExprFocus) (K : List ExprFrame) → LastsFit K → HasHeight focus K → ExprFits focus K
roomy focus K x r = (r.0, lefts K x r.1)

-- the first token of an operand
record OperandKeeps (K : List ExprFrame) (next : ExprNext) : Type 0 where
  pub keeps : ExprKeeps (ExprFits Operand K) next
  pub room : ExprRoom next → 1 + length K ≤ 128

unary_keeps : (o : Option UnOp) (pos : Pos) (K : List ExprFrame) →
    OperandKeeps K (elim o [ Some op ↦ Goes Operand (UnaryFrame op pos ∷ K) | None ↦ Refuses ])
unary_keeps (Some op) pos K = record {
  keeps = (
    λ x. let a : 1 + length (UnaryFrame op pos ∷ K) ≤ 128 = x.0 in (omega arith, x.1.1),
    λ x r. roomy Operand (UnaryFrame op pos ∷ K) x.1 r,
  );
  room = λ r. let a : 1 + length (UnaryFrame op pos ∷ K) ≤ 128 = r.0 in omega arith;
}
unary_keeps None pos K = record { keeps = refused; room = λ r. absurd r }

mark_keeps : (m : Mark) (pos : Pos) (K : List ExprFrame) → OperandKeeps K (operand_mark m pos K)
mark_keeps OpenParen pos K = record {
  keeps = (λ x. let a : 2 + length K ≤ 128 = x.0 in (omega arith, x.1), λ x r. (r.0, x.1));
  room = λ r. let a : 2 + length K ≤ 128 = r.0 in omega arith;
}
mark_keeps m pos K = unary_keeps (unary_of m) pos K

operand_keeps : (kind : TokenKind) (pos : Pos) (K : List ExprFrame) → OperandKeeps K (operand_step kind pos K)
operand_keeps (NumberKind value unsigned) pos K = record { keeps = same; room = λ r. r.0 }
operand_keeps (NameKind text) pos K = record { keeps = same; room = λ r. r.0 }
operand_keeps (MarkKind m) pos K = mark_keeps m pos K
operand_keeps (WordKind w) pos K = record { keeps = refused; room = λ r. absurd r }
operand_keeps End pos K = record { keeps = refused; room = λ r. absurd r }

-- an expression begins
pub first_keeps : (kind : TokenKind) (pos : Pos) → ExprKeeps (ExprFits Operand []) (operand_step kind pos [])
first_keeps kind pos = (operand_keeps kind pos []).keeps

-- a token that closes what an expression stands in
some_height : (e : ExprTree) → 1 ≤ height e
some_height (NumberTree value unsigned pos) = omega arith
some_height (NameTree name) = omega arith
some_height (UnaryTree op part pos) = omega arith
some_height (BinaryTree op left right pos) = omega arith
some_height (BothTree left right pos) = omega arith
some_height (EitherTree left right pos) = omega arith
some_height (ChooseTree test one other pos) = omega arith
some_height (CastTree elem part pos) = omega arith
some_height (IndexTree array place pos) = omega arith
some_height (CallTree name args) = omega arith
some_height (ParenTree part pos) = omega arith

pub test_closes : (test e : ExprTree) (pos : Pos) (K : List ExprFrame) → Both (ExprFits (Done e) (TestFrame test pos ∷ K)) (ExprFits Operand (OtherFrame test e pos ∷ K))
test_closes test e pos K =
    let h : 1 ≤ height e = some_height e in (
      λ x. let a : height e + length (TestFrame test pos ∷ K) ≤ 128 = x.0 in let b : height test + length (TestFrame test pos ∷ K) ≤ 128 = x.1.0 in
          (omega arith, (omega arith, x.1.1)),
      λ x. let a : max (height test) (height e) + length (OtherFrame test e pos ∷ K) ≤ 128 = x.1.0 in (omega arith, (omega arith, x.1.1)),
    )

pub index_closes : (array : Ident) (e : ExprTree) (pos : Pos) (K : List ExprFrame) → Both (ExprFits (Done e) (IndexFrame array pos ∷ K)) (ExprFits (Done (IndexTree array e pos)) K)
index_closes array e pos K = (
  λ x. let a : height e + length (IndexFrame array pos ∷ K) ≤ 128 = x.0 in (omega arith, x.1.1),
  λ x. let a : height e + 1 + length K ≤ 128 = x.0 in (omega arith, (omega arith, x.1)),
)

pub args_close : (n : Ident) (args : ArgTrees) (e : ExprTree) (K : List ExprFrame) → Both (ExprFits (Done e) (ArgsFrame n args ∷ K)) (ExprFits (Done (CallTree n (and_arg args e))) K)
args_close n args e K =
    let m : args_height (and_arg args e) ≡ max (args_height args) (height e) = args_more args e in (
      λ x.
          let a : height e + length (ArgsFrame n args ∷ K) ≤ 128 = x.0 in
          let b : args_height args + length (ArgsFrame n args ∷ K) ≤ 128 = x.1.0 in
          (omega arith, x.1.1),
      λ x. let a : args_height (and_arg args e) + 1 + length K ≤ 128 = x.0 in (omega arith, (omega arith, x.1)),
    )

pub paren_closes : (e : ExprTree) (pos : Pos) (K : List ExprFrame) → Both (ExprFits (Done e) (ParenFrame pos ∷ K)) (ExprFits (Done (ParenTree e pos)) K)
paren_closes e pos K = (
  λ x. let a : height e + length (ParenFrame pos ∷ K) ≤ 128 = x.0 in (omega arith, x.1.1),
  λ x. let a : height e + 1 + length K ≤ 128 = x.0 in (omega arith, (omega arith, x.1)),
)

test_keeps : (kind : TokenKind) (test e : ExprTree) (pos : Pos) (K : List ExprFrame) → ExprKeeps (ExprInFramesFits (standing e (TestFrame test pos ∷ K))) (close_test kind test e pos K)
test_keeps (MarkKind Colon) test e pos K = alike (test_closes test e pos K)
test_keeps _ test e pos K = refused

index_keeps : (kind : TokenKind) (array : Ident) (e : ExprTree) (pos : Pos) (K : List ExprFrame) →
    ExprKeeps (ExprInFramesFits (standing e (IndexFrame array pos ∷ K))) (close_index kind array e pos K)
index_keeps (MarkKind CloseBracket) array e pos K = alike (index_closes array e pos K)
index_keeps _ array e pos K = refused

args_keeps : (kind : TokenKind) (n : Ident) (args : ArgTrees) (e : ExprTree) (K : List ExprFrame) →
    ExprKeeps (ExprInFramesFits (standing e (ArgsFrame n args ∷ K))) (close_args kind n args e K)
args_keeps (MarkKind Comma) n args e K =
    let m : args_height (and_arg args e) ≡ max (args_height args) (height e) = args_more args e in (
      λ x. let a : args_height (and_arg args e) + length (ArgsFrame n (and_arg args e) ∷ K) ≤ 128 = x.1.0 in (omega arith, (omega arith, x.1.1)),
      λ x r. roomy Operand (ArgsFrame n (and_arg args e) ∷ K) x.1.1 r,
    )
args_keeps (MarkKind CloseParen) n args e K = alike (args_close n args e K)
args_keeps _ n args e K = refused

paren_keeps : (kind : TokenKind) (e : ExprTree) (pos : Pos) (K : List ExprFrame) → ExprKeeps (ExprInFramesFits (standing e (ParenFrame pos ∷ K))) (close_paren kind e pos K)
paren_keeps (MarkKind CloseParen) e pos K = alike (paren_closes e pos K)
paren_keeps _ e pos K = refused

close_keeps : (kind : TokenKind) (e : ExprTree) (K : List ExprFrame) → ExprKeeps (ExprInFramesFits (standing e K)) (close_step kind e K)
close_keeps kind e [] = (λ x. (omega (arith, x), tt), λ x r. let a : height e + length {A = ExprFrame} [] ≤ 128 = x.0 in omega arith)
close_keeps kind e (TestFrame test pos ∷ K) = test_keeps kind test e pos K
close_keeps kind e (IndexFrame array pos ∷ K) = index_keeps kind array e pos K
close_keeps kind e (ArgsFrame called args ∷ K) = args_keeps kind called args e K
close_keeps kind e (ParenFrame pos ∷ K) = paren_keeps kind e pos K
close_keeps kind e (UnaryFrame op pos ∷ K) = refused
close_keeps kind e (CastFrame elem pos ∷ K) = refused
close_keeps kind e (InfixFrame op left pos ∷ K) = refused
close_keeps kind e (OtherFrame test one pos ∷ K) = refused

-- a token behind a whole operand
left_keeps : (f : ExprFrame) (e : ExprTree) (K : List ExprFrame) → left_height f ≡ height e → ExprKeeps (ExprInFramesFits (standing e K)) (Goes Operand (f ∷ K))
left_keeps f e K h = (
  λ x. let a : left_height f + length (f ∷ K) ≤ 128 = x.1.0 in (omega arith, x.1.1),
  λ x r. roomy Operand (f ∷ K) x.1 r,
)

module _ (e : ExprTree) (K : List ExprFrame) where
  whole_keeps : (kind : TokenKind) → ExprKeeps (ExprFits (Done e) K) (close_standing kind (settled 0 e K))
  whole_keeps kind = through (settled_fits 0 e K) (close_keeps kind (settled 0 e K).tree (settled 0 e K).frames)

  question_keeps : (pos : Pos) → ExprKeeps (ExprFits (Done e) K) (question_step pos (settled 1 e K))
  question_keeps pos =
      let s : ExprInFrames = settled 1 e K in
      through (settled_fits 1 e K) (left_keeps (TestFrame s.tree pos) s.tree s.frames refl)

  infix_keeps : (op : Infix) (pos : Pos) → ExprKeeps (ExprFits (Done e) K) (infix_step op pos (settled (infix_level op) e K))
  infix_keeps op pos =
      let s : ExprInFrames = settled (infix_level op) e K in
      through (settled_fits (infix_level op) e K) (left_keeps (InfixFrame op s.tree pos) s.tree s.frames refl)

  other_keeps : (o : Option Infix) (m : Mark) (pos : Pos) →
      ExprKeeps (ExprFits (Done e) K) (elim o [ Some op ↦ infix_step op pos (settled (infix_level op) e K) | None ↦ close_standing (MarkKind m) (settled 0 e K) ])
  other_keeps (Some op) m pos = infix_keeps op pos
  other_keeps None m pos = whole_keeps (MarkKind m)

  behind_keeps : (m : Mark) (pos : Pos) → ExprKeeps (ExprFits (Done e) K) (done_mark m pos e K)
  behind_keeps Question pos = question_keeps pos
  behind_keeps m pos = other_keeps (infix_of m) m pos

  done_keeps : (kind : TokenKind) (pos : Pos) → ExprKeeps (ExprFits (Done e) K) (done_step kind pos e K)
  done_keeps (MarkKind m) pos = behind_keeps m pos
  done_keeps (NumberKind value unsigned) pos = whole_keeps (NumberKind value unsigned)
  done_keeps (NameKind text) pos = whole_keeps (NameKind text)
  done_keeps (WordKind w) pos = whole_keeps (WordKind w)
  done_keeps End pos = whole_keeps End

named_keeps : (kind : TokenKind) (pos : Pos) (n : Ident) (K : List ExprFrame) → ExprKeeps (ExprFits (Named n) K) (named_step kind pos n K)
named_keeps (MarkKind OpenBracket) pos n K = (
  λ x. let a : 1 + length (IndexFrame n pos ∷ K) ≤ 128 = x.0 in (omega arith, x.1.1),
  λ x r. roomy Operand (IndexFrame n pos ∷ K) x.1 r,
)
named_keeps (MarkKind OpenParen) pos n K = same
named_keeps kind pos n K = done_keeps (NameTree n) K kind pos

-- a token behind `(`
word_keeps : (o : Option Scalar) (at : Pos) (K : List ExprFrame) → ExprKeeps (ExprFits (Opened at) K) (opened_word o at K)
word_keeps (Some s) at K = same
word_keeps None at K = refused

pub paren_opens : (at : Pos) (K : List ExprFrame) → Both (ExprFits (Opened at) K) (ExprFits Operand (ParenFrame at ∷ K))
paren_opens at K = (
  λ x. let a : 2 + length K ≤ 128 = x.0 in (omega arith, (omega arith, x.1)),
  λ x. let a : 1 + length (ParenFrame at ∷ K) ≤ 128 = x.0 in (omega arith, x.1.1),
)

opened_keeps : (kind : TokenKind) (pos at : Pos) (K : List ExprFrame) → ExprKeeps (ExprFits (Opened at) K) (opened_step kind pos at K)
opened_keeps (WordKind w) pos at K = word_keeps (scalar_first w) at K
opened_keeps kind pos at K = through (paren_opens at K) (operand_keeps kind pos (ParenFrame at ∷ K)).keeps

pub cast_opens : (s : Scalar) (at : Pos) (K : List ExprFrame) → Both (ExprFits (Casting s at) K) (ExprFits Operand (CastFrame (scalar_elem s) at ∷ K))
cast_opens s at K = (
  λ x. let a : 2 + length K ≤ 128 = x.0 in (omega arith, (omega arith, x.1)),
  λ x. let a : 1 + length (CastFrame (scalar_elem s) at ∷ K) ≤ 128 = x.0 in (omega arith, x.1.1),
)

casting_keeps : (kind : TokenKind) (s : Scalar) (at : Pos) (K : List ExprFrame) → ExprKeeps (ExprFits (Casting s at) K) (casting_step kind s at K)
casting_keeps (WordKind w) s at K = word_keeps (scalar_more s w) at K
casting_keeps (MarkKind CloseParen) s at K = alike (cast_opens s at K)
casting_keeps _ s at K = refused

-- a token behind a name and `(`
calling_keeps : (kind : TokenKind) (pos : Pos) (n : Ident) (K : List ExprFrame) → ExprKeeps (ExprFits (Calling n) K) (calling_step kind pos n K)
calling_keeps (MarkKind CloseParen) pos n K = (λ x. (omega (arith, x.0), x.1), λ x r. (omega (arith, x.0), x.1))
calling_keeps kind pos n K =
    let o : OperandKeeps (ArgsFrame n NoArgs ∷ K) (operand_step kind pos (ArgsFrame n NoArgs ∷ K)) = operand_keeps kind pos (ArgsFrame n NoArgs ∷ K) in (
      λ x.
          let y : ExprFits Operand (ArgsFrame n NoArgs ∷ K) = o.keeps.0 x in
          let a : 1 + length (ArgsFrame n NoArgs ∷ K) ≤ 128 = y.0 in
          (omega arith, y.1.1),
      λ x r. let a : 1 + length (ArgsFrame n NoArgs ∷ K) ≤ 128 = o.room r in o.keeps.1 (a, (omega arith, x.1)) r,
    )

-- one token of an expression
pub expr_keeps : (kind : TokenKind) (pos : Pos) (focus : ExprFocus) (K : List ExprFrame) → ExprKeeps (ExprFits focus K) (expr_step kind pos focus K)
expr_keeps kind pos Operand K = (operand_keeps kind pos K).keeps
expr_keeps kind pos (Named n) K = named_keeps kind pos n K
expr_keeps kind pos (Opened at) K = opened_keeps kind pos at K
expr_keeps kind pos (Casting s at) K = casting_keeps kind s at K
expr_keeps kind pos (Calling n) K = calling_keeps kind pos n K
expr_keeps kind pos (Done e) K = done_keeps e K kind pos
