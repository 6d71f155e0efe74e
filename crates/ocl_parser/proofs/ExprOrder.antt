-- The reader groups expressions by the levels of their operators.
use Rattle.std.proofs.Common.{◌≡◌, ◌≤◌, ◌<◌, refl, sym, subst, arith, Bool, true, false, cond, ℕ, suc, List, [], ◌∷◌, Option, Some, None, true≢false}
use Rattle.std.proofs.lemmas.Bool.Decides.{nat_tests}
use Rattle.vx_base.specs.declared.types.Pos.{Pos}
use Rattle.ocl_ast.specs.declared.exprs.Ident.{Ident}
use Rattle.ocl_ast.specs.declared.exprs.UnOp.{UnOp}
use Rattle.ocl_ast.specs.Trees.{ExprTree, NameTree, ArgTrees, NoArgs, AndArg}
use Rattle.ocl_tokens.specs.declared.marks.Mark.{Mark}
use Rattle.ocl_tokens.specs.declared.marks.Mark.TheVariants.{OpenParen, CloseParen, OpenBracket, CloseBracket, Comma, Question, Colon}
use Rattle.ocl_tokens.specs.declared.tokens.TokenKind.{TokenKind}
use Rattle.ocl_tokens.specs.declared.tokens.TokenKind.TheVariants.{Name as NameKind, Word as WordKind, Number as NumberKind, Mark as MarkKind, End}
use Rattle.ocl_parser.specs.ScalarSteps.{scalar_first, scalar_more}
use Rattle.ocl_parser.specs.Exprs.{rank, IsGrouped, AreGrouped}
use Rattle.ocl_parser.specs.ExprSteps.{ExprNext, Goes, Ends, Refuses, infix_of, unary_of, infix_level, infix_tree, and_arg, ExprInFrames, ends, closed_by, settled, standing, operand_step, operand_mark, named_step, opened_step, opened_word, casting_step, calling_step, done_step, done_mark, infix_step, question_step, close_standing, close_step, close_test, close_index, close_args, close_paren, expr_step}
use Rattle.ocl_parser.specs.declared.operators.Infix.{Infix}
use Rattle.ocl_parser.specs.declared.operators.Infix.TheVariants.{Both, Either, Op}
use Rattle.ocl_parser.specs.declared.scalars.Scalar.{Scalar}
use Rattle.ocl_parser.specs.declared.states.ExprFocus.{ExprFocus}
use Rattle.ocl_parser.specs.declared.states.ExprFocus.TheVariants.{Operand, Named, Opened, Casting, Calling, Done}
use Rattle.ocl_parser.specs.declared.states.ExprFrame.{ExprFrame}
use Rattle.ocl_parser.specs.declared.states.ExprFrame.TheVariants.{Unary as UnaryFrame, Cast as CastFrame, Between as InfixFrame, Test as TestFrame, Other as OtherFrame, Index as IndexFrame, Call as ArgsFrame, Paren as ParenFrame}
use Rattle.ocl_parser.proofs.ExprComplete.{level_bounds}

-- how tightly the expression in a frame must hold together at least
abbrev pub base : ExprFrame → ℕ
base (UnaryFrame op pos) = 11
base (CastFrame elem pos) = 11
base (InfixFrame op left pos) = suc (infix_level op)
base (TestFrame test pos) = 0
base (OtherFrame test one pos) = 0
base (IndexFrame array pos) = 0
base (ArgsFrame called args) = 0
base (ParenFrame pos) = 0

abbrev pub least : List ExprFrame → ℕ
least [] = 0
least (f ∷ K) = base f

-- how tightly a frame's construct holds together
abbrev pub frame_rank : ExprFrame → ℕ
frame_rank (UnaryFrame op pos) = 11
frame_rank (CastFrame elem pos) = 11
frame_rank (InfixFrame op left pos) = infix_level op
frame_rank (TestFrame test pos) = 0
frame_rank (OtherFrame test one pos) = 0
frame_rank (IndexFrame array pos) = 12
frame_rank (ArgsFrame called args) = 12
frame_rank (ParenFrame pos) = 12

abbrev pub IsGroupedFrame : ExprFrame → Type 0
IsGroupedFrame (UnaryFrame op pos) = Unit {0}
IsGroupedFrame (CastFrame elem pos) = Unit {0}
IsGroupedFrame (InfixFrame op left pos) = (infix_level op ≤ rank left) × IsGrouped left
IsGroupedFrame (TestFrame test pos) = (1 ≤ rank test) × IsGrouped test
IsGroupedFrame (OtherFrame test one pos) = (1 ≤ rank test) × IsGrouped test × IsGrouped one
IsGroupedFrame (IndexFrame array pos) = Unit {0}
IsGroupedFrame (ArgsFrame called args) = AreGrouped args
IsGroupedFrame (ParenFrame pos) = Unit {0}

abbrev pub AreGroupedFrames : List ExprFrame → Type 0
AreGroupedFrames [] = Unit {0}
AreGroupedFrames (f ∷ K) = IsGroupedFrame f × (least K ≤ frame_rank f) × AreGroupedFrames K

-- what has been read of an operand holds together like a name
abbrev pub IsGroupedFocus : ExprFocus → Type 0
IsGroupedFocus (Done e) = IsGrouped e × (rank e ≡ 12)
IsGroupedFocus _ = Unit {0}

abbrev pub IsGroupedNext : ExprNext → Type 0
IsGroupedNext (Goes focus K) = IsGroupedFocus focus × AreGroupedFrames K
IsGroupedNext (Ends e) = IsGrouped e
IsGroupedNext Refuses = Unit {0}

base_most : (f : ExprFrame) → base f ≤ 11
base_most (UnaryFrame op pos) = omega arith
base_most (CastFrame elem pos) = omega arith
base_most (InfixFrame op left pos) = let b : infix_level op ≤ 10 = (level_bounds op).1 in omega arith
base_most (TestFrame test pos) = omega arith
base_most (OtherFrame test one pos) = omega arith
base_most (IndexFrame array pos) = omega arith
base_most (ArgsFrame called args) = omega arith
base_most (ParenFrame pos) = omega arith

least_most : (K : List ExprFrame) → least K ≤ 11
least_most [] = omega arith
least_most (f ∷ K) = base_most f

infix_rank : (op : Infix) (left right : ExprTree) (pos : Pos) → rank (infix_tree op left right pos) ≡ infix_level op
infix_rank (Op op) left right pos = refl
infix_rank Both left right pos = refl
infix_rank Either left right pos = refl

infix_grouped : (op : Infix) (left right : ExprTree) (pos : Pos) → infix_level op ≤ rank left → infix_level op < rank right → IsGrouped left → IsGrouped right →
    IsGrouped (infix_tree op left right pos)
infix_grouped (Op op) left right pos l r g h = (l, r, g, h)
infix_grouped Both left right pos l r g h = (l, r, g, h)
infix_grouped Either left right pos l r g h = (l, r, g, h)

-- no frame at the top that a token of level n ends
abbrev Unended : ℕ → List ExprFrame → Type 0
Unended n [] = Unit {0}
Unended n (f ∷ K) = ends n f ≡ false

record IsSettled (n : ℕ) (s : ExprInFrames) : Type 0 where
  grouped : IsGrouped s.tree
  tight : n ≤ rank s.tree
  fits : least s.frames ≤ rank s.tree
  around : AreGroupedFrames s.frames
  top : Unended n s.frames

-- the construct that an operator of level n ends is grouped
closed_rank : (n : ℕ) (f : ExprFrame) (e : ExprTree) → ends n f ≡ true → rank (closed_by f e) ≡ frame_rank f
closed_rank n (UnaryFrame op pos) e h = refl
closed_rank n (CastFrame elem pos) e h = refl
closed_rank n (InfixFrame op left pos) e h = infix_rank op left e pos
closed_rank n (OtherFrame test one pos) e h = refl
closed_rank n (TestFrame test pos) e h = absurd (true≢false (sym h))
closed_rank n (IndexFrame array pos) e h = absurd (true≢false (sym h))
closed_rank n (ArgsFrame called args) e h = absurd (true≢false (sym h))
closed_rank n (ParenFrame pos) e h = absurd (true≢false (sym h))

closed_tight : (n : ℕ) (f : ExprFrame) → n ≤ 11 → ends n f ≡ true → n ≤ frame_rank f
closed_tight n (UnaryFrame op pos) m h = m
closed_tight n (CastFrame elem pos) m h = m
closed_tight n (InfixFrame op left pos) m h = grind (arith, nat_tests)
closed_tight n (OtherFrame test one pos) m h = grind (arith, nat_tests)
closed_tight n (TestFrame test pos) m h = absurd (true≢false (sym h))
closed_tight n (IndexFrame array pos) m h = absurd (true≢false (sym h))
closed_tight n (ArgsFrame called args) m h = absurd (true≢false (sym h))
closed_tight n (ParenFrame pos) m h = absurd (true≢false (sym h))

closed_grouped : (n : ℕ) (f : ExprFrame) (e : ExprTree) → ends n f ≡ true → IsGroupedFrame f → base f ≤ rank e → IsGrouped e → IsGrouped (closed_by f e)
closed_grouped n (UnaryFrame op pos) e h g b x = (b, x)
closed_grouped n (CastFrame elem pos) e h g b x = (b, x)
closed_grouped n (InfixFrame op left pos) e h g b x = let r : infix_level op < rank e = omega arith in infix_grouped op left e pos g.0 r g.1 x
closed_grouped n (OtherFrame test one pos) e h g b x = (g.0, g.1, g.2, x)
closed_grouped n (TestFrame test pos) e h g b x = absurd (true≢false (sym h))
closed_grouped n (IndexFrame array pos) e h g b x = absurd (true≢false (sym h))
closed_grouped n (ArgsFrame called args) e h g b x = absurd (true≢false (sym h))
closed_grouped n (ParenFrame pos) e h g b x = absurd (true≢false (sym h))

by_end : (n : ℕ) (e : ExprTree) (f : ExprFrame) (K : List ExprFrame) (b : Bool) → ends n f ≡ b → IsGrouped e → n ≤ rank e → base f ≤ rank e → AreGroupedFrames (f ∷ K) →
    (b ≡ true → IsSettled n (settled n (closed_by f e) K)) →
    IsSettled n (cond b (settled n (closed_by f e) K) (standing e (f ∷ K)))
by_end n e f K true h x m l g further = further refl
by_end n e f K false h x m l g further = record { grouped = x; tight = m; fits = l; around = g; top = h }

settles : (n : ℕ) (e : ExprTree) (K : List ExprFrame) → n ≤ 11 → IsGrouped e → n ≤ rank e → least K ≤ rank e → AreGroupedFrames K → IsSettled n (settled n e K)
settles n e [] m x t l g = record { grouped = x; tight = t; fits = l; around = g; top = tt }
settles n e (f ∷ K) m x t l g =
    by_end n e f K (ends n f) refl x t l g
    (λ h.
    let r : rank (closed_by f e) ≡ frame_rank f = closed_rank n f e h in
    let tight : n ≤ frame_rank f = closed_tight n f m h in
    let fits : least K ≤ frame_rank f = g.1 in
    settles n (closed_by f e) K m (closed_grouped n f e h g.0 l x)
    (subst (λ k. n ≤ k) (sym r) tight) (subst (λ k. least K ≤ k) (sym r) fits) g.2)

least_level : (op : Infix) (K : List ExprFrame) → Unended (infix_level op) K → least K ≤ infix_level op
least_level op [] h = omega arith
least_level op (UnaryFrame o pos ∷ K) h = absurd (true≢false h)
least_level op (CastFrame elem pos ∷ K) h = absurd (true≢false h)
least_level op (InfixFrame o left pos ∷ K) h = grind (arith, nat_tests)
least_level op (TestFrame test pos ∷ K) h = omega arith
least_level op (OtherFrame test one pos ∷ K) h = omega arith
least_level op (IndexFrame array pos ∷ K) h = omega arith
least_level op (ArgsFrame called args ∷ K) h = omega arith
least_level op (ParenFrame pos ∷ K) h = omega arith

least_one : (K : List ExprFrame) → Unended 1 K → least K ≤ 0
least_one [] h = omega arith
least_one (UnaryFrame o pos ∷ K) h = absurd (true≢false h)
least_one (CastFrame elem pos ∷ K) h = absurd (true≢false h)
least_one (InfixFrame o left pos ∷ K) h = let b : 1 ≤ infix_level o = (level_bounds o).0 in grind (arith, nat_tests)
least_one (TestFrame test pos ∷ K) h = omega arith
least_one (OtherFrame test one pos ∷ K) h = omega arith
least_one (IndexFrame array pos ∷ K) h = omega arith
least_one (ArgsFrame called args ∷ K) h = omega arith
least_one (ParenFrame pos ∷ K) h = omega arith

-- the first token of an operand
mark_groups : (o : Option UnOp) (pos : Pos) (K : List ExprFrame) → AreGroupedFrames K →
    IsGroupedNext (elim o [ Some op ↦ Goes Operand (UnaryFrame op pos ∷ K) | None ↦ Refuses ])
mark_groups (Some op) pos K g = (tt, (tt, least_most K, g))
mark_groups None pos K g = tt

first_groups : (m : Mark) (pos : Pos) (K : List ExprFrame) → AreGroupedFrames K → IsGroupedNext (operand_mark m pos K)
first_groups OpenParen pos K g = (tt, g)
first_groups m pos K g = mark_groups (unary_of m) pos K g

pub operand_groups : (kind : TokenKind) (pos : Pos) (K : List ExprFrame) → AreGroupedFrames K → IsGroupedNext (operand_step kind pos K)
operand_groups (NumberKind value unsigned) pos K g = ((tt, refl), g)
operand_groups (NameKind text) pos K g = (tt, g)
operand_groups (MarkKind m) pos K g = first_groups m pos K g
operand_groups (WordKind w) pos K g = tt
operand_groups End pos K g = tt

-- a token that closes what an expression stands in
pub args_grouped : (args : ArgTrees) (e : ExprTree) → AreGrouped args → IsGrouped e → AreGrouped (and_arg args e)
args_grouped NoArgs e g x = (x, tt)
args_grouped (AndArg arg args) e g x = (g.0, args_grouped args e g.1 x)

test_groups : (kind : TokenKind) (test e : ExprTree) (pos : Pos) (K : List ExprFrame) → AreGroupedFrames (TestFrame test pos ∷ K) → IsGrouped e →
    IsGroupedNext (close_test kind test e pos K)
test_groups (MarkKind Colon) test e pos K g x = (tt, ((g.0.0, g.0.1, x), g.1, g.2))
test_groups _ test e pos K g x = tt

index_groups : (kind : TokenKind) (array : Ident) (e : ExprTree) (pos : Pos) (K : List ExprFrame) → AreGroupedFrames (IndexFrame array pos ∷ K) → IsGrouped e →
    IsGroupedNext (close_index kind array e pos K)
index_groups (MarkKind CloseBracket) array e pos K g x = ((x, refl), g.2)
index_groups _ array e pos K g x = tt

args_groups : (kind : TokenKind) (n : Ident) (args : ArgTrees) (e : ExprTree) (K : List ExprFrame) → AreGroupedFrames (ArgsFrame n args ∷ K) → IsGrouped e →
    IsGroupedNext (close_args kind n args e K)
args_groups (MarkKind Comma) n args e K g x = (tt, (args_grouped args e g.0 x, g.1, g.2))
args_groups (MarkKind CloseParen) n args e K g x = ((args_grouped args e g.0 x, refl), g.2)
args_groups _ n args e K g x = tt

paren_groups : (kind : TokenKind) (e : ExprTree) (pos : Pos) (K : List ExprFrame) → AreGroupedFrames (ParenFrame pos ∷ K) → IsGrouped e →
    IsGroupedNext (close_paren kind e pos K)
paren_groups (MarkKind CloseParen) e pos K g x = ((x, refl), g.2)
paren_groups _ e pos K g x = tt

close_groups : (kind : TokenKind) (e : ExprTree) (K : List ExprFrame) → AreGroupedFrames K → IsGrouped e → IsGroupedNext (close_step kind e K)
close_groups kind e [] g x = x
close_groups kind e (TestFrame test pos ∷ K) g x = test_groups kind test e pos K g x
close_groups kind e (IndexFrame array pos ∷ K) g x = index_groups kind array e pos K g x
close_groups kind e (ArgsFrame called args ∷ K) g x = args_groups kind called args e K g x
close_groups kind e (ParenFrame pos ∷ K) g x = paren_groups kind e pos K g x
close_groups kind e (UnaryFrame op pos ∷ K) g x = tt
close_groups kind e (CastFrame elem pos ∷ K) g x = tt
close_groups kind e (InfixFrame op left pos ∷ K) g x = tt
close_groups kind e (OtherFrame test one pos ∷ K) g x = tt

-- a token behind a whole operand
module _ (e : ExprTree) (K : List ExprFrame) (x : IsGrouped e) (r : rank e ≡ 12) (g : AreGroupedFrames K) where
  settles_at : (n : ℕ) → n ≤ 11 → IsSettled n (settled n e K)
  settles_at n m =
      let low : least K ≤ 11 = least_most K in
      let tight : n ≤ rank e = omega (arith, r) in
      let fits : least K ≤ rank e = omega (arith, r) in
      settles n e K m x tight fits g

  whole_groups : (kind : TokenKind) → IsGroupedNext (close_standing kind (settled 0 e K))
  whole_groups kind =
      let s : IsSettled 0 (settled 0 e K) = settles_at 0 (omega arith) in
      close_groups kind (settled 0 e K).tree (settled 0 e K).frames s.around s.grouped

  question_groups : (pos : Pos) → IsGroupedNext (question_step pos (settled 1 e K))
  question_groups pos =
      let s : IsSettled 1 (settled 1 e K) = settles_at 1 (omega arith) in
      (tt, ((s.tight, s.grouped), least_one (settled 1 e K).frames s.top, s.around))

  infix_groups : (op : Infix) (pos : Pos) → IsGroupedNext (infix_step op pos (settled (infix_level op) e K))
  infix_groups op pos =
      let b : infix_level op ≤ 10 = (level_bounds op).1 in
      let s : IsSettled (infix_level op) (settled (infix_level op) e K) = settles_at (infix_level op) (omega arith) in
      (tt, ((s.tight, s.grouped), least_level op (settled (infix_level op) e K).frames s.top, s.around))

  other_groups : (o : Option Infix) (m : Mark) (pos : Pos) →
      IsGroupedNext (elim o [ Some op ↦ infix_step op pos (settled (infix_level op) e K) | None ↦ close_standing (MarkKind m) (settled 0 e K) ])
  other_groups (Some op) m pos = infix_groups op pos
  other_groups None m pos = whole_groups (MarkKind m)

  behind_groups : (m : Mark) (pos : Pos) → IsGroupedNext (done_mark m pos e K)
  behind_groups Question pos = question_groups pos
  behind_groups m pos = other_groups (infix_of m) m pos

  done_groups : (kind : TokenKind) (pos : Pos) → IsGroupedNext (done_step kind pos e K)
  done_groups (MarkKind m) pos = behind_groups m pos
  done_groups (NumberKind value unsigned) pos = whole_groups (NumberKind value unsigned)
  done_groups (NameKind text) pos = whole_groups (NameKind text)
  done_groups (WordKind w) pos = whole_groups (WordKind w)
  done_groups End pos = whole_groups End

named_groups : (kind : TokenKind) (pos : Pos) (n : Ident) (K : List ExprFrame) → AreGroupedFrames K → IsGroupedNext (named_step kind pos n K)
named_groups (MarkKind OpenBracket) pos n K g = let l : least K ≤ 11 = least_most K in (tt, (tt, omega arith, g))
named_groups (MarkKind OpenParen) pos n K g = (tt, g)
named_groups kind pos n K g = done_groups (NameTree n) K tt refl g kind pos

word_groups : (o : Option Scalar) (at : Pos) (K : List ExprFrame) → AreGroupedFrames K → IsGroupedNext (opened_word o at K)
word_groups (Some s) at K g = (tt, g)
word_groups None at K g = tt

opened_groups : (kind : TokenKind) (pos at : Pos) (K : List ExprFrame) → AreGroupedFrames K → IsGroupedNext (opened_step kind pos at K)
opened_groups (WordKind w) pos at K g = word_groups (scalar_first w) at K g
opened_groups kind pos at K g = let l : least K ≤ 11 = least_most K in operand_groups kind pos (ParenFrame at ∷ K) (tt, omega arith, g)

casting_groups : (kind : TokenKind) (s : Scalar) (at : Pos) (K : List ExprFrame) → AreGroupedFrames K → IsGroupedNext (casting_step kind s at K)
casting_groups (WordKind w) s at K g = word_groups (scalar_more s w) at K g
casting_groups (MarkKind CloseParen) s at K g = (tt, (tt, least_most K, g))
casting_groups _ s at K g = tt

calling_groups : (kind : TokenKind) (pos : Pos) (n : Ident) (K : List ExprFrame) → AreGroupedFrames K → IsGroupedNext (calling_step kind pos n K)
calling_groups (MarkKind CloseParen) pos n K g = ((tt, refl), g)
calling_groups kind pos n K g = let l : least K ≤ 11 = least_most K in operand_groups kind pos (ArgsFrame n NoArgs ∷ K) (tt, omega arith, g)

-- one token of an expression
pub expr_groups : (kind : TokenKind) (pos : Pos) (focus : ExprFocus) (K : List ExprFrame) → IsGroupedFocus focus → AreGroupedFrames K →
    IsGroupedNext (expr_step kind pos focus K)
expr_groups kind pos Operand K x g = operand_groups kind pos K g
expr_groups kind pos (Named n) K x g = named_groups kind pos n K g
expr_groups kind pos (Opened at) K x g = opened_groups kind pos at K g
expr_groups kind pos (Casting s at) K x g = casting_groups kind s at K g
expr_groups kind pos (Calling n) K x g = calling_groups kind pos n K g
expr_groups kind pos (Done e) K x g = done_groups e K x.0 x.1 g kind pos
