-- What the reader reads of an expression is a text of what it has made.
use Rattle.std.proofs.Common.{◌≡◌, refl, sym, subst, Bool, true, false, cond, ℕ, List, [], ◌∷◌, ◌++◌, Option, Some, None, true≢false}
use Rattle.vx_base.specs.declared.types.Pos.{Pos}
use Rattle.ocl_ast.specs.declared.exprs.BinOp.TheVariants.{Mul, Div, Rem, Add, Sub, Shl, Shr, Lt, Gt, Le, Ge, Eq, Ne, And, Xor, Or}
use Rattle.ocl_ast.specs.declared.exprs.Ident.{Ident}
use Rattle.ocl_ast.specs.Trees.{ExprTree, NameTree, ArgTrees, NoArgs}
use Rattle.ocl_tokens.specs.declared.marks.Mark.{Mark}
use Rattle.ocl_tokens.specs.declared.marks.Mark.TheVariants.{OpenParen, CloseParen, OpenBracket, CloseBracket, Comma, Question, Colon, Tilde, Bang, Plus, Minus, Star, Slash, Percent, ShiftLeft, ShiftRight, Less, Greater, LessEqual, GreaterEqual, EqualEqual, BangEqual, Ampersand, Caret, Bar, AndAnd, BarBar}
use Rattle.ocl_tokens.specs.declared.tokens.Token.{Token}
use Rattle.ocl_tokens.specs.declared.tokens.TokenKind.{TokenKind}
use Rattle.ocl_tokens.specs.declared.tokens.TokenKind.TheVariants.{Name as NameKind, Word as WordKind, Number as NumberKind, Mark as MarkKind, End}
use Rattle.ocl_tokens.specs.declared.words.Word.{Word}
use Rattle.ocl_tokens.specs.declared.words.Word.TheVariants.{Char, Uchar, Short, Ushort, Int, Uint, SizeT, Signed, Unsigned}
use Rattle.ocl_parser.specs.Spellings.{Rest, mark, mark_at, word, words, name}
use Rattle.ocl_parser.specs.Scalars.{scalar_words, sign_words}
use Rattle.ocl_parser.specs.ScalarSteps.{scalar_first, scalar_more, signed_more, short_more}
use Rattle.ocl_parser.specs.Exprs.{expr_text}
use Rattle.ocl_parser.specs.ExprSteps.{infix_level, ends, closed_by, settled, standing, operand_step, operand_mark, named_step, opened_step, opened_word, casting_step, calling_step, done_step, done_mark, infix_step, close_standing, close_step, close_test, close_index, close_args, close_paren, expr_step}
use Rattle.ocl_parser.specs.declared.operators.Infix.{Infix}
use Rattle.ocl_parser.specs.declared.operators.Infix.TheVariants.{Both, Either, Op}
use Rattle.ocl_parser.specs.declared.scalars.Scalar.{Scalar}
use Rattle.ocl_parser.specs.declared.scalars.Scalar.TheVariants.{OnlySigned, OnlyUnsigned, Shorts}
use Rattle.ocl_parser.specs.declared.scalars.Sign.{Sign}
use Rattle.ocl_parser.specs.declared.scalars.Sign.TheVariants.{NoSign, SignedSign, UnsignedSign}
use Rattle.ocl_parser.specs.declared.states.ExprFocus.{ExprFocus}
use Rattle.ocl_parser.specs.declared.states.ExprFocus.TheVariants.{Operand, Named, Opened, Casting, Calling, Done}
use Rattle.ocl_parser.specs.declared.states.ExprFrame.{ExprFrame}
use Rattle.ocl_parser.specs.declared.states.ExprFrame.TheVariants.{Unary as UnaryFrame, Cast as CastFrame, Between as InfixFrame, Test as TestFrame, Other as OtherFrame, Index as IndexFrame, Call as ArgsFrame, Paren as ParenFrame}
use Rattle.ocl_parser.proofs.Texts.{Leads, same, then, any, one_mono, after, taken, expr_mono, words_mono}
use Rattle.ocl_parser.proofs.ExprTexts.{infix_mark, frame_text, frames_text, read_text, next_text, frames_mono, infix_whole, args_last, args_comma}

-- the words of a scalar type with one more
words_last : (ws : List Word) (w : Word) (rest : Rest) → Leads (words ws (word w rest)) (words (ws ++ (w ∷ [])) rest)
words_last [] w rest = same
words_last (v ∷ ws) w rest = one_mono _ (words_last ws w rest)

abbrev pub scalar_made : Option Scalar → List Word → Word → Type 0
scalar_made None ws w = Unit {0}
scalar_made (Some s) ws w = scalar_words s ≡ ws ++ (w ∷ [])

pub first_words : (w : Word) → scalar_made (scalar_first w) [] w
first_words Signed = refl
first_words Unsigned = refl
first_words Char = refl
first_words Short = refl
first_words Int = refl
first_words Uchar = refl
first_words Ushort = refl
first_words Uint = refl
first_words SizeT = refl
first_words _ = tt

signed_words : (sign : Sign) (w : Word) → scalar_made (signed_more sign w) (sign_words sign) w
signed_words sign Char = refl
signed_words sign Short = refl
signed_words sign Int = refl
signed_words sign _ = tt

short_words : (sign : Sign) (w : Word) → scalar_made (short_more sign w) (scalar_words (Shorts sign)) w
short_words NoSign Int = refl
short_words SignedSign Int = refl
short_words UnsignedSign Int = refl
short_words sign _ = tt

pub more_words : (s : Scalar) (w : Word) → scalar_made (scalar_more s w) (scalar_words s) w
more_words OnlySigned w = signed_words SignedSign w
more_words OnlyUnsigned w = signed_words UnsignedSign w
more_words (Shorts sign) w = short_words sign w
more_words _ w = tt

-- one word more of a scalar type is read
pub word_taken : (t : Token) (w : Word) → t.kind ≡ WordKind w → (ws : List Word) (s : Scalar) → scalar_words s ≡ ws ++ (w ∷ []) → (rest : Rest) →
    Leads (words ws (after t rest)) (words (scalar_words s) rest)
word_taken t w e ws s made rest =
    subst (λ us. Leads (words ws (after t rest)) (words us rest)) (sym made)
    (then (words_mono ws (taken t _ e)) (words_last ws w rest))

closing : (n : ℕ) (f : ExprFrame) (e : ExprTree) → ends n f ≡ true → (rest : Rest) → Leads (frame_text f (expr_text e rest)) (expr_text (closed_by f e) rest)
closing n (UnaryFrame op pos) e h rest = same
closing n (CastFrame elem pos) e h rest = same
closing n (InfixFrame op left pos) e h rest = infix_whole op left e pos rest
closing n (OtherFrame test other pos) e h rest = same
closing n (TestFrame test pos) e h rest = absurd (true≢false (sym h))
closing n (IndexFrame array pos) e h rest = absurd (true≢false (sym h))
closing n (ArgsFrame called args) e h rest = absurd (true≢false (sym h))
closing n (ParenFrame pos) e h rest = absurd (true≢false (sym h))

by_end : (n : ℕ) (e : ExprTree) (f : ExprFrame) (K : List ExprFrame) (rest : Rest) (b : Bool) → ends n f ≡ b →
    Leads (frames_text K (expr_text (closed_by f e) rest))
    (frames_text (settled n (closed_by f e) K).frames (expr_text (settled n (closed_by f e) K).tree rest)) →
    Leads (frames_text K (frame_text f (expr_text e rest)))
    (let s = cond b (settled n (closed_by f e) K) (standing e (f ∷ K)) in frames_text s.frames (expr_text s.tree rest))
by_end n e f K rest true h further = then (frames_mono K (closing n f e h rest)) further
by_end n e f K rest false h further = same

pub settled_reads : (n : ℕ) (e : ExprTree) (K : List ExprFrame) (rest : Rest) →
    Leads (frames_text K (expr_text e rest)) (frames_text (settled n e K).frames (expr_text (settled n e K).tree rest))
settled_reads n e [] rest = same
settled_reads n e (f ∷ K) rest = by_end n e f K rest (ends n f) refl (settled_reads n (closed_by f e) K rest)

module _ (t : Token) (rest : Rest) where
  mark_reads : (m : Mark) → t.kind ≡ MarkKind m → (K : List ExprFrame) →
      Leads (frames_text K (after t rest)) (next_text t (operand_mark m t.pos K) rest)
  mark_reads OpenParen e K = frames_mono K (taken t _ (e, refl))
  mark_reads Plus e K = frames_mono K (taken t _ (e, refl))
  mark_reads Minus e K = frames_mono K (taken t _ (e, refl))
  mark_reads Bang e K = frames_mono K (taken t _ (e, refl))
  mark_reads Tilde e K = frames_mono K (taken t _ (e, refl))
  mark_reads _ e K = any

  pub operand_reads : (kind : TokenKind) → t.kind ≡ kind → (K : List ExprFrame) →
      Leads (frames_text K (after t rest)) (next_text t (operand_step kind t.pos K) rest)
  operand_reads (NumberKind value unsigned) e K = frames_mono K (taken t _ (e, refl))
  operand_reads (NameKind text) e K = frames_mono K (taken t _ (e, refl))
  operand_reads (MarkKind m) e K = mark_reads m e K
  operand_reads (WordKind w) e K = any
  operand_reads End e K = any

  test_reads : (kind : TokenKind) → t.kind ≡ kind → (test e : ExprTree) (pos : Pos) (K : List ExprFrame) →
      Leads (frames_text (TestFrame test pos ∷ K) (expr_text e (after t rest))) (next_text t (close_test kind test e pos K) rest)
  test_reads (MarkKind Colon) h test e pos K = frames_mono (TestFrame test pos ∷ K) (expr_mono e (taken t _ h))
  test_reads _ h test e pos K = any

  index_reads : (kind : TokenKind) → t.kind ≡ kind → (array : Ident) (e : ExprTree) (pos : Pos) (K : List ExprFrame) →
      Leads (frames_text (IndexFrame array pos ∷ K) (expr_text e (after t rest))) (next_text t (close_index kind array e pos K) rest)
  index_reads (MarkKind CloseBracket) h array e pos K = frames_mono (IndexFrame array pos ∷ K) (expr_mono e (taken t _ h))
  index_reads _ h array e pos K = any

  args_reads : (kind : TokenKind) → t.kind ≡ kind → (n : Ident) (args : ArgTrees) (e : ExprTree) (K : List ExprFrame) →
      Leads (frames_text (ArgsFrame n args ∷ K) (expr_text e (after t rest))) (next_text t (close_args kind n args e K) rest)
  args_reads (MarkKind Comma) h n args e K =
      let taking : Leads (frames_text (ArgsFrame n args ∷ K) (expr_text e (after t rest))) (frames_text (ArgsFrame n args ∷ K) (expr_text e (mark Comma rest)))
      = frames_mono (ArgsFrame n args ∷ K) (expr_mono e (taken t _ h)) in
      then taking (frames_mono K (one_mono _ (one_mono _ (args_comma args e rest))))
  args_reads (MarkKind CloseParen) h n args e K =
      let taking : Leads (frames_text (ArgsFrame n args ∷ K) (expr_text e (after t rest))) (frames_text (ArgsFrame n args ∷ K) (expr_text e (mark CloseParen rest)))
      = frames_mono (ArgsFrame n args ∷ K) (expr_mono e (taken t _ h)) in
      then taking (frames_mono K (one_mono _ (one_mono _ (args_last args e (mark CloseParen rest)))))
  args_reads _ h n args e K = any

  paren_reads : (kind : TokenKind) → t.kind ≡ kind → (e : ExprTree) (pos : Pos) (K : List ExprFrame) →
      Leads (frames_text (ParenFrame pos ∷ K) (expr_text e (after t rest))) (next_text t (close_paren kind e pos K) rest)
  paren_reads (MarkKind CloseParen) h e pos K = frames_mono (ParenFrame pos ∷ K) (expr_mono e (taken t _ h))
  paren_reads _ h e pos K = any

  close_reads : (kind : TokenKind) → t.kind ≡ kind → (e : ExprTree) (K : List ExprFrame) →
      Leads (frames_text K (expr_text e (after t rest))) (next_text t (close_step kind e K) rest)
  close_reads kind h e [] = same
  close_reads kind h e (TestFrame test pos ∷ K) = test_reads kind h test e pos K
  close_reads kind h e (IndexFrame array pos ∷ K) = index_reads kind h array e pos K
  close_reads kind h e (ArgsFrame called args ∷ K) = args_reads kind h called args e K
  close_reads kind h e (ParenFrame pos ∷ K) = paren_reads kind h e pos K
  close_reads kind h e (UnaryFrame op pos ∷ K) = any
  close_reads kind h e (CastFrame elem pos ∷ K) = any
  close_reads kind h e (InfixFrame op left pos ∷ K) = any
  close_reads kind h e (OtherFrame test other pos ∷ K) = any

  whole_reads : (kind : TokenKind) → t.kind ≡ kind → (e : ExprTree) (K : List ExprFrame) →
      Leads (frames_text K (expr_text e (after t rest))) (next_text t (close_standing kind (settled 0 e K)) rest)
  whole_reads kind h e K = then (settled_reads 0 e K _) (close_reads kind h (settled 0 e K).tree (settled 0 e K).frames)

  infix_reads : (op : Infix) → t.kind ≡ MarkKind (infix_mark op) → (e : ExprTree) (K : List ExprFrame) →
      Leads (frames_text K (expr_text e (after t rest))) (next_text t (infix_step op t.pos (settled (infix_level op) e K)) rest)
  infix_reads op h e K =
      let s = settled (infix_level op) e K in
      then (settled_reads (infix_level op) e K _) (frames_mono s.frames (expr_mono s.tree (taken t _ (h, refl))))

  done_reads : (m : Mark) → t.kind ≡ MarkKind m → (e : ExprTree) (K : List ExprFrame) →
      Leads (frames_text K (expr_text e (after t rest))) (next_text t (done_mark m t.pos e K) rest)
  done_reads Question h e K =
      let s = settled 1 e K in
      then (settled_reads 1 e K _) (frames_mono s.frames (expr_mono s.tree (taken t _ (h, refl))))
  done_reads Star h e K = infix_reads (Op Mul) h e K
  done_reads Slash h e K = infix_reads (Op Div) h e K
  done_reads Percent h e K = infix_reads (Op Rem) h e K
  done_reads Plus h e K = infix_reads (Op Add) h e K
  done_reads Minus h e K = infix_reads (Op Sub) h e K
  done_reads ShiftLeft h e K = infix_reads (Op Shl) h e K
  done_reads ShiftRight h e K = infix_reads (Op Shr) h e K
  done_reads Less h e K = infix_reads (Op Lt) h e K
  done_reads Greater h e K = infix_reads (Op Gt) h e K
  done_reads LessEqual h e K = infix_reads (Op Le) h e K
  done_reads GreaterEqual h e K = infix_reads (Op Ge) h e K
  done_reads EqualEqual h e K = infix_reads (Op Eq) h e K
  done_reads BangEqual h e K = infix_reads (Op Ne) h e K
  done_reads Ampersand h e K = infix_reads (Op And) h e K
  done_reads Caret h e K = infix_reads (Op Xor) h e K
  done_reads Bar h e K = infix_reads (Op Or) h e K
  done_reads AndAnd h e K = infix_reads Both h e K
  done_reads BarBar h e K = infix_reads Either h e K
  done_reads m h e K = whole_reads (MarkKind m) h e K

  behind_reads : (kind : TokenKind) → t.kind ≡ kind → (e : ExprTree) (K : List ExprFrame) →
      Leads (frames_text K (expr_text e (after t rest))) (next_text t (done_step kind t.pos e K) rest)
  behind_reads (MarkKind m) h e K = done_reads m h e K
  behind_reads (NumberKind value unsigned) h e K = whole_reads (NumberKind value unsigned) h e K
  behind_reads (NameKind text) h e K = whole_reads (NameKind text) h e K
  behind_reads (WordKind w) h e K = whole_reads (WordKind w) h e K
  behind_reads End h e K = whole_reads End h e K

  named_reads : (kind : TokenKind) → t.kind ≡ kind → (n : Ident) (K : List ExprFrame) →
      Leads (frames_text K (name n (after t rest))) (next_text t (named_step kind t.pos n K) rest)
  named_reads (MarkKind OpenBracket) h n K = frames_mono K (one_mono _ (taken t _ (h, refl)))
  named_reads (MarkKind OpenParen) h n K = frames_mono K (one_mono _ (taken t _ h))
  named_reads kind h n K = behind_reads kind h (NameTree n) K

  word_reads : (w : Word) → t.kind ≡ WordKind w → (ws : List Word) (o : Option Scalar) → scalar_made o ws w → (at : Pos) (K : List ExprFrame) →
      Leads (frames_text K (mark_at OpenParen at (words ws (after t rest)))) (next_text t (opened_word o at K) rest)
  word_reads w h ws None made at K = any
  word_reads w h ws (Some s) made at K = frames_mono K (one_mono _ (word_taken t w h ws s made rest))

  opened_reads : (kind : TokenKind) → t.kind ≡ kind → (at : Pos) (K : List ExprFrame) →
      Leads (frames_text K (mark_at OpenParen at (after t rest))) (next_text t (opened_step kind t.pos at K) rest)
  opened_reads (WordKind w) h at K = word_reads w h [] (scalar_first w) (first_words w) at K
  opened_reads kind h at K = operand_reads kind h (ParenFrame at ∷ K)

  casting_reads : (kind : TokenKind) → t.kind ≡ kind → (s : Scalar) (at : Pos) (K : List ExprFrame) →
      Leads (frames_text K (mark_at OpenParen at (words (scalar_words s) (after t rest)))) (next_text t (casting_step kind s at K) rest)
  casting_reads (WordKind w) h s at K = word_reads w h (scalar_words s) (scalar_more s w) (more_words s w) at K
  casting_reads (MarkKind CloseParen) h s at K =
      frames_mono K (one_mono _ (then (words_mono (scalar_words s) (taken t _ h)) (record { by = λ ts x. (s, refl, x) })))
  casting_reads _ h s at K = any

  calling_reads : (kind : TokenKind) → t.kind ≡ kind → (n : Ident) (K : List ExprFrame) →
      Leads (frames_text K (name n (mark OpenParen (after t rest)))) (next_text t (calling_step kind t.pos n K) rest)
  calling_reads (MarkKind CloseParen) h n K = frames_mono K (one_mono _ (one_mono _ (taken t _ h)))
  calling_reads kind h n K = operand_reads kind h (ArgsFrame n NoArgs ∷ K)

  -- one token of an expression
  pub expr_reads : (focus : ExprFocus) (K : List ExprFrame) →
      Leads (read_text focus K (after t rest)) (next_text t (expr_step t.kind t.pos focus K) rest)
  expr_reads Operand K = operand_reads t.kind refl K
  expr_reads (Named n) K = named_reads t.kind refl n K
  expr_reads (Opened at) K = opened_reads t.kind refl at K
  expr_reads (Casting s at) K = casting_reads t.kind refl s at K
  expr_reads (Calling n) K = calling_reads t.kind refl n K
  expr_reads (Done e) K = behind_reads t.kind refl e K
