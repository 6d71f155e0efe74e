-- Each text of an assignment is read.
use Rattle.std.proofs.Common.{◌≡◌, inl, inr, refl, sym, subst, ap, ◌∙◌, Bool, true, false, List, [], ◌∷◌, Option, Some, None, true≢false}
use Rattle.vx_base.specs.declared.types.Pos.{Pos}
use Rattle.ocl_ast.specs.declared.exprs.BinOp.TheVariants.{Mul, Div, Rem, Add, Sub, Shl, Shr, Lt, Gt, Le, Ge, Eq, Ne, And, Xor, Or}
use Rattle.ocl_ast.specs.declared.exprs.Ident.{Ident}
use Rattle.ocl_ast.specs.declared.stmts.AssignOp.{AssignOp}
use Rattle.ocl_ast.specs.declared.stmts.AssignOp.TheVariants.{Set, With, Up, Down}
use Rattle.ocl_ast.specs.Trees.{ExprTree, TargetTree, NameTarget, IndexTarget, AssignTree}
use Rattle.ocl_tokens.specs.declared.marks.Mark.{Mark}
use Rattle.ocl_tokens.specs.declared.marks.Mark.TheVariants.{OpenParen, OpenBracket, CloseBracket, Equal, PlusPlus, MinusMinus, PlusEqual, MinusEqual, StarEqual, SlashEqual, PercentEqual, ShiftLeftEqual, ShiftRightEqual, AmpersandEqual, CaretEqual, BarEqual}
use Rattle.ocl_tokens.specs.declared.tokens.Token.{Token}
use Rattle.ocl_tokens.specs.declared.tokens.TokenKind.{TokenKind}
use Rattle.ocl_tokens.specs.declared.tokens.TokenKind.TheVariants.{Name as NameKind, Mark as MarkKind}
use Rattle.ocl_parser.specs.Spellings.{Rest, no_text, one, mark_at}
use Rattle.ocl_parser.specs.Exprs.{expr_text, IsGroupedIfAny}
use Rattle.ocl_parser.specs.Stmts.{target_text, count_text, assign_text, IsGroupedTarget}
use Rattle.ocl_parser.specs.StmtSteps.{GoesOn, assign_start, assign_named, target_step, counted_named, assign_end}
use Rattle.ocl_parser.specs.declared.states.ExprFocus.TheVariants.{Operand}
use Rattle.ocl_parser.specs.declared.states.Part.{Part}
use Rattle.ocl_parser.specs.declared.states.Purpose.TheVariants.{IndexOf, CountedIndexOf, ValueOf}
use Rattle.ocl_parser.specs.declared.states.StmtFocus.{StmtFocus}
use Rattle.ocl_parser.specs.declared.states.StmtFocus.TheVariants.{Reading, AssignNext, AssignNamed, CountedBefore, CountedNamed, Targeted, Assigned}
use Rattle.ocl_parser.specs.declared.states.StmtFrame.{StmtFrame}
use Rattle.ocl_parser.proofs.Texts.{Leads}
use Rattle.ocl_parser.proofs.ExprComplete.{Follows, is_behind}
use Rattle.ocl_parser.proofs.StmtTakes.{TakesStmts, is_closer, Closers, stmt_at, expr_then, expr_mark}

-- Tokens that may begin an assignment.
abbrev pub is_assign_first : TokenKind → Bool
is_assign_first (NameKind text) = true
is_assign_first (MarkKind PlusPlus) = true
is_assign_first (MarkKind MinusMinus) = true
is_assign_first _ = false

abbrev pub AssignStarts : Rest
AssignStarts [] = ⊥
AssignStarts (t ∷ ts) = is_assign_first t.kind ≡ true

one_first : (p : Token → Type 0) (k : Rest) → ((t : Token) → p t → is_assign_first t.kind ≡ true) → (ts : List Token) → one p k ts → AssignStarts ts
one_first p k f [] h = h
one_first p k f (t ∷ ts) h = f t h.0

target_starts : (target : TargetTree) (k : Rest) (ts : List Token) → target_text target k ts → AssignStarts ts
target_starts (NameTarget n) k ts h = one_first _ k (λ t x. ap is_assign_first x.0) ts h
target_starts (IndexTarget n e p) k ts h = one_first _ _ (λ t x. ap is_assign_first x.0) ts h

count_starts : (m : Mark) → is_assign_first (MarkKind m) ≡ true → (target : TargetTree) (pos : Pos) (k : Rest) (ts : List Token) → count_text m target pos k ts → AssignStarts ts
count_starts m e target pos k ts (inl h) = target_starts target _ ts h
count_starts m e target pos k ts (inr h) = one_first _ _ (λ t x. ap is_assign_first x.0 ∙ e) ts h

pub assign_starts : (target : TargetTree) (op : AssignOp) (value : Option ExprTree) (pos : Pos) (k : Rest) (ts : List Token) →
    assign_text target op value pos k ts → AssignStarts ts
assign_starts target Set (Some value) pos k ts h = target_starts target _ ts h
assign_starts target (With op) (Some value) pos k ts h = target_starts target _ ts h
assign_starts target Up None pos k ts h = count_starts PlusPlus refl target pos k ts h
assign_starts target Down None pos k ts h = count_starts MinusMinus refl target pos k ts h
assign_starts target Set None pos k ts h = absurd h
assign_starts target (With op) None pos k ts h = absurd h
assign_starts target Up (Some value) pos k ts h = absurd h
assign_starts target Down (Some value) pos k ts h = absurd h

named_target : (m : Mark) → is_behind m ≡ true → (pos : Pos) (part : Part) (n : Ident) (K : List StmtFrame) →
    assign_named (MarkKind m) pos part n K ≡ target_step (MarkKind m) pos part (NameTarget n) K
named_target OpenParen h pos part n K = absurd (true≢false (sym h))
named_target OpenBracket h pos part n K = absurd (true≢false (sym h))
named_target _ h pos part n K = refl

counted_end : (m : Mark) → is_closer m ≡ true → (pos : Pos) (part : Part) (op : AssignOp) (at : Pos) (n : Ident) (K : List StmtFrame) →
    counted_named (MarkKind m) pos part op at n K ≡ assign_end (MarkKind m) part (AssignTree (NameTarget n) op None at) K
counted_end OpenBracket h pos part op at n K = absurd (true≢false (sym h))
counted_end _ h pos part op at n K = refl

module _ (accepts : StmtFocus → List StmtFrame → Rest) (T : TakesStmts accepts) where
  named_in : (part : Part) (n : Ident) (K : List StmtFrame) (ts : List Token) → Follows ts → accepts (Targeted part (NameTarget n)) K ts → accepts (AssignNamed part n) K ts
  named_in part n K [] b a = absurd b
  named_in part n K (t ∷ ts) b a =
      T.alike t ts (AssignNamed part n) K (Targeted part (NameTarget n)) K
      (subst (λ z. assign_named z t.pos part n K ≡ target_step z t.pos part (NameTarget n) K) (sym b.kind) (named_target b.mark b.fits t.pos part n K)) a

  target_complete : (part : Part) (target : TargetTree) → IsGroupedTarget target → (K : List StmtFrame) (k : Rest) → Leads k Follows →
      Leads k (accepts (Targeted part target) K) → Leads (target_text target k) (accepts (AssignNext part) K)
  target_complete part (NameTarget n) g K k b f =
      stmt_at accepts T (NameKind n.text) n.pos (AssignNext part) K (AssignNamed part n) K refl
      (record { by = λ ts h. named_in part n K ts (b.by ts h) (f.by ts h) })
  target_complete part (IndexTarget n e p) g K k b f =
      stmt_at accepts T (NameKind n.text) n.pos (AssignNext part) K (AssignNamed part n) K refl
      (stmt_at accepts T (MarkKind OpenBracket) p (AssignNamed part n) K (Reading (IndexOf part n p) Operand []) K refl
      (expr_mark accepts T CloseBracket refl (IndexOf part n p) K e g (Targeted part (IndexTarget n e p)) K refl f))

  counted_in : (part : Part) (op : AssignOp) (at : Pos) (n : Ident) (K : List StmtFrame) (ts : List Token) → Closers ts →
      accepts (Assigned part (AssignTree (NameTarget n) op None at)) K ts → accepts (CountedNamed part op at n) K ts
  counted_in part op at n K [] b a = absurd b
  counted_in part op at n K (t ∷ ts) b a =
      T.alike t ts (CountedNamed part op at n) K (Assigned part (AssignTree (NameTarget n) op None at)) K
      (subst (λ z. counted_named z t.pos part op at n K ≡ assign_end z part (AssignTree (NameTarget n) op None at) K) (sym b.kind)
      (counted_end b.mark b.closes t.pos part op at n K)) a

  before_complete : (part : Part) (op : AssignOp) (at : Pos) (target : TargetTree) → IsGroupedTarget target → (K : List StmtFrame) (k : Rest) → Leads k Closers →
      Leads k (accepts (Assigned part (AssignTree target op None at)) K) → Leads (target_text target k) (accepts (CountedBefore part op at) K)
  before_complete part op at (NameTarget n) g K k b f =
      stmt_at accepts T (NameKind n.text) n.pos (CountedBefore part op at) K (CountedNamed part op at n) K refl
      (record { by = λ ts h. counted_in part op at n K ts (b.by ts h) (f.by ts h) })
  before_complete part op at (IndexTarget n e p) g K k b f =
      stmt_at accepts T (NameKind n.text) n.pos (CountedBefore part op at) K (CountedNamed part op at n) K refl
      (stmt_at accepts T (MarkKind OpenBracket) p (CountedNamed part op at n) K (Reading (CountedIndexOf part op at n p) Operand []) K refl
      (expr_mark accepts T CloseBracket refl (CountedIndexOf part op at n p) K e g (Assigned part (AssignTree (IndexTarget n e p) op None at)) K refl f))

  follows_at : (m : Mark) (pos : Pos) → is_behind m ≡ true → (k : Rest) (ts : List Token) → mark_at m pos k ts → Follows ts
  follows_at m pos h k [] b = b
  follows_at m pos h k (t ∷ ts) b = record { mark = m; kind = b.0.0; fits = h }

  set_complete : (part : Part) (target : TargetTree) → IsGroupedTarget target → (op : AssignOp) (m : Mark) → is_behind m ≡ true → (pos : Pos) (K : List StmtFrame) →
      target_step (MarkKind m) pos part target K ≡ GoesOn (Reading (ValueOf part target op pos) Operand []) K →
      (value : ExprTree) → IsGroupedIfAny (Some value) → (k : Rest) → Leads k Closers → Leads k (accepts (Assigned part (AssignTree target op (Some value) pos)) K) →
      Leads (target_text target (mark_at m pos (expr_text value k))) (accepts (AssignNext part) K)
  set_complete part target g op m h pos K e value gv k c f =
      target_complete part target g K _ (record { by = follows_at m pos h (expr_text value k) })
      (stmt_at accepts T (MarkKind m) pos (Targeted part target) K (Reading (ValueOf part target op pos) Operand []) K e
      (expr_then accepts T (ValueOf part target op pos) K value gv (Assigned part (AssignTree target op (Some value) pos)) K (λ m' h' p. refl) c f))

  count_in : (part : Part) (target : TargetTree) → IsGroupedTarget target → (op : AssignOp) (m : Mark) → is_behind m ≡ true → (pos : Pos) (K : List StmtFrame) →
      target_step (MarkKind m) pos part target K ≡ GoesOn (Assigned part (AssignTree target op None pos)) K →
      assign_start (MarkKind m) pos part K ≡ GoesOn (CountedBefore part op pos) K →
      (k : Rest) → Leads k Closers → Leads k (accepts (Assigned part (AssignTree target op None pos)) K) →
      (ts : List Token) → count_text m target pos k ts → accepts (AssignNext part) K ts
  count_in part target g op m h pos K e e' k c f ts (inl x) =
      (target_complete part target g K (mark_at m pos k) (record { by = follows_at m pos h k })
      (stmt_at accepts T (MarkKind m) pos (Targeted part target) K (Assigned part (AssignTree target op None pos)) K e f)).by ts x
  count_in part target g op m h pos K e e' k c f ts (inr x) =
      (stmt_at accepts T (MarkKind m) pos (AssignNext part) K (CountedBefore part op pos) K e' (before_complete part op pos target g K k c f)).by ts x

  never_set : (part : Part) (target : TargetTree) → IsGroupedTarget target → (K : List StmtFrame) → Leads (target_text target no_text) (accepts (AssignNext part) K)
  never_set part target g K = target_complete part target g K no_text (record { by = λ ts h. absurd h }) (record { by = λ ts h. absurd h })

  -- an assignment up to the closer behind it
  pub assign_complete : (part : Part) (target : TargetTree) (op : AssignOp) (value : Option ExprTree) (pos : Pos) → IsGroupedTarget target → IsGroupedIfAny value →
      (K : List StmtFrame) (k : Rest) → Leads k Closers → Leads k (accepts (Assigned part (AssignTree target op value pos)) K) →
      Leads (assign_text target op value pos k) (accepts (AssignNext part) K)
  assign_complete part target Set (Some value) pos g gv K k c f = set_complete part target g Set Equal refl pos K refl value gv k c f
  assign_complete part target (With Mul) (Some value) pos g gv K k c f = set_complete part target g (With Mul) StarEqual refl pos K refl value gv k c f
  assign_complete part target (With Div) (Some value) pos g gv K k c f = set_complete part target g (With Div) SlashEqual refl pos K refl value gv k c f
  assign_complete part target (With Rem) (Some value) pos g gv K k c f = set_complete part target g (With Rem) PercentEqual refl pos K refl value gv k c f
  assign_complete part target (With Add) (Some value) pos g gv K k c f = set_complete part target g (With Add) PlusEqual refl pos K refl value gv k c f
  assign_complete part target (With Sub) (Some value) pos g gv K k c f = set_complete part target g (With Sub) MinusEqual refl pos K refl value gv k c f
  assign_complete part target (With Shl) (Some value) pos g gv K k c f = set_complete part target g (With Shl) ShiftLeftEqual refl pos K refl value gv k c f
  assign_complete part target (With Shr) (Some value) pos g gv K k c f = set_complete part target g (With Shr) ShiftRightEqual refl pos K refl value gv k c f
  assign_complete part target (With And) (Some value) pos g gv K k c f = set_complete part target g (With And) AmpersandEqual refl pos K refl value gv k c f
  assign_complete part target (With Xor) (Some value) pos g gv K k c f = set_complete part target g (With Xor) CaretEqual refl pos K refl value gv k c f
  assign_complete part target (With Or) (Some value) pos g gv K k c f = set_complete part target g (With Or) BarEqual refl pos K refl value gv k c f
  assign_complete part target (With Lt) (Some value) pos g gv K k c f = never_set part target g K
  assign_complete part target (With Gt) (Some value) pos g gv K k c f = never_set part target g K
  assign_complete part target (With Le) (Some value) pos g gv K k c f = never_set part target g K
  assign_complete part target (With Ge) (Some value) pos g gv K k c f = never_set part target g K
  assign_complete part target (With Eq) (Some value) pos g gv K k c f = never_set part target g K
  assign_complete part target (With Ne) (Some value) pos g gv K k c f = never_set part target g K
  assign_complete part target Up None pos g gv K k c f = record { by = count_in part target g Up PlusPlus refl pos K refl refl k c f }
  assign_complete part target Down None pos g gv K k c f = record { by = count_in part target g Down MinusMinus refl pos K refl refl k c f }
  assign_complete part target Set None pos g gv K k c f = record { by = λ ts h. absurd h }
  assign_complete part target (With op) None pos g gv K k c f = record { by = λ ts h. absurd h }
  assign_complete part target Up (Some value) pos g gv K k c f = record { by = λ ts h. absurd h }
  assign_complete part target Down (Some value) pos g gv K k c f = record { by = λ ts h. absurd h }
