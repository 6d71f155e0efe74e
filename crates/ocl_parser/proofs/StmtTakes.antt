-- What is asked of a reader of statements, and how it reads single tokens and the expressions of a statement.
use Rattle.std.proofs.Common.{◌≡◌, refl, sym, subst, ap, ◌∙◌, arith, Bool, true, false, ℕ, List, [], ◌∷◌, true≢false}
use Rattle.vx_base.specs.declared.types.Pos.{Pos}
use Rattle.ocl_ast.specs.Trees.{ExprTree}
use Rattle.ocl_tokens.specs.declared.marks.Mark.{Mark}
use Rattle.ocl_tokens.specs.declared.marks.Mark.TheVariants.{OpenParen, CloseParen, OpenBracket, CloseBracket, Semicolon, Comma, Tilde, Bang, Plus, Minus}
use Rattle.ocl_tokens.specs.declared.tokens.Token.{Token}
use Rattle.ocl_tokens.specs.declared.tokens.TokenKind.{TokenKind}
use Rattle.ocl_tokens.specs.declared.tokens.TokenKind.TheVariants.{Name as NameKind, Word as WordKind, Number as NumberKind, Mark as MarkKind, End}
use Rattle.ocl_parser.specs.Spellings.{Rest, one, mark}
use Rattle.ocl_parser.specs.Exprs.{expr_text, rank, IsGrouped}
use Rattle.ocl_parser.specs.ExprSteps.{settled, operand_step, operand_mark, done_step, close_standing}
use Rattle.ocl_parser.specs.StmtSteps.{GoesOn, stmt_step, reading_step, begin_step, end_step}
use Rattle.ocl_parser.specs.declared.states.ExprFocus.{ExprFocus}
use Rattle.ocl_parser.specs.declared.states.ExprFocus.TheVariants.{Operand, Done}
use Rattle.ocl_parser.specs.declared.states.ExprFrame.{ExprFrame}
use Rattle.ocl_parser.specs.declared.states.Purpose.{Purpose}
use Rattle.ocl_parser.specs.declared.states.StmtFocus.{StmtFocus}
use Rattle.ocl_parser.specs.declared.states.StmtFocus.TheVariants.{Reading}
use Rattle.ocl_parser.specs.declared.states.StmtFrame.{StmtFrame}
use Rattle.ocl_parser.proofs.Texts.{Leads}
use Rattle.ocl_parser.proofs.ExprComplete.{Follows, is_behind, is_first, Takes, Waits, Alike, Starts, starts, complete}

-- What it takes depends on what a token does alone.
pub record TakesStmts (accepts : StmtFocus → List StmtFrame → Rest) : Type 0 where
  pub goes : (t : Token) (ts : List Token) (focus : StmtFocus) (K : List StmtFrame) (focus' : StmtFocus) (K' : List StmtFrame) →
      stmt_step t.kind t.pos focus K ≡ GoesOn focus' K' → accepts focus' K' ts → accepts focus K (t ∷ ts)
  pub alike : (t : Token) (ts : List Token) (focus : StmtFocus) (K : List StmtFrame) (focus' : StmtFocus) (K' : List StmtFrame) →
      stmt_step t.kind t.pos focus K ≡ stmt_step t.kind t.pos focus' K' → accepts focus' K' (t ∷ ts) → accepts focus K (t ∷ ts)

-- punctuators behind a whole expression of a statement
abbrev pub is_closer : Mark → Bool
is_closer CloseParen = true
is_closer CloseBracket = true
is_closer Semicolon = true
is_closer Comma = true
is_closer _ = false

closer_behind : (m : Mark) → is_closer m ≡ true → is_behind m ≡ true
closer_behind OpenParen h = h
closer_behind OpenBracket h = h
closer_behind _ h = refl

closer_done : (m : Mark) → is_closer m ≡ true → (pos : Pos) (x : ExprTree) (J : List ExprFrame) →
    done_step (MarkKind m) pos x J ≡ close_standing (MarkKind m) (settled 0 x J)
closer_done CloseParen h pos x J = refl
closer_done CloseBracket h pos x J = refl
closer_done Semicolon h pos x J = refl
closer_done Comma h pos x J = refl
closer_done _ h pos x J = absurd (true≢false (sym h))

mark_begins : (m : Mark) (pos : Pos) (purpose : Purpose) (K : List StmtFrame) →
    begin_step (MarkKind m) pos purpose K ≡ reading_step (MarkKind m) purpose (operand_mark m pos []) K
mark_begins OpenParen pos purpose K = refl
mark_begins Plus pos purpose K = refl
mark_begins Minus pos purpose K = refl
mark_begins Bang pos purpose K = refl
mark_begins Tilde pos purpose K = refl
mark_begins _ pos purpose K = refl

-- the first token of an expression does what it does in the expression
pub begins : (kind : TokenKind) (pos : Pos) (purpose : Purpose) (K : List StmtFrame) →
    begin_step kind pos purpose K ≡ reading_step kind purpose (operand_step kind pos []) K
begins (NumberKind value unsigned) pos purpose K = refl
begins (NameKind text) pos purpose K = refl
begins (MarkKind m) pos purpose K = mark_begins m pos purpose K
begins (WordKind w) pos purpose K = refl
begins End pos purpose K = refl

-- some closer
pub record IsCloser (t : Token) : Type 0 where
  pub mark : Mark
  pub kind : t.kind ≡ MarkKind mark
  pub closes : is_closer mark ≡ true

abbrev pub Closers : Rest
Closers [] = ⊥
Closers (t ∷ ts) = IsCloser t

closers_follow : (ts : List Token) → Closers ts → Follows ts
closers_follow [] h = h
closers_follow (t ∷ ts) h = record { mark = h.mark; kind = h.kind; fits = closer_behind h.mark h.closes }

closer_in : (m : Mark) → is_closer m ≡ true → (k : Rest) (ts : List Token) → mark m k ts → Closers ts
closer_in m h k [] b = b
closer_in m h k (t ∷ ts) b = record { mark = m; kind = b.0; closes = h }

pub closer_one : (m : Mark) → is_closer m ≡ true → {k : Rest} → Leads (mark m k) Closers
closer_one m h {k = k} = record { by = closer_in m h k }

no_frames : (r : ℕ) → Waits r []
no_frames r = record { still = λ m a b c x. refl }

module _ (accepts : StmtFocus → List StmtFrame → Rest) (T : TakesStmts accepts) where
  -- an expression of a statement
  abbrev pub inside : Purpose → List StmtFrame → ExprFocus → List ExprFrame → Rest
  inside purpose K focus inner = accepts (Reading purpose focus inner) K

  pub reads_inside : (purpose : Purpose) (K : List StmtFrame) → Takes (inside purpose K)
  reads_inside purpose K = record {
    goes = λ t ts focus J focus' J' e a. T.goes t ts (Reading purpose focus J) K (Reading purpose focus' J') K (ap (λ n. reading_step t.kind purpose n K) e) a;
    alike = λ t ts focus J focus' J' e a. T.alike t ts (Reading purpose focus J) K (Reading purpose focus' J') K (ap (λ n. reading_step t.kind purpose n K) e) a;
  }

  -- a token of a kind, at a place or anywhere
  at_in : (kind : TokenKind) (pos : Pos) (focus : StmtFocus) (K : List StmtFrame) (focus' : StmtFocus) (K' : List StmtFrame) →
      stmt_step kind pos focus K ≡ GoesOn focus' K' → (k : Rest) → Leads k (accepts focus' K') →
      (ts : List Token) → one (λ t. (t.kind ≡ kind) × (t.pos ≡ pos)) k ts → accepts focus K ts
  at_in kind pos focus K focus' K' e k f [] h = absurd h
  at_in kind pos focus K focus' K' e k f (t ∷ ts) h =
      T.goes t ts focus K focus' K' (ap (λ z. stmt_step z t.pos focus K) h.0.0 ∙ (ap (λ z. stmt_step kind z focus K) h.0.1 ∙ e)) (f.by ts h.1)

  pub stmt_at : (kind : TokenKind) (pos : Pos) (focus : StmtFocus) (K : List StmtFrame) (focus' : StmtFocus) (K' : List StmtFrame) →
      stmt_step kind pos focus K ≡ GoesOn focus' K' → {k : Rest} → Leads k (accepts focus' K') →
      Leads (one (λ t. (t.kind ≡ kind) × (t.pos ≡ pos)) k) (accepts focus K)
  stmt_at kind pos focus K focus' K' e f = record { by = at_in kind pos focus K focus' K' e _ f }

  one_in : (kind : TokenKind) (focus : StmtFocus) (K : List StmtFrame) (focus' : StmtFocus) (K' : List StmtFrame) →
      ((pos : Pos) → stmt_step kind pos focus K ≡ GoesOn focus' K') → (k : Rest) → Leads k (accepts focus' K') →
      (ts : List Token) → one (λ t. t.kind ≡ kind) k ts → accepts focus K ts
  one_in kind focus K focus' K' e k f [] h = absurd h
  one_in kind focus K focus' K' e k f (t ∷ ts) h =
      T.goes t ts focus K focus' K' (ap (λ z. stmt_step z t.pos focus K) h.0 ∙ e t.pos) (f.by ts h.1)

  pub stmt_one : (kind : TokenKind) (focus : StmtFocus) (K : List StmtFrame) (focus' : StmtFocus) (K' : List StmtFrame) →
      ((pos : Pos) → stmt_step kind pos focus K ≡ GoesOn focus' K') → {k : Rest} → Leads k (accepts focus' K') →
      Leads (one (λ t. t.kind ≡ kind) k) (accepts focus K)
  stmt_one kind focus K focus' K' e f = record { by = one_in kind focus K focus' K' e _ f }

  -- What a closer does behind whatever is as a whole expression.
  behind_whole : (m : Mark) → is_closer m ≡ true → (pos : Pos) (purpose : Purpose) (K : List StmtFrame) (e x : ExprTree) (J : List ExprFrame) →
      Alike (rank e) x J e [] → reading_step (MarkKind m) purpose (done_step (MarkKind m) pos x J) K ≡ end_step (MarkKind m) purpose e K
  behind_whole m h pos purpose K e x J a =
      ap (λ n. reading_step (MarkKind m) purpose n K)
      (closer_done m h pos x J ∙ ap (close_standing (MarkKind m)) (a.settles 0 (omega arith)))

  then_in : (purpose : Purpose) (K : List StmtFrame) (e x : ExprTree) (J : List ExprFrame) → Alike (rank e) x J e [] → (focus' : StmtFocus) (K' : List StmtFrame) →
      ((m : Mark) → is_closer m ≡ true → (pos : Pos) → end_step (MarkKind m) purpose e K ≡ stmt_step (MarkKind m) pos focus' K') →
      (ts : List Token) → Closers ts → accepts focus' K' ts → accepts (Reading purpose (Done x) J) K ts
  then_in purpose K e x J a focus' K' s [] c h = absurd c
  then_in purpose K e x J a focus' K' s (t ∷ ts) c h =
      T.alike t ts (Reading purpose (Done x) J) K focus' K'
      (subst (λ z. reading_step z purpose (done_step z t.pos x J) K ≡ stmt_step z t.pos focus' K') (sym c.kind)
      (behind_whole c.mark c.closes t.pos purpose K e x J a ∙ s c.mark c.closes t.pos)) h

  -- an expression, and behind it what another focus does
  pub expr_then : (purpose : Purpose) (K : List StmtFrame) (e : ExprTree) → IsGrouped e → (focus' : StmtFocus) (K' : List StmtFrame) →
      ((m : Mark) → is_closer m ≡ true → (pos : Pos) → end_step (MarkKind m) purpose e K ≡ stmt_step (MarkKind m) pos focus' K') →
      {k : Rest} → Leads k Closers → Leads k (accepts focus' K') → Leads (expr_text e k) (accepts (Reading purpose Operand []) K)
  expr_then purpose K e g focus' K' s {k = k} c f =
      complete (inside purpose K) (reads_inside purpose K) e g [] (no_frames _) k (record {
        follows = record { by = λ ts h. closers_follow ts (c.by ts h) };
        on = λ x J a. record { by = λ ts h. then_in purpose K e x J a focus' K' s ts (c.by ts h) (f.by ts h) };
      })

  mark_in : (m : Mark) → is_closer m ≡ true → (purpose : Purpose) (K : List StmtFrame) (e x : ExprTree) (J : List ExprFrame) → Alike (rank e) x J e [] →
      (focus' : StmtFocus) (K' : List StmtFrame) → end_step (MarkKind m) purpose e K ≡ GoesOn focus' K' → (k : Rest) → Leads k (accepts focus' K') →
      (ts : List Token) → mark m k ts → accepts (Reading purpose (Done x) J) K ts
  mark_in m h purpose K e x J a focus' K' s k f [] b = absurd b
  mark_in m h purpose K e x J a focus' K' s k f (t ∷ ts) b =
      T.goes t ts (Reading purpose (Done x) J) K focus' K'
      (subst (λ z. reading_step z purpose (done_step z t.pos x J) K ≡ GoesOn focus' K') (sym b.0) (behind_whole m h t.pos purpose K e x J a ∙ s))
      (f.by ts b.1)

  -- an expression and the closer behind it
  pub expr_mark : (m : Mark) → is_closer m ≡ true → (purpose : Purpose) (K : List StmtFrame) (e : ExprTree) → IsGrouped e →
      (focus' : StmtFocus) (K' : List StmtFrame) → end_step (MarkKind m) purpose e K ≡ GoesOn focus' K' → {k : Rest} → Leads k (accepts focus' K') →
      Leads (expr_text e (mark m k)) (accepts (Reading purpose Operand []) K)
  expr_mark m h purpose K e g focus' K' s {k = k} f =
      complete (inside purpose K) (reads_inside purpose K) e g [] (no_frames _) (mark m k) (record {
        follows = record { by = λ ts b. closers_follow ts (closer_in m h k ts b) };
        on = λ x J a. record { by = mark_in m h purpose K e x J a focus' K' s k f };
      })

  begin_in : (purpose : Purpose) (focus : StmtFocus) (K : List StmtFrame) → ((kind : TokenKind) → is_first kind ≡ true → (pos : Pos) → stmt_step kind pos focus K ≡ begin_step kind pos purpose K) →
      (ts : List Token) → Starts ts → accepts (Reading purpose Operand []) K ts → accepts focus K ts
  begin_in purpose focus K s [] b h = absurd b
  begin_in purpose focus K s (t ∷ ts) b h =
      T.alike t ts focus K (Reading purpose Operand []) K (s t.kind b t.pos ∙ begins t.kind t.pos purpose K) h

  -- an expression where another token could stand in place of its first
  pub expr_begin : (purpose : Purpose) (focus : StmtFocus) (K : List StmtFrame) → ((kind : TokenKind) → is_first kind ≡ true → (pos : Pos) → stmt_step kind pos focus K ≡ begin_step kind pos purpose K) →
      (e : ExprTree) (k : Rest) → Leads (expr_text e k) (accepts (Reading purpose Operand []) K) → Leads (expr_text e k) (accepts focus K)
  expr_begin purpose focus K s e k f = record { by = λ ts h. begin_in purpose focus K s ts (starts e k ts h) (f.by ts h) }

  -- a closer, what it does behind a whole expression, and what is accepted then
  pub record EndsWith (purpose : Purpose) (K : List StmtFrame) (e : ExprTree) (t : Token) (ts : List Token) : Type 0 where
    pub mark : Mark
    pub kind : t.kind ≡ MarkKind mark
    pub closes : is_closer mark ≡ true
    pub focus : StmtFocus
    pub frames : List StmtFrame
    pub steps : end_step (MarkKind mark) purpose e K ≡ GoesOn focus frames
    pub accepted : accepts focus frames ts

  abbrev pub Ending_in : Purpose → List StmtFrame → ExprTree → Rest
  Ending_in purpose K e [] = ⊥
  Ending_in purpose K e (t ∷ ts) = EndsWith purpose K e t ts

  ends_follow : (purpose : Purpose) (K : List StmtFrame) (e : ExprTree) (ts : List Token) → Ending_in purpose K e ts → Follows ts
  ends_follow purpose K e [] h = h
  ends_follow purpose K e (t ∷ ts) h = record { mark = h.mark; kind = h.kind; fits = closer_behind h.mark h.closes }

  ends_in : (purpose : Purpose) (K : List StmtFrame) (e x : ExprTree) (J : List ExprFrame) → Alike (rank e) x J e [] →
      (ts : List Token) → Ending_in purpose K e ts → accepts (Reading purpose (Done x) J) K ts
  ends_in purpose K e x J a [] b = absurd b
  ends_in purpose K e x J a (t ∷ ts) b =
      T.goes t ts (Reading purpose (Done x) J) K b.focus b.frames
      (subst (λ z. reading_step z purpose (done_step z t.pos x J) K ≡ GoesOn b.focus b.frames) (sym b.kind)
      (behind_whole b.mark b.closes t.pos purpose K e x J a ∙ b.steps))
      b.accepted

  pub expr_ends : (purpose : Purpose) (K : List StmtFrame) (e : ExprTree) → IsGrouped e → (k : Rest) → Leads k (Ending_in purpose K e) →
      Leads (expr_text e k) (accepts (Reading purpose Operand []) K)
  expr_ends purpose K e g k f =
      complete (inside purpose K) (reads_inside purpose K) e g [] (no_frames _) k (record {
        follows = record { by = λ ts h. ends_follow purpose K e ts (f.by ts h) };
        on = λ x J a. record { by = λ ts h. ends_in purpose K e x J a ts (f.by ts h) };
      })
