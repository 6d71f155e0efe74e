-- Each text of an expression is read, and leaves what the expression itself would leave.
use Rattle.std.proofs.Common.{◌≡◌, ◌≤◌, ◌<◌, refl, sym, subst, ap, ◌∙◌, arith, Bool, true, false, cond, ℕ, nat_lt, nat_eq, not, List, [], ◌∷◌, true≢false}
use Rattle.std.proofs.lemmas.Bool.Decides.{nat_tests}
use Rattle.vx_base.specs.declared.types.Pos.{Pos}
use Rattle.ocl_ast.specs.declared.exprs.BinOp.TheVariants.{Mul, Div, Rem, Add, Sub, Shl, Shr, Lt, Gt, Le, Ge, Eq, Ne, And, Xor, Or}
use Rattle.ocl_ast.specs.declared.exprs.Ident.{Ident}
use Rattle.ocl_ast.specs.declared.exprs.UnOp.{UnOp}
use Rattle.ocl_ast.specs.declared.exprs.UnOp.TheVariants.{Plus as UnaryPlus, Minus as UnaryMinus, Not, Flip}
use Rattle.ocl_ast.specs.Trees.{ExprTree, NumberTree, NameTree, UnaryTree, BinaryTree, BothTree, EitherTree, ChooseTree, CastTree, IndexTree, CallTree, ParenTree, ArgTrees, NoArgs, AndArg}
use Rattle.ocl_tokens.specs.declared.marks.Mark.{Mark}
use Rattle.ocl_tokens.specs.declared.marks.Mark.TheVariants.{OpenParen, CloseParen, OpenBracket, CloseBracket, Comma, Question, Colon, Tilde, Bang, Plus, Minus}
use Rattle.ocl_tokens.specs.declared.tokens.Token.{Token}
use Rattle.ocl_tokens.specs.declared.tokens.TokenKind.{TokenKind}
use Rattle.ocl_tokens.specs.declared.tokens.TokenKind.TheVariants.{Name as NameKind, Word as WordKind, Number as NumberKind, Mark as MarkKind}
use Rattle.ocl_parser.specs.Spellings.{Rest, one, mark, mark_at, unary_mark}
use Rattle.ocl_parser.specs.Exprs.{expr_text, args_text, more_args_text, rank, IsGrouped, AreGrouped}
use Rattle.ocl_parser.specs.ExprSteps.{Goes, standing, infix_level, infix_tree, ends, closed_by, settled, and_arg, operand_step, operand_mark, named_step, opened_step, opened_word, calling_step, done_step, infix_step, question_step, close_standing, close_step, expr_step}
use Rattle.ocl_parser.specs.declared.operators.Infix.{Infix}
use Rattle.ocl_parser.specs.declared.operators.Infix.TheVariants.{Both, Either, Op}
use Rattle.ocl_parser.specs.declared.states.ExprFocus.{ExprFocus}
use Rattle.ocl_parser.specs.declared.states.ExprFocus.TheVariants.{Operand, Named, Opened, Casting, Calling, Done}
use Rattle.ocl_parser.specs.declared.states.ExprFrame.{ExprFrame}
use Rattle.ocl_parser.specs.declared.states.ExprFrame.TheVariants.{Unary as UnaryFrame, Cast as CastFrame, Between as InfixFrame, Test as TestFrame, Other as OtherFrame, Index as IndexFrame, Call as ArgsFrame, Paren as ParenFrame}
use Rattle.ocl_parser.proofs.Texts.{Leads}
use Rattle.ocl_parser.proofs.ExprTexts.{infix_mark}
use Rattle.ocl_parser.proofs.ScalarComplete.{ReadsWords, scalar_complete}

-- Tokens that may stand behind an expression: a punctuator that does not go on with a name.
abbrev pub is_behind : Mark → Bool
is_behind OpenParen = false
is_behind OpenBracket = false
is_behind _ = true

pub record IsBehind (t : Token) : Type 0 where
  pub mark : Mark
  pub kind : t.kind ≡ MarkKind mark
  pub fits : is_behind mark ≡ true

abbrev pub Follows : Rest
Follows [] = ⊥
Follows (t ∷ ts) = IsBehind t

-- Tokens that may begin an expression.
abbrev pub is_first : TokenKind → Bool
is_first (NumberKind value unsigned) = true
is_first (NameKind text) = true
is_first (MarkKind OpenParen) = true
is_first (MarkKind Plus) = true
is_first (MarkKind Minus) = true
is_first (MarkKind Bang) = true
is_first (MarkKind Tilde) = true
is_first _ = false

-- Frames that an operator of these levels does not close.
pub record Waits (r : ℕ) (K : List ExprFrame) : Type 0 where
  pub still : (m : ℕ) → r ≤ m → 1 ≤ m → m ≤ 10 → (x : ExprTree) → settled m x K ≡ standing x K

-- For operators up to this level an expression in its frames is as another.
pub record Alike (n : ℕ) (x : ExprTree) (J : List ExprFrame) (e : ExprTree) (K : List ExprFrame) : Type 0 where
  pub settles : (m : ℕ) → m ≤ n → settled m x J ≡ settled m e K

alike_self : (n : ℕ) (e : ExprTree) (K : List ExprFrame) → Alike n e K e K
alike_self n e K = record { settles = λ m h. refl }

-- What is asked of the reader: what it takes depends on what a token does alone.
pub record Takes (accepts : ExprFocus → List ExprFrame → Rest) : Type 0 where
  pub goes : (t : Token) (ts : List Token) (focus : ExprFocus) (K : List ExprFrame) (focus' : ExprFocus) (K' : List ExprFrame) →
      expr_step t.kind t.pos focus K ≡ Goes focus' K' → accepts focus' K' ts → accepts focus K (t ∷ ts)
  pub alike : (t : Token) (ts : List Token) (focus : ExprFocus) (K : List ExprFrame) (focus' : ExprFocus) (K' : List ExprFrame) →
      expr_step t.kind t.pos focus K ≡ expr_step t.kind t.pos focus' K' → accepts focus' K' (t ∷ ts) → accepts focus K (t ∷ ts)

abbrev pub Starts : Rest
Starts [] = ⊥
Starts (t ∷ ts) = is_first t.kind ≡ true

one_starts : (p : Token → Type 0) (k : Rest) → ((t : Token) → p t → is_first t.kind ≡ true) → (ts : List Token) → one p k ts → Starts ts
one_starts p k f [] h = h
one_starts p k f (t ∷ ts) h = f t h.0

unary_first : (op : UnOp) → is_first (MarkKind (unary_mark op)) ≡ true
unary_first UnaryPlus = refl
unary_first UnaryMinus = refl
unary_first Not = refl
unary_first Flip = refl

-- an expression begins with a token that may begin one
pub starts : (e : ExprTree) (k : Rest) (ts : List Token) → expr_text e k ts → Starts ts
starts (NumberTree value unsigned pos) k ts h = one_starts _ k (λ t x. ap is_first x.0) ts h
starts (NameTree n) k ts h = one_starts _ k (λ t x. ap is_first x.0) ts h
starts (UnaryTree op part pos) k ts h = one_starts _ _ (λ t x. ap is_first x.0 ∙ unary_first op) ts h
starts (BinaryTree op left right pos) k ts h = starts left _ ts h
starts (BothTree left right pos) k ts h = starts left _ ts h
starts (EitherTree left right pos) k ts h = starts left _ ts h
starts (ChooseTree test one_ other pos) k ts h = starts test _ ts h
starts (CastTree elem part pos) k ts h = one_starts _ _ (λ t x. ap is_first x.0) ts h
starts (IndexTree array place pos) k ts h = one_starts _ _ (λ t x. ap is_first x.0) ts h
starts (CallTree n args) k ts h = one_starts _ _ (λ t x. ap is_first x.0) ts h
starts (ParenTree part pos) k ts h = one_starts _ _ (λ t x. ap is_first x.0) ts h

named_mark : (m : Mark) → is_behind m ≡ true → (pos : Pos) (n : Ident) (K : List ExprFrame) →
    named_step (MarkKind m) pos n K ≡ done_step (MarkKind m) pos (NameTree n) K
named_mark OpenParen h pos n K = absurd (true≢false (sym h))
named_mark OpenBracket h pos n K = absurd (true≢false (sym h))
named_mark _ h pos n K = refl

opened_as : (kind : TokenKind) → is_first kind ≡ true → (pos at : Pos) (K : List ExprFrame) →
    opened_step kind pos at K ≡ operand_step kind pos (ParenFrame at ∷ K)
opened_as (WordKind w) h pos at K = absurd (true≢false (sym h))
opened_as _ h pos at K = refl

calling_as : (kind : TokenKind) → is_first kind ≡ true → (pos : Pos) (n : Ident) (K : List ExprFrame) →
    calling_step kind pos n K ≡ operand_step kind pos (ArgsFrame n NoArgs ∷ K)
calling_as (MarkKind CloseParen) h pos n K = absurd (true≢false (sym h))
calling_as _ h pos n K = refl

unary_operand : (op : UnOp) (pos : Pos) (K : List ExprFrame) → operand_mark (unary_mark op) pos K ≡ Goes Operand (UnaryFrame op pos ∷ K)
unary_operand UnaryPlus pos K = refl
unary_operand UnaryMinus pos K = refl
unary_operand Not pos K = refl
unary_operand Flip pos K = refl

done_infix : (op : Infix) (pos : Pos) (e : ExprTree) (K : List ExprFrame) →
    done_step (MarkKind (infix_mark op)) pos e K ≡ infix_step op pos (settled (infix_level op) e K)
done_infix (Op Mul) pos e K = refl
done_infix (Op Div) pos e K = refl
done_infix (Op Rem) pos e K = refl
done_infix (Op Add) pos e K = refl
done_infix (Op Sub) pos e K = refl
done_infix (Op Shl) pos e K = refl
done_infix (Op Shr) pos e K = refl
done_infix (Op Lt) pos e K = refl
done_infix (Op Gt) pos e K = refl
done_infix (Op Le) pos e K = refl
done_infix (Op Ge) pos e K = refl
done_infix (Op Eq) pos e K = refl
done_infix (Op Ne) pos e K = refl
done_infix (Op And) pos e K = refl
done_infix (Op Xor) pos e K = refl
done_infix (Op Or) pos e K = refl
done_infix Both pos e K = refl
done_infix Either pos e K = refl

infix_behind : (op : Infix) → is_behind (infix_mark op) ≡ true
infix_behind (Op Mul) = refl
infix_behind (Op Div) = refl
infix_behind (Op Rem) = refl
infix_behind (Op Add) = refl
infix_behind (Op Sub) = refl
infix_behind (Op Shl) = refl
infix_behind (Op Shr) = refl
infix_behind (Op Lt) = refl
infix_behind (Op Gt) = refl
infix_behind (Op Le) = refl
infix_behind (Op Ge) = refl
infix_behind (Op Eq) = refl
infix_behind (Op Ne) = refl
infix_behind (Op And) = refl
infix_behind (Op Xor) = refl
infix_behind (Op Or) = refl
infix_behind Both = refl
infix_behind Either = refl

pub level_bounds : (op : Infix) → (1 ≤ infix_level op) × (infix_level op ≤ 10)
level_bounds (Op Mul) = (omega arith, omega arith)
level_bounds (Op Div) = (omega arith, omega arith)
level_bounds (Op Rem) = (omega arith, omega arith)
level_bounds (Op Add) = (omega arith, omega arith)
level_bounds (Op Sub) = (omega arith, omega arith)
level_bounds (Op Shl) = (omega arith, omega arith)
level_bounds (Op Shr) = (omega arith, omega arith)
level_bounds (Op Lt) = (omega arith, omega arith)
level_bounds (Op Gt) = (omega arith, omega arith)
level_bounds (Op Le) = (omega arith, omega arith)
level_bounds (Op Ge) = (omega arith, omega arith)
level_bounds (Op Eq) = (omega arith, omega arith)
level_bounds (Op Ne) = (omega arith, omega arith)
level_bounds (Op And) = (omega arith, omega arith)
level_bounds (Op Xor) = (omega arith, omega arith)
level_bounds (Op Or) = (omega arith, omega arith)
level_bounds Both = (omega arith, omega arith)
level_bounds Either = (omega arith, omega arith)

-- arguments behind others
abbrev pub all_args : ArgTrees → ArgTrees → ArgTrees
all_args done NoArgs = done
all_args done (AndArg arg args) = all_args (and_arg done arg) args

pub all_first : (x : ExprTree) (done args : ArgTrees) → all_args (AndArg x done) args ≡ AndArg x (all_args done args)
all_first x done NoArgs = refl
all_first x done (AndArg arg args) = all_first x (and_arg done arg) args

pub all_none : (args : ArgTrees) → all_args NoArgs args ≡ args
all_none NoArgs = refl
all_none (AndArg arg args) = all_first arg NoArgs args ∙ ap (AndArg arg) (all_none args)

-- frames that stop every operator
abbrev IsStop : ExprFrame → Type 0
IsStop f = (m : ℕ) → ends m f ≡ false

stop_waits : (r : ℕ) (f : ExprFrame) (K : List ExprFrame) → IsStop f → Waits r (f ∷ K)
stop_waits r f K h = record { still = λ m a b c x. ap (λ z. cond z (settled m (closed_by f x) K) (standing x (f ∷ K))) (h m) }

module _ (accepts : ExprFocus → List ExprFrame → Rest) (T : Takes accepts) where
  -- What follows an expression may stand there, and is accepted behind whatever is as the expression.
  pub record Ready (e : ExprTree) (K : List ExprFrame) (k : Rest) : Type 0 where
    pub follows : Leads k Follows
    pub on : (x : ExprTree) (J : List ExprFrame) → Alike (rank e) x J e K → Leads k (accepts (Done x) J)

  abbrev pub IsComplete : ExprTree → Type 1
  IsComplete e = (K : List ExprFrame) → Waits (rank e) K → (k : Rest) → Ready e K k → Leads (expr_text e k) (accepts Operand K)

  take_in : (kind : TokenKind) (pos : Pos) (focus : ExprFocus) (K : List ExprFrame) (focus' : ExprFocus) (K' : List ExprFrame) →
      expr_step kind pos focus K ≡ Goes focus' K' → (k : Rest) → Leads k (accepts focus' K') →
      (ts : List Token) → one (λ t. (t.kind ≡ kind) × (t.pos ≡ pos)) k ts → accepts focus K ts
  take_in kind pos focus K focus' K' e k f [] h = absurd h
  take_in kind pos focus K focus' K' e k f (t ∷ ts) h =
      T.goes t ts focus K focus' K' (ap (λ z. expr_step z t.pos focus K) h.0.0 ∙ (ap (λ z. expr_step kind z focus K) h.0.1 ∙ e)) (f.by ts h.1)

  take_at : (kind : TokenKind) (pos : Pos) (focus : ExprFocus) (K : List ExprFrame) (focus' : ExprFocus) (K' : List ExprFrame) →
      expr_step kind pos focus K ≡ Goes focus' K' → {k : Rest} → Leads k (accepts focus' K') →
      Leads (one (λ t. (t.kind ≡ kind) × (t.pos ≡ pos)) k) (accepts focus K)
  take_at kind pos focus K focus' K' e f = record { by = take_in kind pos focus K focus' K' e _ f }

  take_one : (kind : TokenKind) (focus : ExprFocus) (K : List ExprFrame) (focus' : ExprFocus) (K' : List ExprFrame) →
      ((pos : Pos) → expr_step kind pos focus K ≡ Goes focus' K') → (k : Rest) → Leads k (accepts focus' K') →
      (ts : List Token) → one (λ t. t.kind ≡ kind) k ts → accepts focus K ts
  take_one kind focus K focus' K' e k f [] h = absurd h
  take_one kind focus K focus' K' e k f (t ∷ ts) h =
      T.goes t ts focus K focus' K' (ap (λ z. expr_step z t.pos focus K) h.0 ∙ e t.pos) (f.by ts h.1)

  take : (kind : TokenKind) (focus : ExprFocus) (K : List ExprFrame) (focus' : ExprFocus) (K' : List ExprFrame) →
      ((pos : Pos) → expr_step kind pos focus K ≡ Goes focus' K') → {k : Rest} → Leads k (accepts focus' K') →
      Leads (one (λ t. t.kind ≡ kind) k) (accepts focus K)
  take kind focus K focus' K' e f = record { by = take_one kind focus K focus' K' e _ f }

  named_in : (n : Ident) (K : List ExprFrame) (ts : List Token) → Follows ts → accepts (Done (NameTree n)) K ts → accepts (Named n) K ts
  named_in n K [] b a = absurd b
  named_in n K (t ∷ ts) b a =
      T.alike t ts (Named n) K (Done (NameTree n)) K
      (subst (λ z. named_step z t.pos n K ≡ done_step z t.pos (NameTree n) K) (sym b.kind) (named_mark b.mark b.fits t.pos n K)) a

  behind_name : (n : Ident) (K : List ExprFrame) {k : Rest} → Leads k Follows → Leads k (accepts (Done (NameTree n)) K) → Leads k (accepts (Named n) K)
  behind_name n K f g = record { by = λ ts h. named_in n K ts (f.by ts h) (g.by ts h) }

  opened_in : (at : Pos) (K : List ExprFrame) (ts : List Token) → Starts ts → accepts Operand (ParenFrame at ∷ K) ts → accepts (Opened at) K ts
  opened_in at K [] b a = absurd b
  opened_in at K (t ∷ ts) b a = T.alike t ts (Opened at) K Operand (ParenFrame at ∷ K) (opened_as t.kind b t.pos at K) a

  calling_in : (n : Ident) (K : List ExprFrame) (ts : List Token) → Starts ts → accepts Operand (ArgsFrame n NoArgs ∷ K) ts → accepts (Calling n) K ts
  calling_in n K [] b a = absurd b
  calling_in n K (t ∷ ts) b a = T.alike t ts (Calling n) K Operand (ArgsFrame n NoArgs ∷ K) (calling_as t.kind b t.pos n K) a

  casts : (at : Pos) (K : List ExprFrame) → ReadsWords (accepts (Opened at) K) (λ s. accepts (Casting s at) K)
  casts at K = record {
    first = λ t w s ts h e a. T.goes t ts (Opened at) K (Casting s at) K
        (ap (λ z. expr_step z t.pos (Opened at) K) h ∙ ap (λ o. opened_word o at K) e) a;
    more = λ t w r s ts h e a. T.goes t ts (Casting r at) K (Casting s at) K
        (ap (λ z. expr_step z t.pos (Casting r at) K) h ∙ ap (λ o. opened_word o at K) e) a;
  }

  -- what a closing token does behind whatever is as an expression in a frame that stops every operator
  closes : (m : Mark) (pos : Pos) (x : ExprTree) (J : List ExprFrame) (e : ExprTree) (f : ExprFrame) (K : List ExprFrame) →
      done_step (MarkKind m) pos x J ≡ close_standing (MarkKind m) (settled 0 x J) → IsStop f → Alike (rank e) x J e (f ∷ K) →
      done_step (MarkKind m) pos x J ≡ close_step (MarkKind m) e (f ∷ K)
  closes m pos x J e f K d h a =
      d ∙ (ap (close_standing (MarkKind m)) (a.settles 0 (omega arith)) ∙
      ap (λ z. close_standing (MarkKind m) (cond z (settled 0 (closed_by f e) K) (standing e (f ∷ K)))) (h 0))

  behind_one : (m : Mark) → is_behind m ≡ true → {k : Rest} → Leads (mark m k) Follows
  behind_one m h {k = k} = record { by = behind_in }
    where
      behind_in : (ts : List Token) → mark m k ts → Follows ts
      behind_in [] b = b
      behind_in (t ∷ ts) b = record { mark = m; kind = b.0; fits = h }

  behind_at : (m : Mark) (pos : Pos) → is_behind m ≡ true → {k : Rest} → Leads (mark_at m pos k) Follows
  behind_at m pos h {k = k} = record { by = behind_in }
    where
      behind_in : (ts : List Token) → mark_at m pos k ts → Follows ts
      behind_in [] b = b
      behind_in (t ∷ ts) b = record { mark = m; kind = b.0.0; fits = h }

  -- an operator between two operands
  between : (op : Infix) (l r : ExprTree) (pos : Pos) → infix_level op ≤ rank l → infix_level op < rank r → IsComplete l → IsComplete r →
      (K : List ExprFrame) → Waits (infix_level op) K → (k : Rest) → Leads k Follows →
      ((x : ExprTree) (J : List ExprFrame) → Alike (infix_level op) x J (infix_tree op l r pos) K → Leads k (accepts (Done x) J)) →
      Leads (expr_text l (mark_at (infix_mark op) pos (expr_text r k))) (accepts Operand K)
  between op l r pos low high cl cr K w k follows on =
      let b = level_bounds op in
      cl K (record { still = λ m h1 h2 h3 x. w.still m (omega arith) h2 h3 x }) _ (record {
        follows = behind_at (infix_mark op) pos (infix_behind op);
        on = λ x J a. take_at (MarkKind (infix_mark op)) pos (Done x) J Operand (InfixFrame op l pos ∷ K)
            (done_infix op pos x J ∙ ap (infix_step op pos) (a.settles (infix_level op) low ∙ w.still (infix_level op) (omega arith) b.0 b.1 l))
            (cr (InfixFrame op l pos ∷ K) (record {
              still = λ m h1 h2 h3 y. let t : nat_lt (infix_level op) m ≡ true = grind (arith, nat_tests) in
                  ap (λ z. cond (not z) (settled m (infix_tree op l y pos) K) (standing y (InfixFrame op l pos ∷ K))) t;
            }) k (record {
              follows = follows;
              on = λ y J' a'. on y J' (record {
                settles = λ m h. let t : nat_lt (infix_level op) m ≡ false = grind (arith, nat_tests) in
                    a'.settles m (omega arith) ∙
                    ap (λ z. cond (not z) (settled m (infix_tree op l r pos) K) (standing r (InfixFrame op l pos ∷ K))) t;
              });
            }));
      })

  -- a prefix operator or a cast binds its operand alone
  prefix_waits : (part : ExprTree) (K : List ExprFrame) → 11 ≤ rank part → Waits (rank part) K
  prefix_waits part K g = record { still = λ m a b c x. absurd (omega arith) }

  more_follows : (args : ArgTrees) (k : Rest) → Leads (more_args_text args (mark CloseParen k)) Follows
  more_follows NoArgs k = behind_one CloseParen refl
  more_follows (AndArg arg args) k = behind_one Comma refl

  mutual
    pub complete : (e : ExprTree) → IsGrouped e → IsComplete e
    complete (NumberTree value unsigned pos) g K w k r =
        take_at (NumberKind value unsigned) pos Operand K (Done (NumberTree value unsigned pos)) K refl (r.on (NumberTree value unsigned pos) K (alike_self _ _ _))
    complete (NameTree n) g K w k r =
        take_at (NameKind n.text) n.pos Operand K (Named n) K refl (behind_name n K r.follows (r.on (NameTree n) K (alike_self _ _ _)))
    complete (UnaryTree op part pos) g K w k r =
        take_at (MarkKind (unary_mark op)) pos Operand K Operand (UnaryFrame op pos ∷ K) (unary_operand op pos K)
        (complete part g.1 (UnaryFrame op pos ∷ K) (prefix_waits part _ g.0) k (record {
          follows = r.follows;
          on = λ x J a. r.on x J (record { settles = λ m h. a.settles m (omega (arith, g.0)) });
        }))
    complete (BinaryTree op left right pos) g K w k r =
        between (Op op) left right pos g.0 g.1 (complete left g.2) (complete right g.3) K w k r.follows r.on
    complete (BothTree left right pos) g K w k r =
        between Both left right pos g.0 g.1 (complete left g.2) (complete right g.3) K w k r.follows r.on
    complete (EitherTree left right pos) g K w k r =
        between Either left right pos g.0 g.1 (complete left g.2) (complete right g.3) K w k r.follows r.on
    complete (ChooseTree test one_ other pos) g K w k r =
        complete test g.1 K (record { still = λ m a b c x. w.still m (omega arith) b c x }) _ (record {
          follows = behind_at Question pos refl;
          on = λ x J a. take_at (MarkKind Question) pos (Done x) J Operand (TestFrame test pos ∷ K)
              (ap (question_step pos) (a.settles 1 g.0 ∙ w.still 1 (omega arith) (omega arith) (omega arith) test))
              (complete one_ g.2 (TestFrame test pos ∷ K) (stop_waits _ (TestFrame test pos) K (λ m. refl)) _ (record {
                follows = behind_one Colon refl;
                on = λ y J' a'. take (MarkKind Colon) (Done y) J' Operand (OtherFrame test one_ pos ∷ K)
                    (λ p. closes Colon p y J' one_ (TestFrame test pos) K refl (λ m. refl) a')
                    (complete other g.3 (OtherFrame test one_ pos ∷ K) (record {
                      still = λ m h1 h2 h3 z. let t : nat_eq m 0 ≡ false = grind (arith, nat_tests) in
                          ap (λ b. cond b (settled m (ChooseTree test one_ z pos) K) (standing z (OtherFrame test one_ pos ∷ K))) t;
                    }) k (record {
                      follows = r.follows;
                      on = λ z J'' a''. r.on z J'' (record {
                        settles = λ m h. let t : nat_eq m 0 ≡ true = grind (arith, nat_tests) in
                            a''.settles m (omega arith) ∙
                            ap (λ b. cond b (settled m (ChooseTree test one_ other pos) K) (standing other (OtherFrame test one_ pos ∷ K))) t;
                      });
                    }));
              }));
        })
    complete (CastTree elem part pos) g K w k r =
        take_at (MarkKind OpenParen) pos Operand K (Opened pos) K refl (record {
          by = λ ts h.
              let behind : Leads (mark CloseParen (expr_text part k)) (accepts (Casting h.0 pos) K) =
              take (MarkKind CloseParen) (Casting h.0 pos) K Operand (CastFrame elem pos ∷ K) (λ p. ap (λ z. Goes Operand (CastFrame z pos ∷ K)) h.1)
              (complete part g.1 (CastFrame elem pos ∷ K) (prefix_waits part _ g.0) k (record {
                follows = r.follows;
                on = λ x J a. r.on x J (record { settles = λ m b. a.settles m (omega (arith, g.0)) });
              })) in
              (scalar_complete (casts pos K) _ h.0 behind).by ts h.2;
        })
    complete (IndexTree array place pos) g K w k r =
        take_at (NameKind array.text) array.pos Operand K (Named array) K refl
        (take_at (MarkKind OpenBracket) pos (Named array) K Operand (IndexFrame array pos ∷ K) refl
        (complete place g (IndexFrame array pos ∷ K) (stop_waits _ (IndexFrame array pos) K (λ m. refl)) _ (record {
          follows = behind_one CloseBracket refl;
          on = λ x J a. take (MarkKind CloseBracket) (Done x) J (Done (IndexTree array place pos)) K
              (λ p. closes CloseBracket p x J place (IndexFrame array pos) K refl (λ m. refl) a)
              (r.on (IndexTree array place pos) K (alike_self _ _ _));
        })))
    complete (CallTree n args) g K w k r =
        take_at (NameKind n.text) n.pos Operand K (Named n) K refl
        (take (MarkKind OpenParen) (Named n) K (Calling n) K (λ p. refl) (call_args n args g K k (r.on (CallTree n args) K (alike_self _ _ _))))
    complete (ParenTree part pos) g K w k r =
        take_at (MarkKind OpenParen) pos Operand K (Opened pos) K refl (record {
          by = λ ts h.
              opened_in pos K ts (starts part _ ts h)
              ((complete part g (ParenFrame pos ∷ K) (stop_waits _ (ParenFrame pos) K (λ m. refl)) _ (record {
                follows = behind_one CloseParen refl;
                on = λ x J a. take (MarkKind CloseParen) (Done x) J (Done (ParenTree part pos)) K
                    (λ p. closes CloseParen p x J part (ParenFrame pos) K refl (λ m. refl) a)
                    (r.on (ParenTree part pos) K (alike_self _ _ _));
              })).by ts h);
        })

    call_args : (n : Ident) (args : ArgTrees) → AreGrouped args → (K : List ExprFrame) (k : Rest) → Leads k (accepts (Done (CallTree n args)) K) →
        Leads (args_text args (mark CloseParen k)) (accepts (Calling n) K)
    call_args n NoArgs g K k f = take (MarkKind CloseParen) (Calling n) K (Done (CallTree n NoArgs)) K (λ p. refl) f
    call_args n (AndArg arg args) g K k f = record {
      by = λ ts h.
          calling_in n K ts (starts arg _ ts h)
          ((complete arg g.0 (ArgsFrame n NoArgs ∷ K) (stop_waits _ (ArgsFrame n NoArgs) K (λ m. refl)) _ (record {
            follows = more_follows args k;
            on = λ x J a. more_args n NoArgs arg args g.1 x J {K = K} a k
                (subst (λ z. Leads k (accepts (Done (CallTree n z)) K)) (sym (all_first arg NoArgs args ∙ ap (AndArg arg) (all_none args))) f);
          })).by ts h);
    }

    more_args : (n : Ident) (done : ArgTrees) (arg : ExprTree) (args : ArgTrees) → AreGrouped args →
        (x : ExprTree) (J : List ExprFrame) {K : List ExprFrame} → Alike (rank arg) x J arg (ArgsFrame n done ∷ K) → (k : Rest) →
        Leads k (accepts (Done (CallTree n (all_args (and_arg done arg) args))) K) →
        Leads (more_args_text args (mark CloseParen k)) (accepts (Done x) J)
    more_args n done arg NoArgs g x J {K = K} a k f = take (MarkKind CloseParen) (Done x) J (Done (CallTree n (and_arg done arg))) K
        (λ p. closes CloseParen p x J arg (ArgsFrame n done) K refl (λ m. refl) a) f
    more_args n done arg (AndArg b bs) g x J {K = K} a k f = take (MarkKind Comma) (Done x) J Operand (ArgsFrame n (and_arg done arg) ∷ K)
        (λ p. closes Comma p x J arg (ArgsFrame n done) K refl (λ m. refl) a)
        (complete b g.0 (ArgsFrame n (and_arg done arg) ∷ K) (stop_waits _ (ArgsFrame n (and_arg done arg)) K (λ m. refl)) _ (record {
          follows = more_follows bs k;
          on = λ y J' a'. more_args n (and_arg done arg) b bs g.1 y J' {K = K} a' k f;
        }))
