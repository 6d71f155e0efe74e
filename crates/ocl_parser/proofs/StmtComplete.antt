-- Each text of statements is read.
use Rattle.std.proofs.Common.{◌≡◌, inl, inr, refl, sym, subst, ap, ◌∙◌, Bool, true, false, List, [], ◌∷◌, Option, true≢false}
use Rattle.vx_base.specs.declared.types.Pos.{Pos}
use Rattle.ocl_ast.specs.declared.exprs.Ident.{Ident}
use Rattle.ocl_ast.specs.declared.stmts.AssignOp.{AssignOp}
use Rattle.ocl_ast.specs.Trees.{ExprTree, ArgTrees, NoArgs, AndArg, TargetTree, StmtTree, DeclareTree, LocalArrayTree, AssignTree, CallStmtTree, BarrierTree, IfTree, IfElseTree, WhileTree, DoTree, ForTree, BreakTree, ContinueTree, ReturnTree, BlockTree, EmptyTree, StmtTrees, NoStmts, AndStmt}
use Rattle.ocl_tokens.specs.declared.marks.Mark.TheVariants.{CloseParen, OpenBrace, CloseBrace, Semicolon, Comma, PlusPlus, MinusMinus}
use Rattle.ocl_tokens.specs.declared.tokens.Token.{Token}
use Rattle.ocl_tokens.specs.declared.tokens.TokenKind.{TokenKind}
use Rattle.ocl_tokens.specs.declared.tokens.TokenKind.TheVariants.{Name as NameKind, Word as WordKind, Mark as MarkKind}
use Rattle.ocl_tokens.specs.declared.words.Word.TheVariants.{Const, Volatile, Char, Uchar, Short, Ushort, Int, Uint, SizeT, Signed, Unsigned, If, Else, While, Do, For, Break, Continue, Return, Barrier}
use Rattle.ocl_parser.specs.Spellings.{Rest, one, mark, IsNumber}
use Rattle.ocl_parser.specs.Exprs.{expr_text, args_text, more_args_text, IsGrouped, AreGrouped}
use Rattle.ocl_parser.specs.Stmts.{assign_text, more_numbers_text, IsLocalWord, stmt_text, items_text, takes_else, IsOrderly}
use Rattle.ocl_parser.specs.ExprSteps.{and_arg}
use Rattle.ocl_parser.specs.StmtSteps.{and_stmt, stmt_step, item_step, body_step, begin_step, assign_start, first_start, test_start, step_start, returning_step, call_open, qualified_step, finished, is_else}
use Rattle.ocl_parser.specs.declared.states.ExprFocus.TheVariants.{Operand}
use Rattle.ocl_parser.specs.declared.states.Part.{Part}
use Rattle.ocl_parser.specs.declared.states.Part.TheVariants.{InBlock, InFirst, InStep}
use Rattle.ocl_parser.specs.declared.states.Purpose.TheVariants.{ArgsOf, ForTest, ReturnOf}
use Rattle.ocl_parser.specs.declared.states.StmtFocus.{StmtFocus}
use Rattle.ocl_parser.specs.declared.states.StmtFocus.TheVariants.{ItemStart, BodyStart, Finished, Ending, Reading, BarrierOpen, BarrierNumber, AssignNext, Assigned, CallOpen}
use Rattle.ocl_parser.specs.declared.states.StmtFrame.{StmtFrame}
use Rattle.ocl_parser.proofs.Texts.{Leads}
use Rattle.ocl_parser.proofs.ExprComplete.{is_first, all_args, all_none, all_first}
use Rattle.ocl_parser.proofs.StmtTakes.{TakesStmts, Closers, stmt_one, expr_mark, expr_begin}
use Rattle.ocl_parser.proofs.AssignComplete.{is_assign_first, AssignStarts, assign_starts, assign_complete}
use Rattle.ocl_parser.proofs.DeclareComplete.{is_type_first, TypeStarts, type_starts}

-- Tokens that may begin a statement that is no declaration.
abbrev pub is_stmt_first : TokenKind → Bool
is_stmt_first (NameKind text) = true
is_stmt_first (MarkKind PlusPlus) = true
is_stmt_first (MarkKind MinusMinus) = true
is_stmt_first (MarkKind Semicolon) = true
is_stmt_first (MarkKind OpenBrace) = true
is_stmt_first (WordKind If) = true
is_stmt_first (WordKind While) = true
is_stmt_first (WordKind For) = true
is_stmt_first (WordKind Do) = true
is_stmt_first (WordKind Barrier) = true
is_stmt_first (WordKind Break) = true
is_stmt_first (WordKind Continue) = true
is_stmt_first (WordKind Return) = true
is_stmt_first _ = false

abbrev pub StmtStarts : Rest
StmtStarts [] = ⊥
StmtStarts (t ∷ ts) = is_stmt_first t.kind ≡ true

one_first : (p : Token → Type 0) (k : Rest) → ((t : Token) → p t → is_stmt_first t.kind ≡ true) → (ts : List Token) → one p k ts → StmtStarts ts
one_first p k f [] h = h
one_first p k f (t ∷ ts) h = f t h.0

assign_is_stmt : (kind : TokenKind) → is_assign_first kind ≡ true → is_stmt_first kind ≡ true
assign_is_stmt (NameKind text) h = refl
assign_is_stmt (MarkKind PlusPlus) h = refl
assign_is_stmt (MarkKind MinusMinus) h = refl
assign_is_stmt _ h = absurd (true≢false (sym h))

assign_first : (ts : List Token) → AssignStarts ts → StmtStarts ts
assign_first [] h = h
assign_first (t ∷ ts) h = assign_is_stmt t.kind h

stmt_starts : (s : StmtTree) (k : Rest) (ts : List Token) → stmt_text s k ts → StmtStarts ts
stmt_starts EmptyTree k ts h = one_first _ _ (λ t x. ap is_stmt_first x) ts h
stmt_starts (BlockTree items) k ts h = one_first _ _ (λ t x. ap is_stmt_first x) ts h
stmt_starts (AssignTree target op value pos) k ts h = assign_first ts (assign_starts target op value pos _ ts h)
stmt_starts (CallStmtTree n args) k ts h = one_first _ _ (λ t x. ap is_stmt_first x.0) ts h
stmt_starts (BarrierTree pos) k ts h = one_first _ _ (λ t x. ap is_stmt_first x.0) ts h
stmt_starts (IfTree test body) k ts h = one_first _ _ (λ t x. ap is_stmt_first x) ts h
stmt_starts (IfElseTree test body other) k ts h = one_first _ _ (λ t x. ap is_stmt_first x) ts h
stmt_starts (WhileTree test body) k ts h = one_first _ _ (λ t x. ap is_stmt_first x) ts h
stmt_starts (DoTree body test) k ts h = one_first _ _ (λ t x. ap is_stmt_first x) ts h
stmt_starts (ForTree first test step body) k ts h = one_first _ _ (λ t x. ap is_stmt_first x) ts h
stmt_starts (BreakTree pos) k ts h = one_first _ _ (λ t x. ap is_stmt_first x.0) ts h
stmt_starts (ContinueTree pos) k ts h = one_first _ _ (λ t x. ap is_stmt_first x.0) ts h
stmt_starts (ReturnTree value pos) k ts h = one_first _ _ (λ t x. ap is_stmt_first x.0) ts h
stmt_starts (DeclareTree elem constant n value) k ts h = absurd h
stmt_starts (LocalArrayTree elem n count) k ts h = absurd h

item_as : (kind : TokenKind) → is_stmt_first kind ≡ true → (pos : Pos) (K : List StmtFrame) → item_step kind pos K ≡ body_step kind pos K
item_as (NameKind text) h pos K = refl
item_as (MarkKind PlusPlus) h pos K = refl
item_as (MarkKind MinusMinus) h pos K = refl
item_as (MarkKind Semicolon) h pos K = refl
item_as (MarkKind OpenBrace) h pos K = refl
item_as (WordKind If) h pos K = refl
item_as (WordKind While) h pos K = refl
item_as (WordKind For) h pos K = refl
item_as (WordKind Do) h pos K = refl
item_as (WordKind Barrier) h pos K = refl
item_as (WordKind Break) h pos K = refl
item_as (WordKind Continue) h pos K = refl
item_as (WordKind Return) h pos K = refl
item_as _ h pos K = absurd (true≢false (sym h))

pub body_assign : (kind : TokenKind) → is_assign_first kind ≡ true → (pos : Pos) (K : List StmtFrame) → body_step kind pos K ≡ assign_start kind pos InBlock K
body_assign (NameKind text) h pos K = refl
body_assign (MarkKind PlusPlus) h pos K = refl
body_assign (MarkKind MinusMinus) h pos K = refl
body_assign _ h pos K = absurd (true≢false (sym h))

pub first_assign : (kind : TokenKind) → is_assign_first kind ≡ true → (pos : Pos) (K : List StmtFrame) → first_start kind pos K ≡ assign_start kind pos (InFirst NoStmts) K
first_assign (NameKind text) h pos K = refl
first_assign (MarkKind PlusPlus) h pos K = refl
first_assign (MarkKind MinusMinus) h pos K = refl
first_assign _ h pos K = absurd (true≢false (sym h))

pub step_assign : (kind : TokenKind) → is_assign_first kind ≡ true → (pos : Pos) (first : StmtTrees) (test : Option ExprTree) (K : List StmtFrame) →
    step_start kind pos first test K ≡ assign_start kind pos (InStep first test NoStmts) K
step_assign (NameKind text) h pos first test K = refl
step_assign (MarkKind PlusPlus) h pos first test K = refl
step_assign (MarkKind MinusMinus) h pos first test K = refl
step_assign _ h pos first test K = absurd (true≢false (sym h))

pub item_type : (kind : TokenKind) → is_type_first kind ≡ true → (pos : Pos) (K : List StmtFrame) → item_step kind pos K ≡ qualified_step kind InBlock false K
item_type (WordKind Const) h pos K = refl
item_type (WordKind Volatile) h pos K = refl
item_type (WordKind Char) h pos K = refl
item_type (WordKind Uchar) h pos K = refl
item_type (WordKind Short) h pos K = refl
item_type (WordKind Ushort) h pos K = refl
item_type (WordKind Int) h pos K = refl
item_type (WordKind Uint) h pos K = refl
item_type (WordKind SizeT) h pos K = refl
item_type (WordKind Signed) h pos K = refl
item_type (WordKind Unsigned) h pos K = refl
item_type _ h pos K = absurd (true≢false (sym h))

pub first_type : (kind : TokenKind) → is_type_first kind ≡ true → (pos : Pos) (K : List StmtFrame) → first_start kind pos K ≡ qualified_step kind (InFirst NoStmts) false K
first_type (WordKind w) h pos K = refl
first_type _ h pos K = absurd (true≢false (sym h))

pub test_as : (kind : TokenKind) → is_first kind ≡ true → (pos : Pos) (first : StmtTrees) (K : List StmtFrame) → test_start kind pos first K ≡ begin_step kind pos (ForTest first) K
test_as (MarkKind Semicolon) h pos first K = absurd (true≢false (sym h))
test_as _ h pos first K = refl

pub return_as : (kind : TokenKind) → is_first kind ≡ true → (pos at : Pos) (K : List StmtFrame) → returning_step kind pos at K ≡ begin_step kind pos (ReturnOf at) K
return_as (MarkKind Semicolon) h pos at K = absurd (true≢false (sym h))
return_as _ h pos at K = refl

call_as : (kind : TokenKind) → is_first kind ≡ true → (pos : Pos) (n : Ident) (K : List StmtFrame) → call_open kind pos n K ≡ begin_step kind pos (ArgsOf n NoArgs) K
call_as (MarkKind CloseParen) h pos n K = absurd (true≢false (sym h))
call_as _ h pos n K = refl

-- the first token is of some kind
abbrev FirstIs : (TokenKind → Bool) → Rest
FirstIs Starts [] = ⊥
FirstIs Starts (t ∷ ts) = Starts t.kind ≡ true

-- tokens before which no `if` waits for its `else`
abbrev pub NoElse : Rest
NoElse [] = ⊥
NoElse (t ∷ ts) = is_else t.kind ≡ false

stmt_no_else : (kind : TokenKind) → is_stmt_first kind ≡ true → is_else kind ≡ false
stmt_no_else (WordKind Else) h = absurd (true≢false (sym h))
stmt_no_else _ h = refl

type_no_else : (kind : TokenKind) → is_type_first kind ≡ true → is_else kind ≡ false
type_no_else (WordKind Else) h = absurd (true≢false (sym h))
type_no_else _ h = refl

stmt_not : (ts : List Token) → StmtStarts ts → NoElse ts
stmt_not [] h = h
stmt_not (t ∷ ts) h = stmt_no_else t.kind h

type_not : (ts : List Token) → TypeStarts ts → NoElse ts
type_not [] h = h
type_not (t ∷ ts) h = type_no_else t.kind h

local_not : (t : Token) → IsLocalWord t → is_else t.kind ≡ false
local_not t (inl h) = ap is_else h
local_not t (inr h) = ap is_else h

one_not : (p : Token → Type 0) (k : Rest) → ((t : Token) → p t → is_else t.kind ≡ false) → (ts : List Token) → one p k ts → NoElse ts
one_not p k f [] h = h
one_not p k f (t ∷ ts) h = f t h.0

pub items_not : (ss : StmtTrees) (k : Rest) (ts : List Token) → items_text ss (mark CloseBrace k) ts → NoElse ts
items_not NoStmts k ts h = one_not _ k (λ t x. ap is_else x) ts h
items_not (AndStmt (DeclareTree elem constant n value) ss) k ts h = type_not ts (type_starts elem constant _ ts h)
items_not (AndStmt (LocalArrayTree elem n count) ss) k ts h = one_not _ _ local_not ts h
items_not (AndStmt EmptyTree ss) k ts h = stmt_not ts (stmt_starts EmptyTree _ ts h)
items_not (AndStmt (BlockTree items) ss) k ts h = stmt_not ts (stmt_starts (BlockTree items) _ ts h)
items_not (AndStmt (AssignTree target op value pos) ss) k ts h = stmt_not ts (stmt_starts (AssignTree target op value pos) _ ts h)
items_not (AndStmt (CallStmtTree n args) ss) k ts h = stmt_not ts (stmt_starts (CallStmtTree n args) _ ts h)
items_not (AndStmt (BarrierTree pos) ss) k ts h = stmt_not ts (stmt_starts (BarrierTree pos) _ ts h)
items_not (AndStmt (IfTree test body) ss) k ts h = stmt_not ts (stmt_starts (IfTree test body) _ ts h)
items_not (AndStmt (IfElseTree test body other) ss) k ts h = stmt_not ts (stmt_starts (IfElseTree test body other) _ ts h)
items_not (AndStmt (WhileTree test body) ss) k ts h = stmt_not ts (stmt_starts (WhileTree test body) _ ts h)
items_not (AndStmt (DoTree body test) ss) k ts h = stmt_not ts (stmt_starts (DoTree body test) _ ts h)
items_not (AndStmt (ForTree first test step body) ss) k ts h = stmt_not ts (stmt_starts (ForTree first test step body) _ ts h)
items_not (AndStmt (BreakTree pos) ss) k ts h = stmt_not ts (stmt_starts (BreakTree pos) _ ts h)
items_not (AndStmt (ContinueTree pos) ss) k ts h = stmt_not ts (stmt_starts (ContinueTree pos) _ ts h)
items_not (AndStmt (ReturnTree value pos) ss) k ts h = stmt_not ts (stmt_starts (ReturnTree value pos) _ ts h)

first_stmt : (ts : List Token) → StmtStarts ts → FirstIs is_stmt_first ts
first_stmt [] h = h
first_stmt (t ∷ ts) h = h

first_of_assign : (ts : List Token) → AssignStarts ts → FirstIs is_assign_first ts
first_of_assign [] h = h
first_of_assign (t ∷ ts) h = h

-- statements behind others
abbrev pub all_stmts : StmtTrees → StmtTrees → StmtTrees
all_stmts done NoStmts = done
all_stmts done (AndStmt s ss) = all_stmts (and_stmt done s) ss

all_stmts_first : (x : StmtTree) (done ss : StmtTrees) → all_stmts (AndStmt x done) ss ≡ AndStmt x (all_stmts done ss)
all_stmts_first x done NoStmts = refl
all_stmts_first x done (AndStmt s ss) = all_stmts_first x (and_stmt done s) ss

pub all_stmts_none : (ss : StmtTrees) → all_stmts NoStmts ss ≡ ss
all_stmts_none NoStmts = refl
all_stmts_none (AndStmt s ss) = all_stmts_first s NoStmts ss ∙ ap (AndStmt s) (all_stmts_none ss)

-- Whatever follows, a whole statement in its frames is as another; before an `else` only where none belongs to it.
pub record AlikeStmt (open_ : Bool) (x : StmtTree) (J : List StmtFrame) (s : StmtTree) (K : List StmtFrame) : Type 0 where
  pub finishes : (b : Bool) → (b ≡ true → open_ ≡ false) → finished b x J ≡ finished b s K

pub self_alike : (open_ : Bool) (s : StmtTree) (K : List StmtFrame) → AlikeStmt open_ s K s K
self_alike open_ s K = record { finishes = λ b h. refl }

module _ (accepts : StmtFocus → List StmtFrame → Rest) (T : TakesStmts accepts) where
  abbrev pub IsRead : StmtTree → Type 1
  IsRead s = (f : StmtFrame) (K : List StmtFrame) (k : Rest) →
      ((x : StmtTree) (J : List StmtFrame) → AlikeStmt (takes_else s) x J s (f ∷ K) → Leads k (accepts (Finished x) J)) →
      Leads (stmt_text s k) (accepts BodyStart (f ∷ K))

  -- a token at the start of a statement where something else may stand
  start_in : (Starts : TokenKind → Bool) (focus focus' : StmtFocus) (K : List StmtFrame) →
      ((kind : TokenKind) → Starts kind ≡ true → (pos : Pos) → stmt_step kind pos focus K ≡ stmt_step kind pos focus' K) →
      (ts : List Token) → FirstIs Starts ts → accepts focus' K ts → accepts focus K ts
  start_in Starts focus focus' K s [] b a = absurd b
  start_in Starts focus focus' K s (t ∷ ts) b a = T.alike t ts focus K focus' K (s t.kind b t.pos) a

  pub to_item : (K : List StmtFrame) (s : StmtTree) (k : Rest) → Leads (stmt_text s k) (accepts BodyStart K) → Leads (stmt_text s k) (accepts ItemStart K)
  to_item K s k f = record { by = λ ts h. start_in is_stmt_first ItemStart BodyStart K (λ kind b pos. item_as kind b pos K) ts (first_stmt ts (stmt_starts s k ts h)) (f.by ts h) }

  -- `;`, and the statement is whole
  pub ends_stmt : (s : StmtTree) (K : List StmtFrame) {k : Rest} → Leads k (accepts (Finished s) K) → Leads (mark Semicolon k) (accepts (Ending s) K)
  ends_stmt s K f = stmt_one accepts T (MarkKind Semicolon) (Ending s) K (Finished s) K (λ p. refl) f

  pub assign_from : (part : Part) (focus : StmtFocus) (K : List StmtFrame) →
      ((kind : TokenKind) → is_assign_first kind ≡ true → (pos : Pos) → stmt_step kind pos focus K ≡ assign_start kind pos part K) →
      (target : TargetTree) (op : AssignOp) (value : Option ExprTree) (pos : Pos) → IsOrderly (AssignTree target op value pos) →
      (k : Rest) → Leads k Closers → Leads k (accepts (Assigned part (AssignTree target op value pos)) K) →
      Leads (assign_text target op value pos k) (accepts focus K)
  assign_from part focus K s target op value pos g k c f = record {
    by = λ ts h.
        start_in is_assign_first focus (AssignNext part) K s ts (first_of_assign ts (assign_starts target op value pos k ts h))
        ((assign_complete accepts T part target op value pos g.0 g.1 K k c f).by ts h);
  }

  -- the arguments of a call that is a statement
  more_call : (n : Ident) (done : ArgTrees) (arg : ExprTree) (args : ArgTrees) → IsGrouped arg → AreGrouped args → (K : List StmtFrame) (k : Rest) →
      Leads k (accepts (Ending (CallStmtTree n (all_args (and_arg done arg) args))) K) →
      Leads (expr_text arg (more_args_text args (mark CloseParen k))) (accepts (Reading (ArgsOf n done) Operand []) K)
  more_call n done arg NoArgs g gs K k f =
      expr_mark accepts T CloseParen refl (ArgsOf n done) K arg g (Ending (CallStmtTree n (and_arg done arg))) K refl f
  more_call n done arg (AndArg b bs) g gs K k f =
      expr_mark accepts T Comma refl (ArgsOf n done) K arg g (Reading (ArgsOf n (and_arg done arg)) Operand []) K refl
      (more_call n (and_arg done arg) b bs gs.0 gs.1 K k f)

  pub call_read : (n : Ident) (args : ArgTrees) → AreGrouped args → (K : List StmtFrame) (k : Rest) → Leads k (accepts (Ending (CallStmtTree n args)) K) →
      Leads (args_text args (mark CloseParen k)) (accepts (CallOpen n) K)
  call_read n NoArgs g K k f = stmt_one accepts T (MarkKind CloseParen) (CallOpen n) K (Ending (CallStmtTree n NoArgs)) K (λ p. refl) f
  call_read n (AndArg arg args) g K k f =
      expr_begin accepts T (ArgsOf n NoArgs) (CallOpen n) K (λ kind h pos. call_as kind h pos n K) arg _
      (more_call n NoArgs arg args g.0 g.1 K k
      (subst (λ z. Leads k (accepts (Ending (CallStmtTree n z)) K)) (sym (all_first arg NoArgs args ∙ ap (AndArg arg) (all_none args))) f))

  pub number_in : (at : Pos) (K : List StmtFrame) (k : Rest) → Leads k (accepts (BarrierNumber at) K) → (ts : List Token) → one IsNumber k ts → accepts (BarrierOpen at) K ts
  number_in at K k f [] h = absurd h
  number_in at K k f (t ∷ ts) h =
      T.goes t ts (BarrierOpen at) K (BarrierNumber at) K (ap (λ z. stmt_step z t.pos (BarrierOpen at) K) h.0.2) (f.by ts h.1)

  pub numbers_in : (at : Pos) (K : List StmtFrame) (k : Rest) → Leads k (accepts (Ending (BarrierTree at)) K) →
      (ts : List Token) → more_numbers_text (mark CloseParen k) ts → accepts (BarrierNumber at) K ts
  numbers_in at K k f [] h = absurd h
  numbers_in at K k f (t ∷ []) h = (stmt_one accepts T (MarkKind CloseParen) (BarrierNumber at) K (Ending (BarrierTree at)) K (λ p. refl) f).by (t ∷ []) h
  numbers_in at K k f (t ∷ u ∷ ts) (inl h) =
      (stmt_one accepts T (MarkKind CloseParen) (BarrierNumber at) K (Ending (BarrierTree at)) K (λ p. refl) f).by (t ∷ u ∷ ts) h
  numbers_in at K k f (t ∷ u ∷ ts) (inr h) =
      T.goes t (u ∷ ts) (BarrierNumber at) K (BarrierOpen at) K (ap (λ z. stmt_step z t.pos (BarrierNumber at) K) h.0)
      (T.goes u ts (BarrierOpen at) K (BarrierNumber at) K (ap (λ z. stmt_step z u.pos (BarrierOpen at) K) h.1.2) (numbers_in at K k f ts h.2))
