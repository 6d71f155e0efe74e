-- Each text of a function's body is read.
use Rattle.std.proofs.Common.{◌≡◌, inl, inr, refl, sym, subst, ap, ◌∙◌, arith, Bool, true, false, nat_eq, length, List, [], ◌∷◌, Option, Some, None, true≢false}
use Rattle.std.proofs.lemmas.Bool.Decides.{nat_tests}
use Rattle.vx_base.specs.declared.types.Elem.{Elem}
use Rattle.vx_base.specs.declared.types.Pos.{Pos}
use Rattle.ocl_ast.specs.declared.exprs.Ident.{Ident}
use Rattle.ocl_ast.specs.Trees.{ExprTree, StmtTree, DeclareTree, LocalArrayTree, AssignTree, CallStmtTree, BarrierTree, IfTree, IfElseTree, WhileTree, DoTree, ForTree, BreakTree, ContinueTree, ReturnTree, BlockTree, EmptyTree, StmtTrees, NoStmts, AndStmt}
use Rattle.ocl_tokens.specs.declared.marks.Mark.TheVariants.{OpenParen, CloseParen, OpenBrace, CloseBrace, OpenBracket, CloseBracket, Semicolon, Comma}
use Rattle.ocl_tokens.specs.declared.tokens.Token.{Token}
use Rattle.ocl_tokens.specs.declared.tokens.TokenKind.TheVariants.{Name as NameKind, Word as WordKind, Mark as MarkKind}
use Rattle.ocl_tokens.specs.declared.words.Word.TheVariants.{If, Else, While, Do, For, Break, Continue, Return, Barrier}
use Rattle.ocl_parser.specs.Spellings.{Rest, one, mark, name}
use Rattle.ocl_parser.specs.Exprs.{expr_text, option_text, IsGrouped, IsGroupedIfAny}
use Rattle.ocl_parser.specs.Stmts.{IsLocalWord, more_assigns_text, assigns_text, more_names_text, first_text, stmt_text, items_text, names_text, takes_else, IsOrderly, AreOrderly}
use Rattle.ocl_parser.specs.StmtSteps.{GoesOn, and_stmt, stmt_step, close_items, finished, finished_step, local_read}
use Rattle.ocl_parser.specs.declared.states.ExprFocus.TheVariants.{Operand}
use Rattle.ocl_parser.specs.declared.states.Part.TheVariants.{InBlock, InFirst, InStep}
use Rattle.ocl_parser.specs.declared.states.Purpose.TheVariants.{CountOf, IfTest, WhileTest, DoTest, ForTest, ReturnOf}
use Rattle.ocl_parser.specs.declared.states.StmtFocus.{StmtFocus}
use Rattle.ocl_parser.specs.declared.states.StmtFocus.TheVariants.{ItemStart, BodyStart, Finished, Ending, Reading, IfWord, WhileWord, ForWord, DoWhile, BarrierWord, BarrierOpen, NameNext, LocalWord, LocalScalar, LocalNamed, AssignNext, AssignNamed, Assigned, CallOpen, FirstStart, TestStart, StepStart, Returning}
use Rattle.ocl_parser.specs.declared.states.StmtFrame.{StmtFrame}
use Rattle.ocl_parser.specs.declared.states.StmtFrame.TheVariants.{Block as BlockFrame, Then as ThenFrame, Else as ElseFrame, While as WhileFrame, Do as DoFrame, For as ForFrame}
use Rattle.ocl_parser.proofs.Texts.{Leads}
use Rattle.ocl_parser.proofs.ScalarComplete.{ReadsWords, scalar_complete}
use Rattle.ocl_parser.proofs.StmtTakes.{TakesStmts, Closers, closer_one, stmt_at, stmt_one, expr_mark, expr_begin}
use Rattle.ocl_parser.proofs.AssignComplete.{assign_complete}
use Rattle.ocl_parser.proofs.DeclareComplete.{NameEnds, declarator_complete, declare_complete}
use Rattle.ocl_parser.proofs.StmtComplete.{NoElse, items_not, item_type, first_type, body_assign, first_assign, step_assign, test_as, return_as, all_stmts, all_stmts_none, AlikeStmt, self_alike, IsRead, to_item, ends_stmt, assign_from, call_read, number_in, numbers_in}

nonempty : (f : StmtFrame) (K : List StmtFrame) → nat_eq (length (f ∷ K)) 0 ≡ false
nonempty f K = grind (arith, nat_tests)

-- behind a whole `if` without `else` none follows
if_alike : (x : StmtTree) (J : List StmtFrame) (test : ExprTree) (body : StmtTree) (K : List StmtFrame) →
    AlikeStmt (takes_else body) x J body (ThenFrame test ∷ K) → AlikeStmt true x J (IfTree test body) K
if_alike x J test body K a = record { finishes = by_case }
  where
    by_case : (b : Bool) → (b ≡ true → true ≡ false) → finished b x J ≡ finished b (IfTree test body) K
    by_case true h = absurd (true≢false (h refl))
    by_case false h = a.finishes false (λ e. absurd (true≢false (sym e)))

module _ (accepts : StmtFocus → List StmtFrame → Rest) (T : TakesStmts accepts) where
  -- a whole statement in a block is an item of it
  after_in : (s x : StmtTree) (J : List StmtFrame) (done : StmtTrees) (K : List StmtFrame) → AlikeStmt (takes_else s) x J s (BlockFrame done ∷ K) →
      (ts : List Token) → NoElse ts → accepts ItemStart (BlockFrame (and_stmt done s) ∷ K) ts → accepts (Finished x) J ts
  after_in s x J done K a [] n h = absurd n
  after_in s x J done K a (t ∷ ts) n h =
      T.alike t ts (Finished x) J ItemStart (BlockFrame (and_stmt done s) ∷ K)
      (ap (λ b. finished_step t.kind t.pos (finished b x J)) n ∙
      ap (finished_step t.kind t.pos) (a.finishes false (λ e. absurd (true≢false (sym e))))) h

  after_item : (s x : StmtTree) (J : List StmtFrame) (done : StmtTrees) (K : List StmtFrame) → AlikeStmt (takes_else s) x J s (BlockFrame done ∷ K) →
      (ss : StmtTrees) (k : Rest) → Leads (items_text ss (mark CloseBrace k)) (accepts ItemStart (BlockFrame (and_stmt done s) ∷ K)) →
      Leads (items_text ss (mark CloseBrace k)) (accepts (Finished x) J)
  after_item s x J done K a ss k f = record { by = λ ts h. after_in s x J done K a ts (items_not ss k ts h) (f.by ts h) }

  plain_item : (s : StmtTree) → IsRead accepts T s → (ss : StmtTrees) (done : StmtTrees) (K : List StmtFrame) (k : Rest) →
      Leads (items_text ss (mark CloseBrace k)) (accepts ItemStart (BlockFrame (and_stmt done s) ∷ K)) →
      Leads (stmt_text s (items_text ss (mark CloseBrace k))) (accepts ItemStart (BlockFrame done ∷ K))
  plain_item s r ss done K k f =
      to_item accepts T (BlockFrame done ∷ K) s _ (r (BlockFrame done) K _ (λ x J a. after_item s x J done K a ss k f))

  -- a local array
  local_words : (K : List StmtFrame) → ReadsWords (accepts LocalWord K) (λ s. accepts (LocalScalar s) K)
  local_words K = record {
    first = λ t w s ts h e a. T.goes t ts LocalWord K (LocalScalar s) K
        (ap (λ z. stmt_step z t.pos LocalWord K) h ∙ ap (λ o. local_read o K) e) a;
    more = λ t w r s ts h e a. T.goes t ts (LocalScalar r) K (LocalScalar s) K
        (ap (λ z. stmt_step z t.pos (LocalScalar r) K) h ∙ ap (λ o. local_read o K) e) a;
  }

  local_in : (K : List StmtFrame) (k : Rest) → Leads k (accepts LocalWord K) → (ts : List Token) → one IsLocalWord k ts → accepts ItemStart K ts
  local_in K k f [] h = absurd h
  local_in K k f (t ∷ ts) (inl h, r) = T.goes t ts ItemStart K LocalWord K (ap (λ z. stmt_step z t.pos ItemStart K) h) (f.by ts r)
  local_in K k f (t ∷ ts) (inr h, r) = T.goes t ts ItemStart K LocalWord K (ap (λ z. stmt_step z t.pos ItemStart K) h) (f.by ts r)

  local_item : (elem : Elem) (n : Ident) (count : ExprTree) → IsGrouped count → (ss : StmtTrees) (done : StmtTrees) (K : List StmtFrame) (k : Rest) →
      Leads (items_text ss (mark CloseBrace k)) (accepts ItemStart (BlockFrame (and_stmt done (LocalArrayTree elem n count)) ∷ K)) →
      Leads (items_text (AndStmt (LocalArrayTree elem n count) ss) (mark CloseBrace k)) (accepts ItemStart (BlockFrame done ∷ K))
  local_item elem n count g ss done K k f =
      let s = LocalArrayTree elem n count in
      record {
        by = local_in (BlockFrame done ∷ K) _ (record {
          by = λ ts h.
              let behind : Leads (name n (mark OpenBracket (expr_text count (mark CloseBracket (mark Semicolon (items_text ss (mark CloseBrace k))))))) (accepts (LocalScalar h.0) (BlockFrame done ∷ K)) =
              stmt_at accepts T (NameKind n.text) n.pos (LocalScalar h.0) (BlockFrame done ∷ K) (LocalNamed elem n) (BlockFrame done ∷ K)
              (ap (λ z. GoesOn (LocalNamed z n) (BlockFrame done ∷ K)) h.1)
              (stmt_one accepts T (MarkKind OpenBracket) (LocalNamed elem n) (BlockFrame done ∷ K) (Reading (CountOf elem n) Operand []) (BlockFrame done ∷ K) (λ p. refl)
              (expr_mark accepts T CloseBracket refl (CountOf elem n) (BlockFrame done ∷ K) count g (Ending s) (BlockFrame done ∷ K) refl
              (ends_stmt accepts T s (BlockFrame done ∷ K)
              (after_item s s (BlockFrame done ∷ K) done K (self_alike _ _ _) ss k f)))) in
              (scalar_complete (local_words (BlockFrame done ∷ K)) _ h.0 behind).by ts h.2;
        });
      }

  -- assignments in the last part of a `for`
  closers_step : (ss : StmtTrees) (k : Rest) → Leads (more_assigns_text ss (mark CloseParen k)) Closers
  closers_step NoStmts k = closer_one CloseParen refl
  closers_step (AndStmt (AssignTree target op value pos) ss) k = closer_one Comma refl
  closers_step (AndStmt _ ss) k = record { by = λ ts h. absurd h }

  more_steps : (first : StmtTrees) (test : Option ExprTree) (done : StmtTrees) (s : StmtTree) (ss : StmtTrees) → AreOrderly ss → (K : List StmtFrame) (k : Rest) →
      Leads k (accepts BodyStart (ForFrame first test (all_stmts (and_stmt done s) ss) ∷ K)) →
      Leads (more_assigns_text ss (mark CloseParen k)) (accepts (Assigned (InStep first test done) s) K)
  more_steps first test done s NoStmts g K k f =
      stmt_one accepts T (MarkKind CloseParen) (Assigned (InStep first test done) s) K BodyStart (ForFrame first test (and_stmt done s) ∷ K) (λ p. refl) f
  more_steps first test done s (AndStmt (AssignTree target op value pos) ss) g K k f =
      stmt_one accepts T (MarkKind Comma) (Assigned (InStep first test done) s) K (AssignNext (InStep first test (and_stmt done s))) K (λ p. refl)
      (assign_complete accepts T (InStep first test (and_stmt done s)) target op value pos g.0.0 g.0.1 K _ (closers_step ss k)
      (more_steps first test (and_stmt done s) (AssignTree target op value pos) ss g.1 K k f))
  more_steps first test done s (AndStmt _ ss) g K k f = record { by = λ ts h. absurd h }

  steps_read : (first : StmtTrees) (test : Option ExprTree) (ss : StmtTrees) → AreOrderly ss → (K : List StmtFrame) (k : Rest) →
      Leads k (accepts BodyStart (ForFrame first test (all_stmts NoStmts ss) ∷ K)) →
      Leads (assigns_text ss (mark CloseParen k)) (accepts (StepStart first test) K)
  steps_read first test NoStmts g K k f =
      stmt_one accepts T (MarkKind CloseParen) (StepStart first test) K BodyStart (ForFrame first test NoStmts ∷ K) (λ p. refl) f
  steps_read first test (AndStmt (AssignTree target op value pos) ss) g K k f =
      assign_from accepts T (InStep first test NoStmts) (StepStart first test) K (λ kind h p. step_assign kind h p first test K) target op value pos g.0 _ (closers_step ss k)
      (more_steps first test NoStmts (AssignTree target op value pos) ss g.1 K k f)
  steps_read first test (AndStmt _ ss) g K k f = record { by = λ ts h. absurd h }

  -- the first part of a `for`
  closers_first : (ss : StmtTrees) (k : Rest) → Leads (more_assigns_text ss (mark Semicolon k)) Closers
  closers_first NoStmts k = closer_one Semicolon refl
  closers_first (AndStmt (AssignTree target op value pos) ss) k = closer_one Comma refl
  closers_first (AndStmt _ ss) k = record { by = λ ts h. absurd h }

  more_firsts : (done : StmtTrees) (s : StmtTree) (ss : StmtTrees) → AreOrderly ss → (K : List StmtFrame) (k : Rest) →
      Leads k (accepts (TestStart (all_stmts (and_stmt done s) ss)) K) →
      Leads (more_assigns_text ss (mark Semicolon k)) (accepts (Assigned (InFirst done) s) K)
  more_firsts done s NoStmts g K k f =
      stmt_one accepts T (MarkKind Semicolon) (Assigned (InFirst done) s) K (TestStart (and_stmt done s)) K (λ p. refl) f
  more_firsts done s (AndStmt (AssignTree target op value pos) ss) g K k f =
      stmt_one accepts T (MarkKind Comma) (Assigned (InFirst done) s) K (AssignNext (InFirst (and_stmt done s))) K (λ p. refl)
      (assign_complete accepts T (InFirst (and_stmt done s)) target op value pos g.0.0 g.0.1 K _ (closers_first ss k)
      (more_firsts (and_stmt done s) (AssignTree target op value pos) ss g.1 K k f))
  more_firsts done s (AndStmt _ ss) g K k f = record { by = λ ts h. absurd h }

  first_names : (elem : Elem) (c : Bool) (done : StmtTrees) (s : StmtTree) (ss : StmtTrees) → AreOrderly ss → (K : List StmtFrame) (k : Rest) →
      Leads k (accepts (TestStart (all_stmts (and_stmt done s) ss)) K) →
      (ts : List Token) → more_names_text elem c ss (mark Semicolon k) ts → NameEnds accepts T (InFirst done) elem c s K ts
  first_names elem c done s NoStmts g K k f [] h = h
  first_names elem c done s NoStmts g K k f (t ∷ ts) h =
      record { mark = Semicolon; kind = h.0; closes = refl; focus = TestStart (and_stmt done s); frames = K; steps = refl; accepted = f.by ts h.1 }
  first_names elem c done s (AndStmt (DeclareTree elem' c' n value) ss) g K k f [] h = h.1.1
  first_names elem c done s (AndStmt (DeclareTree elem' c' n value) ss) g K k f (t ∷ ts) h =
      let f1 = subst (λ z. Leads k (accepts (TestStart (all_stmts (and_stmt (and_stmt done s) (DeclareTree z c' n value)) ss)) K)) h.0 f in
      let f2 = subst (λ z. Leads k (accepts (TestStart (all_stmts (and_stmt (and_stmt done s) (DeclareTree elem z n value)) ss)) K)) h.1.0 f1 in
      record {
        mark = Comma;
        kind = h.1.1.0;
        closes = refl;
        focus = NameNext (InFirst (and_stmt done s)) elem c;
        frames = K;
        steps = refl;
        accepted = (declarator_complete accepts T (InFirst (and_stmt done s)) elem c n value g.0 K _
            (record { by = first_names elem c (and_stmt done s) (DeclareTree elem c n value) ss g.1 K k f2 })).by ts h.1.1.1;
      }
  first_names elem c done s (AndStmt _ ss) g K k f ts h = absurd h

  first_read : (first : StmtTrees) → AreOrderly first → (K : List StmtFrame) (k : Rest) → Leads k (accepts (TestStart (all_stmts NoStmts first)) K) →
      Leads (first_text first (mark Semicolon k)) (accepts FirstStart K)
  first_read NoStmts g K k f = stmt_one accepts T (MarkKind Semicolon) FirstStart K (TestStart NoStmts) K (λ p. refl) f
  first_read (AndStmt (DeclareTree elem c n value) ss) g K k f =
      declare_complete accepts T (InFirst NoStmts) FirstStart K (λ kind h p. first_type kind h p K) elem c n value g.0 _
      (record { by = first_names elem c NoStmts (DeclareTree elem c n value) ss g.1 K k f })
  first_read (AndStmt (AssignTree target op value pos) ss) g K k f =
      assign_from accepts T (InFirst NoStmts) FirstStart K (λ kind h p. first_assign kind h p K) target op value pos g.0 _ (closers_first ss k)
      (more_firsts NoStmts (AssignTree target op value pos) ss g.1 K k f)
  first_read (AndStmt _ ss) g K k f = record { by = λ ts h. absurd h }

  test_read : (first : StmtTrees) (test : Option ExprTree) → IsGroupedIfAny test → (K : List StmtFrame) (k : Rest) → Leads k (accepts (StepStart first test) K) →
      Leads (option_text test (mark Semicolon k)) (accepts (TestStart first) K)
  test_read first None g K k f = stmt_one accepts T (MarkKind Semicolon) (TestStart first) K (StepStart first None) K (λ p. refl) f
  test_read first (Some e) g K k f =
      expr_begin accepts T (ForTest first) (TestStart first) K (λ kind h p. test_as kind h p first K) e _
      (expr_mark accepts T Semicolon refl (ForTest first) K e g (StepStart first (Some e)) K refl f)

  value_read : (value : Option ExprTree) (pos : Pos) → IsGroupedIfAny value → (K : List StmtFrame) (k : Rest) → Leads k (accepts (Finished (ReturnTree value pos)) K) →
      Leads (option_text value (mark Semicolon k)) (accepts (Returning pos) K)
  value_read None pos g K k f = stmt_one accepts T (MarkKind Semicolon) (Returning pos) K (Finished (ReturnTree None pos)) K (λ p. refl) f
  value_read (Some e) pos g K k f =
      expr_begin accepts T (ReturnOf pos) (Returning pos) K (λ kind h p. return_as kind h p pos K) e _
      (expr_mark accepts T Semicolon refl (ReturnOf pos) K e g (Finished (ReturnTree (Some e) pos)) K refl f)

  -- the `;` of a declaration
  semicolon : (elem : Elem) (c : Bool) (done : StmtTrees) (s : StmtTree) (k : Rest) (K : List StmtFrame) →
      Leads k (accepts ItemStart (BlockFrame (and_stmt done s) ∷ K)) →
      (ts : List Token) → mark Semicolon k ts → NameEnds accepts T InBlock elem c s (BlockFrame done ∷ K) ts
  semicolon elem c done s k K next [] h = h
  semicolon elem c done s k K next (t ∷ ts) h =
      record { mark = Semicolon; kind = h.0; closes = refl; focus = ItemStart; frames = BlockFrame (and_stmt done s) ∷ K; steps = refl; accepted = next.by ts h.1 }

  mutual
    pub read_stmt : (s : StmtTree) → IsOrderly s → IsRead accepts T s
    read_stmt EmptyTree g f K k on =
        stmt_one accepts T (MarkKind Semicolon) BodyStart (f ∷ K) (Finished EmptyTree) (f ∷ K) (λ p. refl) (on EmptyTree (f ∷ K) (self_alike _ _ _))
    read_stmt (BlockTree items) g f K k on =
        stmt_one accepts T (MarkKind OpenBrace) BodyStart (f ∷ K) ItemStart (BlockFrame NoStmts ∷ f ∷ K) (λ p. refl)
        (read_items items g NoStmts (f ∷ K) k
        (stmt_one accepts T (MarkKind CloseBrace) ItemStart (BlockFrame (all_stmts NoStmts items) ∷ f ∷ K) (Finished (BlockTree (all_stmts NoStmts items))) (f ∷ K)
        (λ p. ap (λ b. close_items b (all_stmts NoStmts items) (f ∷ K)) (nonempty f K))
        (subst (λ z. Leads k (accepts (Finished (BlockTree z)) (f ∷ K))) (sym (all_stmts_none items)) (on (BlockTree items) (f ∷ K) (self_alike _ _ _)))))
    read_stmt (AssignTree target op value pos) g f K k on =
        let s = AssignTree target op value pos in
        assign_from accepts T InBlock BodyStart (f ∷ K) (λ kind h p. body_assign kind h p (f ∷ K)) target op value pos g _ (closer_one Semicolon refl)
        (stmt_one accepts T (MarkKind Semicolon) (Assigned InBlock s) (f ∷ K) (Finished s) (f ∷ K) (λ p. refl) (on s (f ∷ K) (self_alike _ _ _)))
    read_stmt (CallStmtTree n args) g f K k on =
        let s = CallStmtTree n args in
        stmt_at accepts T (NameKind n.text) n.pos BodyStart (f ∷ K) (AssignNamed InBlock n) (f ∷ K) refl
        (stmt_one accepts T (MarkKind OpenParen) (AssignNamed InBlock n) (f ∷ K) (CallOpen n) (f ∷ K) (λ p. refl)
        (call_read accepts T n args g (f ∷ K) _ (ends_stmt accepts T s (f ∷ K) (on s (f ∷ K) (self_alike _ _ _)))))
    read_stmt (BarrierTree pos) g f K k on =
        let s = BarrierTree pos in
        stmt_at accepts T (WordKind Barrier) pos BodyStart (f ∷ K) (BarrierWord pos) (f ∷ K) refl
        (stmt_one accepts T (MarkKind OpenParen) (BarrierWord pos) (f ∷ K) (BarrierOpen pos) (f ∷ K) (λ p. refl)
        (record {
          by = number_in accepts T pos (f ∷ K) _ (record {
            by =
                numbers_in accepts T pos (f ∷ K) _ (ends_stmt accepts T s (f ∷ K) (on s (f ∷ K) (self_alike _ _ _)));
          });
        }))
    read_stmt (IfTree test body) g f K k on =
        stmt_one accepts T (WordKind If) BodyStart (f ∷ K) IfWord (f ∷ K) (λ p. refl)
        (stmt_one accepts T (MarkKind OpenParen) IfWord (f ∷ K) (Reading IfTest Operand []) (f ∷ K) (λ p. refl)
        (expr_mark accepts T CloseParen refl IfTest (f ∷ K) test g.0 BodyStart (ThenFrame test ∷ f ∷ K) refl
        (read_stmt body g.1 (ThenFrame test) (f ∷ K) k (λ x J a. on x J (if_alike x J test body (f ∷ K) a)))))
    read_stmt (IfElseTree test one_ other) g f K k on =
        stmt_one accepts T (WordKind If) BodyStart (f ∷ K) IfWord (f ∷ K) (λ p. refl)
        (stmt_one accepts T (MarkKind OpenParen) IfWord (f ∷ K) (Reading IfTest Operand []) (f ∷ K) (λ p. refl)
        (expr_mark accepts T CloseParen refl IfTest (f ∷ K) test g.0 BodyStart (ThenFrame test ∷ f ∷ K) refl
        (read_stmt one_ g.2 (ThenFrame test) (f ∷ K) _ (λ x J a.
        stmt_one accepts T (WordKind Else) (Finished x) J BodyStart (ElseFrame test one_ ∷ f ∷ K)
        (λ p. ap (finished_step (WordKind Else) p) (a.finishes true (λ e. g.1)))
        (read_stmt other g.3 (ElseFrame test one_) (f ∷ K) k (λ y J' a'. on y J' (record { finishes = λ b h. a'.finishes b h })))))))
    read_stmt (WhileTree test body) g f K k on =
        stmt_one accepts T (WordKind While) BodyStart (f ∷ K) WhileWord (f ∷ K) (λ p. refl)
        (stmt_one accepts T (MarkKind OpenParen) WhileWord (f ∷ K) (Reading WhileTest Operand []) (f ∷ K) (λ p. refl)
        (expr_mark accepts T CloseParen refl WhileTest (f ∷ K) test g.0 BodyStart (WhileFrame test ∷ f ∷ K) refl
        (read_stmt body g.1 (WhileFrame test) (f ∷ K) k (λ x J a. on x J (record { finishes = λ b h. a.finishes b h })))))
    read_stmt (DoTree body test) g f K k on =
        let s = DoTree body test in
        stmt_one accepts T (WordKind Do) BodyStart (f ∷ K) BodyStart (DoFrame ∷ f ∷ K) (λ p. refl)
        (read_stmt body g.0 DoFrame (f ∷ K) _ (λ x J a.
        stmt_one accepts T (WordKind While) (Finished x) J (DoWhile body) (f ∷ K)
        (λ p. ap (finished_step (WordKind While) p) (a.finishes false (λ e. absurd (true≢false (sym e)))))
        (stmt_one accepts T (MarkKind OpenParen) (DoWhile body) (f ∷ K) (Reading (DoTest body) Operand []) (f ∷ K) (λ p. refl)
        (expr_mark accepts T CloseParen refl (DoTest body) (f ∷ K) test g.1 (Ending s) (f ∷ K) refl
        (ends_stmt accepts T s (f ∷ K) (on s (f ∷ K) (self_alike _ _ _)))))))
    read_stmt (ForTree first test step body) g f K k on =
        stmt_one accepts T (WordKind For) BodyStart (f ∷ K) ForWord (f ∷ K) (λ p. refl)
        (stmt_one accepts T (MarkKind OpenParen) ForWord (f ∷ K) FirstStart (f ∷ K) (λ p. refl)
        (first_read first g.0 (f ∷ K) _
        (subst (λ z. Leads (option_text test (mark Semicolon (assigns_text step (mark CloseParen (stmt_text body k))))) (accepts (TestStart z) (f ∷ K))) (sym (all_stmts_none first))
        (test_read first test g.1 (f ∷ K) _
        (steps_read first test step g.2 (f ∷ K) _
        (subst (λ z. Leads (stmt_text body k) (accepts BodyStart (ForFrame first test z ∷ f ∷ K))) (sym (all_stmts_none step))
        (read_stmt body g.3 (ForFrame first test step) (f ∷ K) k (λ x J a. on x J (record { finishes = λ b h. a.finishes b h })))))))))
    read_stmt (BreakTree pos) g f K k on =
        stmt_at accepts T (WordKind Break) pos BodyStart (f ∷ K) (Ending (BreakTree pos)) (f ∷ K) refl
        (ends_stmt accepts T (BreakTree pos) (f ∷ K) (on (BreakTree pos) (f ∷ K) (self_alike _ _ _)))
    read_stmt (ContinueTree pos) g f K k on =
        stmt_at accepts T (WordKind Continue) pos BodyStart (f ∷ K) (Ending (ContinueTree pos)) (f ∷ K) refl
        (ends_stmt accepts T (ContinueTree pos) (f ∷ K) (on (ContinueTree pos) (f ∷ K) (self_alike _ _ _)))
    read_stmt (ReturnTree value pos) g f K k on =
        stmt_at accepts T (WordKind Return) pos BodyStart (f ∷ K) (Returning pos) (f ∷ K) refl
        (value_read value pos g (f ∷ K) k (on (ReturnTree value pos) (f ∷ K) (self_alike _ _ _)))
    read_stmt (DeclareTree elem constant n value) g f K k on = record { by = λ ts h. absurd h }
    read_stmt (LocalArrayTree elem n count) g f K k on = record { by = λ ts h. absurd h }

    pub read_items : (ss : StmtTrees) → AreOrderly ss → (done : StmtTrees) (K : List StmtFrame) (k : Rest) →
        Leads (mark CloseBrace k) (accepts ItemStart (BlockFrame (all_stmts done ss) ∷ K)) →
        Leads (items_text ss (mark CloseBrace k)) (accepts ItemStart (BlockFrame done ∷ K))
    read_items NoStmts g done K k f = f
    read_items (AndStmt (DeclareTree elem c n value) ss) g done K k f =
        let s = DeclareTree elem c n value in
        declare_complete accepts T InBlock ItemStart (BlockFrame done ∷ K) (λ kind h p. item_type kind h p (BlockFrame done ∷ K)) elem c n value g.0 _
        (record { by = read_names elem c done s ss g.1 K k f (read_items ss g.1 (and_stmt done s) K k f) })
    read_items (AndStmt (LocalArrayTree elem n count) ss) g done K k f =
        local_item elem n count g.0 ss done K k (read_items ss g.1 (and_stmt done (LocalArrayTree elem n count)) K k f)
    read_items (AndStmt s ss) g done K k f =
        plain_item s (read_stmt s g.0) ss done K k (read_items ss g.1 (and_stmt done s) K k f)

    read_names : (elem : Elem) (c : Bool) (done : StmtTrees) (s : StmtTree) (ss : StmtTrees) → AreOrderly ss → (K : List StmtFrame) (k : Rest) →
        Leads (mark CloseBrace k) (accepts ItemStart (BlockFrame (all_stmts (and_stmt done s) ss) ∷ K)) →
        Leads (items_text ss (mark CloseBrace k)) (accepts ItemStart (BlockFrame (and_stmt done s) ∷ K)) →
        (ts : List Token) → names_text elem c ss (mark CloseBrace k) ts → NameEnds accepts T InBlock elem c s (BlockFrame done ∷ K) ts
    read_names elem c done s (AndStmt (DeclareTree elem' c' n value) ss) g K k f next ts (inl h) =
        semicolon elem c done s (items_text (AndStmt (DeclareTree elem' c' n value) ss) (mark CloseBrace k)) K next ts h
    read_names elem c done s (AndStmt (DeclareTree elem' c' n value) ss) g K k f next [] (inr h) = h.1.1
    read_names elem c done s (AndStmt (DeclareTree elem' c' n value) ss) g K k f next (t ∷ ts) (inr h) =
        let f1 = subst (λ z. Leads (mark CloseBrace k) (accepts ItemStart (BlockFrame (all_stmts (and_stmt (and_stmt done s) (DeclareTree z c' n value)) ss) ∷ K))) h.0 f in
        let f2 = subst (λ z. Leads (mark CloseBrace k) (accepts ItemStart (BlockFrame (all_stmts (and_stmt (and_stmt done s) (DeclareTree elem z n value)) ss) ∷ K))) h.1.0 f1 in
        let s' = DeclareTree elem c n value in
        record {
          mark = Comma;
          kind = h.1.1.0;
          closes = refl;
          focus = NameNext InBlock elem c;
          frames = BlockFrame (and_stmt done s) ∷ K;
          steps = refl;
          accepted = (declarator_complete accepts T InBlock elem c n value g.0 (BlockFrame (and_stmt done s) ∷ K) _
              (record { by = read_names elem c (and_stmt done s) s' ss g.1 K k f2 (read_items ss g.1 (and_stmt (and_stmt done s) s') K k f2) })).by ts h.1.1.1;
        }
    read_names elem c done s NoStmts g K k f next ts h = semicolon elem c done s (mark CloseBrace k) K next ts h
    read_names elem c done s (AndStmt x ss) g K k f next ts h = semicolon elem c done s (items_text (AndStmt x ss) (mark CloseBrace k)) K next ts h
