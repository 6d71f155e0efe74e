-- What the reader has read of a function's body goes on to the end of a file: each open construct is closed in the shortest way, so that
-- the file is within the limits where they leave room for that way.
use Rattle.std.proofs.Common.{◌≡◌, refl, sym, ap, ◌∙◌, arith, Bool, true, false, cond, nat_eq, length, List, [], ◌∷◌, ◌++◌, Option, Some, None}
use Rattle.std.proofs.lemmas.Bool.Decides.{nat_tests}
use Rattle.vx_base.specs.declared.types.Elem.{Elem}
use Rattle.vx_base.specs.declared.types.Pos.{Pos}
use Rattle.ocl_ast.specs.declared.exprs.Ident.{Ident}
use Rattle.ocl_ast.specs.declared.stmts.AssignOp.{AssignOp}
use Rattle.ocl_ast.specs.declared.stmts.AssignOp.TheVariants.{Up}
use Rattle.ocl_ast.specs.declared.units.Param.{Param}
use Rattle.ocl_ast.specs.Trees.{FunctionTree, ExprTree, NumberTree, NameTree, IndexTree, CallTree, ParenTree, NoArgs, TargetTree, NameTarget, IndexTarget, StmtTree, DeclareTree, LocalArrayTree, AssignTree, CallStmtTree, BarrierTree, DoTree, ReturnTree, BlockTree, EmptyTree, StmtTrees, NoStmts}
use Rattle.ocl_tokens.specs.declared.marks.Mark.TheVariants.{OpenParen, CloseParen, CloseBrace, OpenBracket, CloseBracket, Semicolon, Colon, PlusPlus}
use Rattle.ocl_tokens.specs.declared.tokens.Token.{Token}
use Rattle.ocl_tokens.specs.declared.tokens.TokenKind.{TokenKind}
use Rattle.ocl_tokens.specs.declared.tokens.TokenKind.TheVariants.{Name as NameKind, Word as WordKind, Number as NumberKind, Mark as MarkKind, End}
use Rattle.ocl_tokens.specs.declared.words.Word.TheVariants.{Int, While}
use Rattle.ocl_parser.specs.Scalars.{scalar_elem}
use Rattle.ocl_ast.specs.Measures.{levels}
use Rattle.ocl_parser.specs.Limits.{IsLowExpr, IsLow, IsWithin, AreWithin}
use Rattle.ocl_parser.specs.Runs.{run, go_on}
use Rattle.ocl_parser.specs.ExprSteps.{and_arg, standing, ends, closed_by, settled, close_standing, expr_step}
use Rattle.ocl_parser.specs.StmtSteps.{StmtNext, GoesOn, Closes, and_stmt, declared_end, declared_step, assign_end, counted_named, close_items, end_step, reading_step, placed, ends_with, completed, finished, is_else, finished_step, stmt_step}
use Rattle.ocl_parser.specs.UnitSteps.{Reads, inside_step, unit_step}
use Rattle.ocl_parser.specs.declared.scalars.Scalar.{Scalar}
use Rattle.ocl_parser.specs.declared.scalars.Scalar.TheVariants.{Ints}
use Rattle.ocl_parser.specs.declared.scalars.Sign.TheVariants.{NoSign}
use Rattle.ocl_parser.specs.declared.states.ExprFocus.{ExprFocus}
use Rattle.ocl_parser.specs.declared.states.ExprFocus.TheVariants.{Operand, Named, Opened, Casting, Calling, Done}
use Rattle.ocl_parser.specs.declared.states.ExprFrame.{ExprFrame}
use Rattle.ocl_parser.specs.declared.states.ExprFrame.TheVariants.{Unary as UnaryFrame, Cast as CastFrame, Between as InfixFrame, Test as TestFrame, Other as OtherFrame, Index as IndexFrame, Call as ArgsFrame, Paren as ParenFrame}
use Rattle.ocl_parser.specs.declared.operators.Infix.{Infix}
use Rattle.ocl_parser.specs.declared.states.Head.{Head}
use Rattle.ocl_parser.specs.declared.states.Part.{Part}
use Rattle.ocl_parser.specs.declared.states.Part.TheVariants.{InBlock, InFirst, InStep}
use Rattle.ocl_parser.specs.declared.states.Purpose.{Purpose}
use Rattle.ocl_parser.specs.declared.states.Purpose.TheVariants.{InitOf, CountOf, IndexOf, CountedIndexOf, ValueOf, ArgsOf, IfTest, WhileTest, DoTest, ForTest, ReturnOf}
use Rattle.ocl_parser.specs.declared.states.StmtFocus.{StmtFocus}
use Rattle.ocl_parser.specs.declared.states.StmtFocus.TheVariants.{ItemStart, BodyStart, Finished, Ending, Reading, IfWord, WhileWord, ForWord, DoWhile, BarrierWord, BarrierOpen, BarrierNumber, QualifiersRead, ScalarRead, TypeRead, NameNext, Declared, LocalWord, LocalScalar, LocalNamed, AssignNext, AssignNamed, CountedBefore, CountedNamed, Targeted, Assigned, CallOpen, FirstStart, TestStart, StepStart, Returning}
use Rattle.ocl_parser.specs.declared.states.StmtFrame.{StmtFrame}
use Rattle.ocl_parser.specs.declared.states.StmtFrame.TheVariants.{Block as BlockFrame, Then as ThenFrame, Else as ElseFrame, While as WhileFrame, Do as DoFrame, For as ForFrame}
use Rattle.ocl_parser.specs.declared.states.UnitFocus.{UnitFocus}
use Rattle.ocl_parser.specs.declared.states.UnitFocus.TheVariants.{Outside, Inside}
use Rattle.ocl_parser.proofs.ExprLimits.{closed_fits, test_closes, index_closes, args_close, paren_closes, paren_opens, cast_opens}
use Rattle.ocl_parser.proofs.FitLaws.{items_fit, block_fits, first_fits, plain_fits, value_fits, for_body, for_begins, head_begins, args_low, completed_fits, body_fits, inner_fits, functions_within}
use Rattle.ocl_parser.proofs.Fits.{WholeFits, PartFits, AssignedFits, PurposeFits, StmtFits, UnitFits}

-- tokens that are made, and what they name
abbrev pub somewhere : Pos
somewhere = record { line = 1; col = 1 }

abbrev pub made : TokenKind → Token
made kind = record { kind = kind; start = 0; end = 0; pos = somewhere; made = false }

abbrev pub some_name : Ident
some_name = record { text = []; pos = somewhere }

abbrev zero_tree : ExprTree
zero_tree = NumberTree 0 false somewhere

-- Some tokens lead from here to the end of a file, which is within the limits where they leave room for it.
abbrev pub Ends : UnitFocus → List FunctionTree → Type 0
Ends focus fs = (ts : List Token) × (gs : List FunctionTree) × (run focus fs ts ≡ Some gs) × (UnitFits focus → AreWithin fs → AreWithin gs)

abbrev pub StmtEnds : StmtFocus → List StmtFrame → Type 0
StmtEnds focus K = (head : Head) (ps : List Param) (fs : List FunctionTree) → Ends (Inside head ps focus K) fs

pub outside_ends : (fs : List FunctionTree) → Ends Outside fs
outside_ends fs = (made End ∷ [], fs, refl, λ u w. w)

pub reads_ends : (kind : TokenKind) (focus next : UnitFocus) (fs : List FunctionTree) → unit_step kind somewhere focus ≡ Reads next → (UnitFits focus → UnitFits next) → Ends next fs →
    Ends focus fs
reads_ends kind focus next fs e fit h = (made kind ∷ h.0, h.1, ap (λ n. go_on n fs (λ f all. run f all h.0)) e ∙ h.2, λ u w. h.3 (fit u) w)

-- the tokens' first leads from the focus to the next one
goes_run : (kind : TokenKind) (focus : StmtFocus) (K : List StmtFrame) (next : StmtNext) (head : Head) (ps : List Param) (fs : List FunctionTree) (ts : List Token) →
    stmt_step kind somewhere focus K ≡ next →
    run (Inside head ps focus K) fs (made kind ∷ ts) ≡ go_on (inside_step next head ps) fs (λ f all. run f all ts)
goes_run kind focus K next head ps fs ts e = ap (λ n. go_on (inside_step n head ps) fs (λ f all. run f all ts)) e

goes : (kind : TokenKind) (focus : StmtFocus) (K : List StmtFrame) (next : StmtFocus) (J : List StmtFrame) → stmt_step kind somewhere focus K ≡ GoesOn next J →
    (StmtFits focus K → StmtFits next J) → StmtEnds next J → StmtEnds focus K
goes kind focus K next J e fit h =
    λ head ps fs. let x : Ends (Inside head ps next J) fs = h head ps fs in
    (made kind ∷ x.0, x.1, goes_run kind focus K (GoesOn next J) head ps fs x.0 e ∙ x.2, λ u w. x.3 (fit u) w)

-- A whole statement: the first token behind it is no `else`.
abbrev WholeEnds : StmtTree → List StmtFrame → Type 0
WholeEnds s K =
    (kind : TokenKind) × (is_else kind ≡ false) ×
    ((head : Head) (ps : List Param) (fs : List FunctionTree) →
    (ts : List Token) × (gs : List FunctionTree) × (run (Inside head ps (Finished s) K) fs (made kind ∷ ts) ≡ Some gs) × (WholeFits s K → AreWithin fs → AreWithin gs))

whole : (s : StmtTree) (K : List StmtFrame) → WholeEnds s K → StmtEnds (Finished s) K
whole s K w =
    λ head ps fs.
    let x : (ts : List Token) × (gs : List FunctionTree) × (run (Inside head ps (Finished s) K) fs (made w.0 ∷ ts) ≡ Some gs) × (WholeFits s K → AreWithin fs → AreWithin gs)
    = w.2 head ps fs in
    (made w.0 ∷ x.0, x.1, x.2, x.3)

whole_by : (kind : TokenKind) (s : StmtTree) (K : List StmtFrame) (next : StmtFocus) (J : List StmtFrame) → is_else kind ≡ false →
    stmt_step kind somewhere (Finished s) K ≡ GoesOn next J → (WholeFits s K → StmtFits next J) → StmtEnds next J → WholeEnds s K
whole_by kind s K next J k e fit h = (
  kind,
  k,
  λ head ps fs. let x : Ends (Inside head ps next J) fs = h head ps fs in
      (x.0, x.1, goes_run kind (Finished s) K (GoesOn next J) head ps fs x.0 e ∙ x.2, λ u w. x.3 (fit u) w),
)

whole_closes : (s : StmtTree) (K : List StmtFrame) (items : StmtTrees) → stmt_step (MarkKind CloseBrace) somewhere (Finished s) K ≡ Closes items →
    (WholeFits s K → IsWithin items) → WholeEnds s K
whole_closes s K items e fit = (
  MarkKind CloseBrace,
  refl,
  λ head ps fs.
      let f : FunctionTree = record { kernel = head.kernel; name = head.name; gives = head.gives; params = ps; body = items } in
      let x : Ends Outside (fs ++ (f ∷ [])) = outside_ends (fs ++ (f ∷ [])) in
      (x.0, x.1, goes_run (MarkKind CloseBrace) (Finished s) K (Closes items) head ps fs x.0 e ∙ x.2, λ u w. x.3 tt (functions_within fs f w (fit u))),
)

-- a frame that the statement ends
step_alike : (kind : TokenKind) (f : StmtFrame) (s : StmtTree) (K : List StmtFrame) → is_else kind ≡ false → ends_with false f ≡ true →
    stmt_step kind somewhere (Finished s) (f ∷ K) ≡ stmt_step kind somewhere (Finished (completed f s)) K
step_alike kind f s K k h =
    ap (λ b. finished_step kind somewhere (finished b s (f ∷ K))) k ∙
    (ap (λ c. finished_step kind somewhere (cond c (finished false (completed f s) K) (placed s (f ∷ K)))) h ∙
    ap (λ b. finished_step kind somewhere (finished b (completed f s) K)) (sym k))

alike : (f : StmtFrame) (s : StmtTree) (K : List StmtFrame) → ends_with false f ≡ true → WholeEnds (completed f s) K → WholeEnds s (f ∷ K)
alike f s K h w = (
  w.0,
  w.1,
  λ head ps fs.
      let x : (ts : List Token) × (gs : List FunctionTree) × (run (Inside head ps (Finished (completed f s)) K) fs (made w.0 ∷ ts) ≡ Some gs) ×
      (WholeFits (completed f s) K → AreWithin fs → AreWithin gs)
      = w.2 head ps fs in
      (x.0, x.1, goes_run w.0 (Finished s) (f ∷ K) _ head ps fs x.0 (step_alike w.0 f s K w.1 h) ∙ x.2, λ u v. x.3 ((completed_fits false f s K h).0 u) v),
)

-- The outermost frame is a block, the function's body.
abbrev pub IsRooted : List StmtFrame → Type 0
IsRooted [] = ⊥
IsRooted (BlockFrame items ∷ []) = Unit {0}
IsRooted (BlockFrame items ∷ f ∷ K) = IsRooted (f ∷ K)
IsRooted (ThenFrame test ∷ K) = IsRooted K
IsRooted (ElseFrame test body ∷ K) = IsRooted K
IsRooted (WhileFrame test ∷ K) = IsRooted K
IsRooted (DoFrame ∷ K) = IsRooted K
IsRooted (ForFrame first test step ∷ K) = IsRooted K

-- The innermost frame is a block.
abbrev pub IsInBlock : List StmtFrame → Type 0
IsInBlock [] = ⊥
IsInBlock (BlockFrame items ∷ K) = Unit {0}
IsInBlock (ThenFrame test ∷ K) = ⊥
IsInBlock (ElseFrame test body ∷ K) = ⊥
IsInBlock (WhileFrame test ∷ K) = ⊥
IsInBlock (DoFrame ∷ K) = ⊥
IsInBlock (ForFrame first test step ∷ K) = ⊥

pub no_frames : (items : StmtTrees) → close_items (nat_eq (length {A = StmtFrame} []) 0) items [] ≡ Closes items
no_frames items = let e : nat_eq (length {A = StmtFrame} []) 0 ≡ true = grind (arith, nat_tests) in ap (λ b. close_items b items []) e

pub more_frames : (items : StmtTrees) (f : StmtFrame) (K : List StmtFrame) → close_items (nat_eq (length (f ∷ K)) 0) items (f ∷ K) ≡ GoesOn (Finished (BlockTree items)) (f ∷ K)
more_frames items f K = let e : nat_eq (length (f ∷ K)) 0 ≡ false = grind (arith, nat_tests) in ap (λ b. close_items b items (f ∷ K)) e

whole_ends : (s : StmtTree) (K : List StmtFrame) → IsRooted K → WholeEnds s K
whole_ends s [] r = absurd r
whole_ends s (BlockFrame items ∷ []) r = whole_closes s (BlockFrame items ∷ []) (and_stmt items s) (no_frames (and_stmt items s)) (λ x. (body_fits (and_stmt items s)).0 ((items_fit items s []).0 x))
whole_ends s (BlockFrame items ∷ f ∷ K) r =
    let t : StmtTree = BlockTree (and_stmt items s) in
    whole_by (MarkKind CloseBrace) s (BlockFrame items ∷ f ∷ K) (Finished t) (f ∷ K) refl (more_frames (and_stmt items s) f K)
    (λ x. (inner_fits (and_stmt items s) f K).0 ((items_fit items s (f ∷ K)).0 x)) (whole t (f ∷ K) (whole_ends t (f ∷ K) r))
whole_ends s (ThenFrame test ∷ K) r = alike (ThenFrame test) s K refl (whole_ends (completed (ThenFrame test) s) K r)
whole_ends s (ElseFrame test body ∷ K) r = alike (ElseFrame test body) s K refl (whole_ends (completed (ElseFrame test body) s) K r)
whole_ends s (WhileFrame test ∷ K) r = alike (WhileFrame test) s K refl (whole_ends (completed (WhileFrame test) s) K r)
whole_ends s (ForFrame first test step ∷ K) r = alike (ForFrame first test step) s K refl (whole_ends (completed (ForFrame first test step) s) K r)
whole_ends s (DoFrame ∷ K) r =
    whole_by (WordKind While) s (DoFrame ∷ K) (DoWhile s) K refl refl (λ x. (omega (arith, x.0), x.1, x.2.1))
    (goes (MarkKind OpenParen) (DoWhile s) K (Reading (DoTest s) Operand []) K refl (λ x. (x, (omega arith, tt)))
    (goes (NumberKind 0 false) (Reading (DoTest s) Operand []) K (Reading (DoTest s) (Done zero_tree) []) K refl (λ x. x)
    (goes (MarkKind CloseParen) (Reading (DoTest s) (Done zero_tree) []) K (Ending (DoTree s zero_tree)) K refl (λ x. (x.0.0, (x.0.1, omega arith), x.0.2))
    (goes (MarkKind Semicolon) (Ending (DoTree s zero_tree)) K (Finished (DoTree s zero_tree)) K refl (λ x. x)
    (whole (DoTree s zero_tree) K (whole_ends (DoTree s zero_tree) K r))))))

finished_ends : (s : StmtTree) (K : List StmtFrame) → IsRooted K → StmtEnds (Finished s) K
finished_ends s K r = whole s K (whole_ends s K r)

ending_ends : (s : StmtTree) (K : List StmtFrame) → IsRooted K → StmtEnds (Ending s) K
ending_ends s K r = goes (MarkKind Semicolon) (Ending s) K (Finished s) K refl (λ x. x) (finished_ends s K r)

body_ends : (K : List StmtFrame) → IsRooted K → StmtEnds BodyStart K
body_ends K r = goes (MarkKind Semicolon) BodyStart K (Finished EmptyTree) K refl (λ x. (x.0, tt, x.1)) (finished_ends EmptyTree K r)

pub item_ends : (K : List StmtFrame) → IsInBlock K → IsRooted K → StmtEnds ItemStart K
item_ends [] i r = absurd i
item_ends (BlockFrame items ∷ K) i r =
    goes (MarkKind Semicolon) ItemStart (BlockFrame items ∷ K) (Finished EmptyTree) (BlockFrame items ∷ K) refl (λ x. (x.0, tt, x.1))
    (finished_ends EmptyTree (BlockFrame items ∷ K) r)
item_ends (ThenFrame test ∷ K) i r = absurd i
item_ends (ElseFrame test body ∷ K) i r = absurd i
item_ends (WhileFrame test ∷ K) i r = absurd i
item_ends (DoFrame ∷ K) i r = absurd i
item_ends (ForFrame first test step ∷ K) i r = absurd i

-- the head of a `for`
step_ends : (first : StmtTrees) (test : Option ExprTree) (K : List StmtFrame) → IsRooted K → StmtEnds (StepStart first test) K
step_ends first test K r =
    goes (MarkKind CloseParen) (StepStart first test) K BodyStart (ForFrame first test NoStmts ∷ K) refl (λ x. (for_body first test NoStmts K).0 ((for_begins first test K).0 x))
    (body_ends (ForFrame first test NoStmts ∷ K) r)

test_ends : (first : StmtTrees) (K : List StmtFrame) → IsRooted K → StmtEnds (TestStart first) K
test_ends first K r = goes (MarkKind Semicolon) (TestStart first) K (StepStart first None) K refl (λ x. (x.0, x.1, tt, x.2)) (step_ends first None K r)

-- the punctuators that close an expression
data Closer : Type 0 where
  Semi : Closer
  Bracket : Closer
  Paren : Closer
  Dots : Closer

abbrev closer : Closer → TokenKind
closer Semi = MarkKind Semicolon
closer Bracket = MarkKind CloseBracket
closer Paren = MarkKind CloseParen
closer Dots = MarkKind Colon

-- A closer leads on, where this holds within the limits.
abbrev CloseEnds : Type 0 → (TokenKind → StmtNext) → Type 0
CloseEnds before step = (c : Closer) × (next : StmtFocus) × (J : List StmtFrame) × (step (closer c) ≡ GoesOn next J) × (before → StmtFits next J) × StmtEnds next J

close_from : {A B : Type 0} (step : TokenKind → StmtNext) → (A → B) → CloseEnds B step → CloseEnds A step
close_from step f h = (h.0, h.1, h.2, h.3, λ x. h.4 (f x), h.5)

close_goes : (focus : StmtFocus) (K : List StmtFrame) (step : TokenKind → StmtNext) → ((c : Closer) → stmt_step (closer c) somewhere focus K ≡ step (closer c)) →
    CloseEnds (StmtFits focus K) step → StmtEnds focus K
close_goes focus K step e h = goes (closer h.0) focus K h.1 h.2 (e h.0 ∙ h.3) h.4 h.5

assigned_ends : (place : Part) (s : StmtTree) (K : List StmtFrame) → IsRooted K → CloseEnds (AssignedFits place s K) (λ kind. assign_end kind place s K)
assigned_ends InBlock s K r = (Semi, Finished s, K, refl, λ x. x, finished_ends s K r)
assigned_ends (InFirst done) s K r = (Semi, TestStart (and_stmt done s), K, refl, λ x. x, test_ends (and_stmt done s) K r)
assigned_ends (InStep first test done) s K r =
    (Paren, BodyStart, ForFrame first test (and_stmt done s) ∷ K, refl, (for_body first test (and_stmt done s) K).0, body_ends (ForFrame first test (and_stmt done s) ∷ K) r)

-- A declaration may stand here.
abbrev pub CanDeclare : Part → List StmtFrame → Type 0
CanDeclare InBlock K = IsInBlock K
CanDeclare (InFirst done) K = Unit {0}
CanDeclare (InStep first test done) K = ⊥

declared_ends : (place : Part) (elem : Elem) (constant : Bool) (s : StmtTree) (K : List StmtFrame) → levels 1 s ≡ 1 → CanDeclare place K → IsRooted K →
    CloseEnds (PartFits place K × IsLow s) (λ kind. declared_end kind place elem constant s K)
declared_ends InBlock elem constant s [] e i r = absurd i
declared_ends InBlock elem constant s (BlockFrame items ∷ []) e i r =
    (Semi, ItemStart, BlockFrame (and_stmt items s) ∷ [], refl, (block_fits items s [] e).0, item_ends (BlockFrame (and_stmt items s) ∷ []) tt r)
declared_ends InBlock elem constant s (BlockFrame items ∷ f ∷ K) e i r =
    (Semi, ItemStart, BlockFrame (and_stmt items s) ∷ f ∷ K, refl, (block_fits items s (f ∷ K) e).0, item_ends (BlockFrame (and_stmt items s) ∷ f ∷ K) tt r)
declared_ends InBlock elem constant s (ThenFrame test ∷ K) e i r = absurd i
declared_ends InBlock elem constant s (ElseFrame test body ∷ K) e i r = absurd i
declared_ends InBlock elem constant s (WhileFrame test ∷ K) e i r = absurd i
declared_ends InBlock elem constant s (DoFrame ∷ K) e i r = absurd i
declared_ends InBlock elem constant s (ForFrame first test step ∷ K) e i r = absurd i
declared_ends (InFirst done) elem constant s K e i r = (Semi, TestStart (and_stmt done s), K, refl, (first_fits done s K e).0, test_ends (and_stmt done s) K r)
declared_ends (InStep first test done) elem constant s K e i r = absurd i

target_ends : (place : Part) (target : TargetTree) (K : List StmtFrame) → IsRooted K → StmtEnds (Targeted place target) K
target_ends place target K r =
    let s : StmtTree = AssignTree target Up None somewhere in
    goes (MarkKind PlusPlus) (Targeted place target) K (Assigned place s) K refl (plain_fits place target Up somewhere K).0
    (close_goes (Assigned place s) K (λ kind. assign_end kind place s K) (λ c. refl) (assigned_ends place s K r))

-- What must hold where an expression for this purpose is read.
abbrev pub CanRead : Purpose → List StmtFrame → Type 0
CanRead (InitOf place elem constant n) K = CanDeclare place K
CanRead _ K = Unit {0}

purpose_ends : (purpose : Purpose) (e : ExprTree) (K : List StmtFrame) → CanRead purpose K → IsRooted K →
    CloseEnds (PurposeFits purpose K × IsLowExpr e) (λ kind. end_step kind purpose e K)
purpose_ends (InitOf place elem constant n) e K i r = declared_ends place elem constant (DeclareTree elem constant n (Some e)) K refl i r
purpose_ends (CountOf elem n) e K i r = (Bracket, Ending (LocalArrayTree elem n e), K, refl, λ x. (x.0.0, x.1, x.0.1), ending_ends (LocalArrayTree elem n e) K r)
purpose_ends (IndexOf place n at) e K i r = (Bracket, Targeted place (IndexTarget n e at), K, refl, λ x. x, target_ends place (IndexTarget n e at) K r)
purpose_ends (CountedIndexOf place op pos n at) e K i r =
    let s : StmtTree = AssignTree (IndexTarget n e at) op None pos in
    (Bracket, Assigned place s, K, refl, (plain_fits place (IndexTarget n e at) op pos K).0, close_goes (Assigned place s) K (λ kind. assign_end kind place s K) (λ c. refl) (assigned_ends place s K r))
purpose_ends (ValueOf place target op pos) e K i r =
    close_from (λ kind. assign_end kind place (AssignTree target op (Some e) pos) K) (value_fits place target op pos e K).0
    (assigned_ends place (AssignTree target op (Some e) pos) K r)
purpose_ends (ArgsOf n args) e K i r = (Paren, Ending (CallStmtTree n (and_arg args e)), K, refl, λ x. (x.0.0.0, (args_low args e).0 (x.0.1, x.1), x.0.0.1), ending_ends (CallStmtTree n (and_arg args e)) K r)
purpose_ends IfTest e K i r = (Paren, BodyStart, ThenFrame e ∷ K, refl, λ x. (omega (arith, x.0.0), (x.1, x.0.1)), body_ends (ThenFrame e ∷ K) r)
purpose_ends WhileTest e K i r = (Paren, BodyStart, WhileFrame e ∷ K, refl, λ x. (omega (arith, x.0.0), (x.1, x.0.1)), body_ends (WhileFrame e ∷ K) r)
purpose_ends (DoTest body) e K i r = (Paren, Ending (DoTree body e), K, refl, λ x. (x.0.0, (x.0.1, x.1), x.0.2), ending_ends (DoTree body e) K r)
purpose_ends (ForTest first) e K i r = (Semi, StepStart first (Some e), K, refl, λ x. (x.0.0, x.0.1, x.1, x.0.2), step_ends first (Some e) K r)
purpose_ends (ReturnOf at) e K i r = (Semi, Finished (ReturnTree (Some e) at), K, refl, λ x. (x.0.0, x.1, x.0.1), finished_ends (ReturnTree (Some e) at) K r)

-- a closer behind a whole operand, and behind a name
close_done : (c : Closer) (e : ExprTree) (inner : List ExprFrame) → expr_step (closer c) somewhere (Done e) inner ≡ close_standing (closer c) (settled 0 e inner)
close_done Semi e inner = refl
close_done Bracket e inner = refl
close_done Paren e inner = refl
close_done Dots e inner = refl

close_named : (c : Closer) (n : Ident) (inner : List ExprFrame) → expr_step (closer c) somewhere (Named n) inner ≡ expr_step (closer c) somewhere (Done (NameTree n)) inner
close_named Semi n inner = refl
close_named Bracket n inner = refl
close_named Paren n inner = refl
close_named Dots n inner = refl

infix_ends : (op : Infix) (left : ExprTree) (pos : Pos) → ends 0 (InfixFrame op left pos) ≡ true
infix_ends op left pos = grind (arith, nat_tests)

module _ (purpose : Purpose) (K : List StmtFrame) (close : (e : ExprTree) → CloseEnds (PurposeFits purpose K × IsLowExpr e) (λ kind. end_step kind purpose e K)) where
  -- A whole operand: the first token behind it is a closer.
  abbrev DoneEnds : ExprTree → List ExprFrame → Type 0
  DoneEnds e inner =
      (c : Closer) ×
      ((head : Head) (ps : List Param) (fs : List FunctionTree) →
      (ts : List Token) × (gs : List FunctionTree) × (run (Inside head ps (Reading purpose (Done e) inner) K) fs (made (closer c) ∷ ts) ≡ Some gs) ×
      (StmtFits (Reading purpose (Done e) inner) K → AreWithin fs → AreWithin gs))

  done : (e : ExprTree) (inner : List ExprFrame) → DoneEnds e inner → StmtEnds (Reading purpose (Done e) inner) K
  done e inner d =
      λ head ps fs.
      let x : (ts : List Token) × (gs : List FunctionTree) × (run (Inside head ps (Reading purpose (Done e) inner) K) fs (made (closer d.0) ∷ ts) ≡ Some gs) ×
      (StmtFits (Reading purpose (Done e) inner) K → AreWithin fs → AreWithin gs)
      = d.1 head ps fs in
      (made (closer d.0) ∷ x.0, x.1, x.2, x.3)

  done_by : (c : Closer) (e : ExprTree) (inner : List ExprFrame) (next : StmtFocus) (J : List StmtFrame) →
      stmt_step (closer c) somewhere (Reading purpose (Done e) inner) K ≡ GoesOn next J → (StmtFits (Reading purpose (Done e) inner) K → StmtFits next J) → StmtEnds next J →
      DoneEnds e inner
  done_by c e inner next J h fit x = (
    c,
    λ head ps fs. let y : Ends (Inside head ps next J) fs = x head ps fs in
        (y.0, y.1, goes_run (closer c) (Reading purpose (Done e) inner) K (GoesOn next J) head ps fs y.0 h ∙ y.2, λ u w. y.3 (fit u) w),
  )

  done_alike : (f : ExprFrame) (e : ExprTree) (inner : List ExprFrame) → ends 0 f ≡ true → DoneEnds (closed_by f e) inner → DoneEnds e (f ∷ inner)
  done_alike f e inner h d = (
    d.0,
    λ head ps fs.
        let x : (ts : List Token) × (gs : List FunctionTree) × (run (Inside head ps (Reading purpose (Done (closed_by f e)) inner) K) fs (made (closer d.0) ∷ ts) ≡ Some gs) ×
        (StmtFits (Reading purpose (Done (closed_by f e)) inner) K → AreWithin fs → AreWithin gs)
        = d.1 head ps fs in
        let step : expr_step (closer d.0) somewhere (Done e) (f ∷ inner) ≡ expr_step (closer d.0) somewhere (Done (closed_by f e)) inner
        = close_done d.0 e (f ∷ inner) ∙
        (ap (λ b. close_standing (closer d.0) (cond b (settled 0 (closed_by f e) inner) (standing e (f ∷ inner)))) h ∙
        sym (close_done d.0 (closed_by f e) inner)) in (
          x.0,
          x.1,
          goes_run (closer d.0) (Reading purpose (Done e) (f ∷ inner)) K _ head ps fs x.0 (ap (λ n. reading_step (closer d.0) purpose n K) step) ∙ x.2,
          λ u w. x.3 (u.0, (closed_fits 0 f e inner h).0 u.1) w,
        ),
  )

  done_ends : (e : ExprTree) (inner : List ExprFrame) → DoneEnds e inner
  done_ends e [] =
      let h : CloseEnds (PurposeFits purpose K × IsLowExpr e) (λ kind. end_step kind purpose e K) = close e in
      done_by h.0 e [] h.1 h.2 (ap (λ n. reading_step (closer h.0) purpose n K) (close_done h.0 e []) ∙ h.3)
      (λ x. h.4 (x.0, omega (arith, x.1.0))) h.5
  done_ends e (UnaryFrame op pos ∷ inner) = done_alike (UnaryFrame op pos) e inner refl (done_ends (closed_by (UnaryFrame op pos) e) inner)
  done_ends e (CastFrame elem pos ∷ inner) = done_alike (CastFrame elem pos) e inner refl (done_ends (closed_by (CastFrame elem pos) e) inner)
  done_ends e (InfixFrame op left pos ∷ inner) =
      done_alike (InfixFrame op left pos) e inner (infix_ends op left pos) (done_ends (closed_by (InfixFrame op left pos) e) inner)
  done_ends e (OtherFrame test one pos ∷ inner) = done_alike (OtherFrame test one pos) e inner refl (done_ends (closed_by (OtherFrame test one pos) e) inner)
  done_ends e (TestFrame test pos ∷ inner) =
      let f : ExprFrame = OtherFrame test e pos in
      done_by Dots e (TestFrame test pos ∷ inner) (Reading purpose Operand (f ∷ inner)) K refl (λ x. (x.0, (test_closes test e pos inner).0 x.1))
      (goes (NumberKind 0 false) (Reading purpose Operand (f ∷ inner)) K (Reading purpose (Done zero_tree) (f ∷ inner)) K refl (λ x. x)
      (done zero_tree (f ∷ inner) (done_alike f zero_tree inner refl (done_ends (closed_by f zero_tree) inner))))
  done_ends e (IndexFrame array pos ∷ inner) =
      done_by Bracket e (IndexFrame array pos ∷ inner) (Reading purpose (Done (IndexTree array e pos)) inner) K refl
      (λ x. (x.0, (index_closes array e pos inner).0 x.1))
      (done (IndexTree array e pos) inner (done_ends (IndexTree array e pos) inner))
  done_ends e (ArgsFrame n args ∷ inner) =
      done_by Paren e (ArgsFrame n args ∷ inner) (Reading purpose (Done (CallTree n (and_arg args e))) inner) K refl
      (λ x. (x.0, (args_close n args e inner).0 x.1))
      (done (CallTree n (and_arg args e)) inner (done_ends (CallTree n (and_arg args e)) inner))
  done_ends e (ParenFrame pos ∷ inner) =
      done_by Paren e (ParenFrame pos ∷ inner) (Reading purpose (Done (ParenTree e pos)) inner) K refl (λ x. (x.0, (paren_closes e pos inner).0 x.1))
      (done (ParenTree e pos) inner (done_ends (ParenTree e pos) inner))

  operand_ends : (inner : List ExprFrame) → StmtEnds (Reading purpose Operand inner) K
  operand_ends inner =
      goes (NumberKind 0 false) (Reading purpose Operand inner) K (Reading purpose (Done zero_tree) inner) K refl (λ x. x)
      (done zero_tree inner (done_ends zero_tree inner))

  named_ends : (n : Ident) (inner : List ExprFrame) → DoneEnds (NameTree n) inner → StmtEnds (Reading purpose (Named n) inner) K
  named_ends n inner d =
      λ head ps fs.
      let x : (ts : List Token) × (gs : List FunctionTree) × (run (Inside head ps (Reading purpose (Done (NameTree n)) inner) K) fs (made (closer d.0) ∷ ts) ≡ Some gs) ×
      (StmtFits (Reading purpose (Done (NameTree n)) inner) K → AreWithin fs → AreWithin gs)
      = d.1 head ps fs in (
        made (closer d.0) ∷ x.0,
        x.1,
        goes_run (closer d.0) (Reading purpose (Named n) inner) K _ head ps fs x.0 (ap (λ m. reading_step (closer d.0) purpose m K) (close_named d.0 n inner)) ∙ x.2,
        x.3,
      )

  reading_ends : (focus : ExprFocus) (inner : List ExprFrame) → StmtEnds (Reading purpose focus inner) K
  reading_ends Operand inner = operand_ends inner
  reading_ends (Named n) inner = named_ends n inner (done_ends (NameTree n) inner)
  reading_ends (Opened at) inner =
      goes (NumberKind 0 false) (Reading purpose (Opened at) inner) K (Reading purpose (Done zero_tree) (ParenFrame at ∷ inner)) K refl
      (λ x. (x.0, (paren_opens at inner).0 x.1))
      (done zero_tree (ParenFrame at ∷ inner) (done_ends zero_tree (ParenFrame at ∷ inner)))
  reading_ends (Casting s at) inner =
      goes (MarkKind CloseParen) (Reading purpose (Casting s at) inner) K (Reading purpose Operand (CastFrame (scalar_elem s) at ∷ inner)) K refl
      (λ x. (x.0, (cast_opens s at inner).0 x.1))
      (operand_ends (CastFrame (scalar_elem s) at ∷ inner))
  reading_ends (Calling n) inner =
      goes (MarkKind CloseParen) (Reading purpose (Calling n) inner) K (Reading purpose (Done (CallTree n NoArgs)) inner) K refl (λ x. (x.0, (omega (arith, x.1.0), x.1.1)))
      (done (CallTree n NoArgs) inner (done_ends (CallTree n NoArgs) inner))
  reading_ends (Done e) inner = done e inner (done_ends e inner)

expr_ends : (purpose : Purpose) (focus : ExprFocus) (inner : List ExprFrame) (K : List StmtFrame) → CanRead purpose K → IsRooted K → StmtEnds (Reading purpose focus inner) K
expr_ends purpose focus inner K i r = reading_ends purpose K (λ e. purpose_ends purpose e K i r) focus inner

-- What must hold where this has been read of a statement.
abbrev pub CanStand : StmtFocus → List StmtFrame → Type 0
CanStand ItemStart K = IsInBlock K
CanStand (Reading purpose focus inner) K = CanRead purpose K
CanStand (QualifiersRead place constant) K = CanDeclare place K
CanStand (ScalarRead place constant s) K = CanDeclare place K
CanStand (TypeRead place elem constant) K = CanDeclare place K
CanStand (NameNext place elem constant) K = CanDeclare place K
CanStand (Declared place elem constant n) K = CanDeclare place K
CanStand _ K = Unit {0}

close_declared : (c : Closer) (place : Part) (elem : Elem) (constant : Bool) (n : Ident) (K : List StmtFrame) →
    declared_step (closer c) place elem constant n K ≡ declared_end (closer c) place elem constant (DeclareTree elem constant n None) K
close_declared Semi place elem constant n K = refl
close_declared Bracket place elem constant n K = refl
close_declared Paren place elem constant n K = refl
close_declared Dots place elem constant n K = refl

name_ends : (place : Part) (elem : Elem) (constant : Bool) (n : Ident) (K : List StmtFrame) → CanDeclare place K → IsRooted K → StmtEnds (Declared place elem constant n) K
name_ends place elem constant n K i r =
    let s : StmtTree = DeclareTree elem constant n None in
    close_goes (Declared place elem constant n) K (λ kind. declared_end kind place elem constant s K) (λ c. close_declared c place elem constant n K)
    (close_from (λ kind. declared_end kind place elem constant s K) (λ x. (x, tt)) (declared_ends place elem constant s K refl i r))

type_ends : (place : Part) (constant : Bool) (s : Scalar) (K : List StmtFrame) → CanDeclare place K → IsRooted K → StmtEnds (ScalarRead place constant s) K
type_ends place constant s K i r =
    goes (NameKind []) (ScalarRead place constant s) K (Declared place (scalar_elem s) constant some_name) K refl (λ x. x)
    (name_ends place (scalar_elem s) constant some_name K i r)

close_counted : (c : Closer) (place : Part) (op : AssignOp) (at : Pos) (n : Ident) (K : List StmtFrame) →
    counted_named (closer c) somewhere place op at n K ≡ assign_end (closer c) place (AssignTree (NameTarget n) op None at) K
close_counted Semi place op at n K = refl
close_counted Bracket place op at n K = refl
close_counted Paren place op at n K = refl
close_counted Dots place op at n K = refl

counted_ends : (place : Part) (op : AssignOp) (at : Pos) (n : Ident) (K : List StmtFrame) → IsRooted K → StmtEnds (CountedNamed place op at n) K
counted_ends place op at n K r =
    let s : StmtTree = AssignTree (NameTarget n) op None at in
    close_goes (CountedNamed place op at n) K (λ kind. assign_end kind place s K) (λ c. close_counted c place op at n K)
    (close_from (λ kind. assign_end kind place s K) (λ x. (plain_fits place (NameTarget n) op at K).0 (x, tt)) (assigned_ends place s K r))

assign_ends : (place : Part) (n : Ident) (K : List StmtFrame) → IsRooted K → StmtEnds (AssignNamed place n) K
assign_ends place n K r =
    let s : StmtTree = AssignTree (NameTarget n) Up None somewhere in
    goes (MarkKind PlusPlus) (AssignNamed place n) K (Assigned place s) K refl (λ x. (plain_fits place (NameTarget n) Up somewhere K).0 (x, tt))
    (close_goes (Assigned place s) K (λ kind. assign_end kind place s K) (λ c. refl) (assigned_ends place s K r))

number_ends : (at : Pos) (K : List StmtFrame) → IsRooted K → StmtEnds (BarrierNumber at) K
number_ends at K r = goes (MarkKind CloseParen) (BarrierNumber at) K (Ending (BarrierTree at)) K refl (λ x. (x.0, tt, x.1)) (ending_ends (BarrierTree at) K r)

numbers_end : (at : Pos) (K : List StmtFrame) → IsRooted K → StmtEnds (BarrierOpen at) K
numbers_end at K r = goes (NumberKind 0 false) (BarrierOpen at) K (BarrierNumber at) K refl (λ x. x) (number_ends at K r)

count_ends : (elem : Elem) (n : Ident) (K : List StmtFrame) → IsRooted K → StmtEnds (LocalNamed elem n) K
count_ends elem n K r =
    goes (MarkKind OpenBracket) (LocalNamed elem n) K (Reading (CountOf elem n) Operand []) K refl (λ x. (x, (omega arith, tt)))
    (expr_ends (CountOf elem n) Operand [] K tt r)

local_ends : (s : Scalar) (K : List StmtFrame) → IsRooted K → StmtEnds (LocalScalar s) K
local_ends s K r = goes (NameKind []) (LocalScalar s) K (LocalNamed (scalar_elem s) some_name) K refl (λ x. x) (count_ends (scalar_elem s) some_name K r)

first_ends : (K : List StmtFrame) → IsRooted K → StmtEnds FirstStart K
first_ends K r = goes (MarkKind Semicolon) FirstStart K (TestStart NoStmts) K refl (head_begins K).0 (test_ends NoStmts K r)

-- Each state that the reader may be in inside a function's body.
pub stmt_ends : (focus : StmtFocus) (K : List StmtFrame) → CanStand focus K → IsRooted K → StmtEnds focus K
stmt_ends ItemStart K i r = item_ends K i r
stmt_ends BodyStart K i r = body_ends K r
stmt_ends (Finished s) K i r = finished_ends s K r
stmt_ends (Ending s) K i r = ending_ends s K r
stmt_ends (Reading purpose focus inner) K i r = expr_ends purpose focus inner K i r
stmt_ends IfWord K i r = goes (MarkKind OpenParen) IfWord K (Reading IfTest Operand []) K refl (λ x. (x, (omega arith, tt))) (expr_ends IfTest Operand [] K tt r)
stmt_ends WhileWord K i r = goes (MarkKind OpenParen) WhileWord K (Reading WhileTest Operand []) K refl (λ x. (x, (omega arith, tt))) (expr_ends WhileTest Operand [] K tt r)
stmt_ends ForWord K i r = goes (MarkKind OpenParen) ForWord K FirstStart K refl (λ x. x) (first_ends K r)
stmt_ends (DoWhile body) K i r = goes (MarkKind OpenParen) (DoWhile body) K (Reading (DoTest body) Operand []) K refl (λ x. (x, (omega arith, tt))) (expr_ends (DoTest body) Operand [] K tt r)
stmt_ends (BarrierWord at) K i r = goes (MarkKind OpenParen) (BarrierWord at) K (BarrierOpen at) K refl (λ x. x) (numbers_end at K r)
stmt_ends (BarrierOpen at) K i r = numbers_end at K r
stmt_ends (BarrierNumber at) K i r = number_ends at K r
stmt_ends (QualifiersRead place constant) K i r =
    goes (WordKind Int) (QualifiersRead place constant) K (ScalarRead place constant (Ints NoSign)) K refl (λ x. x) (type_ends place constant (Ints NoSign) K i r)
stmt_ends (ScalarRead place constant s) K i r = type_ends place constant s K i r
stmt_ends (TypeRead place elem constant) K i r =
    goes (NameKind []) (TypeRead place elem constant) K (Declared place elem constant some_name) K refl (λ x. x) (name_ends place elem constant some_name K i r)
stmt_ends (NameNext place elem constant) K i r =
    goes (NameKind []) (NameNext place elem constant) K (Declared place elem constant some_name) K refl (λ x. x) (name_ends place elem constant some_name K i r)
stmt_ends (Declared place elem constant n) K i r = name_ends place elem constant n K i r
stmt_ends LocalWord K i r = goes (WordKind Int) LocalWord K (LocalScalar (Ints NoSign)) K refl (λ x. x) (local_ends (Ints NoSign) K r)
stmt_ends (LocalScalar s) K i r = local_ends s K r
stmt_ends (LocalNamed elem n) K i r = count_ends elem n K r
stmt_ends (AssignNext place) K i r = goes (NameKind []) (AssignNext place) K (AssignNamed place some_name) K refl (λ x. x) (assign_ends place some_name K r)
stmt_ends (AssignNamed place n) K i r = assign_ends place n K r
stmt_ends (CountedBefore place op at) K i r = goes (NameKind []) (CountedBefore place op at) K (CountedNamed place op at some_name) K refl (λ x. x) (counted_ends place op at some_name K r)
stmt_ends (CountedNamed place op at n) K i r = counted_ends place op at n K r
stmt_ends (Targeted place target) K i r = target_ends place target K r
stmt_ends (Assigned place s) K i r = close_goes (Assigned place s) K (λ kind. assign_end kind place s K) (λ c. refl) (assigned_ends place s K r)
stmt_ends (CallOpen n) K i r = goes (MarkKind CloseParen) (CallOpen n) K (Ending (CallStmtTree n NoArgs)) K refl (λ x. (x.0, omega arith, x.1)) (ending_ends (CallStmtTree n NoArgs) K r)
stmt_ends FirstStart K i r = first_ends K r
stmt_ends (TestStart first) K i r = test_ends first K r
stmt_ends (StepStart first test) K i r = step_ends first test K r
stmt_ends (Returning at) K i r = goes (MarkKind Semicolon) (Returning at) K (Finished (ReturnTree None at)) K refl (λ x. (x.0, tt, x.1)) (finished_ends (ReturnTree None at) K r)
