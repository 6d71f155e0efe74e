-- What the reader has read of a statement, as texts.
use Rattle.std.proofs.Common.{◌≡◌, Bool, false, List, [], ◌∷◌, Option, Some, None}
use Rattle.vx_base.specs.declared.types.Elem.{Elem}
use Rattle.vx_base.specs.declared.types.Pos.{Pos}
use Rattle.ocl_ast.specs.declared.exprs.Ident.{Ident}
use Rattle.ocl_ast.specs.declared.stmts.AssignOp.{AssignOp}
use Rattle.ocl_ast.specs.declared.stmts.AssignOp.TheVariants.{Set, With, Up, Down}
use Rattle.ocl_ast.specs.Trees.{ExprTree, TargetTree, StmtTree, DeclareTree, LocalArrayTree, AssignTree, CallStmtTree, BarrierTree, DoTree, BreakTree, ContinueTree, StmtTrees, NoStmts, AndStmt}
use Rattle.ocl_tokens.specs.declared.marks.Mark.{Mark}
use Rattle.ocl_tokens.specs.declared.marks.Mark.TheVariants.{OpenParen, CloseParen, OpenBrace, CloseBrace, OpenBracket, CloseBracket, Semicolon, Comma, Bar, Equal, PlusPlus, MinusMinus}
use Rattle.ocl_tokens.specs.declared.words.Word.{Word}
use Rattle.ocl_tokens.specs.declared.words.Word.TheVariants.{If, Else, While, Do, For, Break, Continue, Return, Barrier}
use Rattle.ocl_parser.specs.Spellings.{Rest, no_text, either, given, one, mark, mark_at, word, word_at, words, name, set_mark, IsNumber}
use Rattle.ocl_parser.specs.Scalars.{scalar, scalar_words, qualifiers, declared_type}
use Rattle.ocl_parser.specs.Exprs.{expr_text, args_text, option_text}
use Rattle.ocl_parser.specs.Stmts.{target_text, assign_text, declarator_text, more_numbers_text, IsLocalWord, assigns_text, more_names_text, first_text, stmt_text, items_text}
use Rattle.ocl_parser.specs.StmtSteps.{StmtNext, GoesOn, Closes, Stops}
use Rattle.ocl_parser.specs.declared.states.Part.{Part}
use Rattle.ocl_parser.specs.declared.states.Part.TheVariants.{InBlock, InFirst, InStep}
use Rattle.ocl_parser.specs.declared.states.Purpose.{Purpose}
use Rattle.ocl_parser.specs.declared.states.Purpose.TheVariants.{InitOf, CountOf, IndexOf, CountedIndexOf, ValueOf, ArgsOf, IfTest, WhileTest, DoTest, ForTest, ReturnOf}
use Rattle.ocl_parser.specs.declared.states.StmtFocus.{StmtFocus}
use Rattle.ocl_parser.specs.declared.states.StmtFocus.TheVariants.{ItemStart, BodyStart, Finished, Ending, Reading, IfWord, WhileWord, ForWord, DoWhile, BarrierWord, BarrierOpen, BarrierNumber, QualifiersRead, ScalarRead, TypeRead, NameNext, Declared, LocalWord, LocalScalar, LocalNamed, AssignNext, AssignNamed, CountedBefore, CountedNamed, Targeted, Assigned, CallOpen, FirstStart, TestStart, StepStart, Returning}
use Rattle.ocl_parser.specs.declared.states.StmtFrame.{StmtFrame}
use Rattle.ocl_parser.specs.declared.states.StmtFrame.TheVariants.{Block as BlockFrame, Then as ThenFrame, Else as ElseFrame, While as WhileFrame, Do as DoFrame, For as ForFrame}
use Rattle.ocl_parser.proofs.Texts.{Leads, same, one_mono, words_mono, scalar_mono, expr_mono}
use Rattle.ocl_parser.proofs.ExprTexts.{args_before, args_before_mono, read_text}
use Rattle.ocl_parser.proofs.StmtTexts.{either_mono, given_mono, option_mono, qualifiers_mono, type_mono, target_mono, declarator_mono, assigns_mono, more_names_mono, first_mono, stmt_mono, items_mono}

-- statements, and more behind them
abbrev pub joined : StmtTrees → StmtTrees → StmtTrees
joined NoStmts more = more
joined (AndStmt s ss) more = AndStmt s (joined ss more)

-- items of which the last belongs to a declaration of this type that goes on
abbrev pub items_open : StmtTrees → Elem → Bool → Rest → Rest
items_open items elem constant rest ts =
    (done : StmtTrees) × (n : Ident) × (value : Option ExprTree) × (names : StmtTrees) ×
    (items ≡ joined done (AndStmt (DeclareTree elem constant n value) names)) ×
    items_text done (declared_type elem constant (declarator_text n value (more_names_text elem constant names rest))) ts

-- the names so far of the declaration in the first part of a `for`, which goes on
abbrev pub first_open : StmtTrees → Elem → Bool → Rest → Rest
first_open first elem constant rest ts =
    (n : Ident) × (value : Option ExprTree) × (names : StmtTrees) ×
    (first ≡ AndStmt (DeclareTree elem constant n value) names) ×
    declared_type elem constant (declarator_text n value (more_names_text elem constant names rest)) ts

-- the head of a `for` up to its first part, and up to its last
abbrev pub for_open : Rest → Rest
for_open rest = word For (mark OpenParen rest)

abbrev pub for_front : StmtTrees → Option ExprTree → Rest → Rest
for_front first test rest = for_open (first_text first (mark Semicolon (option_text test (mark Semicolon rest))))

-- a frame up to the statement in it
abbrev pub frame_front : StmtFrame → Rest → Rest
frame_front (BlockFrame items) rest = mark OpenBrace (items_text items rest)
frame_front (ThenFrame test) rest = word If (mark OpenParen (expr_text test (mark CloseParen rest)))
frame_front (ElseFrame test body) rest = word If (mark OpenParen (expr_text test (mark CloseParen (stmt_text body (word Else rest)))))
frame_front (WhileFrame test) rest = word While (mark OpenParen (expr_text test (mark CloseParen rest)))
frame_front DoFrame rest = word Do rest
frame_front (ForFrame first test step) rest = for_front first test (assigns_text step (mark CloseParen rest))

abbrev pub frames_front : List StmtFrame → Rest → Rest
frames_front [] rest = rest
frames_front (f ∷ K) rest = frames_front K (frame_front f rest)

-- the same where an item of a block must stand
abbrev pub item_front : List StmtFrame → Rest → Rest
item_front [] rest = no_text
item_front (BlockFrame items ∷ K) rest = frames_front K (mark OpenBrace (items_text items rest))
item_front (ThenFrame test ∷ K) rest = no_text
item_front (ElseFrame test body ∷ K) rest = no_text
item_front (WhileFrame test ∷ K) rest = no_text
item_front (DoFrame ∷ K) rest = no_text
item_front (ForFrame first test step ∷ K) rest = no_text

-- the same where the block's last declaration goes on
abbrev pub open_item : List StmtFrame → Elem → Bool → Rest → Rest
open_item [] elem constant rest = no_text
open_item (BlockFrame items ∷ K) elem constant rest = frames_front K (mark OpenBrace (items_open items elem constant rest))
open_item (ThenFrame test ∷ K) elem constant rest = no_text
open_item (ElseFrame test body ∷ K) elem constant rest = no_text
open_item (WhileFrame test ∷ K) elem constant rest = no_text
open_item (DoFrame ∷ K) elem constant rest = no_text
open_item (ForFrame first test step ∷ K) elem constant rest = no_text

-- what stands before a declaration
abbrev pub declare_front : Part → List StmtFrame → Rest → Rest
declare_front InBlock K rest = item_front K rest
declare_front (InFirst NoStmts) K rest = frames_front K (for_open rest)
declare_front (InFirst (AndStmt s ss)) K rest = no_text
declare_front (InStep first test done) K rest = no_text

-- a declaration that goes on, up to the last of its names so far
abbrev pub open_front : Part → Elem → Bool → List StmtFrame → Rest → Rest
open_front InBlock elem constant K rest = open_item K elem constant rest
open_front (InFirst done) elem constant K rest = frames_front K (for_open (first_open done elem constant rest))
open_front (InStep first test done) elem constant K rest = no_text

-- what stands before a name of a declaration
abbrev pub named_front : Part → Elem → Bool → List StmtFrame → Rest → Rest
named_front place elem constant K rest =
    either (declare_front place K (declared_type elem constant rest)) (open_front place elem constant K (mark Comma rest))

-- words of qualifiers, a `const` among them or not, and then words of a scalar type
abbrev pub type_words : Bool → List Word → Rest → Rest
type_words constant ws rest = qualifiers false (λ before. given (before ≡ constant) (words ws rest))

-- what stands before an assignment
abbrev pub after_assigns : StmtTrees → Rest → Rest
after_assigns NoStmts rest = rest
after_assigns (AndStmt s ss) rest = assigns_text (AndStmt s ss) (mark Comma rest)

abbrev pub assign_front : Part → List StmtFrame → Rest → Rest
assign_front InBlock K rest = frames_front K rest
assign_front (InFirst done) K rest = frames_front K (for_open (after_assigns done rest))
assign_front (InStep first test done) K rest = frames_front K (for_front first test (after_assigns done rest))

abbrev pub count_front : AssignOp → Pos → Rest → Rest
count_front Up at rest = mark_at PlusPlus at rest
count_front Down at rest = mark_at MinusMinus at rest
count_front Set at rest = no_text
count_front (With op) at rest = no_text

abbrev pub sign_front : Option Mark → Pos → Rest → Rest
sign_front None pos rest = no_text
sign_front (Some m) pos rest = mark_at m pos rest

-- an assignment up to its value
abbrev pub value_front : TargetTree → AssignOp → Pos → Rest → Rest
value_front target Set pos rest = target_text target (mark_at Equal pos rest)
value_front target (With op) pos rest = target_text target (sign_front (set_mark op) pos rest)
value_front target Up pos rest = no_text
value_front target Down pos rest = no_text

-- a whole assignment
abbrev pub assigned_front : StmtTree → Part → List StmtFrame → Rest → Rest
assigned_front (AssignTree target op value pos) place K rest = assign_front place K (assign_text target op value pos rest)
assigned_front _ place K rest = no_text

-- a barrier up to where a number must stand
abbrev pub numbers_front : Pos → Rest → Rest
numbers_front at rest = word_at Barrier at (mark OpenParen (either rest (one IsNumber (more_numbers_text (mark Bar rest)))))

-- a local array up to its `;`
abbrev pub local_text : Elem → Ident → ExprTree → Rest → Rest
local_text elem n count rest = one IsLocalWord (scalar elem (name n (mark OpenBracket (expr_text count (mark CloseBracket rest)))))

-- a statement up to its `;`
abbrev pub ending_front : StmtTree → List StmtFrame → Rest → Rest
ending_front (LocalArrayTree elem n count) K rest = item_front K (local_text elem n count rest)
ending_front (CallStmtTree n args) K rest = frames_front K (name n (mark OpenParen (args_text args (mark CloseParen rest))))
ending_front (BarrierTree pos) K rest =
    frames_front K (word_at Barrier pos (mark OpenParen (one IsNumber (more_numbers_text (mark CloseParen rest)))))
ending_front (DoTree body test) K rest =
    frames_front K (word Do (stmt_text body (word While (mark OpenParen (expr_text test (mark CloseParen rest))))))
ending_front (BreakTree pos) K rest = frames_front K (word_at Break pos rest)
ending_front (ContinueTree pos) K rest = frames_front K (word_at Continue pos rest)
ending_front _ K rest = no_text

-- a whole statement, or a local array
abbrev pub whole_front : StmtTree → List StmtFrame → Rest → Rest
whole_front (LocalArrayTree elem n count) K rest = item_front K (local_text elem n count (mark Semicolon rest))
whole_front s K rest = frames_front K (stmt_text s rest)

-- what stands before an expression
abbrev pub purpose_front : Purpose → List StmtFrame → Rest → Rest
purpose_front (InitOf place elem constant n) K rest = named_front place elem constant K (name n (mark Equal rest))
purpose_front (CountOf elem n) K rest = item_front K (one IsLocalWord (scalar elem (name n (mark OpenBracket rest))))
purpose_front (IndexOf place n at) K rest = assign_front place K (name n (mark_at OpenBracket at rest))
purpose_front (CountedIndexOf place op pos n at) K rest = assign_front place K (count_front op pos (name n (mark_at OpenBracket at rest)))
purpose_front (ValueOf place target op pos) K rest = assign_front place K (value_front target op pos rest)
purpose_front (ArgsOf n args) K rest = frames_front K (name n (mark OpenParen (args_before args rest)))
purpose_front IfTest K rest = frames_front K (word If (mark OpenParen rest))
purpose_front WhileTest K rest = frames_front K (word While (mark OpenParen rest))
purpose_front (DoTest body) K rest = frames_front K (word Do (stmt_text body (word While (mark OpenParen rest))))
purpose_front (ForTest first) K rest = frames_front K (for_open (first_text first (mark Semicolon rest)))
purpose_front (ReturnOf at) K rest = frames_front K (word_at Return at rest)

abbrev pub stmt_front : StmtFocus → List StmtFrame → Rest → Rest
stmt_front ItemStart K rest = item_front K rest
stmt_front BodyStart K rest = frames_front K rest
stmt_front (Finished s) K rest = whole_front s K rest
stmt_front (Ending s) K rest = ending_front s K rest
stmt_front (Reading purpose focus inner) K rest = purpose_front purpose K (read_text focus inner rest)
stmt_front IfWord K rest = frames_front K (word If rest)
stmt_front WhileWord K rest = frames_front K (word While rest)
stmt_front ForWord K rest = frames_front K (word For rest)
stmt_front (DoWhile body) K rest = frames_front K (word Do (stmt_text body (word While rest)))
stmt_front (BarrierWord at) K rest = frames_front K (word_at Barrier at rest)
stmt_front (BarrierOpen at) K rest = frames_front K (numbers_front at rest)
stmt_front (BarrierNumber at) K rest = frames_front K (word_at Barrier at (mark OpenParen (one IsNumber (more_numbers_text rest))))
stmt_front (QualifiersRead place constant) K rest = declare_front place K (type_words constant [] rest)
stmt_front (ScalarRead place constant s) K rest = declare_front place K (type_words constant (scalar_words s) rest)
stmt_front (TypeRead place elem constant) K rest = declare_front place K (declared_type elem constant rest)
stmt_front (NameNext place elem constant) K rest = open_front place elem constant K (mark Comma rest)
stmt_front (Declared place elem constant n) K rest = named_front place elem constant K (name n rest)
stmt_front LocalWord K rest = item_front K (one IsLocalWord rest)
stmt_front (LocalScalar s) K rest = item_front K (one IsLocalWord (words (scalar_words s) rest))
stmt_front (LocalNamed elem n) K rest = item_front K (one IsLocalWord (scalar elem (name n rest)))
stmt_front (AssignNext place) K rest = assign_front place K rest
stmt_front (AssignNamed place n) K rest = assign_front place K (name n rest)
stmt_front (CountedBefore place op at) K rest = assign_front place K (count_front op at rest)
stmt_front (CountedNamed place op at n) K rest = assign_front place K (count_front op at (name n rest))
stmt_front (Targeted place target) K rest = assign_front place K (target_text target rest)
stmt_front (Assigned place s) K rest = assigned_front s place K rest
stmt_front (CallOpen n) K rest = frames_front K (name n (mark OpenParen rest))
stmt_front FirstStart K rest = frames_front K (for_open rest)
stmt_front (TestStart first) K rest = frames_front K (for_open (first_text first (mark Semicolon rest)))
stmt_front (StepStart first test) K rest = frames_front K (for_front first test rest)
stmt_front (Returning at) K rest = frames_front K (word_at Return at rest)

-- what has been read once the token has done its part
abbrev pub next_front : StmtNext → Rest → Rest
next_front (GoesOn focus K) rest = stmt_front focus K rest
next_front (Closes items) rest = mark OpenBrace (items_text items (mark CloseBrace rest))
next_front Stops rest = λ ts. Unit {0}

pub items_open_mono : (items : StmtTrees) (elem : Elem) (constant : Bool) {a b : Rest} → Leads a b → Leads (items_open items elem constant a) (items_open items elem constant b)
items_open_mono items elem constant f =
    record { by = λ ts h. (h.0, h.1, h.2, h.3, h.4, (items_mono h.0 (type_mono elem constant (declarator_mono h.1 h.2 (more_names_mono elem constant h.3 f)))).by ts h.5) }

pub first_open_mono : (first : StmtTrees) (elem : Elem) (constant : Bool) {a b : Rest} → Leads a b → Leads (first_open first elem constant a) (first_open first elem constant b)
first_open_mono first elem constant f =
    record { by = λ ts h. (h.0, h.1, h.2, h.3, (type_mono elem constant (declarator_mono h.0 h.1 (more_names_mono elem constant h.2 f))).by ts h.4) }

pub for_mono : (first : StmtTrees) (test : Option ExprTree) {a b : Rest} → Leads a b → Leads (for_front first test a) (for_front first test b)
for_mono first test f = one_mono _ (one_mono _ (first_mono first (one_mono _ (option_mono test (one_mono _ f)))))

frame_front_mono : (f : StmtFrame) {a b : Rest} → Leads a b → Leads (frame_front f a) (frame_front f b)
frame_front_mono (BlockFrame items) g = one_mono _ (items_mono items g)
frame_front_mono (ThenFrame test) g = one_mono _ (one_mono _ (expr_mono test (one_mono _ g)))
frame_front_mono (ElseFrame test body) g = one_mono _ (one_mono _ (expr_mono test (one_mono _ (stmt_mono body (one_mono _ g)))))
frame_front_mono (WhileFrame test) g = one_mono _ (one_mono _ (expr_mono test (one_mono _ g)))
frame_front_mono DoFrame g = one_mono _ g
frame_front_mono (ForFrame first test step) g = for_mono first test (assigns_mono step (one_mono _ g))

pub front_mono : (K : List StmtFrame) {a b : Rest} → Leads a b → Leads (frames_front K a) (frames_front K b)
front_mono [] g = g
front_mono (f ∷ K) g = front_mono K (frame_front_mono f g)

pub item_mono : (K : List StmtFrame) {a b : Rest} → Leads a b → Leads (item_front K a) (item_front K b)
item_mono [] g = same
item_mono (BlockFrame items ∷ K) g = front_mono K (one_mono _ (items_mono items g))
item_mono (ThenFrame test ∷ K) g = same
item_mono (ElseFrame test body ∷ K) g = same
item_mono (WhileFrame test ∷ K) g = same
item_mono (DoFrame ∷ K) g = same
item_mono (ForFrame first test step ∷ K) g = same

pub open_item_mono : (K : List StmtFrame) (elem : Elem) (constant : Bool) {a b : Rest} → Leads a b → Leads (open_item K elem constant a) (open_item K elem constant b)
open_item_mono [] elem constant g = same
open_item_mono (BlockFrame items ∷ K) elem constant g = front_mono K (one_mono _ (items_open_mono items elem constant g))
open_item_mono (ThenFrame test ∷ K) elem constant g = same
open_item_mono (ElseFrame test body ∷ K) elem constant g = same
open_item_mono (WhileFrame test ∷ K) elem constant g = same
open_item_mono (DoFrame ∷ K) elem constant g = same
open_item_mono (ForFrame first test step ∷ K) elem constant g = same

pub declare_mono : (place : Part) (K : List StmtFrame) {a b : Rest} → Leads a b → Leads (declare_front place K a) (declare_front place K b)
declare_mono InBlock K g = item_mono K g
declare_mono (InFirst NoStmts) K g = front_mono K (one_mono _ (one_mono _ g))
declare_mono (InFirst (AndStmt s ss)) K g = same
declare_mono (InStep first test done) K g = same

pub open_mono : (place : Part) (elem : Elem) (constant : Bool) (K : List StmtFrame) {a b : Rest} → Leads a b →
    Leads (open_front place elem constant K a) (open_front place elem constant K b)
open_mono InBlock elem constant K g = open_item_mono K elem constant g
open_mono (InFirst done) elem constant K g = front_mono K (one_mono _ (one_mono _ (first_open_mono done elem constant g)))
open_mono (InStep first test done) elem constant K g = same

pub named_mono : (place : Part) (elem : Elem) (constant : Bool) (K : List StmtFrame) {a b : Rest} → Leads a b →
    Leads (named_front place elem constant K a) (named_front place elem constant K b)
named_mono place elem constant K g = either_mono (declare_mono place K (type_mono elem constant g)) (open_mono place elem constant K (one_mono _ g))

pub type_words_mono : (constant : Bool) (ws : List Word) {a b : Rest} → Leads a b → Leads (type_words constant ws a) (type_words constant ws b)
type_words_mono constant ws g = qualifiers_mono false _ _ (λ before. given_mono _ (words_mono ws g))

pub after_mono : (done : StmtTrees) {a b : Rest} → Leads a b → Leads (after_assigns done a) (after_assigns done b)
after_mono NoStmts g = g
after_mono (AndStmt s ss) g = assigns_mono (AndStmt s ss) (one_mono _ g)

pub assigning_mono : (place : Part) (K : List StmtFrame) {a b : Rest} → Leads a b → Leads (assign_front place K a) (assign_front place K b)
assigning_mono InBlock K g = front_mono K g
assigning_mono (InFirst done) K g = front_mono K (one_mono _ (one_mono _ (after_mono done g)))
assigning_mono (InStep first test done) K g = front_mono K (for_mono first test (after_mono done g))

pub count_mono : (op : AssignOp) (at : Pos) {a b : Rest} → Leads a b → Leads (count_front op at a) (count_front op at b)
count_mono Up at g = one_mono _ g
count_mono Down at g = one_mono _ g
count_mono Set at g = same
count_mono (With op) at g = same

sign_mono : (o : Option Mark) (at : Pos) {a b : Rest} → Leads a b → Leads (sign_front o at a) (sign_front o at b)
sign_mono None at g = same
sign_mono (Some m) at g = one_mono _ g

pub value_mono : (target : TargetTree) (op : AssignOp) (at : Pos) {a b : Rest} → Leads a b → Leads (value_front target op at a) (value_front target op at b)
value_mono target Set at g = target_mono target (one_mono _ g)
value_mono target (With op) at g = target_mono target (sign_mono (set_mark op) at g)
value_mono target Up at g = same
value_mono target Down at g = same

pub purpose_mono : (purpose : Purpose) (K : List StmtFrame) {a b : Rest} → Leads a b → Leads (purpose_front purpose K a) (purpose_front purpose K b)
purpose_mono (InitOf place elem constant n) K g = named_mono place elem constant K (one_mono _ (one_mono _ g))
purpose_mono (CountOf elem n) K g = item_mono K (one_mono _ (scalar_mono elem (one_mono _ (one_mono _ g))))
purpose_mono (IndexOf place n at) K g = assigning_mono place K (one_mono _ (one_mono _ g))
purpose_mono (CountedIndexOf place op pos n at) K g = assigning_mono place K (count_mono op pos (one_mono _ (one_mono _ g)))
purpose_mono (ValueOf place target op pos) K g = assigning_mono place K (value_mono target op pos g)
purpose_mono (ArgsOf n args) K g = front_mono K (one_mono _ (one_mono _ (args_before_mono args g)))
purpose_mono IfTest K g = front_mono K (one_mono _ (one_mono _ g))
purpose_mono WhileTest K g = front_mono K (one_mono _ (one_mono _ g))
purpose_mono (DoTest body) K g = front_mono K (one_mono _ (stmt_mono body (one_mono _ (one_mono _ g))))
purpose_mono (ForTest first) K g = front_mono K (one_mono _ (one_mono _ (first_mono first (one_mono _ g))))
purpose_mono (ReturnOf at) K g = front_mono K (one_mono _ g)
