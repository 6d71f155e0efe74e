-- The texts of statements, a case for each production (C99, sections 6.7 and 6.8, as far as the language has them), and to which
-- `if` an `else` belongs.
use Rattle.std.specs.Prelude.{◌≡◌, ◌⊎◌, Bool, true, false, [], ◌∷◌, Option, Some, None}
use Rattle.vx_base.specs.declared.types.Elem.{Elem}
use Rattle.vx_base.specs.declared.types.Pos.{Pos}
use Rattle.ocl_ast.specs.declared.exprs.Ident.{Ident}
use Rattle.ocl_ast.specs.declared.stmts.AssignOp.{AssignOp}
use Rattle.ocl_ast.specs.declared.stmts.AssignOp.TheVariants.{Set, With, Up, Down}
use Rattle.ocl_ast.specs.Trees.{ExprTree, TargetTree, NameTarget, IndexTarget, StmtTree, DeclareTree, LocalArrayTree, AssignTree, CallStmtTree, BarrierTree, IfTree, IfElseTree, WhileTree, DoTree, ForTree, BreakTree, ContinueTree, ReturnTree, BlockTree, EmptyTree, StmtTrees, NoStmts, AndStmt}
use Rattle.ocl_tokens.specs.declared.marks.Mark.{Mark}
use Rattle.ocl_tokens.specs.declared.marks.Mark.TheVariants.{OpenParen, CloseParen, OpenBrace, CloseBrace, OpenBracket, CloseBracket, Semicolon, Comma, Bar, Equal, PlusPlus, MinusMinus}
use Rattle.ocl_tokens.specs.declared.tokens.Token.{Token}
use Rattle.ocl_tokens.specs.declared.tokens.TokenKind.TheVariants.{Word as WordKind, Mark as MarkKind}
use Rattle.ocl_tokens.specs.declared.words.Word.TheVariants.{UnderscoreLocal, Local, If, Else, While, Do, For, Break, Continue, Return, Barrier}
use Rattle.ocl_parser.specs.Spellings.{Rest, no_text, either, given, one, mark, mark_at, word, word_at, name, IsNumber, set_mark}
use Rattle.ocl_parser.specs.Scalars.{scalar, declared_type}
use Rattle.ocl_parser.specs.Exprs.{expr_text, args_text, option_text, IsGrouped, AreGrouped, IsGroupedIfAny}

-- what an assignment changes
abbrev pub target_text : TargetTree → Rest → Rest
target_text (NameTarget n) rest = name n rest
target_text (IndexTarget array place pos) rest =
    name array (mark_at OpenBracket pos (expr_text place (mark CloseBracket rest)))

-- an operator of an assignment at its place, with its value
abbrev pub set_text : Option Mark → Pos → ExprTree → Rest → Rest
set_text None pos value rest = no_text
set_text (Some m) pos value rest = mark_at m pos (expr_text value rest)

-- `++` or `--` behind its target or before it
abbrev pub count_text : Mark → TargetTree → Pos → Rest → Rest
count_text m target pos rest = either (target_text target (mark_at m pos rest)) (mark_at m pos (target_text target rest))

-- an assignment
abbrev pub assign_text : TargetTree → AssignOp → Option ExprTree → Pos → Rest → Rest
assign_text target Set (Some value) pos rest = target_text target (set_text (Some Equal) pos value rest)
assign_text target (With op) (Some value) pos rest = target_text target (set_text (set_mark op) pos value rest)
assign_text target Up None pos rest = count_text PlusPlus target pos rest
assign_text target Down None pos rest = count_text MinusMinus target pos rest
assign_text target Set None pos rest = no_text
assign_text target (With op) None pos rest = no_text
assign_text target Up (Some value) pos rest = no_text
assign_text target Down (Some value) pos rest = no_text

-- a name with its first value or none
abbrev pub declarator_text : Ident → Option ExprTree → Rest → Rest
declarator_text n None rest = name n rest
declarator_text n (Some value) rest = name n (mark Equal (expr_text value rest))

-- the numbers of a barrier: one, and any number with `|` before
abbrev pub more_numbers_text : Rest → Rest
more_numbers_text rest [] = rest []
more_numbers_text rest (t ∷ []) = rest (t ∷ [])
more_numbers_text rest (t ∷ u ∷ ts) =
    rest (t ∷ u ∷ ts) ⊎ ((t.kind ≡ MarkKind Bar) × IsNumber u × more_numbers_text rest ts)

-- the word before a local array
abbrev pub IsLocalWord : Token → Type 0
IsLocalWord t = (t.kind ≡ WordKind UnderscoreLocal) ⊎ (t.kind ≡ WordKind Local)

-- assignments, each with a comma before
abbrev pub more_assigns_text : StmtTrees → Rest → Rest
more_assigns_text NoStmts rest = rest
more_assigns_text (AndStmt (AssignTree target op value pos) ss) rest =
    mark Comma (assign_text target op value pos (more_assigns_text ss rest))
more_assigns_text (AndStmt _ ss) rest = no_text

-- assignments with commas between, or none
abbrev pub assigns_text : StmtTrees → Rest → Rest
assigns_text NoStmts rest = rest
assigns_text (AndStmt (AssignTree target op value pos) ss) rest = assign_text target op value pos (more_assigns_text ss rest)
assigns_text (AndStmt _ ss) rest = no_text

-- further names of one declaration, each with a comma before
abbrev pub more_names_text : Elem → Bool → StmtTrees → Rest → Rest
more_names_text elem constant NoStmts rest = rest
more_names_text elem constant (AndStmt (DeclareTree elem' constant' n value) ss) rest =
    given (elem' ≡ elem) (given (constant' ≡ constant) (mark Comma (declarator_text n value (more_names_text elem constant ss rest))))
more_names_text elem constant (AndStmt _ ss) rest = no_text

-- the first part of a `for`: a declaration, assignments or nothing
abbrev pub first_text : StmtTrees → Rest → Rest
first_text NoStmts rest = rest
first_text (AndStmt (DeclareTree elem constant n value) ss) rest =
    declared_type elem constant (declarator_text n value (more_names_text elem constant ss rest))
first_text (AndStmt (AssignTree target op value pos) ss) rest = assigns_text (AndStmt (AssignTree target op value pos) ss) rest
first_text (AndStmt _ ss) rest = no_text

abbrev mutual
  -- a statement
  pub stmt_text : StmtTree → Rest → Rest
  stmt_text EmptyTree rest = mark Semicolon rest
  stmt_text (BlockTree items) rest = mark OpenBrace (items_text items (mark CloseBrace rest))
  stmt_text (AssignTree target op value pos) rest = assign_text target op value pos (mark Semicolon rest)
  stmt_text (CallStmtTree n args) rest = name n (mark OpenParen (args_text args (mark CloseParen (mark Semicolon rest))))
  stmt_text (BarrierTree pos) rest =
      word_at Barrier pos (mark OpenParen (one IsNumber (more_numbers_text (mark CloseParen (mark Semicolon rest)))))
  stmt_text (IfTree test body) rest = word If (mark OpenParen (expr_text test (mark CloseParen (stmt_text body rest))))
  stmt_text (IfElseTree test body other) rest =
      word If (mark OpenParen (expr_text test (mark CloseParen (stmt_text body (word Else (stmt_text other rest))))))
  stmt_text (WhileTree test body) rest = word While (mark OpenParen (expr_text test (mark CloseParen (stmt_text body rest))))
  stmt_text (DoTree body test) rest =
      word Do (stmt_text body (word While (mark OpenParen (expr_text test (mark CloseParen (mark Semicolon rest))))))
  stmt_text (ForTree first test step body) rest =
      word For (mark OpenParen (first_text first (mark Semicolon (option_text test (mark Semicolon
      (assigns_text step (mark CloseParen (stmt_text body rest))))))))
  stmt_text (BreakTree pos) rest = word_at Break pos (mark Semicolon rest)
  stmt_text (ContinueTree pos) rest = word_at Continue pos (mark Semicolon rest)
  stmt_text (ReturnTree value pos) rest = word_at Return pos (option_text value (mark Semicolon rest))
  stmt_text (DeclareTree elem constant n value) rest = no_text
  stmt_text (LocalArrayTree elem n count) rest = no_text

  -- The items of a block. A declaration of several names is several items.
  pub items_text : StmtTrees → Rest → Rest
  items_text NoStmts rest = rest
  items_text (AndStmt (DeclareTree elem constant n value) ss) rest =
      declared_type elem constant (declarator_text n value (names_text elem constant ss rest))
  items_text (AndStmt (LocalArrayTree elem n count) ss) rest =
      one IsLocalWord (scalar elem (name n (mark OpenBracket (expr_text count (mark CloseBracket (mark Semicolon (items_text ss rest)))))))
  items_text (AndStmt s ss) rest = stmt_text s (items_text ss rest)

  -- items whose first go on a declaration of this type
  pub names_text : Elem → Bool → StmtTrees → Rest → Rest
  names_text elem constant NoStmts rest = mark Semicolon rest
  names_text elem constant (AndStmt (DeclareTree elem' constant' n value) ss) rest =
      either
      (mark Semicolon (declared_type elem' constant' (declarator_text n value (names_text elem' constant' ss rest))))
      (given (elem' ≡ elem) (given (constant' ≡ constant) (mark Comma (declarator_text n value (names_text elem constant ss rest)))))
  names_text elem constant (AndStmt (LocalArrayTree elem' n count) ss) rest =
      mark Semicolon (one IsLocalWord (scalar elem' (name n (mark OpenBracket (expr_text count (mark CloseBracket (mark Semicolon (items_text ss rest))))))))
  names_text elem constant (AndStmt s ss) rest = mark Semicolon (stmt_text s (items_text ss rest))

-- an `else` behind the statement would belong to an `if` in it
abbrev pub takes_else : StmtTree → Bool
takes_else (IfTree test body) = true
takes_else (IfElseTree test body other) = takes_else other
takes_else (WhileTree test body) = takes_else body
takes_else (ForTree first test step body) = takes_else body
takes_else _ = false

-- the index of a target is grouped
abbrev pub IsGroupedTarget : TargetTree → Type 0
IsGroupedTarget (NameTarget n) = Unit {0}
IsGroupedTarget (IndexTarget array place pos) = IsGrouped place

abbrev mutual
  -- Each expression is grouped, and each `else` belongs to the nearest `if` without one.
  pub IsOrderly : StmtTree → Type 0
  IsOrderly (DeclareTree elem constant n value) = IsGroupedIfAny value
  IsOrderly (LocalArrayTree elem n count) = IsGrouped count
  IsOrderly (AssignTree target op value pos) = IsGroupedTarget target × IsGroupedIfAny value
  IsOrderly (CallStmtTree n args) = AreGrouped args
  IsOrderly (BarrierTree pos) = Unit {0}
  IsOrderly (IfTree test body) = IsGrouped test × IsOrderly body
  IsOrderly (IfElseTree test body other) = IsGrouped test × (takes_else body ≡ false) × IsOrderly body × IsOrderly other
  IsOrderly (WhileTree test body) = IsGrouped test × IsOrderly body
  IsOrderly (DoTree body test) = IsOrderly body × IsGrouped test
  IsOrderly (ForTree first test step body) = AreOrderly first × IsGroupedIfAny test × AreOrderly step × IsOrderly body
  IsOrderly (BreakTree pos) = Unit {0}
  IsOrderly (ContinueTree pos) = Unit {0}
  IsOrderly (ReturnTree value pos) = IsGroupedIfAny value
  IsOrderly (BlockTree items) = AreOrderly items
  IsOrderly EmptyTree = Unit {0}

  pub AreOrderly : StmtTrees → Type 0
  AreOrderly NoStmts = Unit {0}
  AreOrderly (AndStmt s ss) = IsOrderly s × AreOrderly ss
