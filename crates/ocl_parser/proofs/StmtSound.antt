-- What the reader reads of a statement is a text of what it has made.
use Rattle.std.proofs.Common.{◌≡◌, refl, sym, subst, inl, inr, Bool, true, false, cond, nat_eq, length, List, [], ◌∷◌, Option, Some, None, true≢false, arith}
use Rattle.std.proofs.lemmas.Bool.Decides.{nat_tests}
use Rattle.vx_base.specs.declared.types.Elem.{Elem}
use Rattle.vx_base.specs.declared.types.Pos.{Pos}
use Rattle.ocl_ast.specs.declared.exprs.BinOp.{BinOp}
use Rattle.ocl_ast.specs.declared.exprs.BinOp.TheVariants.{Mul, Div, Rem, Add, Sub, Shl, Shr, And, Xor, Or}
use Rattle.ocl_ast.specs.declared.exprs.Ident.{Ident}
use Rattle.ocl_ast.specs.declared.stmts.AssignOp.{AssignOp}
use Rattle.ocl_ast.specs.declared.stmts.AssignOp.TheVariants.{Set, With, Up, Down}
use Rattle.ocl_ast.specs.Trees.{ExprTree, ArgTrees, NoArgs, TargetTree, NameTarget, IndexTarget, StmtTree, DeclareTree, LocalArrayTree, AssignTree, CallStmtTree, BarrierTree, DoTree, BreakTree, ContinueTree, ReturnTree, StmtTrees, NoStmts, AndStmt}
use Rattle.ocl_tokens.specs.declared.marks.Mark.{Mark}
use Rattle.ocl_tokens.specs.declared.marks.Mark.TheVariants.{OpenParen, CloseParen, OpenBrace, CloseBrace, OpenBracket, CloseBracket, Semicolon, Comma, Bar, Equal, PlusEqual, MinusEqual, StarEqual, SlashEqual, PercentEqual, ShiftLeftEqual, ShiftRightEqual, AmpersandEqual, CaretEqual, BarEqual, PlusPlus, MinusMinus}
use Rattle.ocl_tokens.specs.declared.tokens.Token.{Token}
use Rattle.ocl_tokens.specs.declared.tokens.TokenKind.{TokenKind}
use Rattle.ocl_tokens.specs.declared.tokens.TokenKind.TheVariants.{Name as NameKind, Word as WordKind, Number as NumberKind, Mark as MarkKind}
use Rattle.ocl_tokens.specs.declared.words.Word.{Word}
use Rattle.ocl_tokens.specs.declared.words.Word.TheVariants.{UnderscoreLocal, Local, Const, Volatile, If, Else, While, Do, For, Break, Continue, Return, Barrier}
use Rattle.ocl_parser.specs.declared.scalars.Scalar.{Scalar}
use Rattle.ocl_parser.specs.Spellings.{Rest, one, mark, word_at, words, name, set_mark, IsNumber}
use Rattle.ocl_parser.specs.Scalars.{scalar, scalar_words, declared_type}
use Rattle.ocl_parser.specs.ScalarSteps.{scalar_first, scalar_more}
use Rattle.ocl_parser.specs.Exprs.{expr_text}
use Rattle.ocl_parser.specs.Stmts.{target_text, set_text, assign_text, declarator_text, more_numbers_text, IsLocalWord, first_text}
use Rattle.ocl_parser.specs.ExprSteps.{ExprNext, Goes, Ends, Refuses, operand_step, expr_step}
use Rattle.ocl_parser.specs.StmtSteps.{and_stmt, set_of, count_of, scalar_read, qualified_word, qualified_step, typed_step, scalar_word, scalar_step, name_step, and_item, declared_end, declared_step, local_read, local_word, local_scalar, local_named, begun, begin_step, assign_end, counted_start, assign_start, set_target, target_mark, target_step, call_start, assign_named, counted_before, counted_named, call_open, barrier_open, barrier_number, open_step, ending_step, first_start, test_start, step_start, returning_step, end_count, end_index, end_counted, end_args, close_with, end_test, end_step, reading_step, body_word, body_mark, body_step, close_items, close_block, item_scalar, item_word, item_step, placed, ends_with, completed, finished, is_else, else_step, while_step, placed_step, finished_step, stmt_step}
use Rattle.ocl_parser.specs.declared.states.ExprFocus.TheVariants.{Operand}
use Rattle.ocl_parser.specs.declared.states.Part.{Part}
use Rattle.ocl_parser.specs.declared.states.Part.TheVariants.{InBlock, InFirst, InStep}
use Rattle.ocl_parser.specs.declared.states.Purpose.{Purpose}
use Rattle.ocl_parser.specs.declared.states.Purpose.TheVariants.{InitOf, CountOf, IndexOf, CountedIndexOf, ValueOf, ArgsOf, IfTest, WhileTest, DoTest, ForTest, ReturnOf}
use Rattle.ocl_parser.specs.declared.states.StmtFocus.{StmtFocus}
use Rattle.ocl_parser.specs.declared.states.StmtFocus.TheVariants.{ItemStart, BodyStart, Finished, Ending, Reading, IfWord, WhileWord, ForWord, DoWhile, BarrierWord, BarrierOpen, BarrierNumber, QualifiersRead, ScalarRead, TypeRead, NameNext, Declared, LocalWord, LocalScalar, LocalNamed, AssignNext, AssignNamed, CountedBefore, CountedNamed, Targeted, Assigned, CallOpen, FirstStart, TestStart, StepStart, Returning}
use Rattle.ocl_parser.specs.declared.states.StmtFrame.{StmtFrame}
use Rattle.ocl_parser.specs.declared.states.StmtFrame.TheVariants.{Block as BlockFrame, Then as ThenFrame, Else as ElseFrame, While as WhileFrame, Do as DoFrame, For as ForFrame}
use Rattle.ocl_parser.proofs.Texts.{Leads, same, then, any, one_mono, words_mono, scalar_mono, expr_mono, args_mono, after, taken}
use Rattle.ocl_parser.proofs.ExprTexts.{args_before_mono, next_text, args_last, args_comma}
use Rattle.ocl_parser.proofs.ExprSound.{scalar_made, first_words, more_words, word_taken, operand_reads, expr_reads}
use Rattle.ocl_parser.proofs.StmtTexts.{type_mono, target_mono, assign_mono, declarator_mono, first_mono, stmt_mono, items_mono, numbers_mono, given_mono, qualifiers_mono}
use Rattle.ocl_parser.proofs.StmtFronts.{for_open, for_front, frames_front, item_front, declare_front, open_front, named_front, type_words, assign_front, count_front, sign_front, value_front, assigned_front, numbers_front, ending_front, whole_front, purpose_front, stmt_front, next_front, for_mono, front_mono, item_mono, declare_mono, open_mono, named_mono, after_mono, assigning_mono, count_mono, purpose_mono, open_item, first_open}
use Rattle.ocl_parser.proofs.ItemSound.{nothing, both_lead, left, untyped, right, const_last, volatile_last, typed, type_const, type_volatile, one_number, number_last, with_stmt, with_local, open_first, open_last, open_end, first_first, first_last, first_end, assigns_last, assigns_comma, first_assigned}

nonempty : (f : StmtFrame) (K : List StmtFrame) → nat_eq (length (f ∷ K)) 0 ≡ false
nonempty f K = grind (arith, nat_tests)

module _ (t : Token) (rest : Rest) where
  -- declarations
  scalar_reads : (w : Word) → t.kind ≡ WordKind w → (ws : List Word) (o : Option Scalar) → scalar_made o ws w → (place : Part) (constant : Bool) (K : List StmtFrame) →
      Leads (declare_front place K (type_words constant ws (after t rest))) (next_front (scalar_read o place constant K) rest)
  scalar_reads w h ws None made place constant K = any
  scalar_reads w h ws (Some s) made place constant K =
      declare_mono place K (qualifiers_mono false _ _ (λ before. given_mono _ (word_taken t w h ws s made rest)))

  qualified_reads : (w : Word) → t.kind ≡ WordKind w → (place : Part) (constant : Bool) (K : List StmtFrame) →
      Leads (declare_front place K (type_words constant [] (after t rest))) (next_front (qualified_word w place constant K) rest)
  qualified_reads Const h place constant K =
      declare_mono place K (then (qualifiers_mono false _ _ (λ before. given_mono _ (taken t _ h))) (const_last false constant rest))
  qualified_reads Volatile h place constant K =
      declare_mono place K (then (qualifiers_mono false _ _ (λ before. given_mono _ (taken t _ h))) (volatile_last false constant rest))
  qualified_reads w h place constant K = scalar_reads w h [] (scalar_first w) (first_words w) place constant K

  words_read : (kind : TokenKind) → t.kind ≡ kind → (place : Part) (constant : Bool) (K : List StmtFrame) →
      Leads (declare_front place K (type_words constant [] (after t rest))) (next_front (qualified_step kind place constant K) rest)
  words_read (WordKind w) h place constant K = qualified_reads w h place constant K
  words_read _ h place constant K = any

  typed_reads : (kind : TokenKind) → t.kind ≡ kind → (place : Part) (elem : Elem) (constant : Bool) (K : List StmtFrame) →
      Leads (declare_front place K (declared_type elem constant (after t rest))) (next_front (typed_step kind t.pos place elem constant K) rest)
  typed_reads (NameKind text) h place elem constant K = then (declare_mono place K (type_mono elem constant (taken t _ (h, refl)))) left
  typed_reads (WordKind Const) h place elem constant K =
      declare_mono place K (then (type_mono elem constant (taken t _ h)) (type_const elem constant rest))
  typed_reads (WordKind Volatile) h place elem constant K =
      declare_mono place K (then (type_mono elem constant (taken t _ h)) (type_volatile elem constant rest))
  typed_reads _ h place elem constant K = any

  more_type : (w : Word) → t.kind ≡ WordKind w → (place : Part) (constant : Bool) (s : Scalar) (K : List StmtFrame) →
      Leads (declare_front place K (type_words constant (scalar_words s) (after t rest))) (next_front (scalar_word w place constant s K) rest)
  more_type Const h place constant s K =
      declare_mono place K (then (typed constant s _) (then (type_mono _ constant (taken t _ h)) (type_const _ constant rest)))
  more_type Volatile h place constant s K =
      declare_mono place K (then (typed constant s _) (then (type_mono _ constant (taken t _ h)) (type_volatile _ constant rest)))
  more_type w h place constant s K = scalar_reads w h (scalar_words s) (scalar_more s w) (more_words s w) place constant K

  scalar_step_reads : (kind : TokenKind) → t.kind ≡ kind → (place : Part) (constant : Bool) (s : Scalar) (K : List StmtFrame) →
      Leads (declare_front place K (type_words constant (scalar_words s) (after t rest))) (next_front (scalar_step kind t.pos place constant s K) rest)
  scalar_step_reads (NameKind text) h place constant s K =
      then (declare_mono place K (then (typed constant s _) (type_mono _ constant (taken t _ (h, refl))))) left
  scalar_step_reads (WordKind w) h place constant s K = more_type w h place constant s K
  scalar_step_reads _ h place constant s K = any

  name_reads : (kind : TokenKind) → t.kind ≡ kind → (place : Part) (elem : Elem) (constant : Bool) (K : List StmtFrame) →
      Leads (open_front place elem constant K (mark Comma (after t rest))) (next_front (name_step kind t.pos place elem constant K) rest)
  name_reads (NameKind text) h place elem constant K = then (open_mono place elem constant K (one_mono _ (taken t _ (h, refl)))) right
  name_reads _ h place elem constant K = any

  -- a name with its value in a block, and in the first part of a `for`
  item_named : (elem : Elem) (constant : Bool) (n : Ident) (value : Option ExprTree) (K : List StmtFrame) (behind : Rest) →
      Leads (named_front InBlock elem constant K (declarator_text n value behind)) (open_item (and_item (DeclareTree elem constant n value) K) elem constant behind)
  item_named elem constant n value [] behind = both_lead nothing nothing
  item_named elem constant n value (BlockFrame items ∷ K) behind =
      both_lead (front_mono K (one_mono _ (open_first items elem constant n value behind))) (front_mono K (one_mono _ (open_last items elem constant n value behind)))
  item_named elem constant n value (ThenFrame test ∷ K) behind = both_lead nothing nothing
  item_named elem constant n value (ElseFrame test body ∷ K) behind = both_lead nothing nothing
  item_named elem constant n value (WhileFrame test ∷ K) behind = both_lead nothing nothing
  item_named elem constant n value (DoFrame ∷ K) behind = both_lead nothing nothing
  item_named elem constant n value (ForFrame first test step ∷ K) behind = both_lead nothing nothing

  item_ended : (elem : Elem) (constant : Bool) (K : List StmtFrame) → Leads (open_item K elem constant (mark Semicolon rest)) (item_front K rest)
  item_ended elem constant [] = nothing
  item_ended elem constant (BlockFrame items ∷ K) = front_mono K (one_mono _ (open_end items elem constant rest))
  item_ended elem constant (ThenFrame test ∷ K) = nothing
  item_ended elem constant (ElseFrame test body ∷ K) = nothing
  item_ended elem constant (WhileFrame test ∷ K) = nothing
  item_ended elem constant (DoFrame ∷ K) = nothing
  item_ended elem constant (ForFrame first test step ∷ K) = nothing

  first_named : (done : StmtTrees) (elem : Elem) (constant : Bool) (n : Ident) (value : Option ExprTree) (K : List StmtFrame) (behind : Rest) →
      Leads (named_front (InFirst done) elem constant K (declarator_text n value behind))
      (frames_front K (for_open (first_open (and_stmt done (DeclareTree elem constant n value)) elem constant behind)))
  first_named NoStmts elem constant n value K behind =
      both_lead (front_mono K (one_mono _ (one_mono _ (first_first elem constant n value behind))))
      (front_mono K (one_mono _ (one_mono _ (first_last NoStmts elem constant n value behind))))
  first_named (AndStmt s ss) elem constant n value K behind =
      both_lead nothing (front_mono K (one_mono _ (one_mono _ (first_last (AndStmt s ss) elem constant n value behind))))

  declared_reads : (kind : TokenKind) → t.kind ≡ kind → (place : Part) (elem : Elem) (constant : Bool) (n : Ident) (value : Option ExprTree) (K : List StmtFrame) →
      Leads (named_front place elem constant K (declarator_text n value (after t rest)))
      (next_front (declared_end kind place elem constant (DeclareTree elem constant n value) K) rest)
  declared_reads (MarkKind Semicolon) h InBlock elem constant n value K =
      then (named_mono InBlock elem constant K (declarator_mono n value (taken t _ h)))
      (then (item_named elem constant n value K _) (item_ended elem constant (and_item (DeclareTree elem constant n value) K)))
  declared_reads (MarkKind Comma) h InBlock elem constant n value K =
      then (named_mono InBlock elem constant K (declarator_mono n value (taken t _ h))) (item_named elem constant n value K _)
  declared_reads (MarkKind Semicolon) h (InFirst done) elem constant n value K =
      then (named_mono (InFirst done) elem constant K (declarator_mono n value (taken t _ h)))
      (then (first_named done elem constant n value K _) (front_mono K (one_mono _ (one_mono _ (first_end _ elem constant _)))))
  declared_reads (MarkKind Comma) h (InFirst done) elem constant n value K =
      then (named_mono (InFirst done) elem constant K (declarator_mono n value (taken t _ h))) (first_named done elem constant n value K _)
  declared_reads _ h place elem constant n value K = any

  declare_reads : (kind : TokenKind) → t.kind ≡ kind → (place : Part) (elem : Elem) (constant : Bool) (n : Ident) (K : List StmtFrame) →
      Leads (named_front place elem constant K (name n (after t rest))) (next_front (declared_step kind place elem constant n K) rest)
  declare_reads (MarkKind Equal) h place elem constant n K = named_mono place elem constant K (one_mono _ (taken t _ h))
  declare_reads kind h place elem constant n K = declared_reads kind h place elem constant n None K

  -- a local array
  local_begun : (w : Word) → t.kind ≡ WordKind w → (ws : List Word) (o : Option Scalar) → scalar_made o ws w → (K : List StmtFrame) →
      Leads (item_front K (one IsLocalWord (words ws (after t rest)))) (next_front (local_read o K) rest)
  local_begun w h ws None made K = any
  local_begun w h ws (Some s) made K = item_mono K (one_mono _ (word_taken t w h ws s made rest))

  local_reads : (kind : TokenKind) → t.kind ≡ kind → (K : List StmtFrame) →
      Leads (item_front K (one IsLocalWord (after t rest))) (next_front (local_word kind K) rest)
  local_reads (WordKind w) h K = local_begun w h [] (scalar_first w) (first_words w) K
  local_reads _ h K = any

  local_scalar_reads : (kind : TokenKind) → t.kind ≡ kind → (s : Scalar) (K : List StmtFrame) →
      Leads (item_front K (one IsLocalWord (words (scalar_words s) (after t rest)))) (next_front (local_scalar kind t.pos s K) rest)
  local_scalar_reads (NameKind text) h s K =
      item_mono K (one_mono _ (then (words_mono (scalar_words s) (taken t _ (h, refl))) (record { by = λ ts x. (s, refl, x) })))
  local_scalar_reads (WordKind w) h s K = local_begun w h (scalar_words s) (scalar_more s w) (more_words s w) K
  local_scalar_reads _ h s K = any

  local_named_reads : (kind : TokenKind) → t.kind ≡ kind → (elem : Elem) (n : Ident) (K : List StmtFrame) →
      Leads (item_front K (one IsLocalWord (scalar elem (name n (after t rest))))) (next_front (local_named kind elem n K) rest)
  local_named_reads (MarkKind OpenBracket) h elem n K = item_mono K (one_mono _ (scalar_mono elem (one_mono _ (taken t _ h))))
  local_named_reads _ h elem n K = any

  -- the first token of an expression
  begun_reads : (purpose : Purpose) (next : ExprNext) (K : List StmtFrame) →
      Leads (after t rest) (next_text t next rest) → Leads (purpose_front purpose K (after t rest)) (next_front (begun purpose next K) rest)
  begun_reads purpose (Goes focus inner) K f = purpose_mono purpose K f
  begun_reads purpose (Ends e) K f = any
  begun_reads purpose Refuses K f = any

  begin_reads : (kind : TokenKind) → t.kind ≡ kind → (purpose : Purpose) (K : List StmtFrame) →
      Leads (purpose_front purpose K (after t rest)) (next_front (begin_step kind t.pos purpose K) rest)
  begin_reads kind h purpose K = begun_reads purpose (operand_step kind t.pos []) K (operand_reads t rest kind h [])

  -- assignments
  assigned_reads : (kind : TokenKind) → t.kind ≡ kind → (place : Part) (target : TargetTree) (op : AssignOp) (value : Option ExprTree) (pos : Pos) (K : List StmtFrame) →
      Leads (assign_front place K (assign_text target op value pos (after t rest)))
      (next_front (assign_end kind place (AssignTree target op value pos) K) rest)
  assigned_reads (MarkKind Semicolon) h InBlock target op value pos K = front_mono K (assign_mono target op value pos (taken t _ h))
  assigned_reads (MarkKind Semicolon) h (InFirst done) target op value pos K =
      front_mono K (one_mono _ (one_mono _ (then (after_mono done (assign_mono target op value pos (taken t _ h))) (first_assigned done target op value pos _))))
  assigned_reads (MarkKind Comma) h (InFirst done) target op value pos K =
      front_mono K (one_mono _ (one_mono _
      (then (after_mono done (assign_mono target op value pos (taken t _ h)))
      (then (assigns_last done target op value pos _) (assigns_comma done (AssignTree target op value pos) _)))))
  assigned_reads (MarkKind CloseParen) h (InStep first test done) target op value pos K =
      front_mono K (for_mono first test (then (after_mono done (assign_mono target op value pos (taken t _ h))) (assigns_last done target op value pos _)))
  assigned_reads (MarkKind Comma) h (InStep first test done) target op value pos K =
      front_mono K (for_mono first test
      (then (after_mono done (assign_mono target op value pos (taken t _ h)))
      (then (assigns_last done target op value pos _) (assigns_comma done (AssignTree target op value pos) _))))
  assigned_reads _ h place target op value pos K = any

  whole_assigned : (kind : TokenKind) → t.kind ≡ kind → (place : Part) (s : StmtTree) (K : List StmtFrame) →
      Leads (assigned_front s place K (after t rest)) (next_front (assign_end kind place s K) rest)
  whole_assigned kind h place (AssignTree target op value pos) K = assigned_reads kind h place target op value pos K
  whole_assigned kind h place s K = nothing

  count_start_reads : (m : Mark) → t.kind ≡ MarkKind m → (place : Part) (K : List StmtFrame) →
      Leads (assign_front place K (after t rest)) (next_front (counted_start (count_of m) t.pos place K) rest)
  count_start_reads PlusPlus h place K = assigning_mono place K (taken t _ (h, refl))
  count_start_reads MinusMinus h place K = assigning_mono place K (taken t _ (h, refl))
  count_start_reads m h place K = any

  assign_reads : (kind : TokenKind) → t.kind ≡ kind → (place : Part) (K : List StmtFrame) →
      Leads (assign_front place K (after t rest)) (next_front (assign_start kind t.pos place K) rest)
  assign_reads (NameKind text) h place K = assigning_mono place K (taken t _ (h, refl))
  assign_reads (MarkKind m) h place K = count_start_reads m h place K
  assign_reads _ h place K = any

  with_reads : (m : Mark) → t.kind ≡ MarkKind m → (op : BinOp) → set_mark op ≡ Some m → (place : Part) (target : TargetTree) (K : List StmtFrame) →
      Leads (assign_front place K (target_text target (after t rest))) (purpose_front (ValueOf place target (With op) t.pos) K rest)
  with_reads m h op e place target K =
      subst (λ o. Leads (assign_front place K (target_text target (after t rest))) (assign_front place K (target_text target (sign_front o t.pos rest)))) (sym e)
      (assigning_mono place K (target_mono target (taken t _ (h, refl))))

  set_reads : (m : Mark) → t.kind ≡ MarkKind m → (place : Part) (target : TargetTree) (K : List StmtFrame) →
      Leads (assign_front place K (target_text target (after t rest))) (next_front (set_target (set_of m) t.pos place target K) rest)
  set_reads Equal h place target K = assigning_mono place K (target_mono target (taken t _ (h, refl)))
  set_reads PlusEqual h place target K = with_reads PlusEqual h Add refl place target K
  set_reads MinusEqual h place target K = with_reads MinusEqual h Sub refl place target K
  set_reads StarEqual h place target K = with_reads StarEqual h Mul refl place target K
  set_reads SlashEqual h place target K = with_reads SlashEqual h Div refl place target K
  set_reads PercentEqual h place target K = with_reads PercentEqual h Rem refl place target K
  set_reads ShiftLeftEqual h place target K = with_reads ShiftLeftEqual h Shl refl place target K
  set_reads ShiftRightEqual h place target K = with_reads ShiftRightEqual h Shr refl place target K
  set_reads AmpersandEqual h place target K = with_reads AmpersandEqual h And refl place target K
  set_reads CaretEqual h place target K = with_reads CaretEqual h Xor refl place target K
  set_reads BarEqual h place target K = with_reads BarEqual h Or refl place target K
  set_reads m h place target K = any

  mark_reads : (m : Mark) → t.kind ≡ MarkKind m → (place : Part) (target : TargetTree) (K : List StmtFrame) →
      Leads (assign_front place K (target_text target (after t rest))) (next_front (target_mark (count_of m) m t.pos place target K) rest)
  mark_reads PlusPlus h place target K = assigning_mono place K (then (target_mono target (taken t _ (h, refl))) left)
  mark_reads MinusMinus h place target K = assigning_mono place K (then (target_mono target (taken t _ (h, refl))) left)
  mark_reads m h place target K = set_reads m h place target K

  target_reads : (kind : TokenKind) → t.kind ≡ kind → (place : Part) (target : TargetTree) (K : List StmtFrame) →
      Leads (assign_front place K (target_text target (after t rest))) (next_front (target_step kind t.pos place target K) rest)
  target_reads (MarkKind m) h place target K = mark_reads m h place target K
  target_reads _ h place target K = any

  call_reads : (place : Part) → t.kind ≡ MarkKind OpenParen → (n : Ident) (K : List StmtFrame) →
      Leads (assign_front place K (name n (after t rest))) (next_front (call_start place n K) rest)
  call_reads InBlock h n K = front_mono K (one_mono _ (taken t _ h))
  call_reads (InFirst done) h n K = any
  call_reads (InStep first test done) h n K = any

  named_reads : (kind : TokenKind) → t.kind ≡ kind → (place : Part) (n : Ident) (K : List StmtFrame) →
      Leads (assign_front place K (name n (after t rest))) (next_front (assign_named kind t.pos place n K) rest)
  named_reads (MarkKind OpenBracket) h place n K = assigning_mono place K (one_mono _ (taken t _ (h, refl)))
  named_reads (MarkKind OpenParen) h place n K = call_reads place h n K
  named_reads kind h place n K = target_reads kind h place (NameTarget n) K

  counted_reads : (kind : TokenKind) → t.kind ≡ kind → (place : Part) (op : AssignOp) (at : Pos) (K : List StmtFrame) →
      Leads (assign_front place K (count_front op at (after t rest))) (next_front (counted_before kind t.pos place op at K) rest)
  counted_reads (NameKind text) h place op at K = assigning_mono place K (count_mono op at (taken t _ (h, refl)))
  counted_reads _ h place op at K = any

  counted : (op : AssignOp) (at : Pos) (target : TargetTree) (behind : Rest) →
      Leads (count_front op at (target_text target behind)) (assign_text target op None at behind)
  counted Up at target behind = right
  counted Down at target behind = right
  counted Set at target behind = same
  counted (With op) at target behind = same

  counted_named_reads : (kind : TokenKind) → t.kind ≡ kind → (place : Part) (op : AssignOp) (at : Pos) (n : Ident) (K : List StmtFrame) →
      Leads (assign_front place K (count_front op at (name n (after t rest)))) (next_front (counted_named kind t.pos place op at n K) rest)
  counted_named_reads (MarkKind OpenBracket) h place op at n K = assigning_mono place K (count_mono op at (one_mono _ (taken t _ (h, refl))))
  counted_named_reads kind h place op at n K =
      then (assigning_mono place K (counted op at (NameTarget n) _)) (assigned_reads kind h place (NameTarget n) op None at K)

  -- calls and barriers
  call_open_reads : (kind : TokenKind) → t.kind ≡ kind → (n : Ident) (K : List StmtFrame) →
      Leads (frames_front K (name n (mark OpenParen (after t rest)))) (next_front (call_open kind t.pos n K) rest)
  call_open_reads (MarkKind CloseParen) h n K = front_mono K (one_mono _ (one_mono _ (taken t _ h)))
  call_open_reads kind h n K = begin_reads kind h (ArgsOf n NoArgs) K

  number_reads : (kind : TokenKind) → t.kind ≡ kind → (at : Pos) (K : List StmtFrame) →
      Leads (frames_front K (numbers_front at (after t rest))) (next_front (barrier_open kind at K) rest)
  number_reads (NumberKind value unsigned) h at K =
      front_mono K (one_mono _ (one_mono _
      (both_lead
      (then (taken t IsNumber (value, unsigned, h)) (one_mono _ (one_number rest)))
      (one_mono _ (then (numbers_mono (one_mono _ (taken t IsNumber (value, unsigned, h)))) (number_last rest))))))
  number_reads _ h at K = any

  behind_number : (kind : TokenKind) → t.kind ≡ kind → (at : Pos) (K : List StmtFrame) →
      Leads (frames_front K (word_at Barrier at (mark OpenParen (one IsNumber (more_numbers_text (after t rest)))))) (next_front (barrier_number kind at K) rest)
  behind_number (MarkKind Bar) h at K =
      front_mono K (one_mono _ (one_mono _ (then (one_mono _ (numbers_mono (taken t (λ u. u.kind ≡ MarkKind Bar) {rest = rest} h))) right)))
  behind_number (MarkKind CloseParen) h at K =
      front_mono K (one_mono _ (one_mono _ (one_mono _ (numbers_mono (taken t (λ u. u.kind ≡ MarkKind CloseParen) {rest = rest} h)))))
  behind_number _ h at K = any

  -- a token that ends something
  semicolon_reads : t.kind ≡ MarkKind Semicolon → (s : StmtTree) (K : List StmtFrame) → Leads (ending_front s K (after t rest)) (whole_front s K rest)
  semicolon_reads h (LocalArrayTree elem n count) K =
      item_mono K (one_mono _ (scalar_mono elem (one_mono _ (one_mono _ (expr_mono count (one_mono _ (taken t _ h)))))))
  semicolon_reads h (CallStmtTree n args) K = front_mono K (one_mono _ (one_mono _ (args_mono args (one_mono _ (taken t _ h)))))
  semicolon_reads h (BarrierTree pos) K = front_mono K (one_mono _ (one_mono _ (one_mono _ (numbers_mono (one_mono _ (taken t _ h))))))
  semicolon_reads h (DoTree body test) K =
      front_mono K (one_mono _ (stmt_mono body (one_mono _ (one_mono _ (expr_mono test (one_mono _ (taken t _ h)))))))
  semicolon_reads h (BreakTree pos) K = front_mono K (one_mono _ (taken t _ h))
  semicolon_reads h (ContinueTree pos) K = front_mono K (one_mono _ (taken t _ h))
  semicolon_reads h s K = nothing

  ending_reads : (kind : TokenKind) → t.kind ≡ kind → (s : StmtTree) (K : List StmtFrame) →
      Leads (ending_front s K (after t rest)) (next_front (ending_step kind s K) rest)
  ending_reads (MarkKind Semicolon) h s K = semicolon_reads h s K
  ending_reads _ h s K = any

  return_ends : (kind : TokenKind) → t.kind ≡ kind → (at : Pos) (e : ExprTree) (K : List StmtFrame) →
      Leads (frames_front K (word_at Return at (expr_text e (after t rest)))) (next_front (ending_step kind (ReturnTree (Some e) at) K) rest)
  return_ends (MarkKind Semicolon) h at e K = front_mono K (one_mono _ (expr_mono e (taken t _ h)))
  return_ends _ h at e K = any

  open_reads : (kind : TokenKind) → t.kind ≡ kind → (next : StmtFocus) (K : List StmtFrame) (read : Rest) →
      (t.kind ≡ MarkKind OpenParen → Leads read (stmt_front next K rest)) → Leads read (next_front (open_step kind next K) rest)
  open_reads (MarkKind OpenParen) h next K read f = f h
  open_reads _ h next K read f = any

  first_reads : (kind : TokenKind) → t.kind ≡ kind → (K : List StmtFrame) →
      Leads (frames_front K (for_open (after t rest))) (next_front (first_start kind t.pos K) rest)
  first_reads (MarkKind Semicolon) h K = front_mono K (one_mono _ (one_mono _ (taken t _ h)))
  first_reads (WordKind w) h K = then (front_mono K (one_mono _ (one_mono _ (untyped _)))) (qualified_reads w h (InFirst NoStmts) false K)
  first_reads kind h K = assign_reads kind h (InFirst NoStmts) K

  test_reads : (kind : TokenKind) → t.kind ≡ kind → (first : StmtTrees) (K : List StmtFrame) →
      Leads (frames_front K (for_open (first_text first (mark Semicolon (after t rest))))) (next_front (test_start kind t.pos first K) rest)
  test_reads (MarkKind Semicolon) h first K = front_mono K (one_mono _ (one_mono _ (first_mono first (one_mono _ (taken t _ h)))))
  test_reads kind h first K = begin_reads kind h (ForTest first) K

  step_reads : (kind : TokenKind) → t.kind ≡ kind → (first : StmtTrees) (test : Option ExprTree) (K : List StmtFrame) →
      Leads (frames_front K (for_front first test (after t rest))) (next_front (step_start kind t.pos first test K) rest)
  step_reads (MarkKind CloseParen) h first test K = front_mono K (for_mono first test (taken t _ h))
  step_reads kind h first test K = assign_reads kind h (InStep first test NoStmts) K

  return_reads : (kind : TokenKind) → t.kind ≡ kind → (at : Pos) (K : List StmtFrame) →
      Leads (frames_front K (word_at Return at (after t rest))) (next_front (returning_step kind t.pos at K) rest)
  return_reads (MarkKind Semicolon) h at K = front_mono K (one_mono _ (taken t _ h))
  return_reads kind h at K = begin_reads kind h (ReturnOf at) K

  -- the token behind a whole expression
  count_ends : (kind : TokenKind) → t.kind ≡ kind → (elem : Elem) (n : Ident) (e : ExprTree) (K : List StmtFrame) →
      Leads (purpose_front (CountOf elem n) K (expr_text e (after t rest))) (next_front (end_count kind elem n e K) rest)
  count_ends (MarkKind CloseBracket) h elem n e K = item_mono K (one_mono _ (scalar_mono elem (one_mono _ (one_mono _ (expr_mono e (taken t _ h))))))
  count_ends _ h elem n e K = any

  index_ends : (kind : TokenKind) → t.kind ≡ kind → (place : Part) (n : Ident) (at : Pos) (e : ExprTree) (K : List StmtFrame) →
      Leads (purpose_front (IndexOf place n at) K (expr_text e (after t rest))) (next_front (end_index kind place n at e K) rest)
  index_ends (MarkKind CloseBracket) h place n at e K = assigning_mono place K (one_mono _ (one_mono _ (expr_mono e (taken t _ h))))
  index_ends _ h place n at e K = any

  counted_ends : (kind : TokenKind) → t.kind ≡ kind → (place : Part) (op : AssignOp) (pos : Pos) (n : Ident) (at : Pos) (e : ExprTree) (K : List StmtFrame) →
      Leads (purpose_front (CountedIndexOf place op pos n at) K (expr_text e (after t rest))) (next_front (end_counted kind place op pos n at e K) rest)
  counted_ends (MarkKind CloseBracket) h place op pos n at e K =
      then (assigning_mono place K (count_mono op pos (one_mono _ (one_mono _ (expr_mono e (taken t _ h))))))
      (assigning_mono place K (counted op pos (IndexTarget n e at) rest))
  counted_ends _ h place op pos n at e K = any

  signed : (o : Option Mark) (pos : Pos) (e : ExprTree) (behind : Rest) → Leads (sign_front o pos (expr_text e behind)) (set_text o pos e behind)
  signed None pos e behind = same
  signed (Some m) pos e behind = same

  valued : (target : TargetTree) (op : AssignOp) (pos : Pos) (e : ExprTree) (behind : Rest) →
      Leads (value_front target op pos (expr_text e behind)) (assign_text target op (Some e) pos behind)
  valued target Set pos e behind = same
  valued target (With op) pos e behind = target_mono target (signed (set_mark op) pos e behind)
  valued target Up pos e behind = same
  valued target Down pos e behind = same

  args_end : (kind : TokenKind) → t.kind ≡ kind → (n : Ident) (args : ArgTrees) (e : ExprTree) (K : List StmtFrame) →
      Leads (purpose_front (ArgsOf n args) K (expr_text e (after t rest))) (next_front (end_args kind n args e K) rest)
  args_end (MarkKind Comma) h n args e K =
      front_mono K (one_mono _ (one_mono _ (then (args_before_mono args (expr_mono e (taken t _ h))) (args_comma args e rest))))
  args_end (MarkKind CloseParen) h n args e K =
      front_mono K (one_mono _ (one_mono _ (then (args_before_mono args (expr_mono e (taken t _ h))) (args_last args e (mark CloseParen rest)))))
  args_end _ h n args e K = any

  close_reads : (kind : TokenKind) → t.kind ≡ kind → (next : StmtFocus) (K : List StmtFrame) (read : Rest) →
      (t.kind ≡ MarkKind CloseParen → Leads read (stmt_front next K rest)) → Leads read (next_front (close_with kind next K) rest)
  close_reads (MarkKind CloseParen) h next K read f = f h
  close_reads _ h next K read f = any

  test_ends : (kind : TokenKind) → t.kind ≡ kind → (first : StmtTrees) (e : ExprTree) (K : List StmtFrame) →
      Leads (purpose_front (ForTest first) K (expr_text e (after t rest))) (next_front (end_test kind first e K) rest)
  test_ends (MarkKind Semicolon) h first e K = front_mono K (one_mono _ (one_mono _ (first_mono first (one_mono _ (expr_mono e (taken t _ h))))))
  test_ends _ h first e K = any

  end_reads : (kind : TokenKind) → t.kind ≡ kind → (purpose : Purpose) (e : ExprTree) (K : List StmtFrame) →
      Leads (purpose_front purpose K (expr_text e (after t rest))) (next_front (end_step kind purpose e K) rest)
  end_reads kind h (InitOf place elem constant n) e K = declared_reads kind h place elem constant n (Some e) K
  end_reads kind h (CountOf elem n) e K = count_ends kind h elem n e K
  end_reads kind h (IndexOf place n at) e K = index_ends kind h place n at e K
  end_reads kind h (CountedIndexOf place op pos n at) e K = counted_ends kind h place op pos n at e K
  end_reads kind h (ValueOf place target op pos) e K =
      then (assigning_mono place K (valued target op pos e _)) (assigned_reads kind h place target op (Some e) pos K)
  end_reads kind h (ArgsOf n args) e K = args_end kind h n args e K
  end_reads kind h IfTest e K =
      close_reads kind h BodyStart (ThenFrame e ∷ K) _ (λ k. front_mono K (one_mono _ (one_mono _ (expr_mono e (taken t _ k)))))
  end_reads kind h WhileTest e K =
      close_reads kind h BodyStart (WhileFrame e ∷ K) _ (λ k. front_mono K (one_mono _ (one_mono _ (expr_mono e (taken t _ k)))))
  end_reads kind h (DoTest body) e K =
      close_reads kind h (Ending (DoTree body e)) K _
      (λ k. front_mono K (one_mono _ (stmt_mono body (one_mono _ (one_mono _ (expr_mono e (taken t _ k)))))))
  end_reads kind h (ForTest first) e K = test_ends kind h first e K
  end_reads kind h (ReturnOf at) e K = return_ends kind h at e K

  reading_reads : (purpose : Purpose) (next : ExprNext) (K : List StmtFrame) →
      Leads (purpose_front purpose K (next_text t next rest)) (next_front (reading_step t.kind purpose next K) rest)
  reading_reads purpose (Goes focus inner) K = same
  reading_reads purpose (Ends e) K = end_reads t.kind refl purpose e K
  reading_reads purpose Refuses K = any

  -- the first token of a statement
  body_word_reads : (w : Word) → t.kind ≡ WordKind w → (K : List StmtFrame) →
      Leads (frames_front K (after t rest)) (next_front (body_word w t.pos K) rest)
  body_word_reads If h K = front_mono K (taken t _ h)
  body_word_reads While h K = front_mono K (taken t _ h)
  body_word_reads For h K = front_mono K (taken t _ h)
  body_word_reads Do h K = front_mono K (taken t _ h)
  body_word_reads Barrier h K = front_mono K (taken t _ (h, refl))
  body_word_reads Break h K = front_mono K (taken t _ (h, refl))
  body_word_reads Continue h K = front_mono K (taken t _ (h, refl))
  body_word_reads Return h K = front_mono K (taken t _ (h, refl))
  body_word_reads _ h K = any

  body_mark_reads : (m : Mark) → t.kind ≡ MarkKind m → (K : List StmtFrame) →
      Leads (frames_front K (after t rest)) (next_front (body_mark m t.pos K) rest)
  body_mark_reads Semicolon h K = front_mono K (taken t _ h)
  body_mark_reads OpenBrace h K = front_mono K (taken t _ h)
  body_mark_reads m h K = count_start_reads m h InBlock K

  body_reads : (kind : TokenKind) → t.kind ≡ kind → (K : List StmtFrame) →
      Leads (frames_front K (after t rest)) (next_front (body_step kind t.pos K) rest)
  body_reads (NameKind text) h K = front_mono K (taken t _ (h, refl))
  body_reads (WordKind w) h K = body_word_reads w h K
  body_reads (MarkKind m) h K = body_mark_reads m h K
  body_reads _ h K = any

  -- the first token of an item of a block
  item_body : (K : List StmtFrame) (behind : Rest) → Leads (item_front K behind) (frames_front K behind)
  item_body [] behind = nothing
  item_body (BlockFrame items ∷ K) behind = same
  item_body (ThenFrame test ∷ K) behind = nothing
  item_body (ElseFrame test body ∷ K) behind = nothing
  item_body (WhileFrame test ∷ K) behind = nothing
  item_body (DoFrame ∷ K) behind = nothing
  item_body (ForFrame first test step ∷ K) behind = nothing

  block_reads : t.kind ≡ MarkKind CloseBrace → (K : List StmtFrame) → Leads (item_front K (after t rest)) (next_front (close_block K) rest)
  block_reads h [] = any
  block_reads h (BlockFrame items ∷ []) = one_mono _ (items_mono items (taken t _ h))
  block_reads h (BlockFrame items ∷ f ∷ K) =
      subst (λ b. Leads (item_front (BlockFrame items ∷ f ∷ K) (after t rest)) (next_front (close_items b items (f ∷ K)) rest)) (sym (nonempty f K))
      (front_mono (f ∷ K) (one_mono _ (items_mono items (taken t _ h))))
  block_reads h (_ ∷ K) = any

  item_scalar_reads : (w : Word) → t.kind ≡ WordKind w → (o : Option Scalar) → scalar_made o [] w → (K : List StmtFrame) →
      Leads (item_front K (after t rest)) (next_front (item_scalar o w t.pos K) rest)
  item_scalar_reads w h None made K = then (item_body K _) (body_word_reads w h K)
  item_scalar_reads w h (Some s) made K =
      item_mono K (then (untyped _) (qualifiers_mono false _ _ (λ before. given_mono _ (word_taken t w h [] s made rest))))

  item_word_reads : (w : Word) → t.kind ≡ WordKind w → (K : List StmtFrame) →
      Leads (item_front K (after t rest)) (next_front (item_word w t.pos K) rest)
  item_word_reads Const h K = item_mono K (then (taken t _ h) (then (untyped _) (const_last false false rest)))
  item_word_reads Volatile h K = item_mono K (then (taken t _ h) (then (untyped _) (volatile_last false false rest)))
  item_word_reads UnderscoreLocal h K = item_mono K (taken t IsLocalWord (inl h))
  item_word_reads Local h K = item_mono K (taken t IsLocalWord (inr h))
  item_word_reads w h K = item_scalar_reads w h (scalar_first w) (first_words w) K

  item_reads : (kind : TokenKind) → t.kind ≡ kind → (K : List StmtFrame) →
      Leads (item_front K (after t rest)) (next_front (item_step kind t.pos K) rest)
  item_reads (MarkKind CloseBrace) h K = block_reads h K
  item_reads (WordKind w) h K = item_word_reads w h K
  item_reads kind h K = then (item_body K _) (body_reads kind h K)

  -- a whole statement
  closing : (before_else : Bool) (f : StmtFrame) (s : StmtTree) (K : List StmtFrame) (behind : Rest) → ends_with before_else f ≡ true →
      Leads (whole_front s (f ∷ K) behind) (whole_front (completed f s) K behind)
  closing b (ThenFrame test) (LocalArrayTree elem n count) K behind h = nothing
  closing b (ThenFrame test) s K behind h = same
  closing b (ElseFrame test body) (LocalArrayTree elem n count) K behind h = nothing
  closing b (ElseFrame test body) s K behind h = same
  closing b (WhileFrame test) (LocalArrayTree elem n count) K behind h = nothing
  closing b (WhileFrame test) s K behind h = same
  closing b (ForFrame first test step) (LocalArrayTree elem n count) K behind h = nothing
  closing b (ForFrame first test step) s K behind h = same
  closing b DoFrame s K behind h = absurd (true≢false (sym h))
  closing b (BlockFrame items) s K behind h = absurd (true≢false (sym h))

  by_end : (b : Bool) (s : StmtTree) (f : StmtFrame) (K : List StmtFrame) (behind : Rest) (c : Bool) → ends_with b f ≡ c →
      Leads (whole_front (completed f s) K behind) (whole_front (finished b (completed f s) K).tree (finished b (completed f s) K).frames behind) →
      Leads (whole_front s (f ∷ K) behind)
      (let p = cond c (finished b (completed f s) K) (placed s (f ∷ K)) in whole_front p.tree p.frames behind)
  by_end b s f K behind true h further = then (closing b f s K behind h) further
  by_end b s f K behind false h further = same

  finished_reads : (b : Bool) (s : StmtTree) (K : List StmtFrame) (behind : Rest) →
      Leads (whole_front s K behind) (whole_front (finished b s K).tree (finished b s K).frames behind)
  finished_reads b s [] behind = same
  finished_reads b s (f ∷ K) behind = by_end b s f K behind (ends_with b f) refl (finished_reads b (completed f s) K behind)

  whole_item : (items : StmtTrees) (s : StmtTree) (K : List StmtFrame) (behind : Rest) →
      Leads (whole_front s (BlockFrame items ∷ K) behind) (item_front (BlockFrame (and_stmt items s) ∷ K) behind)
  whole_item items (LocalArrayTree elem n count) K behind = front_mono K (one_mono _ (with_local items elem n count behind))
  whole_item items s K behind = front_mono K (one_mono _ (with_stmt items s behind))

  else_reads : (kind : TokenKind) → t.kind ≡ kind → (test : ExprTree) (s : StmtTree) (K : List StmtFrame) →
      Leads (whole_front s (ThenFrame test ∷ K) (after t rest)) (next_front (else_step (is_else kind) test s K) rest)
  else_reads (WordKind Else) h test (LocalArrayTree elem n count) K = nothing
  else_reads (WordKind Else) h test s K = front_mono K (one_mono _ (one_mono _ (expr_mono test (one_mono _ (stmt_mono s (taken t (λ u. u.kind ≡ WordKind Else) {rest = rest} h))))))
  else_reads _ h test s K = any

  while_reads : (kind : TokenKind) → t.kind ≡ kind → (s : StmtTree) (K : List StmtFrame) →
      Leads (whole_front s (DoFrame ∷ K) (after t rest)) (next_front (while_step kind s K) rest)
  while_reads (WordKind While) h (LocalArrayTree elem n count) K = nothing
  while_reads (WordKind While) h s K = front_mono K (one_mono _ (stmt_mono s (taken t (λ u. u.kind ≡ WordKind While) {rest = rest} h)))
  while_reads _ h s K = any

  placed_reads : (kind : TokenKind) → t.kind ≡ kind → (s : StmtTree) (K : List StmtFrame) →
      Leads (whole_front s K (after t rest)) (next_front (placed_step kind t.pos s K) rest)
  placed_reads kind h s (ThenFrame test ∷ K) = else_reads kind h test s K
  placed_reads kind h s (DoFrame ∷ K) = while_reads kind h s K
  placed_reads kind h s (BlockFrame items ∷ K) = then (whole_item items s K _) (item_reads kind h (BlockFrame (and_stmt items s) ∷ K))
  placed_reads kind h s _ = any

  whole_reads : (kind : TokenKind) → t.kind ≡ kind → (s : StmtTree) (K : List StmtFrame) →
      Leads (whole_front s K (after t rest)) (next_front (finished_step kind t.pos (finished (is_else kind) s K)) rest)
  whole_reads kind h s K =
      then (finished_reads (is_else kind) s K _) (placed_reads kind h (finished (is_else kind) s K).tree (finished (is_else kind) s K).frames)

  -- one token of a function's body
  pub stmt_reads : (focus : StmtFocus) (K : List StmtFrame) →
      Leads (stmt_front focus K (after t rest)) (next_front (stmt_step t.kind t.pos focus K) rest)
  stmt_reads ItemStart K = item_reads t.kind refl K
  stmt_reads BodyStart K = body_reads t.kind refl K
  stmt_reads (Finished s) K = whole_reads t.kind refl s K
  stmt_reads (Ending s) K = ending_reads t.kind refl s K
  stmt_reads (Reading purpose focus inner) K =
      then (purpose_mono purpose K (expr_reads t rest focus inner)) (reading_reads purpose (expr_step t.kind t.pos focus inner) K)
  stmt_reads IfWord K = open_reads t.kind refl (Reading IfTest Operand []) K _ (λ k. front_mono K (one_mono _ (taken t _ k)))
  stmt_reads WhileWord K = open_reads t.kind refl (Reading WhileTest Operand []) K _ (λ k. front_mono K (one_mono _ (taken t _ k)))
  stmt_reads ForWord K = open_reads t.kind refl FirstStart K _ (λ k. front_mono K (one_mono _ (taken t _ k)))
  stmt_reads (DoWhile body) K =
      open_reads t.kind refl (Reading (DoTest body) Operand []) K _ (λ k. front_mono K (one_mono _ (stmt_mono body (one_mono _ (taken t _ k)))))
  stmt_reads (BarrierWord at) K =
      open_reads t.kind refl (BarrierOpen at) K _ (λ k. front_mono K (one_mono _ (then (taken t _ k) (one_mono _ left))))
  stmt_reads (BarrierOpen at) K = number_reads t.kind refl at K
  stmt_reads (BarrierNumber at) K = behind_number t.kind refl at K
  stmt_reads (QualifiersRead place constant) K = words_read t.kind refl place constant K
  stmt_reads (ScalarRead place constant s) K = scalar_step_reads t.kind refl place constant s K
  stmt_reads (TypeRead place elem constant) K = typed_reads t.kind refl place elem constant K
  stmt_reads (NameNext place elem constant) K = name_reads t.kind refl place elem constant K
  stmt_reads (Declared place elem constant n) K = declare_reads t.kind refl place elem constant n K
  stmt_reads LocalWord K = local_reads t.kind refl K
  stmt_reads (LocalScalar s) K = local_scalar_reads t.kind refl s K
  stmt_reads (LocalNamed elem n) K = local_named_reads t.kind refl elem n K
  stmt_reads (AssignNext place) K = assign_reads t.kind refl place K
  stmt_reads (AssignNamed place n) K = named_reads t.kind refl place n K
  stmt_reads (CountedBefore place op at) K = counted_reads t.kind refl place op at K
  stmt_reads (CountedNamed place op at n) K = counted_named_reads t.kind refl place op at n K
  stmt_reads (Targeted place target) K = target_reads t.kind refl place target K
  stmt_reads (Assigned place s) K = whole_assigned t.kind refl place s K
  stmt_reads (CallOpen n) K = call_open_reads t.kind refl n K
  stmt_reads FirstStart K = first_reads t.kind refl K
  stmt_reads (TestStart first) K = test_reads t.kind refl first K
  stmt_reads (StepStart first test) K = step_reads t.kind refl first test K
  stmt_reads (Returning at) K = return_reads t.kind refl at K
