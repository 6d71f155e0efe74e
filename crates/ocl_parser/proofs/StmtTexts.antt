-- The texts of statements, with what holds behind them replaced by what it leads to.
use Rattle.std.proofs.Common.{inl, inr, Bool, List, [], ◌∷◌, Option, Some, None}
use Rattle.vx_base.specs.declared.types.Elem.{Elem}
use Rattle.vx_base.specs.declared.types.Pos.{Pos}
use Rattle.ocl_ast.specs.declared.exprs.Ident.{Ident}
use Rattle.ocl_ast.specs.declared.stmts.AssignOp.{AssignOp}
use Rattle.ocl_ast.specs.declared.stmts.AssignOp.TheVariants.{Set, With, Up, Down}
use Rattle.ocl_ast.specs.Trees.{ExprTree, TargetTree, NameTarget, IndexTarget, StmtTree, DeclareTree, LocalArrayTree, AssignTree, CallStmtTree, BarrierTree, IfTree, IfElseTree, WhileTree, DoTree, ForTree, BreakTree, ContinueTree, ReturnTree, BlockTree, EmptyTree, StmtTrees, NoStmts, AndStmt}
use Rattle.ocl_tokens.specs.declared.marks.Mark.{Mark}
use Rattle.ocl_tokens.specs.declared.marks.Mark.TheVariants.{Equal}
use Rattle.ocl_tokens.specs.declared.tokens.Token.{Token}
use Rattle.ocl_parser.specs.Spellings.{Rest, either, given, set_mark}
use Rattle.ocl_parser.specs.Scalars.{qualifiers, declared_type}
use Rattle.ocl_parser.specs.Exprs.{option_text}
use Rattle.ocl_parser.specs.Stmts.{target_text, set_text, assign_text, declarator_text, more_numbers_text, more_assigns_text, assigns_text, more_names_text, first_text, stmt_text, items_text, names_text}
use Rattle.ocl_parser.proofs.Texts.{Leads, same, one_mono, scalar_mono, expr_mono, args_mono}

either_in : {a b c d : Rest} → Leads a c → Leads b d → (ts : List Token) → either a b ts → either c d ts
either_in f g ts (inl h) = inl (f.by ts h)
either_in f g ts (inr h) = inr (g.by ts h)

pub either_mono : {a b c d : Rest} → Leads a c → Leads b d → Leads (either a b) (either c d)
either_mono f g = record { by = either_in f g }

pub given_mono : (p : Type 0) {a b : Rest} → Leads a b → Leads (given p a) (given p b)
given_mono p f = record { by = λ ts h. (h.0, f.by ts h.1) }

pub option_mono : (o : Option ExprTree) {a b : Rest} → Leads a b → Leads (option_text o a) (option_text o b)
option_mono None f = f
option_mono (Some e) f = expr_mono e f

qualifiers_in : (a b : Bool → Rest) → ((c : Bool) → Leads (a c) (b c)) → (c : Bool) (ts : List Token) → qualifiers c a ts → qualifiers c b ts
qualifiers_in a b f c [] h = (f c).by [] h
qualifiers_in a b f c (t ∷ ts) (inl h) = inl ((f c).by (t ∷ ts) h)
qualifiers_in a b f c (t ∷ ts) (inr (inl h)) = inr (inl (h.0, qualifiers_in a b f _ ts h.1))
qualifiers_in a b f c (t ∷ ts) (inr (inr h)) = inr (inr (h.0, qualifiers_in a b f c ts h.1))

pub qualifiers_mono : (c : Bool) (a b : Bool → Rest) → ((d : Bool) → Leads (a d) (b d)) → Leads (qualifiers c a) (qualifiers c b)
qualifiers_mono c a b f = record { by = qualifiers_in a b f c }

pub type_mono : (elem : Elem) (constant : Bool) {a b : Rest} → Leads a b → Leads (declared_type elem constant a) (declared_type elem constant b)
type_mono elem constant f =
    qualifiers_mono _ _ _ (λ before. scalar_mono elem (qualifiers_mono before _ _ (λ both. given_mono _ f)))

pub target_mono : (target : TargetTree) {a b : Rest} → Leads a b → Leads (target_text target a) (target_text target b)
target_mono (NameTarget n) f = one_mono _ f
target_mono (IndexTarget n e p) f = one_mono _ (one_mono _ (expr_mono e (one_mono _ f)))

set_mono : (o : Option Mark) (pos : Pos) (value : ExprTree) {a b : Rest} → Leads a b → Leads (set_text o pos value a) (set_text o pos value b)
set_mono None pos value f = same
set_mono (Some m) pos value f = one_mono _ (expr_mono value f)

pub assign_mono : (target : TargetTree) (op : AssignOp) (value : Option ExprTree) (pos : Pos) {a b : Rest} → Leads a b →
    Leads (assign_text target op value pos a) (assign_text target op value pos b)
assign_mono target Set (Some value) pos f = target_mono target (set_mono (Some Equal) pos value f)
assign_mono target (With op) (Some value) pos f = target_mono target (set_mono (set_mark op) pos value f)
assign_mono target Up None pos f = either_mono (target_mono target (one_mono _ f)) (one_mono _ (target_mono target f))
assign_mono target Down None pos f = either_mono (target_mono target (one_mono _ f)) (one_mono _ (target_mono target f))
assign_mono target Set None pos f = same
assign_mono target (With op) None pos f = same
assign_mono target Up (Some value) pos f = same
assign_mono target Down (Some value) pos f = same

pub declarator_mono : (n : Ident) (value : Option ExprTree) {a b : Rest} → Leads a b → Leads (declarator_text n value a) (declarator_text n value b)
declarator_mono n None f = one_mono _ f
declarator_mono n (Some e) f = one_mono _ (one_mono _ (expr_mono e f))

numbers_in : {a b : Rest} → Leads a b → (ts : List Token) → more_numbers_text a ts → more_numbers_text b ts
numbers_in f [] h = f.by [] h
numbers_in f (t ∷ []) h = f.by (t ∷ []) h
numbers_in f (t ∷ u ∷ ts) (inl h) = inl (f.by (t ∷ u ∷ ts) h)
numbers_in f (t ∷ u ∷ ts) (inr h) = inr (h.0, h.1, numbers_in f ts h.2)

pub numbers_mono : {a b : Rest} → Leads a b → Leads (more_numbers_text a) (more_numbers_text b)
numbers_mono f = record { by = numbers_in f }

pub more_assigns_mono : (ss : StmtTrees) {a b : Rest} → Leads a b → Leads (more_assigns_text ss a) (more_assigns_text ss b)
more_assigns_mono NoStmts f = f
more_assigns_mono (AndStmt (AssignTree target op value pos) ss) f = one_mono _ (assign_mono target op value pos (more_assigns_mono ss f))
more_assigns_mono (AndStmt _ ss) f = same

pub assigns_mono : (ss : StmtTrees) {a b : Rest} → Leads a b → Leads (assigns_text ss a) (assigns_text ss b)
assigns_mono NoStmts f = f
assigns_mono (AndStmt (AssignTree target op value pos) ss) f = assign_mono target op value pos (more_assigns_mono ss f)
assigns_mono (AndStmt _ ss) f = same

pub more_names_mono : (elem : Elem) (constant : Bool) (ss : StmtTrees) {a b : Rest} → Leads a b → Leads (more_names_text elem constant ss a) (more_names_text elem constant ss b)
more_names_mono elem constant NoStmts f = f
more_names_mono elem constant (AndStmt (DeclareTree elem' constant' n value) ss) f =
    given_mono _ (given_mono _ (one_mono _ (declarator_mono n value (more_names_mono elem constant ss f))))
more_names_mono elem constant (AndStmt _ ss) f = same

pub first_mono : (ss : StmtTrees) {a b : Rest} → Leads a b → Leads (first_text ss a) (first_text ss b)
first_mono NoStmts f = f
first_mono (AndStmt (DeclareTree elem constant n value) ss) f = type_mono elem constant (declarator_mono n value (more_names_mono elem constant ss f))
first_mono (AndStmt (AssignTree target op value pos) ss) f = assigns_mono (AndStmt (AssignTree target op value pos) ss) f
first_mono (AndStmt _ ss) f = same

mutual
  pub stmt_mono : (s : StmtTree) {a b : Rest} → Leads a b → Leads (stmt_text s a) (stmt_text s b)
  stmt_mono EmptyTree f = one_mono _ f
  stmt_mono (BlockTree items) f = one_mono _ (items_mono items (one_mono _ f))
  stmt_mono (AssignTree target op value pos) f = assign_mono target op value pos (one_mono _ f)
  stmt_mono (CallStmtTree n args) f = one_mono _ (one_mono _ (args_mono args (one_mono _ (one_mono _ f))))
  stmt_mono (BarrierTree pos) f = one_mono _ (one_mono _ (one_mono _ (numbers_mono (one_mono _ (one_mono _ f)))))
  stmt_mono (IfTree test body) f = one_mono _ (one_mono _ (expr_mono test (one_mono _ (stmt_mono body f))))
  stmt_mono (IfElseTree test body other) f = one_mono _ (one_mono _ (expr_mono test (one_mono _ (stmt_mono body (one_mono _ (stmt_mono other f))))))
  stmt_mono (WhileTree test body) f = one_mono _ (one_mono _ (expr_mono test (one_mono _ (stmt_mono body f))))
  stmt_mono (DoTree body test) f = one_mono _ (stmt_mono body (one_mono _ (one_mono _ (expr_mono test (one_mono _ (one_mono _ f))))))
  stmt_mono (ForTree first test step body) f =
      one_mono _ (one_mono _ (first_mono first (one_mono _ (option_mono test (one_mono _ (assigns_mono step (one_mono _ (stmt_mono body f))))))))
  stmt_mono (BreakTree pos) f = one_mono _ (one_mono _ f)
  stmt_mono (ContinueTree pos) f = one_mono _ (one_mono _ f)
  stmt_mono (ReturnTree value pos) f = one_mono _ (option_mono value (one_mono _ f))
  stmt_mono (DeclareTree elem constant n value) f = same
  stmt_mono (LocalArrayTree elem n count) f = same

  pub items_mono : (ss : StmtTrees) {a b : Rest} → Leads a b → Leads (items_text ss a) (items_text ss b)
  items_mono NoStmts f = f
  items_mono (AndStmt (DeclareTree elem constant n value) ss) f = type_mono elem constant (declarator_mono n value (names_mono elem constant ss f))
  items_mono (AndStmt (LocalArrayTree elem n count) ss) f =
      one_mono _ (scalar_mono elem (one_mono _ (one_mono _ (expr_mono count (one_mono _ (one_mono _ (items_mono ss f)))))))
  items_mono (AndStmt s ss) f = stmt_mono s (items_mono ss f)

  pub names_mono : (elem : Elem) (constant : Bool) (ss : StmtTrees) {a b : Rest} → Leads a b → Leads (names_text elem constant ss a) (names_text elem constant ss b)
  names_mono elem constant NoStmts f = one_mono _ f
  names_mono elem constant (AndStmt (DeclareTree elem' constant' n value) ss) f =
      either_mono
      (one_mono _ (type_mono elem' constant' (declarator_mono n value (names_mono elem' constant' ss f))))
      (given_mono _ (given_mono _ (one_mono _ (declarator_mono n value (names_mono elem constant ss f)))))
  names_mono elem constant (AndStmt (LocalArrayTree elem' n count) ss) f =
      one_mono _ (one_mono _ (scalar_mono elem' (one_mono _ (one_mono _ (expr_mono count (one_mono _ (one_mono _ (items_mono ss f))))))))
  names_mono elem constant (AndStmt s ss) f = one_mono _ (stmt_mono s (items_mono ss f))
