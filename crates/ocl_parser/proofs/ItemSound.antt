-- Items, names and assignments with one more at the end, as texts.
use Rattle.std.proofs.Common.{◌≡◌, refl, sym, subst, ap, ◌∙◌, inl, inr, Bool, true, false, List, [], ◌∷◌, Option}
use Rattle.vx_base.specs.declared.types.Elem.{Elem}
use Rattle.vx_base.specs.declared.types.Pos.{Pos}
use Rattle.ocl_ast.specs.declared.exprs.Ident.{Ident}
use Rattle.ocl_ast.specs.declared.stmts.AssignOp.{AssignOp}
use Rattle.ocl_ast.specs.Trees.{ExprTree, TargetTree, StmtTree, DeclareTree, LocalArrayTree, AssignTree, StmtTrees, NoStmts, AndStmt}
use Rattle.ocl_tokens.specs.declared.marks.Mark.TheVariants.{Semicolon, Comma, Bar}
use Rattle.ocl_tokens.specs.declared.tokens.Token.{Token}
use Rattle.ocl_tokens.specs.declared.words.Word.TheVariants.{Const, Volatile}
use Rattle.ocl_parser.specs.Spellings.{Rest, no_text, either, given, one, mark, word, IsNumber}
use Rattle.ocl_parser.specs.Scalars.{scalar_words, scalar_elem, qualifiers, declared_type}
use Rattle.ocl_parser.specs.Stmts.{assign_text, declarator_text, more_numbers_text, more_assigns_text, assigns_text, more_names_text, first_text, stmt_text, items_text, names_text}
use Rattle.ocl_parser.specs.StmtSteps.{and_stmt}
use Rattle.ocl_parser.specs.declared.scalars.Scalar.{Scalar}
use Rattle.ocl_parser.proofs.Texts.{Leads, same, then, one_mono, words_mono, scalar_mono, expr_mono}
use Rattle.ocl_parser.proofs.StmtTexts.{qualifiers_mono, type_mono, given_mono, assign_mono, declarator_mono, stmt_mono, items_mono}
use Rattle.ocl_parser.proofs.StmtFronts.{joined, items_open, first_open, type_words, after_assigns, local_text}

pub nothing : {a : Rest} → Leads no_text a
nothing = record { by = λ ts h. absurd h }

either_by : {a b c : Rest} → Leads a c → Leads b c → (ts : List Token) → either a b ts → c ts
either_by f g ts (inl h) = f.by ts h
either_by f g ts (inr h) = g.by ts h

pub both_lead : {a b c : Rest} → Leads a c → Leads b c → Leads (either a b) c
both_lead f g = record { by = either_by f g }

pub left : {a b : Rest} → Leads a (either a b)
left = record { by = λ ts h. inl h }

pub right : {a b : Rest} → Leads b (either a b)
right = record { by = λ ts h. inr h }

-- qualifiers
none_read : (rest : Bool → Rest) (c : Bool) (ts : List Token) → rest c ts → qualifiers c rest ts
none_read rest c [] h = h
none_read rest c (t ∷ ts) h = inl h

pub unqualified : (rest : Bool → Rest) (c : Bool) → Leads (rest c) (qualifiers c rest)
unqualified rest c = record { by = none_read rest c }

none_so : (both : Bool) (rest : Rest) (c : Bool) (ts : List Token) → c ≡ both → rest ts → qualifiers c (λ d. given (d ≡ both) rest) ts
none_so both rest c ts e h = none_read (λ d. given (d ≡ both) rest) c ts (e, h)

const_read : (rest : Rest) (c both : Bool) (ts : List Token) →
    qualifiers c (λ d. given (d ≡ both) (word Const rest)) ts → qualifiers c (λ d. given (d ≡ true) rest) ts
const_read rest c both [] h = absurd h.1
const_read rest c both (t ∷ ts) (inl h) = inr (inl (h.1.0, none_so true rest true ts refl h.1.1))
const_read rest c both (t ∷ ts) (inr (inl h)) = inr (inl (h.0, const_read rest true both ts h.1))
const_read rest c both (t ∷ ts) (inr (inr h)) = inr (inr (h.0, const_read rest c both ts h.1))

pub const_last : (c both : Bool) (rest : Rest) → Leads (qualifiers c (λ d. given (d ≡ both) (word Const rest))) (qualifiers c (λ d. given (d ≡ true) rest))
const_last c both rest = record { by = const_read rest c both }

volatile_read : (rest : Rest) (c both : Bool) (ts : List Token) →
    qualifiers c (λ d. given (d ≡ both) (word Volatile rest)) ts → qualifiers c (λ d. given (d ≡ both) rest) ts
volatile_read rest c both [] h = absurd h.1
volatile_read rest c both (t ∷ ts) (inl h) = inr (inr (h.1.0, none_so both rest c ts h.0 h.1.1))
volatile_read rest c both (t ∷ ts) (inr (inl h)) = inr (inl (h.0, volatile_read rest true both ts h.1))
volatile_read rest c both (t ∷ ts) (inr (inr h)) = inr (inr (h.0, volatile_read rest c both ts h.1))

pub volatile_last : (c both : Bool) (rest : Rest) →
    Leads (qualifiers c (λ d. given (d ≡ both) (word Volatile rest))) (qualifiers c (λ d. given (d ≡ both) rest))
volatile_last c both rest = record { by = volatile_read rest c both }

behind_words : (constant before : Bool) (rest : Rest) → before ≡ constant → Leads rest (qualifiers before (λ both. given (both ≡ constant) rest))
behind_words constant before rest e = record { by = λ ts h. none_so constant rest before ts e h }

pub untyped : (rest : Rest) → Leads rest (type_words false [] rest)
untyped rest = record { by = λ ts h. none_so false rest false ts refl h }

-- the words of a scalar type are a type, where no qualifiers stand behind
pub typed : (constant : Bool) (s : Scalar) (rest : Rest) → Leads (type_words constant (scalar_words s) rest) (declared_type (scalar_elem s) constant rest)
typed constant s rest =
    qualifiers_mono false _ _
    (λ before. record { by = λ ts h. (s, refl, (words_mono (scalar_words s) (behind_words constant before rest h.0)).by ts h.1) })

pub type_const : (elem : Elem) (constant : Bool) (rest : Rest) → Leads (declared_type elem constant (word Const rest)) (declared_type elem true rest)
type_const elem constant rest = qualifiers_mono false _ _ (λ before. scalar_mono elem (const_last before constant rest))

pub type_volatile : (elem : Elem) (constant : Bool) (rest : Rest) → Leads (declared_type elem constant (word Volatile rest)) (declared_type elem constant rest)
type_volatile elem constant rest = qualifiers_mono false _ _ (λ before. scalar_mono elem (volatile_last before constant rest))

-- numbers of a barrier
no_number : (rest : Rest) (ts : List Token) → rest ts → more_numbers_text rest ts
no_number rest [] h = h
no_number rest (t ∷ []) h = h
no_number rest (t ∷ u ∷ ts) h = inl h

pub one_number : (rest : Rest) → Leads rest (more_numbers_text rest)
one_number rest = record { by = no_number rest }

number_read : (rest : Rest) (ts : List Token) → more_numbers_text (mark Bar (one IsNumber rest)) ts → more_numbers_text rest ts
number_read rest [] h = absurd h
number_read rest (t ∷ []) h = absurd h.1
number_read rest (t ∷ u ∷ ts) (inl h) = inr (h.0, h.1.0, no_number rest ts h.1.1)
number_read rest (t ∷ u ∷ ts) (inr h) = inr (h.0, h.1, number_read rest ts h.2)

pub number_last : (rest : Rest) → Leads (more_numbers_text (mark Bar (one IsNumber rest))) (more_numbers_text rest)
number_last rest = record { by = number_read rest }

-- items behind items
pub and_joined : (done : StmtTrees) (s : StmtTree) → and_stmt done s ≡ joined done (AndStmt s NoStmts)
and_joined NoStmts s = refl
and_joined (AndStmt x ss) s = ap (AndStmt x) (and_joined ss s)

and_joined_in : (done : StmtTrees) (x : StmtTree) (names : StmtTrees) (s : StmtTree) →
    and_stmt (joined done (AndStmt x names)) s ≡ joined done (AndStmt x (and_stmt names s))
and_joined_in NoStmts x names s = refl
and_joined_in (AndStmt y ss) x names s = ap (AndStmt y) (and_joined_in ss x names s)

ended : (elem : Elem) (constant : Bool) (more : StmtTrees) (rest : Rest) →
    Leads (mark Semicolon (items_text more rest)) (names_text elem constant more rest)
ended elem constant NoStmts rest = same
ended elem constant (AndStmt (DeclareTree elem' constant' n value) ss) rest = left
ended elem constant (AndStmt (LocalArrayTree elem' n count) ss) rest = same
ended elem constant (AndStmt s ss) rest = same

mutual
  pub items_join : (done more : StmtTrees) (rest : Rest) → Leads (items_text done (items_text more rest)) (items_text (joined done more) rest)
  items_join NoStmts more rest = same
  items_join (AndStmt (DeclareTree elem constant n value) ss) more rest =
      type_mono elem constant (declarator_mono n value (names_join elem constant ss more rest))
  items_join (AndStmt (LocalArrayTree elem n count) ss) more rest =
      one_mono _ (scalar_mono elem (one_mono _ (one_mono _ (expr_mono count (one_mono _ (one_mono _ (items_join ss more rest)))))))
  items_join (AndStmt s ss) more rest = stmt_mono s (items_join ss more rest)

  names_join : (elem : Elem) (constant : Bool) (done more : StmtTrees) (rest : Rest) →
      Leads (names_text elem constant done (items_text more rest)) (names_text elem constant (joined done more) rest)
  names_join elem constant NoStmts more rest = ended elem constant more rest
  names_join elem constant (AndStmt (DeclareTree elem' constant' n value) ss) more rest =
      both_lead
      (then (one_mono _ (type_mono elem' constant' (declarator_mono n value (names_join elem' constant' ss more rest)))) left)
      (then (given_mono _ (given_mono _ (one_mono _ (declarator_mono n value (names_join elem constant ss more rest))))) right)
  names_join elem constant (AndStmt (LocalArrayTree elem' n count) ss) more rest =
      one_mono _ (one_mono _ (scalar_mono elem' (one_mono _ (one_mono _ (expr_mono count (one_mono _ (one_mono _ (items_join ss more rest))))))))
  names_join elem constant (AndStmt s ss) more rest = one_mono _ (stmt_mono s (items_join ss more rest))

item_only : (s : StmtTree) (rest : Rest) → Leads (stmt_text s rest) (items_text (AndStmt s NoStmts) rest)
item_only (DeclareTree elem constant n value) rest = nothing
item_only (LocalArrayTree elem n count) rest = nothing
item_only s rest = same

with_last : (done : StmtTrees) (s : StmtTree) (rest : Rest) → Leads (items_text done (items_text (AndStmt s NoStmts) rest)) (items_text (and_stmt done s) rest)
with_last done s rest = subst (λ items. Leads (items_text done (items_text (AndStmt s NoStmts) rest)) (items_text items rest)) (sym (and_joined done s)) (items_join done (AndStmt s NoStmts) rest)

pub with_stmt : (done : StmtTrees) (s : StmtTree) (rest : Rest) → Leads (items_text done (stmt_text s rest)) (items_text (and_stmt done s) rest)
with_stmt done s rest = then (items_mono done (item_only s rest)) (with_last done s rest)

pub with_local : (done : StmtTrees) (elem : Elem) (n : Ident) (count : ExprTree) (rest : Rest) →
    Leads (items_text done (local_text elem n count (mark Semicolon rest))) (items_text (and_stmt done (LocalArrayTree elem n count)) rest)
with_local done elem n count rest = with_last done (LocalArrayTree elem n count) rest

-- names of a declaration that goes on
names_last : (elem : Elem) (constant : Bool) (names : StmtTrees) (n : Ident) (value : Option ExprTree) (rest : Rest) →
    Leads (more_names_text elem constant names (mark Comma (declarator_text n value rest)))
    (more_names_text elem constant (and_stmt names (DeclareTree elem constant n value)) rest)
names_last elem constant NoStmts n value rest = record { by = λ ts h. (refl, (refl, h)) }
names_last elem constant (AndStmt (DeclareTree elem' constant' n' value') ss) n value rest =
    given_mono _ (given_mono _ (one_mono _ (declarator_mono n' value' (names_last elem constant ss n value rest))))
names_last elem constant (AndStmt _ ss) n value rest = nothing

names_end : (elem : Elem) (constant : Bool) (names : StmtTrees) (rest : Rest) →
    Leads (more_names_text elem constant names (mark Semicolon rest)) (names_text elem constant names rest)
names_end elem constant NoStmts rest = same
names_end elem constant (AndStmt (DeclareTree elem' constant' n value) ss) rest =
    then (given_mono _ (given_mono _ (one_mono _ (declarator_mono n value (names_end elem constant ss rest))))) right
names_end elem constant (AndStmt _ ss) rest = nothing

pub open_first : (done : StmtTrees) (elem : Elem) (constant : Bool) (n : Ident) (value : Option ExprTree) (rest : Rest) →
    Leads (items_text done (declared_type elem constant (declarator_text n value rest)))
    (items_open (and_stmt done (DeclareTree elem constant n value)) elem constant rest)
open_first done elem constant n value rest = record { by = λ ts h. (done, n, value, NoStmts, and_joined done (DeclareTree elem constant n value), h) }

pub open_last : (items : StmtTrees) (elem : Elem) (constant : Bool) (n : Ident) (value : Option ExprTree) (rest : Rest) →
    Leads (items_open items elem constant (mark Comma (declarator_text n value rest)))
    (items_open (and_stmt items (DeclareTree elem constant n value)) elem constant rest)
open_last items elem constant n value rest =
    record {
      by = λ ts h. (
        h.0,
        h.1,
        h.2,
        and_stmt h.3 (DeclareTree elem constant n value),
        ap (λ xs. and_stmt xs (DeclareTree elem constant n value)) h.4 ∙ and_joined_in h.0 (DeclareTree elem constant h.1 h.2) h.3 (DeclareTree elem constant n value),
        (items_mono h.0 (type_mono elem constant (declarator_mono h.1 h.2 (names_last elem constant h.3 n value rest)))).by ts h.5,
      );
    }

pub open_end : (items : StmtTrees) (elem : Elem) (constant : Bool) (rest : Rest) →
    Leads (items_open items elem constant (mark Semicolon rest)) (items_text items rest)
open_end items elem constant rest =
    record {
      by = λ ts h.
          subst (λ xs. items_text xs rest ts) (sym h.4)
          ((items_join h.0 (AndStmt (DeclareTree elem constant h.1 h.2) h.3) rest).by ts
          ((items_mono h.0 (type_mono elem constant (declarator_mono h.1 h.2 (names_end elem constant h.3 rest)))).by ts h.5));
    }

pub first_first : (elem : Elem) (constant : Bool) (n : Ident) (value : Option ExprTree) (rest : Rest) →
    Leads (declared_type elem constant (declarator_text n value rest)) (first_open (AndStmt (DeclareTree elem constant n value) NoStmts) elem constant rest)
first_first elem constant n value rest = record { by = λ ts h. (n, value, NoStmts, refl, h) }

pub first_last : (first : StmtTrees) (elem : Elem) (constant : Bool) (n : Ident) (value : Option ExprTree) (rest : Rest) →
    Leads (first_open first elem constant (mark Comma (declarator_text n value rest)))
    (first_open (and_stmt first (DeclareTree elem constant n value)) elem constant rest)
first_last first elem constant n value rest =
    record {
      by = λ ts h. (
        h.0,
        h.1,
        and_stmt h.2 (DeclareTree elem constant n value),
        ap (λ xs. and_stmt xs (DeclareTree elem constant n value)) h.3,
        (type_mono elem constant (declarator_mono h.0 h.1 (names_last elem constant h.2 n value rest))).by ts h.4,
      );
    }

pub first_end : (first : StmtTrees) (elem : Elem) (constant : Bool) (rest : Rest) → Leads (first_open first elem constant rest) (first_text first rest)
first_end first elem constant rest = record { by = λ ts h. subst (λ xs. first_text xs rest ts) (sym h.3) h.4 }

-- assignments with one more
more_assigns_last : (done : StmtTrees) (target : TargetTree) (op : AssignOp) (value : Option ExprTree) (pos : Pos) (rest : Rest) →
    Leads (more_assigns_text done (mark Comma (assign_text target op value pos rest))) (more_assigns_text (and_stmt done (AssignTree target op value pos)) rest)
more_assigns_last NoStmts target op value pos rest = same
more_assigns_last (AndStmt (AssignTree target' op' value' pos') ss) target op value pos rest =
    one_mono _ (assign_mono target' op' value' pos' (more_assigns_last ss target op value pos rest))
more_assigns_last (AndStmt _ ss) target op value pos rest = nothing

pub assigns_last : (done : StmtTrees) (target : TargetTree) (op : AssignOp) (value : Option ExprTree) (pos : Pos) (rest : Rest) →
    Leads (after_assigns done (assign_text target op value pos rest)) (assigns_text (and_stmt done (AssignTree target op value pos)) rest)
assigns_last NoStmts target op value pos rest = same
assigns_last (AndStmt (AssignTree target' op' value' pos') ss) target op value pos rest =
    assign_mono target' op' value' pos' (more_assigns_last ss target op value pos rest)
assigns_last (AndStmt _ ss) target op value pos rest = nothing

pub assigns_comma : (done : StmtTrees) (s : StmtTree) (rest : Rest) → Leads (assigns_text (and_stmt done s) (mark Comma rest)) (after_assigns (and_stmt done s) rest)
assigns_comma NoStmts s rest = same
assigns_comma (AndStmt x ss) s rest = same

first_made : (done : StmtTrees) (s : StmtTree) (rest : Rest) → Leads (assigns_text (and_stmt done s) rest) (first_text (and_stmt done s) rest)
first_made NoStmts (AssignTree target op value pos) rest = same
first_made NoStmts s rest = nothing
first_made (AndStmt (AssignTree target op value pos) ss) s rest = same
first_made (AndStmt x ss) s rest = nothing

pub first_assigned : (done : StmtTrees) (target : TargetTree) (op : AssignOp) (value : Option ExprTree) (pos : Pos) (rest : Rest) →
    Leads (after_assigns done (assign_text target op value pos rest)) (first_text (and_stmt done (AssignTree target op value pos)) rest)
first_assigned done target op value pos rest =
    then (assigns_last done target op value pos rest) (first_made done (AssignTree target op value pos) rest)
