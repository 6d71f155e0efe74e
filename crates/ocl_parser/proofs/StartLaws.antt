-- The first token of a part, told apart from the one that leaves it out.
use Rattle.std.proofs.Common.{◌≡◌, refl, sym, Bool, true, false, List, Option, None, true≢false}
use Rattle.vx_base.specs.declared.types.Elem.{Elem}
use Rattle.vx_base.specs.declared.types.Pos.{Pos}
use Rattle.ocl_ast.specs.declared.exprs.Ident.{Ident}
use Rattle.ocl_ast.specs.Trees.{ExprTree, NoArgs, StmtTree, CallStmtTree, ReturnTree, StmtTrees, NoStmts}
use Rattle.ocl_tokens.specs.declared.marks.Mark.TheVariants.{CloseParen, Semicolon, Comma}
use Rattle.ocl_tokens.specs.declared.tokens.TokenKind.{TokenKind}
use Rattle.ocl_tokens.specs.declared.tokens.TokenKind.TheVariants.{Word as WordKind, Mark as MarkKind}
use Rattle.ocl_tokens.specs.declared.words.Word.{Word}
use Rattle.ocl_parser.specs.Starts.{is_closing, is_semicolon, first_part}
use Rattle.ocl_parser.specs.StmtSteps.{GoesOn, Stops, assign_start, begin_step, call_open, first_start, test_start, returning_step, declared_end}
use Rattle.ocl_parser.specs.declared.states.Part.{Part}
use Rattle.ocl_parser.specs.declared.states.Part.TheVariants.{InFirst, InStep}
use Rattle.ocl_parser.specs.declared.states.Purpose.TheVariants.{ArgsOf, ForTest, ReturnOf}
use Rattle.ocl_parser.specs.declared.states.StmtFocus.TheVariants.{Ending, TestStart, StepStart, Finished}
use Rattle.ocl_parser.specs.declared.states.StmtFrame.{StmtFrame}

pub call_closed : (kind : TokenKind) (pos : Pos) (n : Ident) (K : List StmtFrame) → is_closing kind ≡ true → GoesOn (Ending (CallStmtTree n NoArgs)) K ≡ call_open kind pos n K
call_closed (MarkKind CloseParen) pos n K h = refl
call_closed _ pos n K h = absurd (true≢false (sym h))

pub call_goes : (kind : TokenKind) (pos : Pos) (n : Ident) (K : List StmtFrame) → is_closing kind ≡ false → begin_step kind pos (ArgsOf n NoArgs) K ≡ call_open kind pos n K
call_goes (MarkKind CloseParen) pos n K h = absurd (true≢false h)
call_goes _ pos n K h = refl

pub first_empty : (kind : TokenKind) (pos : Pos) (K : List StmtFrame) → is_semicolon kind ≡ true → GoesOn (TestStart NoStmts) K ≡ first_start kind pos K
first_empty (MarkKind Semicolon) pos K h = refl
first_empty _ pos K h = absurd (true≢false (sym h))

pub first_goes : (kind : TokenKind) (pos : Pos) (K : List StmtFrame) → is_semicolon kind ≡ false → first_part kind pos (InFirst NoStmts) K ≡ first_start kind pos K
first_goes (MarkKind Semicolon) pos K h = absurd (true≢false h)
first_goes _ pos K h = refl

pub test_empty : (kind : TokenKind) (pos : Pos) (first : StmtTrees) (K : List StmtFrame) → is_semicolon kind ≡ true → GoesOn (StepStart first None) K ≡ test_start kind pos first K
test_empty (MarkKind Semicolon) pos first K h = refl
test_empty _ pos first K h = absurd (true≢false (sym h))

pub test_goes : (kind : TokenKind) (pos : Pos) (first : StmtTrees) (K : List StmtFrame) → is_semicolon kind ≡ false → begin_step kind pos (ForTest first) K ≡ test_start kind pos first K
test_goes (MarkKind Semicolon) pos first K h = absurd (true≢false h)
test_goes _ pos first K h = refl

pub return_empty : (kind : TokenKind) (pos at : Pos) (K : List StmtFrame) → is_semicolon kind ≡ true → GoesOn (Finished (ReturnTree None at)) K ≡ returning_step kind pos at K
return_empty (MarkKind Semicolon) pos at K h = refl
return_empty _ pos at K h = absurd (true≢false (sym h))

pub return_goes : (kind : TokenKind) (pos at : Pos) (K : List StmtFrame) → is_semicolon kind ≡ false → begin_step kind pos (ReturnOf at) K ≡ returning_step kind pos at K
return_goes (MarkKind Semicolon) pos at K h = absurd (true≢false h)
return_goes _ pos at K h = refl

-- no declaration stands in the last part of a `for`
pub never_declared : (kind : TokenKind) (first : StmtTrees) (test : Option ExprTree) (done : StmtTrees) (elem : Elem) (constant : Bool) (s : StmtTree) (K : List StmtFrame) →
    Stops ≡ declared_end kind (InStep first test done) elem constant s K
never_declared (MarkKind Semicolon) first test done elem constant s K = refl
never_declared (MarkKind Comma) first test done elem constant s K = refl
never_declared _ first test done elem constant s K = refl

-- what begins with no word is an assignment
pub not_word : (kind : TokenKind) (pos : Pos) (place : Part) (K : List StmtFrame) → ((w : Word) → kind ≡ WordKind w → ⊥) → assign_start kind pos place K ≡ first_part kind pos place K
not_word (WordKind w) pos place K h = absurd (h w refl)
not_word _ pos place K h = refl
