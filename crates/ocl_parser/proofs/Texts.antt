-- What holds of the tokens behind a text may be replaced by what it leads to.
use Rattle.std.proofs.Common.{◌≡◌, sym, subst, List, [], ◌∷◌}
use Rattle.vx_base.specs.declared.types.Elem.{Elem}
use Rattle.ocl_ast.specs.Trees.{ExprTree, NumberTree, NameTree, UnaryTree, BinaryTree, BothTree, EitherTree, ChooseTree, CastTree, IndexTree, CallTree, ParenTree, ArgTrees, NoArgs, AndArg}
use Rattle.ocl_tokens.specs.declared.tokens.Token.{Token}
use Rattle.ocl_tokens.specs.declared.words.Word.{Word}
use Rattle.ocl_parser.specs.Spellings.{Rest, one, words}
use Rattle.ocl_parser.specs.Scalars.{scalar, scalar_words}
use Rattle.ocl_parser.specs.Exprs.{expr_text, args_text, more_args_text}

pub record Leads (a b : Rest) : Type 0 where
  pub by : (ts : List Token) → a ts → b ts

pub same : {a : Rest} → Leads a a
same = record { by = λ ts h. h }

pub then : {a b c : Rest} → Leads a b → Leads b c → Leads a c
then f g = record { by = λ ts h. g.by ts (f.by ts h) }

pub any : {a : Rest} → Leads a (λ ts. Unit {0})
any = record { by = λ ts h. tt }

one_leads : (p : Token → Type 0) {a b : Rest} → Leads a b → (ts : List Token) → one p a ts → one p b ts
one_leads p f [] h = h
one_leads p f (t ∷ ts) h = (h.0, f.by ts h.1)

pub one_mono : (p : Token → Type 0) {a b : Rest} → Leads a b → Leads (one p a) (one p b)
one_mono p f = record { by = one_leads p f }

-- exactly this token
abbrev pub after : Token → Rest → Rest
after t rest = one (λ u. u ≡ t) rest

taken_by : (t : Token) (p : Token → Type 0) (rest : Rest) → p t → (ts : List Token) → after t rest ts → one p rest ts
taken_by t p rest h [] e = e
taken_by t p rest h (u ∷ ts) e = (subst p (sym e.0) h, e.1)

pub taken : (t : Token) (p : Token → Type 0) {rest : Rest} → p t → Leads (after t rest) (one p rest)
taken t p {rest = rest} h = record { by = taken_by t p rest h }

pub words_mono : (ws : List Word) {a b : Rest} → Leads a b → Leads (words ws a) (words ws b)
words_mono [] f = f
words_mono (w ∷ ws) f = one_mono _ (words_mono ws f)

pub scalar_mono : (elem : Elem) {a b : Rest} → Leads a b → Leads (scalar elem a) (scalar elem b)
scalar_mono elem f = record { by = λ ts h. (h.0, h.1, (words_mono (scalar_words h.0) f).by ts h.2) }

abbrev mutual
  pub expr_mono : (e : ExprTree) {a b : Rest} → Leads a b → Leads (expr_text e a) (expr_text e b)
  expr_mono (NumberTree value unsigned pos) f = one_mono _ f
  expr_mono (NameTree n) f = one_mono _ f
  expr_mono (UnaryTree op part pos) f = one_mono _ (expr_mono part f)
  expr_mono (BinaryTree op left right pos) f = expr_mono left (one_mono _ (expr_mono right f))
  expr_mono (BothTree left right pos) f = expr_mono left (one_mono _ (expr_mono right f))
  expr_mono (EitherTree left right pos) f = expr_mono left (one_mono _ (expr_mono right f))
  expr_mono (ChooseTree test one_ other pos) f = expr_mono test (one_mono _ (expr_mono one_ (one_mono _ (expr_mono other f))))
  expr_mono (CastTree elem part pos) f = one_mono _ (scalar_mono elem (one_mono _ (expr_mono part f)))
  expr_mono (IndexTree array place pos) f = one_mono _ (one_mono _ (expr_mono place (one_mono _ f)))
  expr_mono (CallTree n args) f = one_mono _ (one_mono _ (args_mono args (one_mono _ f)))
  expr_mono (ParenTree part pos) f = one_mono _ (expr_mono part (one_mono _ f))

  pub args_mono : (args : ArgTrees) {a b : Rest} → Leads a b → Leads (args_text args a) (args_text args b)
  args_mono NoArgs f = f
  args_mono (AndArg arg args) f = expr_mono arg (more_args_mono args f)

  pub more_args_mono : (args : ArgTrees) {a b : Rest} → Leads a b → Leads (more_args_text args a) (more_args_text args b)
  more_args_mono NoArgs f = f
  more_args_mono (AndArg arg args) f = one_mono _ (expr_mono arg (more_args_mono args f))
