-- Each text of a file is read.
use Rattle.std.proofs.Common.{◌≡◌, inl, inr, refl, sym, subst, ap, ◌∙◌, Bool, true, false, ◌||◌, List, [], ◌∷◌, ◌++◌, append_assoc, Option, Some, None, true≢false}
use Rattle.vx_base.specs.declared.types.Elem.{Elem}
use Rattle.vx_base.specs.declared.types.ParamKind.{ParamKind}
use Rattle.vx_base.specs.declared.types.ParamKind.TheVariants.{Scalar as ScalarKind, Pointer}
use Rattle.vx_base.specs.declared.types.Pos.{Pos}
use Rattle.vx_base.specs.declared.types.Space.{Space}
use Rattle.ocl_ast.specs.declared.exprs.Ident.{Ident}
use Rattle.ocl_ast.specs.declared.units.Gives.{Gives}
use Rattle.ocl_ast.specs.declared.units.Gives.TheVariants.{Nothing, Value}
use Rattle.ocl_ast.specs.declared.units.Param.{Param}
use Rattle.ocl_ast.specs.Trees.{FunctionTree, StmtTrees, NoStmts}
use Rattle.ocl_tokens.specs.declared.marks.Mark.TheVariants.{OpenParen, CloseParen, OpenBrace, CloseBrace, Comma, Star}
use Rattle.ocl_tokens.specs.declared.tokens.Token.{Token}
use Rattle.ocl_tokens.specs.declared.tokens.TokenKind.{TokenKind}
use Rattle.ocl_tokens.specs.declared.tokens.TokenKind.TheVariants.{Name as NameKind, Word as WordKind, Mark as MarkKind}
use Rattle.ocl_tokens.specs.declared.words.Word.{Word}
use Rattle.ocl_tokens.specs.declared.words.Word.TheVariants.{UnderscoreKernel, Kernel, UnderscoreGlobal, Global, UnderscoreConstant, Constant, UnderscoreLocal, Local, Const, Volatile, Inline, Static, Void}
use Rattle.ocl_parser.specs.Spellings.{Rest, either, given, one, mark, word, name}
use Rattle.ocl_parser.specs.Scalars.{scalar, scalar_elem, qualifiers}
use Rattle.ocl_parser.specs.ScalarSteps.{scalar_first}
use Rattle.ocl_parser.specs.Stmts.{items_text, AreOrderly}
use Rattle.ocl_parser.specs.Units.{IsSpaceWord, before_text, behind_text, is_constant, param_end_text, param_text, more_params_text, params_text, helper_words_text, gives_text, IsKernelWord, head_text, function_text, unit_text, AreOrderlyFunctions, Derives}
use Rattle.ocl_parser.specs.UnitSteps.{UnitNext, Reads, unit_step, inside_step, and_param, param_word, param_scalar, params_step, open_params, param_more, scalar_word_step, type_step, gives_read, helper_word, helper_step, outside_step}
use Rattle.ocl_parser.specs.Runs.{go_on, run}
use Rattle.ocl_parser.specs.declared.scalars.Scalar.{Scalar}
use Rattle.ocl_parser.specs.declared.states.Head.{Head}
use Rattle.ocl_parser.specs.declared.states.StmtFocus.TheVariants.{ItemStart}
use Rattle.ocl_parser.specs.declared.states.StmtFrame.TheVariants.{Block as BlockFrame}
use Rattle.ocl_parser.specs.declared.states.UnitFocus.{UnitFocus}
use Rattle.ocl_parser.specs.declared.states.UnitFocus.TheVariants.{Outside, KernelRead, HelperWords, GivesRead, HeadRead, HeadNamed, ParamsOpen, VoidRead, ParamWords, ParamScalar, ParamType, Starred, ParamNamed, ParamsClosed, Inside, AtEnd}
use Rattle.ocl_parser.proofs.Texts.{Leads}
use Rattle.ocl_parser.proofs.ScalarComplete.{ReadsWords, scalar_complete}
use Rattle.ocl_parser.proofs.StmtTakes.{TakesStmts}
use Rattle.ocl_parser.proofs.DeclareComplete.{not_none, const_more, volatile_more, scalar_starts, TypeStarts, is_type_first}
use Rattle.ocl_parser.proofs.StmtComplete.{all_stmts, all_stmts_none}
use Rattle.ocl_parser.proofs.BodyComplete.{read_items}

append_none : {A : Type 0} (xs : List A) → xs ++ [] ≡ xs
append_none [] = refl
append_none (x ∷ xs) = ap (λ z. x ∷ z) (append_none xs)

pub some_inj : {A : Type 0} {x y : A} → Some x ≡ Some y → x ≡ y
some_inj e = cc

abbrev follow : UnitNext → List FunctionTree → List Token → Option (List FunctionTree)
follow next functions ts = go_on next functions (λ focus all. run focus all ts)

first_param : (w : Word) (s : Scalar) → scalar_first w ≡ Some s → (head : Head) (done : List Param) (space : Option Space) (c : Bool) →
    param_word w head done space c ≡ Reads (ParamScalar head done space c s)
first_param Const s e head done space c = absurd (not_none e)
first_param Volatile s e head done space c = absurd (not_none e)
first_param UnderscoreGlobal s e head done space c = absurd (not_none e)
first_param Global s e head done space c = absurd (not_none e)
first_param UnderscoreConstant s e head done space c = absurd (not_none e)
first_param Constant s e head done space c = absurd (not_none e)
first_param UnderscoreLocal s e head done space c = absurd (not_none e)
first_param Local s e head done space c = absurd (not_none e)
first_param _ s e head done space c = ap (λ o. param_scalar o head done space c) e

first_gives : (w : Word) (s : Scalar) → scalar_first w ≡ Some s → helper_word w ≡ Reads (GivesRead s)
first_gives Inline s e = absurd (not_none e)
first_gives Static s e = absurd (not_none e)
first_gives Void s e = absurd (not_none e)
first_gives _ s e = ap gives_read e

-- words that may begin a parameter
abbrev is_param_first : TokenKind → Bool
is_param_first (WordKind Void) = false
is_param_first (WordKind w) = true
is_param_first _ = false

open_as : (kind : TokenKind) → is_param_first kind ≡ true → (head : Head) → open_params kind head ≡ params_step kind head [] None false
open_as (WordKind Void) h head = absurd (true≢false (sym h))
open_as (WordKind w) h head = refl
open_as _ h head = absurd (true≢false (sym h))

type_param : (kind : TokenKind) → is_type_first kind ≡ true → is_param_first kind ≡ true
type_param (WordKind Void) h = absurd (true≢false (sym h))
type_param (WordKind w) h = refl
type_param _ h = absurd (true≢false (sym h))

space_first : (s : Space) (t : Token) → IsSpaceWord s t → is_param_first t.kind ≡ true
space_first Space.Global t (inl h) = ap is_param_first h
space_first Space.Global t (inr h) = ap is_param_first h
space_first Space.Constant t (inl h) = ap is_param_first h
space_first Space.Constant t (inr h) = ap is_param_first h
space_first Space.Local t (inl h) = ap is_param_first h
space_first Space.Local t (inr h) = ap is_param_first h

abbrev ParamStarts : Rest
ParamStarts [] = ⊥
ParamStarts (t ∷ ts) = is_param_first t.kind ≡ true

types_params : (ts : List Token) → TypeStarts ts → ParamStarts ts
types_params [] h = h
types_params (t ∷ ts) h = type_param t.kind h

param_starts : (p : Param) (k : Rest) (ts : List Token) → param_text p k ts → ParamStarts ts
param_starts p k [] h = types_params [] (scalar_starts h.1.0 _ [] h.1.2)
param_starts p k (t ∷ ts) (elem, inl h) = types_params (t ∷ ts) (scalar_starts h.0 _ (t ∷ ts) h.2)
param_starts p k (t ∷ ts) (elem, inr (inl h)) = ap is_param_first h.0
param_starts p k (t ∷ ts) (elem, inr (inr (inl h))) = ap is_param_first h.0
param_starts p k (t ∷ ts) (elem, inr (inr (inr h))) = space_first h.1 t h.2

-- words that may begin a helper
abbrev is_helper_first : TokenKind → Bool
is_helper_first (WordKind UnderscoreKernel) = false
is_helper_first (WordKind Kernel) = false
is_helper_first (WordKind w) = true
is_helper_first _ = false

helper_as : (kind : TokenKind) → is_helper_first kind ≡ true → outside_step kind ≡ helper_step kind
helper_as (WordKind UnderscoreKernel) h = absurd (true≢false (sym h))
helper_as (WordKind Kernel) h = absurd (true≢false (sym h))
helper_as (WordKind w) h = refl
helper_as _ h = absurd (true≢false (sym h))

type_helper : (kind : TokenKind) → is_type_first kind ≡ true → is_helper_first kind ≡ true
type_helper (WordKind UnderscoreKernel) h = absurd (true≢false (sym h))
type_helper (WordKind Kernel) h = absurd (true≢false (sym h))
type_helper (WordKind w) h = refl
type_helper _ h = absurd (true≢false (sym h))

abbrev HelperStarts : Rest
HelperStarts [] = ⊥
HelperStarts (t ∷ ts) = is_helper_first t.kind ≡ true

types_helpers : (ts : List Token) → TypeStarts ts → HelperStarts ts
types_helpers [] h = h
types_helpers (t ∷ ts) h = type_helper t.kind h

gives_starts : (gives : Gives) (k : Rest) (ts : List Token) → gives_text gives k ts → HelperStarts ts
gives_starts Nothing k [] h = h
gives_starts Nothing k (t ∷ ts) h = ap is_helper_first h.0
gives_starts (Value elem) k ts h = types_helpers ts (scalar_starts h.0 _ ts h.2)

helper_starts : (gives : Gives) (k : Rest) (ts : List Token) → helper_words_text (gives_text gives k) ts → HelperStarts ts
helper_starts gives k [] h = gives_starts gives k [] h
helper_starts gives k (t ∷ ts) (inl h) = gives_starts gives k (t ∷ ts) h
helper_starts gives k (t ∷ ts) (inr (inl h, r)) = ap is_helper_first h
helper_starts gives k (t ∷ ts) (inr (inr h, r)) = ap is_helper_first h

-- what follows words of a parameter's type
abbrev is_tail : TokenKind → Bool
is_tail (NameKind text) = true
is_tail (MarkKind Star) = true
is_tail (WordKind Const) = true
is_tail (WordKind Volatile) = true
is_tail _ = false

tail_as : (kind : TokenKind) → is_tail kind ≡ true → (pos : Pos) (head : Head) (done : List Param) (space : Option Space) (c : Bool) (s : Scalar) →
    scalar_word_step kind pos head done space c s ≡ type_step kind pos head done space c (scalar_elem s)
tail_as (NameKind text) h pos head done space c s = refl
tail_as (MarkKind Star) h pos head done space c s = refl
tail_as (WordKind Const) h pos head done space c s = ap (λ o. param_more o (WordKind Const) pos head done space c s) (const_more s)
tail_as (WordKind Volatile) h pos head done space c s = ap (λ o. param_more o (WordKind Volatile) pos head done space c s) (volatile_more s)
tail_as _ h pos head done space c s = absurd (true≢false (sym h))

abbrev TailStarts : Rest
TailStarts [] = ⊥
TailStarts (t ∷ ts) = is_tail t.kind ≡ true

end_tails : (p : Param) (space : Option Space) (elem : Elem) (c : Bool) (k : Rest) (ts : List Token) → param_end_text p space elem c k ts → TailStarts ts
end_tails p None elem c k [] h = h.1.1
end_tails p None elem c k (t ∷ ts) h = ap is_tail h.1.1.0.0
end_tails p (Some space) elem c k [] h = h
end_tails p (Some space) elem c k (t ∷ ts) h = ap is_tail h.0

tails : (p : Param) (space : Option Space) (elem : Elem) (k : Rest) (c : Bool) (ts : List Token) →
    qualifiers c (λ constant. param_end_text p space elem constant k) ts → TailStarts ts
tails p space elem k c [] h = end_tails p space elem c k [] h
tails p space elem k c (t ∷ ts) (inl h) = end_tails p space elem c k (t ∷ ts) h
tails p space elem k c (t ∷ ts) (inr (inl h)) = ap is_tail h.0
tails p space elem k c (t ∷ ts) (inr (inr h)) = ap is_tail h.0

module _ (functions : List FunctionTree) (R : Option (List FunctionTree)) where
  abbrev Gives_R : UnitFocus → Rest
  Gives_R focus ts = run focus functions ts ≡ R

  moves : (t : Token) (ts : List Token) (focus focus' : UnitFocus) → unit_step t.kind t.pos focus ≡ Reads focus' → Gives_R focus' ts → Gives_R focus (t ∷ ts)
  moves t ts focus focus' e a = ap (λ n. follow n functions ts) e ∙ a

  likewise : (t : Token) (ts : List Token) (focus focus' : UnitFocus) → unit_step t.kind t.pos focus ≡ unit_step t.kind t.pos focus' →
      Gives_R focus' (t ∷ ts) → Gives_R focus (t ∷ ts)
  likewise t ts focus focus' e a = ap (λ n. follow n functions ts) e ∙ a

  one_in : (kind : TokenKind) (focus focus' : UnitFocus) → ((pos : Pos) → unit_step kind pos focus ≡ Reads focus') → (k : Rest) → Leads k (Gives_R focus') →
      (ts : List Token) → one (λ t. t.kind ≡ kind) k ts → Gives_R focus ts
  one_in kind focus focus' e k f [] h = absurd h
  one_in kind focus focus' e k f (t ∷ ts) h = moves t ts focus focus' (ap (λ z. unit_step z t.pos focus) h.0 ∙ e t.pos) (f.by ts h.1)

  unit_one : (kind : TokenKind) (focus focus' : UnitFocus) → ((pos : Pos) → unit_step kind pos focus ≡ Reads focus') → {k : Rest} → Leads k (Gives_R focus') →
      Leads (one (λ t. t.kind ≡ kind) k) (Gives_R focus)
  unit_one kind focus focus' e f = record { by = one_in kind focus focus' e _ f }

  name_in : (n : Ident) (focus focus' : UnitFocus) → unit_step (NameKind n.text) n.pos focus ≡ Reads focus' → (k : Rest) → Leads k (Gives_R focus') →
      (ts : List Token) → name n k ts → Gives_R focus ts
  name_in n focus focus' e k f [] h = absurd h
  name_in n focus focus' e k f (t ∷ ts) h =
      moves t ts focus focus' (ap (λ z. unit_step z t.pos focus) h.0.0 ∙ (ap (λ z. unit_step (NameKind n.text) z focus) h.0.1 ∙ e)) (f.by ts h.1)

  unit_name : (n : Ident) (focus focus' : UnitFocus) → unit_step (NameKind n.text) n.pos focus ≡ Reads focus' → {k : Rest} → Leads k (Gives_R focus') →
      Leads (name n k) (Gives_R focus)
  unit_name n focus focus' e f = record { by = name_in n focus focus' e _ f }

  -- a function's body
  in_body : (head : Head) (params : List Param) → TakesStmts (λ focus K. Gives_R (Inside head params focus K))
  in_body head params = record {
    goes = λ t ts focus K focus' K' e a. ap (λ n. follow (inside_step n head params) functions ts) e ∙ a;
    alike = λ t ts focus K focus' K' e a. ap (λ n. follow (inside_step n head params) functions ts) e ∙ a;
  }

  abbrev made : Head → List Param → StmtTrees → FunctionTree
  made head params body = record { kernel = head.kernel; name = head.name; gives = head.gives; params = params; body = body }

  close_in : (head : Head) (params : List Param) (body : StmtTrees) (k : Rest) → Leads k (λ ts. run Outside (functions ++ (made head params body ∷ [])) ts ≡ R) →
      (ts : List Token) → mark CloseBrace k ts → Gives_R (Inside head params ItemStart (BlockFrame body ∷ [])) ts
  close_in head params body k f [] h = absurd h
  close_in head params body k f (t ∷ ts) h =
      ap (λ z. follow (unit_step z t.pos (Inside head params ItemStart (BlockFrame body ∷ []))) functions ts) h.0 ∙ f.by ts h.1

  body_complete : (head : Head) (params : List Param) (body : StmtTrees) → AreOrderly body → (k : Rest) →
      Leads k (λ ts. run Outside (functions ++ (made head params body ∷ [])) ts ≡ R) →
      Leads (mark OpenBrace (items_text body (mark CloseBrace k))) (Gives_R (ParamsClosed head params))
  body_complete head params body g k f =
      unit_one (MarkKind OpenBrace) (ParamsClosed head params) (Inside head params ItemStart (BlockFrame NoStmts ∷ [])) (λ p. refl)
      (read_items (λ focus K. Gives_R (Inside head params focus K)) (in_body head params) body g NoStmts [] k
      (record {
        by = close_in head params (all_stmts NoStmts body) k
            (subst (λ z. Leads k (λ ts. run Outside (functions ++ (made head params z ∷ [])) ts ≡ R)) (sym (all_stmts_none body)) f);
      }))

  -- a parameter
  plain_param : (p : Param) (kind : ParamKind) (c : Bool) (done : List Param) → p.kind ≡ kind → p.constant ≡ c →
      and_param done p.name.text p.name.pos kind c ≡ done ++ (p ∷ [])
  plain_param p kind c done h i =
      ap (λ z. and_param done p.name.text p.name.pos z c) (sym h) ∙ ap (λ z. and_param done p.name.text p.name.pos p.kind z) (sym i)

  starred_in : (head : Head) (done : List Param) (p : Param) (kind : ParamKind) (k : Rest) → Leads k (Gives_R (ParamNamed head (done ++ (p ∷ [])))) →
      (fixed : Bool) (ts : List Token) → behind_text fixed (λ z. given (p.kind ≡ kind) (given (p.constant ≡ z) (name p.name k))) ts → Gives_R (Starred head done kind fixed) ts
  starred_in head done p kind k f fixed [] h = absurd h.1.1
  starred_in head done p kind k f fixed (t ∷ ts) (inl h) =
      name_in p.name (Starred head done kind fixed) (ParamNamed head (done ++ (p ∷ []))) (ap (λ z. Reads (ParamNamed head z)) (plain_param p kind fixed done h.0 h.1.0)) k f (t ∷ ts) h.1.1
  starred_in head done p kind k f fixed (t ∷ ts) (inr (inl h)) =
      moves t ts (Starred head done kind fixed) (Starred head done kind true) (ap (λ z. unit_step z t.pos (Starred head done kind fixed)) h.0)
      (starred_in head done p kind k f true ts h.1)
  starred_in head done p kind k f fixed (t ∷ ts) (inr (inr (inl h, r))) =
      moves t ts (Starred head done kind fixed) (Starred head done kind fixed) (ap (λ z. unit_step z t.pos (Starred head done kind fixed)) h)
      (starred_in head done p kind k f fixed ts r)
  starred_in head done p kind k f fixed (t ∷ ts) (inr (inr (inr h, r))) =
      moves t ts (Starred head done kind fixed) (Starred head done kind fixed) (ap (λ z. unit_step z t.pos (Starred head done kind fixed)) h)
      (starred_in head done p kind k f fixed ts r)

  end_in : (head : Head) (done : List Param) (p : Param) (space : Option Space) (elem : Elem) (c : Bool) (k : Rest) → Leads k (Gives_R (ParamNamed head (done ++ (p ∷ [])))) →
      (ts : List Token) → param_end_text p space elem c k ts → Gives_R (ParamType head done space c elem) ts
  end_in head done p None elem c k f ts h =
      name_in p.name (ParamType head done None c elem) (ParamNamed head (done ++ (p ∷ []))) (ap (λ z. Reads (ParamNamed head z)) (plain_param p (ScalarKind elem) c done h.0 h.1.0)) k f ts h.1.1
  end_in head done p (Some space) elem c k f ts h =
      one_in (MarkKind Star) (ParamType head done (Some space) c elem) (Starred head done (Pointer space elem (c || is_constant space)) false) (λ pos. refl) _
      (record { by = starred_in head done p (Pointer space elem (c || is_constant space)) k f false }) ts h

  type_in : (head : Head) (done : List Param) (p : Param) (space : Option Space) (elem : Elem) (k : Rest) → Leads k (Gives_R (ParamNamed head (done ++ (p ∷ [])))) →
      (c : Bool) (ts : List Token) → qualifiers c (λ constant. param_end_text p space elem constant k) ts → Gives_R (ParamType head done space c elem) ts
  type_in head done p space elem k f c [] h = end_in head done p space elem c k f [] h
  type_in head done p space elem k f c (t ∷ ts) (inl h) = end_in head done p space elem c k f (t ∷ ts) h
  type_in head done p space elem k f c (t ∷ ts) (inr (inl h)) =
      moves t ts (ParamType head done space c elem) (ParamType head done space true elem) (ap (λ z. unit_step z t.pos (ParamType head done space c elem)) h.0)
      (type_in head done p space elem k f true ts h.1)
  type_in head done p space elem k f c (t ∷ ts) (inr (inr h)) =
      moves t ts (ParamType head done space c elem) (ParamType head done space c elem) (ap (λ z. unit_step z t.pos (ParamType head done space c elem)) h.0)
      (type_in head done p space elem k f c ts h.1)

  behind_words : (head : Head) (done : List Param) (space : Option Space) (c : Bool) (s : Scalar) (ts : List Token) → TailStarts ts →
      Gives_R (ParamType head done space c (scalar_elem s)) ts → Gives_R (ParamScalar head done space c s) ts
  behind_words head done space c s [] b a = absurd b
  behind_words head done space c s (t ∷ ts) b a =
      likewise t ts (ParamScalar head done space c s) (ParamType head done space c (scalar_elem s)) (tail_as t.kind b t.pos head done space c s) a

  param_words : (head : Head) (done : List Param) (space : Option Space) (c : Bool) →
      ReadsWords (Gives_R (ParamWords head done space c)) (λ s. Gives_R (ParamScalar head done space c s))
  param_words head done space c = record {
    first = λ t w s ts h e a. moves t ts (ParamWords head done space c) (ParamScalar head done space c s)
        (ap (λ z. unit_step z t.pos (ParamWords head done space c)) h ∙ first_param w s e head done space c) a;
    more = λ t w r s ts h e a. moves t ts (ParamScalar head done space c r) (ParamScalar head done space c s)
        (ap (λ z. unit_step z t.pos (ParamScalar head done space c r)) h ∙ ap (λ o. param_more o (WordKind w) t.pos head done space c r) e) a;
  }

  scalar_in : (head : Head) (done : List Param) (p : Param) (elem : Elem) (k : Rest) → Leads k (Gives_R (ParamNamed head (done ++ (p ∷ [])))) →
      (space : Option Space) (c : Bool) (ts : List Token) → scalar elem (qualifiers c (λ constant. param_end_text p space elem constant k)) ts → Gives_R (ParamWords head done space c) ts
  scalar_in head done p elem k f space c ts h =
      let behind : Leads (qualifiers c (λ constant. param_end_text p space elem constant k)) (Gives_R (ParamScalar head done space c h.0)) =
      record {
        by = λ us x. behind_words head done space c h.0 us (tails p space elem k c us x)
            (subst (λ z. Gives_R (ParamType head done space c z) us) (sym h.1) (type_in head done p space elem k f c us x));
      } in
      (scalar_complete (param_words head done space c) _ h.0 behind).by ts h.2

  space_in : (head : Head) (done : List Param) (space : Option Space) (c : Bool) → space ≡ None → (s : Space) (t : Token) → IsSpaceWord s t →
      unit_step t.kind t.pos (ParamWords head done space c) ≡ Reads (ParamWords head done (Some s) c)
  space_in head done space c e Space.Global t (inl h) = ap (λ z. unit_step t.kind t.pos (ParamWords head done z c)) e ∙ ap (λ z. unit_step z t.pos (ParamWords head done None c)) h
  space_in head done space c e Space.Global t (inr h) = ap (λ z. unit_step t.kind t.pos (ParamWords head done z c)) e ∙ ap (λ z. unit_step z t.pos (ParamWords head done None c)) h
  space_in head done space c e Space.Constant t (inl h) = ap (λ z. unit_step t.kind t.pos (ParamWords head done z c)) e ∙ ap (λ z. unit_step z t.pos (ParamWords head done None c)) h
  space_in head done space c e Space.Constant t (inr h) = ap (λ z. unit_step t.kind t.pos (ParamWords head done z c)) e ∙ ap (λ z. unit_step z t.pos (ParamWords head done None c)) h
  space_in head done space c e Space.Local t (inl h) = ap (λ z. unit_step t.kind t.pos (ParamWords head done z c)) e ∙ ap (λ z. unit_step z t.pos (ParamWords head done None c)) h
  space_in head done space c e Space.Local t (inr h) = ap (λ z. unit_step t.kind t.pos (ParamWords head done z c)) e ∙ ap (λ z. unit_step z t.pos (ParamWords head done None c)) h

  before_in : (head : Head) (done : List Param) (p : Param) (elem : Elem) (k : Rest) → Leads k (Gives_R (ParamNamed head (done ++ (p ∷ [])))) →
      (space : Option Space) (c : Bool) (ts : List Token) →
      before_text space c (λ space before. scalar elem (qualifiers before (λ constant. param_end_text p space elem constant k))) ts → Gives_R (ParamWords head done space c) ts
  before_in head done p elem k f space c [] h = scalar_in head done p elem k f space c [] h
  before_in head done p elem k f space c (t ∷ ts) (inl h) = scalar_in head done p elem k f space c (t ∷ ts) h
  before_in head done p elem k f space c (t ∷ ts) (inr (inl h)) =
      moves t ts (ParamWords head done space c) (ParamWords head done space true) (ap (λ z. unit_step z t.pos (ParamWords head done space c)) h.0)
      (before_in head done p elem k f space true ts h.1)
  before_in head done p elem k f space c (t ∷ ts) (inr (inr (inl h))) =
      moves t ts (ParamWords head done space c) (ParamWords head done space c) (ap (λ z. unit_step z t.pos (ParamWords head done space c)) h.0)
      (before_in head done p elem k f space c ts h.1)
  before_in head done p elem k f space c (t ∷ ts) (inr (inr (inr h))) =
      moves t ts (ParamWords head done space c) (ParamWords head done (Some h.1) c) (space_in head done space c h.0 h.1 t h.2)
      (before_in head done p elem k f (Some h.1) c ts h.3)

  param_complete : (head : Head) (done : List Param) (p : Param) (k : Rest) → Leads k (Gives_R (ParamNamed head (done ++ (p ∷ [])))) →
      Leads (param_text p k) (Gives_R (ParamWords head done None false))
  param_complete head done p k f = record { by = λ ts h. before_in head done p h.0 k f None false ts h.1 }

  more_params : (head : Head) (done ps : List Param) (k : Rest) → Leads k (Gives_R (ParamsClosed head (done ++ ps))) →
      Leads (more_params_text ps (mark CloseParen k)) (Gives_R (ParamNamed head done))
  more_params head done [] k f =
      unit_one (MarkKind CloseParen) (ParamNamed head done) (ParamsClosed head done) (λ p. refl)
      (subst (λ z. Leads k (Gives_R (ParamsClosed head z))) (append_none done) f)
  more_params head done (p ∷ ps) k f =
      unit_one (MarkKind Comma) (ParamNamed head done) (ParamWords head done None false) (λ q. refl)
      (param_complete head done p _ (more_params head (done ++ (p ∷ [])) ps k
      (subst (λ z. Leads k (Gives_R (ParamsClosed head z))) (sym (append_assoc done (p ∷ []) ps)) f)))

  open_in : (head : Head) (ts : List Token) → ParamStarts ts → Gives_R (ParamWords head [] None false) ts → Gives_R (ParamsOpen head) ts
  open_in head [] b a = absurd b
  open_in head (t ∷ ts) b a = likewise t ts (ParamsOpen head) (ParamWords head [] None false) (open_as t.kind b head) a

  no_params : (head : Head) (k : Rest) → Leads k (Gives_R (ParamsClosed head [])) → (ts : List Token) →
      either (mark CloseParen k) (word Void (mark CloseParen k)) ts → Gives_R (ParamsOpen head) ts
  no_params head k f ts (inl h) = one_in (MarkKind CloseParen) (ParamsOpen head) (ParamsClosed head []) (λ p. refl) k f ts h
  no_params head k f ts (inr h) = one_in (WordKind Void) (ParamsOpen head) (VoidRead head) (λ p. refl) _
      (unit_one (MarkKind CloseParen) (VoidRead head) (ParamsClosed head []) (λ p. refl) f) ts h

  params_complete : (head : Head) (ps : List Param) (k : Rest) → Leads k (Gives_R (ParamsClosed head ps)) → Leads (params_text ps k) (Gives_R (HeadNamed head))
  params_complete head [] k f = unit_one (MarkKind OpenParen) (HeadNamed head) (ParamsOpen head) (λ p. refl) (record { by = no_params head k f })
  params_complete head (p ∷ ps) k f = unit_one (MarkKind OpenParen) (HeadNamed head) (ParamsOpen head) (λ q. refl)
      (record { by = λ ts h. open_in head ts (param_starts p _ ts h) ((param_complete head [] p _ (more_params head (p ∷ []) ps k f)).by ts h) })

  -- the head
  gives_words : ReadsWords (Gives_R HelperWords) (λ s. Gives_R (GivesRead s))
  gives_words = record {
    first = λ t w s ts h e a. moves t ts HelperWords (GivesRead s) (ap (λ z. unit_step z t.pos HelperWords) h ∙ first_gives w s e) a;
    more = λ t w r s ts h e a. moves t ts (GivesRead r) (GivesRead s) (ap (λ z. unit_step z t.pos (GivesRead r)) h ∙ ap gives_read e) a;
  }

  abbrev headed : Bool → Gives → Ident → Head
  headed kernel gives n = record { kernel = kernel; gives = gives; name = n }

  gives_in : (gives : Gives) (n : Ident) (k : Rest) → Leads k (Gives_R (HeadNamed (headed false gives n))) → (ts : List Token) → gives_text gives (name n k) ts → Gives_R HelperWords ts
  gives_in Nothing n k f ts h =
      one_in (WordKind Void) HelperWords (HeadRead false Nothing) (λ p. refl) _ (unit_name n (HeadRead false Nothing) (HeadNamed (headed false Nothing n)) refl f) ts h
  gives_in (Value elem) n k f ts h =
      (scalar_complete gives_words (name n k) h.0
      (unit_name n (GivesRead h.0) (HeadNamed (headed false (Value elem) n)) (ap (λ z. Reads (HeadNamed (headed false (Value z) n))) h.1) f)).by ts h.2

  helper_in : (gives : Gives) (n : Ident) (k : Rest) → Leads k (Gives_R (HeadNamed (headed false gives n))) → (ts : List Token) →
      helper_words_text (gives_text gives (name n k)) ts → Gives_R HelperWords ts
  helper_in gives n k f [] h = gives_in gives n k f [] h
  helper_in gives n k f (t ∷ ts) (inl h) = gives_in gives n k f (t ∷ ts) h
  helper_in gives n k f (t ∷ ts) (inr (inl h, r)) =
      moves t ts HelperWords HelperWords (ap (λ z. unit_step z t.pos HelperWords) h) (helper_in gives n k f ts r)
  helper_in gives n k f (t ∷ ts) (inr (inr h, r)) =
      moves t ts HelperWords HelperWords (ap (λ z. unit_step z t.pos HelperWords) h) (helper_in gives n k f ts r)

  outside_in : (ts : List Token) → HelperStarts ts → Gives_R HelperWords ts → Gives_R Outside ts
  outside_in [] b a = absurd b
  outside_in (t ∷ ts) b a = likewise t ts Outside HelperWords (helper_as t.kind b) a

  kernel_in : (k : Rest) → Leads k (Gives_R KernelRead) → (ts : List Token) → one IsKernelWord k ts → Gives_R Outside ts
  kernel_in k f [] h = absurd h
  kernel_in k f (t ∷ ts) (inl h, r) = moves t ts Outside KernelRead (ap (λ z. unit_step z t.pos Outside) h) (f.by ts r)
  kernel_in k f (t ∷ ts) (inr h, r) = moves t ts Outside KernelRead (ap (λ z. unit_step z t.pos Outside) h) (f.by ts r)

  head_complete : (kernel : Bool) (gives : Gives) (n : Ident) (k : Rest) → Leads k (Gives_R (HeadNamed (headed kernel gives n))) →
      Leads (head_text kernel gives (name n k)) (Gives_R Outside)
  head_complete true gives n k f = record {
    by = λ ts h.
        kernel_in _ (unit_one (WordKind Void) KernelRead (HeadRead true Nothing) (λ p. refl)
        (unit_name n (HeadRead true Nothing) (HeadNamed (headed true Nothing n)) refl
        (subst (λ z. Leads k (Gives_R (HeadNamed (headed true z n)))) h.0 f))) ts h.1;
  }
  head_complete false gives n k f = record { by = λ ts h. outside_in ts (helper_starts gives _ ts h) (helper_in gives n k f ts h) }

  function_complete : (f : FunctionTree) → AreOrderly f.body → (k : Rest) → Leads k (λ ts. run Outside (functions ++ (f ∷ [])) ts ≡ R) →
      Leads (function_text f k) (Gives_R Outside)
  function_complete f g k on =
      head_complete f.kernel f.gives f.name _
      (params_complete (headed f.kernel f.gives f.name) f.params _
      (body_complete (headed f.kernel f.gives f.name) f.params f.body g k on))

end_read : (functions : List FunctionTree) (ts : List Token) → unit_text [] ts → run Outside functions ts ≡ Some functions
end_read functions [] h = absurd h
end_read functions (t ∷ ts) h = ap (λ z. follow (outside_step z) functions ts) h.0 ∙ ap (run AtEnd functions) h.1

units_read : (fs functions : List FunctionTree) → AreOrderlyFunctions fs → (ts : List Token) → unit_text fs ts → run Outside functions ts ≡ Some (functions ++ fs)
units_read [] functions g ts h = subst (λ z. run Outside functions ts ≡ Some z) (sym (append_none functions)) (end_read functions ts h)
units_read (f ∷ fs) functions g ts h =
    (function_complete functions (Some (functions ++ (f ∷ fs))) f g.0 (unit_text fs) (record {
      by = λ us x.
          subst (λ z. run Outside (functions ++ (f ∷ [])) us ≡ Some z) (append_assoc functions (f ∷ []) fs) (units_read fs (functions ++ (f ∷ [])) g.1 us x);
    })).by ts h

-- Whatever tokens are a text of some functions, the reader reads these.
pub unit_complete : (tokens : List Token) (fs : List FunctionTree) → Derives tokens fs → run Outside [] tokens ≡ Some fs
unit_complete tokens fs h = units_read fs [] h.1 tokens h.0

-- two files of one text are the same
pub one_file : (tokens : List Token) (fs gs : List FunctionTree) → Derives tokens fs → Derives tokens gs → fs ≡ gs
one_file tokens fs gs h k = some_inj (sym (unit_complete tokens fs h) ∙ unit_complete tokens gs k)
