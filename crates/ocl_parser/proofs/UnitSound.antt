-- What the reader reads of a file is a text of what it has made.
use Rattle.std.proofs.Common.{◌≡◌, inl, inr, refl, sym, ap, subst, Bool, true, false, ◌||◌, ℕ, List, [], ◌∷◌, ◌++◌, Option, Some, None}
use Rattle.vx_base.specs.declared.types.Elem.{Elem}
use Rattle.vx_base.specs.declared.types.ParamKind.{ParamKind}
use Rattle.vx_base.specs.declared.types.ParamKind.TheVariants.{Scalar as ScalarKind, Pointer}
use Rattle.vx_base.specs.declared.types.Space.{Space}
use Rattle.ocl_ast.specs.declared.exprs.Ident.{Ident}
use Rattle.ocl_ast.specs.declared.units.Gives.{Gives}
use Rattle.ocl_ast.specs.declared.units.Gives.TheVariants.{Value}
use Rattle.ocl_ast.specs.declared.units.Param.{Param}
use Rattle.ocl_ast.specs.Trees.{FunctionTree}
use Rattle.ocl_tokens.specs.declared.marks.Mark.TheVariants.{OpenParen, CloseParen, OpenBrace, Comma, Star}
use Rattle.ocl_tokens.specs.declared.tokens.Token.{Token}
use Rattle.ocl_tokens.specs.declared.tokens.TokenKind.{TokenKind}
use Rattle.ocl_tokens.specs.declared.tokens.TokenKind.TheVariants.{Name as NameKind, Word as WordKind, Mark as MarkKind, End}
use Rattle.ocl_tokens.specs.declared.words.Word.{Word}
use Rattle.ocl_tokens.specs.declared.words.Word.TheVariants.{UnderscoreKernel, Kernel, UnderscoreGlobal, Global, UnderscoreConstant, Constant, UnderscoreLocal, Local, Const, Volatile, Restrict, Inline, Static, Void}
use Rattle.ocl_parser.specs.declared.scalars.Scalar.{Scalar}
use Rattle.ocl_parser.specs.Spellings.{Rest, given, one, mark, word, words, name}
use Rattle.ocl_parser.specs.Scalars.{scalar, scalar_words, scalar_elem, qualifiers}
use Rattle.ocl_parser.specs.ScalarSteps.{scalar_first, scalar_more}
use Rattle.ocl_parser.specs.Runs.{run, ended, go_on}
use Rattle.ocl_parser.specs.Units.{IsSpaceWord, behind_text, is_constant, param_end_text, param_text, params_text, helper_words_text, IsKernelWord, head_text, unit_text}
use Rattle.ocl_parser.specs.StmtSteps.{StmtNext, GoesOn, Closes, Stops, stmt_step}
use Rattle.ocl_parser.specs.UnitSteps.{UnitNext, Reads, Adds, Fails, gives_read, helper_word, helper_step, outside_step, kernel_step, head_step, gives_step, named_head, with_space, param_scalar, param_word, params_step, open_params, close_params, scalar_param, pointer_param, type_step, param_more, scalar_word_step, starred_step, named_step, brace_step, inside_step, unit_step}
use Rattle.ocl_parser.specs.declared.states.Head.{Head}
use Rattle.ocl_parser.specs.declared.states.UnitFocus.{UnitFocus}
use Rattle.ocl_parser.specs.declared.states.UnitFocus.TheVariants.{Outside, KernelRead, HelperWords, GivesRead, HeadRead, HeadNamed, ParamsOpen, VoidRead, ParamWords, ParamScalar, ParamType, Starred, ParamNamed, ParamsClosed, Inside, AtEnd}
use Rattle.ocl_parser.proofs.Texts.{Leads, same, then, any, one_mono, words_mono, scalar_mono, after, taken}
use Rattle.ocl_parser.proofs.ExprSound.{scalar_made, first_words, more_words, word_taken}
use Rattle.ocl_parser.proofs.StmtTexts.{given_mono, qualifiers_mono}
use Rattle.ocl_parser.proofs.ItemSound.{nothing, left, right, unqualified, const_last, volatile_last}
use Rattle.ocl_parser.proofs.StmtFronts.{next_front}
use Rattle.ocl_parser.proofs.StmtSound.{stmt_reads}
use Rattle.ocl_parser.proofs.UnitFronts.{functions_text, head_front, param_words, param_type, star_front, params_inside, params_front, unit_front, unit_next_front, before_mono, behind_mono, inside_mono, after_params_mono, params_mono, helper_mono, head_mono, head_front_mono, params_front_mono, functions_mono, functions_last, functions_end, params_last, params_comma, params_end, no_words, words_const, words_volatile, words_space, none_behind, behind_const, IsPointerWord, behind_other, IsHelperWord, helper_none, helper_last}

-- the words of a scalar type behind the words before it
typed : (space : Option Space) (constant : Bool) (s : Scalar) (rest : Rest) →
    Leads (param_words space constant (words (scalar_words s) rest)) (param_type space constant (scalar_elem s) rest)
typed space constant s rest =
    before_mono None false _ _
    (λ p c. given_mono _ (record {
      by = λ ts h.
          (s, refl, (words_mono (scalar_words s) (then (record { by = λ us x. (h.0, x) }) (unqualified (λ both. given (both ≡ constant) rest) c))).by ts h.1);
    }))

type_mono : (space : Option Space) (constant : Bool) (elem : Elem) {a b : Rest} → Leads a b → Leads (param_type space constant elem a) (param_type space constant elem b)
type_mono space constant elem f =
    before_mono None false _ _ (λ p before. given_mono _ (scalar_mono elem (qualifiers_mono before _ _ (λ both. given_mono _ f))))

words_front_mono : (space : Option Space) (constant : Bool) {a b : Rest} → Leads a b → Leads (param_words space constant a) (param_words space constant b)
words_front_mono space constant f = before_mono None false _ _ (λ p c. given_mono _ (given_mono _ f))

star_mono : (kind : ParamKind) (constant : Bool) {a b : Rest} → Leads a b → Leads (star_front kind constant a) (star_front kind constant b)
star_mono (ScalarKind elem) constant f = same
star_mono (Pointer space elem readonly) constant f =
    before_mono None false _ _
    (λ p before. given_mono _ (scalar_mono elem (qualifiers_mono before _ _
    (λ both. given_mono _ (one_mono _ (behind_mono false _ _ (λ fixed. given_mono _ f)))))))

-- whole parameters
scalar_whole : (n : Ident) (elem : Elem) (constant : Bool) (rest : Rest) →
    Leads (param_type None constant elem (name n rest)) (param_text (record { name = n; kind = ScalarKind elem; constant = constant }) rest)
scalar_whole n elem constant rest =
    let p : Param = record { name = n; kind = ScalarKind elem; constant = constant } in
    let inner : (before : Bool) → Leads (scalar elem (qualifiers before (λ both. given (both ≡ constant) (name n rest)))) (scalar elem (qualifiers before (λ both. param_end_text p None elem both rest)))
    = λ before. scalar_mono elem (qualifiers_mono before _ _ (λ both. record { by = λ ts x. (refl, (sym x.0, x.1)) })) in
    record {
      by = λ ts h. (
        elem,
        (before_mono None false _ _
            (λ s before. record {
              by = λ us x.
                  subst (λ o. scalar elem (qualifiers before (λ both. param_end_text p o elem both rest)) us) (sym x.0) ((inner before).by us x.1);
            })).by ts h,
      );
    }

starred_whole : (n : Ident) (space : Space) (elem : Elem) (readonly constant : Bool) (rest : Rest) →
    Leads (star_front (Pointer space elem readonly) constant (name n rest))
    (param_text (record { name = n; kind = Pointer space elem readonly; constant = constant }) rest)
starred_whole n space elem readonly constant rest =
    let p : Param = record { name = n; kind = Pointer space elem readonly; constant = constant } in
    let inner : (before : Bool) →
    Leads (scalar elem (qualifiers before (λ both. given (readonly ≡ (both || is_constant space)) (mark Star (behind_text false (λ fixed. given (fixed ≡ constant) (name n rest)))))))
    (scalar elem (qualifiers before (λ both. param_end_text p (Some space) elem both rest)))
    = λ before. scalar_mono elem (qualifiers_mono before _ _
    (λ both. record {
      by = λ ts x.
          (one_mono _ (behind_mono false _ _ (λ fixed. record { by = λ us y. (ap (Pointer space elem) x.0, (sym y.0, y.1)) }))).by ts x.1;
    })) in
    record {
      by = λ ts h. (
        elem,
        (before_mono None false _ _
            (λ s before. record {
              by = λ us x.
                  subst (λ o. scalar elem (qualifiers before (λ both. param_end_text p o elem both rest)) us) (sym x.0) ((inner before).by us x.1);
            })).by ts h,
      );
    }

star_whole : (n : Ident) (kind : ParamKind) (constant : Bool) (rest : Rest) →
    Leads (star_front kind constant (name n rest)) (param_text (record { name = n; kind = kind; constant = constant }) rest)
star_whole n (ScalarKind elem) constant rest = nothing
star_whole n (Pointer space elem readonly) constant rest = starred_whole n space elem readonly constant rest

spelled : (s : Scalar) (rest : Rest) → Leads (words (scalar_words s) rest) (scalar (scalar_elem s) rest)
spelled s rest = record { by = λ ts x. (s, refl, x) }

module _ (t : Token) (rest : Rest) (fs : List FunctionTree) where
  -- the head
  gives_reads : (w : Word) → t.kind ≡ WordKind w → (ws : List Word) (o : Option Scalar) → scalar_made o ws w →
      Leads (functions_text fs (helper_words_text (words ws (after t rest)))) (unit_next_front fs (gives_read o) rest)
  gives_reads w h ws None made = any
  gives_reads w h ws (Some s) made = functions_mono fs (helper_mono (word_taken t w h ws s made rest))

  helper_word_reads : (w : Word) → t.kind ≡ WordKind w → Leads (functions_text fs (helper_words_text (after t rest))) (unit_next_front fs (helper_word w) rest)
  helper_word_reads Inline h = functions_mono fs (then (helper_mono (taken t IsHelperWord (inl h))) (helper_last rest))
  helper_word_reads Static h = functions_mono fs (then (helper_mono (taken t IsHelperWord (inr h))) (helper_last rest))
  helper_word_reads Void h = functions_mono fs (helper_mono (taken t _ h))
  helper_word_reads w h = gives_reads w h [] (scalar_first w) (first_words w)

  helper_reads : (kind : TokenKind) → t.kind ≡ kind → Leads (functions_text fs (helper_words_text (after t rest))) (unit_next_front fs (helper_step kind) rest)
  helper_reads (WordKind w) h = helper_word_reads w h
  helper_reads _ h = any

  outside_word : (w : Word) → t.kind ≡ WordKind w → Leads (functions_text fs (after t rest)) (unit_next_front fs (outside_step (WordKind w)) rest)
  outside_word UnderscoreKernel h = functions_mono fs (taken t IsKernelWord (inl h))
  outside_word Kernel h = functions_mono fs (taken t IsKernelWord (inr h))
  outside_word w h = then (functions_mono fs (helper_none _)) (helper_word_reads w h)

  outside_reads : (kind : TokenKind) → t.kind ≡ kind → Leads (functions_text fs (after t rest)) (unit_next_front fs (outside_step kind) rest)
  outside_reads (WordKind w) h = outside_word w h
  outside_reads End h = functions_mono fs (taken t _ h)
  outside_reads _ h = any

  kernel_reads : (kind : TokenKind) → t.kind ≡ kind → Leads (functions_text fs (one IsKernelWord (after t rest))) (unit_next_front fs (kernel_step kind) rest)
  kernel_reads (WordKind Void) h = functions_mono fs (then (one_mono _ (taken t _ h)) (record { by = λ ts x. (refl, x) }))
  kernel_reads _ h = any

  head_reads : (kind : TokenKind) → t.kind ≡ kind → (kernel : Bool) (gives : Gives) →
      Leads (functions_text fs (head_text kernel gives (after t rest))) (unit_next_front fs (head_step kind t.pos kernel gives) rest)
  head_reads (NameKind text) h kernel gives = functions_mono fs (head_mono kernel gives (taken t _ (h, refl)))
  head_reads _ h kernel gives = any

  gives_step_reads : (kind : TokenKind) → t.kind ≡ kind → (s : Scalar) →
      Leads (functions_text fs (helper_words_text (words (scalar_words s) (after t rest)))) (unit_next_front fs (gives_step kind t.pos s) rest)
  gives_step_reads (WordKind w) h s = gives_reads w h (scalar_words s) (scalar_more s w) (more_words s w)
  gives_step_reads kind h s =
      then (functions_mono fs (helper_mono (spelled s (after t rest)))) (head_reads kind h false (Value (scalar_elem s)))

  named_reads : (kind : TokenKind) → t.kind ≡ kind → (head : Head) →
      Leads (functions_text fs (head_front head (after t rest))) (unit_next_front fs (named_head kind head) rest)
  named_reads (MarkKind OpenParen) h head = functions_mono fs (head_front_mono head (taken t _ h))
  named_reads _ h head = any

  -- the parameters
  scalar_reads : (w : Word) → t.kind ≡ WordKind w → (ws : List Word) (o : Option Scalar) → scalar_made o ws w → (head : Head) (ps : List Param) (space : Option Space) (constant : Bool) →
      Leads (functions_text fs (params_front head ps (param_words space constant (words ws (after t rest)))))
      (unit_next_front fs (param_scalar o head ps space constant) rest)
  scalar_reads w h ws None made head ps space constant = any
  scalar_reads w h ws (Some s) made head ps space constant =
      functions_mono fs (params_front_mono head ps (words_front_mono space constant (word_taken t w h ws s made rest)))

  space_reads : (space : Option Space) (s : Space) → IsSpaceWord s t → (head : Head) (ps : List Param) (constant : Bool) →
      Leads (functions_text fs (params_front head ps (param_words space constant (after t rest)))) (unit_next_front fs (with_space head ps space constant s) rest)
  space_reads None s h head ps constant =
      functions_mono fs (params_front_mono head ps (then (words_front_mono None constant (taken t (IsSpaceWord s) h)) (words_space s constant rest)))
  space_reads (Some other) s h head ps constant = any

  word_reads : (w : Word) → t.kind ≡ WordKind w → (head : Head) (ps : List Param) (space : Option Space) (constant : Bool) →
      Leads (functions_text fs (params_front head ps (param_words space constant (after t rest)))) (unit_next_front fs (param_word w head ps space constant) rest)
  word_reads Const h head ps space constant =
      functions_mono fs (params_front_mono head ps (then (words_front_mono space constant (taken t _ h)) (words_const space constant rest)))
  word_reads Volatile h head ps space constant =
      functions_mono fs (params_front_mono head ps (then (words_front_mono space constant (taken t _ h)) (words_volatile space constant rest)))
  word_reads UnderscoreGlobal h head ps space constant = space_reads space Space.Global (inl h) head ps constant
  word_reads Global h head ps space constant = space_reads space Space.Global (inr h) head ps constant
  word_reads UnderscoreConstant h head ps space constant = space_reads space Space.Constant (inl h) head ps constant
  word_reads Constant h head ps space constant = space_reads space Space.Constant (inr h) head ps constant
  word_reads UnderscoreLocal h head ps space constant = space_reads space Space.Local (inl h) head ps constant
  word_reads Local h head ps space constant = space_reads space Space.Local (inr h) head ps constant
  word_reads w h head ps space constant = scalar_reads w h [] (scalar_first w) (first_words w) head ps space constant

  params_reads : (kind : TokenKind) → t.kind ≡ kind → (head : Head) (ps : List Param) (space : Option Space) (constant : Bool) →
      Leads (functions_text fs (params_front head ps (param_words space constant (after t rest)))) (unit_next_front fs (params_step kind head ps space constant) rest)
  params_reads (WordKind w) h head ps space constant = word_reads w h head ps space constant
  params_reads _ h head ps space constant = any

  first_param : (kind : TokenKind) → t.kind ≡ kind → (head : Head) →
      Leads (functions_text fs (head_front head (mark OpenParen (after t rest)))) (unit_next_front fs (params_step kind head [] None false) rest)
  first_param kind h head =
      then (functions_mono fs (head_front_mono head (one_mono _ (no_words _)))) (params_reads kind h head [] None false)

  open_reads : (kind : TokenKind) → t.kind ≡ kind → (head : Head) →
      Leads (functions_text fs (head_front head (mark OpenParen (after t rest)))) (unit_next_front fs (open_params kind head) rest)
  open_reads (MarkKind CloseParen) h head = functions_mono fs (head_front_mono head (one_mono _ (then (taken t _ h) left)))
  open_reads (WordKind Void) h head = functions_mono fs (head_front_mono head (one_mono _ (taken t _ h)))
  open_reads kind h head = first_param kind h head

  void_reads : (kind : TokenKind) → t.kind ≡ kind → (head : Head) →
      Leads (functions_text fs (head_front head (mark OpenParen (word Void (after t rest))))) (unit_next_front fs (close_params kind head []) rest)
  void_reads (MarkKind CloseParen) h head = functions_mono fs (head_front_mono head (one_mono _ (then (one_mono _ (taken t _ h)) right)))
  void_reads _ h head = any

  name_reads : (text : List ℕ) → t.kind ≡ NameKind text → (space : Option Space) (head : Head) (ps : List Param) (constant : Bool) (elem : Elem) →
      Leads (functions_text fs (params_front head ps (param_type space constant elem (after t rest))))
      (unit_next_front fs (scalar_param space text t.pos head ps constant elem) rest)
  name_reads text h None head ps constant elem =
      functions_mono fs (head_front_mono head (one_mono _
      (then (after_params_mono ps (then (type_mono None constant elem (taken t _ (h, refl))) (scalar_whole _ elem constant rest))) (params_last ps _ rest))))
  name_reads text h (Some space) head ps constant elem = any

  pointer_reads : t.kind ≡ MarkKind Star → (space : Option Space) (head : Head) (ps : List Param) (constant : Bool) (elem : Elem) →
      Leads (functions_text fs (params_front head ps (param_type space constant elem (after t rest))))
      (unit_next_front fs (pointer_param space head ps constant elem) rest)
  pointer_reads h None head ps constant elem = any
  pointer_reads h (Some space) head ps constant elem =
      functions_mono fs (params_front_mono head ps
      (before_mono None false _ _
      (λ s before. given_mono _ (scalar_mono elem (qualifiers_mono before _ _
      (λ both. record {
        by = λ ts x.
            (ap (λ c. c || is_constant space) (sym x.0), (then (taken t _ h) (one_mono _ (none_behind rest))).by ts x.1);
      }))))))

  type_reads : (kind : TokenKind) → t.kind ≡ kind → (head : Head) (ps : List Param) (space : Option Space) (constant : Bool) (elem : Elem) →
      Leads (functions_text fs (params_front head ps (param_type space constant elem (after t rest))))
      (unit_next_front fs (type_step kind t.pos head ps space constant elem) rest)
  type_reads (NameKind text) h head ps space constant elem = name_reads text h space head ps constant elem
  type_reads (MarkKind Star) h head ps space constant elem = pointer_reads h space head ps constant elem
  type_reads (WordKind Const) h head ps space constant elem =
      functions_mono fs (params_front_mono head ps
      (before_mono None false _ _ (λ s before. given_mono _ (scalar_mono elem
      (then (qualifiers_mono before _ _ (λ both. given_mono _ (taken t _ h))) (const_last before constant rest))))))
  type_reads (WordKind Volatile) h head ps space constant elem =
      functions_mono fs (params_front_mono head ps
      (before_mono None false _ _ (λ s before. given_mono _ (scalar_mono elem
      (then (qualifiers_mono before _ _ (λ both. given_mono _ (taken t _ h))) (volatile_last before constant rest))))))
  type_reads _ h head ps space constant elem = any

  behind_scalar : (kind : TokenKind) → t.kind ≡ kind → (head : Head) (ps : List Param) (space : Option Space) (constant : Bool) (s : Scalar) →
      Leads (functions_text fs (params_front head ps (param_words space constant (words (scalar_words s) (after t rest)))))
      (unit_next_front fs (type_step kind t.pos head ps space constant (scalar_elem s)) rest)
  behind_scalar kind h head ps space constant s =
      then (functions_mono fs (params_front_mono head ps (typed space constant s _))) (type_reads kind h head ps space constant (scalar_elem s))

  more_reads : (w : Word) → t.kind ≡ WordKind w → (s : Scalar) (o : Option Scalar) → scalar_made o (scalar_words s) w → (head : Head) (ps : List Param) (space : Option Space) (constant : Bool) →
      Leads (functions_text fs (params_front head ps (param_words space constant (words (scalar_words s) (after t rest)))))
      (unit_next_front fs (param_more o (WordKind w) t.pos head ps space constant s) rest)
  more_reads w h s None made head ps space constant = behind_scalar (WordKind w) h head ps space constant s
  more_reads w h s (Some more) made head ps space constant = scalar_reads w h (scalar_words s) (Some more) made head ps space constant

  scalar_word_reads : (kind : TokenKind) → t.kind ≡ kind → (head : Head) (ps : List Param) (space : Option Space) (constant : Bool) (s : Scalar) →
      Leads (functions_text fs (params_front head ps (param_words space constant (words (scalar_words s) (after t rest)))))
      (unit_next_front fs (scalar_word_step kind t.pos head ps space constant s) rest)
  scalar_word_reads (WordKind w) h head ps space constant s = more_reads w h s (scalar_more s w) (more_words s w) head ps space constant
  scalar_word_reads kind h head ps space constant s = behind_scalar kind h head ps space constant s

  star_words : (kind : ParamKind) (constant next : Bool) (before : Rest) →
      Leads (behind_text false (λ fixed. given (fixed ≡ constant) before)) (behind_text false (λ fixed. given (fixed ≡ next) rest)) →
      Leads (star_front kind constant before) (star_front kind next rest)
  star_words (ScalarKind elem) constant next before f = nothing
  star_words (Pointer space elem readonly) constant next before f =
      before_mono None false _ _
      (λ s b. given_mono _ (scalar_mono elem (qualifiers_mono b _ _ (λ both. given_mono _ (one_mono _ f)))))

  starred_reads : (kind : TokenKind) → t.kind ≡ kind → (head : Head) (ps : List Param) (pointer : ParamKind) (constant : Bool) →
      Leads (functions_text fs (params_front head ps (star_front pointer constant (after t rest))))
      (unit_next_front fs (starred_step kind t.pos head ps pointer constant) rest)
  starred_reads (NameKind text) h head ps pointer constant =
      functions_mono fs (head_front_mono head (one_mono _
      (then (after_params_mono ps (then (star_mono pointer constant (taken t _ (h, refl))) (star_whole _ pointer constant rest))) (params_last ps _ rest))))
  starred_reads (WordKind Const) h head ps pointer constant =
      functions_mono fs (params_front_mono head ps (then (star_mono pointer constant (taken t _ h)) (star_words pointer constant true _ (behind_const constant rest))))
  starred_reads (WordKind Restrict) h head ps pointer constant =
      functions_mono fs (params_front_mono head ps (then (star_mono pointer constant (taken t IsPointerWord (inl h))) (star_words pointer constant constant _ (behind_other constant rest))))
  starred_reads (WordKind Volatile) h head ps pointer constant =
      functions_mono fs (params_front_mono head ps (then (star_mono pointer constant (taken t IsPointerWord (inr h))) (star_words pointer constant constant _ (behind_other constant rest))))
  starred_reads _ h head ps pointer constant = any

  behind_param : (kind : TokenKind) → t.kind ≡ kind → (head : Head) (ps : List Param) →
      Leads (functions_text fs (head_front head (mark OpenParen (params_inside ps (after t rest))))) (unit_next_front fs (named_step kind head ps) rest)
  behind_param (MarkKind Comma) h head ps =
      functions_mono fs (head_front_mono head (one_mono _
      (then (inside_mono ps (taken t _ h)) (then (params_comma ps rest) (after_params_mono ps (no_words rest))))))
  behind_param (MarkKind CloseParen) h head ps =
      functions_mono fs (head_front_mono head (then (one_mono _ (inside_mono ps (taken t _ h))) (params_end ps rest)))
  behind_param _ h head ps = any

  -- the body
  brace_reads : (kind : TokenKind) → t.kind ≡ kind → (head : Head) (ps : List Param) →
      Leads (functions_text fs (head_front head (params_text ps (after t rest)))) (unit_next_front fs (brace_step kind head ps) rest)
  brace_reads (MarkKind OpenBrace) h head ps = functions_mono fs (head_front_mono head (params_mono ps (taken t _ h)))
  brace_reads _ h head ps = any

  inside_reads : (head : Head) (ps : List Param) (next : StmtNext) →
      Leads (functions_text fs (head_front head (params_text ps (next_front next rest)))) (unit_next_front fs (inside_step next head ps) rest)
  inside_reads head ps (GoesOn focus K) = same
  inside_reads head ps (Closes body) = functions_last fs (record { kernel = head.kernel; name = head.name; gives = head.gives; params = ps; body = body }) rest
  inside_reads head ps Stops = any

  -- one token of a file
  pub unit_reads : (focus : UnitFocus) → Leads (functions_text fs (unit_front focus (after t rest))) (unit_next_front fs (unit_step t.kind t.pos focus) rest)
  unit_reads Outside = outside_reads t.kind refl
  unit_reads KernelRead = kernel_reads t.kind refl
  unit_reads HelperWords = helper_reads t.kind refl
  unit_reads (GivesRead s) = gives_step_reads t.kind refl s
  unit_reads (HeadRead kernel gives) = head_reads t.kind refl kernel gives
  unit_reads (HeadNamed head) = named_reads t.kind refl head
  unit_reads (ParamsOpen head) = open_reads t.kind refl head
  unit_reads (VoidRead head) = void_reads t.kind refl head
  unit_reads (ParamWords head ps space constant) = params_reads t.kind refl head ps space constant
  unit_reads (ParamScalar head ps space constant s) = scalar_word_reads t.kind refl head ps space constant s
  unit_reads (ParamType head ps space constant elem) = type_reads t.kind refl head ps space constant elem
  unit_reads (Starred head ps pointer constant) = starred_reads t.kind refl head ps pointer constant
  unit_reads (ParamNamed head ps) = behind_param t.kind refl head ps
  unit_reads (ParamsClosed head ps) = brace_reads t.kind refl head ps
  unit_reads (Inside head ps focus K) =
      then (functions_mono fs (head_front_mono head (params_mono ps (stmt_reads t rest focus K)))) (inside_reads head ps (stmt_step t.kind t.pos focus K))
  unit_reads AtEnd = any

-- exactly these tokens
abbrev pub exactly : List Token → Rest
exactly [] = λ us. us ≡ []
exactly (t ∷ ts) = after t (exactly ts)

exactly_so : (ts : List Token) → exactly ts ts
exactly_so [] = refl
exactly_so (t ∷ ts) = (refl, exactly_so ts)

pub none_some : {A : Type 0} {x : A} → None ≡ Some x → ⊥
none_some e = cc

pub some_same : {A : Type 0} {x y : A} → Some x ≡ Some y → x ≡ y
some_same e = cc

at_end : (focus : UnitFocus) (fs gs : List FunctionTree) → ended focus fs ≡ Some gs → Leads (functions_text fs (unit_front focus (exactly []))) (unit_text gs)
at_end AtEnd fs gs e = subst (λ xs. Leads (functions_text fs (one (λ t. t.kind ≡ End) (λ us. us ≡ []))) (unit_text xs)) (some_same e) (functions_end fs)
at_end _ fs gs e = absurd (none_some e)

goes : (ts : List Token) (fs gs : List FunctionTree) (next : UnitNext) →
    ((focus : UnitFocus) (all : List FunctionTree) → run focus all ts ≡ Some gs → Leads (functions_text all (unit_front focus (exactly ts))) (unit_text gs)) →
    go_on next fs (λ focus all. run focus all ts) ≡ Some gs → Leads (unit_next_front fs next (exactly ts)) (unit_text gs)
goes ts fs gs (Reads focus) further e = further focus fs e
goes ts fs gs (Adds f) further e = further Outside (fs ++ (f ∷ [])) e
goes ts fs gs Fails further e = absurd (none_some e)

run_reads : (ts : List Token) (gs : List FunctionTree) (focus : UnitFocus) (fs : List FunctionTree) → run focus fs ts ≡ Some gs →
    Leads (functions_text fs (unit_front focus (exactly ts))) (unit_text gs)
run_reads [] gs focus fs e = at_end focus fs gs e
run_reads (t ∷ ts) gs focus fs e =
    then (unit_reads t (exactly ts) fs focus) (goes ts fs gs (unit_step t.kind t.pos focus) (run_reads ts gs) e)

-- the tokens are a text of what the reader makes of them
pub unit_sound : (tokens : List Token) (gs : List FunctionTree) → run Outside [] tokens ≡ Some gs → unit_text gs tokens
unit_sound tokens gs e = (run_reads tokens gs Outside [] e).by tokens (exactly_so tokens)
