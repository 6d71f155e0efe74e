-- What the reader has read of a file, as texts.
use Rattle.std.proofs.Common.{◌≡◌, ◌⊎◌, inl, inr, refl, Bool, true, false, ◌||◌, List, [], ◌∷◌, ◌++◌, Option, Some, None}
use Rattle.vx_base.specs.declared.types.Elem.{Elem}
use Rattle.vx_base.specs.declared.types.ParamKind.{ParamKind}
use Rattle.vx_base.specs.declared.types.ParamKind.TheVariants.{Scalar as ScalarKind, Pointer}
use Rattle.vx_base.specs.declared.types.Space.{Space}
use Rattle.ocl_ast.specs.declared.units.Gives.{Gives}
use Rattle.ocl_ast.specs.declared.units.Gives.TheVariants.{Nothing, Value}
use Rattle.ocl_ast.specs.declared.units.Param.{Param}
use Rattle.ocl_ast.specs.Trees.{FunctionTree}
use Rattle.ocl_tokens.specs.declared.marks.Mark.TheVariants.{OpenParen, CloseParen, Comma, Star}
use Rattle.ocl_tokens.specs.declared.tokens.Token.{Token}
use Rattle.ocl_tokens.specs.declared.tokens.TokenKind.TheVariants.{Word as WordKind, End}
use Rattle.ocl_tokens.specs.declared.words.Word.TheVariants.{Const, Volatile, Restrict, Inline, Static, Void}
use Rattle.ocl_parser.specs.Spellings.{Rest, no_text, given, one, mark, word, words, name}
use Rattle.ocl_parser.specs.Scalars.{scalar, scalar_words, qualifiers}
use Rattle.ocl_parser.specs.Units.{IsSpaceWord, before_text, behind_text, is_constant, param_end_text, param_text, more_params_text, params_text, helper_words_text, gives_text, IsKernelWord, head_text, function_text, end_text, unit_text}
use Rattle.ocl_parser.specs.UnitSteps.{UnitNext, Reads, Adds, Fails}
use Rattle.ocl_parser.specs.declared.states.Head.{Head}
use Rattle.ocl_parser.specs.declared.states.UnitFocus.{UnitFocus}
use Rattle.ocl_parser.specs.declared.states.UnitFocus.TheVariants.{Outside, KernelRead, HelperWords, GivesRead, HeadRead, HeadNamed, ParamsOpen, VoidRead, ParamWords, ParamScalar, ParamType, Starred, ParamNamed, ParamsClosed, Inside, AtEnd}
use Rattle.ocl_parser.proofs.Texts.{Leads, same, one_mono, scalar_mono}
use Rattle.ocl_parser.proofs.StmtTexts.{either_mono, given_mono, qualifiers_mono, items_mono}
use Rattle.ocl_parser.proofs.ItemSound.{nothing}
use Rattle.ocl_parser.proofs.StmtFronts.{stmt_front}

-- whole functions
abbrev pub functions_text : List FunctionTree → Rest → Rest
functions_text [] rest = rest
functions_text (f ∷ fs) rest = function_text f (functions_text fs rest)

-- a function up to its name
abbrev pub head_front : Head → Rest → Rest
head_front head rest = head_text head.kernel head.gives (name head.name rest)

-- words before a parameter's type
abbrev pub param_words : Option Space → Bool → Rest → Rest
param_words space constant rest = before_text None false (λ s c. given (s ≡ space) (given (c ≡ constant) rest))

-- a parameter up to the words behind its type
abbrev pub param_type : Option Space → Bool → Elem → Rest → Rest
param_type space constant elem rest =
    before_text None false (λ s before. given (s ≡ space) (scalar elem (qualifiers before (λ both. given (both ≡ constant) rest))))

-- a parameter up to the words behind its `*`
abbrev pub star_front : ParamKind → Bool → Rest → Rest
star_front (ScalarKind elem) constant rest = no_text
star_front (Pointer space elem readonly) constant rest =
    before_text None false (λ s before. given (s ≡ Some space) (scalar elem (qualifiers before (λ both.
    given (readonly ≡ (both || is_constant space)) (mark Star (behind_text false (λ fixed. given (fixed ≡ constant) rest)))))))

-- parameters with commas between, and with a comma behind
abbrev pub params_inside : List Param → Rest → Rest
params_inside [] rest = no_text
params_inside (p ∷ ps) rest = param_text p (more_params_text ps rest)

abbrev pub after_params : List Param → Rest → Rest
after_params [] rest = rest
after_params (p ∷ ps) rest = param_text p (more_params_text ps (mark Comma rest))

abbrev pub params_front : Head → List Param → Rest → Rest
params_front head params rest = head_front head (mark OpenParen (after_params params rest))

abbrev pub unit_front : UnitFocus → Rest → Rest
unit_front Outside rest = rest
unit_front KernelRead rest = one IsKernelWord rest
unit_front HelperWords rest = helper_words_text rest
unit_front (GivesRead s) rest = helper_words_text (words (scalar_words s) rest)
unit_front (HeadRead kernel gives) rest = head_text kernel gives rest
unit_front (HeadNamed head) rest = head_front head rest
unit_front (ParamsOpen head) rest = head_front head (mark OpenParen rest)
unit_front (VoidRead head) rest = head_front head (mark OpenParen (word Void rest))
unit_front (ParamWords head params space constant) rest = params_front head params (param_words space constant rest)
unit_front (ParamScalar head params space constant s) rest = params_front head params (param_words space constant (words (scalar_words s) rest))
unit_front (ParamType head params space constant elem) rest = params_front head params (param_type space constant elem rest)
unit_front (Starred head params kind constant) rest = params_front head params (star_front kind constant rest)
unit_front (ParamNamed head params) rest = head_front head (mark OpenParen (params_inside params rest))
unit_front (ParamsClosed head params) rest = head_front head (params_text params rest)
unit_front (Inside head params focus K) rest = head_front head (params_text params (stmt_front focus K rest))
unit_front AtEnd rest = one (λ t. t.kind ≡ End) rest

-- what has been read once the token has done its part
abbrev pub unit_next_front : List FunctionTree → UnitNext → Rest → Rest
unit_next_front fs (Reads focus) rest = functions_text fs (unit_front focus rest)
unit_next_front fs (Adds f) rest = functions_text (fs ++ (f ∷ [])) rest
unit_next_front fs Fails rest = λ ts. Unit {0}

before_in : (a b : Option Space → Bool → Rest) → ((s : Option Space) (c : Bool) → Leads (a s c) (b s c)) → (s : Option Space) (c : Bool) (ts : List Token) →
    before_text s c a ts → before_text s c b ts
before_in a b f s c [] h = (f s c).by [] h
before_in a b f s c (t ∷ ts) (inl h) = inl ((f s c).by (t ∷ ts) h)
before_in a b f s c (t ∷ ts) (inr (inl h)) = inr (inl (h.0, before_in a b f s true ts h.1))
before_in a b f s c (t ∷ ts) (inr (inr (inl h))) = inr (inr (inl (h.0, before_in a b f s c ts h.1)))
before_in a b f s c (t ∷ ts) (inr (inr (inr h))) = inr (inr (inr (h.0, h.1, h.2, before_in a b f (Some h.1) c ts h.3)))

pub before_mono : (s : Option Space) (c : Bool) (a b : Option Space → Bool → Rest) → ((s : Option Space) (c : Bool) → Leads (a s c) (b s c)) →
    Leads (before_text s c a) (before_text s c b)
before_mono s c a b f = record { by = before_in a b f s c }

behind_in : (a b : Bool → Rest) → ((c : Bool) → Leads (a c) (b c)) → (c : Bool) (ts : List Token) → behind_text c a ts → behind_text c b ts
behind_in a b f c [] h = (f c).by [] h
behind_in a b f c (t ∷ ts) (inl h) = inl ((f c).by (t ∷ ts) h)
behind_in a b f c (t ∷ ts) (inr (inl h)) = inr (inl (h.0, behind_in a b f true ts h.1))
behind_in a b f c (t ∷ ts) (inr (inr h)) = inr (inr (h.0, behind_in a b f c ts h.1))

pub behind_mono : (c : Bool) (a b : Bool → Rest) → ((c : Bool) → Leads (a c) (b c)) → Leads (behind_text c a) (behind_text c b)
behind_mono c a b f = record { by = behind_in a b f c }

end_mono : (p : Param) (s : Option Space) (elem : Elem) (c : Bool) {a b : Rest} → Leads a b → Leads (param_end_text p s elem c a) (param_end_text p s elem c b)
end_mono p None elem c f = given_mono _ (given_mono _ (one_mono _ f))
end_mono p (Some space) elem c f = one_mono _ (behind_mono false _ _ (λ fixed. given_mono _ (given_mono _ (one_mono _ f))))

pub param_mono : (p : Param) {a b : Rest} → Leads a b → Leads (param_text p a) (param_text p b)
param_mono p f =
    record {
      by = λ ts h.
          (h.0, (before_mono None false _ _ (λ s before. scalar_mono h.0 (qualifiers_mono before _ _ (λ c. end_mono p s h.0 c f)))).by ts h.1);
    }

pub more_params_mono : (ps : List Param) {a b : Rest} → Leads a b → Leads (more_params_text ps a) (more_params_text ps b)
more_params_mono [] f = f
more_params_mono (p ∷ ps) f = one_mono _ (param_mono p (more_params_mono ps f))

pub inside_mono : (ps : List Param) {a b : Rest} → Leads a b → Leads (params_inside ps a) (params_inside ps b)
inside_mono [] f = same
inside_mono (p ∷ ps) f = param_mono p (more_params_mono ps f)

pub after_params_mono : (ps : List Param) {a b : Rest} → Leads a b → Leads (after_params ps a) (after_params ps b)
after_params_mono [] f = f
after_params_mono (p ∷ ps) f = param_mono p (more_params_mono ps (one_mono _ f))

pub params_mono : (ps : List Param) {a b : Rest} → Leads a b → Leads (params_text ps a) (params_text ps b)
params_mono [] f = one_mono _ (either_mono (one_mono _ f) (one_mono _ (one_mono _ f)))
params_mono (p ∷ ps) f = one_mono _ (param_mono p (more_params_mono ps (one_mono _ f)))

helper_in : {a b : Rest} → Leads a b → (ts : List Token) → helper_words_text a ts → helper_words_text b ts
helper_in f [] h = f.by [] h
helper_in f (t ∷ ts) (inl h) = inl (f.by (t ∷ ts) h)
helper_in f (t ∷ ts) (inr h) = inr (h.0, helper_in f ts h.1)

pub helper_mono : {a b : Rest} → Leads a b → Leads (helper_words_text a) (helper_words_text b)
helper_mono f = record { by = helper_in f }

gives_mono : (gives : Gives) {a b : Rest} → Leads a b → Leads (gives_text gives a) (gives_text gives b)
gives_mono Nothing f = one_mono _ f
gives_mono (Value elem) f = scalar_mono elem f

pub head_mono : (kernel : Bool) (gives : Gives) {a b : Rest} → Leads a b → Leads (head_text kernel gives a) (head_text kernel gives b)
head_mono true gives f = given_mono _ (one_mono _ (one_mono _ f))
head_mono false gives f = helper_mono (gives_mono gives f)

pub head_front_mono : (head : Head) {a b : Rest} → Leads a b → Leads (head_front head a) (head_front head b)
head_front_mono head f = head_mono head.kernel head.gives (one_mono _ f)

pub params_front_mono : (head : Head) (ps : List Param) {a b : Rest} → Leads a b → Leads (params_front head ps a) (params_front head ps b)
params_front_mono head ps f = head_front_mono head (one_mono _ (after_params_mono ps f))

pub function_mono : (f : FunctionTree) {a b : Rest} → Leads a b → Leads (function_text f a) (function_text f b)
function_mono f g = head_mono f.kernel f.gives (one_mono _ (params_mono f.params (one_mono _ (items_mono f.body (one_mono _ g)))))

pub functions_mono : (fs : List FunctionTree) {a b : Rest} → Leads a b → Leads (functions_text fs a) (functions_text fs b)
functions_mono [] g = g
functions_mono (f ∷ fs) g = function_mono f (functions_mono fs g)

pub functions_last : (fs : List FunctionTree) (f : FunctionTree) (rest : Rest) →
    Leads (functions_text fs (function_text f rest)) (functions_text (fs ++ (f ∷ [])) rest)
functions_last [] f rest = same
functions_last (g ∷ fs) f rest = function_mono g (functions_last fs f rest)

-- the file's end
pub functions_end : (fs : List FunctionTree) → Leads (functions_text fs end_text) (unit_text fs)
functions_end [] = same
functions_end (f ∷ fs) = function_mono f (functions_end fs)

-- parameters with one more
more_params_last : (ps : List Param) (p : Param) (rest : Rest) → Leads (more_params_text ps (mark Comma (param_text p rest))) (more_params_text (ps ++ (p ∷ [])) rest)
more_params_last [] p rest = same
more_params_last (q ∷ qs) p rest = one_mono _ (param_mono q (more_params_last qs p rest))

pub params_last : (ps : List Param) (p : Param) (rest : Rest) → Leads (after_params ps (param_text p rest)) (params_inside (ps ++ (p ∷ [])) rest)
params_last [] p rest = same
params_last (q ∷ qs) p rest = param_mono q (more_params_last qs p rest)

pub params_comma : (ps : List Param) (rest : Rest) → Leads (params_inside ps (mark Comma rest)) (after_params ps rest)
params_comma [] rest = nothing
params_comma (p ∷ ps) rest = same

pub params_end : (ps : List Param) (rest : Rest) → Leads (mark OpenParen (params_inside ps (mark CloseParen rest))) (params_text ps rest)
params_end [] rest = one_mono _ nothing
params_end (p ∷ ps) rest = same

-- words before a parameter's type, with one more
no_word : (a : Option Space → Bool → Rest) (s : Option Space) (c : Bool) (ts : List Token) → a s c ts → before_text s c a ts
no_word a s c [] h = h
no_word a s c (t ∷ ts) h = inl h

no_word_so : (space : Option Space) (constant : Bool) (rest : Rest) (s : Option Space) (c : Bool) (ts : List Token) → s ≡ space → c ≡ constant → rest ts →
    before_text s c (λ p d. given (p ≡ space) (given (d ≡ constant) rest)) ts
no_word_so space constant rest s c ts e f h = no_word (λ p d. given (p ≡ space) (given (d ≡ constant) rest)) s c ts (e, (f, h))

pub no_words : (rest : Rest) → Leads rest (param_words None false rest)
no_words rest = record { by = λ ts h. no_word_so None false rest None false ts refl refl h }

const_read : (rest : Rest) (space : Option Space) (constant : Bool) (s : Option Space) (c : Bool) (ts : List Token) →
    before_text s c (λ s c. given (s ≡ space) (given (c ≡ constant) (word Const rest))) ts →
    before_text s c (λ s c. given (s ≡ space) (given (c ≡ true) rest)) ts
const_read rest space constant s c [] h = absurd h.1.1
const_read rest space constant s c (t ∷ ts) (inl h) = inr (inl (h.1.1.0, no_word_so space true rest s true ts h.0 refl h.1.1.1))
const_read rest space constant s c (t ∷ ts) (inr (inl h)) = inr (inl (h.0, const_read rest space constant s true ts h.1))
const_read rest space constant s c (t ∷ ts) (inr (inr (inl h))) = inr (inr (inl (h.0, const_read rest space constant s c ts h.1)))
const_read rest space constant s c (t ∷ ts) (inr (inr (inr h))) = inr (inr (inr (h.0, h.1, h.2, const_read rest space constant (Some h.1) c ts h.3)))

pub words_const : (space : Option Space) (constant : Bool) (rest : Rest) → Leads (param_words space constant (word Const rest)) (param_words space true rest)
words_const space constant rest = record { by = const_read rest space constant None false }

volatile_read : (rest : Rest) (space : Option Space) (constant : Bool) (s : Option Space) (c : Bool) (ts : List Token) →
    before_text s c (λ s c. given (s ≡ space) (given (c ≡ constant) (word Volatile rest))) ts →
    before_text s c (λ s c. given (s ≡ space) (given (c ≡ constant) rest)) ts
volatile_read rest space constant s c [] h = absurd h.1.1
volatile_read rest space constant s c (t ∷ ts) (inl h) = inr (inr (inl (h.1.1.0, no_word_so space constant rest s c ts h.0 h.1.0 h.1.1.1)))
volatile_read rest space constant s c (t ∷ ts) (inr (inl h)) = inr (inl (h.0, volatile_read rest space constant s true ts h.1))
volatile_read rest space constant s c (t ∷ ts) (inr (inr (inl h))) = inr (inr (inl (h.0, volatile_read rest space constant s c ts h.1)))
volatile_read rest space constant s c (t ∷ ts) (inr (inr (inr h))) = inr (inr (inr (h.0, h.1, h.2, volatile_read rest space constant (Some h.1) c ts h.3)))

pub words_volatile : (space : Option Space) (constant : Bool) (rest : Rest) → Leads (param_words space constant (word Volatile rest)) (param_words space constant rest)
words_volatile space constant rest = record { by = volatile_read rest space constant None false }

space_read : (rest : Rest) (space : Space) (constant : Bool) (s : Option Space) (c : Bool) (ts : List Token) →
    before_text s c (λ s c. given (s ≡ None) (given (c ≡ constant) (one (IsSpaceWord space) rest))) ts →
    before_text s c (λ s c. given (s ≡ Some space) (given (c ≡ constant) rest)) ts
space_read rest space constant s c [] h = absurd h.1.1
space_read rest space constant s c (t ∷ ts) (inl h) = inr (inr (inr (h.0, space, h.1.1.0, no_word_so (Some space) constant rest (Some space) c ts refl h.1.0 h.1.1.1)))
space_read rest space constant s c (t ∷ ts) (inr (inl h)) = inr (inl (h.0, space_read rest space constant s true ts h.1))
space_read rest space constant s c (t ∷ ts) (inr (inr (inl h))) = inr (inr (inl (h.0, space_read rest space constant s c ts h.1)))
space_read rest space constant s c (t ∷ ts) (inr (inr (inr h))) = inr (inr (inr (h.0, h.1, h.2, space_read rest space constant (Some h.1) c ts h.3)))

pub words_space : (space : Space) (constant : Bool) (rest : Rest) → Leads (param_words None constant (one (IsSpaceWord space) rest)) (param_words (Some space) constant rest)
words_space space constant rest = record { by = space_read rest space constant None false }

-- words behind a `*`, with one more
no_behind : (a : Bool → Rest) (c : Bool) (ts : List Token) → a c ts → behind_text c a ts
no_behind a c [] h = h
no_behind a c (t ∷ ts) h = inl h

no_behind_so : (constant : Bool) (rest : Rest) (c : Bool) (ts : List Token) → c ≡ constant → rest ts → behind_text c (λ fixed. given (fixed ≡ constant) rest) ts
no_behind_so constant rest c ts e h = no_behind (λ fixed. given (fixed ≡ constant) rest) c ts (e, h)

pub none_behind : (rest : Rest) → Leads rest (behind_text false (λ fixed. given (fixed ≡ false) rest))
none_behind rest = record { by = λ ts h. no_behind_so false rest false ts refl h }

fixed_read : (rest : Rest) (constant c : Bool) (ts : List Token) →
    behind_text c (λ fixed. given (fixed ≡ constant) (word Const rest)) ts → behind_text c (λ fixed. given (fixed ≡ true) rest) ts
fixed_read rest constant c [] h = absurd h.1
fixed_read rest constant c (t ∷ ts) (inl h) = inr (inl (h.1.0, no_behind_so true rest true ts refl h.1.1))
fixed_read rest constant c (t ∷ ts) (inr (inl h)) = inr (inl (h.0, fixed_read rest constant true ts h.1))
fixed_read rest constant c (t ∷ ts) (inr (inr h)) = inr (inr (h.0, fixed_read rest constant c ts h.1))

pub behind_const : (constant : Bool) (rest : Rest) →
    Leads (behind_text false (λ fixed. given (fixed ≡ constant) (word Const rest))) (behind_text false (λ fixed. given (fixed ≡ true) rest))
behind_const constant rest = record { by = fixed_read rest constant false }

abbrev pub IsPointerWord : Token → Type 0
IsPointerWord t = (t.kind ≡ WordKind Restrict) ⊎ (t.kind ≡ WordKind Volatile)

other_read : (rest : Rest) (constant c : Bool) (ts : List Token) →
    behind_text c (λ fixed. given (fixed ≡ constant) (one IsPointerWord rest)) ts → behind_text c (λ fixed. given (fixed ≡ constant) rest) ts
other_read rest constant c [] h = absurd h.1
other_read rest constant c (t ∷ ts) (inl h) = inr (inr (h.1.0, no_behind_so constant rest c ts h.0 h.1.1))
other_read rest constant c (t ∷ ts) (inr (inl h)) = inr (inl (h.0, other_read rest constant true ts h.1))
other_read rest constant c (t ∷ ts) (inr (inr h)) = inr (inr (h.0, other_read rest constant c ts h.1))

pub behind_other : (constant : Bool) (rest : Rest) →
    Leads (behind_text false (λ fixed. given (fixed ≡ constant) (one IsPointerWord rest))) (behind_text false (λ fixed. given (fixed ≡ constant) rest))
behind_other constant rest = record { by = other_read rest constant false }

-- words before a helper's type, with one more
abbrev pub IsHelperWord : Token → Type 0
IsHelperWord t = (t.kind ≡ WordKind Inline) ⊎ (t.kind ≡ WordKind Static)

no_helper : (rest : Rest) (ts : List Token) → rest ts → helper_words_text rest ts
no_helper rest [] h = h
no_helper rest (t ∷ ts) h = inl h

pub helper_none : (rest : Rest) → Leads rest (helper_words_text rest)
helper_none rest = record { by = no_helper rest }

helper_read : (rest : Rest) (ts : List Token) → helper_words_text (one IsHelperWord rest) ts → helper_words_text rest ts
helper_read rest [] h = absurd h
helper_read rest (t ∷ ts) (inl h) = inr (h.0, no_helper rest ts h.1)
helper_read rest (t ∷ ts) (inr h) = inr (h.0, helper_read rest ts h.1)

pub helper_last : (rest : Rest) → Leads (helper_words_text (one IsHelperWord rest)) (helper_words_text rest)
helper_last rest = record { by = helper_read rest }
