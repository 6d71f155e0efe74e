-- Each text of a declaration's type and of its names is read.
use Rattle.std.proofs.Common.{◌≡◌, inl, inr, refl, sym, subst, ap, ◌∙◌, Bool, true, false, List, [], ◌∷◌, Option, Some, None, true≢false}
use Rattle.vx_base.specs.declared.types.Elem.{Elem}
use Rattle.vx_base.specs.declared.types.Pos.{Pos}
use Rattle.ocl_ast.specs.declared.exprs.Ident.{Ident}
use Rattle.ocl_ast.specs.Trees.{ExprTree, StmtTree, DeclareTree}
use Rattle.ocl_tokens.specs.declared.marks.Mark.{Mark}
use Rattle.ocl_tokens.specs.declared.marks.Mark.TheVariants.{Equal}
use Rattle.ocl_tokens.specs.declared.tokens.Token.{Token}
use Rattle.ocl_tokens.specs.declared.tokens.TokenKind.{TokenKind}
use Rattle.ocl_tokens.specs.declared.tokens.TokenKind.TheVariants.{Name as NameKind, Word as WordKind, Mark as MarkKind}
use Rattle.ocl_tokens.specs.declared.words.Word.{Word}
use Rattle.ocl_tokens.specs.declared.words.Word.TheVariants.{Const, Volatile, Char, Uchar, Short, Ushort, Int, Uint, SizeT, Signed, Unsigned}
use Rattle.ocl_parser.specs.Spellings.{Rest, given, word, words}
use Rattle.ocl_parser.specs.Scalars.{scalar, scalar_words, scalar_elem, qualifiers, declared_type}
use Rattle.ocl_parser.specs.ScalarSteps.{scalar_first, scalar_more}
use Rattle.ocl_parser.specs.Exprs.{IsGroupedIfAny}
use Rattle.ocl_parser.specs.Stmts.{declarator_text}
use Rattle.ocl_parser.specs.StmtSteps.{GoesOn, stmt_step, scalar_read, qualified_word, qualified_step, scalar_word, declared_end, declared_step}
use Rattle.ocl_parser.specs.declared.scalars.Scalar.{Scalar}
use Rattle.ocl_parser.specs.declared.scalars.Scalar.TheVariants.{OnlySigned, OnlyUnsigned, Chars, Shorts, ShortInts, Ints, UcharWord, UshortWord, UintWord, SizeWord}
use Rattle.ocl_parser.specs.declared.scalars.Sign.TheVariants.{NoSign, SignedSign, UnsignedSign}
use Rattle.ocl_parser.specs.declared.states.ExprFocus.TheVariants.{Operand}
use Rattle.ocl_parser.specs.declared.states.Part.{Part}
use Rattle.ocl_parser.specs.declared.states.Purpose.TheVariants.{InitOf}
use Rattle.ocl_parser.specs.declared.states.StmtFocus.{StmtFocus}
use Rattle.ocl_parser.specs.declared.states.StmtFocus.TheVariants.{Reading, QualifiersRead, ScalarRead, TypeRead, NameNext, Declared}
use Rattle.ocl_parser.specs.declared.states.StmtFrame.{StmtFrame}
use Rattle.ocl_parser.proofs.Texts.{Leads}
use Rattle.ocl_parser.proofs.ScalarComplete.{ReadsWords, scalar_complete}
use Rattle.ocl_parser.proofs.StmtTakes.{TakesStmts, is_closer, stmt_at, stmt_one, Ending_in, expr_ends}

-- Words that may begin a declaration's type.
abbrev pub is_scalar_first : Word → Bool
is_scalar_first Char = true
is_scalar_first Uchar = true
is_scalar_first Short = true
is_scalar_first Ushort = true
is_scalar_first Int = true
is_scalar_first Uint = true
is_scalar_first SizeT = true
is_scalar_first Signed = true
is_scalar_first Unsigned = true
is_scalar_first _ = false

abbrev pub is_type_first : TokenKind → Bool
is_type_first (WordKind Const) = true
is_type_first (WordKind Volatile) = true
is_type_first (WordKind w) = is_scalar_first w
is_type_first _ = false

abbrev pub TypeStarts : Rest
TypeStarts [] = ⊥
TypeStarts (t ∷ ts) = is_type_first t.kind ≡ true

word_starts : (w : Word) → is_type_first (WordKind w) ≡ true → (k : Rest) (ts : List Token) → word w k ts → TypeStarts ts
word_starts w e k [] h = h
word_starts w e k (t ∷ ts) h = ap is_type_first h.0 ∙ e

pub scalar_starts : (s : Scalar) (k : Rest) (ts : List Token) → words (scalar_words s) k ts → TypeStarts ts
scalar_starts OnlySigned k ts h = word_starts Signed refl _ ts h
scalar_starts OnlyUnsigned k ts h = word_starts Unsigned refl _ ts h
scalar_starts (Chars NoSign) k ts h = word_starts Char refl _ ts h
scalar_starts (Chars SignedSign) k ts h = word_starts Signed refl _ ts h
scalar_starts (Chars UnsignedSign) k ts h = word_starts Unsigned refl _ ts h
scalar_starts (Shorts NoSign) k ts h = word_starts Short refl _ ts h
scalar_starts (Shorts SignedSign) k ts h = word_starts Signed refl _ ts h
scalar_starts (Shorts UnsignedSign) k ts h = word_starts Unsigned refl _ ts h
scalar_starts (ShortInts NoSign) k ts h = word_starts Short refl _ ts h
scalar_starts (ShortInts SignedSign) k ts h = word_starts Signed refl _ ts h
scalar_starts (ShortInts UnsignedSign) k ts h = word_starts Unsigned refl _ ts h
scalar_starts (Ints NoSign) k ts h = word_starts Int refl _ ts h
scalar_starts (Ints SignedSign) k ts h = word_starts Signed refl _ ts h
scalar_starts (Ints UnsignedSign) k ts h = word_starts Unsigned refl _ ts h
scalar_starts UcharWord k ts h = word_starts Uchar refl _ ts h
scalar_starts UshortWord k ts h = word_starts Ushort refl _ ts h
scalar_starts UintWord k ts h = word_starts Uint refl _ ts h
scalar_starts SizeWord k ts h = word_starts SizeT refl _ ts h

-- a declaration's type begins with such a word
pub type_starts : (elem : Elem) (constant : Bool) (k : Rest) (ts : List Token) → declared_type elem constant k ts → TypeStarts ts
type_starts elem constant k [] h = scalar_starts h.0 _ [] h.2
type_starts elem constant k (t ∷ ts) (inl h) = scalar_starts h.0 _ (t ∷ ts) h.2
type_starts elem constant k (t ∷ ts) (inr (inl h)) = ap is_type_first h.0
type_starts elem constant k (t ∷ ts) (inr (inr h)) = ap is_type_first h.0

pub not_none : {A : Type 0} {x : A} → None ≡ Some x → ⊥
not_none e = cc

pub const_more : (s : Scalar) → scalar_more s Const ≡ None
const_more OnlySigned = refl
const_more OnlyUnsigned = refl
const_more (Shorts sign) = refl
const_more _ = refl

pub volatile_more : (s : Scalar) → scalar_more s Volatile ≡ None
volatile_more OnlySigned = refl
volatile_more OnlyUnsigned = refl
volatile_more (Shorts sign) = refl
volatile_more _ = refl

first_read : (w : Word) (s : Scalar) → scalar_first w ≡ Some s → (part : Part) (c : Bool) (K : List StmtFrame) →
    qualified_word w part c K ≡ GoesOn (ScalarRead part c s) K
first_read Const s e part c K = absurd (not_none e)
first_read Volatile s e part c K = absurd (not_none e)
first_read _ s e part c K = ap (λ o. scalar_read o part c K) e

more_read : (w : Word) (r s : Scalar) → scalar_more r w ≡ Some s → (part : Part) (c : Bool) (K : List StmtFrame) →
    scalar_word w part c r K ≡ GoesOn (ScalarRead part c s) K
more_read Const r s e part c K = absurd (not_none (sym (const_more r) ∙ e))
more_read Volatile r s e part c K = absurd (not_none (sym (volatile_more r) ∙ e))
more_read _ r s e part c K = ap (λ o. scalar_read o part c K) e

named_end : (m : Mark) → is_closer m ≡ true → (part : Part) (elem : Elem) (c : Bool) (n : Ident) (K : List StmtFrame) →
    declared_step (MarkKind m) part elem c n K ≡ declared_end (MarkKind m) part elem c (DeclareTree elem c n None) K
named_end Equal h part elem c n K = absurd (true≢false (sym h))
named_end _ h part elem c n K = refl

module _ (accepts : StmtFocus → List StmtFrame → Rest) (T : TakesStmts accepts) where
  -- a closer behind a declarator, what it does, and what is accepted then
  pub record EndsName (part : Part) (elem : Elem) (c : Bool) (s : StmtTree) (K : List StmtFrame) (t : Token) (ts : List Token) : Type 0 where
    pub mark : Mark
    pub kind : t.kind ≡ MarkKind mark
    pub closes : is_closer mark ≡ true
    pub focus : StmtFocus
    pub frames : List StmtFrame
    pub steps : declared_end (MarkKind mark) part elem c s K ≡ GoesOn focus frames
    pub accepted : accepts focus frames ts

  abbrev pub NameEnds : Part → Elem → Bool → StmtTree → List StmtFrame → Rest
  NameEnds part elem c s K [] = ⊥
  NameEnds part elem c s K (t ∷ ts) = EndsName part elem c s K t ts

  plain_in : (part : Part) (elem : Elem) (c : Bool) (n : Ident) (K : List StmtFrame) (ts : List Token) →
      NameEnds part elem c (DeclareTree elem c n None) K ts → accepts (Declared part elem c n) K ts
  plain_in part elem c n K [] b = absurd b
  plain_in part elem c n K (t ∷ ts) b =
      T.goes t ts (Declared part elem c n) K b.focus b.frames
      (ap (λ z. stmt_step z t.pos (Declared part elem c n) K) b.kind ∙ (named_end b.mark b.closes part elem c n K ∙ b.steps)) b.accepted

  init_in : (part : Part) (elem : Elem) (c : Bool) (n : Ident) (e : ExprTree) (K : List StmtFrame) (ts : List Token) →
      NameEnds part elem c (DeclareTree elem c n (Some e)) K ts → Ending_in accepts T (InitOf part elem c n) K e ts
  init_in part elem c n e K [] b = b
  init_in part elem c n e K (t ∷ ts) b =
      record { mark = b.mark; kind = b.kind; closes = b.closes; focus = b.focus; frames = b.frames; steps = b.steps; accepted = b.accepted }

  -- a name with its first value or none
  pub declarator_complete : (part : Part) (elem : Elem) (c : Bool) (n : Ident) (value : Option ExprTree) → IsGroupedIfAny value → (K : List StmtFrame) (k : Rest) →
      Leads k (NameEnds part elem c (DeclareTree elem c n value) K) → Leads (declarator_text n value k) (accepts (NameNext part elem c) K)
  declarator_complete part elem c n None g K k f =
      stmt_at accepts T (NameKind n.text) n.pos (NameNext part elem c) K (Declared part elem c n) K refl
      (record { by = λ ts h. plain_in part elem c n K ts (f.by ts h) })
  declarator_complete part elem c n (Some e) g K k f =
      stmt_at accepts T (NameKind n.text) n.pos (NameNext part elem c) K (Declared part elem c n) K refl
      (stmt_one accepts T (MarkKind Equal) (Declared part elem c n) K (Reading (InitOf part elem c n) Operand []) K (λ p. refl)
      (expr_ends accepts T (InitOf part elem c n) K e g k (record { by = λ ts h. init_in part elem c n e K ts (f.by ts h) })))

  -- what begins with a name is read behind a type as it is where a name must stand
  abbrev pub NameFirst : Rest
  NameFirst [] = ⊥
  NameFirst (t ∷ ts) = (text : _) × (t.kind ≡ NameKind text)

  declarator_first : (n : Ident) (value : Option ExprTree) (k : Rest) (ts : List Token) → declarator_text n value k ts → NameFirst ts
  declarator_first n None k [] h = h
  declarator_first n None k (t ∷ ts) h = (n.text, h.0.0)
  declarator_first n (Some e) k [] h = h
  declarator_first n (Some e) k (t ∷ ts) h = (n.text, h.0.0)

  behind_scalar : (part : Part) (c : Bool) (s : Scalar) (K : List StmtFrame) (ts : List Token) → NameFirst ts →
      accepts (NameNext part (scalar_elem s) c) K ts → accepts (ScalarRead part c s) K ts
  behind_scalar part c s K [] b a = absurd b
  behind_scalar part c s K (t ∷ ts) b a =
      T.alike t ts (ScalarRead part c s) K (NameNext part (scalar_elem s) c) K
      (subst (λ z. stmt_step z t.pos (ScalarRead part c s) K ≡ stmt_step z t.pos (NameNext part (scalar_elem s) c) K) (sym b.1) refl) a

  behind_type : (part : Part) (c : Bool) (elem : Elem) (K : List StmtFrame) (ts : List Token) → NameFirst ts →
      accepts (NameNext part elem c) K ts → accepts (TypeRead part elem c) K ts
  behind_type part c elem K [] b a = absurd b
  behind_type part c elem K (t ∷ ts) b a =
      T.alike t ts (TypeRead part elem c) K (NameNext part elem c) K
      (subst (λ z. stmt_step z t.pos (TypeRead part elem c) K ≡ stmt_step z t.pos (NameNext part elem c) K) (sym b.1) refl) a

  typed_in : (part : Part) (elem : Elem) (constant : Bool) (K : List StmtFrame) (k : Rest) → Leads k NameFirst → Leads k (accepts (NameNext part elem constant) K) →
      (c : Bool) (ts : List Token) → qualifiers c (λ both. given (both ≡ constant) k) ts → accepts (TypeRead part elem c) K ts
  typed_in part elem constant K k n f c [] h = behind_type part c elem K [] (n.by [] h.1) (subst (λ z. accepts (NameNext part elem z) K []) (sym h.0) (f.by [] h.1))
  typed_in part elem constant K k n f c (t ∷ ts) (inl h) =
      behind_type part c elem K (t ∷ ts) (n.by (t ∷ ts) h.1) (subst (λ z. accepts (NameNext part elem z) K (t ∷ ts)) (sym h.0) (f.by (t ∷ ts) h.1))
  typed_in part elem constant K k n f c (t ∷ ts) (inr (inl h)) =
      T.goes t ts (TypeRead part elem c) K (TypeRead part elem true) K (ap (λ z. stmt_step z t.pos (TypeRead part elem c) K) h.0) (typed_in part elem constant K k n f true ts h.1)
  typed_in part elem constant K k n f c (t ∷ ts) (inr (inr h)) =
      T.goes t ts (TypeRead part elem c) K (TypeRead part elem c) K (ap (λ z. stmt_step z t.pos (TypeRead part elem c) K) h.0) (typed_in part elem constant K k n f c ts h.1)

  scalar_in : (part : Part) (s : Scalar) (constant : Bool) (K : List StmtFrame) (k : Rest) → Leads k NameFirst → Leads k (accepts (NameNext part (scalar_elem s) constant) K) →
      (c : Bool) (ts : List Token) → qualifiers c (λ both. given (both ≡ constant) k) ts → accepts (ScalarRead part c s) K ts
  scalar_in part s constant K k n f c [] h = behind_scalar part c s K [] (n.by [] h.1) (subst (λ z. accepts (NameNext part (scalar_elem s) z) K []) (sym h.0) (f.by [] h.1))
  scalar_in part s constant K k n f c (t ∷ ts) (inl h) =
      behind_scalar part c s K (t ∷ ts) (n.by (t ∷ ts) h.1) (subst (λ z. accepts (NameNext part (scalar_elem s) z) K (t ∷ ts)) (sym h.0) (f.by (t ∷ ts) h.1))
  scalar_in part s constant K k n f c (t ∷ ts) (inr (inl h)) =
      T.goes t ts (ScalarRead part c s) K (TypeRead part (scalar_elem s) true) K (ap (λ z. stmt_step z t.pos (ScalarRead part c s) K) h.0)
      (typed_in part (scalar_elem s) constant K k n f true ts h.1)
  scalar_in part s constant K k n f c (t ∷ ts) (inr (inr h)) =
      T.goes t ts (ScalarRead part c s) K (TypeRead part (scalar_elem s) c) K (ap (λ z. stmt_step z t.pos (ScalarRead part c s) K) h.0)
      (typed_in part (scalar_elem s) constant K k n f c ts h.1)

  words_read : (part : Part) (c : Bool) (K : List StmtFrame) → ReadsWords (accepts (QualifiersRead part c) K) (λ s. accepts (ScalarRead part c s) K)
  words_read part c K = record {
    first = λ t w s ts h e a. T.goes t ts (QualifiersRead part c) K (ScalarRead part c s) K
        (ap (λ z. stmt_step z t.pos (QualifiersRead part c) K) h ∙ first_read w s e part c K) a;
    more = λ t w r s ts h e a. T.goes t ts (ScalarRead part c r) K (ScalarRead part c s) K
        (ap (λ z. stmt_step z t.pos (ScalarRead part c r) K) h ∙ more_read w r s e part c K) a;
  }

  type_words : (part : Part) (elem : Elem) (constant : Bool) (K : List StmtFrame) (k : Rest) → Leads k NameFirst → Leads k (accepts (NameNext part elem constant) K) →
      (c : Bool) (ts : List Token) → scalar elem (qualifiers c (λ both. given (both ≡ constant) k)) ts → accepts (QualifiersRead part c) K ts
  type_words part elem constant K k n f c ts h =
      let behind : Leads (qualifiers c (λ both. given (both ≡ constant) k)) (accepts (ScalarRead part c h.0) K) =
      record { by = scalar_in part h.0 constant K k n (subst (λ z. Leads k (accepts (NameNext part z constant) K)) (sym h.1) f) c } in
      (scalar_complete (words_read part c K) _ h.0 behind).by ts h.2

  before_type : (part : Part) (elem : Elem) (constant : Bool) (K : List StmtFrame) (k : Rest) → Leads k NameFirst → Leads k (accepts (NameNext part elem constant) K) →
      (c : Bool) (ts : List Token) → qualifiers c (λ before. scalar elem (qualifiers before (λ both. given (both ≡ constant) k))) ts → accepts (QualifiersRead part c) K ts
  before_type part elem constant K k n f c [] h = type_words part elem constant K k n f c [] h
  before_type part elem constant K k n f c (t ∷ ts) (inl h) = type_words part elem constant K k n f c (t ∷ ts) h
  before_type part elem constant K k n f c (t ∷ ts) (inr (inl h)) =
      T.goes t ts (QualifiersRead part c) K (QualifiersRead part true) K (ap (λ z. stmt_step z t.pos (QualifiersRead part c) K) h.0)
      (before_type part elem constant K k n f true ts h.1)
  before_type part elem constant K k n f c (t ∷ ts) (inr (inr h)) =
      T.goes t ts (QualifiersRead part c) K (QualifiersRead part c) K (ap (λ z. stmt_step z t.pos (QualifiersRead part c) K) h.0)
      (before_type part elem constant K k n f c ts h.1)

  start_in : (part : Part) (focus : StmtFocus) (K : List StmtFrame) →
      ((kind : TokenKind) → is_type_first kind ≡ true → (pos : Pos) → stmt_step kind pos focus K ≡ qualified_step kind part false K) →
      (ts : List Token) → TypeStarts ts → accepts (QualifiersRead part false) K ts → accepts focus K ts
  start_in part focus K s [] b a = absurd b
  start_in part focus K s (t ∷ ts) b a = T.alike t ts focus K (QualifiersRead part false) K (s t.kind b t.pos) a

  -- a declaration's type and its first name, where a declaration may stand
  pub declare_complete : (part : Part) (focus : StmtFocus) (K : List StmtFrame) →
      ((kind : TokenKind) → is_type_first kind ≡ true → (pos : Pos) → stmt_step kind pos focus K ≡ qualified_step kind part false K) →
      (elem : Elem) (constant : Bool) (n : Ident) (value : Option ExprTree) → IsGroupedIfAny value → (k : Rest) →
      Leads k (NameEnds part elem constant (DeclareTree elem constant n value) K) → Leads (declared_type elem constant (declarator_text n value k)) (accepts focus K)
  declare_complete part focus K s elem constant n value g k f = record {
    by = λ ts h.
        start_in part focus K s ts (type_starts elem constant _ ts h)
        (before_type part elem constant K _ (record { by = declarator_first n value k }) (declarator_complete part elem constant n value g K k f) false ts h);
  }
