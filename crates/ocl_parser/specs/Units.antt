-- The texts of functions and files.
use Rattle.std.specs.Prelude.{◌≡◌, ◌⊎◌, ◌||◌, Bool, true, false, List, [], ◌∷◌, Option, Some, None}
use Rattle.vx_base.specs.declared.types.Elem.{Elem}
use Rattle.vx_base.specs.declared.types.ParamKind.TheVariants.{Scalar, Pointer}
use Rattle.vx_base.specs.declared.types.Space.{Space}
use Rattle.ocl_ast.specs.declared.units.Gives.{Gives}
use Rattle.ocl_ast.specs.declared.units.Gives.TheVariants.{Nothing, Value}
use Rattle.ocl_ast.specs.declared.units.Param.{Param}
use Rattle.ocl_ast.specs.Trees.{FunctionTree}
use Rattle.ocl_tokens.specs.declared.marks.Mark.TheVariants.{OpenParen, CloseParen, OpenBrace, CloseBrace, Comma, Star}
use Rattle.ocl_tokens.specs.declared.tokens.Token.{Token}
use Rattle.ocl_tokens.specs.declared.tokens.TokenKind.TheVariants.{Word as WordKind, End}
use Rattle.ocl_tokens.specs.declared.words.Word.TheVariants.{UnderscoreKernel, Kernel, UnderscoreGlobal, Global, UnderscoreConstant, Constant, UnderscoreLocal, Local, Const, Volatile, Restrict, Inline, Static, Void}
use Rattle.ocl_parser.specs.Spellings.{Rest, either, given, one, mark, word, name}
use Rattle.ocl_parser.specs.Scalars.{scalar, qualifiers}
use Rattle.ocl_parser.specs.Stmts.{items_text, AreOrderly}

-- the word of an address space (OpenCL C 1.2, section 6.5)
abbrev pub IsSpaceWord : Space → Token → Type 0
IsSpaceWord Space.Global t = (t.kind ≡ WordKind UnderscoreGlobal) ⊎ (t.kind ≡ WordKind Global)
IsSpaceWord Space.Constant t = (t.kind ≡ WordKind UnderscoreConstant) ⊎ (t.kind ≡ WordKind Constant)
IsSpaceWord Space.Local t = (t.kind ≡ WordKind UnderscoreLocal) ⊎ (t.kind ≡ WordKind Local)

-- Words before the type of a parameter: any number of `const` and `volatile`, and at most one address space. What follows is told the
-- space, and whether a `const` stands among them.
abbrev pub before_text : Option Space → Bool → (Option Space → Bool → Rest) → Rest
before_text space constant rest [] = rest space constant []
before_text space constant rest (t ∷ ts) =
    rest space constant (t ∷ ts) ⊎
    (((t.kind ≡ WordKind Const) × before_text space true rest ts) ⊎
    (((t.kind ≡ WordKind Volatile) × before_text space constant rest ts) ⊎
    ((space ≡ None) × (s : Space) × IsSpaceWord s t × before_text (Some s) constant rest ts)))

-- Any number of `const`, `restrict` and `volatile` behind a `*`; what follows is told whether a `const` stands among them.
abbrev pub behind_text : Bool → (Bool → Rest) → Rest
behind_text constant rest [] = rest constant []
behind_text constant rest (t ∷ ts) =
    rest constant (t ∷ ts) ⊎
    (((t.kind ≡ WordKind Const) × behind_text true rest ts) ⊎
    (((t.kind ≡ WordKind Restrict) ⊎ (t.kind ≡ WordKind Volatile)) × behind_text constant rest ts))

-- elements of a constant array are never assigned
abbrev pub is_constant : Space → Bool
is_constant Space.Constant = true
is_constant _ = false

-- The end of a parameter, from the `*` on where an address space was named.
abbrev pub param_end_text : Param → Option Space → Elem → Bool → Rest → Rest
param_end_text p None elem constant rest = given (p.kind ≡ Scalar elem) (given (p.constant ≡ constant) (name p.name rest))
param_end_text p (Some space) elem constant rest =
    mark Star (behind_text false (λ fixed.
    given (p.kind ≡ Pointer space elem (constant || is_constant space)) (given (p.constant ≡ fixed) (name p.name rest))))

-- a parameter
abbrev pub param_text : Param → Rest → Rest
param_text p rest ts =
    (elem : Elem) ×
    before_text None false (λ space before. scalar elem (qualifiers before (λ constant. param_end_text p space elem constant rest))) ts

-- parameters, each with a comma before
abbrev pub more_params_text : List Param → Rest → Rest
more_params_text [] rest = rest
more_params_text (p ∷ ps) rest = mark Comma (param_text p (more_params_text ps rest))

-- the parameters of a function
abbrev pub params_text : List Param → Rest → Rest
params_text [] rest = mark OpenParen (either (mark CloseParen rest) (word Void (mark CloseParen rest)))
params_text (p ∷ ps) rest = mark OpenParen (param_text p (more_params_text ps (mark CloseParen rest)))

-- any number of `inline` and `static`
abbrev pub helper_words_text : Rest → Rest
helper_words_text rest [] = rest []
helper_words_text rest (t ∷ ts) =
    rest (t ∷ ts) ⊎ (((t.kind ≡ WordKind Inline) ⊎ (t.kind ≡ WordKind Static)) × helper_words_text rest ts)

-- what a helper gives back
abbrev pub gives_text : Gives → Rest → Rest
gives_text Nothing rest = word Void rest
gives_text (Value elem) rest = scalar elem rest

-- the word of a kernel
abbrev pub IsKernelWord : Token → Type 0
IsKernelWord t = (t.kind ≡ WordKind UnderscoreKernel) ⊎ (t.kind ≡ WordKind Kernel)

-- the words before a function's name
abbrev pub head_text : Bool → Gives → Rest → Rest
head_text true gives rest = given (gives ≡ Nothing) (one IsKernelWord (word Void rest))
head_text false gives rest = helper_words_text (gives_text gives rest)

-- a function
abbrev pub function_text : FunctionTree → Rest → Rest
function_text f rest =
    head_text f.kernel f.gives (name f.name (params_text f.params (mark OpenBrace (items_text f.body (mark CloseBrace rest)))))

-- the end of the file
abbrev pub end_text : Rest
end_text = one (λ t. t.kind ≡ End) (λ ts. ts ≡ [])

-- a file
abbrev pub unit_text : List FunctionTree → Rest
unit_text [] = end_text
unit_text (f ∷ fs) = function_text f (unit_text fs)

abbrev pub AreOrderlyFunctions : List FunctionTree → Type 0
AreOrderlyFunctions [] = Unit {0}
AreOrderlyFunctions (f ∷ fs) = AreOrderly f.body × AreOrderlyFunctions fs

-- The tokens are a text of these functions.
abbrev pub Derives : List Token → List FunctionTree → Type 0
Derives tokens functions = unit_text functions tokens × AreOrderlyFunctions functions
