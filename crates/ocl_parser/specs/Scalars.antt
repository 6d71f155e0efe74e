-- How the scalar types are spelled (OpenCL C 1.2, section 6.1.1; C99, section 6.7.2), and qualifiers.
use Rattle.std.specs.Prelude.{◌≡◌, ◌⊎◌, Bool, true, false, List, [], ◌∷◌, ◌++◌}
use Rattle.vx_base.specs.declared.types.Elem.{Elem}
use Rattle.ocl_tokens.specs.declared.tokens.TokenKind.TheVariants.{Word as WordKind}
use Rattle.ocl_tokens.specs.declared.words.Word.{Word}
use Rattle.ocl_tokens.specs.declared.words.Word.TheVariants.{Const, Volatile, Char, Uchar, Short, Ushort, Int, Uint, SizeT, Signed, Unsigned}
use Rattle.ocl_parser.specs.Spellings.{Rest, given, words}
use Rattle.ocl_parser.specs.declared.scalars.Scalar.{Scalar}
use Rattle.ocl_parser.specs.declared.scalars.Scalar.TheVariants.{OnlySigned, OnlyUnsigned, Chars, Shorts, ShortInts, Ints, UcharWord, UshortWord, UintWord, SizeWord}
use Rattle.ocl_parser.specs.declared.scalars.Sign.{Sign}
use Rattle.ocl_parser.specs.declared.scalars.Sign.TheVariants.{NoSign, SignedSign, UnsignedSign}

abbrev pub sign_words : Sign → List Word
sign_words NoSign = []
sign_words SignedSign = Signed ∷ []
sign_words UnsignedSign = Unsigned ∷ []

-- the words of a spelling
abbrev pub scalar_words : Scalar → List Word
scalar_words OnlySigned = Signed ∷ []
scalar_words OnlyUnsigned = Unsigned ∷ []
scalar_words (Chars sign) = sign_words sign ++ (Char ∷ [])
scalar_words (Shorts sign) = sign_words sign ++ (Short ∷ [])
scalar_words (ShortInts sign) = sign_words sign ++ (Short ∷ Int ∷ [])
scalar_words (Ints sign) = sign_words sign ++ (Int ∷ [])
scalar_words UcharWord = Uchar ∷ []
scalar_words UshortWord = Ushort ∷ []
scalar_words UintWord = Uint ∷ []
scalar_words SizeWord = SizeT ∷ []

-- one of two types, by the sign
abbrev pub by_sign : Sign → Elem → Elem → Elem
by_sign NoSign signed unsigned = signed
by_sign SignedSign signed unsigned = signed
by_sign UnsignedSign signed unsigned = unsigned

-- the type of a spelling
abbrev pub scalar_elem : Scalar → Elem
scalar_elem OnlySigned = Elem.Int
scalar_elem OnlyUnsigned = Elem.Uint
scalar_elem (Chars sign) = by_sign sign Elem.Char Elem.Uchar
scalar_elem (Shorts sign) = by_sign sign Elem.Short Elem.Ushort
scalar_elem (ShortInts sign) = by_sign sign Elem.Short Elem.Ushort
scalar_elem (Ints sign) = by_sign sign Elem.Int Elem.Uint
scalar_elem UcharWord = Elem.Uchar
scalar_elem UshortWord = Elem.Ushort
scalar_elem UintWord = Elem.Uint
scalar_elem SizeWord = Elem.Uint

-- a scalar type
abbrev pub scalar : Elem → Rest → Rest
scalar elem rest ts = (s : Scalar) × (scalar_elem s ≡ elem) × words (scalar_words s) rest ts

-- Any number of `const` and `volatile`; what follows is told whether a `const` stands among them or stood before.
abbrev pub qualifiers : Bool → (Bool → Rest) → Rest
qualifiers constant rest [] = rest constant []
qualifiers constant rest (t ∷ ts) =
    rest constant (t ∷ ts) ⊎
    (((t.kind ≡ WordKind Const) × qualifiers true rest ts) ⊎ ((t.kind ≡ WordKind Volatile) × qualifiers constant rest ts))

-- the type of a declaration, with a `const` on either side of the scalar type or none
abbrev pub declared_type : Elem → Bool → Rest → Rest
declared_type elem constant rest =
    qualifiers false (λ before. scalar elem (qualifiers before (λ both. given (both ≡ constant) rest)))
