-- The words of each spelling of a scalar type are read.
use Rattle.std.proofs.Common.{◌≡◌, refl, List, [], ◌∷◌, Some}
use Rattle.ocl_tokens.specs.declared.tokens.Token.{Token}
use Rattle.ocl_tokens.specs.declared.tokens.TokenKind.TheVariants.{Word as WordKind}
use Rattle.ocl_tokens.specs.declared.words.Word.{Word}
use Rattle.ocl_tokens.specs.declared.words.Word.TheVariants.{Char, Uchar, Short, Ushort, Int, Uint, SizeT, Signed, Unsigned}
use Rattle.ocl_parser.specs.Spellings.{Rest, word, words}
use Rattle.ocl_parser.specs.Scalars.{scalar_words}
use Rattle.ocl_parser.specs.ScalarSteps.{scalar_first, scalar_more}
use Rattle.ocl_parser.specs.declared.scalars.Scalar.{Scalar}
use Rattle.ocl_parser.specs.declared.scalars.Scalar.TheVariants.{OnlySigned, OnlyUnsigned, Chars, Shorts, ShortInts, Ints, UcharWord, UshortWord, UintWord, SizeWord}
use Rattle.ocl_parser.specs.declared.scalars.Sign.TheVariants.{NoSign, SignedSign, UnsignedSign}
use Rattle.ocl_parser.proofs.Texts.{Leads}

-- a reader of the words of a type: what it takes before the first, and behind those of a spelling
pub record ReadsWords (start : Rest) (behind : Scalar → Rest) : Type 0 where
  pub first : (t : Token) (w : Word) (s : Scalar) (ts : List Token) → t.kind ≡ WordKind w → scalar_first w ≡ Some s → behind s ts → start (t ∷ ts)
  pub more : (t : Token) (w : Word) (r s : Scalar) (ts : List Token) → t.kind ≡ WordKind w → scalar_more r w ≡ Some s → behind s ts → behind r (t ∷ ts)

module _ {start : Rest} {behind : Scalar → Rest} (r : ReadsWords start behind) {rest : Rest} where
  first_word : (w : Word) (s : Scalar) → scalar_first w ≡ Some s → Leads rest (behind s) → (ts : List Token) → word w rest ts → start ts
  first_word w s e f [] h = absurd h
  first_word w s e f (t ∷ ts) h = r.first t w s ts h.0 e (f.by ts h.1)

  more_word : (w : Word) (q s : Scalar) → scalar_more q w ≡ Some s → Leads rest (behind s) → (ts : List Token) → word w rest ts → behind q ts
  more_word w q s e f [] h = absurd h
  more_word w q s e f (t ∷ ts) h = r.more t w q s ts h.0 e (f.by ts h.1)

module _ {start : Rest} {behind : Scalar → Rest} (r : ReadsWords start behind) (rest : Rest) where
  single : (w : Word) (s : Scalar) → scalar_first w ≡ Some s → Leads rest (behind s) → Leads (word w rest) start
  single w s e f = record { by = first_word r w s e f }

  double : (v w : Word) (q s : Scalar) → scalar_first v ≡ Some q → scalar_more q w ≡ Some s → Leads rest (behind s) → Leads (word v (word w rest)) start
  double v w q s d e f = record { by = first_word r v q d (record { by = more_word r w q s e f }) }

  triple : (u v w : Word) (p q s : Scalar) → scalar_first u ≡ Some p → scalar_more p v ≡ Some q → scalar_more q w ≡ Some s → Leads rest (behind s) →
      Leads (word u (word v (word w rest))) start
  triple u v w p q s c d e f = record { by = first_word r u p c (record { by = more_word r v p q d (record { by = more_word r w q s e f }) }) }

  pub scalar_complete : (s : Scalar) → Leads rest (behind s) → Leads (words (scalar_words s) rest) start
  scalar_complete OnlySigned f = single Signed OnlySigned refl f
  scalar_complete OnlyUnsigned f = single Unsigned OnlyUnsigned refl f
  scalar_complete (Chars NoSign) f = single Char (Chars NoSign) refl f
  scalar_complete (Chars SignedSign) f = double Signed Char OnlySigned (Chars SignedSign) refl refl f
  scalar_complete (Chars UnsignedSign) f = double Unsigned Char OnlyUnsigned (Chars UnsignedSign) refl refl f
  scalar_complete (Shorts NoSign) f = single Short (Shorts NoSign) refl f
  scalar_complete (Shorts SignedSign) f = double Signed Short OnlySigned (Shorts SignedSign) refl refl f
  scalar_complete (Shorts UnsignedSign) f = double Unsigned Short OnlyUnsigned (Shorts UnsignedSign) refl refl f
  scalar_complete (ShortInts NoSign) f = double Short Int (Shorts NoSign) (ShortInts NoSign) refl refl f
  scalar_complete (ShortInts SignedSign) f = triple Signed Short Int OnlySigned (Shorts SignedSign) (ShortInts SignedSign) refl refl refl f
  scalar_complete (ShortInts UnsignedSign) f = triple Unsigned Short Int OnlyUnsigned (Shorts UnsignedSign) (ShortInts UnsignedSign) refl refl refl f
  scalar_complete (Ints NoSign) f = single Int (Ints NoSign) refl f
  scalar_complete (Ints SignedSign) f = double Signed Int OnlySigned (Ints SignedSign) refl refl f
  scalar_complete (Ints UnsignedSign) f = double Unsigned Int OnlyUnsigned (Ints UnsignedSign) refl refl f
  scalar_complete UcharWord f = single Uchar UcharWord refl f
  scalar_complete UshortWord f = single Ushort UshortWord refl f
  scalar_complete UintWord f = single Uint UintWord refl f
  scalar_complete SizeWord f = single SizeT SizeWord refl f
