-- How the reader goes through the words of a scalar type.
use Rattle.std.specs.Prelude.{Option, Some, None}
use Rattle.ocl_tokens.specs.declared.words.Word.{Word}
use Rattle.ocl_tokens.specs.declared.words.Word.TheVariants.{Char, Uchar, Short, Ushort, Int, Uint, SizeT, Signed, Unsigned}
use Rattle.ocl_parser.specs.declared.scalars.Scalar.{Scalar}
use Rattle.ocl_parser.specs.declared.scalars.Scalar.TheVariants.{OnlySigned, OnlyUnsigned, Chars, Shorts, ShortInts, Ints, UcharWord, UshortWord, UintWord, SizeWord}
use Rattle.ocl_parser.specs.declared.scalars.Sign.{Sign}
use Rattle.ocl_parser.specs.declared.scalars.Sign.TheVariants.{NoSign, SignedSign, UnsignedSign}

-- the spelling that begins with a word
abbrev pub scalar_first : Word → Option Scalar
scalar_first Signed = Some OnlySigned
scalar_first Unsigned = Some OnlyUnsigned
scalar_first Char = Some (Chars NoSign)
scalar_first Short = Some (Shorts NoSign)
scalar_first Int = Some (Ints NoSign)
scalar_first Uchar = Some UcharWord
scalar_first Ushort = Some UshortWord
scalar_first Uint = Some UintWord
scalar_first SizeT = Some SizeWord
scalar_first _ = None

-- the spelling behind a sign
abbrev pub signed_more : Sign → Word → Option Scalar
signed_more sign Char = Some (Chars sign)
signed_more sign Short = Some (Shorts sign)
signed_more sign Int = Some (Ints sign)
signed_more sign _ = None

abbrev pub short_more : Sign → Word → Option Scalar
short_more sign Int = Some (ShortInts sign)
short_more sign _ = None

-- the spelling with one word more
abbrev pub scalar_more : Scalar → Word → Option Scalar
scalar_more OnlySigned w = signed_more SignedSign w
scalar_more OnlyUnsigned w = signed_more UnsignedSign w
scalar_more (Shorts sign) w = short_more sign w
scalar_more _ w = None
