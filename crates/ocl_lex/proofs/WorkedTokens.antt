-- The tokens of small texts, computed from the definitions.
use Rattle.std.proofs.Common.{◌≡◌, ℕ, true, false, List, [], ◌∷◌, ◌++◌, Result, Ok, Err, refl}
use Rattle.std.specs.Prelude.{codes, map}
use Rattle.vx_base.specs.declared.types.Pos.{Pos}
use Rattle.ocl_tokens.specs.declared.tokens.Token.{Token}
use Rattle.ocl_tokens.specs.declared.tokens.TokenKind.{TokenKind}
use Rattle.ocl_tokens.specs.declared.tokens.TokenKind.TheVariants as token
use Rattle.ocl_tokens.specs.declared.marks.Mark.TheVariants as mark
use Rattle.ocl_tokens.specs.declared.words.Word.TheVariants as word
use Rattle.ocl_tokens.specs.declared.words.LeftOut.TheVariants as left_out
use Rattle.ocl_tokens.specs.declared.words.Component.TheVariants as component
use Rattle.ocl_tokens.specs.declared.words.Width.TheVariants as width
use Rattle.ocl_lex.specs.declared.faults.LexFault.{LexFault}
use Rattle.ocl_lex.specs.declared.faults.LexFault.TheVariants as fault
use Rattle.ocl_lex.specs.Pieces.{closing_len, begins, cuts}
use Rattle.ocl_lex.specs.Marks.{mark_at}
use Rattle.ocl_lex.specs.Words.{width_named, vector_named, word_named}
use Rattle.ocl_lex.specs.Literals.{value_of, unsuffixed_value, literal_of}
use Rattle.ocl_lex.specs.Events.{within}
use Rattle.ocl_lex.specs.Macros.{shows, predefined_macros}
use Rattle.ocl_lex.specs.Lines.{lines, directive_named, effect, events, tokens_of}

abbrev kinds : Result (List Token) LexFault → Result (List TokenKind) LexFault
kinds (Ok tokens) = Ok (map (λ t. t.kind) tokens)
kinds (Err f) = Err f

abbrev says : List ℕ → Result (List TokenKind) LexFault
says text = kinds (tokens_of text)

abbrev at : ℕ → ℕ → Pos
at line col = record { line = line; col = col }

no_text : says ([]) ≡ Ok (token.End ∷ [])
unfolding tokens_of events effect lines within shows predefined_macros directive_named cuts begins closing_len mark_at literal_of unsuffixed_value value_of word_named vector_named width_named
no_text = refl

plus : says (codes "a+1") ≡ Ok (token.Name (codes "a") ∷ token.Mark mark.Plus ∷ token.Number 1 false ∷ token.End ∷ [])
unfolding tokens_of events effect lines within shows predefined_macros directive_named cuts begins closing_len mark_at literal_of unsuffixed_value value_of word_named vector_named width_named
plus = refl

longest : says (codes "a<<=b>>c+++d") ≡ Ok (token.Name (codes "a") ∷ token.Mark mark.ShiftLeftEqual ∷ token.Name (codes "b") ∷ token.Mark mark.ShiftRight ∷ token.Name (codes "c") ∷ token.Mark mark.PlusPlus ∷ token.Mark mark.Plus ∷ token.Name (codes "d") ∷ token.End ∷ [])
unfolding tokens_of events effect lines within shows predefined_macros directive_named cuts begins closing_len mark_at literal_of unsuffixed_value value_of word_named vector_named width_named
longest = refl

comments : says (codes "a/*b*/c//d" ++ (10 ∷ codes "e")) ≡ Ok (token.Name (codes "a") ∷ token.Name (codes "c") ∷ token.Name (codes "e") ∷ token.End ∷ [])
unfolding tokens_of events effect lines within shows predefined_macros directive_named cuts begins closing_len mark_at literal_of unsuffixed_value value_of word_named vector_named width_named
comments = refl

open_comment : says (codes "a" ++ (10 ∷ codes " b /*")) ≡ Err (fault.OpenComment (at 2 4))
unfolding tokens_of events effect lines within shows predefined_macros directive_named cuts begins closing_len mark_at literal_of unsuffixed_value value_of word_named vector_named width_named
open_comment = refl

half_closed : says (codes "/*/") ≡ Err (fault.OpenComment (at 1 1))
unfolding tokens_of events effect lines within shows predefined_macros directive_named cuts begins closing_len mark_at literal_of unsuffixed_value value_of word_named vector_named width_named
half_closed = refl

int_most : says (codes "2147483647") ≡ Ok (token.Number 2147483647 false ∷ token.End ∷ [])
unfolding tokens_of events effect lines within shows predefined_macros directive_named cuts begins closing_len mark_at literal_of unsuffixed_value value_of word_named vector_named width_named
int_most = refl

uint_least : says (codes "2147483648") ≡ Ok (token.Number 2147483648 true ∷ token.End ∷ [])
unfolding tokens_of events effect lines within shows predefined_macros directive_named cuts begins closing_len mark_at literal_of unsuffixed_value value_of word_named vector_named width_named
uint_least = refl

uint_most : says (codes "4294967295") ≡ Ok (token.Number 4294967295 true ∷ token.End ∷ [])
unfolding tokens_of events effect lines within shows predefined_macros directive_named cuts begins closing_len mark_at literal_of unsuffixed_value value_of word_named vector_named width_named
uint_most = refl

too_large : says (codes "4294967296") ≡ Err (fault.BadNumber (at 1 1))
unfolding tokens_of events effect lines within shows predefined_macros directive_named cuts begins closing_len mark_at literal_of unsuffixed_value value_of word_named vector_named width_named
too_large = refl

hexadecimal : says (codes "0xFFu") ≡ Ok (token.Number 255 true ∷ token.End ∷ [])
unfolding tokens_of events effect lines within shows predefined_macros directive_named cuts begins closing_len mark_at literal_of unsuffixed_value value_of word_named vector_named width_named
hexadecimal = refl

octal : says (codes "017") ≡ Ok (token.Number 15 false ∷ token.End ∷ [])
unfolding tokens_of events effect lines within shows predefined_macros directive_named cuts begins closing_len mark_at literal_of unsuffixed_value value_of word_named vector_named width_named
octal = refl

no_octal : says (codes " 08") ≡ Err (fault.BadNumber (at 1 2))
unfolding tokens_of events effect lines within shows predefined_macros directive_named cuts begins closing_len mark_at literal_of unsuffixed_value value_of word_named vector_named width_named
no_octal = refl

no_digits : says (codes "0x") ≡ Err (fault.BadNumber (at 1 1))
unfolding tokens_of events effect lines within shows predefined_macros directive_named cuts begins closing_len mark_at literal_of unsuffixed_value value_of word_named vector_named width_named
no_digits = refl

two_suffixes : says (codes "1uu") ≡ Err (fault.BadNumber (at 1 1))
unfolding tokens_of events effect lines within shows predefined_macros directive_named cuts begins closing_len mark_at literal_of unsuffixed_value value_of word_named vector_named width_named
two_suffixes = refl

floating : says (codes "1.5") ≡ Err (fault.BadNumber (at 1 1))
unfolding tokens_of events effect lines within shows predefined_macros directive_named cuts begins closing_len mark_at literal_of unsuffixed_value value_of word_named vector_named width_named
floating = refl

bad_byte : says (codes "a @") ≡ Err (fault.BadByte (at 1 3))
unfolding tokens_of events effect lines within shows predefined_macros directive_named cuts begins closing_len mark_at literal_of unsuffixed_value value_of word_named vector_named width_named
bad_byte = refl

words : says (codes "int intx half4 float16 barrier") ≡ Ok (token.Word word.Int ∷ token.Name (codes "intx") ∷ token.Name (codes "half4") ∷ token.Word (word.LeftOut (left_out.Vector component.Float width.Sixteen)) ∷ token.Word word.Barrier ∷ token.End ∷ [])
unfolding tokens_of events effect lines within shows predefined_macros directive_named cuts begins closing_len mark_at literal_of unsuffixed_value value_of word_named vector_named width_named
words = refl

object : says (codes "#define N 4" ++ (10 ∷ codes "N N")) ≡ Ok (token.Number 4 false ∷ token.Number 4 false ∷ token.End ∷ [])
unfolding tokens_of events effect lines within shows predefined_macros directive_named cuts begins closing_len mark_at literal_of unsuffixed_value value_of word_named vector_named width_named
object = refl

self_naming : says (codes "#define f f + g" ++ (10 ∷ codes "#define g f" ++ (10 ∷ codes "f"))) ≡ Ok (token.Name (codes "f") ∷ token.Mark mark.Plus ∷ token.Name (codes "f") ∷ token.End ∷ [])
unfolding tokens_of events effect lines within shows predefined_macros directive_named cuts begins closing_len mark_at literal_of unsuffixed_value value_of word_named vector_named width_named
self_naming = refl

word_replaced : says (codes "#define int uint" ++ (10 ∷ codes "int")) ≡ Ok (token.Word word.Uint ∷ token.End ∷ [])
unfolding tokens_of events effect lines within shows predefined_macros directive_named cuts begins closing_len mark_at literal_of unsuffixed_value value_of word_named vector_named width_named
word_replaced = refl

least_char : says (codes "CHAR_MIN") ≡ Ok (token.Mark mark.OpenParen ∷ token.Mark mark.Minus ∷ token.Number 127 false ∷ token.Mark mark.Minus ∷ token.Number 1 false ∷ token.Mark mark.CloseParen ∷ token.End ∷ [])
unfolding tokens_of events effect lines within shows predefined_macros directive_named cuts begins closing_len mark_at literal_of unsuffixed_value value_of word_named vector_named width_named
least_char = refl

version : says (codes "__OPENCL_VERSION__") ≡ Ok (token.Number 120 false ∷ token.End ∷ [])
unfolding tokens_of events effect lines within shows predefined_macros directive_named cuts begins closing_len mark_at literal_of unsuffixed_value value_of word_named vector_named width_named
version = refl

not_defined : says (codes "#undef CHAR_BIT" ++ (10 ∷ codes "CHAR_BIT")) ≡ Ok (token.Name (codes "CHAR_BIT") ∷ token.End ∷ [])
unfolding tokens_of events effect lines within shows predefined_macros directive_named cuts begins closing_len mark_at literal_of unsuffixed_value value_of word_named vector_named width_named
not_defined = refl

joined : says (codes "#define A+1" ++ (10 ∷ codes "A")) ≡ Ok (token.Mark mark.Plus ∷ token.Number 1 false ∷ token.End ∷ [])
unfolding tokens_of events effect lines within shows predefined_macros directive_named cuts begins closing_len mark_at literal_of unsuffixed_value value_of word_named vector_named width_named
joined = refl

parameters : says (codes "#define A(x) x") ≡ Err (fault.BadDirective (at 1 1))
unfolding tokens_of events effect lines within shows predefined_macros directive_named cuts begins closing_len mark_at literal_of unsuffixed_value value_of word_named vector_named width_named
parameters = refl

comment_before : says (codes "#define A/**/(x" ++ (10 ∷ codes "A")) ≡ Ok (token.Mark mark.OpenParen ∷ token.Name (codes "x") ∷ token.End ∷ [])
unfolding tokens_of events effect lines within shows predefined_macros directive_named cuts begins closing_len mark_at literal_of unsuffixed_value value_of word_named vector_named width_named
comment_before = refl

either : says (codes "#ifdef A" ++ (10 ∷ codes "a" ++ (10 ∷ codes "#else" ++ (10 ∷ codes "b" ++ (10 ∷ codes "#endif" ++ (10 ∷ codes "c")))))) ≡ Ok (token.Name (codes "b") ∷ token.Name (codes "c") ∷ token.End ∷ [])
unfolding tokens_of events effect lines within shows predefined_macros directive_named cuts begins closing_len mark_at literal_of unsuffixed_value value_of word_named vector_named width_named
either = refl

not_else : says (codes "#ifndef A" ++ (10 ∷ codes "a" ++ (10 ∷ codes "#else" ++ (10 ∷ codes "b" ++ (10 ∷ codes "#endif" ++ (10 ∷ codes "c")))))) ≡ Ok (token.Name (codes "a") ∷ token.Name (codes "c") ∷ token.End ∷ [])
unfolding tokens_of events effect lines within shows predefined_macros directive_named cuts begins closing_len mark_at literal_of unsuffixed_value value_of word_named vector_named width_named
not_else = refl

second_else : says (codes "#ifdef A" ++ (10 ∷ codes "#else" ++ (10 ∷ codes " #else" ++ (10 ∷ codes "#endif")))) ≡ Err (fault.BadDirective (at 3 2))
unfolding tokens_of events effect lines within shows predefined_macros directive_named cuts begins closing_len mark_at literal_of unsuffixed_value value_of word_named vector_named width_named
second_else = refl

no_end : says (codes "#ifdef A" ++ (10 ∷ codes " #ifndef B" ++ (10 ∷ []))) ≡ Err (fault.BadDirective (at 2 2))
unfolding tokens_of events effect lines within shows predefined_macros directive_named cuts begins closing_len mark_at literal_of unsuffixed_value value_of word_named vector_named width_named
no_end = refl

lone_endif : says (codes "#endif") ≡ Err (fault.BadDirective (at 1 1))
unfolding tokens_of events effect lines within shows predefined_macros directive_named cuts begins closing_len mark_at literal_of unsuffixed_value value_of word_named vector_named width_named
lone_endif = refl

unknown : says (codes "#if 1") ≡ Err (fault.BadDirective (at 1 1))
unfolding tokens_of events effect lines within shows predefined_macros directive_named cuts begins closing_len mark_at literal_of unsuffixed_value value_of word_named vector_named width_named
unknown = refl

unknown_skipped : says (codes "#ifdef A" ++ (10 ∷ codes "#foo @" ++ (10 ∷ codes "#endif"))) ≡ Err (fault.BadDirective (at 2 1))
unfolding tokens_of events effect lines within shows predefined_macros directive_named cuts begins closing_len mark_at literal_of unsuffixed_value value_of word_named vector_named width_named
unknown_skipped = refl

skipped : says (codes "#ifdef A" ++ (10 ∷ codes "@ 1.5 # " ++ (10 ∷ codes "#define @" ++ (10 ∷ codes "#pragma @" ++ (10 ∷ codes "#endif" ++ (10 ∷ codes "a")))))) ≡ Ok (token.Name (codes "a") ∷ token.End ∷ [])
unfolding tokens_of events effect lines within shows predefined_macros directive_named cuts begins closing_len mark_at literal_of unsuffixed_value value_of word_named vector_named width_named
skipped = refl

open_in_skipped : says (codes "#ifdef A" ++ (10 ∷ codes "@ /*" ++ (10 ∷ codes "#endif"))) ≡ Err (fault.OpenComment (at 2 3))
unfolding tokens_of events effect lines within shows predefined_macros directive_named cuts begins closing_len mark_at literal_of unsuffixed_value value_of word_named vector_named width_named
open_in_skipped = refl

hash_behind : says (codes "a # define") ≡ Err (fault.BadByte (at 1 3))
unfolding tokens_of events effect lines within shows predefined_macros directive_named cuts begins closing_len mark_at literal_of unsuffixed_value value_of word_named vector_named width_named
hash_behind = refl

hash_behind_comment : says (codes "/* */ # /* */ define A 1" ++ (10 ∷ codes "A")) ≡ Ok (token.Number 1 false ∷ token.End ∷ [])
unfolding tokens_of events effect lines within shows predefined_macros directive_named cuts begins closing_len mark_at literal_of unsuffixed_value value_of word_named vector_named width_named
hash_behind_comment = refl

comment_over_lines : says (codes "#define A /*" ++ (10 ∷ codes "*/ 2" ++ (10 ∷ codes "A"))) ≡ Ok (token.Number 2 false ∷ token.End ∷ [])
unfolding tokens_of events effect lines within shows predefined_macros directive_named cuts begins closing_len mark_at literal_of unsuffixed_value value_of word_named vector_named width_named
comment_over_lines = refl

hash_in_joined_line : says (codes "a /*" ++ (10 ∷ codes "*/ # define")) ≡ Err (fault.BadByte (at 2 4))
unfolding tokens_of events effect lines within shows predefined_macros directive_named cuts begins closing_len mark_at literal_of unsuffixed_value value_of word_named vector_named width_named
hash_in_joined_line = refl

lone_hash : says (codes "#" ++ (10 ∷ codes "# " ++ (10 ∷ codes "a"))) ≡ Ok (token.Name (codes "a") ∷ token.End ∷ [])
unfolding tokens_of events effect lines within shows predefined_macros directive_named cuts begins closing_len mark_at literal_of unsuffixed_value value_of word_named vector_named width_named
lone_hash = refl

pragma : says (codes "#pragma OPENCL EXTENSION @ 1.5" ++ (10 ∷ codes "a")) ≡ Ok (token.Name (codes "a") ∷ token.End ∷ [])
unfolding tokens_of events effect lines within shows predefined_macros directive_named cuts begins closing_len mark_at literal_of unsuffixed_value value_of word_named vector_named width_named
pragma = refl

open_in_pragma : says (codes "#pragma /*") ≡ Err (fault.OpenComment (at 1 9))
unfolding tokens_of events effect lines within shows predefined_macros directive_named cuts begins closing_len mark_at literal_of unsuffixed_value value_of word_named vector_named width_named
open_in_pragma = refl

bad_in_define : says (codes "#define A 1 @") ≡ Err (fault.BadByte (at 1 13))
unfolding tokens_of events effect lines within shows predefined_macros directive_named cuts begins closing_len mark_at literal_of unsuffixed_value value_of word_named vector_named width_named
bad_in_define = refl

bad_number_in_define : says (codes "#define A 08") ≡ Err (fault.BadNumber (at 1 11))
unfolding tokens_of events effect lines within shows predefined_macros directive_named cuts begins closing_len mark_at literal_of unsuffixed_value value_of word_named vector_named width_named
bad_number_in_define = refl

bad_name : says (codes "#define 1.5") ≡ Err (fault.BadDirective (at 1 1))
unfolding tokens_of events effect lines within shows predefined_macros directive_named cuts begins closing_len mark_at literal_of unsuffixed_value value_of word_named vector_named width_named
bad_name = refl

more_than_name : says (codes "#undef X @") ≡ Err (fault.BadDirective (at 1 1))
unfolding tokens_of events effect lines within shows predefined_macros directive_named cuts begins closing_len mark_at literal_of unsuffixed_value value_of word_named vector_named width_named
more_than_name = refl

open_behind_name : says (codes "#undef X /*") ≡ Err (fault.OpenComment (at 1 10))
unfolding tokens_of events effect lines within shows predefined_macros directive_named cuts begins closing_len mark_at literal_of unsuffixed_value value_of word_named vector_named width_named
open_behind_name = refl

number_asked : says (codes "#ifdef 1.5") ≡ Err (fault.BadDirective (at 1 1))
unfolding tokens_of events effect lines within shows predefined_macros directive_named cuts begins closing_len mark_at literal_of unsuffixed_value value_of word_named vector_named width_named
number_asked = refl

behind_else : says (codes "#ifdef A" ++ (10 ∷ codes "#else @" ++ (10 ∷ codes "#endif"))) ≡ Err (fault.BadDirective (at 2 1))
unfolding tokens_of events effect lines within shows predefined_macros directive_named cuts begins closing_len mark_at literal_of unsuffixed_value value_of word_named vector_named width_named
behind_else = refl
