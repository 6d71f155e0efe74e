-- The parts of a statement as they are printed are read back.
use Rattle.std.proofs.Common.{◌≡◌, ℕ, ◌-◌, ◌^◌, ◌<◌, ◌≤◌, ◌⊎◌, inl, inr, Bool, true, false, List, [], ◌∷◌, ◌++◌, length, refl, ap, ◌∙◌, arith}
use Rattle.std.specs.Prelude.{Ok, ◌==◌, nat_lt, slice_index}
use Rattle.std.specs.Char.{digit_value}
use Rattle.std.specs.Fmt.{decimal}
use Rattle.std.specs.Str.Parse.{IsNumeral}
use Rattle.std.proofs.lemmas.Bool.Decides.{nat_tests}
use Rattle.std.proofs.lemmas.Fmt.{decimal_is_IsNumeral}
use Rattle.vx_isa.specs.Words.{is_register, is_signed, is_place, is_csr}
use Rattle.asm_text.specs.declared.mnemonics.Field.{Field}
use Rattle.asm_text.specs.declared.mnemonics.Field.TheVariants as field
use Rattle.asm_text.specs.declared.mnemonics.Part.{Part}
use Rattle.asm_text.specs.declared.mnemonics.Part.TheVariants.{Register, Number, Place, Comma, Open, Close}
use Rattle.asm_text.specs.declared.statements.Number.{Number as Written}
use Rattle.asm_text.specs.declared.statements.Statement.{Statement}
use Rattle.asm_text.specs.AsmLines.{Read, ◌>>=◌, is_blank, past_blanks, begins_name, number_at, fits_field, word_of_number, with_word, with_number, field_at, place_at, part_at, parts_at}
use Rattle.vx_disasm.specs.Texts.{hexadecimal}
use Rattle.vx_disasm.specs.Texts as text
use Rattle.vx_disasm.proofs.PrintedNumbers.{by_test, Stops, number_read, minus_read, hexadecimal_read, register_read, not_negative, negative, first_decimal_byte}

-- ---- numbers for fields

-- the words of a field
abbrev pub in_field : Field → ℕ → Bool
in_field field.Immediate word = is_signed 12 word
in_field field.Amount word = is_register word
in_field field.Upper word = nat_lt word (2 ^ 20)
in_field field.FenceSet word = nat_lt word 16
in_field field.Csr word = is_csr word
in_field field.Word word = nat_lt word (2 ^ 32)
in_field field.Branch word = is_place 13 word
in_field field.Jump word = is_place 21 word

-- how a word of a field is printed
abbrev pub number_text : Field → ℕ → List ℕ
number_text field.Immediate word = text.signed word
number_text field.Amount word = decimal word
number_text field.Upper word = 48 ∷ 120 ∷ hexadecimal word
number_text field.FenceSet word = decimal word
number_text field.Csr word = 48 ∷ 120 ∷ hexadecimal word
number_text field.Word word = 48 ∷ 120 ∷ hexadecimal word
number_text field.Branch word = text.signed word
number_text field.Jump word = text.signed word

pub record FieldRead (f : Field) (word : ℕ) (t : List ℕ) : Type 0 where
  pub number : Written
  pub read : number_at (number_text f word ++ t) ≡ Ok (number, t)
  pub fits : fits_field f number ≡ true
  pub same : word_of_number number ≡ word

-- a field of signed numbers
signed_read : (f : Field) (word : ℕ) (t : List ℕ) → number_text f word ≡ text.signed word → word < 2 ^ 32 → Stops t
    → (word < 2 ^ 31 → fits_field f (record { minus = false; size = word }) ≡ true)
    → (2 ^ 31 ≤ word → fits_field f (record { minus = true; size = 2 ^ 32 - word }) ≡ true) → FieldRead f word t
signed_read f word t printed small stops low high = by_test (nat_lt word (2 ^ 31))
    (λ e.
    let less : word < 2 ^ 31 = grind (arith, nat_tests) in
    let written : number_text f word ≡ decimal word = printed ∙ not_negative word less in
    record { number = record { minus = false; size = word }; read = rw written (number_read word t small stops); fits = low less; same = refl })
    (λ e.
    let great : 2 ^ 31 ≤ word = grind (arith, nat_tests) in
    let written : number_text f word ≡ 45 ∷ decimal (2 ^ 32 - word) = printed ∙ negative word great small in
    record { number = record { minus = true; size = 2 ^ 32 - word }; read = rw written (minus_read (2 ^ 32 - word) t (omega arith) stops); fits = high great; same = omega arith })

pub field_read : (f : Field) (word : ℕ) (t : List ℕ) → in_field f word ≡ true → Stops t → FieldRead f word t
field_read field.Immediate word t fits stops = signed_read field.Immediate word t refl (grind (arith, nat_tests)) stops (λ less. grind (arith, nat_tests)) (λ great. grind (arith, nat_tests))
field_read field.Branch word t fits stops = signed_read field.Branch word t refl (grind (arith, nat_tests)) stops (λ less. grind (arith, nat_tests)) (λ great. grind (arith, nat_tests))
field_read field.Jump word t fits stops = signed_read field.Jump word t refl (grind (arith, nat_tests)) stops (λ less. grind (arith, nat_tests)) (λ great. grind (arith, nat_tests))
field_read field.Amount word t fits stops =
    record { number = record { minus = false; size = word }; read = number_read word t (grind (arith, nat_tests)) stops; fits = fits; same = refl }
field_read field.FenceSet word t fits stops =
    record { number = record { minus = false; size = word }; read = number_read word t (grind (arith, nat_tests)) stops; fits = fits; same = refl }
field_read field.Upper word t fits stops =
    record { number = record { minus = false; size = word }; read = hexadecimal_read word t (grind (arith, nat_tests)) stops; fits = fits; same = refl }
field_read field.Csr word t fits stops =
    record { number = record { minus = false; size = word }; read = hexadecimal_read word t (grind (arith, nat_tests)) stops; fits = fits; same = refl }
field_read field.Word word t fits stops =
    record { number = record { minus = false; size = word }; read = hexadecimal_read word t (grind (arith, nat_tests)) stops; fits = fits; same = refl }

-- ---- blanks

pub no_blank : (t : List ℕ) → is_blank (slice_index t 0) ≡ false → past_blanks t ≡ t
no_blank [] test = refl
no_blank (c ∷ t) test = rw test refl

pub after_blank : (t : List ℕ) → is_blank (slice_index t 0) ≡ false → past_blanks (32 ∷ t) ≡ t
after_blank [] test = refl
after_blank (c ∷ t) test = rw test refl

not_blank_byte : (c : ℕ) → 44 < c → is_blank c ≡ false
not_blank_byte c past = grind (arith, nat_tests)

decimal_not_blank : (word : ℕ) (t : List ℕ) → word < 2 ^ 32 → is_blank (slice_index (decimal word ++ t) 0) ≡ false
decimal_not_blank word t small = first (first_decimal_byte word t small)
  where
    first : (slice_index (decimal word ++ t) 0 ≡ 48) × (word ≡ 0) ⊎ (48 < slice_index (decimal word ++ t) 0) × (0 < word) → is_blank (slice_index (decimal word ++ t) 0) ≡ false
    first (inl none) = rw none.0 refl
    first (inr some) = not_blank_byte (slice_index (decimal word ++ t) 0) (omega (arith, some.0))

signed_not_blank : (word : ℕ) (t : List ℕ) → word < 2 ^ 32 → is_blank (slice_index (text.signed word ++ t) 0) ≡ false
signed_not_blank word t small = by_test (nat_lt word (2 ^ 31))
    (λ e.
    let less : word < 2 ^ 31 = grind (arith, nat_tests) in
    rw (not_negative word less) (decimal_not_blank word t small))
    (λ e.
    let great : 2 ^ 31 ≤ word = grind (arith, nat_tests) in
    rw (negative word great small) refl)

number_not_blank : (f : Field) (word : ℕ) (t : List ℕ) → in_field f word ≡ true → is_blank (slice_index (number_text f word ++ t) 0) ≡ false
number_not_blank field.Immediate word t fits = signed_not_blank word t (grind (arith, nat_tests))
number_not_blank field.Branch word t fits = signed_not_blank word t (grind (arith, nat_tests))
number_not_blank field.Jump word t fits = signed_not_blank word t (grind (arith, nat_tests))
number_not_blank field.Amount word t fits = decimal_not_blank word t (grind (arith, nat_tests))
number_not_blank field.FenceSet word t fits = decimal_not_blank word t (grind (arith, nat_tests))
number_not_blank field.Upper word t fits = refl
number_not_blank field.Csr word t fits = refl
number_not_blank field.Word word t fits = refl

-- ---- parts in order

-- the parts with their operands as they are printed: behind a comma stands a blank
abbrev pub parts_text : List Part → List ℕ → List ℕ
parts_text [] words = []
parts_text (Comma ∷ parts) words = 44 ∷ 32 ∷ parts_text parts words
parts_text (Open ∷ parts) words = 40 ∷ parts_text parts words
parts_text (Close ∷ parts) words = 41 ∷ parts_text parts words
parts_text (Register ∷ parts) [] = []
parts_text (Register ∷ parts) (w ∷ words) = 120 ∷ decimal w ++ parts_text parts words
parts_text (Number f ∷ parts) [] = []
parts_text (Number f ∷ parts) (w ∷ words) = number_text f w ++ parts_text parts words
parts_text (Place f ∷ parts) [] = []
parts_text (Place f ∷ parts) (w ∷ words) = number_text f w ++ parts_text parts words

-- the operands are as many as the parts ask for, and each is in its range
abbrev pub InRange : List Part → List ℕ → Type 0
InRange [] words = words ≡ []
InRange (Comma ∷ parts) words = InRange parts words
InRange (Open ∷ parts) words = InRange parts words
InRange (Close ∷ parts) words = InRange parts words
InRange (Register ∷ parts) [] = ⊥
InRange (Register ∷ parts) (w ∷ words) = (is_register w ≡ true) × InRange parts words
InRange (Number f ∷ parts) [] = ⊥
InRange (Number f ∷ parts) (w ∷ words) = (in_field f w ≡ true) × InRange parts words
InRange (Place f ∷ parts) [] = ⊥
InRange (Place f ∷ parts) (w ∷ words) = (is_signed 32 w ≡ true) × (in_field f w ≡ true) × (number_text f w ≡ text.signed w) × InRange parts words

-- a mark, or nothing, stands behind each operand
abbrev pub Marked : List Part → Type 0
Marked [] = Unit {0}
Marked (Comma ∷ parts) = Unit {0}
Marked (Open ∷ parts) = Unit {0}
Marked (Close ∷ parts) = Unit {0}
Marked (Register ∷ parts) = ⊥
Marked (Number f ∷ parts) = ⊥
Marked (Place f ∷ parts) = ⊥

abbrev pub Spaced : List Part → Type 0
Spaced [] = Unit {0}
Spaced (Comma ∷ parts) = Spaced parts
Spaced (Open ∷ parts) = Spaced parts
Spaced (Close ∷ parts) = Spaced parts
Spaced (Register ∷ parts) = Marked parts × Spaced parts
Spaced (Number f ∷ parts) = Marked parts × Spaced parts
Spaced (Place f ∷ parts) = Marked parts × Spaced parts

stops : (parts : List Part) (words : List ℕ) → Marked parts → Stops (parts_text parts words)
stops [] words marked = tt
stops (Comma ∷ parts) words marked = inl refl
stops (Open ∷ parts) words marked = inr (inl refl)
stops (Close ∷ parts) words marked = inr (inr refl)
stops (Register ∷ parts) words marked = absurd marked
stops (Number f ∷ parts) words marked = absurd marked
stops (Place f ∷ parts) words marked = absurd marked

pub not_blank : (parts : List Part) (words : List ℕ) → InRange parts words → is_blank (slice_index (parts_text parts words) 0) ≡ false
not_blank [] words range = refl
not_blank (Comma ∷ parts) words range = refl
not_blank (Open ∷ parts) words range = refl
not_blank (Close ∷ parts) words range = refl
not_blank (Register ∷ parts) [] range = absurd range
not_blank (Register ∷ parts) (w ∷ words) range = refl
not_blank (Number f ∷ parts) [] range = absurd range
not_blank (Number f ∷ parts) (w ∷ words) range = number_not_blank f w (parts_text parts words) range.0
not_blank (Place f ∷ parts) [] range = absurd range
not_blank (Place f ∷ parts) (w ∷ words) range = number_not_blank f w (parts_text parts words) range.1

-- a statement and some operands more
abbrev pub with_words : Statement → List ℕ → Statement
with_words s [] = s
with_words s (w ∷ words) = with_words (with_word s w) words

pub record PartsRead (parts : List Part) (s : Statement) (bytes words : List ℕ) : Type 0 where
  pub rest : List ℕ
  pub read : parts_at parts s bytes ≡ Ok (with_words s words, rest)
  pub behind : past_blanks rest ≡ []

-- one part, and the others
one_more : (part : Part) (parts : List Part) (s more : Statement) (bytes front rest words all : List ℕ) → past_blanks bytes ≡ front → part_at part s front ≡ Ok (more, rest)
    → PartsRead parts more rest words → with_words more words ≡ with_words s all → PartsRead (part ∷ parts) s bytes all
unfolding parts_at
one_more part parts s more bytes front rest words all blanks one others same =
    let here : part_at part s (past_blanks bytes) ≡ Ok (more, rest) = ap (part_at part s) blanks ∙ one in
    let whole : parts_at (part ∷ parts) s bytes ≡ Ok (with_words s all, others.rest) =
    ap (λ (r : Read Statement). r >>= λ (more, rest). parts_at parts more rest) here ∙ others.read ∙ ap (λ (t : Statement). Ok (t, others.rest)) same in
    record { rest = others.rest; read = whole; behind = others.behind }

fitting_word : (f : Field) (left : ℕ) (s : Statement) (number : Written) (word : ℕ) → fits_field f number ≡ true → word_of_number number ≡ word → with_number f left s number ≡ with_word s word
fitting_word f left s number word fits same = rw (fits, same) refl

field_part : (f : Field) (s : Statement) (word : ℕ) (t : List ℕ) → in_field f word ≡ true → Stops t → field_at f s (number_text f word ++ t) ≡ Ok (with_word s word, t)
field_part f s word t fits marks =
    let number : FieldRead f word t = field_read f word t fits marks in
    rw (number.read, fitting_word f (length (number_text f word ++ t)) s number.number word number.fits number.same) refl

-- the first byte of a decimal number is a digit
first_digit : (ds t : List ℕ) → IsNumeral 10 ds → digit_value (slice_index (ds ++ t) 0) < 10
first_digit [] t numeral = absurd (omega (arith, numeral.0))
first_digit (d ∷ ds) t numeral = numeral.1.0

digit_byte : (c : ℕ) → digit_value c < 10 → (begins_name c ≡ false) × ((c == 58) ≡ false)
digit_byte c digit = (grind (arith, nat_tests), grind (arith, nat_tests))

decimal_byte : (word : ℕ) (t : List ℕ) → word < 2 ^ 32 → (begins_name (slice_index (decimal word ++ t) 0) ≡ false) × ((slice_index (decimal word ++ t) 0 == 58) ≡ false)
decimal_byte word t small = digit_byte (slice_index (decimal word ++ t) 0) (first_digit (decimal word) t (decimal_is_IsNumeral word (omega arith)).0)

signed_byte : (word : ℕ) (t : List ℕ) → word < 2 ^ 32 → (begins_name (slice_index (text.signed word ++ t) 0) ≡ false) × ((slice_index (text.signed word ++ t) 0 == 58) ≡ false)
signed_byte word t small = by_test (nat_lt word (2 ^ 31))
    (λ e.
    let less : word < 2 ^ 31 = grind (arith, nat_tests) in
    rw (not_negative word less) (decimal_byte word t small))
    (λ e.
    let great : 2 ^ 31 ≤ word = grind (arith, nat_tests) in
    rw (negative word great small) (refl, refl))

-- a printed place is no label
no_name : (word : ℕ) (t : List ℕ) → word < 2 ^ 32 → begins_name (slice_index (text.signed word ++ t) 0) ≡ false
no_name word t small = (signed_byte word t small).0

number_no_colon : (f : Field) (word : ℕ) (t : List ℕ) → in_field f word ≡ true → (slice_index (number_text f word ++ t) 0 == 58) ≡ false
number_no_colon field.Immediate word t fits = (signed_byte word t (grind (arith, nat_tests))).1
number_no_colon field.Branch word t fits = (signed_byte word t (grind (arith, nat_tests))).1
number_no_colon field.Jump word t fits = (signed_byte word t (grind (arith, nat_tests))).1
number_no_colon field.Amount word t fits = (decimal_byte word t (grind (arith, nat_tests))).1
number_no_colon field.FenceSet word t fits = (decimal_byte word t (grind (arith, nat_tests))).1
number_no_colon field.Upper word t fits = refl
number_no_colon field.Csr word t fits = refl
number_no_colon field.Word word t fits = refl

-- the text of parts begins with no `:`
pub no_colon : (parts : List Part) (words : List ℕ) → InRange parts words → (slice_index (parts_text parts words) 0 == 58) ≡ false
no_colon [] words range = refl
no_colon (Comma ∷ parts) words range = refl
no_colon (Open ∷ parts) words range = refl
no_colon (Close ∷ parts) words range = refl
no_colon (Register ∷ parts) [] range = absurd range
no_colon (Register ∷ parts) (w ∷ words) range = refl
no_colon (Number f ∷ parts) [] range = absurd range
no_colon (Number f ∷ parts) (w ∷ words) range = number_no_colon f w (parts_text parts words) range.0
no_colon (Place f ∷ parts) [] range = absurd range
no_colon (Place f ∷ parts) (w ∷ words) range = number_no_colon f w (parts_text parts words) range.1

place_part : (f : Field) (s : Statement) (word : ℕ) (t : List ℕ) → in_field f word ≡ true → number_text f word ≡ text.signed word → word < 2 ^ 32 → Stops t → place_at f s (number_text f word ++ t) ≡ Ok (with_word s word, t)
place_part f s word t fits printed small marks =
    let test : begins_name (slice_index (number_text f word ++ t) 0) ≡ false = rw printed (no_name word t small) in
    rw test (field_part f s word t fits marks)

pub parts_read : (parts : List Part) (words : List ℕ) (s : Statement) (bytes : List ℕ) → Spaced parts → InRange parts words → past_blanks bytes ≡ parts_text parts words → PartsRead parts s bytes words
unfolding parts_at part_at
parts_read [] words s bytes spaced range blanks =
    let none : with_words s words ≡ s = rw range refl in
    record { rest = bytes; read = rw none refl; behind = blanks }
parts_read (Comma ∷ parts) words s bytes spaced range blanks =
    let t : List ℕ = parts_text parts words in
    one_more Comma parts s s bytes (44 ∷ 32 ∷ t) (32 ∷ t) words words blanks refl (parts_read parts words s (32 ∷ t) spaced range (after_blank t (not_blank parts words range))) refl
parts_read (Open ∷ parts) words s bytes spaced range blanks =
    let t : List ℕ = parts_text parts words in
    one_more Open parts s s bytes (40 ∷ t) t words words blanks refl (parts_read parts words s t spaced range (no_blank t (not_blank parts words range))) refl
parts_read (Close ∷ parts) words s bytes spaced range blanks =
    let t : List ℕ = parts_text parts words in
    one_more Close parts s s bytes (41 ∷ t) t words words blanks refl (parts_read parts words s t spaced range (no_blank t (not_blank parts words range))) refl
parts_read (Register ∷ parts) [] s bytes spaced range blanks = absurd range
parts_read (Register ∷ parts) (w ∷ words) s bytes spaced range blanks =
    let t : List ℕ = parts_text parts words in
    let one : part_at Register s (120 ∷ decimal w ++ t) ≡ Ok (with_word s w, t) = rw (register_read w t range.0 (stops parts words spaced.0)) refl in
    one_more Register parts s (with_word s w) bytes (120 ∷ decimal w ++ t) t words (w ∷ words) blanks one (parts_read parts words (with_word s w) t spaced.1 range.1 (no_blank t (not_blank parts words range.1))) refl
parts_read (Number f ∷ parts) [] s bytes spaced range blanks = absurd range
parts_read (Number f ∷ parts) (w ∷ words) s bytes spaced range blanks =
    let t : List ℕ = parts_text parts words in
    one_more (Number f) parts s (with_word s w) bytes (number_text f w ++ t) t words (w ∷ words) blanks (field_part f s w t range.0 (stops parts words spaced.0))
    (parts_read parts words (with_word s w) t spaced.1 range.1 (no_blank t (not_blank parts words range.1))) refl
parts_read (Place f ∷ parts) [] s bytes spaced range blanks = absurd range
parts_read (Place f ∷ parts) (w ∷ words) s bytes spaced range blanks =
    let t : List ℕ = parts_text parts words in
    one_more (Place f) parts s (with_word s w) bytes (number_text f w ++ t) t words (w ∷ words) blanks (place_part f s w t range.1 range.2 (grind (arith, nat_tests)) (stops parts words spaced.0))
    (parts_read parts words (with_word s w) t spaced.1 range.3 (no_blank t (not_blank parts words range.3))) refl
