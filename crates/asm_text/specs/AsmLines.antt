-- What a line of assembly says.
--
-- Each function reads one thing at the front of some bytes. It gives what is read and the bytes behind it, or the number of
-- bytes that are left from the first one on that no line goes on with.
use Rattle.std.specs.Prelude.{◌≡◌, ℕ, ◌+◌, ◌-◌, ◌*◌, ◌%◌, ◌^◌, ◌==◌, nat_lt, nat_le, nat_eq, min, max, Bool, true, false, not, ◌&&◌, ◌||◌, if◌then◌else◌, List, [], ◌∷◌, length, take, drop, slice_index, Option, Some, None, Result, Ok, Err}
use Rattle.std.specs.Borrow.{Bor}
use Rattle.std.specs.Char.{is_digit}
use Rattle.std.specs.List.{find, prefix_len, common_prefix_len}
use Rattle.std.specs.Str.{bytes_eq}
use Rattle.std.specs.Str.Parse.{digits_value}
use Rattle.vx_isa.specs.Words.{is_csr}
use Rattle.asm_text.specs.declared.mnemonics.Mnemonic.{Mnemonic}
use Rattle.asm_text.specs.declared.mnemonics.Field.{Field}
use Rattle.asm_text.specs.declared.mnemonics.Field.TheVariants as field
use Rattle.asm_text.specs.declared.mnemonics.Part.{Part}
use Rattle.asm_text.specs.declared.mnemonics.Part.TheVariants.{Register, Number, Place, Comma, Open, Close}
use Rattle.asm_text.specs.declared.statements.Span.{Span}
use Rattle.asm_text.specs.declared.statements.Number.{Number as Written}
use Rattle.asm_text.specs.declared.statements.Statement.{Statement}
use Rattle.asm_text.specs.declared.statements.Line.{Line}
use Rattle.asm_text.specs.Mnemonics.{all_mnemonics, name_of, form_of, parts_of, three, with_operand}

abbrev pub Read : Type 0 → Type 0
Read A = Result (A × List ℕ) ℕ

-- what a function has read, in the words of the definitions
abbrev pub Says : {A : Type 0} → Result (A × Bor (List ℕ)) ℕ → Read A → Type 0
Says (Ok (x, rest)) read = read ≡ Ok (x, rest.now)
Says (Err left) read = read ≡ Err left

-- one thing and then another
infixl 10 ◌>>=◌
abbrev pub ◌>>=◌ : {A B : Type 0} → Result A ℕ → (A → Result B ℕ) → Result B ℕ
Ok x >>= f = f x
Err left >>= f = Err left

-- a space, a tab or a carriage return
abbrev pub is_blank : ℕ → Bool
is_blank c = c == 32 || c == 9 || c == 13

abbrev pub past_blanks : List ℕ → List ℕ
past_blanks bytes = drop (prefix_len is_blank bytes) bytes

-- one of the ten digits
abbrev pub is_decimal : ℕ → Bool
is_decimal c = nat_le 48 c && nat_le c 57

-- a letter or `_`
abbrev pub begins_name : ℕ → Bool
begins_name c = (nat_le 97 c && nat_le c 122) || (nat_le 65 c && nat_le c 90) || c == 95

abbrev pub is_in_name : ℕ → Bool
is_in_name c = begins_name c || is_decimal c

-- a byte of its own
abbrev pub mark_at : ℕ → {A : Type 0} → A → List ℕ → Read A
mark_at mark x bytes = if slice_index bytes 0 == mark then Ok (x, drop 1 bytes) else Err (length bytes)

-- The number of a register below 32: one digit, or two where these are such a number without a zero in front.
abbrev pub two_digits : ℕ → ℕ → ℕ
two_digits a b = (a - 48) * 10 + (b - 48)

abbrev pub is_two_digits : ℕ → ℕ → Bool
is_two_digits a b = not (a == 48) && is_decimal b && nat_lt (two_digits a b) 32

unfoldable pub register_number_at : List ℕ → Read ℕ
register_number_at bytes =
    let a = slice_index bytes 0 in
    let b = slice_index bytes 1 in
    if not (is_decimal a) then Err (length bytes)
    else (if is_two_digits a b then Ok (two_digits a b, drop 2 bytes) else Ok (a - 48, drop 1 bytes))

-- a register: `x` and its number
unfoldable pub register_at : List ℕ → Read ℕ
register_at bytes = if slice_index bytes 0 == 120 then register_number_at (drop 1 bytes) else Err (length bytes)

-- one to ten digits of a base
unfoldable pub digits_at : ℕ → List ℕ → Read ℕ
digits_at base bytes =
    let n = min 10 (prefix_len (λ c. is_digit c base) bytes) in
    if n == 0 then Err (length bytes) else Ok (digits_value base (take n bytes), drop n bytes)

-- a number without sign: behind `0x` the digits are hexadecimal
unfoldable pub size_at : List ℕ → Read ℕ
size_at bytes =
    if slice_index bytes 0 == 48 && slice_index bytes 1 == 120 then digits_at 16 (drop 2 bytes) else digits_at 10 bytes

abbrev pub signed : Bool → ℕ × List ℕ → Read Written
signed minus (size, rest) = Ok (record { minus = minus; size = size }, rest)

-- a number, perhaps with a `-` in front
unfoldable pub number_at : List ℕ → Read Written
number_at bytes =
    if slice_index bytes 0 == 45 then size_at (drop 1 bytes) >>= signed true else size_at bytes >>= signed false

-- whether a number is at least -n and less than n, and whether it is at least 0 and less than n
abbrev pub is_signed_below : ℕ → Written → Bool
is_signed_below n number = if number.minus then nat_le number.size n else nat_lt number.size n

abbrev pub is_below : ℕ → Written → Bool
is_below n number = if number.minus then number.size == 0 else nat_lt number.size n

abbrev pub is_even : Written → Bool
is_even number = number.size % 2 == 0

-- whether a number fits its field
abbrev pub fits_field : Field → Written → Bool
fits_field field.Immediate number = is_signed_below 2048 number
fits_field field.Amount number = is_below 32 number
fits_field field.Upper number = is_below 0x100000 number
fits_field field.FenceSet number = is_below 16 number
fits_field field.Csr number = not number.minus && is_csr number.size
fits_field field.Word number = is_below 0x1_0000_0000 number
fits_field field.Branch number = is_signed_below 4096 number && is_even number
fits_field field.Jump number = is_signed_below 0x100000 number && is_even number

-- a number as a word of 32 bits
abbrev pub word_of_number : Written → ℕ
word_of_number number = if number.minus then (2 ^ 32 - number.size) % 2 ^ 32 else number.size

-- a statement and one operand more, which is a word, a number for a field, or a label
abbrev pub with_word : Statement → ℕ → Statement
with_word s word = record s { operands = with_operand s.operands word }

abbrev pub first_of_both : Option ℕ → ℕ → Option ℕ
first_of_both (Some earlier) later = Some earlier
first_of_both None later = Some later

abbrev pub with_number : Field → ℕ → Statement → Written → Statement
with_number f left s number =
    if fits_field f number then with_word s (word_of_number number)
    else record s { misfit = first_of_both s.misfit left }

abbrev pub with_target : Statement → List ℕ → Statement
with_target s bytes = record s { target = Some (record { left = length bytes; len = prefix_len is_in_name bytes }) }

abbrev pub field_at : Field → Statement → List ℕ → Read Statement
field_at f s bytes = number_at bytes >>= λ (number, rest). Ok (with_number f (length bytes) s number, rest)

abbrev pub place_at : Field → Statement → List ℕ → Read Statement
place_at f s bytes =
    if begins_name (slice_index bytes 0) then Ok (with_target s bytes, drop (prefix_len is_in_name bytes) bytes)
    else field_at f s bytes

-- a part of a statement
unfoldable pub part_at : Part → Statement → List ℕ → Read Statement
part_at Register s bytes = register_at bytes >>= λ (register, rest). Ok (with_word s register, rest)
part_at (Number f) s bytes = field_at f s bytes
part_at (Place f) s bytes = place_at f s bytes
part_at Comma s bytes = mark_at 44 s bytes
part_at Open s bytes = mark_at 40 s bytes
part_at Close s bytes = mark_at 41 s bytes

-- parts in order, with blanks before each
unfoldable pub parts_at : List Part → Statement → List ℕ → Read Statement
parts_at [] s bytes = Ok (s, bytes)
parts_at (part ∷ parts) s bytes = part_at part s (past_blanks bytes) >>= λ (more, rest). parts_at parts more rest

-- a statement before its parts are read
abbrev pub bare : Mnemonic → Statement
bare m = record { mnemonic = m; operands = three 0 0 0; misfit = None; target = None }

abbrev pub operands_at : Mnemonic → List ℕ → Read Statement
operands_at m bytes = parts_at (parts_of (form_of m)) (bare m) bytes

-- the mnemonic that a word is
unfoldable pub mnemonic_named : List ℕ → Option Mnemonic
mnemonic_named word = find (λ m. bytes_eq (name_of m) word) all_mnemonics

-- how many bytes of a word begin a mnemonic, at most
unfoldable pub known_bytes : List ℕ → List Mnemonic → ℕ
known_bytes word [] = 0
known_bytes word (m ∷ more) = max (common_prefix_len nat_eq (name_of m) word) (known_bytes word more)

-- how many bytes a word has: letters, digits and `_`, perhaps with a `.` in front
abbrev pub word_len : List ℕ → ℕ
word_len bytes = if slice_index bytes 0 == 46 then prefix_len is_in_name (drop 1 bytes) + 1 else prefix_len is_in_name bytes

abbrev pub operands_or_refused : Option Mnemonic → ℕ → List ℕ → Read Statement
operands_or_refused (Some m) left behind = operands_at m behind
operands_or_refused None left behind = Err left

-- a statement: the word at the front, which is a mnemonic, and its operands
unfoldable pub statement_at : List ℕ → Read Statement
statement_at bytes =
    let word = take (word_len bytes) bytes in
    operands_or_refused (mnemonic_named word) (length bytes - known_bytes word all_mnemonics) (drop (word_len bytes) bytes)

-- whether a line ends here: nothing but a comment is left
abbrev pub ends : List ℕ → Bool
ends bytes = length bytes == 0 || slice_index bytes 0 == 35

-- a line with all that was read, if it ends here
unfoldable pub ended : Option Span → Option Statement → List ℕ → Result Line ℕ
ended label statement bytes =
    if ends (past_blanks bytes) then Ok (record { label = label; statement = statement }) else Err (length (past_blanks bytes))

abbrev pub with_statement : Option Span → Statement × List ℕ → Result Line ℕ
with_statement label (statement, rest) = ended label (Some statement) rest

-- what may stand behind a label, and behind the blanks of a line that begins with no name
unfoldable pub rest_of_line : Option Span → List ℕ → Result Line ℕ
rest_of_line label bytes =
    if ends (past_blanks bytes) then Ok (record { label = label; statement = None })
    else statement_at (past_blanks bytes) >>= with_statement label

-- A line that begins with a name. It is a label where a `:` stands behind it, and else a mnemonic; any name may still
-- become a label.
unfoldable pub named_line : List ℕ → Result Line ℕ
named_line bytes =
    let n = prefix_len is_in_name bytes in
    let behind = past_blanks (drop n bytes) in
    if slice_index behind 0 == 58
    then rest_of_line (Some (record { left = length bytes; len = n })) (drop 1 behind)
    else operands_or_refused (mnemonic_named (take n bytes)) (length behind) (drop n bytes) >>= with_statement None

-- what a line says
unfoldable pub line_of : List ℕ → Result Line ℕ
line_of line =
    if begins_name (slice_index (past_blanks line) 0) then named_line (past_blanks line) else rest_of_line None line
