-- The lines by which a buffer is printed.
use Rattle.std.specs.Prelude.{ℕ, ◌+◌, ◌-◌, ◌*◌, ◌==◌, nat_lt, min, Bool, true, false, if◌then◌else◌, List, ◌++◌, Option, Some, None, codes}
use Rattle.std.specs.List.{flat_map, range_with_len}
use Rattle.std.specs.Fmt.{decimal, signed_decimal}
use Rattle.vx_base.specs.Bytes.{number_of}
use Rattle.vx_base.specs.Values.{elem_bytes, elem_name, fitted, signed_of}
use Rattle.vx_base.specs.declared.types.Elem.{Elem}
use Rattle.vx_base.specs.declared.types.Elem.TheVariants.{Char, Uchar, Short, Ushort, Int, Uint}
use Rattle.buf_text.specs.Elements.{byte_in}

-- whether numbers of this type have a sign
abbrev pub has_sign : Elem → Bool
has_sign Char = true
has_sign Uchar = false
has_sign Short = true
has_sign Ushort = false
has_sign Int = true
has_sign Uint = false

-- a value of this type as it is printed
abbrev pub value_text : Elem → ℕ → List ℕ
value_text elem v = if has_sign elem then signed_decimal (signed_of (fitted elem v)) else decimal (fitted elem v)

-- the number whose bytes are those of an element that begins at byte `place`, the least significant first
abbrev pub element_in : List ℕ → Elem → ℕ → ℕ
element_in words elem place = number_of (λ k. byte_in words (place + k)) (elem_bytes elem)

-- element k, as it is printed, of a buffer that begins at byte `at`
abbrev pub element_text : List ℕ → Elem → ℕ → ℕ → List ℕ
element_text words elem at k = value_text elem (element_in words elem (at + elem_bytes elem * k))

-- an element behind another on its line
abbrev pub behind_text : List ℕ → Elem → ℕ → ℕ → List ℕ
behind_text words elem at k = codes " " ++ element_text words elem at k

-- the elements on a line of so many, behind the first, which has number `first`
abbrev pub rest_text : List ℕ → Elem → ℕ → ℕ → ℕ → List ℕ
rest_text words elem at first many = flat_map (λ k. behind_text words elem at (first + k)) (range_with_len 1 (many - 1))

-- so many elements on a line, at least one, from the one with number `first` on: one space between two
abbrev pub row_text : List ℕ → Elem → ℕ → ℕ → ℕ → List ℕ
row_text words elem at first many = element_text words elem at first ++ rest_text words elem at first many ++ codes "\n"

-- the first line: the buffer's name, its type and how many elements it has
abbrev pub head_text : List ℕ → Elem → ℕ → List ℕ
head_text name elem count = name ++ codes " " ++ elem_name elem ++ codes " " ++ decimal count ++ codes "\n"

-- line k of a buffer from 0: the first line, and then 16 elements on a line until none is left
abbrev pub line_of : List ℕ → Elem → ℕ → ℕ → List ℕ → ℕ → Option (List ℕ)
line_of name elem count at words k =
    if k == 0 then Some (head_text name elem count)
    else if nat_lt (16 * (k - 1)) count then Some (row_text words elem at (16 * (k - 1)) (min 16 (count - 16 * (k - 1))))
    else None
