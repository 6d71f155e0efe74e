use Rattle.std.specs.Prelude.{ℕ, ◌+◌, ◌*◌, ◌/◌, List, [], ◌∷◌, ◌++◌, length, map, take, drop, slice_index_or, codes}
use Rattle.std.specs.List.{flat_map, range_with_len}
use Rattle.std.specs.Fmt.{decimal, signed_decimal}
use Rattle.vx_base.specs.Values.{signed_of}
use Rattle.vx_run.specs.Lines.{newline}
use Rattle.first_kernels.specs.FirstValues.{words_at}
use Rattle.vx_words.specs.declared.run_words.BufWord.{BufWord}
use Rattle.vx_words.specs.declared.run_words.RunWords.{RunWords}

-- an int as it is printed
abbrev pub int_text : ℕ → List ℕ
int_text word = signed_decimal (signed_of word)

-- further ints on a line, each behind a space
abbrev pub rest_text : List ℕ → List ℕ
rest_text words = flat_map (λ w. codes " " ++ int_text w) words

-- ints on a line
abbrev pub row_text : List ℕ → List ℕ
row_text [] = newline
row_text (w ∷ ws) = int_text w ++ rest_text ws ++ newline

-- a line of elements: 16 of them, or those that are left
abbrev pub line_at : List ℕ → ℕ → List ℕ
line_at words line = row_text (take 16 (drop (16 * line) words))

-- the elements of a buffer, 16 on a line
abbrev pub elements_text : List ℕ → List ℕ
elements_text words = flat_map (line_at words) (range_with_len 0 ((length words + 15) / 16))

-- the line above them: the buffer's name, its type and how many elements it has
abbrev pub head_text : List ℕ → ℕ → List ℕ
head_text name count = name ++ codes " int " ++ decimal count ++ newline

-- a buffer of ints
abbrev pub buffer_text : List ℕ → List ℕ → List ℕ
buffer_text name words = head_text name (length words) ++ elements_text words

-- the name of a buffer
abbrev pub name_of : List BufWord → ℕ → List ℕ
name_of buffers b = slice_index_or (map (λ w. w.name) buffers) b []

-- the elements of a buffer, by the bytes of all buffers
abbrev pub words_of : ℕ → (ℕ → ℕ → ℕ) → ℕ → List ℕ
words_of items bytes b = map (λ item. words_at bytes item b) (range_with_len 0 items)

-- the buffers that are to be printed, in order, with these bytes
abbrev pub output_text : RunWords → (ℕ → ℕ → ℕ) → List ℕ
output_text c bytes = flat_map (λ b. buffer_text (name_of c.buffers b) (words_of c.items bytes b)) c.shows
