use Rattle.std.specs.Prelude.{ℕ, ◌+◌, ◌-◌, ◌*◌, List, ◌++◌, map, replicate}
use Rattle.std.specs.List.{range_with_len}
use Rattle.vx_base.specs.Bytes.{field_of}
use Rattle.first_kernels.specs.FirstMemory.{stride}
use Rattle.vx_run.specs.Output.{buffer_text, name_of}
use Rattle.vx_words.specs.declared.run_words.BufWord.{BufWord}

-- a buffer with the zeros behind it
abbrev pub padded : ℕ → List ℕ → List ℕ
padded items bytes = bytes ++ replicate (stride items - 4 * items) 0

-- the ints that stand one after another from a place on
abbrev pub fields_from : List ℕ → ℕ → ℕ → List ℕ
fields_from memory start count = map (λ k. field_of memory (start + 4 * k) 4) (range_with_len 0 count)

-- the text of a buffer, by the memory
abbrev pub shown_text : List BufWord → ℕ → List ℕ → ℕ → List ℕ
shown_text buffers items memory b = buffer_text (name_of buffers b) (fields_from memory (b * stride items) items)
