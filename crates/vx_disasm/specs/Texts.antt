-- The assembly text of machine words: a line for each.
use Rattle.std.specs.Prelude.{ℕ, List, [], ◌∷◌, ◌++◌, codes, Option, Some, None, false}
use Rattle.std.specs.List.{flat_map}
use Rattle.std.specs.Fmt.{decimal, signed_decimal, digits}
use Rattle.vx_base.specs.Values.{signed_of}
use Rattle.vx_isa.specs.declared.instr.Instr.{Instr}
use Rattle.vx_isa.specs.Rows.{row_of}
use Rattle.asm_text.specs.declared.mnemonics.Form.{Form}
use Rattle.asm_text.specs.declared.mnemonics.Form.TheVariants as form
use Rattle.asm_text.specs.declared.mnemonics.Operands.{Operands}
use Rattle.asm_text.specs.HexLines.{hex_line}
use Rattle.asm_text.specs.Mnemonics.{mnemonic_of, operands_of, name_of, form_of}

-- a word as a signed number
abbrev pub signed : ℕ → List ℕ
signed word = signed_decimal (signed_of word)

-- lower-case digits without zeros in front
abbrev pub hexadecimal : ℕ → List ℕ
hexadecimal n = digits 16 false n

-- pieces of a text one behind the other
abbrev pub joined : List (List ℕ) → List ℕ
joined [] = []
joined (piece ∷ []) = piece
joined (piece ∷ next ∷ more) = piece ++ joined (next ∷ more)

-- What stands behind a mnemonic. A place is a number of bytes.
abbrev pub operands_text : Form → Operands → List ℕ
operands_text form.ThreeRegisters o = joined (codes " x" ∷ decimal o.first ∷ codes ", x" ∷ decimal o.second ∷ codes ", x" ∷ decimal o.third ∷ [])
operands_text form.Immediate o = joined (codes " x" ∷ decimal o.first ∷ codes ", x" ∷ decimal o.second ∷ codes ", " ∷ signed o.third ∷ [])
operands_text form.Shift o = joined (codes " x" ∷ decimal o.first ∷ codes ", x" ∷ decimal o.second ∷ codes ", " ∷ decimal o.third ∷ [])
operands_text form.Memory o = joined (codes " x" ∷ decimal o.first ∷ codes ", " ∷ signed o.second ∷ codes "(x" ∷ decimal o.third ∷ codes ")" ∷ [])
operands_text form.Branch o = joined (codes " x" ∷ decimal o.first ∷ codes ", x" ∷ decimal o.second ∷ codes ", " ∷ signed o.third ∷ [])
operands_text form.Upper o = joined (codes " x" ∷ decimal o.second ∷ codes ", 0x" ∷ hexadecimal o.third ∷ [])
operands_text form.Jump o = joined (codes " x" ∷ decimal o.second ∷ codes ", " ∷ signed o.third ∷ [])
operands_text form.Fence o = joined (codes " " ∷ decimal o.second ∷ codes ", " ∷ decimal o.third ∷ [])
operands_text form.Csr o = joined (codes " x" ∷ decimal o.second ∷ codes ", 0x" ∷ hexadecimal o.third ∷ [])
operands_text form.OneRegister o = joined (codes " x" ∷ decimal o.third ∷ [])
operands_text form.TwoRegisters o = joined (codes " x" ∷ decimal o.second ∷ codes ", x" ∷ decimal o.third ∷ [])
operands_text form.Bare o = []
operands_text form.Word o = joined (codes " 0x" ∷ hexadecimal o.third ∷ [])

-- the line of an instruction
abbrev pub instr_text : Instr → List ℕ
instr_text i = joined (name_of (mnemonic_of i) ∷ operands_text (form_of (mnemonic_of i)) (operands_of i) ∷ codes "\n" ∷ [])

-- the line of a word: its row's, and for a word that spells none the word itself in eight hexadecimal digits
abbrev pub row_text : ℕ → Option Instr → List ℕ
row_text word (Some i) = instr_text i
row_text word None = codes ".word 0x" ++ hex_line word

abbrev pub line_text : ℕ → List ℕ
line_text word = row_text word (row_of word)

abbrev pub lines_text : List ℕ → List ℕ
lines_text words = flat_map line_text words
