-- Worked words of the table, by the definitions: the row, its word, and the row of the word.
use Rattle.std.proofs.Common.{◌≡◌, Some, None, refl}
use Rattle.vx_isa.specs.Words.{word_of}
use Rattle.vx_isa.specs.Rows.{row_of}
use Rattle.vx_isa.specs.declared.instr.Instr.TheVariants.{Addi, Mul, Beq, Jal, Sw, Lui, Srai, Fence, Ebreak, Csrr, Tmc, Wspawn, Split, Join, Bar, Pred}

addi_word : word_of (Addi 1 0 5) ≡ 0x00500093
addi_word = refl

addi_row : row_of 0x00500093 ≡ Some (Addi 1 0 5)
addi_row = refl

mul_word : word_of (Mul 3 1 2) ≡ 0x022081b3
mul_word = refl

mul_row : row_of 0x022081b3 ≡ Some (Mul 3 1 2)
mul_row = refl

-- an assembler of the standard rows gives these words
beq_word : word_of (Beq 5 6 0xfffff000) ≡ 0x80628063
beq_word = refl

beq_row : row_of 0x80628063 ≡ Some (Beq 5 6 0xfffff000)
beq_row = refl

jal_word : word_of (Jal 1 2730) ≡ 0x2ab000ef
jal_word = refl

jal_row : row_of 0x2ab000ef ≡ Some (Jal 1 2730)
jal_row = refl

sw_word : word_of (Sw 10 0xfffff800 11) ≡ 0x80a5a023
sw_word = refl

sw_row : row_of 0x80a5a023 ≡ Some (Sw 10 0xfffff800 11)
sw_row = refl

lui_row : row_of 0xfffff2b7 ≡ Some (Lui 5 0xfffff)
lui_row = refl

srai_row : row_of 0x4018d813 ≡ Some (Srai 16 17 1)
srai_row = refl

fence_row : row_of 0x0ff0000f ≡ Some (Fence 15 15)
fence_row = refl

ebreak_row : row_of 0x00100073 ≡ Some Ebreak
ebreak_row = refl

csrr_row : row_of 0xcc4022f3 ≡ Some (Csrr 5 0xcc4)
csrr_row = refl

tmc_row : row_of 0x0000000b ≡ Some (Tmc 0)
tmc_row = refl

wspawn_row : row_of 0x0062900b ≡ Some (Wspawn 5 6)
wspawn_row = refl

split_row : row_of 0x0002a00b ≡ Some (Split 5)
split_row = refl

join_row : row_of 0x0000300b ≡ Some Join
join_row = refl

bar_row : row_of 0x0073400b ≡ Some (Bar 6 7)
bar_row = refl

pred_row : row_of 0x0062d00b ≡ Some (Pred 5 6)
pred_row = refl

-- words with a bit set in an unused field
tmc_with_rd : row_of 0x0000008b ≡ None
tmc_with_rd = refl

join_with_rs1 : row_of 0x0000b00b ≡ None
join_with_rs1 = refl

fence_tso : row_of 0x8330000f ≡ None
fence_tso = refl

csrr_with_rs1 : row_of 0xcc42a2f3 ≡ None
csrr_with_rs1 = refl
