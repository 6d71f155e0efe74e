-- Laws of the fields and the immediates of a word: a word is made of its fields, and a word that is made of fields has them.
use Rattle.std.proofs.Common.{◌≡◌, ℕ, ◌^◌, ◌<◌, true, ◌&&◌, arith}
use Rattle.vx_isa.specs.Words.{r_word, i_word, s_word, b_word, u_word, j_word, are_registers, fits_signed, fits_branch, fits_upper, is_register, is_place}
use Rattle.vx_isa.specs.Rows.{opcode_field, rd_field, funct3_field, rs1_field, rs2_field, funct7_field, i_imm, s_imm, b_imm, u_imm, j_imm}

-- a word is made of its fields, in each format
module _ (w : ℕ) (small : w < 2 ^ 32) where
  pub r_whole : r_word (opcode_field w) (funct3_field w) (funct7_field w) (rd_field w) (rs1_field w) (rs2_field w) ≡ w
  r_whole = omega arith

  pub i_whole : i_word (opcode_field w) (funct3_field w) (rd_field w) (rs1_field w) (i_imm w) ≡ w
  i_whole = grind arith

  pub s_whole : s_word (opcode_field w) (funct3_field w) (rs1_field w) (rs2_field w) (s_imm w) ≡ w
  s_whole = grind arith

  pub b_whole : b_word (opcode_field w) (funct3_field w) (rs1_field w) (rs2_field w) (b_imm w) ≡ w
  b_whole = grind arith

  pub u_whole : u_word (opcode_field w) (rd_field w) (u_imm w) ≡ w
  u_whole = omega arith

  pub j_whole : j_word (opcode_field w) (rd_field w) (j_imm w) ≡ w
  j_whole = grind arith

-- the fields of a word are in range
module _ (w : ℕ) where
  pub r_fits : are_registers (rd_field w) (rs1_field w) (rs2_field w) ≡ true
  r_fits = grind arith

  pub i_fits : fits_signed (rd_field w) (rs1_field w) (i_imm w) ≡ true
  i_fits = grind arith

  pub s_fits : fits_signed (rs1_field w) (rs2_field w) (s_imm w) ≡ true
  s_fits = grind arith

  pub b_fits : fits_branch (rs1_field w) (rs2_field w) (b_imm w) ≡ true
  b_fits = grind arith

  pub u_fits : fits_upper (rd_field w) (u_imm w) ≡ true
  u_fits = grind arith

  pub j_fits : (is_register (rd_field w) && is_place 21 (j_imm w)) ≡ true
  j_fits = grind arith

-- the fields of a word that is made of fields
module _ (opcode rd funct3 rs1 rs2 funct7 : ℕ) (opcode_small : opcode < 128) (rd_small : rd < 32) (funct3_small : funct3 < 8) (rs1_small : rs1 < 32) (rs2_small : rs2 < 32) (funct7_small : funct7 < 128) where
  pub r_small : r_word opcode funct3 funct7 rd rs1 rs2 < 2 ^ 32
  r_small = omega arith

  pub r_opcode : opcode_field (r_word opcode funct3 funct7 rd rs1 rs2) ≡ opcode
  r_opcode = omega arith

  pub r_rd : rd_field (r_word opcode funct3 funct7 rd rs1 rs2) ≡ rd
  r_rd = omega arith

  pub r_funct3 : funct3_field (r_word opcode funct3 funct7 rd rs1 rs2) ≡ funct3
  r_funct3 = omega arith

  pub r_rs1 : rs1_field (r_word opcode funct3 funct7 rd rs1 rs2) ≡ rs1
  r_rs1 = omega arith

  pub r_rs2 : rs2_field (r_word opcode funct3 funct7 rd rs1 rs2) ≡ rs2
  r_rs2 = omega arith

  pub r_funct7 : funct7_field (r_word opcode funct3 funct7 rd rs1 rs2) ≡ funct7
  r_funct7 = omega arith

module _ (opcode funct3 rd rs1 imm : ℕ) (opcode_small : opcode < 128) (funct3_small : funct3 < 8) (fits : fits_signed rd rs1 imm ≡ true) where
  pub i_small : i_word opcode funct3 rd rs1 imm < 2 ^ 32
  i_small = grind arith

  pub i_opcode : opcode_field (i_word opcode funct3 rd rs1 imm) ≡ opcode
  i_opcode = grind arith

  pub i_rd : rd_field (i_word opcode funct3 rd rs1 imm) ≡ rd
  i_rd = grind arith

  pub i_funct3 : funct3_field (i_word opcode funct3 rd rs1 imm) ≡ funct3
  i_funct3 = grind arith

  pub i_rs1 : rs1_field (i_word opcode funct3 rd rs1 imm) ≡ rs1
  i_rs1 = grind arith

  pub i_imm_back : i_imm (i_word opcode funct3 rd rs1 imm) ≡ imm
  i_imm_back = grind arith

module _ (opcode funct3 rs1 rs2 imm : ℕ) (opcode_small : opcode < 128) (funct3_small : funct3 < 8) (fits : fits_signed rs1 rs2 imm ≡ true) where
  pub s_small : s_word opcode funct3 rs1 rs2 imm < 2 ^ 32
  s_small = grind arith

  pub s_opcode : opcode_field (s_word opcode funct3 rs1 rs2 imm) ≡ opcode
  s_opcode = grind arith

  pub s_funct3 : funct3_field (s_word opcode funct3 rs1 rs2 imm) ≡ funct3
  s_funct3 = grind arith

  pub s_rs1 : rs1_field (s_word opcode funct3 rs1 rs2 imm) ≡ rs1
  s_rs1 = grind arith

  pub s_rs2 : rs2_field (s_word opcode funct3 rs1 rs2 imm) ≡ rs2
  s_rs2 = grind arith

  pub s_imm_back : s_imm (s_word opcode funct3 rs1 rs2 imm) ≡ imm
  s_imm_back = grind arith

module _ (opcode funct3 rs1 rs2 imm : ℕ) (opcode_small : opcode < 128) (funct3_small : funct3 < 8) (fits : fits_branch rs1 rs2 imm ≡ true) where
  pub b_small : b_word opcode funct3 rs1 rs2 imm < 2 ^ 32
  b_small = grind arith

  pub b_opcode : opcode_field (b_word opcode funct3 rs1 rs2 imm) ≡ opcode
  b_opcode = grind arith

  pub b_funct3 : funct3_field (b_word opcode funct3 rs1 rs2 imm) ≡ funct3
  b_funct3 = grind arith

  pub b_rs1 : rs1_field (b_word opcode funct3 rs1 rs2 imm) ≡ rs1
  b_rs1 = grind arith

  pub b_rs2 : rs2_field (b_word opcode funct3 rs1 rs2 imm) ≡ rs2
  b_rs2 = grind arith

  pub b_imm_back : b_imm (b_word opcode funct3 rs1 rs2 imm) ≡ imm
  b_imm_back = grind arith

module _ (opcode rd imm : ℕ) (opcode_small : opcode < 128) (fits : fits_upper rd imm ≡ true) where
  pub u_small : u_word opcode rd imm < 2 ^ 32
  u_small = grind arith

  pub u_opcode : opcode_field (u_word opcode rd imm) ≡ opcode
  u_opcode = grind arith

  pub u_rd : rd_field (u_word opcode rd imm) ≡ rd
  u_rd = grind arith

  pub u_imm_back : u_imm (u_word opcode rd imm) ≡ imm
  u_imm_back = grind arith

module _ (opcode rd imm : ℕ) (opcode_small : opcode < 128) (fits : (is_register rd && is_place 21 imm) ≡ true) where
  pub j_small : j_word opcode rd imm < 2 ^ 32
  j_small = grind arith

  pub j_opcode : opcode_field (j_word opcode rd imm) ≡ opcode
  j_opcode = grind arith

  pub j_rd : rd_field (j_word opcode rd imm) ≡ rd
  j_rd = grind arith

  pub j_imm_back : j_imm (j_word opcode rd imm) ≡ imm
  j_imm_back = grind arith
