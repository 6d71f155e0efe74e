-- Where the words of each operation stand: block by block, in the order of the operations.
use Rattle.std.specs.Prelude.{ℕ, zero, suc, ◌+◌, ◌*◌, List, [], ◌∷◌, map}
use Rattle.vx_isa.specs.Words.{word_of}
use Rattle.vx_isa.specs.declared.image.Site.{Site}
use Rattle.vx_isa.specs.declared.instr.Instr.{Instr}
use Rattle.vcode.specs.Code.{VOp, Trap}
use Rattle.vcode.specs.Words.{op_words}
use Rattle.reg_alloc.specs.Plain.{Plain, instr_of}
use Rattle.reg_alloc.specs.Blocks.{Block, block}

-- words in front of others
abbrev pub plain_onto : List Plain → List Instr → List Instr
plain_onto [] rest = rest
plain_onto (word ∷ words) rest = instr_of word ∷ plain_onto words rest

abbrev pub onto : List Instr → List Instr → List Instr
onto [] rest = rest
onto (i ∷ is) rest = i ∷ onto is rest

abbrev pub block_onto : Block → List Instr → List Instr
block_onto b rest = plain_onto b.before (onto b.acting (onto b.behind rest))

-- the number of the first word of a place's block; a place behind the last operation is behind the last word
abbrev pub word_of_place : List VOp → ℕ → ℕ
word_of_place [] p = 0
word_of_place (op ∷ ops) zero = 0
word_of_place (op ∷ ops) (suc p) = op_words op + word_of_place ops p

-- the instructions of operations whose first word is word k of the code
abbrev pub instrs_from : ℕ → (ℕ → ℕ) → ℕ → List VOp → List Instr
instrs_from slots starts k [] = []
instrs_from slots starts k (op ∷ ops) = block_onto (block slots starts (op_words op + k) op) (instrs_from slots starts (op_words op + k) ops)

abbrev pub instrs_of : ℕ → List VOp → List Instr
instrs_of slots ops = instrs_from slots (word_of_place ops) 0 ops

-- the machine words of a kernel whose frame has so many words
abbrev pub words_of : ℕ → List VOp → List ℕ
words_of slots ops = map word_of (instrs_of slots ops)

-- the checks: where each stands in the words, in bytes from the first one, and in the source
abbrev pub and_site : ℕ → VOp → List Site → List Site
and_site k (Trap pos) sites = record { pc = 4 * k; pos = pos } ∷ sites
and_site k op sites = sites

abbrev pub sites_from : ℕ → List VOp → List Site
sites_from k [] = []
sites_from k (op ∷ ops) = and_site k op (sites_from (op_words op + k) ops)

abbrev pub sites_of : List VOp → List Site
sites_of ops = sites_from 0 ops
