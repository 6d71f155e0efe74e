-- Blocks stand one behind another.
use Rattle.std.proofs.Common.{◌≡◌, ℕ, zero, suc, ◌+◌, List, [], ◌∷◌, length, drop, map, ap, sym, ◌∙◌, arith, refl}
use Rattle.std.proofs.lemmas.List.{drop-map}
use Rattle.vx_isa.specs.Words.{word_of}
use Rattle.vx_isa.specs.declared.instr.Instr.{Instr}
use Rattle.vcode.specs.Code.{VOp}
use Rattle.vcode.specs.Words.{op_words, words}
use Rattle.reg_alloc.specs.Plain.{Plain, instr_of}
use Rattle.reg_alloc.specs.Blocks.{Block, block}
use Rattle.reg_alloc.specs.Layout.{block_onto, instrs_from, instrs_of, onto, plain_onto, word_of_place, words_of}
use Rattle.reg_alloc.specs.Laws.{StandIn, BlocksStand, JumpsLand, PlacesAreWithin, WordsAreCounted}
use Rattle.reg_alloc.proofs.Sizes.{block_size, size}

-- what stands behind words that are put in front of others
plain_behind : (ws : List Plain) (rest : List Instr) (j : ℕ) → drop (length ws + j) (plain_onto ws rest) ≡ drop j rest
plain_behind [] rest j = let none : 0 + j ≡ j = omega arith in ap (λ n. drop n rest) none
plain_behind (w ∷ ws) rest j =
    let more : suc (length ws) + j ≡ suc (length ws + j) = omega arith in
    ap (λ n. drop n (instr_of w ∷ plain_onto ws rest)) more ∙ plain_behind ws rest j

onto_behind : (is rest : List Instr) (j : ℕ) → drop (length is + j) (onto is rest) ≡ drop j rest
onto_behind [] rest j = let none : 0 + j ≡ j = omega arith in ap (λ n. drop n rest) none
onto_behind (i ∷ is) rest j =
    let more : suc (length is) + j ≡ suc (length is + j) = omega arith in
    ap (λ n. drop n (i ∷ onto is rest)) more ∙ onto_behind is rest j

pub block_behind : (b : Block) (rest : List Instr) (j : ℕ) → drop (size b + j) (block_onto b rest) ≡ drop j rest
block_behind b rest j =
    let e : size b + j ≡ length b.before + (length b.acting + (length b.behind + j)) = omega arith in
    ap (λ n. drop n (block_onto b rest)) e
    ∙ plain_behind b.before (onto b.acting (onto b.behind rest)) (length b.acting + (length b.behind + j))
    ∙ onto_behind b.acting (onto b.behind rest) (length b.behind + j)
    ∙ onto_behind b.behind rest j

-- how many there are then
plain_length : (ws : List Plain) (rest : List Instr) → length (plain_onto ws rest) ≡ length ws + length rest
plain_length [] rest = omega arith
plain_length (w ∷ ws) rest = let h = plain_length ws rest in omega (arith, h)

onto_length : (is rest : List Instr) → length (onto is rest) ≡ length is + length rest
onto_length [] rest = omega arith
onto_length (i ∷ is) rest = let h = onto_length is rest in omega (arith, h)

pub block_length : (b : Block) (rest : List Instr) → length (block_onto b rest) ≡ size b + length rest
block_length b rest =
    let h = plain_length b.before (onto b.acting (onto b.behind rest)) in
    let h' = onto_length b.acting (onto b.behind rest) in
    let h'' = onto_length b.behind rest in
    omega (arith, h, h', h'')

-- the blocks from a word of the code on, at one of their places
stand_from : (slots : ℕ) (starts : ℕ → ℕ) (k : ℕ) (ops rest : List VOp) (op : VOp) (p : ℕ) → drop p ops ≡ op ∷ rest
    → drop (word_of_place ops p) (instrs_from slots starts k ops)
    ≡ block_onto (block slots starts (op_words op + (word_of_place ops p + k)) op) (instrs_from slots starts (op_words op + (word_of_place ops p + k)) rest)
stand_from slots starts k [] rest op zero e = absurd (cc)
stand_from slots starts k [] rest op (suc p) e = absurd (cc)
stand_from slots starts k (x ∷ ops) rest op zero e =
    let none : k ≡ 0 + k = omega arith in
    ap (λ c. instrs_from slots starts k c) e
    ∙ ap (λ n. block_onto (block slots starts (op_words op + n) op) (instrs_from slots starts (op_words op + n) rest)) none
stand_from slots starts k (x ∷ ops) rest op (suc p) e =
    let later = instrs_from slots starts (op_words x + k) ops in
    let b = block slots starts (op_words x + k) x in
    let q = word_of_place ops p in
    let same : size b + q ≡ op_words x + q = ap (λ n. n + q) (block_size slots starts (op_words x + k) x) in
    let shift : q + (op_words x + k) ≡ op_words x + q + k = omega arith in
    ap (λ n. drop n (block_onto b later)) (sym same) ∙ block_behind b later q
    ∙ stand_from slots starts (op_words x + k) ops rest op p e
    ∙ ap (λ n. block_onto (block slots starts (op_words op + n) op) (instrs_from slots starts (op_words op + n) rest)) shift

pub blocks_stand : BlocksStand
blocks_stand slots ops rest op p e =
    let h = stand_from slots (word_of_place ops) 0 ops rest op p e in
    let none : word_of_place ops p + 0 ≡ word_of_place ops p = omega arith in
    h ∙ ap (λ n. block_onto (block slots (word_of_place ops) (op_words op + n) op) (instrs_from slots (word_of_place ops) (op_words op + n) rest)) none

pub words_stand : (slots : ℕ) (ops : List VOp) → StandIn slots ops (words_of slots ops)
words_stand slots ops rest op p e = drop-map word_of (word_of_place ops p) (instrs_of slots ops) ∙ ap (map word_of) (blocks_stand slots ops rest op p e)

count_from : (slots : ℕ) (starts : ℕ → ℕ) (k : ℕ) (ops : List VOp) → length (instrs_from slots starts k ops) ≡ words ops
count_from slots starts k [] = refl
count_from slots starts k (op ∷ ops) =
    let h = block_length (block slots starts (op_words op + k) op) (instrs_from slots starts (op_words op + k) ops) in
    let h' = block_size slots starts (op_words op + k) op in
    let h'' = count_from slots starts (op_words op + k) ops in
    omega (arith, h, h', h'')

pub instrs_counted : (slots : ℕ) (ops : List VOp) → length (instrs_of slots ops) ≡ words ops
instrs_counted slots ops = count_from slots (word_of_place ops) 0 ops

map_length : (is : List Instr) → length (map word_of is) ≡ length is
map_length [] = refl
map_length (i ∷ is) = ap suc (map_length is)

pub words_are_counted : WordsAreCounted
words_are_counted slots ops = map_length (instrs_of slots ops) ∙ instrs_counted slots ops

pub places_are_within : PlacesAreWithin
places_are_within [] p = omega arith
places_are_within (op ∷ ops) zero = omega arith
places_are_within (op ∷ ops) (suc p) = let h = places_are_within ops p in omega (arith, h)

pub jumps_land : JumpsLand
jumps_land from to near near' = omega arith
