-- What is said of the words of a kernel: they stand block by block, each jump leads to the first word of a block, and each word is read as the
-- instruction that it was made of.
use Rattle.std.specs.Prelude.{◌≡◌, ℕ, ◌+◌, ◌≤◌, Bool, true, false, List, ◌∷◌, drop, length, map, slice_get, Some}
use Rattle.item_acts.specs.declared.acts.Place.{Place}
use Rattle.vx_isa.specs.Effects.{address_at}
use Rattle.vx_isa.specs.Rows.{row_of}
use Rattle.vx_isa.specs.Warps.{Registers}
use Rattle.vx_isa.specs.Words.{Fits, word_of}
use Rattle.vx_isa.specs.declared.instr.Instr.{Instr}
use Rattle.vcode.specs.Code.{VOp, Fresh}
use Rattle.vcode.specs.Machine.{Around, Lane, step}
use Rattle.vcode.specs.Words.{op_words, words}
use Rattle.simt_lowering.specs.Bounds.{AreWithin}
use Rattle.reg_alloc.specs.Alone.{Setting, image_lane, image_step}
use Rattle.reg_alloc.specs.Blocks.{address_of_word, block, distance}
use Rattle.reg_alloc.specs.Keeping.{AreWords, AsksBare, IsSettingOf, Passes, RunsClean, around_in, first_needs}
use Rattle.reg_alloc.specs.Layout.{block_onto, instrs_from, instrs_of, word_of_place, words_of}

-- The block of each operation stands where its place begins, and the blocks of the operations behind it stand behind it.
abbrev pub BlocksStand : Type 0
BlocksStand = (slots : ℕ) (ops rest : List VOp) (op : VOp) (p : ℕ) → drop p ops ≡ op ∷ rest
    → drop (word_of_place ops p) (instrs_of slots ops)
    ≡ block_onto (block slots (word_of_place ops) (op_words op + word_of_place ops p) op)
    (instrs_from slots (word_of_place ops) (op_words op + word_of_place ops p) rest)

-- in words, the block of each operation stands where its place begins
abbrev pub StandIn : ℕ → List VOp → List ℕ → Type 0
StandIn slots ops ws = (rest : List VOp) (op : VOp) (p : ℕ) → drop p ops ≡ op ∷ rest
    → drop (word_of_place ops p) ws
    ≡ map word_of (block_onto (block slots (word_of_place ops) (op_words op + word_of_place ops p) op)
    (instrs_from slots (word_of_place ops) (op_words op + word_of_place ops p) rest))

-- there are as many words as the operations come to
abbrev pub WordsAreCounted : Type 0
WordsAreCounted = (slots : ℕ) (ops : List VOp) → length (words_of slots ops) ≡ words ops

-- no place begins behind the last word
abbrev pub PlacesAreWithin : Type 0
PlacesAreWithin = (ops : List VOp) (p : ℕ) → word_of_place ops p ≤ words ops

-- a jump from a word leads to the address of the word that it is made for, where both are among the first 65,536 or just behind them
abbrev pub JumpsLand : Type 0
JumpsLand = (from to : ℕ) → from ≤ 65536 → to ≤ 65536 → address_at (address_of_word from) (distance from to) ≡ address_of_word to

-- Each word is read as the instruction that it was made of, of at most 256 registers and 65,536 words.
abbrev pub WordsDecode : Type 0
WordsDecode = (slots : ℕ) (ops : List VOp) → slots ≤ 256 → AreWithin slots ops → words ops ≤ 65536
    → (k : ℕ) (i : Instr) → slice_get (instrs_of slots ops) k ≡ Some i → Fits i × (row_of (word_of i) ≡ Some i)

-- A lane alone at the words of at most 256 registers and 65,536 words asks for what the lane of the code asks for, and for nothing else, a barrier's
-- turns left out: from each place, with any registers and any frame, if the lane of the code runs clean from there.
abbrev pub LanesAreKept : Type 0
LanesAreKept = (slots : ℕ) (ops : List VOp) → slots ≤ 256 → AreWithin slots ops → words ops ≤ 65536
    → (k : Setting) (place : ℕ → Place) → IsSettingOf slots ops k → (s : Lane) → AreWords s.numbers → RunsClean k place ops s
    → (registers : Registers) (frame : ℕ → ℕ)
    → AsksBare (step (around_in k place) ops) (image_step k) s (image_lane (address_of_word (word_of_place ops s.place)) registers frame s.numbers)

-- a lane that begins where a warp may begin has passed such a place before it uses an address that is found there
abbrev pub BasedFromBegin : Type 0
BasedFromBegin = (at : Around) (ops rest : List VOp) (s : Lane) → drop s.place ops ≡ Fresh ∷ rest
    → (n : ℕ) (t : Lane) (based : Bool) → Passes at ops n s false t based → first_needs (drop t.place ops) ≡ true → based ≡ true
