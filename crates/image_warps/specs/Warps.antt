-- Where a warp stands in the words of its operations, and the warp at the words, written as a function of the warp of the code.
use Rattle.std.specs.Prelude.{◌≡◌, ℕ, ◌+◌, ◌<◌, true, false, List, [], ◌∷◌, ◌++◌, drop, length, map, ◌-◌}
use Rattle.vx_isa.specs.Warps.{Registers, WarpState, has_lane}
use Rattle.vx_isa.specs.WarpSteps.{Stepped, warp_step}
use Rattle.vx_isa.specs.declared.instr.Instr.{Instr}
use Rattle.vx_isa.specs.declared.warps.Held.{Held as Entry}
use Rattle.vx_isa.specs.declared.warps.Held.TheVariants.{Restore, Else}
use Rattle.vx_isa.specs.declared.warps.Step.{Step}
use Rattle.vx_isa.specs.declared.warps.Step.TheVariants as step
use Rattle.vcode.specs.Code.{VOp}
use Rattle.vcode.specs.Words.{op_words}
use Rattle.warp_code.specs.Warps.{VWarp, around_of}
use Rattle.reg_alloc.specs.Plain.{Held, Plain, PutSlot, do_all, does, held, instr_of, made}
use Rattle.reg_alloc.specs.Blocks.{address_of_word, block, jump}
use Rattle.reg_alloc.specs.Layout.{instrs_of, word_of_place, words_of}
use Rattle.image_warps.specs.Lanes.{Ground, Known, Same}

-- ---- the warp, written

-- the address of a place: that of the first word of its block
abbrev pub address_of_place : List VOp → ℕ → ℕ
address_of_place ops q = address_of_word (word_of_place ops q)

-- an entry of the stack, and how a step ends, with addresses for places
abbrev pub entry_at : List VOp → Entry → Entry
entry_at ops (Restore mask) = Restore mask
entry_at ops (Else mask q) = Else mask (address_of_place ops q)

abbrev pub outcome_at : List VOp → Step → Step
outcome_at ops (step.Spawn count q) = step.Spawn count (address_of_place ops q)
outcome_at ops (step.Trap fault lane q) = step.Trap fault lane (address_of_place ops q)
outcome_at ops other = other

-- the warp before word k, with these registers of its lanes
abbrev pub image_warp : List VOp → ℕ → VWarp → (ℕ → Registers) → WarpState
image_warp ops k w xs = record { pc = address_of_word k; mask = w.mask; registers = xs; stack = map (entry_at ops) w.stack }

-- one step of it
abbrev pub image_step : Ground → List VOp → (ℕ → ℕ) → ℕ → VWarp → (ℕ → Registers) → Stepped
image_step g ops answers k w xs = warp_step g.has g.crew.ids (words_of g.slots ops) answers (image_warp ops k w xs)

-- ---- where it stands

-- In the block of its next operation, behind these words that compute; or the operation is made, and left of its block is the word that stores
-- its result in a slot, or the jump to the place that the warp goes to, which is word k.
pub data Position : Type 0 where
  Along : List Plain → Position
  Storing : ℕ → Position
  Jumping : ℕ → Position

-- the word before which it stands
abbrev pub word_at : List VOp → VWarp → Position → ℕ
word_at ops w (Along done) = word_of_place ops w.place + length done
word_at ops w (Storing d) = word_of_place ops w.place - 1
word_at ops w (Jumping k) = k

abbrev pub block_at : Ground → List VOp → ℕ → VOp → List Plain
block_at g ops p op = (block g.slots (word_of_place ops) (op_words op + word_of_place ops p) op).before

-- the words of the code that are left there
pub record StoreLeft (g : Ground) (ops : List VOp) (w : VWarp) (d : ℕ) : Type 0 where
  pub slot : d < g.slots
  pub some : 0 < word_of_place ops w.place
  pub rest : List Instr
  pub there : drop (word_of_place ops w.place - 1) (instrs_of g.slots ops) ≡ instr_of (PutSlot made d) ∷ rest

pub record JumpLeft (g : Ground) (ops : List VOp) (w : VWarp) (k : ℕ) : Type 0 where
  pub small : k < 65536
  pub rest : List Instr
  pub there : drop k (instrs_of g.slots ops) ≡ jump k (word_of_place ops w.place) ∷ rest

abbrev pub WordsLeft : Ground → List VOp → VWarp → Position → Type 0
WordsLeft g ops w (Along done) = (op : VOp) (rest : List VOp) → drop w.place ops ≡ op ∷ rest → (left : List Plain) × (block_at g ops w.place op ≡ done ++ left)
WordsLeft g ops w (Storing d) = StoreLeft g ops w d
WordsLeft g ops w (Jumping k) = JumpLeft g ops w k

-- ---- its lanes

-- How an active lane stands for the lane of the code: it began the block with registers and a frame that do, and has done these words; it will
-- once its result is stored; it does.
abbrev pub LaneStands : Ground → Position → ℕ → Known → (ℕ → ℕ) → Held → Type 0
LaneStands g (Along done) l k rs h = (from : Held) × (Same g l k rs from × (h ≡ do_all (around_of g.crew l) done from))
LaneStands g (Storing d) l k rs h = (k.based ≡ true) × Same g l k rs (does (around_of g.crew l) (PutSlot made d) h)
LaneStands g (Jumping word) l k rs h = Same g l k rs h

-- The warp of the code is before an operation or behind it, and the warp at the words is this one of it, with the registers and frames of lanes.
pub record Stands (g : Ground) (ops : List VOp) (known : ℕ → Known) (w : VWarp) (at : Position) (xs : ℕ → Registers) (frames : ℕ → ℕ → ℕ) : Type 0 where
  pub left : WordsLeft g ops w at
  pub active : (l : ℕ) → l < 32 → has_lane w.mask l ≡ true → LaneStands g at l (known l) (w.lanes l).registers (held (xs l) (frames l))
  pub idle : (l : ℕ) → l < 32 → has_lane w.mask l ≡ false → Same g l (known l) (w.lanes l).registers (held (xs l) (frames l))
