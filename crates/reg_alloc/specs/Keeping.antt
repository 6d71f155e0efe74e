-- When a lane alone at machine words asks for what a lane of the code asks for, and what words do not hold of it.
use Rattle.std.specs.Prelude.{◌≡◌, ℕ, zero, suc, ◌+◌, ◌*◌, ◌%◌, ◌^◌, ◌<◌, Bool, true, false, List, [], ◌∷◌, drop}
use Rattle.item_acts.specs.declared.acts.Action.{Action}
use Rattle.item_acts.specs.declared.acts.Action.TheVariants.{Load, Store, Barrier, Fault, End}
use Rattle.item_acts.specs.declared.acts.Place.{Place}
use Rattle.item_acts.specs.Machine.{Step, Asks}
use Rattle.kir.specs.Machine.{value}
use Rattle.vx_layout.specs.Addresses.{Block, Own, Array, block_start, block_words, frame_of}
use Rattle.vcode.specs.Code.{VOp, Fresh, Copy, Compute, Cut, Word, WordAt, Learn, Fetch, Write, Bar}
use Rattle.vcode.specs.Machine.{Around, Lane, step}
use Rattle.simt_lowering.specs.InBlock.{FirstInBlock}
use Rattle.simt_lowering.specs.Runs.{Comes, Leads}
use Rattle.simt_lowering.specs.WrittenFirst.{ReadsWritten}
use Rattle.reg_alloc.specs.Alone.{Setting}
use Rattle.reg_alloc.specs.Layout.{sites_of, words_of}

-- ---- what words hold of what a lane asks for

-- Of a barrier they hold its number in the kernel, as a word. In which turns of its loops a lane is there they do not hold.
abbrev pub bare : Action → Action
bare (Load place size) = Load place size
bare (Store place size v) = Store place size v
bare (Barrier point) = Barrier (record { site = point.site % 2 ^ 32; turns = [] })
bare (Fault pos) = Fault pos
bare End = End

-- The second machine asks for what words hold of what the first asks for, and for nothing else.
pub record AsksBare {S T : Type 0} (first : S → Step S) (second : T → Step T) (s : S) (t : T) : Type 0 where
  pub kept : (answers : List ℕ) (a : Action) → Asks first s answers a → Asks second t answers (bare a)
  pub no_more : (answers : List ℕ) (a : Action) → Asks second t answers a → (b : Action) × (Asks first s answers b × (bare b ≡ a))

-- ---- what stands around the two lanes

-- what stands around the lane of the code, where addresses name these bytes of arrays
abbrev pub around_in : Setting → (ℕ → Place) → Around
around_in k place = record { block = k.block; warp = k.warp; number = k.number; place = place }

-- The launch block and the frame of so many words stand at their addresses.
pub record Stands (k : Setting) (slots start : ℕ) : Type 0 where
  pub block_word : (w : ℕ) → w < block_words → k.at (block_start + 4 * w) ≡ Block w
  pub own_word : (r : ℕ) → r < slots → k.at (start + 4 * r) ≡ Own r
  pub small : start + 4 * slots < 2 ^ 32

-- The setting is one of these operations: it has their words and their checks. Its numbers are words, and the lane's frame stands where its
-- number among all lanes of the group puts it, with as many lanes a warp as word 15 of the launch block says.
pub record IsSettingOf (slots : ℕ) (ops : List VOp) (k : Setting) : Type 0 where
  pub words : k.words ≡ words_of slots ops
  pub sites : k.sites ≡ sites_of ops
  pub block_small : (w : ℕ) → w < block_words → k.block w < 2 ^ 32
  pub warp_small : k.warp < 2 ^ 32
  pub number_small : k.number < 2 ^ 32
  pub stands : Stands k slots (frame_of k.warp (k.block 15) k.number slots)

-- each of these numbers is a word
abbrev pub AreWords : List ℕ → Type 0
AreWords [] = Unit {0}
AreWords (n ∷ ns) = (n < 2 ^ 32) × AreWords ns

-- ---- when a lane of the code runs clean

-- whether a place at which a warp may begin has been passed: words that find the addresses of the launch block and of the frame stand there
abbrev pub bases : VOp → Bool → Bool
bases Fresh based = true
bases op based = based

abbrev pub first_bases : List VOp → Bool → Bool
first_bases [] based = based
first_bases (op ∷ ops) based = bases op based

-- Whether the operation uses one of these addresses though it reads no register: it writes one, or it reads how many warps wait.
abbrev pub needs_base : VOp → Bool
needs_base (Copy d a) = true
needs_base (Compute d op a b) = true
needs_base (Cut d elem a) = true
needs_base (Word d k) = true
needs_base (WordAt d a k) = true
needs_base (Learn d csr) = true
needs_base (Fetch d elem a) = true
needs_base (Bar site) = true
needs_base op = false

abbrev pub first_needs : List VOp → Bool
first_needs [] = false
first_needs (op ∷ ops) = needs_base op

-- In so many steps the lane comes from here to there, and may pass such a place on its way.
abbrev pub Passes : Around → List VOp → ℕ → Lane → Bool → Lane → Bool → Type 0
Passes at code zero s based t based' = (s ≡ t) × (based ≡ based')
Passes at code (suc n) s based t based' = (m : Lane) × Leads (step at code s) m × Passes at code n m (first_bases (drop s.place code) based) t based'

-- a load and a store access the byte of an array that the address names to both lanes
abbrev pub OpNamed : Setting → (ℕ → Place) → VOp → (ℕ → ℕ) → Type 0
OpNamed k place (Fetch d elem a) rs = k.at (value rs a) ≡ Array (place (value rs a))
OpNamed k place (Write elem a b) rs = k.at (value rs a) ≡ Array (place (value rs a))
OpNamed k place op rs = Unit {0}

abbrev pub FirstNamed : Setting → (ℕ → Place) → List VOp → (ℕ → ℕ) → Type 0
FirstNamed k place [] rs = Unit {0}
FirstNamed k place (op ∷ ops) rs = OpNamed k place op rs

-- Wherever the lane comes to alone, whatever is answered, its next operation reads only registers that it has written since, words that the launch
-- block has, and bytes of arrays; and it has passed a place at which a warp may begin before it uses an address that is found there.
pub record RunsClean (k : Setting) (place : ℕ → Place) (ops : List VOp) (s : Lane) : Type 0 where
  pub written : ReadsWritten (around_in k place) ops s
  pub in_block : (n : ℕ) (t : Lane) (us : List ℕ) → Comes (around_in k place) ops n s [] t us → FirstInBlock (drop t.place ops) t.registers
  pub named : (n : ℕ) (t : Lane) (us : List ℕ) → Comes (around_in k place) ops n s [] t us → FirstNamed k place (drop t.place ops) t.registers
  pub based : (n : ℕ) (t : Lane) (based' : Bool) → Passes (around_in k place) ops n s false t based' → first_needs (drop t.place ops) ≡ true → based' ≡ true
