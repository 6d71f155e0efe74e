-- When the lanes of a kernel, each alone at the kernel's machine words, do as its items in the source.
use Rattle.std.specs.Prelude.{◌≡◌, ℕ, List, slice_get, Some}
use Rattle.item_acts.specs.declared.acts.Action.{Action}
use Rattle.item_acts.specs.Machine.{Step, Asks}
use Rattle.ocl_program.specs.Nodes.{FunctionNode}
use Rattle.ocl_sem.specs.Items.{item_start, item_step}
use Rattle.ocl_sem.specs.Settings.{setting_of}
use Rattle.vx_isa.specs.Warps.{Registers}
use Rattle.vx_isa.specs.declared.image.Site.{Site}
use Rattle.vcode.specs.Code.{VOp}
use Rattle.vx_layout.specs.Addresses.{frame_of, where_at}
use Rattle.vx_layout.specs.Blocks.{block_of}
use Rattle.vx_layout.specs.Launching.{Plan, Accepted, map_of}
use Rattle.simt_lowering.specs.Laid.{HasLane}
use Rattle.simt_lowering.specs.Runs.{Begins}
use Rattle.lane_kernels.specs.Source.{IsLaunchOf}
use Rattle.reg_alloc.specs.Alone.{Setting, image_lane, image_step}
use Rattle.reg_alloc.specs.Blocks.{address_of_word}
use Rattle.reg_alloc.specs.Keeping.{AreWords, AsksBare}
use Rattle.reg_alloc.specs.Layout.{word_of_place}

-- What stands around a lane of a launch: the words and their checks, the launch block of its group, and what each address names to it.
abbrev pub setting_at : List ℕ → List Site → Plan → ℕ → ℕ → ℕ → Setting
setting_at words sites p group warp number = record {
  words = words;
  sites = sites;
  block = block_of p group;
  warp = warp;
  number = number;
  at = where_at (map_of p) group (frame_of warp p.lanes number p.slots) p.slots;
}

-- nothing is asked for after these answers
abbrev pub IsSilent : {S : Type 0} → (S → Step S) → S → List ℕ → Type 0
IsSilent step s answers = (a : Action) → Asks step s answers a → ⊥

-- The second machine asks for what words hold of what the first asks for, and for nothing exactly where that asks for nothing.
pub record AsksTheSame {S T : Type 0} (first : S → Step S) (second : T → Step T) (s : S) (t : T) : Type 0 where
  pub asks : AsksBare first second s t
  pub silent : (answers : List ℕ) → IsSilent first s answers → IsSilent second t answers
  pub only : (answers : List ℕ) → IsSilent second t answers → IsSilent first s answers

-- The lane alone asks for what the item asks for in the source, whatever the answers are, a barrier's turns left out (`bare`). It does so from the
-- first word of each place at which a lane may begin, with any registers and any frame, whatever words the control registers of the core and of
-- the mask answer.
abbrev pub AsksAsItem : List FunctionNode → FunctionNode → List VOp → Plan → ℕ → Setting → Type 0
AsksAsItem program kernel ops p item k = (q : ℕ) → Begins q → (registers : Registers) (frame : ℕ → ℕ) (numbers : List ℕ) → AreWords numbers
    → AsksTheSame (item_step program (setting_of kernel p.range p.bounds item)) (image_step k) (item_start program kernel p.bounds) (image_lane (address_of_word (word_of_place ops q)) registers frame numbers)

-- In each accepted launch of function `number` whose frames have so many words, so does the lane of each item.
abbrev pub WordsDoAsSource : List FunctionNode → ℕ → List VOp → List ℕ → List Site → ℕ → Type 0
WordsDoAsSource program number ops words sites slots = (kernel : FunctionNode) → slice_get program number ≡ Some kernel
    → (p : Plan) → Accepted p → IsLaunchOf kernel p → p.slots ≡ slots → (item group warp lane : ℕ) → HasLane p item group warp lane
    → AsksAsItem program kernel ops p item (setting_at words sites p group warp lane)
