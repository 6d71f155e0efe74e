-- What is said of a kernel's words: that its lanes do as the source, of each kernel for which code and words are made.
use Rattle.std.specs.Prelude.{◌≡◌, ℕ, ◌≤◌, List}
use Rattle.ocl_program.specs.Nodes.{FunctionNode}
use Rattle.vx_isa.specs.declared.image.Site.{Site}
use Rattle.vcode.specs.Code.{Code}
use Rattle.vcode.specs.Words.{words as count_of}
use Rattle.simt_lowering.specs.Bounds.{AreWithin}
use Rattle.simt_lowering.specs.InBlock.{ReadBlock}
use Rattle.simt_lowering.specs.WrittenFirst.{AreWrittenFirst}
use Rattle.lane_kernels.specs.Accesses.{AccessArrays}
use Rattle.lane_kernels.specs.Passes.{IsLoweredFrom}
use Rattle.lane_kernels.specs.Source.{LanesDoAsSource}
use Rattle.reg_alloc.specs.Layout.{sites_of, words_of}
use Rattle.image_lanes.specs.Lanes.{WordsDoAsSource}

-- What `lane_kernel` gives of the code of function `number`, by the names of its clauses.
pub record IsLaneCode (program : List FunctionNode) (number : ℕ) (code : Code) : Type 0 where
  pub asks : LanesDoAsSource program number code.ops
  pub passes : IsLoweredFrom program number code
  pub registers : AreWithin code.registers code.ops
  pub written : AreWrittenFirst code.ops
  pub accesses : AccessArrays program number code.ops
  pub block : ReadBlock code.ops

-- What `allocate` gives of the words, the checks and the frames of code that comes to at most 65,536 words.
pub record IsAllocated (code : Code) (made : List ℕ) (checks : List Site) (frame : ℕ) : Type 0 where
  pub fits : count_of code.ops ≤ 65536
  pub words : made ≡ words_of code.registers code.ops
  pub sites : checks ≡ sites_of code.ops
  pub slots : frame ≡ code.registers
  pub small : frame ≤ 256

-- The law: in each accepted launch of a kernel, the lane of each item, alone at the words that are made of the kernel's code, asks for what the item
-- asks for in the source, and for nothing else.
abbrev pub LanesDoAsSourceAtWords : Type 0
LanesDoAsSourceAtWords = (program : List FunctionNode) (number : ℕ) (code : Code) (made : List ℕ) (checks : List Site) (frame : ℕ)
    → IsLaneCode program number code → IsAllocated code made checks frame → WordsDoAsSource program number code.ops made checks frame
