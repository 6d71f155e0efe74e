-- What an image of a kernel is.
use Rattle.std.specs.Prelude.{◌≡◌, ℕ, ◌≤◌, List, length, map, slice_get, Some}
use Rattle.ocl_program.specs.Nodes.{FunctionNode}
use Rattle.ocl_types.specs.Functions.{kernel_from}
use Rattle.vcode.specs.Code.{VOp}
use Rattle.vx_isa.specs.Rows.{row_of}
use Rattle.vx_isa.specs.declared.image.Image.{Image}
use Rattle.simt_lowering.specs.Laid.{array_bytes, kind_of}
use Rattle.lane_kernels.specs.Sizes.{most_words}
use Rattle.lane_kernels.specs.Source.{LanesDoAsSource}
use Rattle.reg_alloc.specs.Layout.{instrs_of, sites_of, words_of}
use Rattle.image_lanes.specs.Lanes.{WordsDoAsSource}

-- The image is of function `number`, a kernel. It has the words of code whose lanes do as the kernel's items, each of which is an instruction, and
-- the places of its checks; a frame of at most 256 words for each lane; and the kernel's parameters and `__local` arrays. Also each lane alone at the
-- words does as its item.
pub record IsImageOf (program : List FunctionNode) (number : ℕ) (image : Image) : Type 0 where
  pub kernel : FunctionNode
  pub is : slice_get program number ≡ Some kernel
  pub ops : List VOp
  pub does : LanesDoAsSource program number ops
  pub at_words : WordsDoAsSource program number ops image.words image.sites image.slots
  pub words : image.words ≡ words_of image.slots ops
  pub decoded : map row_of image.words ≡ map Some (instrs_of image.slots ops)
  pub sites : image.sites ≡ sites_of ops
  pub slots : image.slots ≤ 256
  pub few : length image.words ≤ most_words program number
  pub params : image.params ≡ map kind_of kernel.params
  pub locals : image.locals ≡ map array_bytes kernel.arrays

-- It is the image of the kernel of this name.
abbrev pub IsImageNamed : List FunctionNode → List ℕ → Image → Type 0
IsImageNamed program name image = (number : ℕ) × ((kernel_from 0 name program ≡ Some number) × IsImageOf program number image)
