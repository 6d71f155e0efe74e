use Rattle.std.specs.Prelude.{◌≡◌, ℕ, ◌+◌, ◌*◌, ◌/◌, ◌<◌, List, length}
use Rattle.vx_base.specs.Bytes.{field_of}
use Rattle.first_kernels.specs.FirstTree.{Form}
use Rattle.first_kernels.specs.First.{array_of}
use Rattle.first_kernels.specs.FirstValues.{words_after}

-- how many bytes lie between the beginnings of two buffers: an element of four bytes for each item, and on to the next
-- multiple of 64
abbrev pub stride : ℕ → ℕ
stride items = (4 * items + 63) / 64 * 64

-- the element of an item in a buffer
abbrev pub element_at : List ℕ → ℕ → ℕ → ℕ → ℕ
element_at memory items item buffer = field_of memory (buffer * stride items + 4 * item) 4

-- Behind the kernel the memory has, in each buffer, the element of each item that its assignments leave.
pub record HasRun (k : Form) (arguments : List ℕ) (items buffers : ℕ) (before after : List ℕ) : Type 0 where
  pub same_length : length after ≡ length before
  pub elements : (buffer item : ℕ) → buffer < buffers → item < items →
      element_at after items item buffer ≡ words_after (array_of arguments) item k.assignments (element_at before items item) buffer
