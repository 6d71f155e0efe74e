-- A lane reads words that the launch block has.
use Rattle.std.specs.Prelude.{ℕ, ◌+◌, ◌<◌, Bool, List, [], ◌∷◌, drop}
use Rattle.kir.specs.Machine.{value}
use Rattle.kir.specs.Trees.{KirCode}
use Rattle.vcode.specs.Code.{VOp, Word, WordAt}
use Rattle.vcode.specs.Machine.{Around, Lane}
use Rattle.vx_layout.specs.Addresses.{block_words}
use Rattle.simt_lowering.specs.Bounds.{IsLimited}
use Rattle.simt_lowering.specs.Lowered.{kernel_code}
use Rattle.simt_lowering.specs.Runs.{Begins, Comes, begin}

-- an operation that reads a word of the launch block reads one that it has, with these registers
abbrev pub OpInBlock : VOp → (ℕ → ℕ) → Type 0
OpInBlock (Word d k) rs = k < block_words
OpInBlock (WordAt d a k) rs = k + value rs a < block_words
OpInBlock other rs = Unit {0}

abbrev pub FirstInBlock : List VOp → (ℕ → ℕ) → Type 0
FirstInBlock [] rs = Unit {0}
FirstInBlock (op ∷ ops) rs = OpInBlock op rs

-- so it is in these operations, wherever a lane comes to from a place at which it may begin, whatever stands around it
abbrev pub ReadBlock : List VOp → Type 0
ReadBlock ops = (at : Around) (q : ℕ) (rs : ℕ → ℕ) (ns : List ℕ) → Begins q
    → (n : ℕ) (t : Lane) (us : List ℕ) → Comes at ops n (begin q rs ns) [] t us → FirstInBlock (drop t.place ops) t.registers

-- the law: in those of a kernel
abbrev pub InBlock : Type 0
InBlock = (code : KirCode) (marks : ℕ → Bool) → IsLimited code → ReadBlock (kernel_code marks code)
