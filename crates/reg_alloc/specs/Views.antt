-- What is put behind what, and what the code keeps on its way.
use Rattle.std.specs.Prelude.{◌≡◌, ℕ, ◌+◌, ◌<◌, ◌≤◌, List, [], ◌∷◌, ◌++◌, get_or}
use Rattle.vx_isa.specs.declared.instr.Instr.{Instr}
use Rattle.vcode.specs.Code.{VOp}
use Rattle.vcode.specs.Words.{op_words}
use Rattle.reg_alloc.specs.Plain.{Plain}
use Rattle.reg_alloc.specs.Layout.{plain_onto}
use Rattle.reg_alloc.specs.declared.starts.Starts.{Starts}
use Rattle.reg_alloc.specs.declared.allocation.AllocateFault.{AllocateFault}
use Rattle.reg_alloc.specs.declared.allocation.AllocateFault.TheVariants as fault

-- Behind the instructions before stand those that `f` puts in front of what follows.
abbrev pub Puts : List Instr → List Instr → (List Instr → List Instr) → Type 0
Puts before after f = (rest : List Instr) → after ++ rest ≡ before ++ f rest

-- the same of words that only compute
abbrev pub PutsPlain : List Instr → List Instr → (List Plain → List Plain) → Type 0
PutsPlain before after f = (ws : List Plain) (rest : List Instr) → after ++ plain_onto ws rest ≡ before ++ plain_onto (f ws) rest

-- the first words of operations that begin at word k of the code
abbrev pub starts_from : ℕ → List VOp → List ℕ
starts_from k [] = []
starts_from k (op ∷ ops) = k ∷ starts_from (op_words op + k) ops

-- the first word of each place, as the code keeps it
abbrev pub starts_in : Starts → ℕ → ℕ
starts_in starts q = get_or starts.words.items q starts.end

-- none of them is far from the first word of the code
abbrev pub AreNear : Starts → Type 0
AreNear starts = (q : ℕ) → starts_in starts q ≤ 65536

-- why a kernel with so many registers has no words: it has more than 256, or memory ran out
abbrev pub IsRefused : ℕ → AllocateFault → Type 0
IsRefused registers (fault.TooLarge slots) = (slots ≡ registers) × (256 < registers)
IsRefused registers fault.Memory = registers ≤ 256
