-- Lanes that read only registers that they have written since they began at a place.
use Rattle.std.specs.Prelude.{◌≡◌, ℕ, Bool, true, false, List, [], ◌∷◌, drop}
use Rattle.item_acts.specs.Launches.{put_at}
use Rattle.item_acts.specs.Machine.{Step, Go, Ask, Stop}
use Rattle.kir.specs.Trees.{Operand, VariableOf, NumberOf, KirCode}
use Rattle.vcode.specs.Code.{VOp, Copy, Compute, Cut, Word, WordAt, Learn, Fetch, Write, IfZero, IfNot, Split, Pred, Tmc, Wspawn, Leaves}
use Rattle.vcode.specs.Machine as vcode
use Rattle.vcode.specs.Machine.{Around, Lane, lane, lane_start}
use Rattle.simt_lowering.specs.Bounds.{IsLimited}
use Rattle.simt_lowering.specs.Kept.{item_place, spawn_place}
use Rattle.simt_lowering.specs.Lowered.{kernel_code}

-- an operand is a number, or a register that was written
abbrev pub IsWritten : (ℕ → Bool) → Operand → Type 0
IsWritten written (VariableOf r) = written r ≡ true
IsWritten written (NumberOf n) = Unit {0}

abbrev pub ReadsWritten : (ℕ → Bool) → VOp → Type 0
ReadsWritten written (Copy d a) = IsWritten written a
ReadsWritten written (Compute d op a b) = IsWritten written a × IsWritten written b
ReadsWritten written (Cut d elem a) = IsWritten written a
ReadsWritten written (WordAt d a k) = IsWritten written a
ReadsWritten written (Fetch d elem a) = IsWritten written a
ReadsWritten written (Write elem a b) = IsWritten written a × IsWritten written b
ReadsWritten written (IfZero a q) = IsWritten written a
ReadsWritten written (IfNot a q) = IsWritten written a
ReadsWritten written (Split a) = IsWritten written a
ReadsWritten written (Pred a m) = IsWritten written a × (written m ≡ true)
ReadsWritten written (Tmc a) = IsWritten written a
ReadsWritten written (Wspawn a q) = IsWritten written a
ReadsWritten written (Leaves a q) = IsWritten written a
ReadsWritten written other = Unit {0}

-- the registers that were written, behind an operation
abbrev pub wrote : VOp → (ℕ → Bool) → ℕ → Bool
wrote (Copy d a) written = put_at d true written
wrote (Compute d op a b) written = put_at d true written
wrote (Cut d elem a) written = put_at d true written
wrote (Word d k) written = put_at d true written
wrote (WordAt d a k) written = put_at d true written
wrote (Learn d csr) written = put_at d true written
wrote (Fetch d elem a) written = put_at d true written
wrote other written = written

-- a step leads to a state, for some answer
abbrev pub LeadsTo : Step Lane → Lane → Type 0
LeadsTo (Go s) t = s ≡ t
LeadsTo (Ask a next) t = (answer : ℕ) × (next answer ≡ t)
LeadsTo (Stop a) t = ⊥

-- a lane comes alone from one state to another, and writes registers on the way
pub data Writes (at : Around) (code : List VOp) : Lane → (ℕ → Bool) → Lane → (ℕ → Bool) → Type 0 where
  Stands : (s : Lane) (written : ℕ → Bool) → Writes at code s written s written
  Moves : (s s' t : Lane) (written written' : ℕ → Bool) (op : VOp) (ops : List VOp) → drop s.place code ≡ op ∷ ops → LeadsTo (vcode.step at code s) s'
      → Writes at code s' (wrote op written) t written' → Writes at code s written t written'

-- wherever a lane comes to alone, its next operation reads only registers that it has written since
abbrev pub IsClean : Around → List VOp → Lane → Type 0
IsClean at code s = (t : Lane) (written : ℕ → Bool) (op : VOp) (ops : List VOp) → Writes at code s (λ r. false) t written → drop t.place code ≡ op ∷ ops → ReadsWritten written op

-- The law: so it is from the first place, from that at which other warps begin, and from that behind the operation that leaves the lanes that
-- have an item.
pub record BeginsClean (marks : ℕ → Bool) (code : KirCode) (at : Around) : Type 0 where
  pub from_start : (numbers : List ℕ) → IsClean at (kernel_code marks code) (lane_start numbers)
  pub from_spawn : (registers : ℕ → ℕ) (numbers : List ℕ) → IsClean at (kernel_code marks code) (lane spawn_place registers [] numbers)
  pub from_item : (registers : ℕ → ℕ) (numbers : List ℕ) → IsClean at (kernel_code marks code) (lane item_place registers [] numbers)

abbrev pub LanesBeginClean : Type 0
LanesBeginClean = (marks : ℕ → Bool) (code : KirCode) (at : Around) → IsLimited code → BeginsClean marks code at
