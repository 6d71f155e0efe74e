-- A lane reads no register that it has not written before.
use Rattle.std.specs.Prelude.{ℕ, Bool, List, [], drop}
use Rattle.kir.specs.Trees.{KirCode}
use Rattle.vcode.specs.Code.{VOp}
use Rattle.vcode.specs.Machine.{Around, Lane}
use Rattle.simt_lowering.specs.Bounds.{IsLimited}
use Rattle.simt_lowering.specs.Lowered.{kernel_code}
use Rattle.simt_lowering.specs.Runs.{Begins, Comes, IsOneOf, begin, first_read}

-- each register that is read where the lane comes to from its begin has been written on the way there
abbrev pub ReadsWritten : Around → List VOp → Lane → Type 0
ReadsWritten at code s = (n : ℕ) (t : Lane) (us : List ℕ) → Comes at code n s [] t us → (r : ℕ) → IsOneOf r (first_read (drop t.place code)) → IsOneOf r us

-- so it is in these operations, from each place at which a lane may begin, whatever stands around it
abbrev pub AreWrittenFirst : List VOp → Type 0
AreWrittenFirst ops = (at : Around) (p : ℕ) (rs : ℕ → ℕ) (ns : List ℕ) → Begins p → ReadsWritten at ops (begin p rs ns)

-- the law: in those of a kernel
abbrev pub WrittenFirst : Type 0
WrittenFirst = (code : KirCode) (marks : ℕ → Bool) → IsLimited code → AreWrittenFirst (kernel_code marks code)
