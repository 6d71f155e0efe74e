-- Runs of a lane alone from a place at which it may begin, whatever is answered: where it comes to, and which registers it has written on
-- its way.
use Rattle.std.specs.Prelude.{◌≡◌, ℕ, zero, suc, List, [], ◌∷◌, ◌⊎◌, drop}
use Rattle.item_acts.specs.Machine.{Step, Go, Ask, Stop}
use Rattle.kir.specs.Trees.{Operand, VariableOf, NumberOf}
use Rattle.vcode.specs.Code.{VOp, Copy, Compute, Cut, Word, WordAt, Learn, Fetch, Write, IfZero, IfNot, Split, Pred, Tmc, Wspawn, Leaves}
use Rattle.vcode.specs.Machine.{Around, Lane, lane, step}
use Rattle.simt_lowering.specs.Kept.{spawn_place, item_place}

-- The places at which a lane may begin: that of the first operation, that at which other warps begin, and that behind the operation that leaves
-- the lanes that have an item. Its registers may hold anything there.
abbrev pub Begins : ℕ → Type 0
Begins p = (p ≡ 0) ⊎ ((p ≡ spawn_place) ⊎ (p ≡ item_place))

abbrev pub begin : ℕ → (ℕ → ℕ) → List ℕ → Lane
begin p rs ns = lane p rs [] ns

-- ---- registers

-- a list has the number
abbrev pub IsOneOf : ℕ → List ℕ → Type 0
IsOneOf r [] = ⊥
IsOneOf r (q ∷ qs) = (r ≡ q) ⊎ IsOneOf r qs

-- the registers that an operand reads, in front of others
abbrev pub and_read : Operand → List ℕ → List ℕ
and_read (VariableOf r) rs = r ∷ rs
and_read (NumberOf n) rs = rs

-- the registers that an operation reads, also those that a warp reads for all its lanes
abbrev pub read_by : VOp → List ℕ
read_by (Copy d a) = and_read a []
read_by (Compute d op a b) = and_read a (and_read b [])
read_by (Cut d elem a) = and_read a []
read_by (WordAt d a k) = and_read a []
read_by (Fetch d elem a) = and_read a []
read_by (Write elem a b) = and_read a (and_read b [])
read_by (IfZero a q) = and_read a []
read_by (IfNot a q) = and_read a []
read_by (Split a) = and_read a []
read_by (Pred a m) = and_read a (m ∷ [])
read_by (Tmc a) = and_read a []
read_by (Wspawn a q) = and_read a []
read_by (Leaves a q) = and_read a []
read_by other = []

-- and the one that it writes, in front of others
abbrev pub and_written : VOp → List ℕ → List ℕ
and_written (Copy d a) ws = d ∷ ws
and_written (Compute d op a b) ws = d ∷ ws
and_written (Cut d elem a) ws = d ∷ ws
and_written (Word d k) ws = d ∷ ws
and_written (WordAt d a k) ws = d ∷ ws
and_written (Learn d csr) ws = d ∷ ws
and_written (Fetch d elem a) ws = d ∷ ws
and_written other ws = ws

-- the same of the first of some operations
abbrev pub first_read : List VOp → List ℕ
first_read [] = []
first_read (op ∷ ops) = read_by op

abbrev pub first_written : List VOp → List ℕ → List ℕ
first_written [] ws = ws
first_written (op ∷ ops) ws = and_written op ws

-- ---- runs

-- a step leads there, whatever is answered
abbrev pub Leads : Step Lane → Lane → Type 0
Leads (Go t) t' = t ≡ t'
Leads (Ask a behind) t' = (answer : ℕ) × (behind answer ≡ t')
Leads (Stop a) t' = ⊥

-- In so many steps the lane comes from here, where it has written these registers, to there, where it has written those.
abbrev pub Comes : Around → List VOp → ℕ → Lane → List ℕ → Lane → List ℕ → Type 0
Comes at code zero s ws t us = (s ≡ t) × (ws ≡ us)
Comes at code (suc n) s ws t us = (m : Lane) × Leads (step at code s) m × Comes at code n m (first_written (drop s.place code) ws) t us
