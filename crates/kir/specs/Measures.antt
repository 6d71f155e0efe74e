-- What can be counted in a structured kernel, and when its loads and stores are checked.
use Rattle.std.specs.Prelude.{◌≡◌, ℕ, suc, ◌+◌, max, nat_eq, Bool, true, false, not, ◌||◌, if◌then◌else◌, List, [], ◌∷◌, ◌++◌, ◌⊎◌, filter}
use Rattle.item_acts.specs.declared.acts.Point.{Point}
use Rattle.ocl_program.specs.declared.exprs.ArrayRef.{ArrayRef}
use Rattle.kir.specs.Trees.{Operand, VariableOf, NumberOf, Op, Set, Calculate, Fit, Id, Load, Store, Check, Barrier, If, Loop, Break, Continue, Return, Call, Ops, NoOps, AndOp}

-- the numbers of the barriers in it, in the order in which they stand
abbrev mutual
  pub sites : Ops → List ℕ
  sites NoOps = []
  sites (AndOp op ops) = sites_in op ++ sites ops

  pub sites_in : Op → List ℕ
  sites_in (Barrier site) = site ∷ []
  sites_in (If test one other) = sites one ++ sites other
  sites_in (Loop head test body step) = sites head ++ (sites body ++ sites step)
  sites_in (Call body) = sites body
  sites_in other = []

-- The points at which operations may wait, where the loops round them have made these numbers of turns: any number of turns of the loops
-- within.
abbrev mutual
  pub IsPoint : Ops → List ℕ → Point → Type 0
  IsPoint NoOps turns point = ⊥
  IsPoint (AndOp op ops) turns point = IsPointIn op turns point ⊎ IsPoint ops turns point

  pub IsPointIn : Op → List ℕ → Point → Type 0
  IsPointIn (Barrier site) turns point = point ≡ record { site = site; turns = turns }
  IsPointIn (If test one other) turns point = IsPoint one turns point ⊎ IsPoint other turns point
  IsPointIn (Loop head test body step) turns point =
      (n : ℕ) × (IsPoint head (turns ++ n ∷ []) point ⊎ (IsPoint body (turns ++ n ∷ []) point ⊎ IsPoint step (turns ++ n ∷ []) point))
  IsPointIn (Call body) turns point = IsPoint body turns point
  IsPointIn other turns point = ⊥

-- how many branches and loops stand round one another at most
abbrev mutual
  pub nesting : Ops → ℕ
  nesting NoOps = 0
  nesting (AndOp op ops) = max (nesting_in op) (nesting ops)

  pub nesting_in : Op → ℕ
  nesting_in (If test one other) = suc (max (nesting one) (nesting other))
  nesting_in (Loop head test body step) = suc (max (nesting head) (max (nesting body) (nesting step)))
  nesting_in (Call body) = nesting body
  nesting_in other = 0

-- how many branches stand within one another at most
abbrev mutual
  pub branching : Ops → ℕ
  branching NoOps = 0
  branching (AndOp op ops) = max (branching_in op) (branching ops)

  pub branching_in : Op → ℕ
  branching_in (If test one other) = suc (max (branching one) (branching other))
  branching_in (Loop head test body step) = max (branching head) (max (branching body) (branching step))
  branching_in (Call body) = branching body
  branching_in other = 0

-- how many calls stand within one another at most
abbrev mutual
  pub calls : Ops → ℕ
  calls NoOps = 0
  calls (AndOp op ops) = max (calls_in op) (calls ops)

  pub calls_in : Op → ℕ
  calls_in (If test one other) = max (calls one) (calls other)
  calls_in (Loop head test body step) = max (calls head) (max (calls body) (calls step))
  calls_in (Call body) = suc (calls body)
  calls_in other = 0

-- whether a jump or a call occurs
abbrev mutual
  pub jumps : Ops → Bool
  jumps NoOps = false
  jumps (AndOp op ops) = jumps_in op || jumps ops

  pub jumps_in : Op → Bool
  jumps_in (If test one other) = jumps one || jumps other
  jumps_in (Loop head test body step) = jumps head || (jumps body || jumps step)
  jumps_in Break = true
  jumps_in Continue = true
  jumps_in Return = true
  jumps_in (Call body) = true
  jumps_in other = false

-- ---- single operations

-- whether an operation holds no others and is no jump
abbrev pub is_single : Op → Bool
is_single (If test one other) = false
is_single (Loop head test body step) = false
is_single Break = false
is_single Continue = false
is_single Return = false
is_single (Call body) = false
is_single other = true

-- how many runs of single operations there are, as long as each can be; `inside` says whether the operation before is single
abbrev mutual
  pub runs : Bool → Ops → ℕ
  runs inside NoOps = 0
  runs inside (AndOp op ops) = runs_in inside op + runs (is_single op) ops

  pub runs_in : Bool → Op → ℕ
  runs_in inside (If test one other) = runs false one + runs false other
  runs_in inside (Loop head test body step) = runs false head + (runs false body + runs false step)
  runs_in inside (Call body) = runs false body
  runs_in inside Break = 0
  runs_in inside Continue = 0
  runs_in inside Return = 0
  runs_in inside other = if inside then 0 else 1

-- Each load and each store stands behind a check of the same array and index in the same run of single operations, and nothing
-- between them sets a variable of the index.

-- an array with an index below its count
pub record Known : Type 0 where
  pub array : ArrayRef
  pub index : Operand

abbrev pub IsKnown : ArrayRef → Operand → List Known → Type 0
IsKnown array a [] = ⊥
IsKnown array a (k ∷ ks) = (k ≡ record { array = array; index = a }) ⊎ IsKnown array a ks

-- whether an operand is the value of a variable
abbrev pub reads : ℕ → Operand → Bool
reads d (VariableOf k) = nat_eq d k
reads d (NumberOf n) = false

-- what is still known once a variable is set
abbrev pub forgotten : ℕ → List Known → List Known
forgotten d ks = filter (λ k. not (reads d k.index)) ks

-- what is known behind an operation
abbrev pub known_behind : Op → List Known → List Known
known_behind (Set d a) ks = forgotten d ks
known_behind (Calculate d op a b) ks = forgotten d ks
known_behind (Fit d elem a) ks = forgotten d ks
known_behind (Id d which a) ks = forgotten d ks
known_behind (Load d array elem a) ks = forgotten d ks
known_behind (Store array elem a b) ks = ks
known_behind (Check array a pos) ks = record { array = array; index = a } ∷ ks
known_behind (Barrier site) ks = ks
known_behind other ks = []

abbrev mutual
  -- the operations are checked, where this much is known before them
  pub AreChecked : List Known → Ops → Type 0
  AreChecked ks NoOps = Unit {0}
  AreChecked ks (AndOp op ops) = OpChecked ks op × AreChecked (known_behind op ks) ops

  pub OpChecked : List Known → Op → Type 0
  OpChecked ks (Load d array elem a) = IsKnown array a ks
  OpChecked ks (Store array elem a b) = IsKnown array a ks
  OpChecked ks (If test one other) = AreChecked [] one × AreChecked [] other
  OpChecked ks (Loop head test body step) = AreChecked [] head × AreChecked [] body × AreChecked [] step
  OpChecked ks (Call body) = AreChecked [] body
  OpChecked ks other = Unit {0}

abbrev pub IsChecked : Ops → Type 0
IsChecked ops = AreChecked [] ops
