-- The groups that a core runs, one after another.
use Rattle.std.specs.Prelude.{◌≡◌, ℕ, List, [], ◌∷◌, ◌++◌, Option, Some, None}
use Rattle.memory_banks.specs.declared.entry.BusEntry.{BusEntry}
use Rattle.vx_core.specs.CoreSteps.{CoreState, RunsGroup, Setting}
use Rattle.vx_core.specs.declared.end.GroupEnd.{GroupEnd}
use Rattle.vx_core.specs.declared.end.GroupEnd.TheVariants.{Finished}

-- an end behind which a core runs no other group
abbrev pub bad_end : GroupEnd → Option GroupEnd
bad_end Finished = None
bad_end end = Some end

-- groups in order, each of which finishes; what stays the same while a group runs is a function of its number
abbrev pub FinishAll : {B E P : Type 0} → (B → BusEntry → B → Type 0) → (E → ℕ → ℕ → ℕ → ℕ → E → Type 0) → (P → ℕ → P → Type 0) → (P → ℕ → ℕ → P → Type 0) → (ℕ → Setting) → List ℕ → CoreState B E P → CoreState B E P → Type 0
FinishAll acts evicts begins picks at [] s s' = s' ≡ s
FinishAll {B} {E} {P} acts evicts begins picks at (group ∷ groups) s s' =
    (between : CoreState B E P) × RunsGroup acts evicts begins picks (at group) s Finished between × FinishAll acts evicts begins picks at groups between s'

-- Groups in order. Where one has a bad end, it is the last of them, and its end is the core's.
pub data RunsGroups {B E P : Type 0} (acts : B → BusEntry → B → Type 0) (evicts : E → ℕ → ℕ → ℕ → ℕ → E → Type 0) (begins : P → ℕ → P → Type 0) (picks : P → ℕ → ℕ → P → Type 0) (at : ℕ → Setting) (groups : List ℕ) (s : CoreState B E P) (end : Option GroupEnd) (s' : CoreState B E P) : Type 0 where
  AllFinish : FinishAll acts evicts begins picks at groups s s' → end ≡ None → RunsGroups acts evicts begins picks at groups s end s'
  LastBreaks : (done : List ℕ) (last : ℕ) (bad : GroupEnd) (between : CoreState B E P) → groups ≡ done ++ last ∷ [] → FinishAll acts evicts begins picks at done s between
      → RunsGroup acts evicts begins picks (at last) between bad s' → bad_end bad ≡ Some bad → end ≡ Some bad → RunsGroups acts evicts begins picks at groups s end s'
