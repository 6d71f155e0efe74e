use Rattle.std.specs.Prelude.{◌≡◌, ℕ, List, ◌++◌, take, Option, Result, Some, Ok, Err, ⊤}
use Rattle.std.specs.Option.{ForSome}
use Rattle.vx_world.specs.Counts.{Rose}
use Rattle.vx_world.specs.declared.writing.OutFault.{OutFault}
use Rattle.vx_world.specs.declared.writing.OutFault.TheVariants.{Failed, Memory}

-- what a write answers: how many bytes it took, or why it took none
abbrev pub WriteResult : Type 0
WriteResult = Result ℕ OutFault

-- where the bytes of a sink are told, these are appended
abbrev pub Appends : Option (List ℕ) → Option (List ℕ) → List ℕ → Type 0
Appends before now bytes = ForSome before (λ all. now ≡ Some (all ++ bytes))

-- where the bytes of a sink are told, they stay
abbrev pub Stays : Option (List ℕ) → Option (List ℕ) → Type 0
Stays before now = ForSome before (λ all. now ≡ Some all)

-- a write appends the bytes that it took, and nothing where it took none
abbrev pub AppendsTaken : WriteResult → List ℕ → Option (List ℕ) → Option (List ℕ) → Type 0
AppendsTaken (Ok count) piece before now = Appends before now (take count piece)
AppendsTaken (Err fault) piece before now = Stays before now

-- a write fails only if the count of faults rose
abbrev pub CountsWriteFaults : WriteResult → ℕ → ℕ → Type 0
CountsWriteFaults (Err Failed) before now = Rose before now
CountsWriteFaults result before now = ⊤
