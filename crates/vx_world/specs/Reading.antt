use Rattle.std.specs.Prelude.{◌≡◌, ℕ, List, Option, Result, Vec, Some, None, Ok, Err, IsSome, find, option_map, bytes_eq, take, ⊤}
use Rattle.std.specs.declared.alloc.Global.{Global}
use Rattle.vx_world.specs.Counts.{Rose}
use Rattle.vx_world.specs.declared.reading.Entry.{Entry}
use Rattle.vx_world.specs.declared.reading.ReadFault.{ReadFault}
use Rattle.vx_world.specs.declared.reading.ReadFault.TheVariants.{Missing, Failed, Memory}

-- the bytes of the first entry of this name
abbrev pub bytes_named : List Entry → List ℕ → Option (List ℕ)
bytes_named entries name = option_map (λ entry. entry.bytes) (find (λ entry. bytes_eq entry.name name) entries)

-- what a read answers: bytes, or why there are none
abbrev pub ReadResult : Type 0
ReadResult = Result (Vec ℕ Global) ReadFault

-- What an answer says of the file that was asked for: bytes are its first ones, `Missing` says that there is none, and
-- `Memory` comes only where there is one.
abbrev pub ReadGives : Option (List ℕ) → ℕ → ReadResult → Type 0
ReadGives file most (Ok bytes) = option_map (take most) file ≡ Some bytes.items
ReadGives file most (Err Missing) = file ≡ None
ReadGives file most (Err Failed) = ⊤
ReadGives file most (Err Memory) = IsSome file

-- a read fails only if the count of faults rose
abbrev pub CountsFaults : ReadResult → ℕ → ℕ → Type 0
CountsFaults (Err Failed) before now = Rose before now
CountsFaults result before now = ⊤

-- a name is not found only if the count of misses rose
abbrev pub CountsMisses : ReadResult → ℕ → ℕ → Type 0
CountsMisses (Err Missing) before now = Rose before now
CountsMisses result before now = ⊤
