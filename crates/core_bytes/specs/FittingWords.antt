-- Runs that begin with words and write words, a word being a number below 2 ^ 32: the words then stay words, and what a read answers
-- fits its field. Both are wrong of a run that writes a larger number.
use Rattle.std.specs.Prelude.{◌≡◌, ℕ, ◌^◌, ◌<◌, List, All, take, slice_get, Some}
use Rattle.vx_base.specs.Bytes.{bytes_of}
use Rattle.vx_base.specs.declared.types.Size.{Size}
use Rattle.vx_base.specs.declared.types.Size.TheVariants.{One, Two, Four}
use Rattle.memory_banks.specs.declared.entry.BusEntry.{BusEntry}
use Rattle.memory_banks.specs.Entries.{replay}
use Rattle.core_bytes.specs.Deeds.{Act, Deed, Draining, Reading, Writing}

abbrev pub IsWord : ℕ → Type 0
IsWord n = n < 2 ^ 32

-- A write of four bytes writes a word. A narrower one takes the low bytes of any number.
abbrev pub WritesWord : Act → Type 0
WritesWord (Writing address One value) = Unit {0}
WritesWord (Writing address Two value) = Unit {0}
WritesWord (Writing address Four value) = IsWord value
WritesWord (Reading address size answer) = Unit {0}
WritesWord Draining = Unit {0}

abbrev pub DeedWritesWord : Deed → Type 0
DeedWritesWord d = WritesWord d.act

-- a run begins with words, and each core writes words
pub record WordsGoIn (opening : List ℕ) (cores : ℕ) (deeds : ℕ → List Deed) : Type 0 where
  pub opening_words : All IsWord opening
  pub written_words : (core : ℕ) → core < cores → All DeedWritesWord (deeds core)

-- at each moment of the history there are words
abbrev pub StayWords : List ℕ → List BusEntry → Type 0
StayWords opening history = (n : ℕ) → All IsWord (replay opening (take n history))

-- the answer of each read fits its field
abbrev pub AnswersFit : ℕ → (ℕ → List Deed) → Type 0
AnswersFit cores deeds = (core k address : ℕ) (size : Size) (answer : ℕ) (entries : List BusEntry)
    → core < cores → slice_get (deeds core) k ≡ Some (record { act = Reading address size answer; entries = entries })
    → answer < 256 ^ bytes_of size
