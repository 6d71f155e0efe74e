-- How each word is written.
use Rattle.std.specs.Prelude.{◌≡◌, ℕ, Bool, true, false, ◌&&◌, IsTrue, List, [], ◌∷◌, ◌++◌, map, codes}
use Rattle.std.specs.List.{join_with_byte, list_all}
use Rattle.decimal_text.specs.Numerals.{is_decimal}
use Rattle.vx_base.specs.declared.types.Elem.{Elem}
use Rattle.vx_base.specs.declared.types.Elem.TheVariants.{Char, Uchar, Short, Ushort, Int, Uint}
use Rattle.command_words.specs.declared.entries.ArgEntry.{ArgEntry}
use Rattle.command_words.specs.declared.entries.ArgEntry.TheVariants as arg
use Rattle.command_words.specs.declared.entries.Origin.{Origin}
use Rattle.command_words.specs.declared.entries.Origin.TheVariants as origin
use Rattle.command_words.specs.declared.entries.Pick.{Pick}
use Rattle.command_words.specs.declared.entries.Pick.TheVariants as pick
use Rattle.command_words.specs.declared.entries.SizeKey.{SizeKey}
use Rattle.command_words.specs.declared.entries.SizeKey.TheVariants.{Cores, Warps, Lanes, Sets, Ways, Banks, Turns}
use Rattle.command_words.specs.declared.entries.Entry.{Entry}
use Rattle.command_words.specs.declared.entries.Entry.TheVariants.{File, Kernel, Seed, Count, Buf, Do, Show, Size, Sched, Evict, Stats}
use Rattle.command_words.specs.declared.places.Place.{Place}
use Rattle.command_words.specs.declared.places.Place.TheVariants as place
use Rattle.command_words.specs.Names.{is_name}

abbrev pub elem_text : Elem → List ℕ
elem_text Char = codes "char"
elem_text Uchar = codes "uchar"
elem_text Short = codes "short"
elem_text Ushort = codes "ushort"
elem_text Int = codes "int"
elem_text Uint = codes "uint"

abbrev pub origin_text : Origin → List ℕ
origin_text (origin.In path) = codes "in:" ++ path
origin_text (origin.Zero digits) = codes "zero:" ++ digits

abbrev pub arg_text : ArgEntry → List ℕ
arg_text (arg.Named name) = name
arg_text (arg.Number digits) = digits
arg_text (arg.Negative digits) = codes "-" ++ digits
arg_text (arg.Local digits) = codes "local:" ++ digits

-- nothing where there are no arguments, else a slash, and the arguments with commas between them
abbrev pub args_text : List ArgEntry → List ℕ
args_text [] = []
args_text (a ∷ args) = codes "/" ++ join_with_byte 44 (map arg_text (a ∷ args))

abbrev pub size_text : SizeKey → List ℕ
size_text Cores = codes "cores="
size_text Warps = codes "warps="
size_text Lanes = codes "lanes="
size_text Sets = codes "sets="
size_text Ways = codes "ways="
size_text Banks = codes "banks="
size_text Turns = codes "turns="

abbrev pub pick_text : Pick → List ℕ
pick_text pick.Round = codes "rr"
pick_text pick.Oldest = codes "old"
pick_text (pick.Seed digits) = digits

abbrev pub word_text : Entry → List ℕ
word_text (File path) = path
word_text (Kernel name) = name
word_text (Seed digits) = digits
word_text (Count digits) = digits
word_text (Buf b) = codes "buf=" ++ (b.name ++ (codes ":" ++ (elem_text b.elem ++ (codes ":" ++ origin_text b.origin))))
word_text (Do d) = codes "do=" ++ (d.entry ++ (codes "/" ++ (d.global ++ (codes "/" ++ (d.local ++ args_text d.args)))))
word_text (Show name) = codes "show=" ++ name
word_text (Size key digits) = size_text key ++ digits
word_text (Sched p) = codes "sched=" ++ pick_text p
word_text (Evict p) = codes "evict=" ++ pick_text p
word_text (Stats true) = codes "stats=yes"
word_text (Stats false) = codes "stats=no"

-- a path is not empty
abbrev pub is_path : List ℕ → Bool
is_path [] = false
is_path (c ∷ cs) = true

abbrev pub is_origin : Origin → Bool
is_origin (origin.In path) = is_path path
is_origin (origin.Zero digits) = is_decimal digits

abbrev pub is_arg : ArgEntry → Bool
is_arg (arg.Named name) = is_name name
is_arg (arg.Number digits) = is_decimal digits
is_arg (arg.Negative digits) = is_decimal digits
is_arg (arg.Local digits) = is_decimal digits

abbrev pub is_sched : Pick → Bool
is_sched pick.Round = true
is_sched pick.Oldest = true
is_sched (pick.Seed digits) = is_decimal digits

abbrev pub is_evict : Pick → Bool
is_evict pick.Round = false
is_evict pick.Oldest = true
is_evict (pick.Seed digits) = is_decimal digits

-- names are names, and numbers are written as numbers
abbrev pub is_well : Entry → Bool
is_well (File path) = true
is_well (Kernel name) = is_name name
is_well (Seed digits) = is_decimal digits
is_well (Count digits) = is_decimal digits
is_well (Buf b) = is_name b.name && is_origin b.origin
is_well (Do d) = is_name d.entry && is_decimal d.global && is_decimal d.local && list_all is_arg d.args
is_well (Show name) = is_name name
is_well (Size key digits) = is_decimal digits
is_well (Sched p) = is_sched p
is_well (Evict p) = is_evict p
is_well (Stats wanted) = true

-- a word with a key, and a word with a key of the machine
abbrev pub is_further : Entry → Bool
is_further (File path) = false
is_further (Kernel name) = false
is_further (Seed digits) = false
is_further (Count digits) = false
is_further word = true

abbrev pub is_machine : Entry → Bool
is_machine (Size key digits) = true
is_machine (Sched p) = true
is_machine (Evict p) = true
is_machine (Stats wanted) = true
is_machine word = false

-- which words may stand at a place
pub data Stands : Place → Entry → Type 0 where
  AtFile : (path : List ℕ) → Stands place.File (File path)
  AtKernel : (name : List ℕ) → Stands place.Kernel (Kernel name)
  AtSeed : (digits : List ℕ) → Stands place.Seed (Seed digits)
  AtCount : (digits : List ℕ) → Stands place.Count (Count digits)
  AtFurther : (word : Entry) → IsTrue (is_further word) → Stands place.Further word
  AtMachine : (word : Entry) → IsTrue (is_machine word) → Stands place.Machine word

-- the text is this word, at a place where it may stand
pub record IsWord (at : Place) (word : Entry) (written : List ℕ) : Type 0 where
  pub text : written ≡ word_text word
  pub stands : Stands at word
  pub well : IsTrue (is_well word)
