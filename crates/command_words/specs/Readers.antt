-- How each word is read: what it is, or none where it is of no form that may stand there.
use Rattle.std.specs.Prelude.{ℕ, true, false, ◌&&◌, Option, Some, None, ◌==◌, if◌then◌else◌, List, [], ◌∷◌, ◌++◌, codes}
use Rattle.std.specs.List.{slice_split}
use Rattle.std.specs.Str.{bytes_eq}
use Rattle.decimal_text.specs.Numerals.{is_decimal}
use Rattle.vx_base.specs.declared.types.Elem.{Elem}
use Rattle.vx_base.specs.declared.types.Elem.TheVariants.{Char, Uchar, Short, Ushort, Int, Uint}
use Rattle.command_words.specs.declared.entries.ArgEntry.{ArgEntry}
use Rattle.command_words.specs.declared.entries.ArgEntry.TheVariants as arg
use Rattle.command_words.specs.declared.entries.Origin.{Origin}
use Rattle.command_words.specs.declared.entries.Origin.TheVariants as origin
use Rattle.command_words.specs.declared.entries.Pick.TheVariants as pick
use Rattle.command_words.specs.declared.entries.SizeKey.{SizeKey}
use Rattle.command_words.specs.declared.entries.SizeKey.TheVariants.{Cores, Warps, Lanes, Sets, Ways, Banks, Turns}
use Rattle.command_words.specs.declared.entries.Entry.{Entry}
use Rattle.command_words.specs.declared.entries.Entry.TheVariants.{File, Kernel, Seed, Count, Buf, Do, Show, Size, Sched, Evict, Stats}
use Rattle.command_words.specs.declared.places.Place.{Place}
use Rattle.command_words.specs.declared.places.Place.TheVariants as place
use Rattle.command_words.specs.Names.{is_name}
use Rattle.command_words.specs.Cuts.{cut, behind_minus, ◌>>=◌}

abbrev pub elem_named : List ℕ → Option Elem
elem_named text = if bytes_eq text (codes "char") then Some Char else (if bytes_eq text (codes "uchar") then Some Uchar else
    (if bytes_eq text (codes "short") then Some Short else (if bytes_eq text (codes "ushort") then Some Ushort else
    (if bytes_eq text (codes "int") then Some Int else (if bytes_eq text (codes "uint") then Some Uint else None)))))

-- what a name or a number is written for, if it is one
abbrev pub where_name : {X : Type 0} → List ℕ → X → Option X
where_name text x = if is_name text then Some x else None

abbrev pub where_decimal : {X : Type 0} → List ℕ → X → Option X
where_decimal text x = if is_decimal text then Some x else None

-- in:PATH, whose path is not empty, or zero:COUNT
abbrev pub path_at : List ℕ → Option Origin
path_at [] = None
path_at (c ∷ cs) = Some (origin.In (c ∷ cs))

abbrev pub origin_of : List ℕ → List ℕ → Option Origin
origin_of way rest = if bytes_eq way (codes "in") then path_at rest else (if bytes_eq way (codes "zero") then where_decimal rest (origin.Zero rest) else None)

abbrev pub origin_at : List ℕ → Option Origin
origin_at text = cut 58 text >>= λ p. origin_of p.0 p.1

-- NAME:TYPE:ORIGIN
abbrev pub buffer_of : List ℕ → List ℕ → List ℕ → Option Entry
buffer_of name elem rest = elem_named elem >>= λ e. (origin_at rest >>= λ o. where_name name (Buf (record { name = name; elem = e; origin = o })))

abbrev pub buffer_at : List ℕ → Option Entry
buffer_at text = cut 58 text >>= λ p. (cut 58 p.1 >>= λ q. buffer_of p.0 q.0 q.1)

-- local:COUNT
abbrev pub local_at : List ℕ → Option ArgEntry
local_at text = cut 58 text >>= λ p. (if bytes_eq p.0 (codes "local") then where_decimal p.1 (arg.Local p.1) else None)

-- a number with a `-`, or a count of a `__local` array
abbrev pub marked_at : Option (List ℕ) → List ℕ → Option ArgEntry
marked_at (Some digits) text = where_decimal digits (arg.Negative digits)
marked_at None text = local_at text

abbrev pub arg_at : List ℕ → Option ArgEntry
arg_at text = if is_name text then Some (arg.Named text) else (if is_decimal text then Some (arg.Number text) else marked_at (behind_minus text) text)

-- one argument behind another
abbrev pub args_from : List ArgEntry → List (List ℕ) → Option (List ArgEntry)
args_from found [] = Some found
args_from found (text ∷ texts) = arg_at text >>= λ a. args_from (found ++ a ∷ []) texts

-- LOCAL, or LOCAL/ARG,ARG
abbrev pub tail_of : List ℕ → Option (List ℕ × List ℕ) → Option (List ℕ × List ArgEntry)
tail_of text None = Some (text, [])
tail_of text (Some p) = args_from [] (slice_split (λ b. b == 44) p.1) >>= λ args. Some (p.0, args)

abbrev pub tail_at : List ℕ → Option (List ℕ × List ArgEntry)
tail_at text = tail_of text (cut 47 text)

-- ENTRY/GLOBAL/LOCAL..
abbrev pub launch_of : List ℕ → List ℕ → List ℕ → List ArgEntry → Option Entry
launch_of entry global local args = if is_name entry && is_decimal global && is_decimal local then Some (Do (record { entry = entry; global = global; local = local; args = args })) else None

abbrev pub launch_at : List ℕ → Option Entry
launch_at text = cut 47 text >>= λ p. (cut 47 p.1 >>= λ q. (tail_at q.1 >>= λ t. launch_of p.0 q.0 t.0 t.1))

abbrev pub show_at : List ℕ → Option Entry
show_at text = where_name text (Show text)

abbrev pub size_named : List ℕ → Option SizeKey
size_named key = if bytes_eq key (codes "cores") then Some Cores else (if bytes_eq key (codes "warps") then Some Warps else
    (if bytes_eq key (codes "lanes") then Some Lanes else (if bytes_eq key (codes "sets") then Some Sets else
    (if bytes_eq key (codes "ways") then Some Ways else (if bytes_eq key (codes "banks") then Some Banks else
    (if bytes_eq key (codes "turns") then Some Turns else None))))))

abbrev pub sched_at : List ℕ → Option Entry
sched_at text = if bytes_eq text (codes "rr") then Some (Sched pick.Round) else (if bytes_eq text (codes "old") then Some (Sched pick.Oldest) else
    where_decimal text (Sched (pick.Seed text)))

abbrev pub evict_at : List ℕ → Option Entry
evict_at text = if bytes_eq text (codes "old") then Some (Evict pick.Oldest) else where_decimal text (Evict (pick.Seed text))

abbrev pub stats_at : List ℕ → Option Entry
stats_at text = if bytes_eq text (codes "yes") then Some (Stats true) else (if bytes_eq text (codes "no") then Some (Stats false) else None)

-- how warps are picked, how lines are given up, and whether records are printed
abbrev pub choice_of : List ℕ → List ℕ → Option Entry
choice_of key value = if bytes_eq key (codes "sched") then sched_at value else (if bytes_eq key (codes "evict") then evict_at value else
    (if bytes_eq key (codes "stats") then stats_at value else None))

abbrev pub machine_with : Option SizeKey → List ℕ → List ℕ → Option Entry
machine_with (Some size) key value = where_decimal value (Size size value)
machine_with None key value = choice_of key value

-- a word of the machine, by its key and its value
abbrev pub machine_of : List ℕ → List ℕ → Option Entry
machine_of key value = machine_with (size_named key) key value

-- a word with a key, by its key and its value
abbrev pub keyed_of : List ℕ → List ℕ → Option Entry
keyed_of key value = if bytes_eq key (codes "buf") then buffer_at value else (if bytes_eq key (codes "do") then launch_at value else
    (if bytes_eq key (codes "show") then show_at value else machine_of key value))

-- a word at a place
abbrev pub entry_at : Place → List ℕ → Option Entry
entry_at place.File word = Some (File word)
entry_at place.Kernel word = where_name word (Kernel word)
entry_at place.Seed word = where_decimal word (Seed word)
entry_at place.Count word = where_decimal word (Count word)
entry_at place.Further word = cut 61 word >>= λ p. keyed_of p.0 p.1
entry_at place.Machine word = cut 61 word >>= λ p. machine_of p.0 p.1
entry_at place.Nothing word = None
