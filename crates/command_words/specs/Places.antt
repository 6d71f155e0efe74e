use Rattle.std.specs.Prelude.{ℕ, Option, Some, None, ◌==◌, if◌then◌else◌, List, codes}
use Rattle.std.specs.Str.{bytes_eq}
use Rattle.command_words.specs.declared.places.CommandName.{CommandName}
use Rattle.command_words.specs.declared.places.CommandName.TheVariants as command
use Rattle.command_words.specs.declared.places.Place.{Place}
use Rattle.command_words.specs.declared.places.Place.TheVariants.{File, Kernel, Seed, Count, Further, Machine, Nothing}

-- how the commands are written
abbrev pub command_named : List ℕ → Option CommandName
command_named word = if bytes_eq word (codes "run") then Some command.Run else (if bytes_eq word (codes "build") then Some command.Build else
    (if bytes_eq word (codes "asm") then Some command.Asm else (if bytes_eq word (codes "dis") then Some command.Dis else
    (if bytes_eq word (codes "gen") then Some command.Gen else None))))

-- what may stand behind a command, where so many words stand between
abbrev pub place_at : CommandName → ℕ → Place
place_at command.Run n = if n == 0 then File else Further
place_at command.Build n = if n == 0 then File else (if n == 1 then Kernel else Nothing)
place_at command.Asm n = if n == 0 then File else Nothing
place_at command.Dis n = if n == 0 then File else Nothing
place_at command.Gen n = if n == 0 then Seed else (if n == 1 then Count else Machine)
