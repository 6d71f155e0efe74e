use Rattle.std.proofs.Common.{◌≡◌, map, ◌<◌, ◌≤◌, length, subst, sym}
use Rattle.std.specs.String.{string_bytes}
use Rattle.std.proofs.lemmas.List.{length-map}
use Rattle.vx_words.proofs.OneReading.{no_word, more_words}
use Rattle.vx_words.proofs.command.only_file.Goals as goal

pub returns-in-empty : goal.returns-in-empty
returns-in-empty c = no_word (map string_bytes c.args.behind.now) (rw (length-map c.args.behind.now string_bytes) c.in-empty.len_below)

pub returns-in_default : goal.returns-in_default
returns-in_default c = more_words (map string_bytes c.args.behind.now) (rw (length-map c.args.behind.now string_bytes) c.in_default.len_at_least)
