-- Worked command lines, and what the answer to each is.
use Rattle.std.proofs.Common.{◌≡◌, ℕ, false, Result, Ok, Err, [], ◌∷◌, refl}
use Rattle.std.specs.Prelude.{codes}
use Rattle.command_words.specs.declared.commands.Command.{Command}
use Rattle.command_words.specs.declared.commands.Command.TheVariants as ask
use Rattle.command_words.specs.declared.usage.UsageKind.{UsageKind}
use Rattle.command_words.specs.declared.usage.UsageKind.TheVariants as usage
use Rattle.command_words.specs.Meaning.{usual}
use Rattle.command_words.specs.Commands.{Wrong, answer}

abbrev fault : ℕ → UsageKind → Result Command Wrong
fault n k = Err (record { word = n; kind = k })

no_words : answer [] ≡ fault 0 usage.Command
no_words = refl

other_command : answer (codes "fly" ∷ []) ≡ fault 0 usage.Command
other_command = refl

no_launch : answer (codes "run" ∷ codes "v.cl" ∷ []) ≡ fault 2 usage.Missing
no_launch = refl

no_file : answer (codes "asm" ∷ []) ≡ fault 1 usage.Missing
no_file = refl

further_word : answer (codes "dis" ∷ codes "a" ∷ codes "b" ∷ []) ≡ fault 2 usage.Form
further_word = refl

twice : answer (codes "run" ∷ codes "v.cl" ∷ codes "cores=2" ∷ codes "cores=3" ∷ codes "do=vadd/4/4/a,b,c" ∷ []) ≡ fault 3 usage.Repeated
twice = refl

many_lanes : answer (codes "run" ∷ codes "v.cl" ∷ codes "lanes=33" ∷ codes "do=k/1/1" ∷ []) ≡ fault 2 usage.Number
many_lanes = refl

not_given : answer (codes "run" ∷ codes "v.cl" ∷ codes "do=k/1/1" ∷ codes "show=z" ∷ []) ≡ fault 3 usage.Unknown
not_given = refl

-- a form comes before a number in one word, and a word before the next
form_first : answer (codes "run" ∷ codes "v.cl" ∷ codes "do=k/0/x" ∷ []) ≡ fault 2 usage.Form
form_first = refl

number_first : answer (codes "run" ∷ codes "v.cl" ∷ codes "do=k/0/1" ∷ codes "x" ∷ []) ≡ fault 2 usage.Number
number_first = refl

leading_zero : answer (codes "run" ∷ codes "v.cl" ∷ codes "do=k/01/1" ∷ []) ≡ fault 2 usage.Form
leading_zero = refl

no_lanes : answer (codes "gen" ∷ codes "1" ∷ codes "1" ∷ codes "lanes=0" ∷ []) ≡ fault 3 usage.Number
no_lanes = refl

eleven : answer (codes "gen" ∷ codes "1" ∷ codes "11" ∷ []) ≡ fault 2 usage.Number
eleven = refl

no_entry : answer (codes "build" ∷ codes "v.cl" ∷ codes "3x" ∷ codes "more" ∷ []) ≡ fault 2 usage.Form
no_entry = refl

ten : answer (codes "gen" ∷ codes "1" ∷ codes "10" ∷ []) ≡ Ok (ask.Gen 1 10 usual false)
ten = refl

built : answer (codes "build" ∷ codes "v.cl" ∷ codes "k" ∷ []) ≡ Ok (ask.Build (codes "v.cl") (codes "k"))
built = refl
