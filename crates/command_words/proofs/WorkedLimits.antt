-- Worked command lines at both sides of the limits of numbers: what is within them is followed by the next fault.
use Rattle.std.proofs.Common.{◌≡◌, ℕ, false, Result, Ok, Err, List, [], ◌∷◌, refl}
use Rattle.std.specs.Prelude.{codes}
use Rattle.vx_base.specs.declared.types.Elem.TheVariants.{Short}
use Rattle.launch_plans.specs.declared.plans.Arg.TheVariants.{Buffer, Int, Local}
use Rattle.launch_plans.specs.declared.shapes.Sched.TheVariants as sched
use Rattle.launch_plans.specs.declared.shapes.Evict.TheVariants as evict
use Rattle.command_words.specs.declared.commands.BufFrom.TheVariants as from
use Rattle.command_words.specs.declared.commands.Command.{Command}
use Rattle.command_words.specs.declared.commands.Command.TheVariants as ask
use Rattle.command_words.specs.declared.usage.UsageKind.{UsageKind}
use Rattle.command_words.specs.declared.usage.UsageKind.TheVariants as usage
use Rattle.command_words.specs.Commands.{Wrong, answer}

abbrev fault : ℕ → UsageKind → Result Command Wrong
fault n k = Err (record { word = n; kind = k })

-- the answer to `run v.cl` with one more word, and with a launch and a show of a buffer that is not given behind it
abbrev run_with : List ℕ → Result Command Wrong
run_with word = answer (codes "run" ∷ codes "v.cl" ∷ word ∷ [])

abbrev show_with : List ℕ → Result Command Wrong
show_with word = answer (codes "run" ∷ codes "v.cl" ∷ word ∷ codes "show=z" ∷ [])

eight_cores : run_with (codes "cores=8") ≡ fault 3 usage.Missing
eight_cores = refl

nine_cores : run_with (codes "cores=9") ≡ fault 2 usage.Number
nine_cores = refl

endless_cores : run_with (codes "cores=99999999999999999999999") ≡ fault 2 usage.Number
endless_cores = refl

sets_most : run_with (codes "sets=64") ≡ fault 3 usage.Missing
sets_most = refl

sets_no_power : run_with (codes "sets=48") ≡ fault 2 usage.Number
sets_no_power = refl

seed_most : run_with (codes "sched=18446744073709551615") ≡ fault 3 usage.Missing
seed_most = refl

seed_more : run_with (codes "sched=18446744073709551616") ≡ fault 2 usage.Number
seed_more = refl

zeros_most : run_with (codes "buf=a:int:zero:4194304") ≡ fault 3 usage.Missing
zeros_most = refl

zeros_more : run_with (codes "buf=a:int:zero:4194305") ≡ fault 2 usage.Number
zeros_more = refl

items_most : show_with (codes "do=k/4294967295/1") ≡ fault 3 usage.Unknown
items_most = refl

items_more : show_with (codes "do=k/4294967296/1") ≡ fault 2 usage.Number
items_more = refl

number_least : show_with (codes "do=k/1/1/-2147483648") ≡ fault 3 usage.Unknown
number_least = refl

number_less : show_with (codes "do=k/1/1/-2147483649") ≡ fault 2 usage.Number
number_less = refl

local_most : show_with (codes "do=k/1/1/local:262144") ≡ fault 3 usage.Unknown
local_most = refl

local_more : show_with (codes "do=k/1/1/local:262145") ≡ fault 2 usage.Number
local_more = refl

-- all words of one command, in an order that the table does not have
whole : answer (codes "run" ∷ codes "v.cl" ∷ codes "do=k/4/2/a,-3,local:5" ∷ codes "show=a" ∷ codes "buf=a:short:in:x:y" ∷ codes "cores=2" ∷ []) ≡ Ok (ask.Run (codes "v.cl")
    (record { name = codes "a"; elem = Short; from = from.File (codes "x:y") } ∷ [])
    (record { entry = codes "k"; plan = record { range = record { dims = 1; global = 4 ∷ 1 ∷ 1 ∷ []; local = 2 ∷ 1 ∷ 1 ∷ [] }; args = Buffer 0 ∷ Int 4294967293 ∷ Local 5 ∷ [] } } ∷ [])
    (0 ∷ [])
    (record { cores = 2; warps = 16; lanes = 32; sets = 16; ways = 4; banks = 4; sched = sched.Round; evict = evict.Oldest; turns = 16777216 })
    false)
whole = refl
