-- What a step that adds to the output promises: the events that it stands for are gone from those still to come.
use Rattle.std.specs.Prelude.{◌≡◌, ◌⊎◌, List, ◌++◌, Result, Err, MatchResult}
use Rattle.ocl_tokens.specs.declared.tokens.Token.{Token}
use Rattle.ocl_lex.specs.declared.faults.LexFault.{LexFault}
use Rattle.ocl_lex.specs.declared.faults.LexFault.TheVariants as fault
use Rattle.ocl_lex.specs.declared.output.Output.{Output}
use Rattle.ocl_lex.specs.Events.{Event, within, with_front}

-- the tokens of the whole text, where some events are still to come
abbrev pub answer : Output → List Event → Result (List Token) LexFault
answer out events = with_front out.tokens.items (within out.left events)

-- events to come stand for others that were to come before; at a fault these end in it, unless memory ran out
abbrev pub TellsInFront : {T : Type 0} → Result T LexFault → Output → List Event → Output → List Event → Type 0
TellsInFront result old before new now = MatchResult result
    (λ _. (more : List Event) → answer new (now ++ more) ≡ answer old (before ++ more))
    (λ f. (f ≡ fault.Memory) ⊎ ((more : List Event) → answer old (before ++ more) ≡ Err f))

-- events are told
abbrev pub Tells : {T : Type 0} → Result T LexFault → Output → Output → List Event → Type 0
Tells result old new events = MatchResult result
    (λ _. (more : List Event) → answer new more ≡ answer old (events ++ more))
    (λ f. (f ≡ fault.Memory) ⊎ ((more : List Event) → answer old (events ++ more) ≡ Err f))
