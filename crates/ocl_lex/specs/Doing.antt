-- What the steps of reading lines promise.
use Rattle.std.specs.Prelude.{◌≡◌, ℕ, ◌⊎◌, List, [], ◌∷◌, ◌++◌, reverse, Result, Err, MatchResult}
use Rattle.std.specs.Borrow.{Bor}
use Rattle.std.specs.declared.alloc.Global.{Global}
use Rattle.std.specs.declared.vec.Vec.{Vec}
use Rattle.ocl_lex.specs.declared.context.Context.{Context}
use Rattle.ocl_lex.specs.declared.faults.LexFault.{LexFault}
use Rattle.ocl_lex.specs.declared.faults.LexFault.TheVariants as fault
use Rattle.ocl_lex.specs.declared.output.Output.{Output}
use Rattle.ocl_lex.specs.declared.parts.Lexeme.{Lexeme}
use Rattle.ocl_lex.specs.declared.pieces.Piece.{Piece}
use Rattle.ocl_lex.specs.Events.{Event, Stop}
use Rattle.ocl_lex.specs.Lines.{Effect, State, end_token, ends, events, faults_of, one_name, parts_of}
use Rattle.ocl_lex.specs.Telling.{answer}

-- events that are faults alone: there are none, or the first one is the answer
abbrev pub Raises : {T : Type 0} → Result T LexFault → List Event → Type 0
Raises result events = MatchResult result
    (λ _. events ≡ [])
    (λ f. (rest : List Event) × (events ≡ Stop f ∷ rest))

-- the macros and the conditions, the innermost first
abbrev pub state_of : Context → State
state_of c = record { macros = c.macros; conditions = reverse c.conditions.items }

-- what a line without tokens does
abbrev pub Silently : {T : Type 0} → Result T LexFault → Effect → State → Type 0
Silently result e now = MatchResult result
    (λ _. (e.events ≡ []) × (e.next ≡ now))
    (λ f. (f ≡ fault.Memory) ⊎ ((rest : List Event) × (e.events ≡ Stop f ∷ rest)))

-- what a line does
abbrev pub Does : {T : Type 0} → Result T LexFault → Output → Effect → Output → State → Type 0
Does result old e new now = MatchResult result
    (λ _. (e.next ≡ now) × ((more : List Event) → answer new more ≡ answer old (e.events ++ more)))
    (λ f. (f ≡ fault.Memory) ⊎ ((more : List Event) → answer old (e.events ++ more) ≡ Err f))

-- the one name of a directive
abbrev pub NamesOne : Result (Bor (List ℕ)) LexFault → List ℕ → Piece → List Piece → Type 0
NamesOne result text hash pieces = (s : State) (next : List ℕ → State) → MatchResult result
    (λ name. ((one_name text hash pieces s next).events ≡ []) × ((one_name text hash pieces s next).next ≡ next name.now))
    (λ f. (rest : List Event) × ((one_name text hash pieces s next).events ≡ Stop f ∷ rest))

-- the parts behind the name of a `#define`
abbrev pub ReadsParts : Result (Vec Lexeme Global) LexFault → List ℕ → List Piece → Type 0
ReadsParts result text pieces = MatchResult result
    (λ parts. (faults_of text pieces ≡ []) × (parts.items ≡ parts_of text pieces))
    (λ f. (f ≡ fault.Memory) ⊎ ((rest : List Event) × (faults_of text pieces ≡ Stop f ∷ rest)))

-- the lines of a text are read: what is still to come is its end
abbrev pub ReadsLines : {T : Type 0} → Result T LexFault → List ℕ → List (List Piece) → State → Output → State → Output → Type 0
ReadsLines result text rest state old now new = MatchResult result
    (λ _. answer new (ends (end_token text) now.conditions) ≡ answer old (events text state rest))
    (λ f. (f ≡ fault.Memory) ⊎ (answer old (events text state rest) ≡ Err f))
