-- Replacements that stand open, one inside the other: for each the macro's name and what is left of its replacement, the
-- outermost first.
use Rattle.std.specs.Prelude.{◌≡◌, ℕ, Bool, true, List, [], ◌∷◌, ◌++◌, Option, None, Some, Result}
use Rattle.std.specs.Borrow.{Bor}
use Rattle.std.specs.List.{flat_map}
use Rattle.std.specs.Option.{is_some}
use Rattle.std.specs.Str.{bytes_eq}
use Rattle.std.specs.Map.{lookup}
use Rattle.ocl_lex.specs.declared.faults.LexFault.{LexFault}
use Rattle.ocl_lex.specs.declared.output.Output.{Output}
use Rattle.ocl_lex.specs.declared.parts.Lexeme.{Lexeme}
use Rattle.ocl_lex.specs.declared.pieces.Piece.{Piece}
use Rattle.ocl_lex.specs.Events.{Event}
use Rattle.ocl_lex.specs.Macros.{Macros, replaced, without}
use Rattle.ocl_lex.specs.Telling.{TellsInFront}

abbrev pub Frames : Type 0
Frames = List (Bor (List ℕ) × Bor (List Lexeme))

-- the macros that the innermost replacement may use
abbrev pub seen : Macros → Frames → Macros
seen macros [] = macros
seen macros (f ∷ frames) = seen (without f.0.now macros) frames

-- what the open replacements still show
abbrev pub inner_events : List ℕ → Piece → Macros → List Lexeme → List Event
inner_events text at macros parts = flat_map (replaced text macros true at) parts

abbrev pub pending : List ℕ → Piece → Macros → Frames → List Event
pending text at macros [] = []
pending text at macros (f ∷ frames) = pending text at (without f.0.now macros) frames ++ inner_events text at (without f.0.now macros) f.1.now

abbrev pub is_open : List ℕ → Frames → Bool
is_open name frames = is_some (lookup (λ k. bytes_eq name k.now) frames)

-- a replacement that begins: its name and its parts
abbrev pub Opens : Option (Bor (List ℕ) × Bor (List Lexeme)) → List ℕ → Option (List Lexeme) → Type 0
Opens None name found = found ≡ None
Opens (Some f) name found = (found ≡ Some f.1.now) × (f.0.now ≡ name)

-- one part of the innermost replacement is told: what it shows, and then what the others still show
abbrev pub StepsOn : {T : Type 0} → Result T LexFault → List ℕ → Piece → Macros → Output → Frames → Lexeme → Output → Frames → Type 0
StepsOn result text at macros old frames part new frames_new =
    TellsInFront result old (replaced text (seen macros frames) true at part ++ pending text at macros frames) new (pending text at macros frames_new)

-- what is left of the innermost replacement
abbrev pub IsInnermost : Option (Bor (List Lexeme)) → Frames → Type 0
IsInnermost None frames = frames ≡ []
IsInnermost (Some parts) frames = (outer : Frames) × (name : Bor (List ℕ)) × (frames ≡ outer ++ (name, parts) ∷ [])
