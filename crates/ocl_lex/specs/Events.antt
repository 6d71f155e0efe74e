-- What reading a text shows, and the limit on it.
use Rattle.std.specs.Prelude.{ℕ, zero, suc, List, [], ◌∷◌, ◌++◌, Result, Ok, Err}
use Rattle.vx_base.specs.declared.types.Pos.{Pos}
use Rattle.ocl_tokens.specs.declared.tokens.Token.{Token}
use Rattle.ocl_lex.specs.declared.faults.LexFault.{LexFault}
use Rattle.ocl_lex.specs.declared.faults.LexFault.TheVariants as fault

-- a token, a macro replaced (with the position of the use in the text), or a fault
pub data Event : Type 0 where
  Show : Token → Event
  Use : Pos → Event
  Stop : LexFault → Event

abbrev pub with_front : List Token → Result (List Token) LexFault → Result (List Token) LexFault
with_front before (Ok tokens) = Ok (before ++ tokens)
with_front before (Err f) = Err f

-- The tokens that are shown, where there are at most n tokens and replaced macros; else the first fault, or the first
-- token or use past n.
unfoldable pub within : ℕ → List Event → Result (List Token) LexFault
within n [] = Ok []
within n (Stop f ∷ events) = Err f
within zero (Show t ∷ events) = Err (fault.TooManyTokens t.pos)
within (suc n) (Show t ∷ events) = with_front (t ∷ []) (within n events)
within zero (Use pos ∷ events) = Err (fault.TooManyTokens pos)
within (suc n) (Use pos ∷ events) = within n events
