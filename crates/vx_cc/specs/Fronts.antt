-- What the bytes of a kernel file come to: the program of the file, or its first fault.
use Rattle.std.specs.Prelude.{◌≡◌, ℕ, List, Result, Ok, Err}
use Rattle.ocl_ast.specs.Trees.{FunctionTree}
use Rattle.ocl_lex.specs.Lines.{tokens_of}
use Rattle.ocl_lex.specs.declared.faults.LexFault.{LexFault}
use Rattle.ocl_parser.specs.Faults.{IsRefused}
use Rattle.ocl_parser.specs.Limits.{AreWithin}
use Rattle.ocl_parser.specs.Units.{Derives}
use Rattle.ocl_parser.specs.declared.parsing.ParseFault.{ParseFault}
use Rattle.ocl_program.specs.Nodes.{FunctionNode}
use Rattle.ocl_tokens.specs.declared.tokens.Token.{Token}
use Rattle.ocl_types.specs.Functions.{program_of}
use Rattle.ocl_types.specs.declared.faults.TypeFault.{TypeFault}
use Rattle.vx_cc.specs.declared.faults.SourceFault.{SourceFault}
use Rattle.vx_cc.specs.Faults.{lex_fault, parse_fault, type_fault}

-- the functions that a file's tokens are a text of, within the limits
pub record Reads (bytes : List ℕ) (functions : List FunctionTree) : Type 0 where
  pub tokens : List Token
  pub lexed : tokens_of bytes ≡ Ok tokens
  pub derives : Derives tokens functions
  pub within : AreWithin functions

-- Its tokens have a fault, or one of them is refused, or its functions have a fault of their types; or it has a program.
pub data FrontOf (bytes : List ℕ) : Result (List FunctionNode) SourceFault → Type 0 where
  BadTokens : (fault : LexFault) → tokens_of bytes ≡ Err fault → FrontOf bytes (Err (lex_fault fault))
  BadTree : (tokens : List Token) (fault : ParseFault) → tokens_of bytes ≡ Ok tokens → IsRefused fault tokens → FrontOf bytes (Err (parse_fault fault))
  BadTypes : (functions : List FunctionTree) (fault : TypeFault) → Reads bytes functions → program_of functions ≡ Err fault → FrontOf bytes (Err (type_fault fault))
  HasProgram : (functions : List FunctionTree) (program : List FunctionNode) → Reads bytes functions → program_of functions ≡ Ok program →
      FrontOf bytes (Ok program)
