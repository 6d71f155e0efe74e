-- The table of a map of names.
use Rattle.std.specs.Prelude.{ℕ, List, map}
use Rattle.std.specs.declared.alloc.Global.{Global}
use Rattle.std.specs.declared.vec.Vec.{Vec}
use Rattle.ocl_lex.specs.declared.parts.Lexeme.{Lexeme}
use Rattle.ocl_lex.specs.Macros.{Macros}

abbrev pub table_of : List (Vec ℕ Global × Vec Lexeme Global) → Macros
table_of entries = map (λ e. (e.0.items, e.1.items)) entries
