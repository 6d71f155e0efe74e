use Rattle.std.specs.Prelude.{ℕ, List, ◌++◌, codes}
use Rattle.std.specs.Fmt.{decimal}
use Rattle.vx_base.specs.declared.types.Pos.{Pos}

-- line:column
abbrev pub pos_text : Pos → List ℕ
pos_text p = decimal p.line ++ codes ":" ++ decimal p.col
