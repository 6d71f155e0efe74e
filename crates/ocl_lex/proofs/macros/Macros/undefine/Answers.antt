use Rattle.std.proofs.Common.{ap, ◌∙◌}
use Rattle.std.specs.Str.{bytes_eq}
use Rattle.indexmap.specs.IndexMap.{swap_remove_entry}
use Rattle.ocl_lex.specs.Tables.{table_of}
use Rattle.ocl_lex.proofs.TableLaws.{remove_table}
use Rattle.ocl_lex.proofs.macros.Macros.undefine.Goals as goal

pub returns : goal.returns
returns c =
    ap table_of c.swap_remove-earlier.ensures.entries ∙ remove_table c.args.name.now c.self.inside.table.entries
    ∙ ap (swap_remove_entry (bytes_eq c.args.name.now)) c.self.view_is
