use Rattle.std.proofs.Common.{ap, ◌∙◌}
use Rattle.std.specs.Str.{bytes_eq}
use Rattle.indexmap.specs.IndexMap.{insert_entry}
use Rattle.ocl_lex.specs.Tables.{table_of}
use Rattle.ocl_lex.proofs.TableLaws.{insert_table}
use Rattle.ocl_lex.proofs.macros.Macros.define.Goals as goal

pub returns : goal.returns
returns c =
    let es = c.self.inside.table.entries in
    ap table_of c.in_ok-insert.ensures.entries ∙ insert_table c.in_ok-name.name c.args.body es
    ∙ ap (λ k. insert_entry bytes_eq (table_of es) k c.args.body.items) c.in_ok-name.ensures.items
    ∙ ap (λ t. insert_entry bytes_eq t c.args.name.now c.args.body.items) c.self.view_is
