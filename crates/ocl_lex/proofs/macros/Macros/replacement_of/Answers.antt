use Rattle.std.proofs.Common.{Some, ap, sym, ◌∙◌}
use Rattle.std.specs.Str.{bytes_eq}
use Rattle.std.specs.Map.{lookup}
use Rattle.ocl_lex.proofs.TableLaws.{lookup_table, items_of}
use Rattle.ocl_lex.proofs.macros.Macros.replacement_of.Goals as goal

pub returns-in-Some : goal.returns-in-Some
returns-in-Some c =
    ap Some c.as_slice.ensures.value ∙ ap items_of c.in-Some.ensures.value ∙ sym (lookup_table c.args.name.now c.self.inside.table.entries)
    ∙ ap (lookup (bytes_eq c.args.name.now)) c.self.view_is

pub returns-in-None : goal.returns-in-None
returns-in-None c =
    ap items_of c.in-None.ensures.value ∙ sym (lookup_table c.args.name.now c.self.inside.table.entries)
    ∙ ap (lookup (bytes_eq c.args.name.now)) c.self.view_is
