use Rattle.std.proofs.Common.{◌≡◌, ℕ, ◌+◌, List, [], ◌∷◌, ◌++◌, inr, map, take, drop, is_some, ◌||◌, length, sym, ap, subst, ◌∙◌, arith}
use Rattle.std.specs.Borrow.{Bor}
use Rattle.std.specs.Map.{lookup}
use Rattle.std.specs.Str.{bytes_eq}
use Rattle.ocl_ast.specs.Shapes.{function_tree}
use Rattle.ocl_types.specs.Functions.{names_from}
use Rattle.ocl_types.specs.Names.{builtin_named, function_from}
use Rattle.ocl_types.specs.Tables.{NumbersOf, trees_of}
use Rattle.ocl_types.proofs.Lists.{next_left, next_taken, take_counted}
use Rattle.ocl_types.proofs.NameLaws.{name_twice, none_found, number_added, one_name_more}
use Rattle.ocl_types.proofs.functions.Functions.new.Goals as goal

pub returns-then-is_taken : goal.returns-then-is_taken
returns-then-is_taken c =
    let fs = c.args.functions.now in let k = c.loop-number.number in let f = c.index-functions-number.result in let name = c.as_slice-name.result.now in
    let taken = ap (λ n. is_some (function_from 0 n (take k (trees_of fs))) || is_some (builtin_named n)) (sym c.as_slice-name.ensures) ∙
    ap (λ found. is_some found || is_some (builtin_named name)) (sym (c.loop-number.invariant.0 name)) ∙ sym c.is_taken.ensures ∙ c.if-is_taken.true in
    inr (sym c.loop-number.invariant.1 ∙ ap (names_from (take k (trees_of fs))) (next_left function_tree fs k f (omega arith) c.index-functions-number.is) ∙
    name_twice (take k (trees_of fs)) (drop (k + 1) (trees_of fs)) (function_tree f) taken)

pub loop-number-preserved : goal.loop-number-preserved
loop-number-preserved c =
    let fs = c.args.functions.now in let k = c.loop-number.number in let f = c.index-functions-number.result in let name = c.as_slice-name.result.now in
    let untaken = sym c.is_taken.ensures ∙ c.if-is_taken.false in
    let free = ap (λ n. is_some (function_from 0 n (take k (trees_of fs))) || is_some (builtin_named n)) (sym c.as_slice-name.ensures) ∙
    ap (λ found. is_some found || is_some (builtin_named name)) (sym (c.loop-number.invariant.0 name)) ∙ untaken in
    let absent = none_found (lookup (λ (q : Bor (List ℕ)). bytes_eq name q.now) c.loop-number.numbers.entries) (is_some (builtin_named name)) untaken in
    let taken = next_taken function_tree fs k f (omega arith) c.index-functions-number.is in
    let added : NumbersOf c.insert.new.self.entries (take k (trees_of fs) ++ function_tree f ∷ []) =
    number_added c.loop-number.numbers c.insert.new.self.entries (take k (trees_of fs)) (function_tree f) c.as_slice-name.result k c.loop-number.invariant.0 absent c.as_slice-name.ensures (take_counted function_tree fs k (omega arith)) c.in-Ok.ensures.entries in (
      subst (NumbersOf c.insert.new.self.entries) (sym taken) added,
      ap (λ l. names_from l (drop (k + 1) (trees_of fs))) taken ∙ sym (one_name_more (take k (trees_of fs)) (drop (k + 1) (trees_of fs)) (function_tree f) free) ∙
          sym (ap (names_from (take k (trees_of fs))) (next_left function_tree fs k f (omega arith) c.index-functions-number.is)) ∙ c.loop-number.invariant.1,
    )
