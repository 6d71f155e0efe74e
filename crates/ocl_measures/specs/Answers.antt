-- What the steps of a search and the search of a program answer.
use Rattle.std.specs.Prelude.{◌≡◌, ◌+◌, ◌<◌, List, length, Option, None, Some}
use Rattle.ocl_program.specs.Nodes.{FunctionNode}
use Rattle.ocl_measures.specs.Recursion.{IsFirstRecursive, IsRecursive, NoneRecursive}
use Rattle.ocl_measures.specs.Search.{IsNext, IsSearch, mark_at}
use Rattle.ocl_measures.specs.Totals.{AreTotals}
use Rattle.ocl_measures.specs.declared.search.AllTotals.{AllTotals}
use Rattle.ocl_measures.specs.declared.search.AllTotals.TheVariants as all
use Rattle.ocl_measures.specs.declared.search.Found.{Found}
use Rattle.ocl_measures.specs.declared.search.Found.TheVariants as found
use Rattle.ocl_measures.specs.declared.search.Mark.TheVariants.{Unseen as not_met}
use Rattle.ocl_measures.specs.declared.search.Search.{Search}

-- what a search keeps
abbrev pub Searches : List FunctionNode → Search → Type 0
Searches program s = IsSearch program s.marks.items s.totals.items s.path.items s.todo.items

-- where a search stops: at a call of a function that has not been met, at a function that reaches itself, or at the end
abbrev pub RunsTo : Found → List FunctionNode → Search → Type 0
RunsTo (found.Unseen c) program s = IsNext s.path.items s.todo.items c × (mark_at s.marks.items c ≡ not_met)
RunsTo (found.Cycle c) program s = IsRecursive program c
RunsTo found.Nothing program s = (length s.path.items ≡ 0) × (length s.todo.items ≡ 0)

-- where one step stops, if it does not leave less to do
abbrev pub StepsTo : Option Found → List FunctionNode → Search → Search → Type 0
StepsTo None program s t = length t.path.items + length t.todo.items < length s.path.items + length s.todo.items
StepsTo (Some stop) program s t = RunsTo stop program t

-- the totals of all functions, none of which reaches itself, or some function that does
abbrev pub SearchedTo : AllTotals → List FunctionNode → Type 0
SearchedTo (all.Known totals) program = AreTotals program (length program) totals.items × NoneRecursive program
SearchedTo (all.Recursive k) program = IsRecursive program k

-- the totals of all functions, none of which reaches itself, or the first that does
abbrev pub TotalsTo : AllTotals → List FunctionNode → Type 0
TotalsTo (all.Known totals) program = AreTotals program (length program) totals.items × NoneRecursive program
TotalsTo (all.Recursive k) program = IsFirstRecursive program k
