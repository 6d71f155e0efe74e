use Rattle.std.proofs.Common.{◌≡◌, ◌++◌, map, take}
use Rattle.ocl_program.specs.declared.functions.CallSite.{CallSite}
use Rattle.ocl_measures.proofs.search.push_callees.Given as goal

abbrev pub invariant-loop-call : goal.invariant-loop-call
invariant-loop-call l = l.todo.items ≡ l.initial.todo.items ++ map (λ (c : CallSite). c.callee) (take l.call-index l.calls)
