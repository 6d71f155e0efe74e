-- Jumps over tasks.
use Rattle.std.proofs.Common.{◌≡◌, List, ◌∷◌, ap, ◌∙◌}
use Rattle.kir.specs.Machine as machine
use Rattle.kir.specs.Machine.{Task}
use Rattle.kir.specs.Views.{SkipsTo, task_of, tasks_of}
use Rattle.kir.specs.declared.tasks.Task.{Task as HeldTask}

-- one task more is left behind
pub skips_more : (before : List Task) (held : List HeldTask) (t : HeldTask) (more : List HeldTask) (h : SkipsTo before (tasks_of held)) → held ≡ t ∷ more
    → ((ts : List Task) → SkipsTo (task_of t ∷ ts) ts) → SkipsTo before (tasks_of more)
skips_more before held t more h e plain =
    let one : SkipsTo (task_of t ∷ tasks_of more) (tasks_of more) = plain (tasks_of more) in
    let same : tasks_of held ≡ task_of t ∷ tasks_of more = ap tasks_of e in
    record {
      broken = λ vs ns. h.broken vs ns ∙ ap (λ ts. machine.broken ts vs ns) same ∙ one.broken vs ns;
      continued = λ vs ns. h.continued vs ns ∙ ap (λ ts. machine.continued ts vs ns) same ∙ one.continued vs ns;
    }
