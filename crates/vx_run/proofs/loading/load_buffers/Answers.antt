use Rattle.std.proofs.Common.{◌≡◌, ◌<◌, ◌≤◌, ◌+◌, [], length, get_or, drop, subst, sym, ap, ◌∙◌, arith}
use Rattle.std.proofs.lemmas.List.{drop_all}
use Rattle.std.proofs.lemmas.Result.{err_from_is_err_and}
use Rattle.vx_run.specs.Answers.{Brings, FromBuffers, NoBuffers}
use Rattle.vx_run.proofs.LoadingLaws.{HasLoaded, HasLoaded-next, HasLoaded-stops}
use Rattle.vx_run.proofs.loading.load_buffers.Goals as goal

pub returns-in_err-bytes-clause-stop : goal.returns-in_err-bytes-clause-stop
returns-in_err-bytes-clause-stop g c =
    let held = g.F.Files.held in
    let run = c.args.run.now in
    let word = c.word-item.result in
    let all : c.deref-word-items.result.now ≡ run.buffers = c.deref-word-items.ensures.value ∙ ap (λ r. r.buffers) c.run.view_is in
    let within = subst (λ l. c.loop-index.index < length l) all c.loop-index-test.true in
    let is = subst (λ l. word ≡ get_or l c.loop-index.index word) all c.word-item.is in
    let p = err_from_is_err_and c.from_residual.result c.from_residual.ensures.1 in
    rw (p.1, p.2) (HasLoaded-stops (held c.args.files.now) run c.loop-index.index c.loop-index.contents.items word _ within is c.loop-index.invariant.3
    (λ k more sofar. rw (c.loop-index.invariant.0) at (c.in_err-bytes.ensures.stop k more sofar)))

pub loop-index-preserved : goal.loop-index-preserved
loop-index-preserved g c =
    let held = g.F.Files.held in
    let run = c.args.run.now in
    let word = c.word-item.result in
    let all : c.deref-word-items.result.now ≡ run.buffers = c.deref-word-items.ensures.value ∙ ap (λ r. r.buffers) c.run.view_is in
    let within = subst (λ l. c.loop-index.index < length l) all c.loop-index-test.true in
    let is = subst (λ l. word ≡ get_or l c.loop-index.index word) all c.word-item.is in
    let brings = subst (λ h. Brings h word.from c.in_ok-bytes.bytes) c.loop-index.invariant.0 c.in_ok-bytes.ensures.brings in
    let next = HasLoaded-next (held c.args.files.now) run c.loop-index.index c.loop-index.contents.items word c.in_ok-bytes.bytes within is brings c.in_ok-bytes.ensures.length c.loop-index.invariant.3 in (
      c.in_ok-bytes.ensures.held ∙ c.loop-index.invariant.0,
      omega (arith, c.in_ok-bytes.ensures.faults, c.loop-index.invariant.1),
      omega (arith, c.in_ok-bytes.ensures.misses, c.loop-index.invariant.2),
      subst (HasLoaded (held c.args.files.now) run (c.loop-index.index + 1)) (sym c.in_ok-push.ensures.items) next,
    )

pub returns-clause-loaded : goal.returns-clause-loaded
returns-clause-loaded g c = λ k o rest.
    let held = g.F.Files.held in
    let run = c.args.run.now in
    let all : c.deref-word-items.result.now ≡ run.buffers = c.deref-word-items.ensures.value ∙ ap (λ r. r.buffers) c.run.view_is in
    let end = subst (λ l. length l ≤ c.loop-index.index) all c.loop-index-test.false in
    let none : drop c.loop-index.index run.buffers ≡ [] = drop_all c.loop-index.index run.buffers end in
    c.loop-index.invariant.3.leads k o (subst (λ bs. FromBuffers (held c.args.files.now) run k c.loop-index.index bs c.loop-index.contents.items o) (sym none)
    (NoBuffers c.loop-index.index c.loop-index.contents.items o rest))
