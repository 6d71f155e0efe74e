use Rattle.std.proofs.Common.{rules, ◌≡◌, ℕ, ◌+◌, ◌<◌, ◌≤◌, sym, subst, ◌∙◌, inr}
use Rattle.launch_loader.specs.Checking.{local_bytes}
use Rattle.launch_loader.specs.Conditions.{Case, case_of}
use Rattle.launch_loader.specs.Locals.{declared_words, given_words}
use Rattle.launch_loader.specs.Refusals.{TakesArguments, TakesRange}
use Rattle.launch_loader.proofs.LocalSums.{all_sum}
use Rattle.launch_loader.proofs.checked.check_all.Goals as goal

-- the sum of the bytes is that of the arrays, since the arguments are taken
pub returns-then-bytes-gt-LOCAL_LIMIT : goal.returns-then-bytes-gt-LOCAL_LIMIT
returns-then-bytes-gt-LOCAL_LIMIT c =
    let d : Case = case_of c.args.image.now c.args.plan.now c.args.shape.now c.args.buffers.now in
    let taken : TakesArguments c.args.buffers.now c.args.image.now.params c.args.plan.now.args = search rules in
    let range : TakesRange c.args.plan.now.range c.args.shape.now.warps c.args.shape.now.lanes = search rules in
    let bytes : c.all_local_bytes-bytes.result ≡
    given_words c.args.image.now.params c.args.plan.now.args + declared_words c.args.image.now.locals = search rules in
    let same : c.all_local_bytes-bytes.result ≡ local_bytes d = bytes ∙ sym (all_sum d taken) in
    inr (inr (taken, range, (subst (λ (n : ℕ). 262144 < n) same c.if-bytes-gt-LOCAL_LIMIT.true, same)))

pub returns : goal.returns
returns c =
    let d : Case = case_of c.args.image.now c.args.plan.now c.args.shape.now c.args.buffers.now in
    let taken : TakesArguments c.args.buffers.now c.args.image.now.params c.args.plan.now.args = search rules in
    let range : TakesRange c.args.plan.now.range c.args.shape.now.warps c.args.shape.now.lanes = search rules in
    let bytes : c.all_local_bytes-bytes.result ≡
    given_words c.args.image.now.params c.args.plan.now.args + declared_words c.args.image.now.locals = search rules in
    let same : c.all_local_bytes-bytes.result ≡ local_bytes d = bytes ∙ sym (all_sum d taken) in
    record { arguments = taken; range = range; locals = subst (λ (n : ℕ). n ≤ 262144) same c.if-bytes-gt-LOCAL_LIMIT.false }
