use Rattle.std.proofs.Common.{◌≡◌, ℕ, ◌*◌, ◌<◌, length, get_or, ap, ◌∙◌, subst, Ok, Err, IfOk, OnOk}
use Rattle.std.specs.Prelude.{Result}
use Rattle.std.specs.List.{flat_map, AllByRecursion}
use Rattle.std.proofs.lemmas.List.Elements.{recursion_from_All}
use Rattle.first_kernels.specs.FirstMemory.{stride, HasRun}
use Rattle.first_kernels.specs.FirstTree.{form_of}
use Rattle.vx_run.specs.Layout.{padded}
use Rattle.vx_run.proofs.MemoryLaws.{AreWhole, length-memory}
use Rattle.vx_run.proofs.LaunchLaws.{left_by, left_bytes, printed}
use Rattle.vx_run.proofs.launch.print_launch.Goals as goal

-- what is known of a value and besides it says more of the value
with_both : {T E : Type 0} (r : Result T E) (P : Type 0) (Q R : T → Type 0) → OnOk r P → IfOk r Q → (P → (t : T) → Q t → R t) → IfOk r R
with_both (Ok t) P Q R p q f = f p t q
with_both (Err e) P Q R p q f = tt

pub run_and_print-requires-clause-room : goal.run_and_print-requires-clause-room
run_and_print-requires-clause-room c =
    let run = c.args.run.now in
    let whole = recursion_from_All (λ bytes. length bytes ≡ 4 * run.items) c.args.contents.now c.requires.lengths in
    ap length (c.as_mut_slice.ensures.value ∙ c.in_ok-memory.ensures) ∙ length-memory run.items c.args.contents.now whole ∙ ap (λ n. n * stride run.items) c.requires.count

pub returns : goal.returns
returns c =
    let run = c.args.run.now in
    let k = form_of c.args.kernel.now in
    let contents = c.args.contents.now in
    let after = c.run_and_print.new.memory in
    let whole : AreWhole run.items contents = recursion_from_All (λ bytes. length bytes ≡ 4 * run.items) contents c.requires.lengths in
    let shows : AllByRecursion (λ b. b < length run.buffers) run.shows = recursion_from_All (λ b. b < length run.buffers) run.shows c.requires.shows in
    let before : c.as_mut_slice.result.now ≡ flat_map (padded run.items) contents = c.as_mut_slice.ensures.value ∙ c.in_ok-memory.ensures in
    let fits : (i : ℕ) → get_or (flat_map (padded run.items) contents) i 0 < 256 = λ i. subst (λ m. get_or m i 0 < 256) before (c.run_and_print.ensures.bytes_before i) in
    let leaves = left_bytes k run.arguments run.items run.buffers contents after c.requires.launchable whole fits in
    with_both c.run_and_print.result _ _ _ c.run_and_print.ensures.ran c.run_and_print.ensures.text (λ ran text is. (
      left_by k run.arguments run.items run.buffers contents after,
      leaves,
      is ∙ printed k run.arguments run.items run.buffers contents after whole c.run_and_print.ensures.bytes
          (subst (λ m. HasRun k run.arguments run.items (length run.buffers) m after) before ran) run.shows shows,
    ))
