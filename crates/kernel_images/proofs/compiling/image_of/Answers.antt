use Rattle.std.proofs.Common.{◌≡◌, ◌≤◌, refl, sym, ap, ◌∙◌, map, slice_get, Some, List, arith, length}
use Rattle.std.proofs.lemmas.Option.{slice_get_read}
use Rattle.ocl_program.specs.Nodes.{FunctionNode}
use Rattle.ocl_program.specs.Shapes.{function_node}
use Rattle.ocl_program.specs.declared.functions.LocalArray.{LocalArray}
use Rattle.vcode.specs.Shapes.{vcode_of, vops_of}
use Rattle.vcode.specs.Words.{words as count_of}
use Rattle.simt_lowering.specs.Laid.{array_bytes, kind_of}
use Rattle.lane_kernels.specs.Sizes.{most_words}
use Rattle.reg_alloc.specs.Layout.{words_of}
use Rattle.image_lanes.proofs.Whole.{lanes_do_as_source}
use Rattle.kernel_images.proofs.Named.{node_at}
use Rattle.kernel_images.proofs.compiling.image_of.Goals as goal

pub sizes_of-requires : goal.sizes_of-requires
sizes_of-requires c =
    let program : List FunctionNode = map function_node c.args.program.now.functions.items in
    let at : slice_get program c.args.kernel ≡ Some (function_node c.index-function.result.now) = node_at c.args.program.now.functions.items c.args.kernel c.index-function.result.now (slice_get_read c.args.program.now.functions.items (length c.args.program.now.functions.items) c.args.kernel c.index-function.result.now refl c.requires.exists c.index-function.ensures) in
    λ k array there.
    let ready = c.in_ok-code.ensures.passes.ready in
    let same = ready.same_arrays (function_node c.index-function.result.now) at in
    (ready.ready.small_arrays k array (ap (λ (xs : List LocalArray). slice_get xs k) (same ∙ sym c.as_slice-2.ensures.value) ∙ there)).1

pub returns : goal.returns
returns c =
    let program : List FunctionNode = map function_node c.args.program.now.functions.items in
    let at : slice_get program c.args.kernel ≡ Some (function_node c.index-function.result.now) = node_at c.args.program.now.functions.items c.args.kernel c.index-function.result.now (slice_get_read c.args.program.now.functions.items (length c.args.program.now.functions.items) c.args.kernel c.index-function.result.now refl c.requires.exists c.index-function.ensures) in
    let few : count_of (vops_of c.in_ok-code.code.ops.items) ≤ most_words program c.args.kernel = c.in_ok-code.ensures.few_words in
    let most : most_words program c.args.kernel ≤ 65536 = c.requires.small.1 in
    let fits : count_of (vops_of c.in_ok-code.code.ops.items) ≤ 65536 = omega arith in
    record {
      image = record {
        kernel = function_node c.index-function.result.now;
        is = at;
        ops = vops_of c.in_ok-code.code.ops.items;
        does = c.in_ok-code.ensures.asks;
        at_words =
            lanes_do_as_source program c.args.kernel (vcode_of c.in_ok-code.code) c.in_ok-made.made.words c.in_ok-made.made.sites c.in_ok-made.made.slots
            (record {
              asks = c.in_ok-code.ensures.asks;
              passes = c.in_ok-code.ensures.passes;
              registers = c.in_ok-code.ensures.registers;
              written = c.in_ok-code.ensures.written;
              accesses = c.in_ok-code.ensures.accesses;
              block = c.in_ok-code.ensures.block;
            })
            (record {
              fits = fits;
              words = c.in_ok-made.ensures.words ∙ ap (λ n. words_of n (vops_of c.in_ok-code.code.ops.items)) c.in_ok-made.ensures.slots;
              sites = c.in_ok-made.ensures.sites;
              slots = c.in_ok-made.ensures.slots;
              small = c.in_ok-made.ensures.small;
            });
        words = c.in_ok-made.ensures.words;
        decoded = c.in_ok-made.ensures.decoded;
        sites = c.in_ok-made.ensures.sites;
        slots = c.in_ok-made.ensures.small;
        few = let few = c.in_ok-code.ensures.few_words in let counted = c.in_ok-made.ensures.counted in omega arith;
        params = c.in_ok-params.ensures ∙ ap (map kind_of) c.as_slice.ensures;
        locals = c.in_ok-locals.ensures ∙ ap (map array_bytes) c.as_slice-2.ensures.value;
      };
    }
