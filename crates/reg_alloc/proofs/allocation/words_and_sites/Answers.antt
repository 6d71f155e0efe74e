use Rattle.std.proofs.Common.{◌≡◌, ℕ, List, ap, sym, ◌∙◌, Some, arith}
use Rattle.std.proofs.Math.Path.{fun_ext}
use Rattle.std.specs.Prelude.{slice_get}
use Rattle.vx_isa.specs.declared.instr.Instr.{Instr}
use Rattle.vcode.specs.Shapes.{vops_of}
use Rattle.reg_alloc.specs.Layout.{instrs_from, instrs_of, word_of_place}
use Rattle.reg_alloc.specs.Views.{starts_in}
use Rattle.reg_alloc.proofs.Broader.{all_more}
use Rattle.reg_alloc.proofs.Decoding.{words_decode}
use Rattle.reg_alloc.proofs.Standing.{places_are_within}
use Rattle.reg_alloc.proofs.allocation.words_and_sites.Goals as goal

pub instructions-requires-clause-within : goal.instructions-requires-clause-within
instructions-requires-clause-within c = all_more c.args.slots 256 (vops_of c.args.ops.now) c.requires.slots c.requires.within

pub instructions-requires-clause-near : goal.instructions-requires-clause-near
instructions-requires-clause-near c = λ q.
    let here = c.in_ok-starts.ensures.starts q in
    let within = places_are_within (vops_of c.args.ops.now) q in
    let low = c.requires.low in
    omega (arith, here, within, low)

pub encoded-requires : goal.encoded-requires
encoded-requires c =
    let ops = vops_of c.args.ops.now in
    let starts : starts_in c.in_ok-starts.starts ≡ word_of_place ops = fun_ext c.in_ok-starts.ensures.starts in
    let code : c.as_slice.result.now ≡ instrs_of c.args.slots ops =
    c.as_slice.ensures.value ∙ c.in_ok-code.ensures ∙ ap (λ (f : ℕ → ℕ). instrs_from c.args.slots f 0 ops) starts in
    record {
      fit = λ k i e.
          let there : slice_get (instrs_of c.args.slots ops) k ≡ Some i = sym (ap (λ (is : List Instr). slice_get is k) code) ∙ e in
          (words_decode c.args.slots ops c.requires.slots c.requires.within c.requires.low k i there).0;
    }
