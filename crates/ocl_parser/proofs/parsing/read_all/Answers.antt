use Rattle.std.proofs.Common.{◌<◌, ◌≤◌, arith, inr, List, length, map}
use Rattle.ocl_ast.specs.Shapes.{function_tree}
use Rattle.ocl_ast.specs.Trees.{FunctionTree}
use Rattle.ocl_parser.proofs.RunSteps.{reads_more, ends_more, step_ends, step_can, step_fits, stops_refused, stops_memory, no_text, never_unended, read_whole}
use Rattle.ocl_parser.proofs.parsing.read_all.Goals as goal

pub returns-in-Err-clause-refused : goal.returns-in-Err-clause-refused
returns-in-Err-clause-refused c =
    let low : c.loop-token.token-index < length c.args.tokens.now = omega (arith, c.loop-token-test.true) in
    stops_refused c.args.tokens.now c.loop-token.token-index c.token-item.result c.loop-token.focus (map function_tree c.loop-token.functions) c.in-Err.fault low
    c.token-item.is c.loop-token.invariant.reads c.loop-token.invariant.can c.loop-token.invariant.fits c.in-Err.ensures.stops

pub returns-in-Err-clause-read : goal.returns-in-Err-clause-read
returns-in-Err-clause-read c =
    let low : c.loop-token.token-index < length c.args.tokens.now = omega (arith, c.loop-token-test.true) in
    stops_memory c.args.tokens.now c.loop-token.token-index c.token-item.result c.loop-token.focus (map function_tree c.loop-token.functions) c.in-Err.fault low
    c.token-item.is c.loop-token.invariant.reads c.loop-token.invariant.can c.loop-token.invariant.fits c.in-Err.ensures.stops

pub loop-token-preserved : goal.loop-token-preserved
loop-token-preserved c =
    let low : c.loop-token.token-index < length c.args.tokens.now = omega (arith, c.loop-token-test.true) in
    let fs : List FunctionTree = map function_tree c.loop-token.functions in
    let gs : List FunctionTree = map function_tree c.read_token.new.functions in
    record {
      reads = reads_more c.args.tokens.now c.loop-token.token-index c.token-item.result c.loop-token.focus c.in-Ok.next fs gs low c.token-item.is
          c.loop-token.invariant.reads c.in-Ok.ensures.goes;
      ended = ends_more c.args.tokens.now c.loop-token.token-index c.token-item.result c.in-Ok.next low c.token-item.is
          (step_ends c.token-item.result c.loop-token.focus c.in-Ok.next fs gs c.in-Ok.ensures.goes);
      can = step_can c.token-item.result c.loop-token.focus c.in-Ok.next fs gs c.in-Ok.ensures.goes c.loop-token.invariant.can;
      fits = step_fits c.token-item.result c.loop-token.focus c.in-Ok.next fs gs c.in-Ok.ensures.goes c.loop-token.invariant.can c.in-Ok.ensures.room c.loop-token.invariant.fits;
    }

pub returns-then-is_ended-clause-functions : goal.returns-then-is_ended-clause-functions
returns-then-is_ended-clause-functions c =
    let low : length c.args.tokens.now ≤ c.loop-token.token-index = omega (arith, c.loop-token-test.false) in
    let high : c.loop-token.token-index ≤ length c.args.tokens.now = omega (arith, c.loop-token.auto.token-index-end) in
    read_whole c.args.tokens.now c.loop-token.token-index c.loop-token.focus (map function_tree c.loop-token.functions) low high
    c.loop-token.invariant.reads (c.if-is_ended.ensures (map function_tree c.loop-token.functions))

pub returns-else-is_ended-clause-refused : goal.returns-else-is_ended-clause-refused
returns-else-is_ended-clause-refused c =
    let low : length c.args.tokens.now ≤ c.loop-token.token-index = omega (arith, c.loop-token-test.false) in
    let high : c.loop-token.token-index ≤ length c.args.tokens.now = omega (arith, c.loop-token.auto.token-index-end) in
    inr (λ e. absurd (never_unended c.args.tokens.now c.loop-token.token-index c.loop-token.focus low high c.loop-token.invariant.ended c.if-is_ended.ensures e))

pub returns-then-is_ended-clause-within : goal.returns-then-is_ended-clause-within
returns-then-is_ended-clause-within c = c.loop-token.invariant.fits.1

pub returns-else-is_ended-clause-read : goal.returns-else-is_ended-clause-read
returns-else-is_ended-clause-read c =
    let low : length c.args.tokens.now ≤ c.loop-token.token-index = omega (arith, c.loop-token-test.false) in
    let high : c.loop-token.token-index ≤ length c.args.tokens.now = omega (arith, c.loop-token.auto.token-index-end) in
    λ fs d w.
    absurd (no_text c.args.tokens.now c.loop-token.token-index c.loop-token.focus (map function_tree c.loop-token.functions) low high
    c.loop-token.invariant.reads (c.if-is_ended.ensures (map function_tree c.loop-token.functions)) fs d)
