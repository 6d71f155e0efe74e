use Rattle.std.proofs.Common.{◌≡◌, sym, ◌∙◌, rules}
use Rattle.command_words.proofs.RunWords.{run_again}
use Rattle.command_words.proofs.reading.run_of.Goals as goal

pub returns : goal.returns
returns c =
    let first : c.as_slice.result.now ≡ c.in_ok-buffers.buffers = search rules in
    let second : c.as_slice-2.result.now ≡ c.in_ok-buffers.buffers = search rules in
    run_again c.args.file.now c.args.words.now c.in_ok-file.file c.in_ok-buffers.buffers c.as_slice.result.now c.as_slice-2.result.now c.in_ok-launches.launches c.in_ok-shows.shows c.shape_of.result c.stats_of.result
    (sym c.has_launch.ensures ∙ c.if-not-has_launch.false) c.in_ok-file.ensures c.in_ok-buffers.ensures first c.in_ok-launches.ensures second c.in_ok-shows.ensures c.shape_of.ensures c.stats_of.ensures
