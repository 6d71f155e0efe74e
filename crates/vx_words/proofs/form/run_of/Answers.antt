use Rattle.std.proofs.Common.{◌≤◌, length, refl, arith, rules}
use Rattle.vx_words.specs.Words.{AreNumbersOf}
use Rattle.vx_words.proofs.NumberedNames.{AreNumbersOf-length}
use Rattle.vx_words.proofs.form.run_of.Goals as goal

pub returns-then-len-gt-MOST_SHOWS : goal.returns-then-len-gt-MOST_SHOWS
returns-then-len-gt-MOST_SHOWS c = (
  refl,
  refl,
  λ x h.
      let same = AreNumbersOf-length x.buffers x.shows c.args.parts.shows h.1.shows in
      let few = h.1.few_shows in
      omega arith,
)

pub returns : goal.returns
returns c =
    let shows : AreNumbersOf c.args.parts.buffers c.in_ok-shows.shows c.args.parts.shows = search rules in
    let few : length c.in_ok-shows.shows ≤ 16 = omega (arith, AreNumbersOf-length c.args.parts.buffers c.in_ok-shows.shows c.args.parts.shows shows) in (
      search rules,
      record {
        buffers = refl;
        names = c.in_ok-launch.launch.names;
        launch = c.in_ok-launch.ensures;
        arguments = search rules;
        shows = shows;
        few_buffers = omega arith;
        few_shows = few;
        distinct = search rules;
      },
    )
