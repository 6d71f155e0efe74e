use Rattle.std.proofs.Common.{map}
use Rattle.vx_words.specs.WordForms.{IsParts, further_of}
use Rattle.vx_words.proofs.form.parts_of.Given as goal

abbrev pub invariant-loop-word : goal.invariant-loop-word
invariant-loop-word l = IsParts (map further_of l.yielded) (record { buffers = l.buffers.items; launches = l.launches.items; shows = l.shows.items })
