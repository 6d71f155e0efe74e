-- A warp that starts is one at the words, and what stands around it is laid where the launch is accepted.
use Rattle.std.proofs.Common.{◌≡◌, ℕ, ◌+◌, ◌^◌, ◌<◌, true, false, [], ap, sym, arith, refl}
use Rattle.std.proofs.lemmas.Bool.{true≢false}
use Rattle.reg_alloc.specs.Plain.{held}
use Rattle.reg_alloc.specs.Blocks.{address_of_word}
use Rattle.reg_alloc.specs.Layout.{word_of_place}
use Rattle.image_warps.specs.Lanes.{Ground, Same}
use Rattle.image_warps.specs.Warps.{block_at}
use Rattle.image_warps.specs.Laws.{LaunchesAreLaid, StartLaw, nothing_known}

nothing_same : (g : Ground) (l : ℕ) (frame : ℕ → ℕ) → ((r : ℕ) → frame r < 2 ^ 32) → Same g l nothing_known (λ r. 0) (held (λ r. 0) frame)
nothing_same g l frame words = record {
  kept = λ r less written. absurd (true≢false (sym written));
  words = words;
  block = λ based. absurd (true≢false (sym based));
  frame = λ based. absurd (true≢false (sym based));
}

pub start_law : StartLaw
start_law g ops place frames words =
    let none : word_of_place ops place ≡ word_of_place ops place + 0 = omega arith in (
      ap (λ n. record { pc = address_of_word n; mask = 1; registers = λ l r. 0; stack = [] }) none,
      record {
        left = λ op rest there. (block_at g ops place op, refl);
        active = λ l low active. (held (λ r. 0) (frames l), (nothing_same g l (frames l) (words l), refl));
        idle = λ l low none. nothing_same g l (frames l) (words l);
      },
    )

pub launches_are_laid : LaunchesAreLaid
launches_are_laid p ok located group core warp places within core_low warp_low = record {
  slots = ok.slots;
  warp = warp_low;
  lanes = ok.lanes;
  core = core_low;
  count = refl;
  words = λ k. located.block_small group k within;
  block_word = λ l k low less. located.block_word group warp l k less;
  block_in = λ k less. located.block_in_memory k less;
  own_word = λ l r low less. located.own_word group warp l r warp_low low less;
  own_in = λ l r low less. located.own_in_memory warp l r warp_low low less;
}
