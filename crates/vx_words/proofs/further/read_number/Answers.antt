use Rattle.std.proofs.Common.{◌≡◌, ◌<◌, ◌^◌, refl, arith, rules}
use Rattle.vx_words.proofs.Texts.{number_same}
use Rattle.std.specs.Fmt.{decimal}
use Rattle.vx_words.proofs.further.read_number.Goals as goal

pub returns-in_default : goal.returns-in_default
returns-in_default c = (
  refl,
  refl,
  λ n h.
      let e : c.args.text.now ≡ decimal c.in-Some.number = search rules in
      let small : c.in-Some.number < 2 ^ 32 = search rules in
      let below : n < 2 ^ 32 = omega (arith, h.1) in
      omega (arith, h.1, number_same c.args.text.now c.in-Some.number n small below e h.2),
)

pub returns-in_default-2 : goal.returns-in_default-2
returns-in_default-2 c = (
  refl,
  refl,
  λ n h.
      let e : c.args.text.now ≡ decimal c.in-Some.number = search rules in
      let small : c.in-Some.number < 2 ^ 32 = search rules in
      let below : n < 2 ^ 32 = omega (arith, h.1) in
      omega (arith, h.0, number_same c.args.text.now c.in-Some.number n small below e h.2),
)
