use Rattle.std.proofs.Common.{◌≡◌, ℕ, ◌*◌, ◌≤◌, List, length, take, ap, arith}
use Rattle.std.proofs.lemmas.List.{length-take}
use Rattle.vx_disasm.specs.Texts.{lines_text}
use Rattle.vx_disasm.proofs.PrintedLengths.{text_is_short}
use Rattle.vx_disasm.proofs.PrintedTexts.{text_is_assembled}
use Rattle.vx_disasm.proofs.texts.disassemble.Goals as goal

pub returns-clause-short : goal.returns-clause-short
returns-clause-short c =
    let shown : List ℕ = take c.loop-word.word-index c.args.words.now in
    let same : length c.loop-word.items.items ≡ length (lines_text shown) = ap (λ (l : List ℕ). length l) c.loop-word.invariant in
    let bound : length (lines_text shown) ≤ 32 * length shown = text_is_short shown in
    λ few. omega (arith, same, bound, length-take c.loop-word.word-index c.args.words.now, few)

pub returns-in_err-push_word-clause-back : goal.returns-in_err-push_word-clause-back
returns-in_err-push_word-clause-back c = λ few. text_is_assembled c.args.words.now few (λ k. omega (arith, c.type_inv.words k))

pub returns-clause-back : goal.returns-clause-back
returns-clause-back c = λ few. text_is_assembled c.args.words.now few (λ k. omega (arith, c.type_inv.words k))
