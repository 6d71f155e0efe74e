use Rattle.std.proofs.Common.{ℕ, List, ◌∙◌, ap, arith}
use Rattle.std.specs.Prelude.{nat_eq}
use Rattle.std.specs.List.{common_prefix_len}
use Rattle.asm_text.specs.Mnemonics.{all_mnemonics}
use Rattle.asm_text.specs.declared.mnemonics.Mnemonic.TheVariants.{Lui}
use Rattle.vx_asm.proofs.Prefixes.{known_goes_on, known_ends}
use Rattle.vx_asm.proofs.lines.known_bytes.Goals as goal

pub loop-mnemonic-preserved : goal.loop-mnemonic-preserved
loop-mnemonic-preserved c = rw c.max-most.ensures (known_goes_on c.args.word.now all_mnemonics c.loop-mnemonic.mnemonic-index c.loop-mnemonic.most c.common_len.result Lui (omega arith) (c.common_len.ensures ∙ ap (λ (n : List ℕ). common_prefix_len nat_eq n c.args.word.now) c.name.ensures) c.loop-mnemonic.invariant)

pub returns : goal.returns
returns c = known_ends c.args.word.now all_mnemonics c.loop-mnemonic.mnemonic-index c.loop-mnemonic.most (omega arith) c.loop-mnemonic.invariant
