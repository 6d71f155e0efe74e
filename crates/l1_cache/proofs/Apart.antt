-- The bits that a part store keeps and those that it sets are apart.
use Rattle.std.proofs.Common.{◌≡◌, ℕ, zero, suc, ◌-◌, ◌*◌, ◌%◌, ◌^◌, ◌<◌, subst, arith}
use Rattle.std.specs.Prelude.{bit_and, min}
use Rattle.std.specs.Int.{bit_at, w32}
use Rattle.std.specs.Int.Bits.{and_lt}
use Rattle.std.proofs.lemmas.Nat.Bits.{bit_at-lt, bit_at-zero, bit_at_and, bit_at_not, same_from_bits_below}
use Rattle.vx_base.specs.declared.types.Size.{Size}
use Rattle.vx_base.specs.declared.types.Size.TheVariants.{One, Two, Four}
use Rattle.memory_banks.specs.declared.entry.BusEntry.{BusEntry}
use Rattle.memory_banks.specs.Buses.{ActsTwice}
use Rattle.l1_cache.specs.Lines.{field_bits, kept_bits, written_bits}

-- a word and what another keeps of its complement have no bit in common
pub apart : (bits value : ℕ) → bits < 2 ^ 32 → value < 2 ^ 32 → bit_and (2 ^ 32 - 1 - bits) (bit_and value bits) ≡ 0
apart bits value word word' =
    let below : bit_and (2 ^ 32 - 1 - bits) (bit_and value bits) < 2 ^ 32 = and_lt 32 (2 ^ 32 - 1 - bits) (bit_and value bits) (omega arith) (and_lt 32 value bits word' word) in
    same_from_bits_below 32 (bit_and (2 ^ 32 - 1 - bits) (bit_and value bits)) 0 below (omega arith) (λ i within.
    let other : bit_at (2 ^ 32 - 1 - bits) i ≡ 1 - bit_at bits i = bit_at_not w32 bits i word within in
    let inner : bit_at (bit_and value bits) i ≡ min (bit_at value i) (bit_at bits i) = bit_at_and value bits i in
    let all : bit_at (bit_and (2 ^ 32 - 1 - bits) (bit_and value bits)) i ≡ min (bit_at (2 ^ 32 - 1 - bits) i) (bit_at (bit_and value bits) i) = bit_at_and (2 ^ 32 - 1 - bits) (bit_and value bits) i in
    omega (arith, other, inner, all, bit_at-lt bits i, bit_at-zero i))

-- the same for the field of a write
pub apart_part : (at value : ℕ) (size : Size) (bits : ℕ) → bits ≡ field_bits at size → bit_and (2 ^ 32 - 1 - bits) (bit_and (value * 2 ^ (8 * at) % 2 ^ 32) bits) ≡ 0
apart_part at value One bits same = apart bits (value * 2 ^ (8 * at) % 2 ^ 32) (omega (arith, same)) (omega arith)
apart_part at value Two bits same = apart bits (value * 2 ^ (8 * at) % 2 ^ 32) (omega (arith, same)) (omega arith)
apart_part at value Four bits same = apart bits (value * 2 ^ (8 * at) % 2 ^ 32) (omega (arith, same)) (omega arith)

-- two steps by the bits of a field are those of a write to it
pub same_bits : {B : Type 0} (acts : B → BusEntry → B → Type 0) (number word at value : ℕ) (size : Size) (bits : ℕ) (b c : B)
    → bits ≡ field_bits at size
    → ActsTwice acts number word (2 ^ 32 - 1 - bits) (bit_and (value * 2 ^ (8 * at) % 2 ^ 32) bits) b c
    → ActsTwice acts number word (kept_bits at size) (written_bits value at size) b c
same_bits acts number word at value size bits b c same made =
    subst (λ (n : ℕ). ActsTwice acts number word (2 ^ 32 - 1 - n) (bit_and (value * 2 ^ (8 * at) % 2 ^ 32) n) b c) same made

-- a part of a word keeps some bits
pub keeps_some : (at : ℕ) → at < 4 → (kept_bits at One ≡ 0 → ⊥) × (kept_bits at Two ≡ 0 → ⊥)
keeps_some zero below = (λ none. omega (arith, none), λ none. omega (arith, none))
keeps_some (suc zero) below = (λ none. omega (arith, none), λ none. omega (arith, none))
keeps_some (suc (suc zero)) below = (λ none. omega (arith, none), λ none. omega (arith, none))
keeps_some (suc (suc (suc zero))) below = (λ none. omega (arith, none), λ none. omega (arith, none))
keeps_some (suc (suc (suc (suc at)))) below = let none : ⊥ = omega (arith, below) in absurd none
