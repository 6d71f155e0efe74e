-- Laws of numbers and their bytes.
use Rattle.std.proofs.Common.{◌≡◌, ℕ, zero, suc, ◌+◌, ◌*◌, ◌/◌, ◌%◌, ◌^◌, ◌<◌, ◌≤◌, length, get_or, refl, ap, sym, ◌∙◌, arith}
use Rattle.std.proofs.Math.Nat.{pow-suc, div-div-eq-div-mul, mod-eq_of_lt, pow-le-pow_right}
use Rattle.std.proofs.Math.Arith.{mod-mul}
use Rattle.std.proofs.lemmas.Nat.{mod_below}
use Rattle.vx_base.specs.Bytes.{byte_of, number_of, number_bytes}

-- a power of 256 is positive
pub pow_256_pos : (n : ℕ) → 0 < 256 ^ n
pow_256_pos zero = omega arith
pow_256_pos (suc n) = let p : 0 < 256 ^ n = pow_256_pos n in rw pow-suc (omega arith)

-- a byte is below 256
pub byte_of-lt : (v k : ℕ) → byte_of v k < 256
byte_of-lt v k = mod_below (v / 256 ^ k) 256 (omega arith)

-- the first byte of a number is its rest by 256
pub byte_of-zero : (v : ℕ) → byte_of v 0 ≡ v % 256
byte_of-zero v = omega arith

-- the later bytes of a number are those of its quotient by 256
pub byte_of-suc : (v k : ℕ) → byte_of v (suc k) ≡ byte_of (v / 256) k
byte_of-suc v k =
    let p : 256 ^ suc k ≡ 256 * 256 ^ k = rw pow-suc (omega arith) in
    rw p (ap (λ (q : ℕ). q % 256) (sym (div-div-eq-div-mul v 256 (256 ^ k))))

-- a number depends on its n bytes alone
pub number_of-same : (f g : ℕ → ℕ) (n : ℕ) → ((k : ℕ) → k < n → f k ≡ g k) → number_of f n ≡ number_of g n
number_of-same f g zero same = refl
number_of-same f g (suc n) same =
    let first : f 0 ≡ g 0 = same 0 (omega arith) in
    let rest = number_of-same (λ k. f (suc k)) (λ k. g (suc k)) n (λ k below. same (suc k) (omega arith)) in
    omega (arith, first, rest)

-- n bytes make a number below 256 ^ n
pub number_of-lt : (f : ℕ → ℕ) (n : ℕ) → ((k : ℕ) → k < n → f k < 256) → number_of f n < 256 ^ n
number_of-lt f zero bytes = omega arith
number_of-lt f (suc n) bytes =
    let first : f 0 < 256 = bytes 0 (omega arith) in
    let rest = number_of-lt (λ k. f (suc k)) n (λ k below. bytes (suc k) (omega arith)) in
    rw pow-suc (omega (arith, first, rest))

-- at most four bytes make a number below 2 ^ 32
pub number_of-word : (f : ℕ → ℕ) (n : ℕ) → n ≤ 4 → ((k : ℕ) → k < n → f k < 256) → number_of f n < 2 ^ 32
number_of-word f n short bytes =
    let below : number_of f n < 256 ^ n = number_of-lt f n bytes in
    let bound : 256 ^ n ≤ 256 ^ 4 = pow-le-pow_right (omega arith) short in
    omega arith

-- the number of the first n bytes of v is v, cut to n bytes
pub number_of-byte_of : (v n : ℕ) → number_of (byte_of v) n ≡ v % 256 ^ n
number_of-byte_of v zero = omega arith
number_of-byte_of v (suc n) =
    let later : number_of (λ k. byte_of v (suc k)) n ≡ number_of (byte_of (v / 256)) n =
    number_of-same (λ k. byte_of v (suc k)) (byte_of (v / 256)) n (λ k below. byte_of-suc v k) in
    let rest : number_of (byte_of (v / 256)) n ≡ v / 256 % 256 ^ n = number_of-byte_of (v / 256) n in
    let split : v % (256 ^ n * 256) ≡ (v / 256 % 256 ^ n) * 256 + v % 256 = mod-mul v (pow_256_pos n) (omega arith) in
    rw pow-suc (omega (arith, later, rest, split, byte_of-zero v))

-- a number of n bytes is read back whole
pub number_of-whole : (v n : ℕ) → v < 256 ^ n → number_of (byte_of v) n ≡ v
number_of-whole v n below = number_of-byte_of v n ∙ mod-eq_of_lt below

-- byte k of the number that n bytes make is byte k
pub byte_of-number_of : (f : ℕ → ℕ) (n k : ℕ) → ((j : ℕ) → j < n → f j < 256) → k < n → byte_of (number_of f n) k ≡ f k
byte_of-number_of f zero k bytes below = absurd (omega arith)
byte_of-number_of f (suc n) zero bytes below =
    let first : f 0 < 256 = bytes 0 (omega arith) in
    omega (arith, byte_of-zero (f 0 + 256 * number_of (λ j. f (suc j)) n))
byte_of-number_of f (suc n) (suc k) bytes below =
    let first : f 0 < 256 = bytes 0 (omega arith) in
    let quotient : number_of f (suc n) / 256 ≡ number_of (λ j. f (suc j)) n = omega arith in
    let inner : byte_of (number_of (λ j. f (suc j)) n) k ≡ f (suc k) =
    byte_of-number_of (λ j. f (suc j)) n k (λ j less. bytes (suc j) (omega arith)) (omega arith) in
    byte_of-suc (number_of f (suc n)) k ∙ ap (λ (q : ℕ). byte_of q k) quotient ∙ inner

-- n bytes of a number are n
pub length-number_bytes : (v n : ℕ) → length (number_bytes v n) ≡ n
length-number_bytes v zero = refl
length-number_bytes v (suc n) = ap suc (length-number_bytes (v / 256) n)

-- byte k stands at place k
pub get_or-number_bytes : (v n k : ℕ) → k < n → get_or (number_bytes v n) k 0 ≡ byte_of v k
get_or-number_bytes v zero k below = absurd (omega arith)
get_or-number_bytes v (suc n) zero below = sym (byte_of-zero v)
get_or-number_bytes v (suc n) (suc k) below = get_or-number_bytes (v / 256) n k (omega arith) ∙ sym (byte_of-suc v k)
