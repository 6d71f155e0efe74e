-- Where the words of a place stand, how many are left there, and where the checks are.
use Rattle.std.proofs.Common.{◌≡◌, ℕ, zero, suc, ◌+◌, ◌-◌, ◌*◌, ◌/◌, ◌%◌, ◌≤◌, true, false, nat_eq, nat_le, List, [], ◌∷◌, length, drop, map, None, Some, Err, ap, ◌∙◌, arith, refl}
use Rattle.std.specs.Prelude.{slice_get}
use Rattle.std.proofs.lemmas.Bool.{eq-eqb, le-leb, ne_eqb}
use Rattle.vx_base.specs.declared.types.Pos.{Pos}
use Rattle.vx_isa.specs.Words.{word_of}
use Rattle.vx_isa.specs.WarpSteps.{code_start, decoded, fetched}
use Rattle.vx_isa.specs.declared.image.Site.{Site}
use Rattle.vx_isa.specs.declared.instr.Instr.{Instr}
use Rattle.vx_isa.specs.declared.warps.MachineTrap.TheVariants as trap
use Rattle.vcode.specs.Code.{VOp, Fresh, Copy, Compute, Cut, Word, WordAt, Learn, Fetch, Write, IfZero, IfNot, Goto, Split, Join, Pred, Tmc, Wspawn, Bar, Trap, Enter, Leaves, Again}
use Rattle.vcode.specs.Words.{op_words, words}
use Rattle.reg_alloc.specs.Alone.{position}
use Rattle.reg_alloc.specs.Blocks.{address_of_word}
use Rattle.reg_alloc.specs.Layout.{and_site, sites_from, sites_of, word_of_place}
use Rattle.reg_alloc.proofs.Standing.{places_are_within}

none_before : (ops : List VOp) → word_of_place ops 0 ≡ 0
none_before [] = refl
none_before (op ∷ ops) = refl

-- the place behind an operation begins behind its words
pub next_word : (ops rest : List VOp) (op : VOp) (p : ℕ) → drop p ops ≡ op ∷ rest → word_of_place ops (suc p) ≡ op_words op + word_of_place ops p
next_word [] rest op zero e = absurd (cc)
next_word [] rest op (suc p) e = absurd (cc)
next_word (x ∷ ops) rest op zero e =
    let same : x ≡ op = cc in
    let none = none_before ops in
    let h : op_words x ≡ op_words op = ap op_words same in
    omega (arith, none, h)
next_word (x ∷ ops) rest op (suc p) e = let h = next_word ops rest op p e in omega (arith, h)

pub words_left : (ops rest : List VOp) (op : VOp) (p : ℕ) → drop p ops ≡ op ∷ rest → op_words op + word_of_place ops p ≤ words ops
words_left ops rest op p e =
    let h = next_word ops rest op p e in
    let h' = places_are_within ops (suc p) in
    omega (arith, h, h')

pub none_left : (ops : List VOp) (p : ℕ) → drop p ops ≡ [] → word_of_place ops p ≡ words ops
none_left [] p e = refl
none_left (x ∷ ops) zero e = absurd (cc)
none_left (x ∷ ops) (suc p) e = ap (λ n. op_words x + n) (none_left ops p e)

-- ---- behind the last word

past_get : (is : List Instr) (n : ℕ) → length is ≤ n → slice_get (map word_of is) n ≡ None
past_get [] n past = refl
past_get (i ∷ is) zero past = absurd (omega (arith, past))
past_get (i ∷ is) (suc n) past = past_get is n (omega (arith, past))

pub fetched_past : (is : List Instr) (n : ℕ) → length is ≤ n → fetched (map word_of is) (address_of_word n) ≡ Err trap.Bus
unfolding fetched
fetched_past is n past =
    let low : nat_le code_start (address_of_word n) ≡ true = le-leb code_start (address_of_word n) (omega arith) in
    let fourth : address_of_word n % 4 ≡ 0 = omega arith in
    let whole : nat_eq (address_of_word n % 4) 0 ≡ true = ap (λ m. nat_eq m 0) fourth in
    let index : (address_of_word n - code_start) / 4 ≡ n = omega arith in
    rw low (rw whole (ap (λ m. decoded (slice_get (map word_of is) m)) index ∙ ap decoded (past_get is n past)))

-- ---- checks

-- a check that stands before does not stand at this distance
passed : (k : ℕ) (op : VOp) (later : List Site) (d : ℕ) → 4 * (op_words op + k) ≤ d → position (and_site k op later) d ≡ position later d
passed k Fresh later d far = refl
passed k (Copy e a) later d far = refl
passed k (Compute e op a b) later d far = refl
passed k (Cut e elem a) later d far = refl
passed k (Word e w) later d far = refl
passed k (WordAt e a w) later d far = refl
passed k (Learn e csr) later d far = refl
passed k (Fetch e elem a) later d far = refl
passed k (Write elem a b) later d far = refl
passed k (IfZero a q) later d far = refl
passed k (IfNot a q) later d far = refl
passed k (Goto q) later d far = refl
passed k (Split a) later d far = refl
passed k Join later d far = refl
passed k (Pred a m) later d far = refl
passed k (Tmc a) later d far = refl
passed k (Wspawn a q) later d far = refl
passed k (Bar site) later d far = refl
passed k (Trap pos) later d far = let other : nat_eq (4 * k) d ≡ false = ne_eqb (4 * k) d (λ same. absurd (omega (arith, same, far))) in rw other refl
passed k Enter later d far = refl
passed k (Leaves a q) later d far = refl
passed k (Again q) later d far = refl

site_from : (k : ℕ) (ops rest : List VOp) (pos : Pos) (p : ℕ) → drop p ops ≡ Trap pos ∷ rest → position (sites_from k ops) (4 * (word_of_place ops p + k)) ≡ Some pos
site_from k [] rest pos zero e = absurd (cc)
site_from k [] rest pos (suc p) e = absurd (cc)
site_from k (x ∷ ops) rest pos zero e =
    let same : nat_eq (4 * k) (4 * (0 + k)) ≡ true = eq-eqb (4 * k) (4 * (0 + k)) (omega arith) in
    ap (λ c. position (sites_from k c) (4 * (0 + k))) e ∙ rw same refl
site_from k (x ∷ ops) rest pos (suc p) e =
    let later = sites_from (op_words x + k) ops in
    let far : 4 * (op_words x + k) ≤ 4 * (op_words x + word_of_place ops p + k) = omega arith in
    let there : 4 * (op_words x + word_of_place ops p + k) ≡ 4 * (word_of_place ops p + (op_words x + k)) = omega arith in
    passed k x later (4 * (op_words x + word_of_place ops p + k)) far ∙ ap (position later) there ∙ site_from (op_words x + k) ops rest pos p e

-- the check of a place is found at its word
pub site_at : (ops rest : List VOp) (pos : Pos) (p : ℕ) → drop p ops ≡ Trap pos ∷ rest → position (sites_of ops) (4 * word_of_place ops p) ≡ Some pos
site_at ops rest pos p e =
    let none : 4 * word_of_place ops p ≡ 4 * (word_of_place ops p + 0) = omega arith in
    ap (position (sites_of ops)) none ∙ site_from 0 ops rest pos p e
