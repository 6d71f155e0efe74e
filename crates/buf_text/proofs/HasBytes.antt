-- Laws of bytes that are put into words.
use Rattle.std.proofs.Common.{◌≡◌, ℕ, zero, suc, ◌+◌, ◌*◌, ◌/◌, ◌%◌, ◌<◌, ◌≤◌, ◌⊎◌, List, [], ◌∷◌, ◌++◌, length, get_or, take, drop, set, length-append, ◌-◌, refl, ap, sym, subst, ◌∙◌, inl, inr, arith}
use Rattle.std.proofs.lemmas.Bool.{cases_eq, cases_lt}
use Rattle.std.proofs.lemmas.List.{get_or-set_same, get_or-set_other, get_or_append_left, get_or-append_right, length-set, take-append-drop}
use Rattle.vx_base.specs.Bytes.{byte_of, field_of}
use Rattle.vx_base.proofs.NumberLaws.{byte_of-lt, byte_of-number_of}
use Rattle.buf_text.specs.Elements.{byte_in, HasBytes}

-- no bytes change nothing
pub no_bytes : (at : ℕ) (words : List ℕ) → HasBytes [] at words words
no_bytes at words = record { many = refl; inside = λ k below. absurd (omega arith); outside = λ k apart. refl }

-- A word is set to one that has some bytes of a list, from byte `low` of the word on, and else its own.
pub word_set : (bytes words : List ℕ) (index low word : ℕ) → index < length words → low + length bytes ≤ 4
    → ((k : ℕ) → k < length bytes → byte_of word (low + k) ≡ get_or bytes k 0)
    → ((k : ℕ) → k < 4 → (k < low) ⊎ (low + length bytes ≤ k) → byte_of word k ≡ byte_of (get_or words index 0) k)
    → HasBytes bytes (4 * index + low) words (set words index word)
word_set bytes words index low word within fits inside outside = record {
  many = length-set words index word;
  inside = λ k below.
      let quotient : (4 * index + low + k) / 4 ≡ index = omega arith in
      let rest : (4 * index + low + k) % 4 ≡ low + k = omega arith in
      ap (λ (i : ℕ). byte_of (get_or (set words index word) i 0) ((4 * index + low + k) % 4)) quotient
      ∙ ap (byte_of (get_or (set words index word) index 0)) rest
      ∙ ap (λ (w : ℕ). byte_of w (low + k)) (get_or-set_same words index word 0 within) ∙ inside k below;
  outside = λ k apart. elim (cases_eq (k / 4) index) [
    | inl same ↦
        let rest : k % 4 < 4 = omega arith in
        let side_of : (k % 4 < low) ⊎ (low + length bytes ≤ k % 4) = side k apart same in
        ap (λ (i : ℕ). byte_of (get_or (set words index word) i 0) (k % 4)) same
        ∙ ap (λ (w : ℕ). byte_of w (k % 4)) (get_or-set_same words index word 0 within) ∙ outside (k % 4) rest side_of
        ∙ sym (ap (λ (i : ℕ). byte_of (get_or words i 0) (k % 4)) same)
    | inr differ ↦ ap (λ (w : ℕ). byte_of w (k % 4)) (get_or-set_other words index (k / 4) word 0 differ)
  ];
}
  where
    side : (k : ℕ) → (k < 4 * index + low) ⊎ (4 * index + low + length bytes ≤ k) → k / 4 ≡ index → (k % 4 < low) ⊎ (low + length bytes ≤ k % 4)
    side k (inl before) same = inl (omega arith)
    side k (inr behind) same = inr (omega arith)

-- bytes, and then those behind them
pub then_more : (front behind : List ℕ) (at at' : ℕ) (a b c : List ℕ) → HasBytes front at a b → at' ≡ at + length front → HasBytes behind at' b c
    → HasBytes (front ++ behind) at a c
then_more front behind at at' a b c first next second =
    let both : length (front ++ behind) ≡ length front + length behind = length-append front behind in
    record {
      many = second.many ∙ first.many;
      inside = λ k below. elim (cases_lt k (length front)) [
        | inl early ↦ second.outside (at + k) (inl (omega arith)) ∙ first.inside k early ∙ sym (get_or_append_left front behind 0 k early)
        | inr late ↦ within k below late both
      ];
      outside = λ k apart. second.outside k (later k apart both) ∙ first.outside k (earlier k apart both);
    }
  where
    within : (k : ℕ) → k < length (front ++ behind) → length front ≤ k → length (front ++ behind) ≡ length front + length behind
        → byte_in c (at + k) ≡ get_or (front ++ behind) k 0
    within k below late both =
        let e : at' + (k - length front) ≡ at + k = omega arith in
        ap (byte_in c) (sym e) ∙ second.inside (k - length front) (omega arith) ∙ sym (get_or-append_right front behind (length front) k 0 refl late)

    later : (k : ℕ) → (k < at) ⊎ (at + length (front ++ behind) ≤ k) → length (front ++ behind) ≡ length front + length behind
        → (k < at') ⊎ (at' + length behind ≤ k)
    later k (inl before) both = inl (omega arith)
    later k (inr past) both = inr (omega arith)

    earlier : (k : ℕ) → (k < at) ⊎ (at + length (front ++ behind) ≤ k) → length (front ++ behind) ≡ length front + length behind
        → (k < at) ⊎ (at + length front ≤ k)
    earlier k (inl before) both = inl before
    earlier k (inr past) both = inr (omega arith)

-- the bytes of a word that is made of four
pub four_bytes : (four : List ℕ) → ((k : ℕ) → k < 4 → get_or four k 0 < 256) → (k : ℕ) → k < 4 → byte_of (field_of four 0 4) k ≡ get_or four k 0
four_bytes four small k less =
    let e : 0 + k ≡ k = omega arith in
    byte_of-number_of (λ j. get_or four (0 + j) 0) 4 k (λ j less'. let e' : 0 + j ≡ j = omega arith in subst (λ (i : ℕ). get_or four i 0 < 256) (sym e') (small j less')) less
    ∙ ap (λ (i : ℕ). get_or four i 0) e

-- one byte of a word is set
pub byte_set : (words : List ℕ) (place byte b0 b1 b2 b3 new : ℕ) → place < 4 * length words → byte < 256
    → b0 ≡ byte_of (get_or words (place / 4) 0) 0 → b1 ≡ byte_of (get_or words (place / 4) 0) 1
    → b2 ≡ byte_of (get_or words (place / 4) 0) 2 → b3 ≡ byte_of (get_or words (place / 4) 0) 3
    → new ≡ field_of (set (b0 ∷ b1 ∷ b2 ∷ b3 ∷ []) (place % 4) byte) 0 4 → HasBytes (byte ∷ []) place words (set words (place / 4) new)
byte_set words place byte b0 b1 b2 b3 new within small e0 e1 e2 e3 e =
    let whole : 4 * (place / 4) + place % 4 ≡ place = omega arith in
    subst (λ (at : ℕ). HasBytes (byte ∷ []) at words (set words (place / 4) new)) whole
    (word_set (byte ∷ []) words (place / 4) (place % 4) new (omega arith) (omega arith)
    (λ k less. ap (λ (w : ℕ). byte_of w (place % 4 + k)) e ∙ here k (omega arith))
    (λ k less apart. ap (λ (w : ℕ). byte_of w k) e ∙ there k less (differs k apart)))
  where
    old : (k : ℕ) → k < 4 → get_or (b0 ∷ b1 ∷ b2 ∷ b3 ∷ []) k 0 ≡ byte_of (get_or words (place / 4) 0) k
    old zero less = e0
    old (suc zero) less = e1
    old (suc (suc zero)) less = e2
    old (suc (suc (suc zero))) less = e3
    old (suc (suc (suc (suc k)))) less = absurd (omega arith)

    all_small : (k : ℕ) → k < 4 → get_or (set (b0 ∷ b1 ∷ b2 ∷ b3 ∷ []) (place % 4) byte) k 0 < 256
    all_small k less =
        elim (cases_eq k (place % 4)) [
          | inl same ↦ subst (λ (v : ℕ). v < 256) (sym (ap (λ (i : ℕ). get_or (set (b0 ∷ b1 ∷ b2 ∷ b3 ∷ []) (place % 4) byte) i 0) same
              ∙ get_or-set_same (b0 ∷ b1 ∷ b2 ∷ b3 ∷ []) (place % 4) byte 0 (omega arith))) small
          | inr differ ↦ subst (λ (v : ℕ). v < 256) (sym (get_or-set_other (b0 ∷ b1 ∷ b2 ∷ b3 ∷ []) (place % 4) k byte 0 differ ∙ old k less))
              (byte_of-lt (get_or words (place / 4) 0) k)
        ]

    here : (k : ℕ) → k < 1 → byte_of (field_of (set (b0 ∷ b1 ∷ b2 ∷ b3 ∷ []) (place % 4) byte) 0 4) (place % 4 + k) ≡ get_or (byte ∷ []) k 0
    here zero less =
        let e : place % 4 + 0 ≡ place % 4 = omega arith in
        ap (byte_of (field_of (set (b0 ∷ b1 ∷ b2 ∷ b3 ∷ []) (place % 4) byte) 0 4)) e
        ∙ four_bytes (set (b0 ∷ b1 ∷ b2 ∷ b3 ∷ []) (place % 4) byte) all_small (place % 4) (omega arith)
        ∙ get_or-set_same (b0 ∷ b1 ∷ b2 ∷ b3 ∷ []) (place % 4) byte 0 (omega arith)
    here (suc k) less = absurd (omega arith)

    differs : (k : ℕ) → (k < place % 4) ⊎ (place % 4 + 1 ≤ k) → k ≡ place % 4 → ⊥
    differs k (inl before) same = omega arith
    differs k (inr behind) same = omega arith

    there : (k : ℕ) → k < 4 → (k ≡ place % 4 → ⊥) → byte_of (field_of (set (b0 ∷ b1 ∷ b2 ∷ b3 ∷ []) (place % 4) byte) 0 4) k ≡ byte_of (get_or words (place / 4) 0) k
    there k less differ =
        four_bytes (set (b0 ∷ b1 ∷ b2 ∷ b3 ∷ []) (place % 4) byte) all_small k less
        ∙ get_or-set_other (b0 ∷ b1 ∷ b2 ∷ b3 ∷ []) (place % 4) k byte 0 differ ∙ old k less

-- bytes in three parts
pub in_three : (bytes front behind middle back : List ℕ) (n m at at' at'' : ℕ) (a b c d : List ℕ) → front ≡ take n bytes → behind ≡ drop n bytes
    → middle ≡ take m behind → back ≡ drop m behind → HasBytes front at a b → HasBytes middle at' b c → HasBytes back at'' c d
    → at' ≡ at + length front → at'' ≡ at' + length middle → HasBytes bytes at a d
in_three bytes front behind middle back n m at at' at'' a b c d is_front is_behind is_middle is_back first second third e e' =
    let later : middle ++ back ≡ behind = ap (λ (l : List ℕ). l ++ back) is_middle ∙ ap (λ (l : List ℕ). take m behind ++ l) is_back ∙ take-append-drop m behind in
    let whole : front ++ behind ≡ bytes = ap (λ (l : List ℕ). l ++ behind) is_front ∙ ap (λ (l : List ℕ). take n bytes ++ l) is_behind ∙ take-append-drop n bytes in
    let rest : HasBytes behind at' b d = subst (λ (bs : List ℕ). HasBytes bs at' b d) later (then_more middle back at' at'' b c d second e' third) in
    subst (λ (bs : List ℕ). HasBytes bs at a d) whole (then_more front behind at at' a b d first e rest)
