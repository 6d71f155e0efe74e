-- A port reads back its own store, where no entry on the word came between.
use Rattle.std.proofs.Common.{◌≡◌, ℕ, ◌<◌, Bool, cond, List, [], ◌∷◌, ◌++◌, length, get_or, refl, ap, sym, ◌∙◌, inl, inr, arith, eq-eqb, ne_eqb}
use Rattle.std.proofs.lemmas.Bool.{cases_eq}
use Rattle.std.proofs.lemmas.List.{get_or-set_same, get_or-set_other}
use Rattle.memory_banks.specs.declared.entry.BusEntry.{BusEntry}
use Rattle.memory_banks.specs.Entries.{after, changed, entries_at, load_entry, replay, store_entry, IsAnswered, IsLegal}
use Rattle.memory_banks.proofs.Histories.{length-replay, replay-append}

-- the last entry of a legal history is answered by the words before it
IsLegal-last : (ws : List ℕ) (es : List BusEntry) (e : BusEntry) → IsLegal ws (es ++ e ∷ []) → IsAnswered (replay ws es) e
IsLegal-last ws [] e legal = legal.0
IsLegal-last ws (f ∷ es) e legal = IsLegal-last (after ws f) es e legal.1

-- a word on which no entry stands is as it was
untouched : (ws : List ℕ) (es : List BusEntry) (word : ℕ) → entries_at word es ≡ [] → get_or (replay ws es) word 0 ≡ get_or ws word 0
untouched ws [] word none = refl
untouched ws (e ∷ es) word none =
    let rest : List BusEntry = entries_at word es in
    elim (cases_eq e.word word) [
      | inl same ↦
          let here : e ∷ rest ≡ [] = sym (ap (λ (b : Bool). cond b (e ∷ rest) rest) (eq-eqb e.word word same)) ∙ none in
          let longer = ap (λ (xs : List BusEntry). length xs) here in
          absurd (omega (arith, longer))
      | inr other ↦
          let left : rest ≡ [] = sym (ap (λ (b : Bool). cond b (e ∷ rest) rest) (ne_eqb e.word word other)) ∙ none in
          untouched (after ws e) es word left ∙ get_or-set_other ws e.word word (changed e.kind (get_or ws e.word 0) e.operand) 0 (λ same. other (sym same))
    ]

pub reads_back_law : (opening : List ℕ) (before between : List BusEntry) (port word value answer : ℕ) → word < length opening → entries_at word between ≡ []
    → IsLegal opening (((before ++ store_entry port word value ∷ []) ++ between) ++ load_entry port word answer ∷ []) → answer ≡ value
reads_back_law opening before between port word value answer within none legal =
    let stored : List BusEntry = before ++ store_entry port word value ∷ [] in
    let len = length-replay opening before in
    let inside : word < length (replay opening before) = omega arith in
    let read : answer ≡ get_or (replay opening (stored ++ between)) word 0 = IsLegal-last opening (stored ++ between) (load_entry port word answer) legal in
    read
    ∙ (ap (λ (ws : List ℕ). get_or ws word 0) (replay-append opening stored between)
    ∙ (untouched (replay opening stored) between word none
    ∙ (ap (λ (ws : List ℕ). get_or ws word 0) (replay-append opening before (store_entry port word value ∷ []))
    ∙ get_or-set_same (replay opening before) word value 0 inside)))
