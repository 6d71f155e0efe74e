-- The lists of a new world fit, and stand for the start of a launch.
use Rattle.std.proofs.Common.{◌≡◌, ℕ, zero, suc, ◌/◌, ◌%◌, ◌<◌, List, [], ◌∷◌, length, map, get_or, refl, ap, sym, ◌∙◌, subst, inl, inr, arith}
use Rattle.std.specs.Prelude.{replicate}
use Rattle.std.proofs.Math.Path.{fun_ext}
use Rattle.std.proofs.lemmas.Bool.{cases_lt}
use Rattle.std.proofs.lemmas.List.{get_or-replicate, get_or_past, length-replicate}
use Rattle.item_acts.specs.declared.acts.Place.TheVariants.{Global, Local}
use Rattle.item_acts.specs.declared.held.Progress.{Progress}
use Rattle.item_acts.specs.declared.held.Progress.TheVariants.{Going as GoesOn}
use Rattle.item_acts.specs.Launches.{start}
use Rattle.item_acts.specs.Worlds.{standing_of, array_in, state_of, IsHeld, opening}
use Rattle.item_acts.proofs.Swaps.{same_state}

-- what holds of the one element and of the default holds of each element
each_of : {A : Type 0} (P : A → Type 0) (n k : ℕ) (x d : A) → P x → P d → P (get_or (replicate n x) k d)
each_of P n k x d here past =
    elim (cases_lt k n) [
      | inl below ↦ subst P (sym (get_or-replicate n k x d below)) here
      | inr behind ↦ subst P (sym (get_or_past (replicate n x) k d (let e = length-replicate n x in omega arith))) past
    ]

-- a byte of fresh arrays is 0
fresh_byte : (sizes : List ℕ) (a y : ℕ) → get_or (array_in (map (λ (size : ℕ). replicate size 0) sizes) a) y 0 ≡ 0
fresh_byte [] a y = refl
fresh_byte (size ∷ sizes) zero y = each_of (λ (v : ℕ). v ≡ 0) size y 0 0 refl refl
fresh_byte (size ∷ sizes) (suc a) y = fresh_byte sizes a y

-- fresh arrays have their sizes
fresh_sizes : (sizes : List ℕ) → map (length {A = ℕ}) (map (λ (size : ℕ). replicate size 0) sizes) ≡ sizes
fresh_sizes [] = refl
fresh_sizes (size ∷ sizes) = cc (length-replicate {A = ℕ} size 0, fresh_sizes sizes)

-- the lists of a new world fit
pub opening_held : (items local : ℕ) (buffers : List (List ℕ)) (sizes : List ℕ) → 0 < local → items % local ≡ 0 → IsHeld (opening items local buffers sizes)
opening_held items local buffers sizes positive whole = record {
  positive = positive;
  whole = whole;
  answers = length-replicate items [];
  progress = length-replicate items GoesOn;
  epochs = length-replicate (items / local) 0;
  groups = length-replicate (items / local) (map (λ (size : ℕ). replicate size 0) sizes);
  arrays = λ group below. ap (map length) (get_or-replicate (items / local) group (map (λ (size : ℕ). replicate size 0) sizes) [] below) ∙ fresh_sizes sizes;
  passed = λ item below. let none = each_of (λ (v : ℕ). v ≡ 0) (items / local) (item / local) 0 0 refl refl in omega arith;
}

-- and stand for the start
pub opening_starts : (items local : ℕ) (buffers : List (List ℕ)) (sizes : List ℕ)
    → state_of (opening items local buffers sizes) ≡ start (λ buffer byte. get_or (get_or buffers buffer []) byte 0)
opening_starts items local buffers sizes =
    same_state
    (fun_ext (elim [
      | Global buffer byte ↦ refl
      | Local group array byte ↦
          each_of (λ (arrays : List (List ℕ)). get_or (array_in arrays array) byte 0 ≡ 0) (items / local) group (map (λ (size : ℕ). replicate size 0) sizes) [] (fresh_byte sizes array byte) refl
    ]))
    (fun_ext (λ item. each_of (λ (answers : List ℕ). answers ≡ []) items item [] [] refl refl))
    (fun_ext (λ item. each_of (λ (progress : Progress). standing_of progress ≡ standing_of GoesOn) items item GoesOn GoesOn refl refl))
    (fun_ext (λ group. each_of (λ (v : ℕ). v ≡ 0) (items / local) group 0 0 refl refl))
