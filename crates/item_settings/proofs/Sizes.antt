-- Places of elements, and numbers of groups that may be cut.
use Rattle.std.proofs.Common.{◌≡◌, ◌≢◌, ℕ, zero, suc, ◌+◌, ◌-◌, ◌*◌, ◌%◌, ◌^◌, ◌<◌, ◌≤◌, ◌⊎◌, inl, inr, min, nat_eq, List, [], ◌∷◌, ◌++◌, length, get_or, set, refl, ap, sym, ◌∙◌, arith, eq-eqb, ne_eqb}
use Rattle.std.proofs.Math.Nat.{mul-le-mul_right, suc-mul, mod-eq_of_lt}
use Rattle.std.proofs.Math.Path.{fun_ext}
use Rattle.std.proofs.lemmas.Bool.{cond-true, cond-false, cases_lt, cases_eq}
use Rattle.std.proofs.lemmas.Grind.{get_or-set_at}
use Rattle.std.proofs.lemmas.List.{get_or-set_other}
use Rattle.std.specs.Prelude.{slice_index, if◌then◌else◌}
use Rattle.item_acts.specs.Launches.{put_at}
use Rattle.vx_base.specs.Values.{elem_bytes}
use Rattle.vx_base.specs.declared.types.Elem.{Elem}
use Rattle.vx_base.specs.declared.types.Elem.TheVariants.{Char, Uchar, Short, Ushort, Int, Uint}

pub bytes_positive : (elem : Elem) → 0 < elem_bytes elem
bytes_positive Char = omega arith
bytes_positive Uchar = omega arith
bytes_positive Short = omega arith
bytes_positive Ushort = omega arith
bytes_positive Int = omega arith
bytes_positive Uint = omega arith

times_below : (i c b : ℕ) → i < c → c * b ≤ 2 ^ 32 → 0 < b → i * b < 2 ^ 32
times_below i c b h room some =
    let more : suc i * b ≤ c * b = mul-le-mul_right b h in
    let step : suc i * b ≡ i * b + b = suc-mul i b in
    omega arith

-- an element that is there begins below 2 ^ 32
pub begins_below : (elem : Elem) (i c : ℕ) → i < c → c * elem_bytes elem ≤ 2 ^ 32 → i * elem_bytes elem < 2 ^ 32
begins_below elem i c h room = times_below i c (elem_bytes elem) h room (bytes_positive elem)

rest_at : (n size : ℕ) → n < 2 ^ 32 → (2 ^ 64 - 1 < size) ⊎ (size ≤ 2 ^ 64 - 1) → n % min size (2 ^ 64 - 1) ≡ n % size
rest_at n size h (inr low) = let same : min size (2 ^ 64 - 1) ≡ size = omega arith in ap (λ k. n % k) same
rest_at n size h (inl high) =
    let cut : min size (2 ^ 64 - 1) ≡ 2 ^ 64 - 1 = omega arith in
    let small : n < 2 ^ 64 - 1 = omega arith in
    let smaller : n < size = omega arith in
    ap (λ k. n % k) cut ∙ mod-eq_of_lt small ∙ sym (mod-eq_of_lt smaller)

-- what is left of a word over a size that may be cut
pub rest_of_cut : (n size : ℕ) → n < 2 ^ 32 → n % min size (2 ^ 64 - 1) ≡ n % size
rest_of_cut n size h = rest_at n size h (cases_lt (2 ^ 64 - 1) size)

-- a zero more changes no value
pub grown : (xs : List ℕ) (k : ℕ) → get_or (xs ++ 0 ∷ []) k 0 ≡ get_or xs k 0
grown [] zero = refl
grown [] (suc k) = refl
grown (x ∷ xs) zero = refl
grown (x ∷ xs) (suc k) = grown xs k

put_each : (xs ys : List ℕ) (k v : ℕ) → ((j : ℕ) → get_or xs j 0 ≡ get_or ys j 0) → k < length xs → (j : ℕ)
    → get_or (set xs k v) j 0 ≡ (if nat_eq j k then v else get_or ys j 0)
put_each xs ys k v same h j = put_case (cases_eq j k)
  where
    put_case : (j ≡ k) ⊎ (j ≢ k) → get_or (set xs k v) j 0 ≡ (if nat_eq j k then v else get_or ys j 0)
    put_case (inl e) = get_or-set_at xs k j v 0 e h ∙ sym (cond-true _ _ _ (eq-eqb j k e))
    put_case (inr e) = get_or-set_other xs k j v 0 e ∙ same j ∙ sym (cond-false _ _ _ (ne_eqb j k e))

-- a value is put into a family of variables
pub put_is : (xs ys : List ℕ) (k v : ℕ) → ((j : ℕ) → slice_index xs j ≡ slice_index ys j) → k < length xs
    → slice_index (set xs k v) ≡ put_at k v (slice_index ys)
put_is xs ys k v same h = fun_ext (λ j. put_each xs ys k v same h j)
