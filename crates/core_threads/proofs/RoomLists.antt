-- What a room has after so many cores.
use Rattle.std.proofs.Common.{◌≡◌, ℕ, ◌+◌, ◌<◌, ◌≤◌, List, [], ◌∷◌, ◌++◌, length, map, vec_capacity, ap, refl, sym, ◌∙◌, arith, length-append, append_assoc}
use Rattle.std.proofs.lemmas.List.{append-nil, length-map, map-append}
use Rattle.core_threads.specs.Joins.{claimer_in, port_in, record_of}
use Rattle.core_threads.specs.Rooms.{HasRoom, Takes, TakesAll}
use Rattle.core_threads.specs.declared.room.Room.{Room}
use Rattle.core_threads.specs.declared.work.CoreWork.{CoreWork}

grown : {A B : Type 0} (f : A → B) (xs : List A) (x : A) (front now after : List B) → now ≡ front ++ map f xs → after ≡ now ++ f x ∷ [] → after ≡ front ++ map f (xs ++ x ∷ [])
grown {A} {B} f xs x front now after is one =
    one ∙ (ap (λ (l : List B). l ++ f x ∷ []) is ∙ (append_assoc front (map f xs) (f x ∷ []) ∙ ap (λ (l : List B). front ++ l) (sym (map-append f xs (x ∷ [])))))

fits : {A B : Type 0} (f : A → B) (xs : List A) (front now : List B) (n before after : ℕ) → now ≡ front ++ map f xs → length front + n ≤ before → after ≡ before → length xs < n → length now + 1 ≤ after
fits {A} {B} f xs front now n before after is room same less =
    let long : length now ≡ length (front ++ map f xs) = ap (λ (l : List B). length l) is in
    omega (arith, long, length-append front (map f xs), length-map xs f, room, same, less)

module _ {P E : Type 0} where
  pub none_taken : (r : Room) → TakesAll {P = P} {E = E} [] r r
  none_taken r = record {
    ports = sym (append-nil r.ports.items);
    claimers = sym (append-nil r.claimers.items);
    records = sym (append-nil r.records.items);
    same = record { ports = refl; claimers = refl; records = refl };
  }

  pub one_more : (works : List (CoreWork P E)) (w : CoreWork P E) (r s t : Room) → TakesAll works r s → Takes s w t → TakesAll (works ++ w ∷ []) r t
  one_more works w r s t all one = record {
    ports = grown port_in works w r.ports.items s.ports.items t.ports.items all.ports one.ports;
    claimers = grown claimer_in works w r.claimers.items s.claimers.items t.claimers.items all.claimers one.claimers;
    records = grown record_of works w r.records.items s.records.items t.records.items all.records one.records;
    same = record { ports = one.same.ports ∙ all.same.ports; claimers = one.same.claimers ∙ all.same.claimers; records = one.same.records ∙ all.same.records };
  }

  pub room_for_one : (n : ℕ) (works : List (CoreWork P E)) (r s : Room) → HasRoom n r → TakesAll works r s → length works < n → HasRoom 1 s
  room_for_one n works r s room all less = record {
    ports = fits port_in works r.ports.items s.ports.items n (vec_capacity r.ports) (vec_capacity s.ports) all.ports room.ports all.same.ports less;
    claimers = fits claimer_in works r.claimers.items s.claimers.items n (vec_capacity r.claimers) (vec_capacity s.claimers) all.claimers room.claimers all.same.claimers less;
    records = fits record_of works r.records.items s.records.items n (vec_capacity r.records) (vec_capacity s.records) all.records room.records all.same.records less;
  }
