-- Constant buffers are read honestly and every move is safe: by induction on places, where a move is looked at once all moves
-- before it on its core and all moves of lesser place on other cores are safe.
use Rattle.std.proofs.Common.{◌≡◌, ◌≢◌, ℕ, zero, suc, ◌+◌, ◌<◌, ◌≤◌, Bool, true, false, List, [], ◌∷◌, ◌++◌, refl, ap, sym, ◌∙◌, subst, inl, inr, arith, append_assoc, append-nil}
use Rattle.std.proofs.lemmas.Bool.{true≢false, cases_lt, cond-false, false_from_ne_true}
use Rattle.vx_base.specs.Bytes.{bytes_of, byte_of}
use Rattle.vx_base.specs.declared.types.Size.{Size}
use Rattle.vx_base.proofs.NumberLaws.{number_of-same, number_of-whole}
use Rattle.item_acts.specs.declared.acts.Place.{Place}
use Rattle.item_acts.specs.declared.acts.Place.TheVariants.{Global, Local}
use Rattle.item_acts.specs.declared.acts.Action.TheVariants.{Load, Store}
use Rattle.item_acts.specs.Launches.{Launch, ItemAsks, State, opening_bytes, further, covers, field_at, IsInside}
use Rattle.item_acts.proofs.Launches.{covers_within}
use Rattle.launch_order.specs.Events.{CoreEnd}
use Rattle.launch_order.specs.Cores.{CoreEvents}
use Rattle.launch_order.specs.Moves.{Cell, Shared, Scratch, Move, Reads, Writes, Leaves, Frees, Moved, writes_to, written, left_by, Held, Byte, NoByte, core_events, IsLocalOf, IsMap, KeepsToArrays, MovesNeverFall, WritesFrom, opening_cells, KeepsBytes, IsSafe, seen_of, Along, is_constant, IsHonest, AreHonest, GoesAlong}
use Rattle.launch_order.proofs.MoveBytes.{aside_not}
use Rattle.launch_order.proofs.MoveEvents.{along_at, global_given, moves_known}

-- each of these moves has a place below this
abbrev AllBelow : ℕ → List Moved → Type 0
AllBelow bound [] = Unit {0}
AllBelow bound (m ∷ moves) = (m.place < bound) × AllBelow bound moves

below_more : (bound more : ℕ) (moves : List Moved) → bound ≤ more → AllBelow bound moves → AllBelow more moves
below_more bound more [] le below = tt
below_more bound more (m ∷ moves) le below = let first = below.0 in (omega (arith, le, first), below_more bound more moves le below.1)

-- a number above each place
top : List Moved → ℕ
top [] = 0
top (m ∷ moves) = suc m.place + top moves

below_top : (moves : List Moved) → AllBelow (top moves) moves
unfolding top
below_top [] = tt
below_top (m ∷ moves) = (omega arith, below_more (top moves) (suc m.place + top moves) moves (omega arith) (below_top moves))

-- where places never fall none before a move is greater
rises_to : (low : ℕ) (before : List Moved) (m : Moved) (behind : List Moved) → MovesNeverFall low (before ++ m ∷ behind) → low ≤ m.place
rises_to low [] m behind rising = rising.0
rises_to low (x ∷ before) m behind rising =
    let first = rising.0 in
    let rest = rises_to x.place before m behind rising.1 in
    omega (arith, first, rest)

below_up_to : (low bound : ℕ) (before : List Moved) (m : Moved) (behind : List Moved) → MovesNeverFall low (before ++ m ∷ behind) → m.place < bound
    → AllBelow bound (before ++ m ∷ [])
below_up_to low bound [] m behind rising lt = (lt, tt)
below_up_to low bound (x ∷ before) m behind rising lt =
    let rest = rises_to x.place before m behind rising.1 in
    (omega (arith, lt, rest), below_up_to x.place bound before m behind rising.1 lt)

-- what holds along moves and of one more
along_more : (P : List Moved → Moved → Type 0) (front xs : List Moved) (m : Moved) → Along P front xs → P (front ++ xs) m → Along P front (xs ++ m ∷ [])
along_more P front [] m along here = (subst (λ zs. P zs m) (append-nil front) here, tt)
along_more P front (x ∷ xs) m along here =
    (along.0, along_more P (front ++ x ∷ []) xs m along.1 (subst (λ zs. P zs m) (sym (append_assoc front (x ∷ []) xs)) here))

honest_more : (holds : ℕ → Cell → Held) (constant : ℕ → Bool) (given : ℕ → ℕ → ℕ) (xs : List Moved) (m : Moved) → AreHonest holds constant given xs
    → IsHonest holds constant given m.what → AreHonest holds constant given (xs ++ m ∷ [])
honest_more holds constant given [] m honest here = (here, tt)
honest_more holds constant given (x ∷ xs) m honest here = (honest.0, honest_more holds constant given xs m honest.1 here)

written_same : (bytes : Cell → ℕ) (m : Move) (c : Cell) → writes_to m c ≡ false → written bytes m c ≡ bytes c
written_same bytes (Reads item cell size n) c e = refl
written_same bytes (Writes item cell size n) c e = cond-false _ _ _ e
written_same bytes (Leaves item) c e = refl
written_same bytes (Frees group stood) c e = refl

further_constant : (constant : ℕ → Bool) (p : Place) (k : ℕ) → is_constant constant (further p k) ≡ is_constant constant p
further_constant constant (Global buffer byte) k = refl
further_constant constant (Local group array byte) k = refl

constant_global : (constant : ℕ → Bool) (p : Place) (own : ℕ) → IsLocalOf own p → is_constant constant p ≡ true → ⊥
constant_global constant (Global buffer byte) own in_group e = in_group
constant_global constant (Local group array byte) own in_group e = true≢false (sym e)

-- a store that an item asks for covers no constant byte
stores_no_constant : (l : Launch) (constant : ℕ → Bool) → KeepsToArrays l constant → (item : ℕ) (answers : List ℕ) (p q : Place) (size : Size) (value : ℕ) → item < l.items
    → ItemAsks l item answers (Store p size value) → is_constant constant q ≡ true → covers p (bytes_of size) q ≡ true → ⊥
stores_no_constant l constant keeps item answers (Global buffer at) (Global buffer' byte) size value exists asks is e =
    let within = covers_within buffer at (bytes_of size) buffer' byte e in
    true≢false (sym is ∙ ap constant (sym within.0) ∙ keeps.kept item answers buffer at size value exists asks)
stores_no_constant l constant keeps item answers (Global buffer at) (Local group array byte) size value exists asks is e = true≢false (sym is)
stores_no_constant l constant keeps item answers (Local group array at) (Global buffer byte) size value exists asks is e = true≢false (sym e)
stores_no_constant l constant keeps item answers (Local group array at) (Local group' array' byte) size value exists asks is e = true≢false (sym is)

-- so a safe move writes no cell of one
safe_not_written : (l : Launch) (holds : ℕ → Cell → Held) (address : ℕ → ℕ → ℕ) → IsMap l holds address → (constant : ℕ → Bool) → KeepsToArrays l constant
    → (core_of : ℕ → ℕ) (core : ℕ) (own : State) (m : Move) → IsSafe l holds core_of core own m → (other a : ℕ) (q : Place) → holds other (Shared a) ≡ Byte q
    → is_constant constant q ≡ true → writes_to m (Shared a) ≡ false
safe_not_written l holds address map constant keeps core_of core own (Reads item cell size n) safe other a q is const = refl
safe_not_written l holds address map constant keeps core_of core own (Writes item cell size n) (inl aside) other a q is const =
    aside_not holds cell (Shared a) (bytes_of size) other q aside is
safe_not_written l holds address map constant keeps core_of core own (Writes item cell size n) (inr (p, here, asks)) other a q is const =
    let inside : IsInside l p (bytes_of size) = keeps.within item (own.answers item) (Store p size n) asks.exists asks.asks in
    false_from_ne_true _ (λ e. stores_no_constant l constant keeps item (own.answers item) p q size n asks.exists asks.asks const
    (map.exact item other cell (Shared a) p q (bytes_of size) here inside is tt ∙ e))
safe_not_written l holds address map constant keeps core_of core own (Leaves item) safe other a q is const = refl
safe_not_written l holds address map constant keeps core_of core own (Frees group stood) safe other a q is const = refl

module _ (Knows : ℕ → List Moved → Moved → Type 0) (l : Launch) (holds : ℕ → Cell → Held) (address : ℕ → ℕ → ℕ) (constant : ℕ → Bool) (given final : ℕ → ℕ → ℕ) (opening : ℕ → ℕ)
    (cores : ℕ) (moves : ℕ → List Moved) (ends : ℕ → CoreEnd) (core_of : ℕ → ℕ) (map : IsMap l holds address) (keeps : KeepsToArrays l constant)
    (bytes : KeepsBytes l holds address given final opening cores moves ends core_of)
    (goes : GoesAlong Knows l holds constant given cores moves ends core_of) where
  -- moves of other cores that have a lesser place are safe
  abbrev EarlierSafe : ℕ → ℕ → Type 0
  EarlierSafe core place = (other : ℕ) → other < cores → other ≢ core → (before : List Moved) (m : Moved) (behind : List Moved) → moves other ≡ before ++ m ∷ behind
      → m.place < place → IsSafe l holds core_of other (seen_of holds given before) m.what

  -- so a constant cell is clear
  clear_rest : (core place : ℕ) → EarlierSafe core place → (other : ℕ) → other < cores → other ≢ core → (item a : ℕ) (q : Place) → holds item (Shared a) ≡ Byte q
      → is_constant constant q ≡ true → (front rest : List Moved) → moves other ≡ front ++ rest → WritesFrom place (Shared a) rest
  clear_rest core place earlier other below differ item a q is const front [] split = tt
  clear_rest core place earlier other below differ item a q is const front (m ∷ rest) split = (
    λ e. elim (cases_lt m.place place) [
      | inl lt ↦
          absurd (true≢false (sym e ∙ safe_not_written l holds address map constant keeps core_of other (seen_of holds given front) m.what
          (earlier other below differ front m rest split lt) item a q is const))
      | inr le ↦ le
    ],
    clear_rest core place earlier other below differ item a q is const (front ++ m ∷ []) rest (split ∙ sym (append_assoc front (m ∷ []) rest)),
  )

  -- and the core itself has not written it
  unwritten : (core : ℕ) → core < cores → (item a : ℕ) (q : Place) → holds item (Shared a) ≡ Byte q → is_constant constant q ≡ true
      → (front rest more : List Moved) → moves core ≡ front ++ (rest ++ more) → Along (Knows core) front rest → (cells : Cell → ℕ)
      → left_by cells rest (Shared a) ≡ cells (Shared a)
  unwritten core below item a q is const front [] more split along cells = refl
  unwritten core below item a q is const front (m ∷ rest) more split along cells =
      unwritten core below item a q is const (front ++ m ∷ []) rest more (split ∙ sym (append_assoc front (m ∷ []) (rest ++ more))) along.1 (written cells m.what)
      ∙ written_same cells m.what (Shared a) (safe_not_written l holds address map constant keeps core_of core (seen_of holds given front) m.what
      (goes.safe core below front m (rest ++ more, split) along.0) item a q is const)

  -- a read of a constant buffer is honest
  honest_read : (core : ℕ) → core < cores → (before : List Moved) (m : Moved) (behind : List Moved) → moves core ≡ before ++ m ∷ behind → Along (Knows core) [] before
      → EarlierSafe core m.place → (item : ℕ) (cell : Cell) (size : Size) (n : ℕ) → m.what ≡ Reads item cell size n → (p : Place) → holds item cell ≡ Byte p
      → IsInside l p (bytes_of size) → is_constant constant p ≡ true → n ≡ field_at (opening_bytes given) p (bytes_of size)
  honest_read core below before m behind split along earlier item (Scratch a) size n what p is inside const =
      absurd (constant_global constant p _ (map.scratch_is item a p is) const)
  honest_read core below before m behind split along earlier item (Shared a) size n what p is inside const =
      sym (number_of-whole n (bytes_of size) (bytes.fits core below before m (behind, split) item (Shared a) size n what))
      ∙ number_of-same (byte_of n) (λ k. opening_bytes given (further p k)) (bytes_of size)
      (λ k small.
      let there : holds item (Shared (a + k)) ≡ Byte (further p k) = map.names item (Shared a) p (bytes_of size) k is inside small in
      let const' : is_constant constant (further p k) ≡ true = further_constant constant p k ∙ const in
      bytes.shared core below before m (behind, split) item a size n k what small
      (λ other below' differ. clear_rest core m.place earlier other below' differ item (a + k) (further p k) there const' [] (moves other) refl)
      ∙ unwritten core below item (a + k) (further p k) there const' [] before (m ∷ behind) split along (opening_cells opening)
      ∙ global_given l holds given opening bytes.opens item (a + k) (further p k) (map.shared_is item (a + k) (further p k) there) there)

  honest_of : (core : ℕ) → core < cores → (before : List Moved) (m : Moved) (behind : List Moved) → moves core ≡ before ++ m ∷ behind → Along (Knows core) [] before
      → EarlierSafe core m.place → (what : Move) → m.what ≡ what → IsSafe l holds core_of core (seen_of holds given before) what → IsHonest holds constant given what
  honest_of core below before m behind split along earlier (Reads item cell size n) what (inl none) =
      λ p is const. let clash : NoByte ≡ Byte p = sym none ∙ is in absurd (cc)
  honest_of core below before m behind split along earlier (Reads item cell size n) what (inr (p, here, asks)) =
      λ q is const.
      let both : Byte p ≡ Byte q = sym here ∙ is in
      let same : p ≡ q = cc in
      let inside : IsInside l p (bytes_of size) = keeps.within item ((seen_of holds given before).answers item) (Load p size) asks.exists asks.asks in
      honest_read core below before m behind split along earlier item cell size n what q is (subst (λ z. IsInside l z (bytes_of size)) same inside) const
  honest_of core below before m behind split along earlier (Writes item cell size n) what safe = tt
  honest_of core below before m behind split along earlier (Leaves item) what safe = tt
  honest_of core below before m behind split along earlier (Frees group stood) what safe = tt

  -- moves are added one by one
  walk : (core : ℕ) → core < cores → (bound : ℕ) → ((place : ℕ) → place < suc bound → EarlierSafe core place) → (front rest behind : List Moved)
      → moves core ≡ front ++ (rest ++ behind) → AllBelow (suc bound) rest → AreHonest holds constant given front → Along (Knows core) [] front
      → AreHonest holds constant given (front ++ rest) × Along (Knows core) [] (front ++ rest)
  walk core below bound earlier front [] behind split low honest along =
      (subst (AreHonest holds constant given) (sym (append-nil front)) honest, subst (Along (Knows core) []) (sym (append-nil front)) along)
  walk core below bound earlier front (m ∷ rest) behind split low honest along =
      let knows : Knows core front m = goes.known core below front m (rest ++ behind, split) honest along in
      let safe = goes.safe core below front m (rest ++ behind, split) knows in
      let here : IsHonest holds constant given m.what =
      honest_of core below front m (rest ++ behind) split along (earlier m.place low.0) m.what refl safe in
      subst (λ zs. AreHonest holds constant given zs × Along (Knows core) [] zs) (append_assoc front (m ∷ []) rest)
      (walk core below bound earlier (front ++ m ∷ []) rest behind (split ∙ sym (append_assoc front (m ∷ []) (rest ++ behind))) low.1
      (honest_more holds constant given front m honest here) (along_more (Knows core) [] front m along knows))

  -- by places: moves with lesser places come first
  by_places : (bound core : ℕ) → core < cores → (before behind : List Moved) → moves core ≡ before ++ behind → AllBelow bound before
      → AreHonest holds constant given before × Along (Knows core) [] before
  by_places zero core below [] behind split low = (tt, tt)
  by_places zero core below (m ∷ before) behind split low = let first = low.0 in absurd (omega (arith, first))
  by_places (suc bound) core below before behind split low =
      walk core below bound
      (λ place small other below' differ front m rest split' lt.
      let rising : MovesNeverFall 0 (front ++ m ∷ rest) = subst (MovesNeverFall 0) split' (bytes.rising other below') in
      let known = by_places bound other below' (front ++ m ∷ []) rest (split' ∙ sym (append_assoc front (m ∷ []) rest))
      (below_up_to 0 bound front m rest rising (omega (arith, small, lt))) in
      goes.safe other below' front m (rest, split') (along_at (Knows other) [] (front ++ m ∷ []) front m [] known.1 refl))
      [] before behind split low tt tt

  all_known : (core : ℕ) → core < cores → AreHonest holds constant given (moves core) × Along (Knows core) [] (moves core)
  all_known core below = by_places (top (moves core)) core below (moves core) [] (sym (append-nil (moves core))) (below_top (moves core))

  -- each core reads constant buffers honestly
  pub all_honest : (core : ℕ) → core < cores → AreHonest holds constant given (moves core)
  all_honest core below = (all_known core below).0

  safe_rest : (core : ℕ) → core < cores → (front rest : List Moved) → moves core ≡ front ++ rest → Along (Knows core) front rest
      → Along (λ before m. IsSafe l holds core_of core (seen_of holds given before) m.what) front rest
  safe_rest core below front [] split along = tt
  safe_rest core below front (m ∷ rest) split along = (
    goes.safe core below front m (rest, split) along.0,
    safe_rest core below (front ++ m ∷ []) rest (split ∙ sym (append_assoc front (m ∷ []) rest)) along.1,
  )

  -- each move is safe
  pub all_moves_safe : (core : ℕ) → core < cores → Along (λ before m. IsSafe l holds core_of core (seen_of holds given before) m.what) [] (moves core)
  all_moves_safe core below = safe_rest core below [] (moves core) refl (all_known core below).1

  -- and all is known of the events
  pub moves_give_events : CoreEvents l given final cores (core_events holds moves) ends
  moves_give_events =
      moves_known l holds address constant given final opening cores moves ends core_of map keeps bytes all_moves_safe
      (λ core below item pos e. let all = all_known core below in goes.at_fault core below item pos e all.0 all.1)
      (λ core below e. let all = all_known core below in goes.stuck core below e all.0 all.1)
