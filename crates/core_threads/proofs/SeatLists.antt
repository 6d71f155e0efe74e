-- Lists of ports, claimers and cores, while cores are made ready one after another.
use Rattle.std.proofs.Common.{◌≡◌, ℕ, suc, ◌+◌, ◌<◌, ◌≤◌, inl, inr, List, [], ◌∷◌, ◌++◌, length, map, get_or, take, ap, sym, subst, ◌∙◌, All, arith, length-append, append_assoc, slice_index_or}
use Rattle.std.specs.List.{range_with_len}
use Rattle.std.proofs.lemmas.List.{append-nil, get_or_append_left, get_or-take, length-map, length-take, map-append}
use Rattle.std.proofs.lemmas.List.FromFn.{get_or-range_with_len, length-range_with_len}
use Rattle.std.proofs.Math.Seq.{get_or-append_seam}
use Rattle.std.proofs.lemmas.Bool.{cases_lt}
use Rattle.group_dispenser.specs.declared.claimer.Claimer.{Claimer}
use Rattle.group_dispenser.specs.declared.dispenser.Dispenser.{Dispenser}
use Rattle.memory_banks.specs.Ports.{IsNew, held, number, seen}
use Rattle.memory_banks.specs.Rule.{one_of}
use Rattle.memory_banks.specs.declared.banks.Banks.{Banks}
use Rattle.memory_banks.specs.declared.port.Port.{Port}
use Rattle.core_threads.specs.Joins.{port_in}
use Rattle.core_threads.specs.Seats.{AreClaimersOf, ArePortsOf, IsClaimerOf, IsPortOf}
use Rattle.core_threads.specs.Starts.{EachSeated, IsSeated}
use Rattle.core_threads.specs.declared.work.CoreWork.{CoreWork}
use Rattle.core_threads.proofs.Assembly.{get_map}

-- ports for the cores from a number on
abbrev pub PortsFrom : Banks → ℕ → List Port → Type 0
PortsFrom banks n ports = (k : ℕ) (p : Port) → k < length ports → IsPortOf banks (n + k) (slice_index_or ports k p)

pub first_port : (banks : Banks) (n : ℕ) (ports rest : List Port) (p : Port) → ports ≡ p ∷ rest → PortsFrom banks n ports → IsPortOf banks n p
first_port banks n ports rest p is from =
    let here : PortsFrom banks n (p ∷ rest) = subst (λ (ps : List Port). PortsFrom banks n ps) is from in
    let same : n + 0 ≡ n = omega arith in
    subst (λ (m : ℕ). IsPortOf banks m p) same (here 0 p (omega arith))

pub next_ports : (banks : Banks) (n : ℕ) (ports rest : List Port) (p : Port) → ports ≡ p ∷ rest → PortsFrom banks n ports → PortsFrom banks (n + 1) rest
next_ports banks n ports rest p is from k q within =
    let here : PortsFrom banks n (p ∷ rest) = subst (λ (ps : List Port). PortsFrom banks n ps) is from in
    let same : n + suc k ≡ n + 1 + k = omega arith in
    subst (λ (m : ℕ). IsPortOf banks m (slice_index_or rest k q)) same (here (suc k) q (omega arith))

pub first_ports : (banks : Banks) (ports : List Port) → ArePortsOf banks ports → PortsFrom banks 0 ports
first_ports banks ports all k p within =
    let same : k ≡ 0 + k = omega arith in
    subst (λ (m : ℕ). IsPortOf banks m (slice_index_or ports k p)) same (all k p within)

pub first_claimer : (d : Dispenser) (claimers rest : List Claimer) (c : Claimer) → claimers ≡ c ∷ rest → AreClaimersOf d claimers → IsClaimerOf d c
first_claimer d claimers rest c is all =
    let here : AreClaimersOf d (c ∷ rest) = subst (λ (cs : List Claimer). AreClaimersOf d cs) is all in
    here 0 c (omega arith)

pub next_claimers : (d : Dispenser) (claimers rest : List Claimer) (c : Claimer) → claimers ≡ c ∷ rest → AreClaimersOf d claimers → AreClaimersOf d rest
next_claimers d claimers rest c is all k e within =
    let here : AreClaimersOf d (c ∷ rest) = subst (λ (cs : List Claimer). AreClaimersOf d cs) is all in
    here (suc k) e (omega arith)

pub one_fewer : {A : Type 0} (xs rest : List A) (x : A) (n m : ℕ) → xs ≡ x ∷ rest → length xs + n ≡ m → length rest + (n + 1) ≡ m
one_fewer xs rest x n m is all = let long = ap (λ l. length l) is in omega (arith, long, all)

module _ {P E : Type 0} (evictor_begins : E → ℕ → E → Type 0) (groups bank_count sets : ℕ) (banks : Banks) (d : Dispenser) where
  pub none_seated : EachSeated {P = P} evictor_begins groups bank_count sets banks d []
  none_seated core w within = absurd (omega arith)

  pub one_seated : (works : List (CoreWork P E)) (n : ℕ) (w : CoreWork P E) → length works ≡ n → EachSeated evictor_begins groups bank_count sets banks d works
      → IsSeated evictor_begins groups bank_count sets banks d n w → EachSeated evictor_begins groups bank_count sets banks d (works ++ w ∷ [])
  one_seated works n w long each one core e within =
      elim (cases_lt core (length works)) [
        | inl before ↦
            subst (λ (x : CoreWork P E). IsSeated evictor_begins groups bank_count sets banks d core x) (sym (get_or_append_left works (w ∷ []) e core before)) (each core e before)
        | inr last ↦
            let here : core ≡ length works = omega (arith, last, within, length-append works (w ∷ [])) in
            let at : get_or (works ++ w ∷ []) core e ≡ w = ap (λ (j : ℕ). get_or (works ++ w ∷ []) j e) here ∙ get_or-append_seam works w [] e in
            let number : n ≡ core = sym long ∙ sym here in
            subst (λ (x : CoreWork P E). IsSeated evictor_begins groups bank_count sets banks d core x) (sym at)
            (subst (λ (m : ℕ). IsSeated evictor_begins groups bank_count sets banks d m w) number one)
      ]

pub port_behind_ports : {P E : Type 0} (works : List (CoreWork P E)) (w : CoreWork P E) (ports rest next : List Port) (p : Port) → ports ≡ map port_in works ++ rest → rest ≡ p ∷ next → port_in w ≡ p → ports ≡ map port_in (works ++ w ∷ []) ++ next
port_behind_ports works w ports rest next p all is same =
    all ∙ (ap (λ (l : List Port). map port_in works ++ l) is
    ∙ (ap (λ (q : Port). map port_in works ++ (q ∷ next)) (sym same)
    ∙ (sym (append_assoc (map port_in works) (port_in w ∷ []) next)
    ∙ ap (λ (l : List Port). l ++ next) (sym (map-append port_in works (w ∷ []))))))

pub all_ports : {P E : Type 0} (works : List (CoreWork P E)) (ports rest : List Port) (n : ℕ) → ports ≡ map port_in works ++ rest → length ports ≡ n → length works ≡ n → map port_in works ≡ ports
all_ports works ports rest n all long count =
    let whole : length ports ≡ length (map port_in works ++ rest) = ap (λ (l : List Port). length l) all in
    none_left rest (omega (arith, whole, length-append (map port_in works) rest, length-map works port_in, long, count)) all where
      none_left : (rest : List Port) → length rest ≡ 0 → ports ≡ map port_in works ++ rest → map port_in works ≡ ports
      none_left [] empty is = sym (is ∙ append-nil (map port_in works))
      none_left (p ∷ rest) empty is = absurd (omega (arith, empty))

module _ {P E : Type 0} (evictor_begins : E → ℕ → E → Type 0) (groups bank_count sets : ℕ) (banks : Banks) (d : Dispenser) (given : List Port) (cores : ℕ) where
  -- so many cores are ready, and there are ports, claimers and policies for the others
  pub record Seating (number : ℕ) (works : List (CoreWork P E)) (capacity : ℕ) (ports : List Port) (claimers : List Claimer) (policies : ℕ) : Type 0 where
    pub room : cores ≤ capacity
    pub count : length works ≡ number
    pub ports_from : PortsFrom banks number ports
    pub ports_left : length ports + number ≡ cores
    pub all_given : given ≡ map port_in works ++ ports
    pub claimers_ready : AreClaimersOf d claimers
    pub claimers_left : length claimers + number ≡ cores
    pub policies_left : policies + number ≡ cores
    pub each : EachSeated evictor_begins groups bank_count sets banks d works

  pub none_yet : (works : List (CoreWork P E)) (capacity : ℕ) (ports : List Port) (claimers asked : List Claimer) (policies : ℕ) → works ≡ [] → cores ≤ capacity → ports ≡ given → (length given ≡ cores) × ArePortsOf banks given
      → claimers ≡ asked → (length asked ≡ cores) × AreClaimersOf d asked → policies ≡ cores → Seating 0 works capacity ports claimers policies
  none_yet works capacity ports claimers asked policies none room same_ports ports_are same_claimers claimers_are all = record {
    room = room;
    count = ap (λ (ws : List (CoreWork P E)). length ws) none;
    ports_from = subst (λ (ps : List Port). PortsFrom banks 0 ps) (sym same_ports) (first_ports banks given ports_are.1);
    ports_left = let long : length ports ≡ length given = ap (λ (ps : List Port). length ps) same_ports in omega (arith, long, ports_are.0);
    all_given = sym same_ports ∙ ap (λ (ws : List (CoreWork P E)). map port_in ws ++ ports) (sym none);
    claimers_ready = subst (λ (cs : List Claimer). AreClaimersOf d cs) (sym same_claimers) claimers_are.1;
    claimers_left = let long : length claimers ≡ length asked = ap (λ (cs : List Claimer). length cs) same_claimers in omega (arith, long, claimers_are.0);
    policies_left = omega (arith, all);
    each = subst (λ (ws : List (CoreWork P E)). EachSeated evictor_begins groups bank_count sets banks d ws) (sym none) (none_seated evictor_begins groups bank_count sets banks d);
  }

  pub one_seat_more : (number : ℕ) (works works' : List (CoreWork P E)) (capacity capacity' : ℕ) (ports ports' : List Port) (claimers claimers' : List Claimer) (policies policies' : ℕ) (p : Port) (c : Claimer) (w : CoreWork P E)
      → Seating number works capacity ports claimers policies → ports ≡ p ∷ ports' → claimers ≡ c ∷ claimers' → policies ≡ 1 + policies' → IsSeated evictor_begins groups bank_count sets banks d number w → port_in w ≡ p
      → works' ≡ works ++ w ∷ [] → capacity' ≡ capacity → Seating (number + 1) works' capacity' ports' claimers' policies'
  one_seat_more number works works' capacity capacity' ports ports' claimers claimers' policies policies' p c w s ports_are claimers_are policies_are seated same pushed same_room = record {
    room = subst (λ (n : ℕ). cores ≤ n) (sym same_room) s.room;
    count = let long : length works' ≡ length (works ++ w ∷ []) = ap (λ (ws : List (CoreWork P E)). length ws) pushed in omega (arith, long, length-append works (w ∷ []), s.count);
    ports_from = next_ports banks number ports ports' p ports_are s.ports_from;
    ports_left = one_fewer ports ports' p number cores ports_are s.ports_left;
    all_given = port_behind_ports works w given ports ports' p s.all_given ports_are same ∙ ap (λ (ws : List (CoreWork P E)). map port_in ws ++ ports') (sym pushed);
    claimers_ready = next_claimers d claimers claimers' c claimers_are s.claimers_ready;
    claimers_left = one_fewer claimers claimers' c number cores claimers_are s.claimers_left;
    policies_left = omega (arith, policies_are, s.policies_left);
    each = subst (λ (ws : List (CoreWork P E)). EachSeated evictor_begins groups bank_count sets banks d ws) (sym pushed) (one_seated evictor_begins groups bank_count sets banks d works number w s.count s.each seated);
  }

-- ---- the ports and claimers that are made for the cores

pub made_ports : (banks : Banks) (first : Port) (n : ℕ) (ports : List Port) → n ≤ 8 → held first ≡ range_with_len 1 15 → seen first ≡ [] → map number ports ≡ take n (held first) → All (λ p. IsNew banks first p) ports
    → (length ports ≡ n) × ArePortsOf banks ports
made_ports banks first n ports few held_are none numbers_are new = (long, each) where
  in_row : map number ports ≡ take n (range_with_len 1 15)
  in_row = numbers_are ∙ ap (λ (l : List ℕ). take n l) held_are

  long : length ports ≡ n
  long =
      let row : length (map number ports) ≡ length (take n (range_with_len 1 15)) = ap (λ (l : List ℕ). length l) in_row in
      omega (arith, row, length-map ports number, length-take n (range_with_len 1 15), length-range_with_len 1 15, few)

  each : ArePortsOf banks ports
  each core p within =
      let one = new core p within in
      let at : number (slice_index_or ports core p) ≡ 1 + core =
      sym (get_map number ports core p 0 within)
      ∙ (ap (λ (l : List ℕ). get_or l core 0) in_row
      ∙ (get_or-take n (range_with_len 1 15) core 0 (omega (arith, within, long))
      ∙ get_or-range_with_len 1 15 core 0 (omega (arith, within, long, few)))) in
      let is : number (slice_index_or ports core p) ≡ suc core = omega (arith, at) in
      record { of = one.of; port_is = is; alone = one.alone ∙ ap one_of is; none_seen = one.seen_is ∙ none }
