-- The deeds of a group: its accesses of the bus's words, in order, and behind them the carrying out of what waits.
use Rattle.std.proofs.Common.{◌≡◌, ℕ, zero, suc, List, [], ◌∷◌, ◌++◌, ap, ◌∙◌, sym, subst, refl}
use Rattle.std.proofs.lemmas.List.{append-nil}
use Rattle.std.specs.Prelude.{Option, Some, None}
use Rattle.vx_base.specs.declared.types.Size.{Size}
use Rattle.vx_isa.specs.WarpSteps.{Access, LaneAccess, Makes, Reads, Writes}
use Rattle.memory_banks.specs.declared.entry.BusEntry.{BusEntry}
use Rattle.memory_banks.specs.Buses.{MakesAll}
use Rattle.vx_core.specs.CoreSteps.{CoreState, Ends, GoesOn, Runs, RunsGroup, RunsOut, Setting, StepsOnce}
use Rattle.vx_core.specs.Places.{DrainsWords, Reach, Reaches, ReadsAt, WritesAt, place_at, with_entries}
use Rattle.vx_core.specs.declared.end.GroupEnd.{GroupEnd}
use Rattle.vx_core.specs.declared.place.Place.{Place}
use Rattle.vx_core.specs.declared.place.Place.TheVariants as place
use Rattle.core_bytes.specs.Deeds.{Deed, DoesAll, Draining, Reading, Writing, entries_in}
use Rattle.core_bytes.specs.GroupDeeds.{IsLed, kept_in}
use Rattle.core_bytes.proofs.Entries.{DoesAll-append, MakesAll-append, entries_in-append}

pub with_entries-append : (banks : ℕ) (es fs : List BusEntry) (steps : List ℕ) → with_entries banks (es ++ fs) steps ≡ with_entries banks fs (with_entries banks es steps)
with_entries-append banks [] fs steps = refl
with_entries-append banks (e ∷ es) fs steps = with_entries-append banks es fs _

module _ {B E : Type 0} (acts : B → BusEntry → B → Type 0) (evicts : E → ℕ → ℕ → ℕ → ℕ → E → Type 0) (port banks : ℕ) where
  -- nothing of the bus, the cache and the counts has changed
  abbrev pub stays : (p q : Reach B E) → q.bus ≡ p.bus → kept_in q ≡ kept_in p → q.steps ≡ p.steps → IsLed acts evicts port banks p q
  stays p q bus kept steps = record { deeds = []; leads = record { made = bus; does = kept; counted = steps } }

  abbrev pub same : (p q : Reach B E) → q ≡ p → IsLed acts evicts port banks p q
  same p q e = stays p q (ap (λ (r : Reach B E). r.bus) e) (ap kept_in e) (ap (λ (r : Reach B E). r.steps) e)

  abbrev pub then_led : (p q r : Reach B E) → IsLed acts evicts port banks p q → IsLed acts evicts port banks q r → IsLed acts evicts port banks p r
  then_led p q r a b =
      let all : entries_in (a.deeds ++ b.deeds) ≡ entries_in a.deeds ++ entries_in b.deeds = entries_in-append a.deeds b.deeds in
      record {
        deeds = a.deeds ++ b.deeds;
        leads = record {
          made = subst (λ (es : List BusEntry). MakesAll acts p.bus es r.bus) (sym all) (MakesAll-append acts p.bus (entries_in a.deeds) q.bus (entries_in b.deeds) r.bus a.leads.made b.leads.made);
          does = DoesAll-append evicts port a.deeds b.deeds (kept_in p) (kept_in q) (kept_in r) a.leads.does b.leads.does;
          counted =
              b.leads.counted
              ∙ (ap (with_entries banks (entries_in b.deeds)) a.leads.counted
              ∙ (sym (with_entries-append banks (entries_in a.deeds) (entries_in b.deeds) p.steps)
              ∙ ap (λ (es : List BusEntry). with_entries banks es p.steps) (sym all)));
        };
      }

  -- one deed
  abbrev pub one : (d : Deed) (p q : Reach B E) → MakesAll acts p.bus d.entries q.bus → DoesAll evicts port (d ∷ []) (kept_in p) (kept_in q) → q.steps ≡ with_entries banks d.entries p.steps → IsLed acts evicts port banks p q
  one d p q made does counted =
      let all : d.entries ++ [] ≡ d.entries = append-nil d.entries in
      record {
        deeds = d ∷ [];
        leads = record {
          made = subst (λ (es : List BusEntry). MakesAll acts p.bus es q.bus) (sym all) made;
          does = does;
          counted = counted ∙ ap (λ (es : List BusEntry). with_entries banks es p.steps) (sym all);
        };
      }

  abbrev pub read_led : (at : Place) (p q : Reach B E) (size : Size) (answer : ℕ) → ReadsAt acts evicts port banks at p size answer q → IsLed acts evicts port banks p q
  read_led (place.Scratchpad offset) p q size answer r = same p q r.same
  read_led (place.Words offset) p q size answer r =
      one (record { act = Reading offset size answer; entries = r.read.entries }) p q r.read.made (kept_in q, (r.aligned, r.read.read), refl) r.counted
  read_led place.Outside p q size answer r = absurd r

  abbrev pub write_led : (at : Place) (p q : Reach B E) (size : Size) (value : ℕ) → WritesAt acts port banks at p size value q → IsLed acts evicts port banks p q
  write_led (place.Scratchpad offset) p q size value w =
      stays p q (ap (λ (r : Reach B E). r.bus) w) (ap kept_in w) (ap (λ (r : Reach B E). r.steps) w)
  write_led (place.Words offset) p q size value w =
      one (record { act = Writing offset size value; entries = w.written.entries }) p q w.written.made (kept_in q, (w.aligned, w.written.written, w.same_policy), refl) w.counted
  write_led place.Outside p q size value w = absurd w

  abbrev pub access_led : (words : ℕ) (a : Access) (p q : Reach B E) → Reaches acts evicts words port banks p a q → IsLed acts evicts port banks p q
  access_led words (Reads address size answer) p q r = read_led (place_at words address size) p q size answer r
  access_led words (Writes address size value) p q w = write_led (place_at words address size) p q size value w

  abbrev pub accesses_led : (words : ℕ) (accesses : List LaneAccess) (p q : Reach B E) → Makes (Reaches acts evicts words port banks) p accesses q → IsLed acts evicts port banks p q
  accesses_led words [] p q e = same p q e
  accesses_led words (a ∷ accesses) p q made = then_led p made.0 q (access_led words a.access p made.0 made.1) (accesses_led words accesses made.0 q made.2)

  abbrev pub drain_led : (p q : Reach B E) → DrainsWords acts port banks p q → IsLed acts evicts port banks p q
  drain_led p q d = one (record { act = Draining; entries = d.drained.entries }) p q d.drained.made (kept_in q, (d.drained.drained, d.same_policy), refl) d.counted

module _ {B E P : Type 0} (acts : B → BusEntry → B → Type 0) (evicts : E → ℕ → ℕ → ℕ → ℕ → E → Type 0) (begins : P → ℕ → P → Type 0) (picks : P → ℕ → ℕ → P → Type 0) (g : Setting) where
  abbrev pub step_does : (s s' : CoreState B E P) (end : Option GroupEnd) → StepsOnce acts evicts picks g s end s' → IsLed acts evicts g.port g.banks s.reach s'.reach
  step_does s s' end step = accesses_led acts evicts g.port g.banks g.words _ s.reach s'.reach step.took.made

  abbrev pub goes_does : (n : ℕ) (s s' : CoreState B E P) → GoesOn acts evicts picks g n s s' → IsLed acts evicts g.port g.banks s.reach s'.reach
  goes_does zero s s' e = same acts evicts g.port g.banks s.reach s'.reach (ap (λ (t : CoreState B E P). t.reach) e)
  goes_does (suc n) s s' goes = then_led acts evicts g.port g.banks s.reach goes.0.reach s'.reach (goes_does n s goes.0 goes.1) (step_does goes.0 s' None goes.2)

  abbrev pub runs_does : (s s' : CoreState B E P) (end : GroupEnd) → Runs acts evicts picks g s end s' → IsLed acts evicts g.port g.banks s.reach s'.reach
  runs_does s s' end (Ends n last below goes step) = then_led acts evicts g.port g.banks s.reach last.reach s'.reach (goes_does n s last goes) (step_does last s' (Some end) step)
  runs_does s s' end (RunsOut goes out) = goes_does g.job.turns s s' goes

  -- The deeds of a group on a core lead from what its lanes reach before the group to what they reach behind it.
  abbrev pub group_does : (s s' : CoreState B E P) (end : GroupEnd) → RunsGroup acts evicts begins picks g s end s' → IsLed acts evicts g.port g.banks s.reach s'.reach
  group_does s s' end r =
      let opened : IsLed acts evicts g.port g.banks s.reach r.first.reach =
      stays acts evicts g.port g.banks s.reach r.first.reach (ap (λ (q : Reach B E). q.bus) r.opened.reach_is) (ap kept_in r.opened.reach_is) (ap (λ (q : Reach B E). q.steps) r.opened.reach_is) in
      then_led acts evicts g.port g.banks s.reach r.first.reach s'.reach opened
      (then_led acts evicts g.port g.banks r.first.reach r.last.reach s'.reach (runs_does r.first r.last end r.runs)
      (drain_led acts evicts g.port g.banks r.last.reach s'.reach r.closed.drained))
