-- Two machines that ask alike, and a third that asks for what words hold of it.
use Rattle.std.proofs.Common.{ℕ}
use Rattle.item_acts.specs.Machine.{Step}
use Rattle.step_machine.specs.Alike.{AskAlike}
use Rattle.reg_alloc.specs.Keeping.{AsksBare, bare}
use Rattle.image_lanes.specs.Lanes.{AsksTheSame}

bare_on : {S T U : Type 0} (f : S → Step S) (g : T → Step T) (h : U → Step U) (cost : S → ℕ) (cost' : T → ℕ) (s : S) (t : T) (u : U)
    → AskAlike f g cost cost' s t → AsksBare g h t u → AsksBare f h s u
bare_on f g h cost cost' s t u one other = record {
  kept = λ answers a asks.
      let there = one.kept asks.0 answers a asks.1 in
      other.kept answers a (there.steps, there.asks);
  no_more = λ answers a asks.
      let there = other.no_more answers a asks in
      (there.0, (one.no_more answers there.0 there.1.0, there.1.1));
}

same_of : {S U : Type 0} (f : S → Step S) (h : U → Step U) (s : S) (u : U) → AsksBare f h s u → AsksTheSame f h s u
same_of f h s u asks = record {
  asks = asks;
  silent = λ answers none a some.
      let there = asks.no_more answers a some in
      none there.0 there.1.0;
  only = λ answers none a some. none (bare a) (asks.kept answers a some);
}

pub same_on : {S T U : Type 0} (f : S → Step S) (g : T → Step T) (h : U → Step U) (cost : S → ℕ) (cost' : T → ℕ) (s : S) (t : T) (u : U)
    → AskAlike f g cost cost' s t → AsksBare g h t u → AsksTheSame f h s u
same_on f g h cost cost' s t u one other = same_of f h s u (bare_on f g h cost cost' s t u one other)
