-- The law of a kernel's words.
use Rattle.std.proofs.Common.{◌≡◌, ℕ, ◌≤◌, List, Some, slice_get, drop, ap, sym, subst, refl, inl, inr}
use Rattle.ocl_program.specs.Nodes.{FunctionNode}
use Rattle.ocl_sem.specs.Items.{item_start, item_step}
use Rattle.ocl_sem.specs.Settings.{setting_of}
use Rattle.task_machine.specs.Tasks.{cost as item_cost}
use Rattle.vx_isa.specs.declared.image.Site.{Site}
use Rattle.vcode.specs.Code.{Code}
use Rattle.vcode.specs.Machine.{cost as lane_cost, step}
use Rattle.vx_layout.specs.Launching.{Plan, Accepted}
use Rattle.simt_lowering.specs.Laid.{HasLane, around_of, named}
use Rattle.simt_lowering.specs.Runs.{Begins, begin}
use Rattle.lane_kernels.specs.Source.{AsksAs, DoesAs, IsLaunchOf}
use Rattle.reg_alloc.specs.Alone.{Setting, image_lane, image_step}
use Rattle.reg_alloc.specs.Blocks.{address_of_word}
use Rattle.reg_alloc.specs.Keeping.{RunsClean}
use Rattle.reg_alloc.specs.Layout.{sites_of, word_of_place, words_of}
use Rattle.reg_alloc.proofs.Basing.{based_from_begin}
use Rattle.reg_alloc.proofs.KeptLanes.{lanes_are_kept}
use Rattle.image_lanes.specs.Lanes.{AsksAsItem, WordsDoAsSource, setting_at}
use Rattle.image_lanes.specs.Laws.{IsLaneCode, IsAllocated, LanesDoAsSourceAtWords}
use Rattle.image_lanes.proofs.Composing.{same_on}
use Rattle.image_lanes.proofs.Settings.{is_setting}
use Rattle.image_lanes.proofs.Clean.{first_named, is_fresh}

module _ (program : List FunctionNode) (number : ℕ) (code : Code) (of_code : IsLaneCode program number code) (kernel : FunctionNode) (here : slice_get program number ≡ Some kernel)
    (p : Plan) (ok : Accepted p) (plan : IsLaunchOf kernel p) (item group warp lane : ℕ) (has : HasLane p item group warp lane) where
  abbrev pub k : Setting
  k = setting_at (words_of code.registers code.ops) (sites_of code.ops) p group warp lane

  -- the lane of the code does as the item from each place at which it may begin
  code_asks : (does : DoesAs program kernel code.ops p item (around_of p group warp lane)) (q : ℕ) (ns : List ℕ) → Begins q
      → AsksAs program kernel code.ops p item (around_of p group warp lane) (begin q (λ r. 0) ns)
  code_asks does q ns (inl e) = subst (λ x. AsksAs program kernel code.ops p item (around_of p group warp lane) (begin x (λ r. 0) ns)) (sym e) (does.from_start ns)
  code_asks does q ns (inr (inl e)) = subst (λ x. AsksAs program kernel code.ops p item (around_of p group warp lane) (begin x (λ r. 0) ns)) (sym e) (does.from_spawn (λ r. 0) ns)
  code_asks does q ns (inr (inr e)) = subst (λ x. AsksAs program kernel code.ops p item (around_of p group warp lane) (begin x (λ r. 0) ns)) (sym e) (does.from_item (λ r. 0) ns)

  runs_clean : (q : ℕ) (ns : List ℕ) → Begins q → RunsClean k (named p group) code.ops (begin q (λ r. 0) ns)
  runs_clean q ns begins = record {
    written = of_code.written (around_of p group warp lane) q (λ r. 0) ns begins;
    in_block = λ n t us comes. of_code.block (around_of p group warp lane) q (λ r. 0) ns begins n t us comes;
    named = λ n t us comes.
        first_named p ok (setting_of kernel p.range p.bounds item) (words_of code.registers code.ops) (sites_of code.ops) group warp lane (drop t.place code.ops) t.registers
        (of_code.accesses kernel here p ok plan item group warp lane has q (λ r. 0) ns begins n t us comes);
    based = λ n t based passes needs.
        let fresh = is_fresh of_code.passes.marks of_code.passes.code code.ops (ap (λ (c : Code). c.ops) of_code.passes.lowered) q begins in
        based_from_begin (around_of p group warp lane) code.ops fresh.0 (begin q (λ r. 0) ns) fresh.1 n t based passes needs;
  }

  pub asks_as_item : (does : DoesAs program kernel code.ops p item (around_of p group warp lane)) (fits : IsAllocated code (words_of code.registers code.ops) (sites_of code.ops) code.registers)
      → p.slots ≡ code.registers → AsksAsItem program kernel code.ops p item k
  asks_as_item does fits same q begins registers frame numbers small =
      same_on (item_step program (setting_of kernel p.range p.bounds item)) (step (around_of p group warp lane) code.ops) (image_step k)
      item_cost (lane_cost code.ops) (item_start program kernel p.bounds) (begin q (λ r. 0) numbers)
      (image_lane (address_of_word (word_of_place code.ops q)) registers frame numbers)
      (code_asks does q numbers begins)
      (lanes_are_kept code.registers code.ops fits.small of_code.registers fits.fits k (named p group)
      (is_setting p ok item group warp lane has code.registers same code.ops) (begin q (λ r. 0) numbers) small (runs_clean q numbers begins) registers frame)

-- so it is with the words of the definition
pub at_words : (program : List FunctionNode) (number : ℕ) (code : Code) → IsLaneCode program number code
    → IsAllocated code (words_of code.registers code.ops) (sites_of code.ops) code.registers
    → WordsDoAsSource program number code.ops (words_of code.registers code.ops) (sites_of code.ops) code.registers
at_words program number code of_code fits kernel here p ok plan same item group warp lane has =
    asks_as_item program number code of_code kernel here p ok plan item group warp lane has
    ((of_code.asks kernel here p ok plan).does item group warp lane has) fits same

pub lanes_do_as_source : LanesDoAsSourceAtWords
lanes_do_as_source program number code made sites slots of_code fits =
    at_made made sites slots (sym fits.words) (sym fits.sites) (sym fits.slots) fits
  where
    at_made : (made : List ℕ) (sites : List Site) (slots : ℕ) → words_of code.registers code.ops ≡ made → sites_of code.ops ≡ sites → code.registers ≡ slots
        → IsAllocated code made sites slots → WordsDoAsSource program number code.ops made sites slots
    at_made made sites slots words_are sites_are slots_are fits =
        subst (λ ws. WordsDoAsSource program number code.ops ws sites slots) words_are
        (subst (λ ss. WordsDoAsSource program number code.ops (words_of code.registers code.ops) ss slots) sites_are
        (subst (λ n. WordsDoAsSource program number code.ops (words_of code.registers code.ops) (sites_of code.ops) n) slots_are
        (at_words program number code of_code
        (record { fits = fits.fits; words = refl; sites = refl; slots = refl; small = subst (λ n. n ≤ 256) (sym slots_are) fits.small }))))
