-- What is spoilt stays so: that very piece, and it is found where it was.
use Rattle.std.proofs.Common.{◌≡◌, ℕ, Bool, List, ◌++◌, Some, sym, ◌∙◌}
use Rattle.std.specs.List.{ContainsAt as Has}
use Rattle.std.proofs.ByRecursion.{has_append_right}
use Rattle.grounds.specs.declared.block.Block.{Block}
use Rattle.grounds.specs.declared.event.Event.{Event}
use Rattle.grounds.specs.declared.event.Event.TheVariants.{Get, Give, Size, Look, Garbled}
use Rattle.grounds.specs.declared.answer.Answer.{Answer}
use Rattle.grounds.specs.declared.answer.Answer.TheVariants.{Refused, Done, Place, Number, Overrun, Harmed, Whole}
use Rattle.grounds.specs.Blocks.{Limits}
use Rattle.grounds.specs.Grounds.{State, all_blocks, find, without, out_at, got_at, after}
use Rattle.grounds.specs.Worlds.{GoodLimits, Program}
use Rattle.grounds.specs.Promises.{Right}
use Rattle.grounds.specs.Statements.{LaidOut, SpoiltStays, SpoiltFound}
use Rattle.grounds.proofs.Lists.{has_later}
use Rattle.grounds.proofs.Found.{find_has, find_past}
use Rattle.grounds.proofs.Happened.{Happened, turns_away, gets, spoils, gives, overruns, sizes, looks_overrun, looks_harmed, looks_whole, happened}
use Rattle.grounds.proofs.Laid.{got_laid, others_elsewhere}
use Rattle.grounds.proofs.Kept.{found_first, lived_kept}

pub spoilt_stays : SpoiltStays
unfolding after
spoilt_stays l s (Get n) (Refused r a) b has = has
spoilt_stays l s (Get n) Done b has = has
spoilt_stays l s (Get n) (Place a) b has = has
spoilt_stays l s (Get n) (Number m) b has = has
spoilt_stays l s (Get n) (Overrun a) b has = has
spoilt_stays l s (Get n) (Harmed a) b has = has_later (got_at l n a) s.spoilt b has
spoilt_stays l s (Get n) Whole b has = has
spoilt_stays l s (Give c) (Refused r a) b has = has
spoilt_stays l s (Give c) Done b has = has
spoilt_stays l s (Give c) (Place a) b has = has
spoilt_stays l s (Give c) (Number m) b has = has
spoilt_stays l s (Give c) (Overrun a) b has = has_later (out_at s c) s.spoilt b has
spoilt_stays l s (Give c) (Harmed a) b has = has
spoilt_stays l s (Give c) Whole b has = has
spoilt_stays l s (Size c) x b has = has
spoilt_stays l s Look x b has = has
spoilt_stays l s (Garbled n) x b has = has

module _ (can : ℕ → Bool) (l : Limits) (good : GoodLimits can l) (s : State) (g : List ℕ) (out : LaidOut l (all_blocks s)) (b : Block)
    (f : find b.at s.spoilt ≡ Some b) where
  has_behind : (bs : List Block) → Has (bs ++ (s.resting ++ s.spoilt)) b
  has_behind bs =
      has_append_right bs (s.resting ++ s.spoilt) b (has_append_right s.resting s.spoilt b (find_has b.at s.spoilt b f))

  step_found : {e : Event} {x : Answer} {h : List ℕ} {t : State} → Happened l s g e x h t → find b.at t.spoilt ≡ Some b
  step_found (turns_away r t) = f
  step_found (gets n a asked may clean) = f
  step_found (spoils n a asked may clean) =
      let first = got_laid can l good n a (all_blocks s) may out in
      find_past b.at (got_at l n a) s.spoilt (λ same. others_elsewhere l (got_at l n a) (all_blocks s) first b (has_behind s.out) (sym same)) ∙ f
  step_found (gives a c found m) = f
  step_found (overruns a c found m) =
      find_past b.at c s.spoilt (λ same. others_elsewhere l c _ (found_first l s a c out found) b (has_behind (without a s.out)) (sym same)) ∙ f
  step_found (sizes a c found) = f
  step_found (looks_overrun c found m) = f
  step_found (looks_harmed a i w) = f
  step_found (looks_whole w) = f

pub spoilt_found : (can : ℕ → Bool) (f : Program) → Right can f → SpoiltFound can f
spoilt_found can f right l w e b good lived readable found =
    step_found can l good w.state w.ground (lived_kept can f right l good lived).laid_out b found (happened f l w e (right l w e good lived readable))
