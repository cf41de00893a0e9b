-- Nothing else is written: each byte of the ground that an event changes lies in the mark of the piece just got, or in the piece just given back.
use Rattle.std.proofs.Common.{◌≡◌, ℕ, ◌+◌, ◌<◌, ◌≤◌, Bool, List, length, get_or, replicate, refl, inl, inr, arith}
use lib.ListN.{length-replicate}
use Rattle.std.proofs.lemmas.Bool.Decides.{nat_tests}
use Rattle.grounds.specs.declared.event.Event.{Event}
use Rattle.grounds.specs.declared.answer.Answer.{Answer}
use Rattle.grounds.specs.Lists.{over}
use Rattle.grounds.specs.Blocks.{Limits}
use Rattle.grounds.specs.Grounds.{State, all_blocks, out_at, got_at, mark_place}
use Rattle.grounds.specs.Worlds.{GoodLimits, Program}
use Rattle.grounds.specs.Promises.{Right}
use Rattle.grounds.specs.Statements.{ChangedBy, NothingElse}
use Rattle.grounds.proofs.Parts.{get_or_over_out}
use Rattle.grounds.proofs.Found.{find_at}
use Rattle.grounds.proofs.Happened.{Happened, turns_away, gets, spoils, gives, overruns, sizes, looks_overrun, looks_harmed, looks_whole, happened, out_found}
use Rattle.grounds.proofs.Kept.{Kept, got_lies, found_lies, mark_inside, block_inside, lived_kept}

-- what a write changed lies in what was written
changed_inside : (a : ℕ) (bs g : List ℕ) (i : ℕ) → a + length bs ≤ length g → (get_or (over a bs g) i 0 ≡ get_or g i 0 → ⊥) → (a ≤ i) × (i < a + length bs)
changed_inside a bs g i inside changed = grind (arith, nat_tests, get_or_over_out)

module _ (can : ℕ → Bool) (l : Limits) (good : GoodLimits can l) {s : State} {g : List ℕ} (kept : Kept l s g) (i : ℕ) where
  step_changes : {e : Event} {x : Answer} {h : List ℕ} {t : State} → Happened l s g e x h t → (get_or h i 0 ≡ get_or g i 0 → ⊥) → ChangedBy l s e x i
  step_changes (turns_away r t) changed = absurd (changed refl)
  step_changes (gets n a asked may clean) changed =
      let lie = got_lies can l good n a (all_blocks s) may kept.laid_out in
      let where' = changed_inside (mark_place (got_at l n a)) l.marks g i (mark_inside can l good (got_at l n a) g lie kept.long) changed in
      inl (n, a, refl, refl, where'.0, omega (arith, where'.1, good.mark_long))
  step_changes (spoils n a asked may clean) changed = absurd (changed refl)
  step_changes (gives a b found m) changed =
      let at = find_at a s.out b found in
      let is : out_at s a ≡ b = out_found s a b found in
      let where' = changed_inside a (replicate b.room 0) g i (block_inside can l good a b g at (found_lies l s a b kept.laid_out found) kept.long) changed in
      inr (a, refl, refl, rw is (omega (arith, at, where')), rw is (omega (arith, at, where', length-replicate {A = ℕ} b.room 0)))
  step_changes (overruns a b found m) changed = absurd (changed refl)
  step_changes (sizes a b found) changed = absurd (changed refl)
  step_changes (looks_overrun b found m) changed = absurd (changed refl)
  step_changes (looks_harmed a i w) changed = absurd (changed refl)
  step_changes (looks_whole w) changed = absurd (changed refl)

pub nothing_else : (can : ℕ → Bool) (f : Program) → Right can f → NothingElse can f
nothing_else can f right l w e i good lived readable =
    step_changes can l good (lived_kept can f right l good lived) i (happened f l w e (right l w e good lived readable))
