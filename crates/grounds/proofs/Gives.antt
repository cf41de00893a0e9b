-- What follows of what is out: it keeps what it has until it is given back, is out no more then, and its mark is looked at.
use Rattle.std.proofs.Common.{◌≡◌, ℕ, ◌+◌, ◌≤◌, Bool, true, cond, ◌⊎◌, List, ◌++◌, length, replicate, is_some, Some, None, sym, refl, ap, ◌∙◌, subst, inl, inr, arith}
use lib.ListN.{length-replicate}
use Rattle.std.specs.List.{ContainsAt as Has}
use Rattle.std.proofs.ByRecursion.{has_append_left, All-weaker, all_has_itself}
use Rattle.std.proofs.lemmas.Bool.{cond-false, true≢false}
use Rattle.std.proofs.lemmas.Bool.Decides.{nat_tests}
use Rattle.grounds.specs.declared.block.Block.{Block}
use Rattle.grounds.specs.declared.event.Event.{Event}
use Rattle.grounds.specs.declared.event.Event.TheVariants.{Give}
use Rattle.grounds.specs.declared.answer.Answer.{Answer}
use Rattle.grounds.specs.declared.answer.Answer.TheVariants.{Done, Overrun}
use Rattle.grounds.specs.Lists.{part}
use Rattle.grounds.specs.Blocks.{Limits, room_for}
use Rattle.grounds.specs.Events.{readable}
use Rattle.grounds.specs.Grounds.{State, all_blocks, find, without, got_at, mark_place, marked, turned, turned_by, good_fields}
use Rattle.grounds.specs.Worlds.{GoodLimits, Program}
use Rattle.grounds.specs.Promises.{Right}
use Rattle.grounds.specs.Statements.{LaidOut, OutKeeps, BackOnce, MarkTells, FoundExactly}
use Rattle.grounds.proofs.Parts.{part_over_out}
use Rattle.grounds.proofs.Found.{find_at, find_has, find_past, find_without, find_none}
use Rattle.grounds.proofs.Apart.{Apart, Lies}
use Rattle.grounds.proofs.Happened.{Happened, turns_away, gets, spoils, gives, overruns, sizes, looks_overrun, looks_harmed, looks_whole, happened, give_taken}
use Rattle.grounds.proofs.Laid.{got_laid, first_lies, others_apart, others_elsewhere}
use Rattle.grounds.proofs.Kept.{Kept, found_first, found_lies, mark_inside, block_inside, lived_kept}

-- ---- a piece that is out, beside the others

out_has : (s : State) (a : ℕ) (b : Block) → find a s.out ≡ Some b → Has (all_blocks s) b
out_has s a b f = has_append_left s.out (s.resting ++ s.spoilt) b (find_has a s.out b f)

-- another piece that is out is among those that are left without the one that is given back
still_has : (s : State) (a x : ℕ) (b : Block) → find x s.out ≡ Some b → (x ≡ a → ⊥) → Has (without a s.out ++ (s.resting ++ s.spoilt)) b
still_has s a x b f other =
    has_append_left (without a s.out) (s.resting ++ s.spoilt) b (find_has x (without a s.out) b (find_without x a s.out other ∙ f))

module _ (can : ℕ → Bool) (l : Limits) (good : GoodLimits can l) {s : State} {g : List ℕ} (kept : Kept l s g) (b : Block) (f : find b.at s.out ≡ Some b)
  where
    mark_away : (n a : ℕ) → Lies l (got_at l n a) → Apart a (room_for l n) b →
        (b.at + b.room ≤ mark_place (got_at l n a)) ⊎ (mark_place (got_at l n a) + length l.marks ≤ b.at)
    mark_away n a lie (inl past) = inr (omega (arith, lie, good.mark_long))
    mark_away n a lie (inr before) = inl (omega (arith, lie))

    zeros_away : (a : ℕ) (c : Block) → c.at ≡ a → Apart c.at c.room b →
        (b.at + b.room ≤ a) ⊎ (a + length (replicate {A = ℕ} c.room 0) ≤ b.at)
    zeros_away a c at (inl past) = inr (omega (arith, length-replicate {A = ℕ} c.room 0))
    zeros_away a c at (inr before) = inl (omega arith)

    step_keeps : {e : Event} {x : Answer} {h : List ℕ} {t : State} → Happened l s g e x h t → (e ≡ Give b.at → ⊥) →
        (part b.at b.room h ≡ part b.at b.room g) × (find b.at t.out ≡ Some b)
    step_keeps (turns_away r t) other = (refl, f)
    step_keeps (gets n a asked may clean) other =
        let out = got_laid can l good n a (all_blocks s) may kept.laid_out in
        let lie = first_lies l (got_at l n a) (all_blocks s) out in
        let has = out_has s b.at b f in (
          part_over_out
              (mark_place (got_at l n a))
              l.marks
              g
              (mark_inside can l good (got_at l n a) g lie kept.long)
              b.at
              b.room
              (mark_away n a lie (others_apart l (got_at l n a) (all_blocks s) out b has)),
          find_past b.at (got_at l n a) s.out (λ same. others_elsewhere l (got_at l n a) (all_blocks s) out b has (sym same)) ∙ f,
        )
    step_keeps (spoils n a asked may clean) other = (refl, f)
    step_keeps (gives a c found m) other =
        let elsewhere : b.at ≡ a → ⊥ = λ same. other (ap Give (sym same)) in
        let at = find_at a s.out c found in
        let out = found_first l s a c kept.laid_out found in (
          part_over_out
              a
              (replicate c.room 0)
              g
              (block_inside can l good a c g at (first_lies l c _ out) kept.long)
              b.at
              b.room
              (zeros_away a c at (others_apart l c _ out b (still_has s a b.at b f elsewhere))),
          find_without b.at a s.out elsewhere ∙ f,
        )
    step_keeps (overruns a c found m) other = (refl, find_without b.at a s.out (λ same. other (ap Give (sym same))) ∙ f)
    step_keeps (sizes a c found) other = (refl, f)
    step_keeps (looks_overrun c found m) other = (refl, f)
    step_keeps (looks_harmed a i w) other = (refl, f)
    step_keeps (looks_whole w) other = (refl, f)

pub out_keeps : (can : ℕ → Bool) (f : Program) → Right can f → OutKeeps can f
out_keeps can f right l w e b good lived readable found other =
    step_keeps can l good (lived_kept can f right l good lived) b found (happened f l w e (right l w e good lived readable)) other

-- ---- a give back

-- what begins where a piece begins is that piece
pub none_left : (l : Limits) (s : State) (a : ℕ) (b : Block) → LaidOut l (all_blocks s) → find a s.out ≡ Some b → find a (without a s.out) ≡ None
none_left l s a b out found =
    let at = find_at a s.out b found in
    let first = found_first l s a b out found in
    let left = without a s.out in
    find_none
    a
    left
    (All-weaker
    (Has left)
    (λ c. a ≡ c.at → ⊥)
    (λ c has same. others_elsewhere l b _ first c (has_append_left left (s.resting ++ s.spoilt) c has) (sym same ∙ sym at))
    left
    (all_has_itself left))

pub out_fits : (can : ℕ → Bool) (l : Limits) → GoodLimits can l → (b : Block) → Lies l b → readable (Give b.at) ≡ true
out_fits can l good b lie = grind (arith, nat_tests)

pub give_turned : (can : ℕ → Bool) (l : Limits) → GoodLimits can l → can 1 ≡ true → (s : State) (a : ℕ) (b : Block) → find a s.out ≡ Some b →
    turned l s (Give a) ≡ None
unfolding good_fields turned_by
give_turned can l good able s a b found = grind (arith, nat_tests)

module _ (l : Limits) {s : State} {g : List ℕ} where
  step_back : {a : ℕ} {x : Answer} {h : List ℕ} {t : State} → Happened l s g (Give a) x h t → LaidOut l (all_blocks s) → turned l s (Give a) ≡ None →
      find a t.out ≡ None
  step_back (turns_away r t) out taken = absurd (true≢false (ap is_some (sym t ∙ taken)))
  step_back (gives a b found m) out taken = none_left l s a b out found
  step_back (overruns a b found m) out taken = none_left l s a b out found

  step_tells : {a : ℕ} {x : Answer} {h : List ℕ} {t : State} → Happened l s g (Give a) x h t → turned l s (Give a) ≡ None → (b : Block) →
      find a s.out ≡ Some b → x ≡ cond (marked l g b) Done (Overrun (mark_place b))
  step_tells (turns_away r t) taken b found = absurd (true≢false (ap is_some (sym t ∙ taken)))
  step_tells (gives a c also m) taken b found = grind (arith, nat_tests)
  step_tells (overruns a c also m) taken b found = grind (arith, nat_tests)

pub found_exactly : (can : ℕ → Bool) (f : Program) → Right can f → FoundExactly can f
found_exactly can f right l w b good able lived found =
    let lie = found_lies l w.state b.at b (lived_kept can f right l good lived).laid_out found in
    let e = Give b.at in
    step_tells l (happened f l w e (right l w e good lived (out_fits can l good b lie))) (give_turned can l good able w.state b.at b found) b found

pub mark_tells : (can : ℕ → Bool) (f : Program) → Right can f → MarkTells can f
mark_tells can f right l w b good able lived found changed =
    found_exactly can f right l w b good able lived found ∙ cond-false (marked l w.ground b) Done (Overrun (mark_place b)) changed

pub back_once : (can : ℕ → Bool) (f : Program) → Right can f → BackOnce can f
back_once can f right l w a good lived taken =
    let out = (lived_kept can f right l good lived).laid_out in
    let found = give_taken l w.state a taken in
    let b = found.0 in
    let at = find_at a w.state.out b found.1 in
    let fits : readable (Give a) ≡ true
    = subst (λ (x : ℕ). readable (Give x) ≡ true) at (out_fits can l good b (found_lies l w.state a b out found.1)) in
    step_back l (happened f l w (Give a) (right l w (Give a) good lived fits)) out taken
