-- Each answer of a keeper whose answers are right fits its bytes: what it tells lies in the ground, is a size, or came with the event.
use Rattle.std.proofs.Common.{◌≡◌, ℕ, ◌<◌, ◌≤◌, Bool, true, ◌&&◌, ltb, List, refl, arith}
use Rattle.std.proofs.lemmas.Bool.{and_from, lt-ltb}
use Rattle.grounds.specs.declared.event.Event.{Event}
use Rattle.grounds.specs.declared.event.Event.TheVariants.{Get, Give, Size, Look, Garbled}
use Rattle.grounds.specs.declared.answer.Refusal.{Refusal}
use Rattle.grounds.specs.declared.answer.Refusal.TheVariants.{NoEvent, OutOfRange, NotOut, NoRoom}
use Rattle.grounds.specs.declared.answer.Answer.{Answer}
use Rattle.grounds.specs.Numbers.{word}
use Rattle.grounds.specs.Blocks.{Limits, ground_size}
use Rattle.grounds.specs.Events.{readable, refusal_number, answer_fits}
use Rattle.grounds.specs.Grounds.{State, all_blocks, got_at, place_of}
use Rattle.grounds.specs.Worlds.{GoodLimits, Program}
use Rattle.grounds.specs.Promises.{Right, AnswersFit}
use Rattle.grounds.proofs.Apart.{Lies}
use Rattle.grounds.proofs.Happened.{Happened, turns_away, gets, spoils, gives, overruns, sizes, looks_overrun, looks_harmed, looks_whole, happened}
use Rattle.grounds.proofs.Kept.{Kept, got_lies, found_lies, lived_kept}

one_fits : (n : ℕ) → n < word → (ltb n word && true) ≡ true
one_fits n small = and_from (ltb n word) true (lt-ltb n word small) refl

refusal_fits : (r : Refusal) → ltb (refusal_number r) word ≡ true
refusal_fits NoEvent = refl
refusal_fits OutOfRange = refl
refusal_fits NotOut = refl
refusal_fits NoRoom = refl

place_fits : (e : Event) → readable e ≡ true → (ltb (place_of e) word && true) ≡ true
unfolding place_of
place_fits (Get n) h = refl
place_fits (Give a) h = refl
place_fits (Size a) h = refl
place_fits Look h = refl
place_fits (Garbled n) h = h

module _ (can : ℕ → Bool) (l : Limits) (good : GoodLimits can l) {s : State} {g : List ℕ} (kept : Kept l s g) where
  -- what lies in the ground fits eight bytes, many times over
  ground_fits : (a : ℕ) → a ≤ ground_size l → (ltb a word && true) ≡ true
  ground_fits a inside = one_fits a (omega (arith, good.few_pages))

  got_fits : (n a : ℕ) → Lies l (got_at l n a) → (ltb a word && true) ≡ true
  got_fits n a lie = ground_fits a (omega (arith, lie))

  step_fits : {e : Event} {x : Answer} {h : List ℕ} {t : State} → Happened l s g e x h t → readable e ≡ true → answer_fits x ≡ true
  step_fits (turns_away {e} r t) small = and_from (ltb (refusal_number r) word) _ (refusal_fits r) (place_fits e small)
  step_fits (gets n a asked may clean) small = got_fits n a (got_lies can l good n a (all_blocks s) may kept.laid_out)
  step_fits (spoils n a asked may clean) small = got_fits n a (got_lies can l good n a (all_blocks s) may kept.laid_out)
  step_fits (gives a b f m) small = refl
  step_fits (overruns a b f m) small = ground_fits _ (omega (arith, found_lies l s a b kept.laid_out f))
  step_fits (sizes a b f) small = ground_fits _ (omega (arith, found_lies l s a b kept.laid_out f))
  step_fits (looks_overrun b f m) small = ground_fits _ (omega (arith, found_lies l s b.at b kept.laid_out f))
  step_fits (looks_harmed a near w) small = ground_fits a (omega arith)
  step_fits (looks_whole w) small = refl

pub answers_fit : (can : ℕ → Bool) (f : Program) → Right can f → AnswersFit can f
answers_fit can f right l w e good lived small =
    step_fits can l good (lived_kept can f right l good lived) (happened f l w e (right l w e good lived small)) small
