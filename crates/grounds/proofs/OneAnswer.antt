-- Two keepers that are right and follow the rule of the lowest place answer alike, whatever is asked of both and written on both grounds.
use Rattle.std.proofs.Common.{◌≡◌, ℕ, Bool, true, List, [], ◌∷◌, Some, None, Option, sym, refl, ap, ◌∙◌}
use Rattle.grounds.specs.declared.event.Event.{Event}
use Rattle.grounds.specs.declared.answer.Refusal.{Refusal}
use Rattle.grounds.specs.Lists.{over}
use Rattle.grounds.specs.Blocks.{Limits}
use Rattle.grounds.specs.Events.{readable}
use Rattle.grounds.specs.Grounds.{turned, place_of, after, ground_after}
use Rattle.grounds.specs.Lowest.{the_answer}
use Rattle.grounds.specs.Worlds.{GoodLimits, Program, World, asked, Lived, new, asks, writes}
use Rattle.grounds.specs.Promises.{RightStep, Right, Lowest}
use Rattle.grounds.specs.OneAnswer.{Step, Asks, Writes, play, Possible, OneAnswer}
use Rattle.grounds.proofs.Happened.{ground_refused}

-- the ground that is left is the one that follows from the answer, also where an event is turned away
pub leaves_right : (f : Program) (l : Limits) (w : World) (e : Event) → RightStep f l w e →
    f.leaves w.memory w.ground e ≡ ground_after l w.state w.ground e (f.answers w.memory w.ground e)
leaves_right f l w e step = go (turned l w.state e) refl
  where
    go : (o : Option Refusal) → turned l w.state e ≡ o →
        f.leaves w.memory w.ground e ≡ ground_after l w.state w.ground e (f.answers w.memory w.ground e)
    go (Some r) t =
        let away = step.away r t in
        away.ground_kept ∙ sym (ap (ground_after l w.state w.ground e) away.told ∙ ground_refused l w.state w.ground e r (place_of e))
    go None t = (step.taken t).ground_right

pub play_lived : (f : Program) (l : Limits) (steps : List Step) → Possible l steps → Lived f l (play f l steps)
play_lived f l [] can_be = new
play_lived f l (Asks e ∷ steps) can_be = asks e can_be.0 (play_lived f l steps can_be.1)
play_lived f l (Writes a bs ∷ steps) can_be = writes a bs (play_lived f l steps can_be.1) can_be.0.0 can_be.0.1

module _ (can : ℕ → Bool) (f h : Program) (f_right : Right can f) (f_lowest : Lowest can f) (h_right : Right can h) (h_lowest : Lowest can h)
    (l : Limits) (good : GoodLimits can l) where
  -- two worlds that differ in what the keepers remember alone
  record Alike (v w : World) : Type 0 where
    state : v.state ≡ w.state
    ground : v.ground ≡ w.ground

  same_answer : (v w : World) → Lived f l v → Lived h l w → Alike v w → (e : Event) → readable e ≡ true →
      f.answers v.memory v.ground e ≡ h.answers w.memory w.ground e
  same_answer v w fv hw alike e reads =
      f_lowest l v e good fv reads ∙ (λ i. the_answer l (alike.state i) (alike.ground i) e) ∙ sym (h_lowest l w e good hw reads)

  asked_alike : (v w : World) → Lived f l v → Lived h l w → Alike v w → (e : Event) → readable e ≡ true → Alike (asked f l v e) (asked h l w e)
  asked_alike v w fv hw alike e reads =
      let same = same_answer v w fv hw alike e reads in
      record {
        state = λ i. after l (alike.state i) e (same i);
        ground = leaves_right f l v e (f_right l v e good fv reads)
            ∙ (λ i. ground_after l (alike.state i) (alike.ground i) e (same i))
            ∙ sym (leaves_right h l w e (h_right l w e good hw reads));
      }

  played_alike : (steps : List Step) → Possible l steps → Alike (play f l steps) (play h l steps)
  played_alike [] can_be = record { state = refl; ground = refl }
  played_alike (Asks e ∷ steps) can_be =
      asked_alike
      (play f l steps)
      (play h l steps)
      (play_lived f l steps can_be.1)
      (play_lived h l steps can_be.1)
      (played_alike steps can_be.1)
      e
      can_be.0
  played_alike (Writes a bs ∷ steps) can_be =
      let was = played_alike steps can_be.1 in record { state = was.state; ground = ap (over a bs) was.ground }

pub one_answer : (can : ℕ → Bool) → OneAnswer can
one_answer can f h f_right f_lowest h_right h_lowest l good steps can_be =
    let alike = played_alike can f h f_right f_lowest h_right h_lowest l good steps can_be in (
      alike.state,
      alike.ground,
      same_answer
          can
          f
          h
          f_right
          f_lowest
          h_right
          h_lowest
          l
          good
          (play f l steps)
          (play h l steps)
          (play_lived f l steps can_be)
          (play_lived h l steps can_be)
          alike,
    )
