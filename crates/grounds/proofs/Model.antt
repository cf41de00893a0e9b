-- The model of specs/Model.antt: what it writes down it reads again, and its answers are right and follow the rule of the lowest place.
use Rattle.std.proofs.Common.{◌≡◌, ℕ, Bool, List, [], ◌∷◌, length, sym, refl, ap, ◌∙◌, arith}
use mathlib.Core.Path.{fun_ext}
use Rattle.std.proofs.lemmas.List.{take_at, drop_at}
use Rattle.grounds.specs.declared.block.Block.{Block}
use Rattle.grounds.specs.declared.event.Event.{Event}
use Rattle.grounds.specs.declared.answer.Answer.{Answer}
use Rattle.grounds.specs.Blocks.{Limits}
use Rattle.grounds.specs.Grounds.{State, all_blocks, after, ground_after}
use Rattle.grounds.specs.Lowest.{by_turned, the_answer}
use Rattle.grounds.specs.Worlds.{GoodLimits, World, Lived, new, asks, writes}
use Rattle.grounds.specs.Promises.{RightStep, Right, Lowest}
use Rattle.grounds.specs.Statements.{LaidOut}
use Rattle.grounds.specs.Model.{listed, in_front, behind, flat, blocks, noted, limits_in, state_in, model}
use Rattle.grounds.proofs.Happened.{after_refused, ground_refused, happened}
use Rattle.grounds.proofs.Kept.{Kept, new_kept, step_kept, write_kept}
use Rattle.grounds.proofs.LowestRight.{lowest_right}

-- ---- what is written down is read again

front_listed : (xs more : List ℕ) → in_front (listed xs more) ≡ xs
front_listed xs more = take_at xs more (length xs) refl

behind_listed : (xs more : List ℕ) → behind (listed xs more) ≡ more
behind_listed xs more = drop_at xs more (length xs) refl

blocks_flat : (bs : List Block) → blocks (flat bs) ≡ bs
blocks_flat [] = refl
blocks_flat (b ∷ bs) = ap (λ (cs : List Block). b ∷ cs) (blocks_flat bs)

module _ (l : Limits) (s : State) where
  -- what stands behind the limits, and behind the pieces of each kind
  spoilt_noted : List ℕ
  spoilt_noted = listed (flat s.spoilt) []

  resting_noted : List ℕ
  resting_noted = listed (flat s.resting) spoilt_noted

  pieces_noted : List ℕ
  pieces_noted = listed (flat s.out) resting_noted

  marks_noted : List ℕ
  marks_noted = listed l.marks pieces_noted

  behind_classes : behind (behind (noted l s)) ≡ marks_noted
  unfolding noted marks_noted pieces_noted resting_noted spoilt_noted
  behind_classes = behind_listed l.classes marks_noted

  behind_marks : behind (behind (behind (noted l s))) ≡ pieces_noted
  unfolding marks_noted
  behind_marks = ap behind behind_classes ∙ behind_listed l.marks pieces_noted

  behind_out : behind (behind (behind (behind (noted l s)))) ≡ resting_noted
  unfolding pieces_noted
  behind_out = ap behind behind_marks ∙ behind_listed (flat s.out) resting_noted

  behind_resting : behind (behind (behind (behind (behind (noted l s))))) ≡ spoilt_noted
  unfolding resting_noted
  behind_resting = ap behind behind_out ∙ behind_listed (flat s.resting) spoilt_noted

  pub state_noted : state_in (noted l s) ≡ s
  unfolding state_in pieces_noted resting_noted spoilt_noted
  state_noted i =
      record {
        out = (ap (λ (m : List ℕ). blocks (in_front m)) behind_marks ∙ ap blocks (front_listed (flat s.out) resting_noted) ∙ blocks_flat s.out) i;
        resting = (ap (λ (m : List ℕ). blocks (in_front m)) behind_out ∙ ap blocks (front_listed (flat s.resting) spoilt_noted) ∙ blocks_flat s.resting) i;
        spoilt = (ap (λ (m : List ℕ). blocks (in_front m)) behind_resting ∙ ap blocks (front_listed (flat s.spoilt) []) ∙ blocks_flat s.spoilt) i;
      }

pub limits_noted : (can : ℕ → Bool) (l : Limits) → ((k : ℕ) → l.events_can k ≡ can k) → (s : State) → limits_in can (noted l s) ≡ l
unfolding limits_in noted marks_noted pieces_noted resting_noted spoilt_noted
limits_noted can l cans s i =
    record {
      events_can = fun_ext (λ k. sym (cans k)) i;
      pages = l.pages;
      classes = front_listed l.classes (marks_noted l s) i;
      rests = l.rests;
      marks = (ap in_front (behind_classes l s) ∙ front_listed l.marks (pieces_noted l s)) i;
    }

-- ---- it is right, and follows the rule of the lowest place

-- in a world where the limits and the pieces are written down as they are
module _ (can : ℕ → Bool) (l : Limits) (good : GoodLimits can l) (w : World) (is_noted : w.memory ≡ noted l w.state) where
  limits_read : limits_in can w.memory ≡ l
  limits_read = ap (limits_in can) is_noted ∙ limits_noted can l good.cans w.state

  state_read : state_in w.memory ≡ w.state
  state_read = ap state_in is_noted ∙ state_noted l w.state

  answer_is : (e : Event) → (model can).answers w.memory w.ground e ≡ the_answer l w.state w.ground e
  answer_is e i = the_answer (limits_read i) (state_read i) w.ground e

  still_noted : (e : Event) (x : Answer) →
      noted (limits_in can w.memory) (after (limits_in can w.memory) (state_in w.memory) e x) ≡ noted l (after l w.state e x)
  still_noted e x i = noted (limits_read i) (after (limits_read i) (state_read i) e x)

  ground_is : (e : Event) (x : Answer) →
      ground_after (limits_in can w.memory) (state_in w.memory) w.ground e x ≡ ground_after l w.state w.ground e x
  ground_is e x i = ground_after (limits_read i) (state_read i) w.ground e x

  model_step : LaidOut l (all_blocks w.state) → (e : Event) → RightStep (model can) l w e
  unfolding by_turned
  model_step out e = grind (arith, answer_is, still_noted, after_refused, is_noted, ground_is, ground_refused, lowest_right)

-- every lived world is such a world, and its pieces are laid out
module _ (can : ℕ → Bool) (l : Limits) (good : GoodLimits can l) where
  record Modelled (w : World) : Type 0 where
    is_noted : w.memory ≡ noted l w.state
    kept : Kept l w.state w.ground

  modelled : {w : World} → Lived (model can) l w → Modelled w
  modelled new = record { is_noted = refl; kept = new_kept can l good }
  modelled (asks {w} e readable lived) =
      let was = modelled lived in
      record {
        is_noted = still_noted can l good w was.is_noted e ((model can).answers w.memory w.ground e);
        kept = step_kept can l good (happened (model can) l w e (model_step can l good w was.is_noted was.kept.laid_out e)) was.kept;
      }
  modelled (writes {w} a bs lived inside small) =
      let was = modelled lived in
      record { is_noted = was.is_noted; kept = write_kept can l good w.state w.ground a bs inside small was.kept }

pub model_memory : (can : ℕ → Bool) (l : Limits) → GoodLimits can l → {w : World} → Lived (model can) l w → w.memory ≡ noted l w.state
model_memory can l good lived = (modelled can l good lived).is_noted

pub model_right : (can : ℕ → Bool) → Right can (model can)
model_right can l w e good lived readable = let m = modelled can l good lived in model_step can l good w m.is_noted m.kept.laid_out e

pub model_lowest : (can : ℕ → Bool) → Lowest can (model can)
model_lowest can l w e good lived readable = answer_is can l good w (model_memory can l good lived) e
