-- A keeper as a definition: it writes down the limits and the pieces in its memory as they are, and answers by the rule of the lowest place. It shows
-- that the promises can be kept, and that worlds are lived in which pieces are out, rest and are spoilt. It is none to run: its memory grows with the
-- pieces, and it opens with any limits. Assumes nothing: these are definitions.
--     listed xs more      a list and what stands behind it: how long the list is, its elements, and the rest
--     flat bs             pieces as numbers, three for each; blocks ns, the pieces again
--     noted l s           the limits and the pieces as one list of numbers; limits_in can m and state_in m, these again
use Rattle.std.specs.Prelude.{ℕ, Bool, List, [], ◌∷◌, ◌++◌, length, take, drop, slice_index}
use Rattle.grounds.specs.declared.block.Block.{Block}
use Rattle.grounds.specs.declared.event.Event.{Event}
use Rattle.grounds.specs.declared.answer.Answer.{Answer}
use Rattle.grounds.specs.declared.answer.Answer.TheVariants.{Done}
use Rattle.grounds.specs.Blocks.{Limits}
use Rattle.grounds.specs.Grounds.{State, new_state, after, ground_after}
use Rattle.grounds.specs.Lowest.{the_answer}
use Rattle.grounds.specs.Worlds.{Program}

abbrev pub listed : List ℕ → List ℕ → List ℕ
listed xs more = length xs ∷ (xs ++ more)

-- the list that stands in front, and what stands behind it
abbrev pub in_front : List ℕ → List ℕ
in_front m = take (slice_index m 0) (drop 1 m)

abbrev pub behind : List ℕ → List ℕ
behind m = drop (slice_index m 0) (drop 1 m)

abbrev pub flat : List Block → List ℕ
flat [] = []
flat (b ∷ bs) = b.at ∷ (b.size ∷ (b.room ∷ flat bs))

abbrev pub blocks : List ℕ → List Block
blocks [] = []
blocks (a ∷ []) = []
blocks (a ∷ (n ∷ [])) = []
blocks (a ∷ (n ∷ (r ∷ ns))) = record { at = a; size = n; room = r } ∷ blocks ns

unfoldable pub noted : Limits → State → List ℕ
noted l s =
    listed (l.pages ∷ (l.rests ∷ [])) (listed l.classes (listed l.marks (listed (flat s.out) (listed (flat s.resting) (listed (flat s.spoilt) [])))))

unfoldable pub limits_in : (ℕ → Bool) → List ℕ → Limits
limits_in can m =
    record {
      events_can = can;
      pages = slice_index (in_front m) 0;
      classes = in_front (behind m);
      rests = slice_index (in_front m) 1;
      marks = in_front (behind (behind m));
    }

unfoldable pub state_in : List ℕ → State
state_in m =
    let pieces : List ℕ = behind (behind (behind m)) in
    record {
      out = blocks (in_front pieces);
      resting = blocks (in_front (behind pieces));
      spoilt = blocks (in_front (behind (behind pieces)));
    }

abbrev pub model_answers : (ℕ → Bool) → List ℕ → List ℕ → Event → Answer
model_answers can m g e = the_answer (limits_in can m) (state_in m) g e

abbrev pub model : (ℕ → Bool) → Program
model can =
    record {
      opened = λ l. noted l new_state;
      opens = λ m g l. Done;
      prepared = λ m g l. noted l new_state;
      answers = model_answers can;
      called = λ m g e. noted (limits_in can m) (after (limits_in can m) (state_in m) e (model_answers can m g e));
      leaves = λ m g e. ground_after (limits_in can m) (state_in m) g e (model_answers can m g e);
    }
