-- The worlds of specs/Examples.antt meet the premises of the statements. Where a piece is asked for, the answer follows from the rule of the lowest
-- place, and nothing goes through all places of the ground.
use Rattle.std.proofs.Common.{◌≡◌, ℕ, ◌*◌, ◌/◌, ◌<◌, true, false, cond, eqb, List, [], ◌∷◌, length, get_or, replicate, Some, None, refl, ap, ◌∙◌, arith}
use Rattle.std.proofs.lemmas.Bool.{cond-true, cond-false}
use Rattle.std.proofs.lemmas.Bool.Decides.{nat_tests}
use Rattle.grounds.specs.declared.event.Event.TheVariants.{Get, Give}
use Rattle.grounds.specs.declared.answer.Answer.{Answer}
use Rattle.grounds.specs.declared.answer.Answer.TheVariants.{Done, Place, Harmed}
use Rattle.grounds.specs.Numbers.{page}
use Rattle.grounds.specs.Lists.{every, over}
use Rattle.grounds.specs.Blocks.{ground_size, class_of, may_be}
use Rattle.grounds.specs.Grounds.{State, new_state, all_blocks, find, marked, turned, turned_by, good_fields, place_of, after, ground_after, clean_there}
use Rattle.grounds.specs.Lowest.{lowest_place, lowest_answer, by_turned, the_answer}
use Rattle.grounds.specs.Worlds.{GoodLimits, LivedWell, new, asks, writes, may_write}
use Rattle.grounds.specs.Promises.{all}
use Rattle.grounds.specs.Model.{model}
use Rattle.grounds.specs.Examples.{one_page, piece, fresh, got, within, past, given, spilt, spoilt_one, Lives, PremisesMet}
use Rattle.grounds.proofs.Lists.{every_take, every_replicate}
use Rattle.grounds.proofs.First.{first_is}
use Rattle.grounds.proofs.Room.{decides_some_place}
use Rattle.grounds.proofs.Gets.{small_turned}
use Rattle.grounds.proofs.Model.{model_right, model_lowest}
use Rattle.grounds.proofs.OneAnswer.{leaves_right}

good : GoodLimits all one_page
good = grind (arith, nat_tests)

-- ---- the answer to a get, where there are no pieces

small : 0 < class_of 1000 one_page.classes
unfolding class_of
small = omega arith

may_at_0 : may_be one_page 1000 0 [] ≡ true
unfolding class_of
may_at_0 = refl

lowest_is_0 : lowest_place one_page new_state 1000 ≡ 0
lowest_is_0 = first_is (λ a. may_be one_page 1000 a []) (ground_size one_page) 0 (omega arith) may_at_0 (λ k low. absurd (omega arith))

taken : turned one_page new_state (Get 1000) ≡ None
taken =
    small_turned
    all
    one_page
    good
    refl
    new_state
    1000
    (omega arith)
    small
    ((decides_some_place one_page 1000 [] (ground_size one_page)).1 (0, omega arith, may_at_0))

get_told : (g : List ℕ) → the_answer one_page new_state g (Get 1000) ≡ cond (clean_there one_page g 1000 0) (Place 0) (Harmed 0)
unfolding by_turned lowest_answer place_of
get_told g = grind (arith, taken, lowest_is_0)

zeros : List ℕ
zeros = replicate (ground_size one_page) 0

clean : clean_there one_page zeros 1000 0 ≡ true
unfolding zeros
clean = grind (arith, every_take, zeros, every_replicate)

-- ---- a piece is got

fresh_lives : Lives fresh
unfolding fresh
fresh_lives = new

got_lives : Lives got
unfolding got
got_lives = asks (Get 1000) refl fresh_lives

got_told : (model all).answers fresh.memory fresh.ground (Get 1000) ≡ Place 0
unfolding fresh zeros
got_told = model_lowest all one_page fresh (Get 1000) good fresh_lives refl ∙ get_told zeros ∙ cond-true (clean_there one_page zeros 1000 0) (Place 0) (Harmed 0) clean

one_piece : State
one_piece = record { out = piece ∷ []; resting = []; spoilt = [] }

got_state : got.state ≡ one_piece
unfolding got fresh one_piece after class_of
got_state = ap (after one_page new_state (Get 1000)) got_told

marked_ground : List ℕ
marked_ground = over 1022 (66 ∷ (99 ∷ [])) zeros

got_leaves : (model all).leaves fresh.memory fresh.ground (Get 1000) ≡ marked_ground
unfolding fresh zeros marked_ground ground_after class_of
got_leaves =
    leaves_right (model all) one_page fresh (Get 1000) (model_right all one_page fresh (Get 1000) good fresh_lives refl)
    ∙ ap (ground_after one_page new_state zeros (Get 1000)) got_told

got_ground : got.ground ≡ marked_ground
unfolding got
got_ground = got_leaves

mark_written : get_or marked_ground 1022 0 ≡ 66
unfolding marked_ground zeros
mark_written = refl

mark_there : marked one_page marked_ground piece ≡ true
unfolding marked_ground zeros
mark_there = refl

-- ---- somebody writes in it, or past its end, or it is given back

inside_piece : may_write 999 1 one_piece.out ≡ true
unfolding one_piece
inside_piece = refl

own_place : may_write 999 1 got.state.out ≡ true
own_place = ap (λ (s : State). may_write 999 1 s.out) got_state ∙ inside_piece

keeps_to_own : LivedWell (model all) one_page within
unfolding within got fresh
keeps_to_own = writes 999 (7 ∷ []) (asks (Get 1000) refl new) own_place refl

past_lives : Lives past
unfolding past
past_lives = writes 1023 (7 ∷ []) got_lives (omega arith) refl

over_the_mark : marked one_page (over 1023 (7 ∷ []) marked_ground) piece ≡ false
unfolding marked_ground zeros
over_the_mark = refl

mark_gone : marked one_page past.ground piece ≡ false
unfolding past
mark_gone = ap (λ (g : List ℕ). marked one_page (over 1023 (7 ∷ []) g) piece) got_ground ∙ over_the_mark

given_lives : Lives given
unfolding given
given_lives = asks (Give 0) refl got_lives

done_then : the_answer one_page one_piece marked_ground (Give 0) ≡ Done
unfolding one_piece by_turned turned_by good_fields find lowest_answer marked_ground zeros
done_then = refl

given_told : (model all).answers got.memory got.ground (Give 0) ≡ Done
given_told = model_lowest all one_page got (Give 0) good got_lives refl ∙ (λ i. the_answer one_page (got_state i) (got_ground i) (Give 0)) ∙ done_then

rests_after : (after one_page one_piece (Give 0) Done).resting ≡ piece ∷ []
unfolding one_piece after find
rests_after = refl

rests_then : given.state.resting ≡ piece ∷ []
unfolding given
rests_then = (λ i. (after one_page (got_state i) (Give 0) (given_told i)).resting) ∙ rests_after

-- ---- somebody writes on the new ground

spilt_lives : Lives spilt
unfolding spilt
spilt_lives = writes 5 (7 ∷ []) fresh_lives (omega arith) refl

unclean : clean_there one_page (over 5 (7 ∷ []) zeros) 1000 0 ≡ false
unfolding class_of zeros
unclean = refl

harm_told : (model all).answers spilt.memory spilt.ground (Get 1000) ≡ Harmed 0
unfolding spilt fresh zeros
harm_told =
    let g : List ℕ = over 5 (7 ∷ []) zeros in
    model_lowest all one_page spilt (Get 1000) good spilt_lives refl
    ∙ get_told g
    ∙ cond-false (clean_there one_page g 1000 0) (Place 0) (Harmed 0) unclean

spoilt_lives : Lives spoilt_one
unfolding spoilt_one
spoilt_lives = asks (Get 1000) refl spilt_lives

spoilt_then : find 0 spoilt_one.state.spoilt ≡ Some piece
unfolding spoilt_one spilt fresh after find class_of
spoilt_then = ap (λ (x : Answer). find 0 (after one_page new_state (Get 1000) x).spoilt) harm_told

-- ---- all of it

piece_found : find 0 got.state.out ≡ Some piece
unfolding one_piece find
piece_found = ap (λ (s : State). find 0 s.out) got_state

of_one_class : every (λ b. eqb b.room (class_of 1000 one_page.classes)) (all_blocks got.state) ≡ true
unfolding one_piece class_of
of_one_class = grind (arith, got_state)

few : length (all_blocks got.state) < one_page.pages * (page / class_of 1000 one_page.classes)
unfolding one_piece class_of
few = grind (arith, got_state)

may_give : turned one_page got.state (Give 0) ≡ None
unfolding one_piece turned_by good_fields find
may_give = ap (λ (s : State). turned one_page s (Give 0)) got_state

pub premises_met : PremisesMet
unfolding past class_of
premises_met =
    record {
      good = good;
      place_told = (fresh_lives, got_told);
      byte_changed = ap (λ (g : List ℕ). get_or g 1022 0) got_leaves ∙ mark_written;
      piece_out = (got_lives, piece_found);
      one_class = (of_one_class, few);
      may_give = may_give;
      mark_there = ap (λ (g : List ℕ). marked one_page g piece) got_ground ∙ mark_there;
      kept_to_own = keeps_to_own;
      mark_changed = (past_lives, piece_found, mark_gone);
      piece_rests = (given_lives, rests_then);
      harm_told = (spilt_lives, harm_told);
      piece_spoilt = (spoilt_lives, spoilt_then);
      large_size = refl;
      small_size = small;
    }
