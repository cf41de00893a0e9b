-- Worlds that meet the premises of the statements, so that none of them speaks of nothing: a ground of one page with the classes 16 and 1,024,
-- kept by the model. Assumes nothing.
--     one_page          the limits
--     fresh, got, within, past, given, spilt, spoilt_one      worlds: the new one; a piece of 1,000 bytes was got; then somebody wrote in it, or past its
--                       end, or it was given back; somebody wrote on the new ground, and then a piece was asked for
use Rattle.std.specs.Prelude.{◌≡◌, ◌*◌, ◌/◌, ◌<◌, true, false, [], ◌∷◌, length, Some, None, nat_eq, slice_index_or}
use Rattle.grounds.specs.declared.block.Block.{Block}
use Rattle.grounds.specs.declared.event.Event.TheVariants.{Get, Give}
use Rattle.grounds.specs.declared.answer.Answer.TheVariants.{Place, Harmed}
use Rattle.grounds.specs.Numbers.{page}
use Rattle.grounds.specs.Lists.{every}
use Rattle.grounds.specs.Blocks.{Limits, class_of}
use Rattle.grounds.specs.Grounds.{all_blocks, find, marked, turned}
use Rattle.grounds.specs.Worlds.{GoodLimits, World, new_world, asked, written, Lived, LivedWell}
use Rattle.grounds.specs.Promises.{all}
use Rattle.grounds.specs.Model.{model}

abbrev pub one_page : Limits
one_page = record { events_can = all; pages = 1; classes = 16 ∷ (1024 ∷ []); rests = 1; marks = 66 ∷ (99 ∷ []) }

abbrev pub piece : Block
piece = record { at = 0; size = 1000; room = 1024 }

unfoldable pub fresh : World
fresh = new_world (model all) one_page

unfoldable pub got : World
got = asked (model all) one_page fresh (Get 1000)

unfoldable pub within : World
within = written got 999 (7 ∷ [])

unfoldable pub past : World
past = written got 1023 (7 ∷ [])

unfoldable pub given : World
given = asked (model all) one_page got (Give 0)

unfoldable pub spilt : World
spilt = written fresh 5 (7 ∷ [])

unfoldable pub spoilt_one : World
spoilt_one = asked (model all) one_page spilt (Get 1000)

abbrev pub Lives : World → Type 0
Lives w = Lived (model all) one_page w

pub record PremisesMet : Type 0 where
  pub good : GoodLimits all one_page
  -- a place is told, and the ground changes
  pub place_told : Lives fresh × ((model all).answers fresh.memory fresh.ground (Get 1000) ≡ Place 0)
  pub byte_changed : slice_index_or ((model all).leaves fresh.memory fresh.ground (Get 1000)) 1022 0 ≡ 66
  -- a piece is out, of one class, with room for more
  pub piece_out : Lives got × (find 0 got.state.out ≡ Some piece)
  pub one_class : (every (λ b. nat_eq b.room (class_of 1000 one_page.classes)) (all_blocks got.state) ≡ true)
      × (length (all_blocks got.state) < one_page.pages * (page / class_of 1000 one_page.classes))
  pub may_give : turned one_page got.state (Give 0) ≡ None
  pub mark_there : marked one_page got.ground piece ≡ true
  -- somebody keeps to their own, and somebody does not
  pub kept_to_own : LivedWell (model all) one_page within
  pub mark_changed : Lives past × (find 0 past.state.out ≡ Some piece) × (marked one_page past.ground piece ≡ false)
  -- a piece rests, and one is spoilt
  pub piece_rests : Lives given × (given.state.resting ≡ piece ∷ [])
  pub harm_told : Lives spilt × ((model all).answers spilt.memory spilt.ground (Get 1000) ≡ Harmed 0)
  pub piece_spoilt : Lives spoilt_one × (find 0 spoilt_one.state.spoilt ≡ Some piece)
  -- a size that is large, and one that is small
  pub large_size : class_of 2000 one_page.classes ≡ 0
  pub small_size : 0 < class_of 1000 one_page.classes
