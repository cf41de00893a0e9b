-- A piece that is there no more: where its page's words are such as a page has, and where they are not.
use Rattle.std.proofs.Common.{◌≡◌, ◌==◌, ℕ, ◌<◌, ◌≤◌, List, arith}
use Rattle.std.proofs.lemmas.Bool.Decides.{nat_tests}
use Rattle.layout.specs.Layout.{index_in}
use Rattle.layout.specs.declared.spot.Spot.{Spot}
use Rattle.book.specs.declared.plan.Plan.{Plan}
use Rattle.book.specs.Spots.{used_in, class_at}
use Rattle.book.specs.Changes.{emptied, unshelved, freed}

module _ (x : Plan) (m : List ℕ) (s : Spot) where
  pub freed_unused : used_in m s.page ≡ 0 → freed x m s ≡ m
  unfolding freed
  freed_unused none = grind (arith, nat_tests)

  pub freed_astray : x.classes ≤ class_at m s.page → freed x m s ≡ m
  unfolding freed
  freed_astray astray = grind (arith, nat_tests)

  pub freed_some : 0 < used_in m s.page → class_at m s.page < x.classes →
      freed x m s ≡ unshelved (index_in x.layout) (emptied m s) (class_at m s.page) s.page (used_in m s.page == 1)
  unfolding freed
  freed_some some near = grind (arith, nat_tests)
