-- A piece that rests, by how many do.
use Rattle.std.proofs.Common.{◌≡◌, ℕ, ◌+◌, ◌-◌, ◌<◌, ◌≤◌, Bool, true, false, cond, List, Some, None, slice_index, slice_set, refl, arith}
use Rattle.std.proofs.lemmas.Option.{none-some}
use Rattle.std.proofs.lemmas.Bool.Decides.{nat_tests}
use Rattle.ring.specs.declared.Ring.{Ring}
use Rattle.ring.specs.Ring.{count_of, filled, pushed, popped, oldest, place, newest_of}
use Rattle.layout.specs.Layout.{queue_in}
use Rattle.book.specs.declared.plan.Plan.{Plan}
use Rattle.book.specs.Changes.{freed_at, rested_in}

-- where there is no oldest, none leaves
pub none_popped : (r : Ring) (m : List ℕ) → None ≡ oldest r m → popped r m ≡ m
unfolding oldest popped
none_popped r m e = go (filled r m) (slice_index m (place r (newest_of r m) (count_of r m - 1))) (slice_set m (r.header + 1) (count_of r m - 1)) e
  where
    go : (b : Bool) (v : ℕ) (n : List ℕ) → None ≡ cond b (Some v) None → cond b n m ≡ m
    go true v n is = absurd (none-some v is)
    go false v n is = refl

module _ (x : Plan) (m : List ℕ) (a : ℕ) where
  pub rested_none : x.layout.rests ≡ 0 → rested_in x m a ≡ freed_at x m a
  unfolding rested_in
  rested_none none = grind (arith, nat_tests)

  pub rested_few : 0 < x.layout.rests → count_of (queue_in x.layout) m < x.layout.rests → rested_in x m a ≡ pushed (queue_in x.layout) m a
  unfolding rested_in
  rested_few some few = grind (arith, nat_tests)

  pub rested_more : {o : ℕ} → 0 < x.layout.rests → x.layout.rests ≤ count_of (queue_in x.layout) m → Some o ≡ oldest (queue_in x.layout) m →
      rested_in x m a ≡ freed_at x (pushed (queue_in x.layout) (popped (queue_in x.layout) m) a) o
  unfolding rested_in
  rested_more some full e = rw (← e) (grind (arith, nat_tests))

  pub rested_astray : 0 < x.layout.rests → x.layout.rests ≤ count_of (queue_in x.layout) m → None ≡ oldest (queue_in x.layout) m →
      rested_in x m a ≡ pushed (queue_in x.layout) m a
  unfolding rested_in
  rested_astray some full e = rw (← e) (grind (arith, nat_tests))
