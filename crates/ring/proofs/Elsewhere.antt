-- Memory in which no word of the queue has changed keeps the same queue, whatever was written elsewhere.
use Rattle.std.proofs.Common.{◌≡◌, ℕ, ◌+◌, List, get_or, sym, refl, ◌∙◌, arith}
use Rattle.ring.specs.declared.Ring.{Ring}
use Rattle.ring.specs.Ring.{newest_of, count_of, wrap, place, held, Sound, Elsewhere}
use Rattle.ring.proofs.Places.{wrap_near}
use Rattle.ring.proofs.Held.{held_is, same_counted}

module _ (r : Ring) (m n : List ℕ) (s : Sound r m) (e : Elsewhere r m n) where
  pub sound_kept : Sound r n
  sound_kept =
      record {
        fits = e.fits;
        header_inside = omega (arith, s.header_inside, e.long);
        slots_inside = omega (arith, s.slots_inside, e.long);
        apart = s.apart;
        near = λ some. rw e.newest_kept (s.near some);
        few = rw e.count_kept s.few;
      }

  pub held_kept : held r n ≡ held r m
  held_kept =
      let at = newest_of r m in
      held_is r n e.newest_kept e.count_kept
      ∙ same_counted (λ i. get_or n (place r at i) 0) (λ i. get_or m (place r at i) 0) 0 0 (count_of r m)
      (λ i near. e.slots_kept (wrap r.«cap» (at + (0 + i))) (wrap_near r.«cap» at (0 + i) (s.near (omega (arith, s.few))) (omega (arith, s.few))))
      ∙ sym (held_is r m refl refl)
