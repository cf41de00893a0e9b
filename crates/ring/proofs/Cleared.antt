-- Memory in which both header words are 0 keeps a queue that holds nothing, whatever is in the slots.
use Rattle.std.proofs.Common.{◌≡◌, ℕ, List, [], arith}
use Rattle.ring.specs.declared.Ring.{Ring}
use Rattle.ring.specs.Ring.{held, Sound, Cleared}
use Rattle.ring.proofs.Held.{held_none}

module _ (r : Ring) (m : List ℕ) (c : Cleared r m) where
  pub cleared : Sound r m
  cleared =
      record {
        fits = c.fits;
        header_inside = c.header_inside;
        slots_inside = c.slots_inside;
        apart = c.apart;
        near = λ some. omega (arith, c.no_newest);
        few = omega (arith, c.no_count);
      }

  pub holds_none : held r m ≡ []
  holds_none = held_none r m c.no_count
