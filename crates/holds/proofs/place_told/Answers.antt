use Rattle.holds.proofs.Placed.{room_told, place_is}
use Rattle.holds.proofs.place_told.Goals as goal

pub returns : goal.returns
returns c =
    λ can l t s m n kept well.
    (room_told can l kept.good t s kept.stands m kept.holds n well, place_is can l kept.good t s kept.stands m kept.holds n well)
