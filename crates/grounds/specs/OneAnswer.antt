-- Under the rule of the lowest place there is one answer: two keepers that are right and follow it answer alike, whatever is asked of both and written
-- on both grounds. This is a statement, a type whose proof is owed. Assumes nothing.
--     Step                what can happen next: something is asked, or somebody writes bytes on the ground
--     play f l steps      the world after all of the steps, the last of which comes first, from an opening with the limits l on
--     Possible l steps    each step can happen: bytes can carry what is asked, and what is written are bytes, on the ground
use Rattle.std.specs.Prelude.{◌≡◌, ℕ, ◌+◌, ◌≤◌, Bool, true, List, [], ◌∷◌, length}
use Rattle.std.specs.List.{AllByRecursion}
use Rattle.grounds.specs.declared.event.Event.{Event}
use Rattle.grounds.specs.Lists.{bytes}
use Rattle.grounds.specs.Blocks.{Limits, ground_size}
use Rattle.grounds.specs.Events.{readable}
use Rattle.grounds.specs.Worlds.{GoodLimits, Program, World, new_world, asked, written}
use Rattle.grounds.specs.Promises.{Right, Lowest}

pub data Step : Type 0 where
  Asks : Event → Step
  Writes : ℕ → List ℕ → Step

abbrev pub play : Program → Limits → List Step → World
play f l [] = new_world f l
play f l (Asks e ∷ steps) = asked f l (play f l steps) e
play f l (Writes a bs ∷ steps) = written (play f l steps) a bs

abbrev pub CanHappen : Limits → Step → Type 0
CanHappen l (Asks e) = readable e ≡ true
CanHappen l (Writes a bs) = (a + length bs ≤ ground_size l) × (bytes bs ≡ true)

abbrev pub Possible : Limits → List Step → Type 0
Possible l = AllByRecursion (CanHappen l)

-- The pieces and the ground are the same after the same steps, and so is what is answered next. (What the keepers remember may differ.)
abbrev pub OneAnswer : (ℕ → Bool) → Type 0
OneAnswer can =
    (f h : Program) → Right can f → Lowest can f → Right can h → Lowest can h → (l : Limits) → GoodLimits can l → (steps : List Step) → Possible l steps →
    ((play f l steps).state ≡ (play h l steps).state)
    × ((play f l steps).ground ≡ (play h l steps).ground)
    × ((e : Event) → readable e ≡ true →
    f.answers (play f l steps).memory (play f l steps).ground e ≡ h.answers (play h l steps).memory (play h l steps).ground e)
