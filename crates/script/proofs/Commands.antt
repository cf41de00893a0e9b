-- Which event begins with the word `look`. Assumes nothing.
use Rattle.std.proofs.Common.{◌≡◌, ℕ, List, [], ◌∷◌, get_or, codes, ap, arith}
use Rattle.grounds.specs.declared.event.Event.{Event}
use Rattle.grounds.specs.declared.event.Event.TheVariants.{Get, Give, Size, Look, Garbled}
use Rattle.script.specs.Reading.{event_words, FitsEvent}

-- the first word's first byte; 1 where there is no word
abbrev initial : List (List ℕ) → ℕ
initial [] = 1
initial (w ∷ ws) = get_or w 0 0

pub look_only : (w : List ℕ) (ws : List (List ℕ)) → w ≡ codes "look" → (ws ≡ [] → ⊥) → (e : Event) → FitsEvent e → w ∷ ws ≡ event_words e → ⊥
look_only w ws look more (Get n) fits is = let a = ap initial is in let b = ap (λ l. get_or l 0 0) look in omega arith
look_only w ws look more (Give n) fits is = let a = ap initial is in let b = ap (λ l. get_or l 0 0) look in omega arith
look_only w ws look more (Size n) fits is = let a = ap initial is in let b = ap (λ l. get_or l 0 0) look in omega arith
look_only w ws look more Look fits is = more (cc)
look_only w ws look more (Garbled n) fits is = fits
