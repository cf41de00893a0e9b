-- A row of texts, one more at its end. Assumes nothing.
use Rattle.std.proofs.Common.{◌≡◌, ℕ, ◌+◌, ◌<◌, List, [], ◌∷◌, ◌++◌, length, get_or, take, Some, None, Ok, codes, decimal, Option, Result, sym, refl, ap, ◌∙◌, subst, append-nil}
use Rattle.std.specs.declared.fmt.Error.{Error}
use Rattle.std.specs.declared.fmt.Formatter.{Formatter}
use Rattle.std.specs.Fmt.{option_append, DisplaysOnOk}
use Rattle.std.proofs.Output.{then_text_assoc, displays_on_IsOk_append, displays_on_ok_of_eq}
use Rattle.std.proofs.lemmas.List.{take_more}
use Rattle.script.specs.Texts.{row, numbers}

then_none : (o : Option (List ℕ)) → option_append o (Some []) ≡ option_append (Some []) o
then_none None = refl
then_none (Some a) = ap (λ (l : List ℕ). Some l) (append-nil a)

pub row_more : {X : Type 0} (f : X → Option (List ℕ)) (xs : List X) (x : X) → row f (xs ++ x ∷ []) ≡ option_append (row f xs) (option_append (Some (codes " ")) (f x))
row_more f [] x = then_none (option_append (Some (codes " ")) (f x))
row_more f (y ∷ xs) x = ap (option_append (option_append (Some (codes " ")) (f y))) (row_more f xs x) ∙ sym (then_text_assoc (option_append (Some (codes " ")) (f y)) (row f xs) (option_append (Some (codes " ")) (f x)))

pub row_numbers : (ns : List ℕ) → row (λ n. Some (decimal n)) ns ≡ Some (numbers ns)
row_numbers [] = refl
row_numbers (n ∷ ns) = ap (option_append (Some (codes " " ++ decimal n))) (row_numbers ns)

-- a turn of the loop that writes a row
pub row_step : {W X : Type 0} (took : W → List ℕ → W → Type 0) (f : X → Option (List ℕ)) (start from to : Formatter W) (r : Result (Unit {0}) Error) (u : Unit {0}) (xs : List X) (n : ℕ) (x : X) → n < length xs → x ≡ get_or xs n x → r ≡ Ok u → DisplaysOnOk took start (Ok tt) (row f (take n xs)) from → DisplaysOnOk took from r (option_append (Some (codes " ")) (f x)) to → DisplaysOnOk took start (Ok tt) (row f (take (n + 1) xs)) to
row_step took f start from to r u xs n x less is ok old new =
    let longer = ap (row f) (take_more xs n x less ∙ ap (λ y. take n xs ++ y ∷ []) (sym is)) ∙ row_more f (take n xs) x in
    displays_on_ok_of_eq took start to (Ok tt) _ _ (sym longer) (subst (λ s. DisplaysOnOk took start s (option_append (row f (take n xs)) (option_append (Some (codes " ")) (f x))) to) ok (displays_on_IsOk_append took start from to (Ok tt) r _ _ (λ _. refl) old new))
