-- What `find` finds, what is left `without` it, and that of more places than pieces one is at no piece's beginning.
use Rattle.std.proofs.Common.{◌≡◌, ℕ, zero, suc, ◌<◌, Bool, true, false, cond, eqb, List, [], ◌∷◌, ◌++◌, length, is_some, Some, None, sym, refl, ap, ◌∙◌, subst, ⊎_elim, arith}
use Rattle.std.specs.List.{ContainsAt as Has, AllByRecursion}
use Rattle.std.proofs.ByRecursion.{has_append_right}
use Rattle.std.proofs.lemmas.Bool.{eqb-true, ne_eqb, cond-true, cond-false, cases_Bool, false≢true}
use Rattle.std.proofs.lemmas.Bool.Decides.{nat_tests}
use Rattle.grounds.specs.declared.block.Block.{Block}
use Rattle.grounds.specs.Grounds.{find, without}
use Rattle.grounds.proofs.Lists.{has_here}

-- the list around the piece that is found
pub record Found (a : ℕ) (bs : List Block) (b : Block) : Type 0 where
  pub before : List Block
  pub behind : List Block
  pub split : bs ≡ before ++ (b ∷ behind)
  pub rest : without a bs ≡ before ++ behind
  pub begins : b.at ≡ a

pub found : (a : ℕ) (bs : List Block) (b : Block) → find a bs ≡ Some b → Found a bs b
unfolding find without
found a [] b h = absurd (false≢true (ap is_some h))
found a (c ∷ bs) b h = go (eqb a c.at) refl h (found a bs b)
  where
    go : (t : Bool) → eqb a c.at ≡ t → cond t (Some c) (find a bs) ≡ Some b → (find a bs ≡ Some b → Found a bs b) → Found a (c ∷ bs) b
    go true e h more =
        let same : c ≡ b = cc in
        record {
          before = [];
          behind = bs;
          split = ap (λ (x : Block). x ∷ bs) same;
          rest = cond-true (eqb a c.at) bs (c ∷ without a bs) e;
          begins = sym (eqb-true a c.at e ∙ ap (λ (x : Block). x.at) same);
        }
    go false e h more =
        let m = more h in
        record {
          before = c ∷ m.before;
          behind = m.behind;
          split = ap (λ (xs : List Block). c ∷ xs) m.split;
          rest = cond-false (eqb a c.at) bs (c ∷ without a bs) e ∙ ap (λ (xs : List Block). c ∷ xs) m.rest;
          begins = m.begins;
        }

pub find_has : (a : ℕ) (bs : List Block) (b : Block) → find a bs ≡ Some b → Has bs b
find_has a bs b h =
    let f = found a bs b h in
    subst (λ (xs : List Block). Has xs b) (sym f.split) (has_append_right f.before (b ∷ f.behind) b (has_here b f.behind))

pub find_at : (a : ℕ) (bs : List Block) (b : Block) → find a bs ≡ Some b → b.at ≡ a
find_at a bs b h = (found a bs b h).begins

pub some_found : (a : ℕ) (bs : List Block) → is_some (find a bs) ≡ true → (b : Block) × (find a bs ≡ Some b)
some_found a bs h = grind (arith, nat_tests)

-- one more piece, that begins elsewhere
pub find_past : (a : ℕ) (c : Block) (bs : List Block) → (c.at ≡ a → ⊥) → find a (c ∷ bs) ≡ find a bs
unfolding find
find_past a c bs other = cond-false (eqb a c.at) (Some c) (find a bs) (ne_eqb a c.at (λ e. other (sym e)))

-- what begins elsewhere is found as before
pub find_without : (x a : ℕ) (bs : List Block) → (x ≡ a → ⊥) → find x (without a bs) ≡ find x bs
unfolding find without
find_without x a [] other = refl
find_without x a (b ∷ bs) other = let rest = find_without x a bs other in grind (arith, nat_tests)

pub length_without : (a : ℕ) (bs : List Block) → is_some (find a bs) ≡ true → suc (length (without a bs)) ≡ length bs
unfolding find without
length_without a [] found = cc
length_without a (b ∷ bs) found = let rest = length_without a bs in grind (arith, nat_tests)

-- none is found exactly where none begins
pub find_none : (a : ℕ) (bs : List Block) → AllByRecursion (λ b. a ≡ b.at → ⊥) bs → find a bs ≡ None
unfolding find
find_none a [] h = refl
find_none a (b ∷ bs) h = let rest = find_none a bs h.1 in let other = h.0 in grind (arith, nat_tests)

pub none_begins : (a : ℕ) (bs : List Block) → find a bs ≡ None → AllByRecursion (λ b. a ≡ b.at → ⊥) bs
unfolding find
none_begins a [] none = tt
none_begins a (b ∷ bs) none = (grind (arith, nat_tests), none_begins a bs (grind (arith, nat_tests)))

-- of the first n of different places, one at which no piece begins, where there are fewer pieces than n
module _ (place : ℕ → ℕ) (once : (i j : ℕ) → place i ≡ place j → i ≡ j) where
  untaken_more :
      (n : ℕ) (bs : List Block) → (j : ℕ) × (j < n) × (find (place j) (without (place n) bs) ≡ None) → (j : ℕ) × (j < suc n) × (find (place j) bs ≡ None)
  untaken_more n bs (j, low, none) = (j, omega arith, rw (find_without (place j) (place n) bs (λ same. omega (arith, once j n same))) at none)

  pub untaken : (n : ℕ) (bs : List Block) → length bs < n → (j : ℕ) × (j < n) × (find (place j) bs ≡ None)
  untaken zero bs fewer = absurd (omega arith)
  untaken (suc n) bs fewer =
      ⊎_elim
      (λ found. untaken_more n bs (untaken n (without (place n) bs) (omega (arith, length_without (place n) bs found))))
      (λ none. (n, omega arith, grind arith))
      (cases_Bool (is_some (find (place n) bs)))
