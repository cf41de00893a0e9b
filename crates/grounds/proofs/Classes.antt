-- How much a piece takes: what its class has and is, what a large piece takes, and that neither is much more than was asked for.
use Rattle.std.proofs.Common.{◌≡◌, ℕ, ◌+◌, ◌%◌, ◌<◌, ◌≤◌, Bool, true, List, [], ◌∷◌, refl, ⊎_elim, arith}
use Rattle.std.specs.List.{ContainsAt as Has, AllByRecursion}
use Rattle.std.proofs.lemmas.Bool.{cases_lt}
use Rattle.std.proofs.lemmas.Bool.Decides.{nat_tests}
use Rattle.std.proofs.ByRecursion.{All-weaker, all-has, has_get_or, has_append_right}
use Rattle.grounds.specs.Numbers.{page, grain, mark_length}
use Rattle.grounds.specs.Blocks.{Limits, class_of, large, room_for}
use Rattle.grounds.specs.Worlds.{rising}
use Rattle.grounds.specs.Statements.{LittleMore}

-- ---- the class of a piece

module _ (n : ℕ) where
  -- of one class more, what holds of it where it has the bytes and the mark, and of the others' class where it has not
  class_cases :
      (c : ℕ) (cs : List ℕ) (P : ℕ → Type 0) → (n + mark_length ≤ c → P c) → (c < n + mark_length → P (class_of n cs)) → P (class_of n (c ∷ cs))
  unfolding class_of
  class_cases c cs P has others = grind (arith, nat_tests)

  pub class_has : (cs : List ℕ) → 0 < class_of n cs → n + mark_length ≤ class_of n cs
  unfolding class_of
  class_has [] = omega arith
  class_has (c ∷ cs) = class_cases c cs (λ x. 0 < x → n + mark_length ≤ x) (λ has _. has) (λ _. class_has cs)

  pub class_is_one : (cs : List ℕ) → 0 < class_of n cs → Has cs (class_of n cs)
  unfolding class_of
  class_is_one [] = λ h. absurd (omega arith)
  class_is_one (c ∷ cs) =
      class_cases
      c
      cs
      (λ x. 0 < x → Has (c ∷ cs) x)
      (λ _ _. has_get_or (c ∷ cs) 0 0 (omega arith))
      (λ _ h. has_append_right (c ∷ []) cs (class_of n cs) (class_is_one cs h))

  none_has : (cs : List ℕ) → class_of n cs ≡ 0 → AllByRecursion (λ c. c < n + mark_length) cs
  unfolding class_of
  none_has [] = λ _. tt
  none_has (c ∷ cs) =
      class_cases
      c
      cs
      (λ x. x ≡ 0 → AllByRecursion (λ d. d < n + mark_length) (c ∷ cs))
      (λ has none. absurd (omega arith))
      (λ less none. (less, none_has cs none))

  pub class_none : (cs : List ℕ) → class_of n cs ≡ 0 → (c : ℕ) → Has cs c → c < n + mark_length
  class_none cs none c = all-has (λ d. d < n + mark_length) cs c (none_has cs none)

  pub class_some : (cs : List ℕ) (c : ℕ) → Has cs c → n + mark_length ≤ c → 0 < class_of n cs
  class_some cs c one has = ⊎_elim (λ some. some) (λ none. absurd (omega (arith, class_none cs (omega arith) c one))) (cases_lt 0 (class_of n cs))

-- ---- classes that rise

-- a class of a list that rises from k on
abbrev Risen : ℕ → ℕ → Type 0
Risen k c = (k < c) × (c % grain ≡ 0) × (c ≤ page)

risen : (k c : ℕ) (cs : List ℕ) → rising k (c ∷ cs) ≡ true → Risen k c × (rising c cs ≡ true)
risen k c cs h = grind (arith, nat_tests)

all_risen : (k : ℕ) (cs : List ℕ) → rising k cs ≡ true → AllByRecursion (Risen k) cs
all_risen k [] h = tt
all_risen k (c ∷ cs) h =
    let parts = risen k c cs h in (parts.0, All-weaker (Risen c) (Risen k) (λ d r. omega arith) cs (all_risen c cs parts.1))

module _ (n : ℕ) where
  least_all : (k : ℕ) (cs : List ℕ) → rising k cs ≡ true → AllByRecursion (λ c. n + mark_length ≤ c → class_of n cs ≤ c) cs
  least_all k [] h = tt
  least_all k (c ∷ cs) h =
      let rest = (risen k c cs h).1 in
      class_cases
      n
      c
      cs
      (λ x. AllByRecursion (λ d. n + mark_length ≤ d → x ≤ d) (c ∷ cs))
      (λ _. (omega arith, All-weaker (Risen c) (λ d. n + mark_length ≤ d → c ≤ d) (λ d r. omega arith) cs (all_risen c cs rest)))
      (λ less. (omega arith, least_all c cs rest))

  module _ (k : ℕ) (cs : List ℕ) (rise : rising k cs ≡ true) where
    pub class_least : (c : ℕ) → Has cs c → n + mark_length ≤ c → class_of n cs ≤ c
    class_least c = all-has (λ d. n + mark_length ≤ d → class_of n cs ≤ d) cs c (least_all k cs rise)

    pub class_fits : 0 < class_of n cs → (class_of n cs ≤ page) × (class_of n cs % grain ≡ 0)
    class_fits some = let fits = all-has (Risen k) cs (class_of n cs) (all_risen k cs rise) (class_is_one n cs some) in (fits.2, fits.1)

-- ---- large pieces

module _ (n : ℕ) where
  pub large_has : n + mark_length ≤ large n
  large_has = omega arith

  pub large_little_more : large n < n + mark_length + page
  large_little_more = omega arith

  pub large_whole_pages : large n % page ≡ 0
  large_whole_pages = omega arith

  pub large_some_pages : page ≤ large n
  large_some_pages = omega arith

-- ---- what a piece takes

module _ (l : Limits) (n : ℕ) where
  pub room_cases :
      (P : ℕ → Type 0) → (class_of n l.classes ≡ 0 → P (large n)) → (0 < class_of n l.classes → P (class_of n l.classes)) → P (room_for l n)
  room_cases P none some = grind (arith, nat_tests)

  pub room_large : class_of n l.classes ≡ 0 → room_for l n ≡ large n
  room_large none = room_cases (λ r. r ≡ large n) (λ _. refl) (λ some. omega arith)

  pub room_small : 0 < class_of n l.classes → room_for l n ≡ class_of n l.classes
  room_small some = room_cases (λ r. r ≡ class_of n l.classes) (λ none. omega arith) (λ _. refl)

  pub room_has : n + mark_length ≤ room_for l n
  room_has = room_cases (λ r. n + mark_length ≤ r) (λ _. large_has n) (class_has n l.classes)

  pub room_grain : rising 0 l.classes ≡ true → room_for l n % grain ≡ 0
  room_grain rise = room_cases (λ r. r % grain ≡ 0) (λ _. omega arith) (λ some. (class_fits n 0 l.classes rise some).1)

-- what takes as much as a small piece is small
pub same_room_small : (l : Limits) (m n : ℕ) → 0 < class_of n l.classes → room_for l m ≡ class_of n l.classes → 0 < class_of m l.classes
same_room_small l m n some same =
    class_some m l.classes (class_of n l.classes) (class_is_one n l.classes some) (rw same at (room_has l m))

pub little_more : (can : ℕ → Bool) → LittleMore can
little_more can l n good _ = (
  room_has l n,
  (λ c one has.
      rw (room_small l n (class_some n l.classes c one has)) (class_least n 0 l.classes good.classes_rise c one has)),
  (λ none. rw (room_large l n none) (large_little_more n)),
)
