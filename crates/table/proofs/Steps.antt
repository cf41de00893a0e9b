-- Where a table stands for the pieces, and something happens, the changed table stands for the changed pieces.
use Rattle.std.proofs.Common.{◌≡◌, ℕ, ◌+◌, ◌/◌, ◌<◌, Bool, true, false, cond, eqb, ◌⊎◌, List, [], ◌∷◌, ◌++◌, map, Some, None, fold, count_by, Option, unwrap_or, sym, refl, ap, ◌∙◌, subst, inl, inr, append_assoc, arith}
use Rattle.std.specs.List.{ContainsAt as Has, AllByRecursion}
use Rattle.std.proofs.ByRecursion.{All-weaker, all_has_itself, all-has}
use Rattle.std.proofs.lemmas.Bool.{cases_Bool, cases_eq, cond-true, cond-false, eq-eqb, ne_eqb}
use Rattle.grounds.specs.declared.block.Block.{Block}
use Rattle.grounds.specs.Numbers.{page}
use Rattle.grounds.specs.Blocks.{Limits, may_be}
use Rattle.grounds.specs.Grounds.{State, new_state, all_blocks, find, without, out_at, got_at}
use Rattle.grounds.specs.Worlds.{GoodLimits}
use Rattle.grounds.specs.Statements.{LaidOut}
use Rattle.grounds.proofs.Bags.{Bag, to_third}
use Rattle.grounds.proofs.Found.{found, find_at, find_past, find_without}
use Rattle.grounds.proofs.Happened.{one_out, one_spoilt, one_overrun}
use Rattle.grounds.proofs.Gives.{none_left}
use Rattle.grounds.proofs.Laid.{none_laid, laid_bag, out_front, got_laid, first_lies}
use Rattle.table.specs.Table.{Table, new_table, touches, one_if, placed, sized, marked_spoilt, known, released}
use Rattle.table.specs.Stands.{Knows, Pieces, Stands}
use Rattle.table.proofs.Counts.{count_cons, count_append, count_middle, count_third, count_found, all_bag}
use Rattle.table.proofs.Touch.{touches_own, share}

pub new_stands : (l : Limits) → Stands l new_table new_state
unfolding find
new_stands l =
    record {
      pieces = record { laid_out = none_laid l; knows = tt; once = λ a. refl; pages = λ p. refl; sizes = λ a. refl; some = tt; spoils = λ a. refl };
      rests = refl;
      few = omega arith;
    }

-- ---- one more piece

-- the table with one more piece knows that piece and the others
placed_knows : (l : Limits) (t : Table) (b : Block) (bs : List Block) → LaidOut l (b ∷ bs) → AllByRecursion (Knows t) bs → AllByRecursion (Knows (placed t b)) (b ∷ bs)
placed_knows l t b bs out knows = (itself, All-weaker (Has bs) (Knows (placed t b)) others bs (all_has_itself bs))
  where
    itself : Knows (placed t b) b
    itself p touch = (cond-true (touches p b) b.room (t.kind p) touch, cond-true (touches p b) (b.at / page) (t.head p) touch)

    others : (c : Block) → Has bs c → Knows (placed t b) c
    others c has p touch = go (cases_Bool (touches p b))
      where
        go : (touches p b ≡ true) ⊎ (touches p b ≡ false) → ((placed t b).kind p ≡ c.room) × ((placed t b).head p ≡ c.at / page)
        go (inl both) =
            let same = share l b bs out c has p both touch in (
              cond-true (touches p b) b.room (t.kind p) both ∙ same.as_much,
              cond-true (touches p b) (b.at / page) (t.head p) both ∙ same.beside,
            )
        go (inr alone) =
            let known = all-has (Knows t) bs c knows has p touch in (
              cond-false (touches p b) b.room (t.kind p) alone ∙ known.0,
              cond-false (touches p b) (b.at / page) (t.head p) alone ∙ known.1,
            )

-- how much was asked for what is out, with one more piece out
out_sized : (s : State) (b : Block) (x : ℕ) (m : ℕ) → (out_at s x).size ≡ m →
    (out_at (record { out = b ∷ s.out; resting = s.resting; spoilt = s.spoilt }) x).size ≡ cond (eqb b.at x) b.size m
unfolding find
out_sized s b x m e = go (cases_eq b.at x)
  where
    go : (b.at ≡ x) ⊎ (b.at ≡ x → ⊥) → (out_at (record { out = b ∷ s.out; resting = s.resting; spoilt = s.spoilt }) x).size ≡ cond (eqb b.at x) b.size m
    go (inl same) =
        ap (λ (o : Option Block). (unwrap_or o (record { at = 0; size = 0; room = 0 })).size) (cond-true (eqb x b.at) (Some b) (find x s.out) (eq-eqb x b.at (sym same)))
        ∙ sym (cond-true (eqb b.at x) b.size m (eq-eqb b.at x same))
    go (inr other) =
        ap (λ (o : Option Block). (unwrap_or o (record { at = 0; size = 0; room = 0 })).size) (find_past x b s.out other)
        ∙ e
        ∙ sym (cond-false (eqb b.at x) b.size m (ne_eqb b.at x other))

-- and with one out no more
out_left : (l : Limits) (s : State) (r sp : List Block) (a : ℕ) (b : Block) (x : ℕ) (m : ℕ) → LaidOut l (all_blocks s) → find a s.out ≡ Some b →
    (out_at s x).size ≡ m → (out_at (record { out = without a s.out; resting = r; spoilt = sp }) x).size ≡ cond (eqb a x) 0 m
out_left l s r sp a b x m out f e = go (cases_eq a x)
  where
    go : (a ≡ x) ⊎ (a ≡ x → ⊥) → (out_at (record { out = without a s.out; resting = r; spoilt = sp }) x).size ≡ cond (eqb a x) 0 m
    go (inl same) =
        ap
        (λ (o : Option Block). (unwrap_or o (record { at = 0; size = 0; room = 0 })).size)
        (subst (λ (y : ℕ). find y (without a s.out) ≡ None) same (none_left l s a b out f))
        ∙ sym (cond-true (eqb a x) 0 m (eq-eqb a x same))
    go (inr other) =
        ap (λ (o : Option Block). (unwrap_or o (record { at = 0; size = 0; room = 0 })).size) (find_without x a s.out (λ same. other (sym same)))
        ∙ e
        ∙ sym (cond-false (eqb a x) 0 m (ne_eqb a x other))

module _ (can : ℕ → Bool) (l : Limits) (good : GoodLimits can l) (t : Table) (s : State) (known_pieces : Pieces l t s) where
  module _ (n a : ℕ) (may : may_be l n a (all_blocks s) ≡ true) where
    first : LaidOut l (got_at l n a ∷ all_blocks s)
    first = got_laid can l good n a (all_blocks s) may known_pieces.laid_out

    pub got_pieces : 0 < n → Pieces l (sized (placed t (got_at l n a)) a n) (one_out l s n a)
    got_pieces some =
        let b = got_at l n a in
        record {
          laid_out = first;
          knows = placed_knows l t b (all_blocks s) first known_pieces.knows;
          once = λ x. count_cons (λ c. eqb c.at x) b (all_blocks s) ∙ ap (λ (k : ℕ). one_if (eqb a x) + k) (known_pieces.once x);
          pages = λ p. count_cons (touches p) b (all_blocks s) ∙ ap (λ (k : ℕ). one_if (touches p b) + k) (known_pieces.pages p);
          sizes = λ x. out_sized s b x (t.asked x) (known_pieces.sizes x);
          some = (some, known_pieces.some);
          spoils = known_pieces.spoils;
        }

    pub spoilt_pieces : Pieces l (marked_spoilt (placed t (got_at l n a)) a) (one_spoilt l s n a)
    spoilt_pieces =
        let b = got_at l n a in
        record {
          laid_out = to_third (LaidOut l) (laid_bag l) b s.out s.resting s.spoilt first;
          knows =
              to_third
              (AllByRecursion (Knows (placed t b)))
              (all_bag (Knows (placed t b)))
              b
              s.out
              s.resting
              s.spoilt
              (placed_knows l t b (all_blocks s) first known_pieces.knows);
          once = λ x. count_third (λ c. eqb c.at x) s.out s.resting b s.spoilt ∙ ap (λ (k : ℕ). one_if (eqb a x) + k) (known_pieces.once x);
          pages = λ p. count_third (touches p) s.out s.resting b s.spoilt ∙ ap (λ (k : ℕ). one_if (touches p b) + k) (known_pieces.pages p);
          sizes = known_pieces.sizes;
          some = known_pieces.some;
          spoils = λ x. count_cons (λ c. eqb c.at x) b s.spoilt ∙ ap (λ (k : ℕ). one_if (eqb a x) + k) (known_pieces.spoils x);
        }

  -- ---- a piece that is out no more

  module _ (a : ℕ) (b : Block) (f : find a s.out ≡ Some b) where
    begins : b.at ≡ a
    begins = find_at a s.out b f

    front : LaidOut l (b ∷ (without a s.out ++ (s.resting ++ s.spoilt)))
    front = out_front (LaidOut l) (laid_bag l) a s.out (s.resting ++ s.spoilt) b f known_pieces.laid_out

    front_knows : AllByRecursion (Knows t) (b ∷ (without a s.out ++ (s.resting ++ s.spoilt)))
    front_knows = out_front (AllByRecursion (Knows t)) (all_bag (Knows t)) a s.out (s.resting ++ s.spoilt) b f known_pieces.knows

    left_some : AllByRecursion (λ c. 0 < c.size) (without a s.out)
    left_some =
        let p = found a s.out b f in
        let each : List Block → Type 0 = AllByRecursion (λ c. 0 < c.size) in
        subst each (sym p.rest) ((all_bag (λ c. 0 < c.size)).front b p.before p.behind (subst each p.split known_pieces.some)).1

    pub overrun_pieces : Pieces l (marked_spoilt (sized t a 0) a) (one_overrun s a b)
    overrun_pieces =
        record {
          laid_out = to_third (LaidOut l) (laid_bag l) b (without a s.out) s.resting s.spoilt front;
          knows = to_third (AllByRecursion (Knows t)) (all_bag (Knows t)) b (without a s.out) s.resting s.spoilt front_knows;
          once = λ x.
              count_third (λ c. eqb c.at x) (without a s.out) s.resting b s.spoilt
              ∙ sym (count_found (λ c. eqb c.at x) a s.out (s.resting ++ s.spoilt) b f)
              ∙ known_pieces.once x;
          pages = λ p.
              count_third (touches p) (without a s.out) s.resting b s.spoilt
              ∙ sym (count_found (touches p) a s.out (s.resting ++ s.spoilt) b f)
              ∙ known_pieces.pages p;
          sizes = λ x. out_left l s s.resting (b ∷ s.spoilt) a b x (t.asked x) known_pieces.laid_out f (known_pieces.sizes x);
          some = left_some;
          spoils = λ x.
              count_cons (λ c. eqb c.at x) b s.spoilt
              ∙ ap (λ (k : ℕ). one_if (eqb b.at x) + k) (known_pieces.spoils x)
              ∙ ap (λ (y : ℕ). one_if (eqb y x) + t.spoilt x) begins;
        }

    -- it rests, and is the last that does
    pub resting_pieces : Pieces l (sized t a 0) (record { out = without a s.out; resting = b ∷ s.resting; spoilt = s.spoilt })
    resting_pieces =
        record {
          laid_out = (laid_bag l).back b (without a s.out) (s.resting ++ s.spoilt) front;
          knows = (all_bag (Knows t)).back b (without a s.out) (s.resting ++ s.spoilt) front_knows;
          once = λ x.
              count_middle (λ c. eqb c.at x) (without a s.out) b (s.resting ++ s.spoilt)
              ∙ sym (count_found (λ c. eqb c.at x) a s.out (s.resting ++ s.spoilt) b f)
              ∙ known_pieces.once x;
          pages = λ p.
              count_middle (touches p) (without a s.out) b (s.resting ++ s.spoilt)
              ∙ sym (count_found (touches p) a s.out (s.resting ++ s.spoilt) b f)
              ∙ known_pieces.pages p;
          sizes = λ x. out_left l s (b ∷ s.resting) s.spoilt a b x (t.asked x) known_pieces.laid_out f (known_pieces.sizes x);
          some = left_some;
          spoils = known_pieces.spoils;
        }

-- ---- those that rest too long

module _ (l : Limits) (o r sp : List Block) where
  -- one that rests, at the front of all
  rest_front : (P : List Block → Type 0) → Bag P → (c : Block) (gone : List Block) → P (o ++ ((r ++ (c ∷ gone)) ++ sp)) → P (c ∷ (o ++ ((r ++ gone) ++ sp)))
  rest_front P bag c gone h =
      let apart_from_it : P ((o ++ r) ++ (c ∷ (gone ++ sp)))
      = subst P (ap (λ (xs : List Block). o ++ xs) (append_assoc r (c ∷ gone) sp) ∙ sym (append_assoc o r (c ∷ (gone ++ sp)))) h in
      subst
      (λ (xs : List Block). P (c ∷ xs))
      (append_assoc o r (gone ++ sp) ∙ ap (λ (xs : List Block). o ++ xs) (sym (append_assoc r gone sp)))
      (bag.front c (o ++ r) (gone ++ sp) apart_from_it)

  count_rest : (t : Block → Bool) (c : Block) (gone : List Block) →
      count_by t (o ++ ((r ++ (c ∷ gone)) ++ sp)) ≡ one_if (t c) + count_by t (o ++ ((r ++ gone) ++ sp))
  count_rest t c gone =
      omega (
        arith,
        count_append t o ((r ++ (c ∷ gone)) ++ sp),
        count_append t (r ++ (c ∷ gone)) sp,
        count_append t r (c ∷ gone),
        count_cons t c gone,
        count_append t o ((r ++ gone) ++ sp),
        count_append t (r ++ gone) sp,
        count_append t r gone,
      )

  abbrev pub resting_so : List Block → State
  resting_so gone = record { out = o; resting = r ++ gone; spoilt = sp }

  release_one : (t : Table) (c : Block) (gone : List Block) → Pieces l t (resting_so (c ∷ gone)) → Pieces l (released t c.at) (resting_so gone)
  release_one t c gone known_pieces =
      let out = rest_front (LaidOut l) (laid_bag l) c gone known_pieces.laid_out in
      let knows = rest_front (AllByRecursion (Knows t)) (all_bag (Knows t)) c gone known_pieces.knows in
      let lie = first_lies l c _ out in
      let takes : t.kind (c.at / page) ≡ c.room = (knows.0 (c.at / page) (touches_own c (omega (arith, lie)))).0 in
      let same : (p : ℕ) → touches p (known t c.at) ≡ touches p c
      = λ p. ap (λ (k : ℕ). touches p (record { at = c.at; size = 0; room = k })) takes in
      record {
        laid_out = (laid_bag l).less c _ out;
        knows = knows.1;
        once = λ x. let was = count_rest (λ b. eqb b.at x) c gone in let is = known_pieces.once x in omega arith;
        pages = λ p.
            let was = count_rest (touches p) c gone in
            let is = known_pieces.pages p in
            let touch : one_if (touches p (known t c.at)) ≡ one_if (touches p c) = ap one_if (same p) in
            omega arith;
        sizes = known_pieces.sizes;
        some = known_pieces.some;
        spoils = known_pieces.spoils;
      }

  pub release_all : (t : Table) (gone : List Block) → Pieces l t (resting_so gone) → Pieces l (fold released t (map (λ b. b.at) gone)) (resting_so [])
  release_all t [] known_pieces = known_pieces
  release_all t (c ∷ gone) known_pieces = release_all (released t c.at) gone (release_one t c gone known_pieces)
