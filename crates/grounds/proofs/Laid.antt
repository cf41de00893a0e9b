-- Nobody is given what another has: pieces that are laid out stay so, whatever is asked, where it is answered rightly.
use Rattle.std.proofs.Common.{◌≡◌, ℕ, ◌+◌, ◌*◌, ◌/◌, ◌%◌, ◌<◌, Bool, true, false, ◌||◌, eqb, ltb, ◌⊎◌, List, [], ◌∷◌, ◌++◌, Some, sym, refl, ap, ◌∙◌, subst, inl, inr, append_assoc, add-zero, mul_assoc, arith}
use native.Mathlib.Nat.{mul-mod_left}
use Rattle.std.specs.List.{ContainsAt as Has}
use Rattle.std.proofs.lemmas.Nat.{div-add-mod'}
use Rattle.std.proofs.lemmas.Bool.{and_parts, and_from, or_cases, or_left, or_right, cases_Bool, lt-ltb, eqb-true, eq-eqb}
use Rattle.std.proofs.lemmas.Bool.Decides.{nat_tests}
use Rattle.grounds.specs.declared.block.Block.{Block}
use Rattle.grounds.specs.declared.event.Event.{Event}
use Rattle.grounds.specs.declared.answer.Answer.{Answer}
use Rattle.grounds.specs.Numbers.{page, grain}
use Rattle.grounds.specs.Lists.{every, each_pair}
use Rattle.grounds.specs.Blocks.{Limits, class_of, large, room_for, apart, may_be}
use Rattle.grounds.specs.Grounds.{State, all_blocks, find, without, got_at}
use Rattle.grounds.specs.Worlds.{GoodLimits}
use Rattle.grounds.specs.Statements.{is_laid, share_well, LaidOut}
use Rattle.grounds.proofs.Lists.{every_has, every_from_has}
use Rattle.grounds.proofs.Bags.{Bag, every_bag, pair_bag, to_second, to_third}
use Rattle.grounds.proofs.Found.{found}
use Rattle.grounds.proofs.Classes.{class_fits, room_has, room_large, room_small, same_room_small}
use Rattle.grounds.proofs.Apart.{Apart, apart_tells, apart_from, not_apart, apart_swaps, SmallThere, may_small, LargeThere, may_large, Lies, lies, laid}
use Rattle.grounds.proofs.Happened.{Happened, turns_away, gets, spoils, gives, overruns, sizes, looks_overrun, looks_harmed, looks_whole}

pub none_laid : (l : Limits) → LaidOut l []
none_laid l = record { no_shared_byte = refl; all_laid = refl; pages_of_one = λ p. refl }

-- ---- it is a property of the bag of pieces

share_swaps : (l : Limits) (p : ℕ) (b c : Block) → share_well l p b c ≡ true → share_well l p c b ≡ true
share_swaps l p b c = grind (arith, nat_tests)

pub laid_bag : (l : Limits) → Bag (LaidOut l)
laid_bag l =
    let pairs = pair_bag (λ (b : Block). apart b.at b.room) apart_swaps in
    let each = every_bag (is_laid l) in
    let pages : (p : ℕ) → Bag (λ bs. each_pair (share_well l p) bs ≡ true) = λ p. pair_bag (share_well l p) (share_swaps l p) in
    record {
      front = λ x xs ys h.
          record {
            no_shared_byte = pairs.front x xs ys h.no_shared_byte;
            all_laid = each.front x xs ys h.all_laid;
            pages_of_one = λ p. (pages p).front x xs ys (h.pages_of_one p);
          };
      back = λ x xs ys h.
          record {
            no_shared_byte = pairs.back x xs ys h.no_shared_byte;
            all_laid = each.back x xs ys h.all_laid;
            pages_of_one = λ p. (pages p).back x xs ys (h.pages_of_one p);
          };
      less = λ x xs h.
          record {
            no_shared_byte = pairs.less x xs h.no_shared_byte;
            all_laid = each.less x xs h.all_laid;
            pages_of_one = λ p. (pages p).less x xs (h.pages_of_one p);
          };
    }

-- the piece that is found comes to the front
pub out_front : (P : List Block → Type 0) → Bag P → (a : ℕ) (bs cs : List Block) (b : Block) → find a bs ≡ Some b → P (bs ++ cs) → P (b ∷ (without a bs ++ cs))
out_front P bag a bs cs b h p =
    let f = found a bs b h in
    let apart_from_it : P (f.before ++ (b ∷ (f.behind ++ cs)))
    = subst P (ap (λ (xs : List Block). xs ++ cs) f.split ∙ append_assoc f.before (b ∷ f.behind) cs) p in
    subst
    (λ (xs : List Block). P (b ∷ xs))
    (sym (append_assoc f.before f.behind cs) ∙ ap (λ (xs : List Block). xs ++ cs) (sym f.rest))
    (bag.front b f.before (f.behind ++ cs) apart_from_it)

-- ---- a piece that is got

pub multiples : (x c : ℕ) → c % grain ≡ 0 → x % c ≡ 0 → x % grain ≡ 0
multiples x c h k =
    let whole : x ≡ x / c * (c / grain) * grain
    = sym (div-add-mod' x c)
    ∙ ap (λ (r : ℕ). x / c * c + r) k
    ∙ add-zero (x / c * c)
    ∙ ap (λ (d : ℕ). x / c * d) (omega arith)
    ∙ sym (mul_assoc (x / c) (c / grain) grain) in
    ap (λ (y : ℕ). y % grain) whole ∙ mul-mod_left (x / c * (c / grain)) grain

module _ (can : ℕ → Bool) (l : Limits) (good : GoodLimits can l) (n a : ℕ) (bs : List Block) where
  got_from : Lies l (got_at l n a) → every (apart a (room_for l n)) bs ≡ true →
      ((p : ℕ) (d : Block) → Has bs d → apart (p * page) page (got_at l n a) ≡ false → share_well l p (got_at l n a) d ≡ true) → LaidOut l bs →
      LaidOut l (got_at l n a ∷ bs)
  got_from lie free share was =
      record {
        no_shared_byte = and_from (every (apart a (room_for l n)) bs) _ free was.no_shared_byte;
        all_laid = and_from (is_laid l (got_at l n a)) _ (laid l (got_at l n a) lie) was.all_laid;
        pages_of_one = λ p. and_from (every (share_well l p (got_at l n a)) bs) _ (every_from_has (share_well l p (got_at l n a)) bs (fair p)) (was.pages_of_one p);
      }
    where
      fair : (p : ℕ) (d : Block) → Has bs d → share_well l p (got_at l n a) d ≡ true
      fair p d has = go (cases_Bool (apart (p * page) page (got_at l n a)))
        where
          go : (apart (p * page) page (got_at l n a) ≡ true) ⊎ (apart (p * page) page (got_at l n a) ≡ false) →
              share_well l p (got_at l n a) d ≡ true
          go (inl far) = or_left _ _ (or_left _ _ far)
          go (inr near) = share p d has near

  got_small : 0 < class_of n l.classes → may_be l n a bs ≡ true → LaidOut l bs → LaidOut l (got_at l n a ∷ bs)
  got_small some may was = got_from lie (subst (λ (r : ℕ). every (apart a r) bs ≡ true) (sym takes) there.free) share was
    where
      there : SmallThere l (class_of n l.classes) a bs
      there = may_small l n a bs some may

      takes : room_for l n ≡ class_of n l.classes
      takes = room_small l n some

      lie : Lies l (got_at l n a)
      lie =
          record {
            inside = omega (arith, takes, there);
            grained = let on_page = multiples (a % page) (class_of n l.classes) (class_fits n 0 l.classes good.classes_rise some).1 there.step in omega arith;
            has = room_has l n;
            takes = refl;
            small_sits = λ _. (ap (λ (r : ℕ). (a % page) % r) takes ∙ there.step, omega (arith, takes, there));
            large_sits = λ none. absurd (omega arith);
          }

      share : (p : ℕ) (d : Block) → Has bs d → apart (p * page) page (got_at l n a) ≡ false → share_well l p (got_at l n a) d ≡ true
      share p d has near = go (or_cases (apart (a / page * page) page d) (eqb d.room (class_of n l.classes)) of_class)
        where
          of_class : (apart (a / page * page) page d || eqb d.room (class_of n l.classes)) ≡ true
          of_class = every_has (λ b. apart (a / page * page) page b || eqb b.room (class_of n l.classes)) bs d there.of_class has

          here : a / page ≡ p
          here = omega (arith, takes, there, not_apart (p * page) page (got_at l n a) near)

          go : (apart (a / page * page) page d ≡ true) ⊎ (eqb d.room (class_of n l.classes) ≡ true) → share_well l p (got_at l n a) d ≡ true
          go (inl far) = or_left _ _ (or_right (apart (p * page) page (got_at l n a)) _ (subst (λ (q : ℕ). apart (q * page) page d ≡ true) here far))
          go (inr same) =
              let as_much : d.room ≡ class_of n l.classes = eqb-true d.room (class_of n l.classes) same in
              let its : d.room ≡ room_for l d.size = (lies l d (every_has (is_laid l) bs d was.all_laid has)).takes in
              let small : 0 < class_of d.size l.classes = same_room_small l d.size n some (sym its ∙ as_much) in
              or_right
              (apart (p * page) page (got_at l n a) || apart (p * page) page d)
              _
              (and_from
              (eqb (room_for l n) d.room)
              _
              (eq-eqb (room_for l n) d.room (takes ∙ sym as_much))
              (and_from
              (ltb 0 (class_of n l.classes))
              (ltb 0 (class_of d.size l.classes))
              (lt-ltb 0 (class_of n l.classes) some)
              (lt-ltb 0 (class_of d.size l.classes) small)))

  got_large : class_of n l.classes ≡ 0 → may_be l n a bs ≡ true → LaidOut l bs → LaidOut l (got_at l n a ∷ bs)
  got_large none may was = got_from lie (subst (λ (r : ℕ). every (apart a r) bs ≡ true) (sym takes) there.free) share was
    where
      there : LargeThere l n a bs
      there = may_large l n a bs none may

      takes : room_for l n ≡ large n
      takes = room_large l n none

      lie : Lies l (got_at l n a)
      lie =
          record {
            inside = omega (arith, takes, there);
            grained = omega (arith, there);
            has = room_has l n;
            takes = refl;
            small_sits = λ some. absurd (omega arith);
            large_sits = λ _. there.flat;
          }

      share : (p : ℕ) (d : Block) → Has bs d → apart (p * page) page (got_at l n a) ≡ false → share_well l p (got_at l n a) d ≡ true
      share p d has near = or_left _ _ (or_right (apart (p * page) page (got_at l n a)) _ (apart_from (p * page) page d (go (apart_tells a (large n) d free))))
        where
          free : apart a (large n) d ≡ true
          free = every_has (apart a (large n)) bs d there.free has

          go : Apart a (large n) d → Apart (p * page) page d
          go (inl past) = inl (omega (arith, takes, there, not_apart (p * page) page (got_at l n a) near))
          go (inr before) = inr (omega (arith, takes, there, not_apart (p * page) page (got_at l n a) near))

  pub got_laid : may_be l n a bs ≡ true → LaidOut l bs → LaidOut l (got_at l n a ∷ bs)
  got_laid may was = grind (arith, got_small, got_large)

-- ---- what it tells of the first piece and the others

module _ (l : Limits) (b : Block) (bs : List Block) (out : LaidOut l (b ∷ bs)) where
  pub first_lies : Lies l b
  first_lies = lies l b (and_parts (is_laid l b) (every (is_laid l) bs) out.all_laid).0

  pub others_lie : (c : Block) → Has bs c → Lies l c
  others_lie c has = lies l c (every_has (is_laid l) bs c (and_parts (is_laid l b) (every (is_laid l) bs) out.all_laid).1 has)

  pub others_apart : (c : Block) → Has bs c → Apart b.at b.room c
  others_apart c has = apart_tells b.at b.room c (every_has (apart b.at b.room) bs c (and_parts (every (apart b.at b.room) bs) _ out.no_shared_byte).0 has)

  pub others_elsewhere : (c : Block) → Has bs c → c.at ≡ b.at → ⊥
  others_elsewhere c has same = go (others_apart c has)
    where
      go : Apart b.at b.room c → ⊥
      go (inl past) = omega (arith, first_lies)
      go (inr before) = omega (arith, others_lie c has)

-- ---- and whatever happens

pub step_laid : (can : ℕ → Bool) (l : Limits) → GoodLimits can l → {s t : State} {g h : List ℕ} {e : Event} {x : Answer} → Happened l s g e x h t →
    LaidOut l (all_blocks s) → LaidOut l (all_blocks t)
step_laid can l good {s} what was = go what
  where
    go : {t : State} {g h : List ℕ} {e : Event} {x : Answer} → Happened l s g e x h t → LaidOut l (all_blocks t)
    go (turns_away r t) = was
    go (gets n a asked may clean) = got_laid can l good n a (all_blocks s) may was
    go (spoils n a asked may clean) =
        to_third (LaidOut l) (laid_bag l) (got_at l n a) s.out s.resting s.spoilt (got_laid can l good n a (all_blocks s) may was)
    go (gives a b f m) =
        to_second (LaidOut l) (laid_bag l) l.rests b (without a s.out) s.resting s.spoilt (out_front (LaidOut l) (laid_bag l) a s.out _ b f was)
    go (overruns a b f m) =
        to_third (LaidOut l) (laid_bag l) b (without a s.out) s.resting s.spoilt (out_front (LaidOut l) (laid_bag l) a s.out _ b f was)
    go (sizes a b f) = was
    go (looks_overrun b f m) = was
    go (looks_harmed a i w) = was
    go (looks_whole w) = was
