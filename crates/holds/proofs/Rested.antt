-- A piece that rests: memory that holds a table, after a piece was put into the queue and what rests too long left, holds the table after that.
use Rattle.std.proofs.Common.{◌≡◌, ℕ, ◌+◌, ◌*◌, ◌%◌, ◌^◌, ◌<◌, ◌≤◌, true, false, cond, eqb, ltb, ◌⊎◌, List, [], ◌∷◌, ◌++◌, length, get_or, take, drop, is_some, Some, None, fold, Option, unwrap_or, sym, refl, ap, ◌∙◌, subst, ap₂, inl, inr, arith, length-append}
use Rattle.std.specs.List.{ContainsAt as Has}
use Rattle.std.proofs.lemmas.List.{take_all, drop_all, take-append-le, drop-append-le}
use Rattle.std.proofs.ByRecursion.{has_push}
use Rattle.std.proofs.lemmas.Bool.{cases_eq, cases_lt, eq-eqb, ne_eqb, lt-ltb, le-ltb, and_from, cond-true, cond-false}
use Rattle.grounds.specs.Numbers.{page, grain, most_classes, most_rests, most_pages}
use Rattle.grounds.specs.Blocks.{Limits, ground_size}
use Rattle.grounds.specs.Worlds.{rising}
use Rattle.ring.specs.declared.Ring.{Ring}
use Rattle.ring.specs.Ring.{held, newest_of, count_of, pushed, popped, oldest, Pushed, Popped, Left}
use Rattle.ring.proofs.Places.{before_near}
use Rattle.ring.proofs.Held.{held_long}
use Rattle.ring.proofs.Push.{is_pushed}
use Rattle.ring.proofs.Pop.{is_left}
use Rattle.layout.specs.declared.layout.Layout.{Layout}
use Rattle.layout.specs.Layout.{page_at, queue_in, index_in, queue_at}
use Rattle.table.specs.Table.{Table, queued, released, free_unit}
use Rattle.book.specs.declared.plan.Plan.{Plan}
use Rattle.book.specs.Spots.{spot_at, is_spot}
use Rattle.book.specs.Changes.{freed, freed_at, rested_in}
use Rattle.holds.specs.Holds.{layout_for, in_set, Parts, Sets, Holds}
use Rattle.holds.proofs.Frames.{parts_by_queue, sets_by_queue}
use Rattle.holds.proofs.Freed.{Leaving, freed_holds}
use Rattle.holds.proofs.Pieces.{spot_back}

-- ---- what becomes of the table: of k that may rest, the last ones leave

abbrev pub after_rest : Table → ℕ → List ℕ → ℕ → Table
after_rest t a q k = fold released (queued t (take k (a ∷ q))) (drop k (a ∷ q))

empty_list : (q : List ℕ) → length q ≤ 0 → q ≡ []
empty_list [] none = refl
empty_list (v ∷ q) none = absurd (omega arith)

after_none : (t : Table) (a : ℕ) (q : List ℕ) → length q ≤ 0 → after_rest t a q 0 ≡ released (queued t []) a
after_none t a [] none = refl
after_none t a (v ∷ q) none = absurd (omega arith)

after_room : (t : Table) (a : ℕ) (q : List ℕ) (k : ℕ) → length q < k → after_rest t a q k ≡ queued t (a ∷ q)
after_room t a q k room = rw (take_all k (a ∷ q) (omega arith), drop_all k (a ∷ q) (omega arith))

after_full : (t : Table) (a : ℕ) (q : List ℕ) (v k : ℕ) → length q + 1 ≡ k → after_rest t a (q ++ (v ∷ [])) k ≡ released (queued t (a ∷ q)) v
after_full t a q v k full =
    let kept : take k ((a ∷ q) ++ (v ∷ [])) ≡ a ∷ q = take-append-le k (a ∷ q) (v ∷ []) (omega arith) ∙ take_all k (a ∷ q) (omega arith) in
    let gone : drop k ((a ∷ q) ++ (v ∷ [])) ≡ v ∷ []
    = drop-append-le k (a ∷ q) (v ∷ []) (omega arith) ∙ ap (λ (y : List ℕ). y ++ (v ∷ [])) (drop_all k (a ∷ q) (omega arith)) in
    ap₂ (λ (y z : List ℕ). fold released (queued t y) z) kept gone

same_queue : (l : Limits) (t : Table) (m : List ℕ) → Holds l t m → Holds l (queued t t.queue) m
same_queue l t m h = h

module _ (l : Limits) (few : length l.classes ≤ most_classes) (few_rest : l.rests ≤ most_rests) where
  abbrev pub r : Ring
  r = queue_in (layout_for l)

  -- ---- one more in the queue, and one less

  module _ (t : Table) (m : List ℕ) (h : Holds l t m) where
    -- a change of the queue's words alone
    requeued : (n : List ℕ) (q : List ℕ) → held r n ≡ q → Parts l (queued t (held r n)) n → Sets l (in_set l t) n → Holds l (queued t q) n
    unfolding free_unit
    requeued n q is parts sets = record { parts = subst (λ (x : List ℕ). Parts l (queued t x) n) is parts; in_sets = sets }

    pub pushed_holds : (v : ℕ) → v < 2 ^ 64 → count_of r m < 2 * l.rests → Holds l (queued t (v ∷ t.queue)) (pushed r m v)
    pushed_holds v small free = requeued n (v ∷ t.queue) (p.holds ∙ ap (λ (q : List ℕ). v ∷ q) h.parts.queue) (parts_by_queue l t m few h.parts n p.sound p.long same) (sets_by_queue l t m few h.parts n p.sound p.long same (in_set l t) h.in_sets)
      where
        n : List ℕ
        n = pushed r m v

        p : Pushed r v m (pushed r m v)
        p = is_pushed r m h.parts.queue_sound v free refl small (omega arith)

        same : (a : ℕ) → (a ≡ queue_at → ⊥) → (a ≡ queue_at + 1 → ⊥) → (a < page_at l.pages) ⊎ ((index_in (layout_for l)).low ≤ a) → get_or (pushed r m v) a 0 ≡ get_or m a 0
        same a x y (inl low) = p.outside a x y (λ e. omega arith)
        same a x y (inr high) = p.outside a x y (λ e. omega (arith, before_near r.«cap» (newest_of r m) (h.parts.queue_sound.near (omega arith))))

    pub popped_holds : (v : ℕ) → Popped r m (popped r m) v → Holds l (queued t (held r (popped r m))) (popped r m)
    popped_holds v p = requeued n (held r n) refl (parts_by_queue l t m few h.parts n p.sound p.long same) (sets_by_queue l t m few h.parts n p.sound p.long same (in_set l t) h.in_sets)
      where
        n : List ℕ
        n = popped r m

        same : (a : ℕ) → (a ≡ queue_at → ⊥) → (a ≡ queue_at + 1 → ⊥) → (a < page_at l.pages) ⊎ ((index_in (layout_for l)).low ≤ a) → get_or (popped r m) a 0 ≡ get_or m a 0
        same a x y place = p.outside a y

  -- ---- a place in the queue, of a piece that is there and small

  pub record RestsAt (t : Table) (v : ℕ) : Type 0 where
    pub grained : v % grain ≡ 0
    pub inside : v < ground_size l
    pub leaving : Leaving l t (spot_at v)

  module _ (x : Plan) (layout : x.layout ≡ layout_for l) (classes : x.classes ≡ length l.classes) (rise : rising 0 l.classes ≡ true)
      (few_pages : l.pages ≤ most_pages) where
    pub freed_there : (t : Table) (m : List ℕ) → Holds l t m → (v : ℕ) → RestsAt t v → Holds l (released t v) (freed_at x m v)
    unfolding freed_at
    freed_there t m h v rests =
        let spot : is_spot x v ≡ true = rw layout (and_from (ltb v (l.pages * page)) (eqb (v % grain) 0) (lt-ltb v (l.pages * page) rests.inside) (eq-eqb (v % grain) 0 rests.grained)) in
        let back = spot_back v rests.grained in
        rw spot
        (subst (λ (a : ℕ). Holds l (released t a) (freed x m (spot_at v))) back
        (freed_holds l t (spot_at v) rests.leaving m h.parts few rise h.in_sets x layout classes))

    -- what memory becomes, in each case

    module _ (m : List ℕ) (a : ℕ) where
      rests_none : l.rests ≡ 0 → rested_in x m a ≡ freed_at x m a
      unfolding rested_in
      rests_none none = cond-true _ _ _ (ap (λ (y : Layout). eqb y.rests 0) layout ∙ eq-eqb l.rests 0 none)

      some_rest : (l.rests ≡ 0 → ⊥) → eqb x.layout.rests 0 ≡ false
      some_rest some = ap (λ (y : Layout). eqb y.rests 0) layout ∙ ne_eqb l.rests 0 some

      rests_room : (l.rests ≡ 0 → ⊥) → count_of r m < l.rests → rested_in x m a ≡ pushed r m a
      unfolding rested_in
      rests_room some room =
          cond-false _ _ _ (some_rest some)
          ∙ cond-true _ _ _ (ap (λ (y : Layout). ltb (count_of r m) y.rests) layout ∙ lt-ltb (count_of r m) l.rests room)
          ∙ ap (λ (y : Layout). pushed (queue_in y) m a) layout

      rests_full : (l.rests ≡ 0 → ⊥) → l.rests ≤ count_of r m → (v : ℕ) → oldest r m ≡ Some v → rested_in x m a ≡ freed_at x (pushed r (popped r m) a) v
      unfolding rested_in
      rests_full some full v is =
          cond-false _ _ _ (some_rest some)
          ∙ cond-false _ _ _ (ap (λ (y : Layout). ltb (count_of r m) y.rests) layout ∙ le-ltb (count_of r m) l.rests full)
          ∙ ap (λ (y : Layout). cond (is_some (oldest (queue_in y) m)) (freed_at x (pushed (queue_in y) (popped (queue_in y) m) a) (unwrap_or (oldest (queue_in y) m) 0)) (pushed (queue_in y) m a)) layout
          ∙ ap (λ (o : Option ℕ). cond (is_some o) (freed_at x (pushed r (popped r m) a) (unwrap_or o 0)) (pushed r m a)) is

    -- ---- a piece that is given back rests, and the oldest of too many leaves

    requeued_rests : (t : Table) (q : List ℕ) (v : ℕ) → RestsAt t v → RestsAt (queued t q) v
    requeued_rests t q v rests =
        let leaves = rests.leaving in
        record {
          grained = rests.grained;
          inside = rests.inside;
          leaving =
              record {
                page_in = leaves.page_in;
                unit_in = leaves.unit_in;
                used = leaves.used;
                of_class = leaves.of_class;
                some = leaves.some;
                fits_there = leaves.fits_there;
                once = leaves.once;
              };
        }

    module _ (t : Table) (m : List ℕ) (h : Holds l t m) (a : ℕ) (rests : RestsAt t a) (others : (v : ℕ) → Has t.queue v → RestsAt t v)
        (short : length t.queue ≤ l.rests) where
      count : count_of r m ≡ length t.queue
      count = sym (held_long r m) ∙ ap length h.parts.queue

      a_small : a < 2 ^ 64
      a_small = omega (arith, rests.inside)

      none_rest : l.rests ≡ 0 → Holds l (after_rest t a t.queue l.rests) (rested_in x m a)
      none_rest none =
          let empty : t.queue ≡ [] = empty_list t.queue (omega arith) in
          let there = freed_there (queued t []) m (subst (λ (q : List ℕ). Holds l (queued t q) m) empty (same_queue l t m h)) a (requeued_rests t [] a rests) in
          subst (λ (n : List ℕ). Holds l (after_rest t a t.queue l.rests) n) (sym (rests_none m a none))
          (subst (λ (y : Table). Holds l y (freed_at x m a)) (sym (ap (after_rest t a t.queue) none ∙ after_none t a t.queue (omega arith))) there)

      room_rest : (l.rests ≡ 0 → ⊥) → count_of r m < l.rests → Holds l (after_rest t a t.queue l.rests) (rested_in x m a)
      room_rest some room =
          let there = pushed_holds t m h a a_small (omega arith) in
          subst (λ (n : List ℕ). Holds l (after_rest t a t.queue l.rests) n) (sym (rests_room m a some room))
          (subst (λ (y : Table). Holds l y (pushed r m a)) (sym (after_room t a t.queue l.rests (omega (arith, count)))) there)

      full_rest : (l.rests ≡ 0 → ⊥) → l.rests ≤ count_of r m → (v : ℕ) → oldest r m ≡ Some v → Popped r m (popped r m) v →
          Holds l (after_rest t a t.queue l.rests) (rested_in x m a)
      full_rest some full v is p =
          let q = held r (popped r m) in
          let all : t.queue ≡ q ++ (v ∷ []) = sym h.parts.queue ∙ p.holds in
          let long : length q + 1 ≡ l.rests = omega (arith, ap length all, length-append q (v ∷ []), count) in
          let less = popped_holds t m h v p in
          let more = pushed_holds (queued t q) (popped r m) less a a_small (omega (arith, held_long r (popped r m), long)) in
          let has : Has t.queue v = subst (λ (y : List ℕ). Has y v) (sym all) (has_push q v) in
          let there = freed_there (queued t (a ∷ q)) (pushed r (popped r m) a) more v (requeued_rests t (a ∷ q) v (others v has)) in
          subst (λ (n : List ℕ). Holds l (after_rest t a t.queue l.rests) n) (sym (rests_full m a some full v is))
          (subst (λ (y : Table). Holds l y (freed_at x (pushed r (popped r m) a) v))
          (sym (ap (λ (y : List ℕ). after_rest t a y l.rests) all ∙ after_full t a q v l.rests long)) there)

      pub rested_holds : Holds l (after_rest t a t.queue l.rests) (rested_in x m a)
      rested_holds = go (cases_eq l.rests 0) (cases_lt (count_of r m) l.rests)
        where
          by_oldest : (l.rests ≡ 0 → ⊥) → l.rests ≤ count_of r m → (o : Option ℕ) → oldest r m ≡ o → Left r m (popped r m) o →
              Holds l (after_rest t a t.queue l.rests) (rested_in x m a)
          by_oldest some full (Some v) is left = full_rest some full v is left
          by_oldest some full None is left = absurd (omega (arith, held_long r m, ap length left.0))

          go : (l.rests ≡ 0) ⊎ (l.rests ≡ 0 → ⊥) → (count_of r m < l.rests) ⊎ (l.rests ≤ count_of r m) →
              Holds l (after_rest t a t.queue l.rests) (rested_in x m a)
          go (inl none) place = none_rest none
          go (inr some) (inl room) = room_rest some room
          go (inr some) (inr full) = by_oldest some full (oldest r m) refl (is_left r m h.parts.queue_sound refl refl)
