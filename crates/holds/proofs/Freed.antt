-- A piece less: memory that holds a table, after a small piece left its page, holds the table without that piece.
use Rattle.std.proofs.Common.{◌≡◌, ℕ, ◌+◌, ◌-◌, ◌*◌, ◌/◌, ◌%◌, ◌<◌, ◌≤◌, Bool, true, false, cond, not, ◌&&◌, ◌||◌, eqb, leb, ◌⊎◌, List, length, get_or, sym, refl, ap, ◌∙◌, inl, inr, arith}
use Rattle.std.specs.List.{ContainsAt as Has}
use Rattle.std.proofs.lemmas.Bool.{cases_eq, cases_lt, cases_Bool, eq-eqb, ne_eqb, and_parts, and_from, lt-ltb, leb-true}
use Rattle.std.proofs.lemmas.Bool.Decides.{nat_tests}
use Rattle.grounds.specs.Numbers.{page, grain, most_classes}
use Rattle.grounds.specs.Blocks.{Limits}
use Rattle.grounds.specs.Worlds.{rising}
use Rattle.grounds.proofs.First.{first_cong, first_low}
use Rattle.index.specs.declared.Index.{Index}
use Rattle.index.specs.Index.{sets, inserted, removed}
use Rattle.index.proofs.Change.{is_inserted, is_removed}
use Rattle.units.specs.Units.{units}
use Rattle.units.proofs.Elsewhere.{elsewhere}
use Rattle.layout.specs.declared.field.Field.TheVariants.{Kind, Head, Used, Class}
use Rattle.layout.specs.Layout.{page_stride, page_at, groups, index_in, field_at, taken_at, spoilt_at, asked_at}
use Rattle.table.specs.Table.{Table, touches, known, released, one_if, fits, unit_place, free_unit}
use Rattle.book.specs.declared.plan.Plan.{Plan}
use Rattle.layout.specs.declared.spot.Spot.{Spot}
use Rattle.book.specs.Spots.{place_of_spot, used_in, class_at}
use Rattle.book.specs.Changes.{emptied, unshelved, freed}
use Rattle.holds.specs.Holds.{layout_for, Page, in_set, Parts, Sets, Holds}
use Rattle.holds.proofs.Frames.{SamePage, OutsidePage, parts_by_page, sets_by_page, sets_are, but_for, but_here, but_there, put_in, taken_out}
use Rattle.holds.proofs.Rising.{class_once}
use Rattle.holds.proofs.Belongs.{belongs_same, belongs_own, belongs_other, belongs_none}
use Rattle.holds.proofs.Pages.{emptied_outside, emptied_word, emptied_used, emptied_bits}

-- a small piece begins at s, and no other does
pub record Leaving (l : Limits) (t : Table) (s : Spot) : Type 0 where
  pub page_in : s.page < l.pages
  pub unit_in : s.unit < units
  pub used : 0 < t.used s.page
  pub of_class : Has l.classes (t.kind s.page)
  pub some : 0 < t.kind s.page
  pub fits_there : fits (t.kind s.page) s.unit ≡ true
  pub once : t.taken (place_of_spot s) ≡ 1

module _ (l : Limits) (t : Table) (s : Spot) (leaving : Leaving l t s) where
  abbrev p : ℕ
  p = s.page

  abbrev a : ℕ
  a = place_of_spot s

  abbrev after : Table
  after = released t a

  within : grain * s.unit + t.kind p ≤ page
  within =
      leb-true (grain * s.unit + t.kind p) page (and_parts (eqb ((grain * s.unit) % t.kind p) 0) (leb (grain * s.unit + t.kind p) page) leaving.fits_there).1

  own_page : a / page ≡ p
  own_page = omega (arith, leaving.unit_in)

  kind_is : (known t a).room ≡ t.kind p
  kind_is = ap t.kind own_page

  -- a small piece touches its own page and no other
  touch_own : touches p (known t a) ≡ true
  touch_own = let w = within in let k = kind_is in let some = leaving.some in grind (arith, nat_tests)

  touch_other : (q : ℕ) → (q ≡ p → ⊥) → touches q (known t a) ≡ false
  touch_other q other = go (cases_lt q p)
    where
      go : (q < p) ⊎ (p ≤ q) → touches q (known t a) ≡ false
      go (inl below) = let w = within in let far : q * page + page ≤ a = omega arith in grind (arith, nat_tests)
      go (inr above) = let w = within in let far : a + (known t a).room ≤ q * page = omega (arith, kind_is) in grind (arith, nat_tests)

  others_same : (q : ℕ) → (q ≡ p → ⊥) → SamePage t after q
  others_same q other =
      record {
        used = rw (touch_other q other) (omega arith);
        kind = refl;
        head = refl;
        asked = λ u near. refl;
        spoilt = λ u near. refl;
        taken = λ u near. rw (ne_eqb a (unit_place q u) (λ e. omega (arith, leaving.unit_in))) (omega arith);
      }

  used_after : after.used p ≡ t.used p - 1
  used_after = rw touch_own

  -- ---- the words of the page

  module _ (m : List ℕ) (h : Parts l t m) (few_classes : length l.classes ≤ most_classes) where
    abbrev here : Page l t m p
    here = h.pages p leaving.page_in

    abbrev gone : List ℕ
    gone = emptied m s

    inside : page_at p + page_stride ≤ length m
    inside = omega (arith, h.long, leaving.page_in)

    outside : OutsidePage p m gone
    outside = emptied_outside m s h.fits_words leaving.unit_in inside

    kept : (x : ℕ) → (x ≡ field_at p Used → ⊥) × ((x < taken_at p) ⊎ (spoilt_at p ≤ x)) → get_or gone x 0 ≡ get_or m x 0
    kept = emptied_word m s h.fits_words leaving.unit_in inside

    class_same : get_or gone (field_at p Class) 0 ≡ get_or m (field_at p Class) 0
    class_same = kept (field_at p Class) ((λ e. omega arith), inl (omega arith))

    small : Has l.classes (t.kind p)
    small = leaving.of_class

    taken_now : (u : ℕ) → u < units →
        (not (eqb u s.unit) && (not (fits (t.kind p) u) || not (eqb (t.taken (unit_place p u)) 0)))
        ≡ (not (fits (t.kind p) u) || not (eqb (t.taken (unit_place p u) - one_if (eqb a (unit_place p u))) 0))
    taken_now u near = go (cases_eq u s.unit)
      where
        go : (u ≡ s.unit) ⊎ (u ≡ s.unit → ⊥) →
            (not (eqb u s.unit) && (not (fits (t.kind p) u) || not (eqb (t.taken (unit_place p u)) 0)))
            ≡ (not (fits (t.kind p) u) || not (eqb (t.taken (unit_place p u) - one_if (eqb a (unit_place p u))) 0))
        go (inl e) = rw (e, eq-eqb s.unit s.unit refl, eq-eqb a a refl, leaving.once, leaving.fits_there)
        go (inr other) =
            rw (ne_eqb u s.unit other, ne_eqb a (unit_place p u) (λ e. other (omega arith)))
            (ap (λ (x : ℕ). not (fits (t.kind p) u) || not (eqb x 0)) (less (t.taken (unit_place p u))))
          where
            less : (x : ℕ) → x ≡ x - 0
            less x = omega arith

    page_now : Page l after gone p
    page_now =
        record {
          used = emptied_used m s h.fits_words leaving.unit_in inside ∙ ap (λ (k : ℕ). k - 1) here.used ∙ sym used_after;
          asked = λ u near. kept (asked_at p u) ((λ e. omega arith), inr (omega arith)) ∙ here.asked u near;
          spoilt = λ u near. elsewhere m gone (spoilt_at p) (λ x low high. kept x ((λ e. omega arith), inr low)) u near ∙ here.spoilt u near;
          kind = λ some. kept (field_at p Kind) ((λ e. omega arith), inl (omega arith)) ∙ here.kind leaving.used;
          head = λ some. kept (field_at p Head) ((λ e. omega arith), inl (omega arith)) ∙ here.head leaving.used;
          few = λ some low. rw class_same (here.few leaving.used small);
          class = λ some low. rw class_same (here.class leaving.used small);
          taken = λ some low u near.
              emptied_bits m s h.fits_words leaving.unit_in inside u near
              ∙ ap (λ (x : Bool). not (eqb u s.unit) && x) (here.taken leaving.used small u near)
              ∙ taken_now u near;
        }

    parts_after : Parts l after gone
    parts_after = parts_by_page l t m few_classes h gone p leaving.page_in outside after page_now (λ q near other. others_same q other) refl

    -- ---- which sets it belongs into

    abbrev k : ℕ
    k = class_at m p

    same_unit : (q c : ℕ) → (q ≡ p → ⊥) → free_unit after c q ≡ free_unit t c q
    unfolding free_unit
    same_unit q c other =
        first_cong (λ u. fits c u && eqb (after.taken (unit_place q u)) 0) (λ u. fits c u && eqb (t.taken (unit_place q u)) 0) units
        (λ u near. ap (λ (x : ℕ). fits c u && eqb x 0) ((others_same q other).taken u near))

    other_set : (j q : ℕ) → (q ≡ p → ⊥) → in_set l after j q ≡ in_set l t j q
    other_set j q other = belongs_same l j (others_same q other).used refl (same_unit q (t.kind q) other)

    free_now : free_unit after (t.kind p) p < units
    unfolding free_unit
    free_now =
        let here_free : (fits (t.kind p) s.unit && eqb (after.taken (unit_place p s.unit)) 0) ≡ true
        = and_from (fits (t.kind p) s.unit) (eqb (after.taken a) 0) leaving.fits_there (rw (eq-eqb a a refl, leaving.once)) in
        omega (arith, leaving.unit_in, first_low (λ u. fits (t.kind p) u && eqb (after.taken (unit_place p u)) 0) units s.unit here_free)

    few_k : k < length l.classes
    few_k = here.few leaving.used small

    class_k : t.kind p ≡ get_or l.classes k 0
    class_k = sym (here.class leaving.used small)

    -- ---- the sets, once the index tells them

    abbrev last : Bool
    last = eqb (used_in m p) 1

    -- where it was the last piece there, the page is in the set of those that nothing touches; else in the set of its class
    abbrev wanted : ℕ → ℕ → Bool
    wanted j q = cond (eqb q p) (eqb j (cond last most_classes k)) (in_set l t j q)

    module _ (rise : rising 0 l.classes ≡ true) where
      not_of_class : (j : ℕ) → (j ≡ k → ⊥) → j < length l.classes → t.kind p ≡ get_or l.classes j 0 → ⊥
      not_of_class j other near same = other (class_once 0 l.classes j k rise near few_k (sym same ∙ class_k))

      before_other : (j : ℕ) → (j ≡ k → ⊥) → in_set l t j p ≡ false
      before_other j other = belongs_other l j (t.used p) (t.kind p) (free_unit t (t.kind p) p) leaving.used (not_of_class j other)

      now_at : (j : ℕ) → j < sets → in_set l after j p ≡ eqb j (cond last most_classes k)
      now_at j near = go (cases_eq (t.used p) 1)
        where
          x : ℕ
          x = free_unit after (t.kind p) p

          go : (t.used p ≡ 1) ⊎ (t.used p ≡ 1 → ⊥) → in_set l after j p ≡ eqb j (cond last most_classes k)
          go (inl one) =
              rw (here.used, eq-eqb (t.used p) 1 one) (empty (cases_eq j most_classes))
            where
              none : after.used p ≡ 0
              none = omega (arith, used_after)

              empty : (j ≡ most_classes) ⊎ (j ≡ most_classes → ⊥) → in_set l after j p ≡ eqb j most_classes
              empty (inl e) = rw (e, used_after, one)
              empty (inr e) = belongs_none l j (after.used p) (t.kind p) x none (omega arith) ∙ sym (ne_eqb j most_classes e)
          go (inr more) =
              rw (here.used, ne_eqb (t.used p) 1 more) (still (cases_eq j k))
            where
              some : 0 < after.used p
              some = omega (arith, used_after, leaving.used)

              still : (j ≡ k) ⊎ (j ≡ k → ⊥) → in_set l after j p ≡ eqb j k
              still (inl e) =
                  rw e (belongs_own l k (after.used p) (t.kind p) x some class_k few_k few_classes ∙ lt-ltb x units free_now ∙ sym (eq-eqb k k refl))
              still (inr e) = belongs_other l j (after.used p) (t.kind p) x some (not_of_class j e) ∙ sym (ne_eqb j k e)

      wanted_right : (j q : ℕ) → j < sets → wanted j q ≡ in_set l after j q
      wanted_right j q near = go (cases_eq q p)
        where
          go : (q ≡ p) ⊎ (q ≡ p → ⊥) → wanted j q ≡ in_set l after j q
          go (inl e) = rw (e, eq-eqb p p refl) (sym (now_at j near))
          go (inr other) = rw (ne_eqb q p other) (sym (other_set j q other))

      wanted_last : last ≡ true → (j q : ℕ) → but_for (but_for (in_set l t) k p false) most_classes p true j q ≡ wanted j q
      wanted_last so j q = go (cases_eq q p) (cases_eq j most_classes) (cases_eq j k)
        where
          f : ℕ → ℕ → Bool
          f = but_for (in_set l t) k p false

          go : (q ≡ p) ⊎ (q ≡ p → ⊥) → (j ≡ most_classes) ⊎ (j ≡ most_classes → ⊥) → (j ≡ k) ⊎ (j ≡ k → ⊥) →
              but_for f most_classes p true j q ≡ wanted j q
          go (inr other) h d =
              but_there f most_classes p true j q (λ both. other both.1)
              ∙ but_there (in_set l t) k p false j q (λ both. other both.1)
              ∙ sym (rw (ne_eqb q p other))
          go (inl e) (inl h) d = but_here f most_classes p true j q h e ∙ sym (rw (eq-eqb q p e, so, eq-eqb j most_classes h))
          go (inl e) (inr h) (inl d) =
              but_there f most_classes p true j q (λ both. h both.0)
              ∙ but_here (in_set l t) k p false j q d e
              ∙ sym (rw (eq-eqb q p e, so, ne_eqb j most_classes h))
          go (inl e) (inr h) (inr d) =
              but_there f most_classes p true j q (λ both. h both.0)
              ∙ but_there (in_set l t) k p false j q (λ both. d both.0)
              ∙ ap (in_set l t j) e
              ∙ before_other j d
              ∙ sym (rw (eq-eqb q p e, so, ne_eqb j most_classes h))

      wanted_more : last ≡ false → (j q : ℕ) → but_for (in_set l t) k p true j q ≡ wanted j q
      wanted_more so j q = go (cases_eq q p) (cases_eq j k)
        where
          go : (q ≡ p) ⊎ (q ≡ p → ⊥) → (j ≡ k) ⊎ (j ≡ k → ⊥) → but_for (in_set l t) k p true j q ≡ wanted j q
          go (inr other) d = but_there (in_set l t) k p true j q (λ both. other both.1) ∙ sym (rw (ne_eqb q p other))
          go (inl e) (inl d) = but_here (in_set l t) k p true j q d e ∙ sym (rw (eq-eqb q p e, so, eq-eqb j k d))
          go (inl e) (inr d) =
              but_there (in_set l t) k p true j q (λ both. d both.0)
              ∙ ap (in_set l t j) e
              ∙ before_other j d
              ∙ sym (rw (eq-eqb q p e, so, ne_eqb j k d))

      -- ---- out of the set of its class and into the last, or into the set of its class

      module _ (known_sets : Sets l (in_set l t) m) where
        abbrev ix : Index
        ix = index_in (layout_for l)

        near_p : p < 64 * groups l.pages
        near_p = omega (arith, leaving.page_in)

        k_small : k < sets
        k_small = omega (arith, few_k)

        sets_first : Sets l (in_set l t) gone
        sets_first = sets_by_page l t m few_classes h gone p leaving.page_in outside (in_set l t) known_sets

        into : (r : List ℕ) (f : ℕ → ℕ → Bool) (j : ℕ) → j < sets → Parts l after r → Sets l f r → ((i q : ℕ) → but_for f j p true i q ≡ wanted i q) →
            Holds l after (inserted ix r j p)
        into r f j small_j parts s so =
            let both = put_in l after r few_classes parts j p small_j leaving.page_in (inserted ix r j p)
            (is_inserted ix (groups l.pages) r parts.index_sound j p small_j near_p) in
            record {
              parts = both.0;
              in_sets =
                  sets_are l (but_for f j p true) (in_set l after) (inserted ix r j p) (both.1 f s)
                  (λ i q near within. so i q ∙ wanted_right i q near);
            }

        left_class : Parts l after (removed ix gone k p) × ((f : ℕ → ℕ → Bool) → Sets l f gone → Sets l (but_for f k p false) (removed ix gone k p))
        left_class =
            taken_out l after gone few_classes parts_after k p k_small leaving.page_in (removed ix gone k p)
            (is_removed ix (groups l.pages) gone parts_after.index_sound k p k_small near_p)

        unshelved_holds : Holds l after (unshelved ix gone k p last)
        unfolding unshelved
        unshelved_holds = go (cases_Bool last)
          where
            go : (last ≡ true) ⊎ (last ≡ false) → Holds l after (unshelved ix gone k p last)
            go (inl so) =
                rw so
                (into (removed ix gone k p) (but_for (in_set l t) k p false) most_classes (omega arith) left_class.0 (left_class.1 (in_set l t) sets_first)
                (wanted_last so))
            go (inr so) = rw so (into gone (in_set l t) k k_small parts_after sets_first (wanted_more so))

        pub freed_holds : (x : Plan) → x.layout ≡ layout_for l → x.classes ≡ length l.classes → Holds l after (freed x m s)
        unfolding freed
        freed_holds x layout count =
            rw (layout, count, here.used, lt-ltb 0 (t.used p) leaving.used, lt-ltb k (length l.classes) few_k) (rw here.used at unshelved_holds)
