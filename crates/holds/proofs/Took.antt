-- A piece more: memory that holds a table, after a piece was put at a free unit of a page of its class, holds the table with that piece.
use Rattle.std.proofs.Common.{◌≡◌, ℕ, ◌+◌, ◌*◌, ◌%◌, ◌^◌, ◌<◌, ◌≤◌, Bool, true, false, cond, not, ◌&&◌, ◌||◌, eqb, ltb, leb, ◌⊎◌, List, length, get_or, sym, refl, ap, ◌∙◌, subst, inl, inr, zero-add, arith}
use Rattle.std.specs.List.{ContainsAt as Has}
use Rattle.std.proofs.ByRecursion.{has_get_or}
use Rattle.std.proofs.lemmas.Bool.{cases_eq, cases_lt, cases_Bool, eq-eqb, ne_eqb, and_parts, and_from, lt-ltb, leb-true}
use Rattle.std.proofs.lemmas.Bool.Decides.{nat_tests}
use Rattle.grounds.specs.declared.block.Block.{Block}
use Rattle.grounds.specs.Numbers.{page, grain, most_classes}
use Rattle.grounds.specs.Blocks.{Limits}
use Rattle.grounds.specs.Worlds.{rising}
use Rattle.index.specs.declared.Index.{Index}
use Rattle.index.specs.Index.{sets, inserted, removed}
use Rattle.index.proofs.Change.{is_inserted, is_removed}
use Rattle.units.specs.Units.{units, unit_bit, first_free, full}
use Rattle.units.proofs.Elsewhere.{elsewhere}
use Rattle.layout.specs.declared.field.Field.TheVariants.{Kind, Head, Used, Class}
use Rattle.layout.specs.Layout.{page_stride, page_at, groups, index_in, field_at, taken_at, spoilt_at, asked_at}
use Rattle.table.specs.Table.{Table, touches, placed, one_if, fits, unit_place, free_unit}
use Rattle.book.specs.declared.class.Class.{Class as ClassOf}
use Rattle.layout.specs.declared.spot.Spot.{Spot}
use Rattle.book.specs.Spots.{place_of_spot, used_in}
use Rattle.book.specs.Changes.{painted, filled, shelved}
use Rattle.holds.specs.Holds.{layout_for, Page, in_set, Parts, Sets, Holds}
use Rattle.grounds.proofs.First.{first_le, first_cong, first_low}
use Rattle.holds.proofs.Frames.{SamePage, OutsidePage, parts_by_page, sets_by_page, sets_are, but_for, but_here, but_there, put_in, taken_out}
use Rattle.holds.proofs.Rising.{class_once}
use Rattle.holds.proofs.Belongs.{belongs_same, belongs_own, belongs_other, belongs_none}
use Rattle.holds.proofs.Pages.{page_none, page_then, filled_outside, filled_word, filled_used, filled_bits, painted_outside, painted_word, painted_kind, painted_head, painted_class, painted_bits}

twice : (b : Bool) → not (not b) ≡ b
twice true = refl
twice false = refl

module _ (i : Index) (m : List ℕ) (c : ClassOf) (s : Spot) (fresh : Bool) where
  abbrev so_far : List ℕ
  so_far = cond fresh (removed i m most_classes s.page) m

  shelved_full : full m (taken_at s.page) ≡ true → shelved i m c s fresh ≡ removed i so_far c.number s.page
  unfolding shelved
  shelved_full e = rw e

  shelved_open : full m (taken_at s.page) ≡ false → shelved i m c s fresh ≡ cond fresh (inserted i so_far c.number s.page) so_far
  unfolding shelved
  shelved_open e = rw e

-- the piece of n bytes and of the class c that begins at s
abbrev pub piece_at : ClassOf → Spot → ℕ → Block
piece_at c s n = record { at = place_of_spot s; size = n; room = c.room }

-- a spot where a piece of the class c may be put: its page is of that class, or nothing touches it, and none begins there
pub record Ready (l : Limits) (t : Table) (c : ClassOf) (s : Spot) : Type 0 where
  pub page_in : s.page < l.pages
  pub unit_in : s.unit < units
  pub number : c.number < length l.classes
  pub room : get_or l.classes c.number 0 ≡ c.room
  pub some : 0 < c.room
  pub fits_there : fits c.room s.unit ≡ true
  pub free : t.taken (place_of_spot s) ≡ 0
  pub few : t.used s.page < units
  pub of_class : 0 < t.used s.page → t.kind s.page ≡ c.room
  pub own : 0 < t.used s.page → t.head s.page ≡ s.page
  pub none : t.used s.page ≡ 0 → (u : ℕ) → u < units → t.taken (unit_place s.page u) ≡ 0

module _ (l : Limits) (t : Table) (c : ClassOf) (s : Spot) (ready : Ready l t c s) (n : ℕ) where
  within : grain * s.unit + c.room ≤ page
  within =
      leb-true (grain * s.unit + c.room) page (and_parts (eqb ((grain * s.unit) % c.room) 0) (leb (grain * s.unit + c.room) page) ready.fits_there).1

  has_class : Has l.classes c.room
  has_class = subst (Has l.classes) ready.room (has_get_or l.classes c.number 0 ready.number)

  -- a small piece touches its own page and no other
  pub touch_own : touches s.page (piece_at c s n) ≡ true
  touch_own = let w = within in let some = ready.some in grind (arith, nat_tests)

  pub touch_other : (q : ℕ) → (q ≡ s.page → ⊥) → touches q (piece_at c s n) ≡ false
  touch_other q other = go (cases_lt q s.page)
    where
      go : (q < s.page) ⊎ (s.page ≤ q) → touches q (piece_at c s n) ≡ false
      go (inl below) = let w = within in let far : q * page + page ≤ place_of_spot s = omega arith in grind (arith, nat_tests)
      go (inr above) = let w = within in let far : place_of_spot s + c.room ≤ q * page = omega arith in grind (arith, nat_tests)

  pub others_same : (q : ℕ) → (q ≡ s.page → ⊥) → SamePage t (placed t (piece_at c s n)) q
  others_same q other =
      record {
        used = rw (touch_other q other) (zero-add (t.used q));
        kind = rw (touch_other q other);
        head = rw (touch_other q other);
        asked = λ u near. refl;
        spoilt = λ u near. refl;
        taken = λ u near. rw (ne_eqb (place_of_spot s) (unit_place q u) (λ e. omega (arith, ready.unit_in))) (zero-add (t.taken (unit_place q u)));
      }

  -- ---- the words of the page

  -- the page is of the class, whether or not something was on it before: m is memory before, and r after
  record OfIt (m r : List ℕ) : Type 0 where
    outside : OutsidePage s.page m r
    used : get_or r (field_at s.page Used) 0 ≡ t.used s.page
    kind : get_or r (field_at s.page Kind) 0 ≡ c.room
    head : get_or r (field_at s.page Head) 0 ≡ s.page
    few : get_or r (field_at s.page Class) 0 < length l.classes
    class : get_or l.classes (get_or r (field_at s.page Class) 0) 0 ≡ c.room
    behind : (a : ℕ) → spoilt_at s.page ≤ a → a < page_at s.page + page_stride → get_or r a 0 ≡ get_or m a 0
    taken : (u : ℕ) → u < units →
        unit_bit r (taken_at s.page) u ≡ (not (fits c.room u) || not (eqb (t.taken (unit_place s.page u)) 0))

  module _ (m : List ℕ) (h : Parts l t m) (few_classes : length l.classes ≤ most_classes) (few_pages : l.pages ≤ 2 ^ 32) where
    abbrev p : ℕ
    p = s.page

    abbrev here : Page l t m p
    here = h.pages p ready.page_in

    inside : page_at p + page_stride ≤ length m
    inside = omega (arith, h.long, ready.page_in)

    old_page : 0 < t.used p → OfIt m m
    old_page some =
        let kind = ready.of_class some in
        let small : Has l.classes (t.kind p) = subst (Has l.classes) (sym kind) has_class in
        record {
          outside = page_none p m h.fits_words;
          used = here.used;
          kind = here.kind some ∙ kind;
          head = here.head some ∙ ready.own some;
          few = here.few some small;
          class = here.class some small ∙ kind;
          behind = λ a low high. refl;
          taken = λ u near. here.taken some small u near ∙ ap (λ (k : ℕ). not (fits k u) || not (eqb (t.taken (unit_place p u)) 0)) kind;
        }

    fresh_page : t.used p ≡ 0 → OfIt m (painted m c p)
    fresh_page empty =
        let number : c.number < most_classes = omega (arith, ready.number) in
        let room : c.room < 2 ^ 64 = omega (arith, within) in
        let low : p < 2 ^ 64 = omega (arith, ready.page_in) in
        let class = painted_class m c p h.fits_words number room low inside in
        record {
          outside = painted_outside m c p h.fits_words number room low inside;
          used =
              painted_word m c p h.fits_words number room low inside (field_at p Used) (λ e. omega arith) (λ e. omega arith) (λ e. omega arith) (inl (omega arith))
              ∙ here.used;
          kind = painted_kind m c p h.fits_words number room low inside;
          head = painted_head m c p h.fits_words number room low inside;
          few = rw class ready.number;
          class = rw class ready.room;
          behind = λ a from to.
              painted_word m c p h.fits_words number room low inside a (λ e. omega arith) (λ e. omega arith) (λ e. omega arith) (inr from);
          taken = λ u near.
              painted_bits m c p h.fits_words number room low inside u near
              ∙ h.header.templates c.number u ready.number near
              ∙ ap (λ (k : ℕ). not (fits k u)) ready.room
              ∙ sym (none_or (not (fits c.room u)) (t.taken (unit_place p u)) (ready.none empty u near));
        }
      where
        none_or : (b : Bool) (k : ℕ) → k ≡ 0 → (b || not (eqb k 0)) ≡ b
        none_or true k e = refl
        none_or false k e = rw e refl

    module _ (r : List ℕ) (of : OfIt m r) where
      used_small : used_in r p + 1 < 2 ^ 64
      used_small = omega (arith, of.used, ready.few)

      inside_after : page_at p + page_stride ≤ length r
      inside_after = omega (arith, of.outside.long, inside)

      now_outside : OutsidePage p m (filled r s)
      now_outside = page_then p m r (filled r s) of.outside (filled_outside r s of.outside.fits ready.unit_in inside_after used_small)

      kept : (a : ℕ) → (a ≡ field_at p Used → ⊥) × ((a < taken_at p) ⊎ (spoilt_at p ≤ a)) → get_or (filled r s) a 0 ≡ get_or r a 0
      kept = filled_word r s of.outside.fits ready.unit_in inside_after used_small

      class_same : get_or (filled r s) (field_at p Class) 0 ≡ get_or r (field_at p Class) 0
      class_same = kept (field_at p Class) ((λ e. omega arith), inl (omega arith))

      behind_same : (a : ℕ) → spoilt_at p ≤ a → a < page_at p + page_stride → get_or (filled r s) a 0 ≡ get_or m a 0
      behind_same a low high = kept a ((λ e. omega arith), inr low) ∙ of.behind a low high

      abbrev b : Block
      b = piece_at c s n

      taken_now : (u : ℕ) → u < units →
          (eqb u s.unit || (not (fits c.room u) || not (eqb (t.taken (unit_place p u)) 0)))
          ≡ (not (fits c.room u) || not (eqb (one_if (eqb b.at (unit_place p u)) + t.taken (unit_place p u)) 0))
      taken_now u near = go (cases_eq u s.unit)
        where
          go : (u ≡ s.unit) ⊎ (u ≡ s.unit → ⊥) →
              (eqb u s.unit || (not (fits c.room u) || not (eqb (t.taken (unit_place p u)) 0)))
              ≡ (not (fits c.room u) || not (eqb (one_if (eqb b.at (unit_place p u)) + t.taken (unit_place p u)) 0))
          go (inl e) = rw (e, eq-eqb s.unit s.unit refl, eq-eqb b.at b.at refl, ready.free, ready.fits_there)
          go (inr other) = rw (ne_eqb u s.unit other, ne_eqb b.at (unit_place p u) (λ e. other (omega arith)), zero-add (t.taken (unit_place p u)))

      page_now : Page l (placed t b) (filled r s) p
      page_now =
          record {
            used =
                filled_used r s of.outside.fits ready.unit_in inside_after used_small
                ∙ ap (λ (k : ℕ). k + 1) of.used
                ∙ sym (rw touch_own (omega arith));
            asked = λ u near. behind_same (asked_at p u) (omega arith) (omega arith) ∙ here.asked u near;
            spoilt = λ u near.
                elsewhere m (filled r s) (spoilt_at p) (λ a low high. behind_same a low (omega arith)) u near ∙ here.spoilt u near;
            kind = λ some. rw touch_own (kept (field_at p Kind) ((λ e. omega arith), inl (omega arith)) ∙ of.kind);
            head = λ some.
                rw touch_own (kept (field_at p Head) ((λ e. omega arith), inl (omega arith)) ∙ of.head ∙ omega (arith, ready.unit_in));
            few = λ some small. rw class_same of.few;
            class = λ some small. rw (touch_own, class_same) of.class;
            taken = λ some small u near.
                rw touch_own
                (filled_bits r s of.outside.fits ready.unit_in inside_after used_small u near
                ∙ ap (λ (x : Bool). eqb u s.unit || x) (of.taken u near)
                ∙ taken_now u near);
          }

    -- ---- the page as it is now

    abbrev fresh : Bool
    fresh = eqb (used_in m p) 0

    abbrev painted_so : List ℕ
    painted_so = cond fresh (painted m c p) m

    abbrev put_down : List ℕ
    put_down = filled painted_so s

    abbrev after : Table
    after = placed t (piece_at c s n)

    old_fresh : 0 < t.used p → fresh ≡ false
    old_fresh some = ap (λ (x : ℕ). eqb x 0) here.used ∙ ne_eqb (t.used p) 0 (omega arith)

    new_fresh : t.used p ≡ 0 → fresh ≡ true
    new_fresh none = ap (λ (x : ℕ). eqb x 0) here.used ∙ eq-eqb (t.used p) 0 none

    of_it : OfIt m painted_so
    of_it = go (cases_lt 0 (t.used p))
      where
        go : (0 < t.used p) ⊎ (t.used p ≤ 0) → OfIt m painted_so
        go (inl some) = rw (here.used, ne_eqb (t.used p) 0 (omega arith)) (old_page some)
        go (inr none) = let empty : t.used p ≡ 0 = omega arith in rw (here.used, eq-eqb (t.used p) 0 empty) (fresh_page empty)

    page_after : Page l after put_down p
    page_after = page_now painted_so of_it

    parts_after : Parts l after put_down
    parts_after = parts_by_page l t m few_classes h put_down p ready.page_in (now_outside painted_so of_it) after page_after (λ q near other. others_same q other) refl

    -- ---- which sets it belongs into

    same_unit : (q k : ℕ) → (q ≡ p → ⊥) → free_unit after k q ≡ free_unit t k q
    unfolding free_unit
    same_unit q k other =
        first_cong (λ u. fits k u && eqb (after.taken (unit_place q u)) 0) (λ u. fits k u && eqb (t.taken (unit_place q u)) 0) units
        (λ u near. ap (λ (x : ℕ). fits k u && eqb x 0) ((others_same q other).taken u near))

    other_set : (j q : ℕ) → (q ≡ p → ⊥) → in_set l after j q ≡ in_set l t j q
    other_set j q other =
        let same = others_same q other in
        let k : after.kind q ≡ t.kind q = same.kind in
        let u : after.used q ≡ t.used q = same.used in
        let f : free_unit after (after.kind q) q ≡ free_unit t (t.kind q) q = ap (λ (x : ℕ). free_unit after x q) k ∙ same_unit q (t.kind q) other in
        belongs_same l j u k f

    kind_after : after.kind p ≡ c.room
    kind_after = rw touch_own

    used_after : after.used p ≡ 1 + t.used p
    used_after = rw touch_own

    bits_after : (u : ℕ) → u < units → not (unit_bit put_down (taken_at p) u) ≡ (fits c.room u && eqb (after.taken (unit_place p u)) 0)
    bits_after u near =
        turn (fits c.room u) (eqb (after.taken (unit_place p u)) 0)
        (page_after.taken (omega (arith, used_after)) (subst (Has l.classes) (sym kind_after) has_class) u near
        ∙ ap (λ (k : ℕ). not (fits k u) || not (eqb (after.taken (unit_place p u)) 0)) kind_after)
      where
        turn : (a b : Bool) {x : Bool} → x ≡ (not a || not b) → not x ≡ (a && b)
        turn true true e = ap not e
        turn true false e = ap not e
        turn false b e = ap not e

    full_is : full put_down (taken_at p) ≡ not (ltb (free_unit after c.room p) units)
    unfolding full first_free free_unit
    full_is =
        let same = first_cong (λ u. not (unit_bit put_down (taken_at p) u)) (λ u. fits c.room u && eqb (after.taken (unit_place p u)) 0) units bits_after in
        at_end same (first_le (λ u. fits c.room u && eqb (after.taken (unit_place p u)) 0) units)
      where
        at_end : {x y k : ℕ} → x ≡ y → y ≤ k → eqb x k ≡ not (ltb y k)
        at_end {x} {y} {k} e low = rw e (grind (arith, nat_tests))

    -- ---- the sets, once the index tells them

    abbrev is_full : Bool
    is_full = full put_down (taken_at p)

    -- the page is in the set of its class unless it is full, and in no other
    abbrev wanted : ℕ → ℕ → Bool
    wanted j q = cond (eqb q p) (eqb j c.number && not is_full) (in_set l t j q)

    module _ (rise : rising 0 l.classes ≡ true) where
      not_of_class : (j d : ℕ) → (j ≡ c.number → ⊥) → d ≡ c.room → j < length l.classes → d ≡ get_or l.classes j 0 → ⊥
      not_of_class j d other is near same =
          other (class_once 0 l.classes j c.number rise near ready.number (sym same ∙ is ∙ sym ready.room))

      wanted_right : (j q : ℕ) → j < sets → wanted j q ≡ in_set l after j q
      wanted_right j q near = go (cases_eq q p) (cases_eq j c.number)
        where
          go : (q ≡ p) ⊎ (q ≡ p → ⊥) → (j ≡ c.number) ⊎ (j ≡ c.number → ⊥) → wanted j q ≡ in_set l after j q
          go (inr other) k = rw (ne_eqb q p other) (sym (other_set j q other))
          go (inl e) (inl k) =
              rw (e, k, eq-eqb p p refl, eq-eqb c.number c.number refl, full_is)
              (twice (ltb (free_unit after c.room p) units)
              ∙ sym
              (belongs_own l c.number (after.used p) (after.kind p) (free_unit after (after.kind p) p) (omega (arith, used_after)) (kind_after ∙ sym ready.room) ready.number few_classes
              ∙ ap (λ (x : ℕ). ltb (free_unit after x p) units) kind_after))
          go (inl e) (inr k) =
              rw (e, eq-eqb p p refl, ne_eqb j c.number k)
              (sym (belongs_other l j (after.used p) (after.kind p) (free_unit after (after.kind p) p) (omega (arith, used_after)) (not_of_class j (after.kind p) k kind_after)))

      -- what the sets were of this page before
      before_own : 0 < t.used p → in_set l t c.number p ≡ true
      unfolding free_unit
      before_own some =
          belongs_own l c.number (t.used p) (t.kind p) (free_unit t (t.kind p) p) some (ready.of_class some ∙ sym ready.room) ready.number few_classes
          ∙ lt-ltb (free_unit t (t.kind p) p) units
          (omega (
            arith,
            ready.unit_in,
            first_low (λ u. fits (t.kind p) u && eqb (t.taken (unit_place p u)) 0) units s.unit
                (and_from (fits (t.kind p) s.unit) (eqb (t.taken (place_of_spot s)) 0) (ap (λ (k : ℕ). fits k s.unit) (ready.of_class some) ∙ ready.fits_there) (eq-eqb (t.taken (place_of_spot s)) 0 ready.free)),
          ))

      before_other : (j : ℕ) → 0 < t.used p → (j ≡ c.number → ⊥) → in_set l t j p ≡ false
      before_other j some other = belongs_other l j (t.used p) (t.kind p) (free_unit t (t.kind p) p) some (not_of_class j (t.kind p) other (ready.of_class some))

      before_none : (j : ℕ) → t.used p ≡ 0 → (j ≡ most_classes → ⊥) → j < sets → in_set l t j p ≡ false
      before_none j none other near = belongs_none l j (t.used p) (t.kind p) (free_unit t (t.kind p) p) none (omega arith)

      -- ---- a page that nothing touched leaves the last set, and a page goes into the set of its class or out of it

      abbrev ix : Index
      ix = index_in (layout_for l)

      abbrev last : ℕ → ℕ → Bool
      last = but_for (in_set l t) most_classes p false

      wanted_fresh : t.used p ≡ 0 → (b : Bool) → is_full ≡ not b → (j q : ℕ) → j < sets → but_for last c.number p b j q ≡ wanted j q
      wanted_fresh none b so j q near = go (cases_eq q p) (cases_eq j c.number) (cases_eq j most_classes)
        where
          go : (q ≡ p) ⊎ (q ≡ p → ⊥) → (j ≡ c.number) ⊎ (j ≡ c.number → ⊥) → (j ≡ most_classes) ⊎ (j ≡ most_classes → ⊥) →
              but_for last c.number p b j q ≡ wanted j q
          go (inr other) k h =
              but_there last c.number p b j q (λ both. other both.1)
              ∙ but_there (in_set l t) most_classes p false j q (λ both. other both.1)
              ∙ sym (rw (ne_eqb q p other))
          go (inl e) (inl k) h =
              but_here last c.number p b j q k e ∙ sym (rw (eq-eqb q p e, eq-eqb j c.number k, so) (twice b))
          go (inl e) (inr k) (inl h) =
              but_there last c.number p b j q (λ both. k both.0)
              ∙ but_here (in_set l t) most_classes p false j q h e
              ∙ sym (rw (eq-eqb q p e, ne_eqb j c.number k))
          go (inl e) (inr k) (inr h) =
              but_there last c.number p b j q (λ both. k both.0)
              ∙ but_there (in_set l t) most_classes p false j q (λ both. h both.0)
              ∙ ap (in_set l t j) e
              ∙ before_none j none h near
              ∙ sym (rw (eq-eqb q p e, ne_eqb j c.number k))

      wanted_full : 0 < t.used p → is_full ≡ true → (j q : ℕ) → but_for (in_set l t) c.number p false j q ≡ wanted j q
      wanted_full some so j q = go (cases_eq q p) (cases_eq j c.number)
        where
          go : (q ≡ p) ⊎ (q ≡ p → ⊥) → (j ≡ c.number) ⊎ (j ≡ c.number → ⊥) → but_for (in_set l t) c.number p false j q ≡ wanted j q
          go (inr other) k = but_there (in_set l t) c.number p false j q (λ both. other both.1) ∙ sym (rw (ne_eqb q p other))
          go (inl e) (inl k) = but_here (in_set l t) c.number p false j q k e ∙ sym (rw (eq-eqb q p e, eq-eqb j c.number k, so))
          go (inl e) (inr k) =
              but_there (in_set l t) c.number p false j q (λ both. k both.0)
              ∙ ap (in_set l t j) e
              ∙ before_other j some k
              ∙ sym (rw (eq-eqb q p e, ne_eqb j c.number k))

      wanted_same : 0 < t.used p → is_full ≡ false → (j q : ℕ) → in_set l t j q ≡ wanted j q
      wanted_same some so j q = go (cases_eq q p) (cases_eq j c.number)
        where
          go : (q ≡ p) ⊎ (q ≡ p → ⊥) → (j ≡ c.number) ⊎ (j ≡ c.number → ⊥) → in_set l t j q ≡ wanted j q
          go (inr other) k = sym (rw (ne_eqb q p other))
          go (inl e) (inl k) = rw (e, k) (before_own some ∙ sym (rw (eq-eqb p p refl, eq-eqb c.number c.number refl, so)))
          go (inl e) (inr k) = ap (in_set l t j) e ∙ before_other j some k ∙ sym (rw (eq-eqb q p e, ne_eqb j c.number k))

      module _ (known : Sets l (in_set l t) m) where
        abbrev left : List ℕ
        left = removed ix put_down most_classes p

        near_p : p < 64 * groups l.pages
        near_p = omega (arith, ready.page_in)

        number_small : c.number < sets
        number_small = omega (arith, ready.number)

        sets_first : Sets l (in_set l t) put_down
        sets_first = sets_by_page l t m few_classes h put_down p ready.page_in (now_outside painted_so of_it) (in_set l t) known

        left_set : Parts l after left × ((f : ℕ → ℕ → Bool) → Sets l f put_down → Sets l (but_for f most_classes p false) left)
        left_set =
            taken_out l after put_down few_classes parts_after most_classes p (omega arith) ready.page_in left
            (is_removed ix (groups l.pages) put_down parts_after.index_sound most_classes p (omega arith) near_p)

        -- from memory r, whose parts are right, into the set of its class, or out of it
        out_of : (r : List ℕ) (f : ℕ → ℕ → Bool) → Parts l after r → Sets l f r → ((j q : ℕ) → j < sets → but_for f c.number p false j q ≡ wanted j q) →
            Holds l after (removed ix r c.number p)
        out_of r f parts s so =
            let both = taken_out l after r few_classes parts c.number p number_small ready.page_in (removed ix r c.number p)
            (is_removed ix (groups l.pages) r parts.index_sound c.number p number_small near_p) in
            record {
              parts = both.0;
              in_sets =
                  sets_are l (but_for f c.number p false) (in_set l after) (removed ix r c.number p) (both.1 f s)
                  (λ j q near within. so j q near ∙ wanted_right j q near);
            }

        into : (r : List ℕ) (f : ℕ → ℕ → Bool) → Parts l after r → Sets l f r → ((j q : ℕ) → j < sets → but_for f c.number p true j q ≡ wanted j q) →
            Holds l after (inserted ix r c.number p)
        into r f parts s so =
            let both = put_in l after r few_classes parts c.number p number_small ready.page_in (inserted ix r c.number p)
            (is_inserted ix (groups l.pages) r parts.index_sound c.number p number_small near_p) in
            record {
              parts = both.0;
              in_sets =
                  sets_are l (but_for f c.number p true) (in_set l after) (inserted ix r c.number p) (both.1 f s)
                  (λ j q near within. so j q near ∙ wanted_right j q near);
            }

        pub took : Holds l after (shelved ix put_down c s fresh)
        took = go (cases_lt 0 (t.used p)) (cases_Bool is_full)
          where
            go : (0 < t.used p) ⊎ (t.used p ≤ 0) → (is_full ≡ true) ⊎ (is_full ≡ false) → Holds l after (shelved ix put_down c s fresh)
            go (inl some) (inl so) =
                subst (Holds l after) (sym (shelved_full ix put_down c s fresh so ∙ ap (λ (b : Bool). removed ix (cond b left put_down) c.number p) (old_fresh some)))
                (out_of put_down (in_set l t) parts_after sets_first (λ j q near. wanted_full some so j q))
            go (inl some) (inr so) =
                subst (Holds l after) (sym (shelved_open ix put_down c s fresh so ∙ ap (λ (b : Bool). cond b (inserted ix (cond b left put_down) c.number p) (cond b left put_down)) (old_fresh some)))
                (record {
                  parts = parts_after;
                  in_sets = sets_are l (in_set l t) (in_set l after) put_down sets_first (λ j q near within. wanted_same some so j q ∙ wanted_right j q near);
                })
            go (inr none) (inl so) =
                subst (Holds l after) (sym (shelved_full ix put_down c s fresh so ∙ ap (λ (b : Bool). removed ix (cond b left put_down) c.number p) (new_fresh (omega arith))))
                (out_of left last left_set.0 (left_set.1 (in_set l t) sets_first) (wanted_fresh (omega arith) false so))
            go (inr none) (inr so) =
                subst (Holds l after) (sym (shelved_open ix put_down c s fresh so ∙ ap (λ (b : Bool). cond b (inserted ix (cond b left put_down) c.number p) (cond b left put_down)) (new_fresh (omega arith))))
                (into left last left_set.0 (left_set.1 (in_set l t) sets_first) (wanted_fresh (omega arith) true so))
