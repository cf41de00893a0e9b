-- How much was asked, what is spoilt, and another queue: memory that holds a table, after such a change, holds the table with it.
use Rattle.std.proofs.Common.{◌≡◌, ℕ, ◌+◌, ◌^◌, ◌<◌, ◌≤◌, true, false, not, ◌||◌, eqb, ◌⊎◌, List, length, get_or, sym, refl, ap, ◌∙◌, inl, inr, zero-add, arith}
use Rattle.std.proofs.lemmas.Bool.{cases_eq, eq-eqb, ne_eqb}
use Rattle.grounds.specs.Numbers.{most_classes}
use Rattle.grounds.specs.Blocks.{Limits}
use Rattle.units.specs.Units.{units, unit_words, unit_bit}
use Rattle.units.proofs.Elsewhere.{elsewhere}
use Rattle.layout.specs.declared.field.Field.TheVariants.{Kind, Head, Used, Class}
use Rattle.layout.specs.Layout.{page_stride, page_at, field_at, taken_at, spoilt_at, asked_at}
use Rattle.table.specs.Table.{Table, sized, marked_spoilt, unit_place, free_unit}
use Rattle.layout.specs.declared.spot.Spot.{Spot}
use Rattle.book.specs.Spots.{place_of_spot}
use Rattle.book.specs.Changes.{sized_in, spoilt_in}
use Rattle.holds.specs.Holds.{Page, in_set, Holds}
use Rattle.holds.proofs.Frames.{SamePage, parts_by_page, sets_by_page}
use Rattle.holds.proofs.Pages.{sized_outside, sized_word, sized_asked, spoilt_outside, spoilt_word, spoilt_bits}

module _ (l : Limits) (t : Table) (m : List ℕ) (s : Spot) (few : length l.classes ≤ most_classes) (h : Holds l t m) (page_in : s.page < l.pages)
    (unit_in : s.unit < units) where
  abbrev p : ℕ
  p = s.page

  abbrev a : ℕ
  a = place_of_spot s

  abbrev fits_words : (x : ℕ) → get_or m x 0 < 2 ^ 64
  fits_words = h.parts.fits_words

  abbrev here : Page l t m p
  here = h.parts.pages p page_in

  inside : page_at p + page_stride ≤ length m
  inside = omega (arith, h.parts.long, page_in)

  -- where only what was asked or is spoilt has changed, so only at the spot, other pages are as they were
  elsewhere_not : (q u : ℕ) → (q ≡ p → ⊥) → u < units → eqb a (unit_place q u) ≡ false
  elsewhere_not q u other near = ne_eqb a (unit_place q u) (λ e. omega (arith, unit_in))

  at_unit : (u : ℕ) → u < units → (u ≡ s.unit → ⊥) → eqb a (unit_place p u) ≡ false
  at_unit u near other = ne_eqb a (unit_place p u) (λ e. other (omega arith))

  -- ---- how much was asked

  module _ (n : ℕ) (small : n < 2 ^ 64) where
    abbrev asks : Table
    asks = sized t a n

    word_kept : (x : ℕ) → (x ≡ asked_at p s.unit → ⊥) → get_or (sized_in m s n) x 0 ≡ get_or m x 0
    word_kept = sized_word m s fits_words unit_in inside n small

    asked_now : (u : ℕ) → u < units → get_or (sized_in m s n) (asked_at p u) 0 ≡ asks.asked (unit_place p u)
    asked_now u near = go (cases_eq u s.unit)
      where
        go : (u ≡ s.unit) ⊎ (u ≡ s.unit → ⊥) → get_or (sized_in m s n) (asked_at p u) 0 ≡ asks.asked (unit_place p u)
        go (inl e) = rw (e, eq-eqb a a refl) (sized_asked m s fits_words unit_in inside n small)
        go (inr other) = rw (at_unit u near other) (word_kept (asked_at p u) (λ e. other (omega arith)) ∙ here.asked u near)

    bits_kept : (at : ℕ) → at + unit_words ≤ asked_at p 0 → (v : ℕ) → v < units → unit_bit (sized_in m s n) at v ≡ unit_bit m at v
    bits_kept at low v near = elsewhere m (sized_in m s n) at (λ x from to. word_kept x (λ e. omega arith)) v near

    page_now : Page l asks (sized_in m s n) p
    page_now =
        record {
          used = word_kept (field_at p Used) (λ e. omega arith) ∙ here.used;
          asked = asked_now;
          spoilt = λ u near. bits_kept (spoilt_at p) (omega arith) u near ∙ here.spoilt u near;
          kind = λ some. word_kept (field_at p Kind) (λ e. omega arith) ∙ here.kind some;
          head = λ some. word_kept (field_at p Head) (λ e. omega arith) ∙ here.head some;
          few = λ some low. rw (word_kept (field_at p Class) (λ e. omega arith)) (here.few some low);
          class = λ some low. rw (word_kept (field_at p Class) (λ e. omega arith)) (here.class some low);
          taken = λ some low u near. bits_kept (taken_at p) (omega arith) u near ∙ here.taken some low u near;
        }

    others : (q : ℕ) → (q ≡ p → ⊥) → SamePage t asks q
    others q other =
        record {
          used = refl;
          kind = refl;
          head = refl;
          asked = λ u near. rw (elsewhere_not q u other near);
          spoilt = λ u near. refl;
          taken = λ u near. refl;
        }

    pub sized_holds : Holds l asks (sized_in m s n)
    unfolding free_unit
    sized_holds =
        let outside = sized_outside m s fits_words unit_in inside n small in
        record {
          parts = parts_by_page l t m few h.parts (sized_in m s n) p page_in outside asks page_now (λ q near other. others q other) refl;
          in_sets = sets_by_page l t m few h.parts (sized_in m s n) p page_in outside (in_set l t) h.in_sets;
        }

  -- ---- what is spoilt

  abbrev spoils : Table
  spoils = marked_spoilt t a

  word_same : (x : ℕ) → (x < spoilt_at p) ⊎ (spoilt_at p + unit_words ≤ x) → get_or (spoilt_in m s) x 0 ≡ get_or m x 0
  word_same = spoilt_word m s fits_words unit_in inside

  spoilt_now : (u : ℕ) → u < units → unit_bit (spoilt_in m s) (spoilt_at p) u ≡ not (eqb (spoils.spoilt (unit_place p u)) 0)
  spoilt_now u near = spoilt_bits m s fits_words unit_in inside u near ∙ go (cases_eq u s.unit)
    where
      some_more : (k : ℕ) → true ≡ not (eqb (1 + k) 0)
      some_more k = sym (ap not (ne_eqb (1 + k) 0 (λ e. omega arith)))

      go : (u ≡ s.unit) ⊎ (u ≡ s.unit → ⊥) → (eqb u s.unit || unit_bit m (spoilt_at p) u) ≡ not (eqb (spoils.spoilt (unit_place p u)) 0)
      go (inl e) = rw (e, eq-eqb s.unit s.unit refl, eq-eqb a a refl) (some_more (t.spoilt a))
      go (inr other) = rw (ne_eqb u s.unit other, at_unit u near other, zero-add (t.spoilt (unit_place p u))) (here.spoilt u near)

  spoilt_page : Page l spoils (spoilt_in m s) p
  spoilt_page =
      record {
        used = word_same (field_at p Used) (inl (omega arith)) ∙ here.used;
        asked = λ u near. word_same (asked_at p u) (inr (omega arith)) ∙ here.asked u near;
        spoilt = spoilt_now;
        kind = λ some. word_same (field_at p Kind) (inl (omega arith)) ∙ here.kind some;
        head = λ some. word_same (field_at p Head) (inl (omega arith)) ∙ here.head some;
        few = λ some low. rw (word_same (field_at p Class) (inl (omega arith))) (here.few some low);
        class = λ some low. rw (word_same (field_at p Class) (inl (omega arith))) (here.class some low);
        taken = λ some low u near.
            elsewhere m (spoilt_in m s) (taken_at p) (λ x from to. word_same x (inl (omega arith))) u near ∙ here.taken some low u near;
      }

  spoilt_others : (q : ℕ) → (q ≡ p → ⊥) → SamePage t spoils q
  spoilt_others q other =
      record {
        used = refl;
        kind = refl;
        head = refl;
        asked = λ u near. refl;
        spoilt = λ u near. rw (elsewhere_not q u other near) (zero-add (t.spoilt (unit_place q u)));
        taken = λ u near. refl;
      }

  pub spoilt_holds : Holds l spoils (spoilt_in m s)
  unfolding free_unit
  spoilt_holds =
      let outside = spoilt_outside m s fits_words unit_in inside in
      record {
        parts = parts_by_page l t m few h.parts (spoilt_in m s) p page_in outside spoils spoilt_page (λ q near other. spoilt_others q other) refl;
        in_sets = sets_by_page l t m few h.parts (spoilt_in m s) p page_in outside (in_set l t) h.in_sets;
      }
