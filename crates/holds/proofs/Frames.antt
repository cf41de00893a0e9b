-- What stays of a table that memory holds, where only some words have changed: those of one page, of the index, or of the queue.
use Rattle.std.proofs.Common.{◌≡◌, ℕ, ◌+◌, ◌*◌, ◌/◌, ◌^◌, ◌<◌, ◌≤◌, Bool, true, false, cond, not, ◌&&◌, eqb, ◌⊎◌, List, length, get_or, sym, refl, ap, ◌∙◌, subst, inl, inr, arith}
use Rattle.std.specs.List.{ContainsAt as Has}
use Rattle.std.proofs.lemmas.Bool.{cases_eq, cases_lt, eq-eqb, ne_eqb}
use Rattle.grounds.specs.Numbers.{mark_length, most_classes}
use Rattle.grounds.specs.Blocks.{Limits}
use Rattle.index.specs.Index.{sets, low_at, member, Inserted, Removed}
use Rattle.index.specs.Index.{high_at as high_word_at}
use Rattle.index.specs.Index.{Sound as IndexSound}
use Rattle.index.proofs.Elsewhere.{Elsewhere as IndexElsewhere}
use Rattle.index.proofs.Elsewhere.{sound_kept as index_kept, member_kept}
use Rattle.ring.specs.Ring.{held}
use Rattle.ring.specs.Ring.{Sound as RingSound}
use Rattle.ring.specs.Ring.{Elsewhere as RingElsewhere}
use Rattle.ring.proofs.Held.{same_counted}
use Rattle.ring.proofs.Elsewhere.{sound_kept as ring_kept, held_kept}
use Rattle.units.specs.Units.{units, unit_words}
use Rattle.units.proofs.Elsewhere.{elsewhere}
use Rattle.layout.specs.declared.field.Field.TheVariants.{Kind, Head, Used, Class}
use Rattle.layout.specs.Layout.{header, high_at, queue_at, pages_at, rests_at, count_at, marks_at, classes_at, templates_at, lookup_at, page_stride, page_at, groups, index_in, queue_in, field_at, taken_at, spoilt_at, asked_at}
use Rattle.table.specs.Table.{Table, queued, unit_place}
use Rattle.holds.specs.Holds.{layout_for, Header, Page, Parts, Sets}

-- ---- the header, of which the queue's two words are no part

pub header_kept : (l : Limits) (m n : List ℕ) → length l.classes ≤ most_classes →
    ((a : ℕ) → a < high_at → (a ≡ queue_at → ⊥) → (a ≡ queue_at + 1 → ⊥) → get_or n a 0 ≡ get_or m a 0) → Header l m → Header l n
header_kept l m n few same h =
    record {
      pages = same pages_at (omega arith) (λ e. omega arith) (λ e. omega arith) ∙ h.pages;
      rests = same rests_at (omega arith) (λ e. omega arith) (λ e. omega arith) ∙ h.rests;
      count = same count_at (omega arith) (λ e. omega arith) (λ e. omega arith) ∙ h.count;
      mark =
          same_counted (λ i. get_or n (marks_at + i) 0) (λ i. get_or m (marks_at + i) 0) 0 0 mark_length
          (λ i near. same (marks_at + (0 + i)) (omega arith) (λ e. omega arith) (λ e. omega arith))
          ∙ h.mark;
      classes = λ k near. same (classes_at + k) (omega arith) (λ e. omega arith) (λ e. omega arith) ∙ h.classes k near;
      templates = λ k u near unit.
          elsewhere m n (templates_at + unit_words * k) (λ a low high. same a (omega arith) (λ e. omega arith) (λ e. omega arith)) u unit
          ∙ h.templates k u near unit;
      lookup = λ j near. same (lookup_at + j) (omega arith) (λ e. omega arith) (λ e. omega arith) ∙ h.lookup j near;
    }

-- ---- the words of a page, and two tables that know the same of it

pub record SamePage (t r : Table) (p : ℕ) : Type 0 where
  pub used : r.used p ≡ t.used p
  pub kind : r.kind p ≡ t.kind p
  pub head : r.head p ≡ t.head p
  pub asked : (u : ℕ) → u < units → r.asked (unit_place p u) ≡ t.asked (unit_place p u)
  pub spoilt : (u : ℕ) → u < units → r.spoilt (unit_place p u) ≡ t.spoilt (unit_place p u)
  pub taken : (u : ℕ) → u < units → r.taken (unit_place p u) ≡ t.taken (unit_place p u)

module _ (l : Limits) (t r : Table) (m n : List ℕ) (p : ℕ) (know : SamePage t r p)
    (same : (a : ℕ) → page_at p ≤ a → a < page_at p + page_stride → get_or n a 0 ≡ get_or m a 0) (h : Page l t m p) where
  used_before : 0 < r.used p → 0 < t.used p
  used_before some = omega (arith, know.used)

  kind_before : Has l.classes (r.kind p) → Has l.classes (t.kind p)
  kind_before small = subst (Has l.classes) know.kind small

  class_kept : get_or n (field_at p Class) 0 ≡ get_or m (field_at p Class) 0
  class_kept = same (field_at p Class) (omega arith) (omega arith)

  pub page_kept : Page l r n p
  page_kept =
      record {
        used = same (field_at p Used) (omega arith) (omega arith) ∙ h.used ∙ sym know.used;
        asked = λ u near. same (asked_at p u) (omega arith) (omega arith) ∙ h.asked u near ∙ sym (know.asked u near);
        spoilt = λ u near.
            elsewhere m n (spoilt_at p) (λ a low high. same a (omega arith) (omega arith)) u near
            ∙ h.spoilt u near
            ∙ sym (ap (λ (x : ℕ). not (eqb x 0)) (know.spoilt u near));
        kind = λ some. same (field_at p Kind) (omega arith) (omega arith) ∙ h.kind (used_before some) ∙ sym know.kind;
        head = λ some. same (field_at p Head) (omega arith) (omega arith) ∙ h.head (used_before some) ∙ sym know.head;
        few = λ some small. rw class_kept (h.few (used_before some) (kind_before small));
        class = λ some small. rw class_kept (h.class (used_before some) (kind_before small) ∙ sym know.kind);
        taken = λ some small u near.
            elsewhere m n (taken_at p) (λ a low high. same a (omega arith) (omega arith)) u near
            ∙ h.taken (used_before some) (kind_before small) u near
            ∙ sym (rw (know.kind, know.taken u near));
      }

-- ---- the queue and the index, where none of their words has changed

module _ (l : Limits) (m n : List ℕ) (fits : (a : ℕ) → get_or n a 0 < 2 ^ 64) (long : length n ≡ length m) where
  pub queue_kept : (get_or n queue_at 0 ≡ get_or m queue_at 0) → (get_or n (queue_at + 1) 0 ≡ get_or m (queue_at + 1) 0) →
      ((a : ℕ) → page_at l.pages ≤ a → a < (index_in (layout_for l)).low → get_or n a 0 ≡ get_or m a 0) → RingSound (queue_in (layout_for l)) m →
      RingSound (queue_in (layout_for l)) n × (held (queue_in (layout_for l)) n ≡ held (queue_in (layout_for l)) m)
  queue_kept newest count slots sound =
      let r = queue_in (layout_for l) in
      let e : RingElsewhere (queue_in (layout_for l)) m n = record { fits = fits; long = long; newest_kept = newest; count_kept = count; slots_kept = λ slot near. slots (r.slots + slot) (omega arith) (omega arith) } in
      (ring_kept r m n sound e, held_kept r m n sound e)

  pub index_words_kept : ((a : ℕ) → high_at ≤ a → a < header → get_or n a 0 ≡ get_or m a 0) → ((a : ℕ) → (index_in (layout_for l)).low ≤ a → get_or n a 0 ≡ get_or m a 0) →
      IndexSound (index_in (layout_for l)) (groups l.pages) m →
      IndexSound (index_in (layout_for l)) (groups l.pages) n
      × ((k p : ℕ) → k < sets → p < 64 * groups l.pages → member (index_in (layout_for l)) n k p ≡ member (index_in (layout_for l)) m k p)
  index_words_kept highs lows sound =
      let i = index_in (layout_for l) in
      let e : IndexElsewhere (index_in (layout_for l)) (groups l.pages) m n = record { fits = fits; long = long; highs_kept = λ a low high. highs a low (omega arith); lows_kept = λ a low high. lows a low } in
      (index_kept i (groups l.pages) m n sound e, member_kept i (groups l.pages) m n sound e)

-- ---- the words of one page have changed

pub record OutsidePage (p : ℕ) (m n : List ℕ) : Type 0 where
  pub same : (a : ℕ) → (a < page_at p) ⊎ (page_at p + page_stride ≤ a) → get_or n a 0 ≡ get_or m a 0
  pub long : length n ≡ length m
  pub fits : (a : ℕ) → get_or n a 0 < 2 ^ 64

module _ (l : Limits) (t : Table) (m : List ℕ) (few : length l.classes ≤ most_classes) (h : Parts l t m) where
  module _ (n : List ℕ) (p : ℕ) (near : p < l.pages) (o : OutsidePage p m n) where
    pub parts_by_page : (r : Table) → Page l r n p → ((q : ℕ) → q < l.pages → (q ≡ p → ⊥) → SamePage t r q) → r.queue ≡ t.queue → Parts l r n
    parts_by_page r here others queue =
        let kept = queue_kept l m n o.fits o.long (o.same queue_at (inl (omega arith))) (o.same (queue_at + 1) (inl (omega arith)))
        (λ a low high. o.same a (inr (omega arith))) h.queue_sound in
        record {
          long = o.long ∙ h.long;
          fits_words = o.fits;
          header = header_kept l m n few (λ a low x y. o.same a (inl (omega arith))) h.header;
          queue_sound = kept.0;
          queue = kept.1 ∙ h.queue ∙ sym queue;
          pages = λ q within. go q within (cases_eq q p);
          index_sound =
              (index_words_kept l m n o.fits o.long (λ a low high. o.same a (inl (omega arith))) (λ a low. o.same a (inr (omega arith))) h.index_sound).0;
        }
      where
        apart : (q a : ℕ) → (q ≡ p → ⊥) → page_at q ≤ a → a < page_at q + page_stride → (a < page_at p) ⊎ (page_at p + page_stride ≤ a)
        apart q a other low high = by (cases_lt q p)
          where
            by : (q < p) ⊎ (p ≤ q) → (a < page_at p) ⊎ (page_at p + page_stride ≤ a)
            by (inl below) = inl (omega arith)
            by (inr above) = inr (omega arith)

        go : (q : ℕ) → q < l.pages → (q ≡ p) ⊎ (q ≡ p → ⊥) → Page l r n q
        go q within (inl e) = rw e here
        go q within (inr other) =
            page_kept l t r m n q (others q within other) (λ a low high. o.same a (apart q a other low high)) (h.pages q within)

    pub sets_by_page : (f : ℕ → ℕ → Bool) → Sets l f m → Sets l f n
    sets_by_page f s =
        let kept = (index_words_kept l m n o.fits o.long (λ a low high. o.same a (inl (omega arith))) (λ a low. o.same a (inr (omega arith))) h.index_sound).1 in
        record {
          here = λ k q near within. kept k q near (omega arith) ∙ s.here k q near within;
          nowhere = λ k q near past within. kept k q near within ∙ s.nowhere k q near past within;
        }

  -- ---- the words of the index have changed

  module _ (n : List ℕ) (sound : IndexSound (index_in (layout_for l)) (groups l.pages) n) (long : length n ≡ length m)
      (same : (a : ℕ) → (a < high_at) ⊎ ((header ≤ a) × (a < (index_in (layout_for l)).low)) → get_or n a 0 ≡ get_or m a 0) where
    pub parts_by_index : Parts l t n
    parts_by_index =
        let kept = queue_kept l m n sound.fits long (same queue_at (inl (omega arith))) (same (queue_at + 1) (inl (omega arith)))
        (λ a low high. same a (inr (omega arith, high))) h.queue_sound in
        record {
          long = long ∙ h.long;
          fits_words = sound.fits;
          header = header_kept l m n few (λ a low x y. same a (inl low)) h.header;
          queue_sound = kept.0;
          queue = kept.1 ∙ h.queue;
          pages = λ q within.
              page_kept l t t m n q (known q) (λ a low high. same a (inr (omega arith, omega arith))) (h.pages q within);
          index_sound = sound;
        }
      where
        known : (q : ℕ) → SamePage t t q
        known q = record { used = refl; kind = refl; head = refl; asked = λ u near. refl; spoilt = λ u near. refl; taken = λ u near. refl }

-- ---- which pages are in which sets

pub sets_are : (l : Limits) (f g : ℕ → ℕ → Bool) (m : List ℕ) → Sets l f m → ((k p : ℕ) → k < sets → p < l.pages → f k p ≡ g k p) → Sets l g m
sets_are l f g m s same = record { here = λ k p near within. s.here k p near within ∙ same k p near within; nowhere = s.nowhere }

-- f, but for one page and one set
abbrev pub but_for : (ℕ → ℕ → Bool) → ℕ → ℕ → Bool → ℕ → ℕ → Bool
but_for f k p b j q = cond (eqb j k && eqb q p) b (f j q)

module _ (f : ℕ → ℕ → Bool) (k p : ℕ) (b : Bool) (j q : ℕ) where
  pub but_here : j ≡ k → q ≡ p → but_for f k p b j q ≡ b
  but_here e d = rw (eq-eqb j k e, eq-eqb q p d)

  pub but_there : ((j ≡ k) × (q ≡ p) → ⊥) → but_for f k p b j q ≡ f j q
  but_there other = go (cases_eq j k)
    where
      go : (j ≡ k) ⊎ (j ≡ k → ⊥) → but_for f k p b j q ≡ f j q
      go (inl e) = rw (eq-eqb j k e, ne_eqb q p (λ d. other (e, d)))
      go (inr e) = rw (ne_eqb j k e)

module _ (l : Limits) (t : Table) (m : List ℕ) (few : length l.classes ≤ most_classes) (h : Parts l t m) (k p : ℕ) (kn : k < sets) (pn : p < l.pages) where
  changed : (n : List ℕ) (b : Bool) → member (index_in (layout_for l)) n k p ≡ b →
      ((j q : ℕ) → j < sets → ((j ≡ k) × (q ≡ p) → ⊥) → member (index_in (layout_for l)) n j q ≡ member (index_in (layout_for l)) m j q) →
      (f : ℕ → ℕ → Bool) → Sets l f m → Sets l (but_for f k p b) n
  changed n b here there f s =
      record {
        here = λ j q near within. go j q near within (cases_eq j k) (cases_eq q p);
        nowhere = λ j q near past within. there j q near (λ e. omega (arith, e.1)) ∙ s.nowhere j q near past within;
      }
    where
      go : (j q : ℕ) → j < sets → q < l.pages → (j ≡ k) ⊎ (j ≡ k → ⊥) → (q ≡ p) ⊎ (q ≡ p → ⊥) →
          member (index_in (layout_for l)) n j q ≡ but_for f k p b j q
      go j q near within (inl e) (inl d) = rw (e, d) (here ∙ sym (but_here f k p b k p refl refl))
      go j q near within (inl e) (inr d) = there j q near (λ both. d both.1) ∙ s.here j q near within ∙ sym (but_there f k p b j q (λ both. d both.1))
      go j q near within (inr e) d = there j q near (λ both. e both.0) ∙ s.here j q near within ∙ sym (but_there f k p b j q (λ both. e both.0))

  -- a change of the two words of a page in a set is no change elsewhere
  elsewhere_same : (n : List ℕ) →
      ((a : ℕ) → (a ≡ low_at (index_in (layout_for l)) k (p / 64) → ⊥) → (a ≡ high_word_at (index_in (layout_for l)) k (p / 64 / 64) → ⊥) → get_or n a 0 ≡ get_or m a 0) →
      (a : ℕ) → (a < high_at) ⊎ ((header ≤ a) × (a < (index_in (layout_for l)).low)) → get_or n a 0 ≡ get_or m a 0
  elsewhere_same n outside a (inl low) = outside a (λ e. omega arith) (λ e. omega arith)
  elsewhere_same n outside a (inr low) = outside a (λ e. omega (arith, low.1)) (λ e. omega (arith, low.0))

  pub put_in : (n : List ℕ) → Inserted (index_in (layout_for l)) (groups l.pages) k p m n → Parts l t n × ((f : ℕ → ℕ → Bool) → Sets l f m → Sets l (but_for f k p true) n)
  put_in n i = (parts_by_index l t m few h n i.sound i.long (elsewhere_same n i.outside), changed n true i.here i.there)

  pub taken_out : (n : List ℕ) → Removed (index_in (layout_for l)) (groups l.pages) k p m n → Parts l t n × ((f : ℕ → ℕ → Bool) → Sets l f m → Sets l (but_for f k p false) n)
  taken_out n i = (parts_by_index l t m few h n i.sound i.long (elsewhere_same n i.outside), changed n false i.here i.there)

-- ---- the words of the queue have changed

module _ (l : Limits) (t : Table) (m : List ℕ) (few : length l.classes ≤ most_classes) (h : Parts l t m) (n : List ℕ)
    (sound : RingSound (queue_in (layout_for l)) n) (long : length n ≡ length m)
    (same : (a : ℕ) → (a ≡ queue_at → ⊥) → (a ≡ queue_at + 1 → ⊥) → (a < page_at l.pages) ⊎ ((index_in (layout_for l)).low ≤ a) → get_or n a 0 ≡ get_or m a 0) where
  index_same :
      IndexSound (index_in (layout_for l)) (groups l.pages) n
      × ((k p : ℕ) → k < sets → p < 64 * groups l.pages → member (index_in (layout_for l)) n k p ≡ member (index_in (layout_for l)) m k p)
  index_same =
      index_words_kept l m n sound.fits long (λ a low high. same a (λ e. omega arith) (λ e. omega arith) (inl (omega arith)))
      (λ a low. same a (λ e. omega arith) (λ e. omega arith) (inr low)) h.index_sound

  pub parts_by_queue : Parts l (queued t (held (queue_in (layout_for l)) n)) n
  parts_by_queue =
      record {
        long = long ∙ h.long;
        fits_words = sound.fits;
        header = header_kept l m n few (λ a low x y. same a x y (inl (omega arith))) h.header;
        queue_sound = sound;
        queue = refl;
        pages = λ q within.
            page_kept l t (queued t (held (queue_in (layout_for l)) n)) m n q (known q)
            (λ a low high. same a (λ e. omega arith) (λ e. omega arith) (inl (omega arith))) (h.pages q within);
        index_sound = index_same.0;
      }
    where
      known : (q : ℕ) → SamePage t (queued t (held (queue_in (layout_for l)) n)) q
      known q = record { used = refl; kind = refl; head = refl; asked = λ u near. refl; spoilt = λ u near. refl; taken = λ u near. refl }

  pub sets_by_queue : (f : ℕ → ℕ → Bool) → Sets l f m → Sets l f n
  sets_by_queue f s =
      record {
        here = λ k q near within. index_same.1 k q near (omega arith) ∙ s.here k q near within;
        nowhere = λ k q near past within. index_same.1 k q near within ∙ s.nowhere k q near past within;
      }
