-- Memory after an opening holds the table of a ground with no pieces.
use Rattle.std.proofs.Common.{◌≡◌, ℕ, ◌+◌, ◌*◌, ◌/◌, ◌%◌, ◌<◌, ◌≤◌, Bool, false, not, length, get_or, sym, ap, ◌∙◌, arith}
use Rattle.std.proofs.lemmas.List.FromFn.{fill_by_all}
use Rattle.grounds.specs.Numbers.{mark_length}
use Rattle.grounds.specs.Blocks.{Limits}
use Rattle.grounds.specs.Worlds.{GoodLimits}
use Rattle.bits.specs.Bit.{bit}
use Rattle.bits.proofs.Digits.{bit_zero}
use Rattle.units.specs.Units.{units, unit_words, unit_at, unit_bit}
use Rattle.ring.specs.Ring.{Cleared}
use Rattle.ring.proofs.Cleared.{cleared, holds_none}
use Rattle.layout.specs.declared.field.Field.TheVariants.{Used}
use Rattle.layout.specs.Layout.{marks_at, templates_at, queue_in, page_at, field_at, spoilt_at, asked_at}
use Rattle.table.specs.Table.{fits, new_table}
use Rattle.opening.specs.Opening.{opened}
use Rattle.book.specs.Plan.{mark_of}
use Rattle.holds.specs.Holds.{layout_for, Header, Page, Parts, Holds, Small}
use Rattle.holds.proofs.BitsAtFirst.{bit_barred}
use Rattle.holds.proofs.WordsAtFirst.{opened_long, opened_small, pages_word, rests_word, count_word, newest_word, resting_word, mark_word, class_word, barred_word, lookup_word, between}
use Rattle.holds.proofs.Rising.{class_is}
use Rattle.holds.proofs.IndexAtFirst.{index_at_first, sets_at_first}

pub new_small : (l : Limits) → Small l new_table
new_small l p some = absurd (omega arith)

module _ (l : Limits) where
  -- ---- the pages: all of their words are 0

  no_unit : (p from u : ℕ) → p < l.pages → page_at p ≤ from → from + unit_words ≤ page_at (p + 1) → u < units → unit_bit (opened l) from u ≡ false
  unfolding unit_bit
  no_unit p from u near low high un = ap (λ (w : ℕ). bit w (u % 64)) (between l (unit_at from u) (omega arith) (omega arith)) ∙ bit_zero (u % 64)

  page_at_first : (p : ℕ) → p < l.pages → Page l new_table (opened l) p
  page_at_first p near =
      record {
        used = between l (field_at p Used) (omega arith) (omega arith);
        asked = λ u un. between l (asked_at p u) (omega arith) (omega arith);
        spoilt = λ u un. no_unit p (spoilt_at p) u near (omega arith) (omega arith) un;
        kind = λ some. absurd (omega arith);
        head = λ some. absurd (omega arith);
        few = λ some. absurd (omega arith);
        class = λ some. absurd (omega arith);
        taken = λ some. absurd (omega arith);
      }

module _ (can : ℕ → Bool) (l : Limits) (good : GoodLimits can l) where
  -- ---- the header

  template_at_first : (k u : ℕ) → k < length l.classes → u < units →
      unit_bit (opened l) (templates_at + unit_words * k) u ≡ not (fits (get_or l.classes k 0) u)
  unfolding unit_bit
  template_at_first k u kn un =
      let c = get_or l.classes k 0 in
      let some : 0 < c = (class_is 0 l.classes k good.classes_rise kn).above in
      let unit : 64 * (u / 64) + u % 64 ≡ u = omega arith in
      ap (λ (w : ℕ). bit w (u % 64)) (barred_word l k (u / 64) (omega (arith, good.few_classes)) (omega arith))
      ∙ bit_barred c (u / 64) (u % 64) some (omega arith)
      ∙ ap (λ (v : ℕ). not (fits c v)) unit

  mark_at_first : mark_of (opened l) ≡ l.marks
  mark_at_first =
      sym (fill_by_all (λ i. get_or (opened l) (marks_at + i) 0) l.marks mark_length 0 good.mark_long (λ i near. sym (mark_word l i near)))

  header_at_first : Header l (opened l)
  header_at_first =
      record {
        pages = pages_word l;
        rests = rests_word l;
        count = count_word l;
        mark = mark_at_first;
        classes = class_word l;
        templates = template_at_first;
        lookup = lookup_word l;
      }

  -- ---- the queue: both of its words in the header are 0

  queue_at_first : Cleared (queue_in (layout_for l)) (opened l)
  queue_at_first =
      record {
        fits = opened_small can l good;
        header_inside = omega (arith, opened_long l);
        slots_inside = omega (arith, opened_long l);
        apart = λ slot near. (omega arith, omega arith);
        no_newest = newest_word l;
        no_count = resting_word l;
      }

  -- ---- all of it

  parts_at_first : Parts l new_table (opened l)
  parts_at_first =
      record {
        long = opened_long l;
        fits_words = opened_small can l good;
        header = header_at_first;
        queue_sound = cleared (queue_in (layout_for l)) (opened l) queue_at_first;
        queue = holds_none (queue_in (layout_for l)) (opened l) queue_at_first;
        pages = page_at_first l;
        index_sound = index_at_first can l good;
      }

pub opened_holds : (can : ℕ → Bool) (l : Limits) → GoodLimits can l → Holds l new_table (opened l)
opened_holds can l good = record { parts = parts_at_first can l good; in_sets = sets_at_first can l good }
