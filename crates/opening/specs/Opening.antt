-- What memory holds after an opening, word by word, as a function of the limits alone. Assumes nothing: these are definitions and a statement.
--     ones n               a word whose lowest n bits are 1, and all of whose bits are where n is more than it has
--     barred c w           the word w of the bits that tell in which units of a page no piece that takes c may begin; 0 where c is 0
--     limit_word, header_word, table_word, index_word l i      the word i: of the limits; of the header's first part; of its tables; of the index and pages
--     opened_word l i      the word i of memory after an opening
--     opened l             all of it
--     Opening can l g old new r      an opening with l, of memory that held old and a ground that held g, was answered by r and left memory that holds new
use Rattle.std.specs.Prelude.{◌≡◌, ℕ, zero, suc, ◌+◌, ◌-◌, ◌*◌, ◌/◌, ◌%◌, ◌^◌, Bool, cond, List, map, length, ◌==◌, nat_lt, slice_index}
use Rattle.grounds.specs.Numbers.{grain, mark_length, most_classes}
use Rattle.std.specs.List.{range_with_len}
use Rattle.grounds.specs.declared.answer.Answer.{Answer}
use Rattle.grounds.specs.declared.answer.Answer.TheVariants.{Done, Refused}
use Rattle.grounds.specs.declared.answer.Refusal.TheVariants.{OutOfRange}
use Rattle.grounds.specs.Blocks.{Limits, memory_words}
use Rattle.grounds.specs.Promises.{MayOpen}
use Rattle.bits.specs.Bit.{word_bits, with_bit}
use Rattle.index.specs.Index.{sets, high_words}
use Rattle.units.specs.Units.{unit_words}
use Rattle.limits.specs.Lookup.{class_number}
use Rattle.table.specs.Table.{fits}
use Rattle.layout.specs.Layout.{pages_at, rests_at, count_at, marks_at, classes_at, templates_at, lookup_at, high_at, page_at, index_in, groups}

abbrev pub ones : ℕ → ℕ
ones n = cond (nat_lt n word_bits) (2 ^ n - 1) (2 ^ word_bits - 1)

-- the lowest k bits of that word
unfoldable pub barred_bits : ℕ → ℕ → ℕ → ℕ
barred_bits c w zero = 0
barred_bits c w (suc k) = cond (fits c (word_bits * w + k)) (barred_bits c w k) (with_bit (barred_bits c w k) k)

abbrev pub barred : ℕ → ℕ → ℕ
barred c w = cond (c == 0) 0 (barred_bits c w word_bits)

-- ---- the words

-- the limits' own words, and the two of the queue, where nothing rests
abbrev pub limit_word : Limits → ℕ → ℕ
limit_word l i =
    cond (i == pages_at) l.pages (cond (i == rests_at) l.rests (cond (i == count_at) (length l.classes) 0))

abbrev pub header_word : Limits → ℕ → ℕ
header_word l i =
    cond
    (nat_lt i marks_at)
    (limit_word l i)
    (cond (nat_lt i (marks_at + mark_length)) (slice_index l.marks (i - marks_at)) (cond (nat_lt i classes_at) 0 (slice_index l.classes (i - classes_at))))

abbrev pub template_word : Limits → ℕ → ℕ
template_word l k = barred (slice_index l.classes (k / unit_words)) (k % unit_words)

abbrev pub table_word : Limits → ℕ → ℕ
table_word l i = cond (nat_lt i lookup_at) (template_word l (i - templates_at)) (class_number l.classes (grain * (i - lookup_at)))

-- every page is in the set of those that no piece touches, the last, and in no other
abbrev pub high_word : ℕ → ℕ → ℕ
high_word pages k = cond (k / high_words == most_classes) (ones (groups pages - word_bits * (k % high_words))) 0

abbrev pub low_word : ℕ → ℕ → ℕ
low_word pages k = cond (k % sets == most_classes) (ones (pages - word_bits * (k / sets))) 0

-- where the low level of the index begins
abbrev pub low_from : Limits → ℕ
low_from l = (index_in (record { pages = l.pages; rests = l.rests })).low

abbrev pub index_word : Limits → ℕ → ℕ
index_word l i = cond (nat_lt i (page_at 0)) (high_word l.pages (i - high_at)) (cond (nat_lt i (low_from l)) 0 (low_word l.pages (i - low_from l)))

unfoldable pub opened_word : Limits → ℕ → ℕ
opened_word l i = cond (nat_lt i templates_at) (header_word l i) (cond (nat_lt i high_at) (table_word l i) (index_word l i))

abbrev pub opened : Limits → List ℕ
opened l = map (opened_word l) (range_with_len 0 (memory_words l))

-- ---- an opening: taken where the limits are good and memory and ground have the lengths that these ask for; else refused, and nothing changes

abbrev pub Opening : (ℕ → Bool) → Limits → List ℕ → List ℕ → List ℕ → Answer → Type 0
Opening can l g old new r =
    (MayOpen can old g l → (r ≡ Done) × (new ≡ opened l)) × ((MayOpen can old g l → ⊥) → (r ≡ Refused OutOfRange 0) × (new ≡ old))
