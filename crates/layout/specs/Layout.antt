-- Which word of memory is which: a header, the same number of words for each page, the queue, and the low level of the index. Assumes nothing: these are
-- definitions and statements.
--     header, page_stride       how many words the header has; how many each page has
--     page_at p                 where the words of the page p begin; field_at p f, where its field f is
--     taken_at, spoilt_at p     where the bits of the page begin that tell which units have a piece that begins there, and which have one that is spoilt
--     units_at p f              where the bits of the page begin that tell the one or the other
--     asked_at p u              where it stands how much was asked for the piece that is out and begins at the unit u of the page p
--     queue_in, index_in x      where the queue lies, and where the two levels of the index do; groups n, how many groups of 64 pages n pages are
--     Area, areas x             a part of memory; the parts of it, in their order; page_areas, those of the words of one page
--     InOrder k xs end          each of xs begins no sooner than the one before it ends, the first no sooner than k, and the last ends no later than `end`
use Rattle.std.specs.Prelude.{List, [], ◌∷◌, ℕ, ◌+◌, ◌*◌, ◌/◌, ◌≤◌}
use Rattle.grounds.specs.Numbers.{page_words, rest_words, fixed_words, most_classes, mark_length}
use Rattle.index.specs.declared.Index.{Index}
use Rattle.index.specs.Index.{sets, high_words}
use Rattle.ring.specs.declared.Ring.{Ring}
use Rattle.units.specs.Units.{units, unit_words}
use Rattle.layout.specs.declared.field.Field.{Field}
use Rattle.layout.specs.declared.field.Field.TheVariants.{Kind, Head, Used, Class}
use Rattle.layout.specs.declared.layout.Layout.{Layout}
use Rattle.layout.specs.declared.field.UnitField.{UnitField}
use Rattle.layout.specs.declared.field.UnitField.TheVariants.{Taken, Spoilt}

-- ---- the header

abbrev pub pages_at : ℕ
pages_at = 0

abbrev pub rests_at : ℕ
rests_at = 1

-- how many classes there are
abbrev pub count_at : ℕ
count_at = 2

-- the two words of the queue
abbrev pub queue_at : ℕ
queue_at = 3

abbrev pub marks_at : ℕ
marks_at = 5

abbrev pub classes_at : ℕ
classes_at = 13

-- of each class the bits of the units where no piece of it may begin
abbrev pub templates_at : ℕ
templates_at = 45

-- the least class that has so many grains, from none to a page of them
abbrev pub lookup_at : ℕ
lookup_at = 173

abbrev pub high_at : ℕ
high_at = 430

abbrev pub header : ℕ
header = 991

-- ---- the words of a page

abbrev pub page_stride : ℕ
page_stride = 271

abbrev pub page_at : ℕ → ℕ
page_at p = header + page_stride * p

abbrev pub offset : Field → ℕ
offset Kind = 0
offset Head = 1
offset Used = 2
offset Class = 3

abbrev pub field_at : ℕ → Field → ℕ
field_at p f = page_at p + offset f

abbrev pub taken_from : ℕ
taken_from = 4

abbrev pub spoilt_from : ℕ
spoilt_from = 8

abbrev pub asked_from : ℕ
asked_from = 15

abbrev pub taken_at : ℕ → ℕ
taken_at p = page_at p + taken_from

abbrev pub spoilt_at : ℕ → ℕ
spoilt_at p = page_at p + spoilt_from

abbrev pub units_at : ℕ → UnitField → ℕ
units_at p Taken = taken_at p
units_at p Spoilt = spoilt_at p

abbrev pub asked_at : ℕ → ℕ → ℕ
asked_at p u = page_at p + asked_from + u

-- ---- the queue and the index

abbrev pub queue_in : Layout → Ring
queue_in x = record { header = queue_at; slots = page_at x.pages; «cap» = rest_words * x.rests }

abbrev pub index_in : Layout → Index
index_in x = record { high = high_at; low = page_at x.pages + rest_words * x.rests }

abbrev pub groups : ℕ → ℕ
groups n = (n + 63) / 64

-- ---- no two parts share a word, and all lie in memory

pub record Area : Type 0 where
  pub from : ℕ
  pub words : ℕ

abbrev pub InOrder : ℕ → List Area → ℕ → Type 0
InOrder k [] end = k ≤ end
InOrder k (x ∷ xs) end = (k ≤ x.from) × InOrder (x.from + x.words) xs end

abbrev pub areas : Layout → List Area
areas x =
    record { from = pages_at; words = 1 }
    ∷ (record { from = rests_at; words = 1 }
    ∷ (record { from = count_at; words = 1 }
    ∷ (record { from = queue_at; words = 2 }
    ∷ (record { from = marks_at; words = mark_length }
    ∷ (record { from = classes_at; words = most_classes }
    ∷ (record { from = templates_at; words = unit_words * most_classes }
    ∷ (record { from = lookup_at; words = units + 1 }
    ∷ (record { from = high_at; words = high_words * sets }
    ∷ (record { from = page_at 0; words = page_stride * x.pages }
    ∷ (record { from = (queue_in x).slots; words = (queue_in x).«cap» }
    ∷ (record { from = (index_in x).low; words = sets * groups x.pages } ∷ [])))))))))))

abbrev pub page_areas : List Area
page_areas =
    record { from = offset Kind; words = 1 }
    ∷ (record { from = offset Head; words = 1 }
    ∷ (record { from = offset Used; words = 1 }
    ∷ (record { from = offset Class; words = 1 }
    ∷ (record { from = taken_from; words = unit_words }
    ∷ (record { from = spoilt_from; words = unit_words }
    ∷ (record { from = asked_from; words = units } ∷ []))))))

-- memory is as long as is said for all limits, and has room for each part
abbrev pub AreasInOrder : Type 0
AreasInOrder = (x : Layout) → InOrder 0 (areas x) (page_words * x.pages + (rest_words * x.rests + fixed_words))

abbrev pub FieldsInOrder : Type 0
FieldsInOrder = InOrder 0 page_areas page_stride
