-- The numbers of a ground and of its keeper's memory, each in its one place. Assumes nothing: these are definitions.
--     page             the bytes of a page
--     grain            classes are multiples of it, so that every piece begins at one
--     mark_length      the bytes of a mark, the last that a piece takes
--     most_pages, most_classes, most_rests      what an opening may ask for at the most
--     page_words, rest_words, fixed_words       how many words of memory there are for each page, for each piece that may rest, and besides
--     byte, word       how many numbers a byte holds, and a word of eight bytes
use Rattle.std.specs.Prelude.{ℕ, ◌^◌}

abbrev pub page : ℕ
page = 4096

abbrev pub grain : ℕ
grain = 16

abbrev pub mark_length : ℕ
mark_length = 2

abbrev pub most_pages : ℕ
most_pages = 65536

abbrev pub most_classes : ℕ
most_classes = 32

abbrev pub most_rests : ℕ
most_rests = 1024

abbrev pub page_words : ℕ
page_words = 272

abbrev pub rest_words : ℕ
rest_words = 2

abbrev pub fixed_words : ℕ
fixed_words = 1024

abbrev pub byte : ℕ
byte = 2 ^ 8

abbrev pub word : ℕ
word = 2 ^ 64
