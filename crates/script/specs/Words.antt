-- The words of a line. Assumes nothing: these are definitions.
--     blank b               whether the byte b is a space or a tab
--     code bs               the bytes before the first #, where a comment begins
--     words bs              the longest runs of bytes that are no blanks, in their order
--     words_after w bs      the same where w is what was seen of the first word
--     kept w ws             w and then ws; just ws where w is empty
--     left w                the words that are still to be taken
use Rattle.std.specs.Prelude.{ℕ, Bool, cond, ◌||◌, List, [], ◌∷◌, ◌++◌, ◌==◌}
use Rattle.script.specs.declared.words.Words.{Words}

abbrev pub blank : ℕ → Bool
blank b = b == 32 || b == 9

abbrev pub code : List ℕ → List ℕ
code [] = []
code (b ∷ bs) = cond (b == 35) [] (b ∷ code bs)

abbrev pub kept : List ℕ → List (List ℕ) → List (List ℕ)
kept [] ws = ws
kept (b ∷ w) ws = (b ∷ w) ∷ ws

abbrev pub words_after : List ℕ → List ℕ → List (List ℕ)
words_after w [] = kept w []
words_after w (b ∷ bs) = cond (blank b) (kept w (words_after [] bs)) (words_after (w ++ (b ∷ [])) bs)

abbrev pub words : List ℕ → List (List ℕ)
words bs = words_after [] bs

abbrev pub left : Words → List (List ℕ)
left w = words w.rest.now
