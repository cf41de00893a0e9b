use Rattle.std.proofs.Common.{true, false, refl, arith, false-eqb, true-eqb}
use Rattle.script.proofs.Cuts.{Run, solid, run_cut, no_word, one_word}
use Rattle.script.proofs.words.Words.front_word.Goals as goal
use Rattle.script.proofs.words.Words.front_word.Goals.{After-word_length}

-- no blank comes first
blanks : (c : After-word_length) → Run true c.args.self.now.rest.now 0
blanks c = record { within = omega arith; all = λ i less. absurd (omega arith); stops = c.requires }

-- the word at the front
word : (c : After-word_length) → Run false c.args.self.now.rest.now c.word_length.result
word c = rw (c.word_length.ensures, c.as_bytes.ensures.value) (solid _)

pub split_at-requires : goal.split_at-requires
split_at-requires c = run_cut false _ _ (rw c.as_bytes.ensures.value at c.as_bytes.ensures.utf8) (word c)

pub returns-then-is_empty : goal.returns-then-is_empty
returns-then-is_empty c =
    let at = (goal.at.returns-then-is_empty c).After-word_length in
    no_word _ _ _ _ _ _ (blanks at) refl (word at) c.split_at.ensures.front c.split_at.ensures.back (true-eqb _ 0 c.if-is_empty.ensures)

pub returns : goal.returns
returns c =
    let at = (goal.at.returns c).After-word_length in
    let some = false-eqb _ 0 c.if-is_empty.ensures in
    one_word _ _ _ _ _ _ (blanks at) refl (word at) c.split_at.ensures.front c.split_at.ensures.back (omega (arith, some))
