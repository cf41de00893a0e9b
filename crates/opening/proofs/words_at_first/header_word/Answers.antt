use Rattle.std.proofs.lemmas.Bool.{lt-ltb}
use Rattle.layout.specs.Layout.{marks_at}
use Rattle.opening.proofs.words_at_first.header_word.Goals as goal

pub returns-then-at-lt-MARKS_AT : goal.returns-then-at-lt-MARKS_AT
returns-then-at-lt-MARKS_AT c = λ can. rw (lt-ltb c.args.at marks_at c.if-at-lt-MARKS_AT.true) (c.limit_word.ensures can)
