use Rattle.std.proofs.lemmas.Bool.{lt-ltb, le-ltb}
use Rattle.layout.specs.Layout.{templates_at, high_at}
use Rattle.opening.specs.Opening.{opened_word}
use Rattle.opening.proofs.words_at_first.opened_word.Goals as goal

pub returns-then-at-lt-TEMPLATES_AT : goal.returns-then-at-lt-TEMPLATES_AT
unfolding opened_word
returns-then-at-lt-TEMPLATES_AT c = λ can. rw (lt-ltb c.args.at templates_at c.if-at-lt-TEMPLATES_AT.true) (c.header_word.ensures can)

pub returns-then-at-lt-HIGH_AT : goal.returns-then-at-lt-HIGH_AT
unfolding opened_word
returns-then-at-lt-HIGH_AT c =
    λ can. rw (le-ltb c.args.at templates_at c.if-at-lt-TEMPLATES_AT.false) (rw (lt-ltb c.args.at high_at c.if-at-lt-HIGH_AT.true) (c.table_word.ensures can))

pub returns-else-at-lt-HIGH_AT : goal.returns-else-at-lt-HIGH_AT
unfolding opened_word
returns-else-at-lt-HIGH_AT c =
    λ can. rw (le-ltb c.args.at templates_at c.if-at-lt-TEMPLATES_AT.false) (rw (le-ltb c.args.at high_at c.if-at-lt-HIGH_AT.false) (c.index_word.ensures can))
