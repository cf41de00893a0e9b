use Rattle.std.proofs.Common.{true, sym, ap, ◌∙◌}
use Rattle.script.specs.Words.{words}
use Rattle.script.proofs.Cuts.{Run, gap, run_cut, past_blanks, behind_blanks}
use Rattle.script.proofs.words.Words.skip_blanks.Goals as goal
use Rattle.script.proofs.words.Words.skip_blanks.Goals.{After-gap_length}

-- the blanks at the front
blanks : (c : After-gap_length) → Run true c.args.self.now.rest.now c.gap_length.result
blanks c = rw (c.gap_length.ensures, c.as_bytes.ensures.value) (gap _)

pub split_at-requires : goal.split_at-requires
split_at-requires c = run_cut true _ _ (rw c.as_bytes.ensures.value at c.as_bytes.ensures.utf8) (blanks c)

pub returns-clause-same : goal.returns-clause-same
returns-clause-same c =
    let run = blanks (goal.at.returns-clause-same c).After-gap_length in
    ap words c.split_at.ensures.back ∙ sym (past_blanks _ _ run.within run.all)

pub returns-clause-solid : goal.returns-clause-solid
returns-clause-solid c = behind_blanks _ _ _ (blanks (goal.at.returns-clause-solid c).After-gap_length) c.split_at.ensures.back
