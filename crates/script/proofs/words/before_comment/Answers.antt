use Rattle.std.proofs.Common.{sym, ap, ◌∙◌, arith}
use Rattle.std.proofs.lemmas.Str.Pattern.{split_parts}
use Rattle.std.proofs.lemmas.Option.{MatchOption-at_some, MatchOption-at_none}
use Rattle.script.specs.Words.{code}
use Rattle.script.proofs.Cuts.{all_code, code_before}
use Rattle.script.proofs.words.before_comment.Goals as goal

pub returns-in-Some : goal.returns-in-Some
returns-in-Some c =
    let parts = MatchOption-at_some _ _ _ c.in-Some.is (split_parts 35 c.args.text.now c.split_once.result c.split_once.ensures.cases (omega arith)) in
    sym (ap code parts.0 ∙ code_before _ _ parts.1)

pub returns-in-None : goal.returns-in-None
returns-in-None c =
    let parts = MatchOption-at_none _ _ c.in-None.is (split_parts 35 c.args.text.now c.split_once.result c.split_once.ensures.cases (omega arith)) in
    sym (all_code _ parts)
