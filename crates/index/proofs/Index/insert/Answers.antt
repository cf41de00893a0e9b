use Rattle.std.proofs.Common.{refl}
use Rattle.index.proofs.Change.{inserted_is, is_inserted}
use Rattle.index.proofs.Index.insert.Goals as goal

pub returns : goal.returns
returns c =
    let i = c.args.self in
    let m = c.args.memory.now in
    let k = c.args.set in
    let p = c.args.page in
    let change = c.change.ensures.words in
    rw (inserted_is i m k p change.2.1.0 change.3.1 change.4)
    record { words = refl; changes = λ groups sound near. is_inserted i groups m sound k p c.change.ensures.kept near }
