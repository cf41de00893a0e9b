-- What it means that a table stands for the pieces of a ground. Assumes nothing: these are definitions and statements.
--     times a bs, on p bs      how many of the pieces bs begin at a; how many touch the page p
--     Pieces l t s, Stands l t s      t knows the pieces s; and also how they rest: it stands for s
use Rattle.std.specs.Prelude.{◌≡◌, ℕ, ◌/◌, ◌<◌, ◌≤◌, true, List, map, length, count_by, nat_eq}
use Rattle.std.specs.List.{AllByRecursion}
use Rattle.grounds.specs.declared.block.Block.{Block}
use Rattle.grounds.specs.Numbers.{page}
use Rattle.grounds.specs.Blocks.{Limits}
use Rattle.grounds.specs.Grounds.{State, all_blocks, out_at}
use Rattle.grounds.specs.Statements.{LaidOut}
use Rattle.table.specs.Table.{Table, touches}

abbrev pub times : ℕ → List Block → ℕ
times a = count_by (λ b. nat_eq b.at a)

abbrev pub on : ℕ → List Block → ℕ
on p = count_by (touches p)

-- the table knows of a piece what it has to
abbrev pub Knows : Table → Block → Type 0
Knows t b = (p : ℕ) → touches p b ≡ true → (t.kind p ≡ b.room) × (t.head p ≡ b.at / page)

-- what is known of the pieces, but for the order in which they rest
pub record Pieces (l : Limits) (t : Table) (s : State) : Type 0 where
  pub laid_out : LaidOut l (all_blocks s)
  pub knows : AllByRecursion (Knows t) (all_blocks s)
  pub once : (a : ℕ) → times a (all_blocks s) ≡ t.taken a
  pub pages : (p : ℕ) → on p (all_blocks s) ≡ t.used p
  pub sizes : (a : ℕ) → (out_at s a).size ≡ t.asked a
  pub some : AllByRecursion (λ b. 0 < b.size) s.out
  pub spoils : (a : ℕ) → times a s.spoilt ≡ t.spoilt a

pub record Stands (l : Limits) (t : Table) (s : State) : Type 0 where
  pub pieces : Pieces l t s
  pub rests : map (λ b. b.at) s.resting ≡ t.queue
  pub few : length s.resting ≤ l.rests
