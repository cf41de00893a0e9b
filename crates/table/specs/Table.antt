-- The table: what a keeper has to know of a ground, nothing of it twice, and what becomes of it. Assumes nothing: these are definitions.
--     Table               of each page and of each place, what is known; and where those that rest begin
--     touches p b         whether the piece b touches the page p
--     placed t b          the table with one more piece, b
--     sized t a n         the table where n bytes were asked for what begins at a and is out; 0 for what is not out
--     marked_spoilt t a   the table where what begins at a is spoilt
--     released t a        the table without the piece that begins at a
--     rested l t a        the table where what begins at a was given back and rests, and those that rest too long are free
--     fits c u            whether a piece that takes c may begin at the unit u of a page; a unit is 16 bytes
--     free_unit t c p     the lowest unit of the page p where a piece that takes c may begin; units where there is none
--     open_page t c p     whether such a piece may be on the page p
--     found_small l t c   where the lowest such place is; the ground's length where there is none
use Rattle.std.specs.Prelude.{ℕ, ◌+◌, ◌-◌, ◌*◌, ◌/◌, ◌%◌, Bool, cond, not, ◌&&◌, ◌||◌, List, [], ◌∷◌, take, drop, fold, ◌==◌, nat_le, nat_lt}
use Rattle.grounds.specs.declared.block.Block.{Block}
use Rattle.grounds.specs.Numbers.{page, grain}
use Rattle.grounds.specs.Lists.{first}
use Rattle.grounds.specs.Blocks.{Limits, ground_size, apart}

-- where no piece touches a page, its `kind` and `head` say nothing
pub record Table : Type 0 where
  pub kind : ℕ → ℕ  -- of a page: how much the pieces that touch it take
  pub head : ℕ → ℕ  -- of a page: the page on which the pieces that touch it begin
  pub used : ℕ → ℕ  -- of a page: how many pieces touch it
  pub taken : ℕ → ℕ  -- of a place: 1 if a piece begins there, else 0
  pub asked : ℕ → ℕ  -- of a place: how many bytes were asked for the piece that is out and begins there; else 0
  pub spoilt : ℕ → ℕ  -- of a place: 1 if a piece that is spoilt begins there, else 0
  pub queue : List ℕ  -- where those that rest begin, the last first

abbrev pub new_table : Table
new_table = record { kind = λ p. 0; head = λ p. 0; used = λ p. 0; taken = λ a. 0; asked = λ a. 0; spoilt = λ a. 0; queue = [] }

abbrev pub touches : ℕ → Block → Bool
touches p b = not (apart (p * page) page b)

-- 1 where a test passes, else 0
abbrev pub one_if : Bool → ℕ
one_if b = cond b 1 0

abbrev pub placed : Table → Block → Table
placed t b =
    record {
      kind = λ p. cond (touches p b) b.room (t.kind p);
      head = λ p. cond (touches p b) (b.at / page) (t.head p);
      used = λ p. one_if (touches p b) + t.used p;
      taken = λ a. one_if (b.at == a) + t.taken a;
      asked = t.asked;
      spoilt = t.spoilt;
      queue = t.queue;
    }

abbrev pub sized : Table → ℕ → ℕ → Table
sized t a n =
    record {
      kind = t.kind;
      head = t.head;
      used = t.used;
      taken = t.taken;
      asked = λ x. cond (a == x) n (t.asked x);
      spoilt = t.spoilt;
      queue = t.queue;
    }

abbrev pub marked_spoilt : Table → ℕ → Table
marked_spoilt t a =
    record {
      kind = t.kind;
      head = t.head;
      used = t.used;
      taken = t.taken;
      asked = t.asked;
      spoilt = λ x. one_if (a == x) + t.spoilt x;
      queue = t.queue;
    }

abbrev pub queued : Table → List ℕ → Table
queued t q =
    record { kind = t.kind; head = t.head; used = t.used; taken = t.taken; asked = t.asked; spoilt = t.spoilt; queue = q }

-- the piece that begins at a, as far as the table knows it: the pieces that touch its page take as much
abbrev pub known : Table → ℕ → Block
known t a = record { at = a; size = t.asked a; room = t.kind (a / page) }

abbrev pub released : Table → ℕ → Table
released t a =
    record {
      kind = t.kind;
      head = t.head;
      used = λ p. t.used p - one_if (touches p (known t a));
      taken = λ x. t.taken x - one_if (a == x);
      asked = t.asked;
      spoilt = t.spoilt;
      queue = t.queue;
    }

abbrev pub rested : Limits → Table → ℕ → Table
rested l t a =
    let q : List ℕ = a ∷ t.queue in
    fold released (queued (sized t a 0) (take l.rests q)) (drop l.rests q)

-- ---- the lowest place of a small piece

abbrev pub units : ℕ
units = page / grain

abbrev pub fits : ℕ → ℕ → Bool
fits c u = (grain * u) % c == 0 && nat_le (grain * u + c) page

abbrev pub unit_place : ℕ → ℕ → ℕ
unit_place p u = p * page + grain * u

unfoldable pub free_unit : Table → ℕ → ℕ → ℕ
free_unit t c p = first (λ u. fits c u && t.taken (unit_place p u) == 0) units

abbrev pub open_page : Table → ℕ → ℕ → Bool
open_page t c p = (t.used p == 0 || t.kind p == c) && nat_lt (free_unit t c p) units

unfoldable pub found_small : Limits → Table → ℕ → ℕ
found_small l t c =
    let p : ℕ = first (open_page t c) l.pages in
    cond (nat_lt p l.pages) (unit_place p (free_unit t c p)) (ground_size l)
