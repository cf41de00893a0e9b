-- Pieces of a ground, and where one may be. Assumes nothing: these are definitions.
--     Block             a piece: `at`, where it begins; `size`, how many bytes were asked for; `room`, how many it takes (src/block.rt)
--     Limits            what is fixed at opening
--     class             how much small pieces take: one of a short list of sizes
--     class_of n cs     the least class that has n bytes and the mark, and 0 where none has: such a piece is large
--     room_for l n      how much a piece of n bytes takes: its class or, if it is large, whole pages
--     apart a n b       whether b shares no byte with the n bytes from a on
--     page_is_of p c bs whether all pieces that touch the page p take c
--     may_be l n a bs   whether a piece of n bytes may begin at a, beside the pieces bs
--     some_place l n bs k      whether it may begin at some place below k
use Rattle.std.specs.Prelude.{ℕ, zero, suc, ◌+◌, ◌-◌, ◌*◌, ◌/◌, ◌%◌, Bool, false, cond, ◌&&◌, ◌||◌, List, [], ◌∷◌, ◌==◌, nat_le, nat_lt}
use Rattle.grounds.specs.declared.block.Block.{Block}
use Rattle.grounds.specs.Numbers.{page, mark_length, page_words, rest_words, fixed_words}
use Rattle.grounds.specs.Lists.{every}

pub record Limits : Type 0 where
  pub events_can : ℕ → Bool  -- which events the keeper can do, by their numbers; 4 stands for large pieces
  pub pages : ℕ
  pub classes : List ℕ  -- rising
  pub rests : ℕ  -- how many of those given back rest
  pub marks : List ℕ  -- the bytes of the mark

abbrev pub ground_size : Limits → ℕ
ground_size l = l.pages * page

abbrev pub memory_words : Limits → ℕ
memory_words l = page_words * l.pages + (rest_words * l.rests + fixed_words)

unfoldable pub class_of : ℕ → List ℕ → ℕ
class_of n [] = 0
class_of n (c ∷ cs) = cond (nat_le (n + mark_length) c) c (class_of n cs)

abbrev pub large : ℕ → ℕ
large n = page * ((n + mark_length + (page - 1)) / page)

abbrev pub room_for : Limits → ℕ → ℕ
room_for l n = let c : ℕ = class_of n l.classes in cond (c == 0) (large n) c

abbrev pub apart : ℕ → ℕ → Block → Bool
apart a n b = nat_le (a + n) b.at || nat_le (b.at + b.room) a

abbrev pub apart_all : ℕ → ℕ → List Block → Bool
apart_all a n = every (apart a n)

abbrev pub page_is_of : ℕ → ℕ → List Block → Bool
page_is_of p c = every (λ b. apart (p * page) page b || b.room == c)

-- a small piece is on a page of such, at a multiple of what it takes; a large one is on pages of its own; neither touches another
abbrev pub small_there : ℕ → ℕ → ℕ → List Block → Bool
small_there ps c a bs =
    let p : ℕ = a / page in
    ((nat_lt p ps && (a % page) % c == 0) && nat_le ((a % page) + c) page) && (page_is_of p c bs && apart_all a c bs)

abbrev pub large_there : ℕ → ℕ → ℕ → List Block → Bool
large_there ps n a bs = (a % page == 0 && nat_le (a + n) (ps * page)) && apart_all a n bs

abbrev pub may_be : Limits → ℕ → ℕ → List Block → Bool
may_be l n a bs =
    let c : ℕ = class_of n l.classes in cond (c == 0) (large_there l.pages (large n) a bs) (small_there l.pages c a bs)

unfoldable pub some_place : Limits → ℕ → List Block → ℕ → Bool
some_place l n bs zero = false
some_place l n bs (suc a) = may_be l n a bs || some_place l n bs a
