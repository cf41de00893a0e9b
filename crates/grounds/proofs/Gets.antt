-- What follows of a get: what is got is zeros, nothing that rests or is spoilt is given out, harm is there where it is told, and there is room.
use Rattle.std.proofs.Common.{◌≡◌, ℕ, ◌+◌, ◌<◌, Bool, true, false, eqb, List, ◌++◌, length, get_or, None, sym, refl, ap, ◌∙◌, inl, arith}
use Rattle.std.proofs.lemmas.Bool.{and_from, eqb-false}
use Rattle.std.proofs.lemmas.Bool.Decides.{nat_tests}
use Rattle.grounds.specs.declared.block.Block.{Block}
use Rattle.grounds.specs.declared.event.Event.TheVariants.{Get}
use Rattle.grounds.specs.declared.answer.Answer.{Answer}
use Rattle.grounds.specs.declared.answer.Answer.TheVariants.{Place, Harmed}
use Rattle.grounds.specs.Lists.{part, over, all_zero}
use Rattle.grounds.specs.Blocks.{Limits, ground_size, class_of, room_for, apart_all, may_be, some_place}
use Rattle.grounds.specs.Events.{answer_number}
use Rattle.grounds.specs.Grounds.{State, all_blocks, got_at, mark_place, turned, turned_by, good_fields, clean_there}
use Rattle.grounds.specs.Worlds.{GoodLimits, Program}
use Rattle.grounds.specs.Promises.{Right}
use Rattle.grounds.specs.Statements.{GotIsZero, Rests, HarmIsThere, RoomForMany, NothingLeaks}
use Rattle.grounds.proofs.Lists.{every_take, every_parts, every_false}
use Rattle.grounds.proofs.Parts.{length_part_le, get_or_part, part_part, length_over, part_over_out}
use Rattle.grounds.proofs.Classes.{class_has, class_fits}
use Rattle.grounds.proofs.Happened.{Happened, turns_away, gets, spoils, happened}
use Rattle.grounds.proofs.Kept.{got_lies, mark_inside, lived_kept}
use Rattle.grounds.proofs.Room.{room_for_many}

-- ---- a get that is told a place, or harm

pub may_free : (l : Limits) (n a : ℕ) (bs : List Block) → may_be l n a bs ≡ true → apart_all a (room_for l n) bs ≡ true
may_free l n a bs may = grind (arith, nat_tests)

pub record Placed (l : Limits) (s : State) (g : List ℕ) (n a : ℕ) (h : List ℕ) : Type 0 where
  pub may : may_be l n a (all_blocks s) ≡ true
  pub clean : clean_there l g n a ≡ true
  pub written : h ≡ over (mark_place (got_at l n a)) l.marks g

pub placed : (l : Limits) (s : State) (g : List ℕ) (n a : ℕ) {x : Answer} {h : List ℕ} {t : State} → Happened l s g (Get n) x h t → x ≡ Place a →
    Placed l s g n a h
placed l s g n a (turns_away r t) e = let z : ◌≡◌ {A = ℕ} 0 2 = ap answer_number e in absurd (omega arith)
placed l s g n a (gets m k asked may clean) e = grind (arith, nat_tests)
placed l s g n a (spoils m k asked may clean) e = grind (arith, nat_tests)

pub harmed : (l : Limits) (s : State) (g : List ℕ) (n a : ℕ) {x : Answer} {h : List ℕ} {t : State} → Happened l s g (Get n) x h t → x ≡ Harmed a →
    clean_there l g n a ≡ false
harmed l s g n a (turns_away r t) e = let z : ◌≡◌ {A = ℕ} 0 5 = ap answer_number e in absurd (omega arith)
harmed l s g n a (gets m k asked may clean) e = grind (arith, nat_tests)
harmed l s g n a (spoils m k asked may clean) e = grind (arith, nat_tests)

-- ---- the statements

pub got_is_zero : (can : ℕ → Bool) (f : Program) → Right can f → GotIsZero can f
got_is_zero can f right l w n a good lived fits is =
    let s = w.state in
    let g = w.ground in
    let h = f.leaves w.memory g (Get n) in
    let kept = lived_kept can f right l good lived in
    let p = placed l s g n a (happened f l w (Get n) (right l w (Get n) good lived (and_from _ true fits refl))) is in
    let lie = got_lies can l good n a (all_blocks s) p.may kept.laid_out in
    let inside = mark_inside can l good (got_at l n a) g lie kept.long in
    let long : length h ≡ length g = ap length p.written ∙ length_over (mark_place (got_at l n a)) l.marks g inside in
    let kept_part : part a n h ≡ part a n g
    = ap (part a n) p.written ∙ part_over_out (mark_place (got_at l n a)) l.marks g inside a n (inl (omega (arith, lie))) in (
      omega (arith, lie, kept.long),
      ap all_zero (kept_part ∙ sym (part_part a n (room_for l n) g (omega (arith, lie)))) ∙ every_take (λ x. eqb x 0) n (part a (room_for l n) g) p.clean,
    )

pub rests : (can : ℕ → Bool) (f : Program) → Right can f → Rests can f
rests can f right l w n a good lived fits is =
    let s = w.state in
    let p = placed l s w.ground n a (happened f l w (Get n) (right l w (Get n) good lived (and_from _ true fits refl))) is in
    (every_parts _ s.out (s.resting ++ s.spoilt) (may_free l n a (all_blocks s) p.may)).1

pub harm_is_there : (can : ℕ → Bool) (f : Program) → Right can f → HarmIsThere can f
harm_is_there can f right l w n a good lived fits is =
    let g = w.ground in
    let there = part a (room_for l n) g in
    let unclean = harmed l w.state g n a (happened f l w (Get n) (right l w (Get n) good lived (and_from _ true fits refl))) is in
    let bad = every_false (λ x. eqb x 0) there 0 unclean in
    let i = bad.0 in
    let near : i < room_for l n = omega (arith, bad.1, length_part_le a (room_for l n) g) in
    (a + i, omega arith, omega arith, λ none. eqb-false (get_or there i 0) 0 bad.2 (get_or_part a (room_for l n) g i 0 near ∙ none))

-- a get of a small size is turned away only for want of room
pub small_turned : (can : ℕ → Bool) (l : Limits) → GoodLimits can l → can 0 ≡ true → (s : State) (n : ℕ) → 0 < n → 0 < class_of n l.classes →
    some_place l n (all_blocks s) (ground_size l) ≡ true → turned l s (Get n) ≡ None
unfolding good_fields turned_by
small_turned can l good able s n positive small some = grind (arith, nat_tests, class_has, class_fits)

pub room_for_one_more : (can : ℕ → Bool) (f : Program) → Right can f → RoomForMany can f
room_for_one_more can f right l w n good able lived positive small same fewer =
    let out = (lived_kept can f right l good lived).laid_out in
    small_turned can l good able w.state n positive small (room_for_many can l good n small (all_blocks w.state) same out.all_laid fewer)

pub nothing_leaks : (can : ℕ → Bool) (f : Program) → Right can f → NothingLeaks can f
unfolding turned_by
nothing_leaks can f right l w n good lived none = grind (arith, nat_tests)
