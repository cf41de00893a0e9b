-- What can have happened where an event was answered rightly: the cases of `RightStep`, each with what it says.
--     Asked l n                 n bytes are a size that is in range
--     Happened l s g e x h t    e was answered by x, the ground went from g to h, and the pieces from s to t
use Rattle.std.proofs.Common.{◌≡◌, ℕ, ◌<◌, ◌≤◌, Bool, true, false, cond, List, ◌∷◌, replicate, is_some, Some, None, Option, unwrap_or, sym, refl, ap, subst, arith}
use Rattle.std.proofs.lemmas.Bool.{true≢false}
use Rattle.std.proofs.lemmas.Bool.Decides.{nat_tests}
use Rattle.grounds.specs.declared.block.Block.{Block}
use Rattle.grounds.specs.declared.event.Event.{Event}
use Rattle.grounds.specs.declared.event.Event.TheVariants.{Get, Give, Size, Look, Garbled}
use Rattle.grounds.specs.declared.answer.Refusal.{Refusal}
use Rattle.grounds.specs.declared.answer.Refusal.TheVariants.{NotOut, NoRoom, OutOfRange}
use Rattle.grounds.specs.declared.answer.Answer.{Answer}
use Rattle.grounds.specs.declared.answer.Answer.TheVariants.{Refused, Done, Place, Number, Overrun, Harmed, Whole}
use Rattle.grounds.specs.Lists.{over}
use Rattle.grounds.specs.Blocks.{Limits, ground_size, may_be, some_place}
use Rattle.grounds.specs.Grounds.{State, all_blocks, find, without, out_at, got_at, rest_one, mark_place, marked, turned, turned_by, good_fields, place_of, after, ground_after, byte_whole, all_whole, clean_there}
use Rattle.grounds.specs.Worlds.{Program, World, asked}
use Rattle.grounds.specs.Promises.{RightAnswer, RightStep}
use Rattle.grounds.proofs.Found.{some_found}

pub record Asked (l : Limits) (n : ℕ) : Type 0 where
  pub some : 0 < n
  pub fits : n ≤ ground_size l

abbrev pub one_out : Limits → State → ℕ → ℕ → State
one_out l s n a = record { out = got_at l n a ∷ s.out; resting = s.resting; spoilt = s.spoilt }

abbrev pub one_spoilt : Limits → State → ℕ → ℕ → State
one_spoilt l s n a = record { out = s.out; resting = s.resting; spoilt = got_at l n a ∷ s.spoilt }

abbrev pub one_rests : Limits → State → ℕ → Block → State
one_rests l s a b = record { out = without a s.out; resting = rest_one l b s.resting; spoilt = s.spoilt }

abbrev pub one_overrun : State → ℕ → Block → State
one_overrun s a b = record { out = without a s.out; resting = s.resting; spoilt = b ∷ s.spoilt }

pub data Happened (l : Limits) (s : State) (g : List ℕ) : Event → Answer → List ℕ → State → Type 0 where
  turns_away : {e : Event} (r : Refusal) → turned l s e ≡ Some r → Happened l s g e (Refused r (place_of e)) g s
  gets : (n a : ℕ) → Asked l n → may_be l n a (all_blocks s) ≡ true → clean_there l g n a ≡ true →
      Happened l s g (Get n) (Place a) (over (mark_place (got_at l n a)) l.marks g) (one_out l s n a)
  spoils : (n a : ℕ) → Asked l n → may_be l n a (all_blocks s) ≡ true → clean_there l g n a ≡ false →
      Happened l s g (Get n) (Harmed a) g (one_spoilt l s n a)
  gives : (a : ℕ) (b : Block) → find a s.out ≡ Some b → marked l g b ≡ true →
      Happened l s g (Give a) Done (over a (replicate b.room 0) g) (one_rests l s a b)
  overruns : (a : ℕ) (b : Block) → find a s.out ≡ Some b → marked l g b ≡ false →
      Happened l s g (Give a) (Overrun (mark_place b)) g (one_overrun s a b)
  sizes : (a : ℕ) (b : Block) → find a s.out ≡ Some b → Happened l s g (Size a) (Number b.size) g s
  looks_overrun : (b : Block) → find b.at s.out ≡ Some b → marked l g b ≡ false → Happened l s g Look (Overrun (mark_place b)) g s
  looks_harmed : (a : ℕ) → a < ground_size l → byte_whole s g a ≡ false → Happened l s g Look (Harmed a) g s
  looks_whole : all_whole l s g ≡ true → Happened l s g Look Whole g s

-- ---- what it says that an event is not turned away

none_cond : (b : Bool) (o : Option Refusal) (r : Refusal) → cond b o (Some r) ≡ None → (b ≡ true) × (o ≡ None)
none_cond true o r h = (refl, h)
none_cond false o r h = absurd (true≢false (ap is_some h))

pub get_taken : (l : Limits) (s : State) (n : ℕ) → turned l s (Get n) ≡ None → Asked l n
unfolding good_fields
get_taken l s n h = grind (arith, nat_tests)

pub get_room : (l : Limits) (s : State) (n : ℕ) → turned l s (Get n) ≡ None → some_place l n (all_blocks s) (ground_size l) ≡ true
unfolding turned_by
get_room l s n h = (none_cond (some_place l n (all_blocks s) (ground_size l)) None NoRoom (none_cond _ (turned_by l s (Get n)) OutOfRange h).1).0

pub give_taken : (l : Limits) (s : State) (a : ℕ) → turned l s (Give a) ≡ None → (b : Block) × (find a s.out ≡ Some b)
unfolding turned_by
give_taken l s a h = some_found a s.out (none_cond (is_some (find a s.out)) None NotOut (none_cond _ (turned_by l s (Give a)) OutOfRange h).1).0

pub size_taken : (l : Limits) (s : State) (a : ℕ) → turned l s (Size a) ≡ None → (b : Block) × (find a s.out ≡ Some b)
unfolding turned_by
size_taken l s a h = some_found a s.out (none_cond (is_some (find a s.out)) None NotOut (none_cond _ (turned_by l s (Size a)) OutOfRange h).1).0

pub out_found : (s : State) (a : ℕ) (b : Block) → find a s.out ≡ Some b → out_at s a ≡ b
out_found s a b h = ap (λ (o : Option Block). unwrap_or o (record { at = 0; size = 0; room = 0 })) h

-- ---- a refusal changes nothing

pub after_refused : (l : Limits) (s : State) (e : Event) (r : Refusal) (a : ℕ) → after l s e (Refused r a) ≡ s
unfolding after
after_refused l s (Get n) r a = refl
after_refused l s (Give b) r a = refl
after_refused l s (Size b) r a = refl
after_refused l s Look r a = refl
after_refused l s (Garbled n) r a = refl

pub ground_refused : (l : Limits) (s : State) (g : List ℕ) (e : Event) (r : Refusal) (a : ℕ) → ground_after l s g e (Refused r a) ≡ g
unfolding ground_after
ground_refused l s g (Get n) r a = refl
ground_refused l s g (Give b) r a = refl
ground_refused l s g (Size b) r a = refl
ground_refused l s g Look r a = refl
ground_refused l s g (Garbled n) r a = refl

module _ (l : Limits) (s : State) (g : List ℕ) where
  give_happened : (a : ℕ) (b : Block) → find a s.out ≡ Some b → marked l g (out_at s a) ≡ true →
      Happened l s g (Give a) Done (over a (replicate (out_at s a).room 0) g) (one_rests l s a (out_at s a))
  give_happened a b f h = grind (arith, out_found, gives)

  overrun_happened : (a x : ℕ) (b : Block) → find a s.out ≡ Some b → x ≡ mark_place (out_at s a) → marked l g (out_at s a) ≡ false →
      Happened l s g (Give a) (Overrun x) g (one_overrun s a (out_at s a))
  overrun_happened a x b f e h = grind (arith, out_found, overruns)

  size_happened : (a m : ℕ) (b : Block) → find a s.out ≡ Some b → m ≡ (out_at s a).size → Happened l s g (Size a) (Number m) g s
  size_happened a m b f e = grind (arith, out_found, sizes)

  look_happened : (x : ℕ) (b : Block) → find b.at s.out ≡ Some b → x ≡ mark_place b → marked l g b ≡ false → Happened l s g Look (Overrun x) g s
  look_happened x b f e h = subst (λ (k : ℕ). Happened l s g Look (Overrun k) g s) (sym e) (looks_overrun b f h)

  taken_happened : (e : Event) (x : Answer) → turned l s e ≡ None → RightAnswer l s g e x → Happened l s g e x (ground_after l s g e x) (after l s e x)
  unfolding RightAnswer after ground_after
  taken_happened (Get n) (Refused r a) t h = absurd h
  taken_happened (Get n) Done t h = absurd h
  taken_happened (Get n) (Place a) t h = gets n a (get_taken l s n t) h.0 h.1
  taken_happened (Get n) (Number m) t h = absurd h
  taken_happened (Get n) (Overrun a) t h = absurd h
  taken_happened (Get n) (Harmed a) t h = spoils n a (get_taken l s n t) h.0 h.1
  taken_happened (Get n) Whole t h = absurd h
  taken_happened (Give a) (Refused r b) t h = absurd h
  taken_happened (Give a) Done t h = let f = give_taken l s a t in give_happened a f.0 f.1 h
  taken_happened (Give a) (Place b) t h = absurd h
  taken_happened (Give a) (Number m) t h = absurd h
  taken_happened (Give a) (Overrun b) t h = let f = give_taken l s a t in overrun_happened a b f.0 f.1 h.0 h.1
  taken_happened (Give a) (Harmed b) t h = absurd h
  taken_happened (Give a) Whole t h = absurd h
  taken_happened (Size a) (Refused r b) t h = absurd h
  taken_happened (Size a) Done t h = absurd h
  taken_happened (Size a) (Place b) t h = absurd h
  taken_happened (Size a) (Number m) t h = let f = size_taken l s a t in size_happened a m f.0 f.1 h
  taken_happened (Size a) (Overrun b) t h = absurd h
  taken_happened (Size a) (Harmed b) t h = absurd h
  taken_happened (Size a) Whole t h = absurd h
  taken_happened Look (Refused r a) t h = absurd h
  taken_happened Look Done t h = absurd h
  taken_happened Look (Place a) t h = absurd h
  taken_happened Look (Number m) t h = absurd h
  taken_happened Look (Overrun a) t h = look_happened a h.0 h.1 h.2 h.3
  taken_happened Look (Harmed a) t h = looks_harmed a h.0 h.1
  taken_happened Look Whole t h = looks_whole h
  taken_happened (Garbled n) x t h = absurd h

-- each event that is asked of a keeper with right answers is one of the cases
pub happened : (f : Program) (l : Limits) (w : World) (e : Event) → RightStep f l w e →
    Happened l w.state w.ground e (f.answers w.memory w.ground e) (asked f l w e).ground (asked f l w e).state
happened f l w e step = grind (arith, after_refused, turns_away, taken_happened)
