-- Where a table stands for the pieces, it answers rightly, and goes on to stand for them.
use Rattle.std.proofs.Common.{◌≡◌, ℕ, ◌/◌, Bool, true, false, cond, ◌&&◌, ltb, List, replicate, is_some, Some, None, Option, unwrap_or, sym, refl, ap, ◌∙◌, subst, ap₂, arith}
use Rattle.std.proofs.lemmas.Bool.{lt-ltb, le-ltb}
use Rattle.grounds.specs.declared.block.Block.{Block}
use Rattle.grounds.specs.declared.event.Event.{Event}
use Rattle.grounds.specs.declared.event.Event.TheVariants.{Get, Give, Size, Look, Garbled}
use Rattle.grounds.specs.declared.answer.Refusal.{Refusal}
use Rattle.grounds.specs.declared.answer.Refusal.TheVariants.{NoEvent, OutOfRange, NotOut, NoRoom}
use Rattle.grounds.specs.declared.answer.Answer.{Answer}
use Rattle.grounds.specs.declared.answer.Answer.TheVariants.{Refused, Done, Place, Number, Overrun, Harmed, Whole}
use Rattle.grounds.specs.Numbers.{page}
use Rattle.grounds.specs.Lists.{over}
use Rattle.grounds.specs.Blocks.{Limits, ground_size}
use Rattle.grounds.specs.Events.{event_number, no_event}
use Rattle.grounds.specs.Grounds.{State, find, out_at, mark_place, marked, turned, turned_by, good_fields, place_of, after, ground_after, clean_there}
use Rattle.grounds.specs.Lowest.{lowest_place, look_answer, lowest_answer, by_turned, the_answer}
use Rattle.grounds.specs.Worlds.{GoodLimits}
use Rattle.grounds.proofs.Found.{find_at}
use Rattle.grounds.proofs.Happened.{get_taken, give_taken, out_found, one_overrun, one_rests}
use Rattle.grounds.proofs.LowestRight.{lowest_may}
use Rattle.table.specs.Table.{Table, known, sized, marked_spoilt, rested}
use Rattle.table.specs.Stands.{Stands}
use Rattle.table.specs.Answers.{table_turned_by, table_turned, table_look, table_chosen, table_answer, table_after, table_ground}
use Rattle.table.specs.Theorems.{TableRight}
use Rattle.table.proofs.Outs.{out_known}
use Rattle.table.proofs.Runs.{place_found, room_known}
use Rattle.table.proofs.Looks.{changed_found, stray_found}
use Rattle.table.proofs.Standing.{got_stands, spoilt_stands, overrun_stands, rest_stands}

-- ---- the same is turned away

module _ (can : ℕ → Bool) (l : Limits) (good : GoodLimits can l) (t : Table) (s : State) (stands : Stands l t s) where
  -- something was asked for what begins there exactly if it is out
  asked_out : (a : ℕ) → ltb 0 (t.asked a) ≡ is_some (find a s.out)
  asked_out a = go (find a s.out) refl
    where
      go : (o : Option Block) → find a s.out ≡ o → ltb 0 (t.asked a) ≡ is_some (find a s.out)
      go None e =
          let none : t.asked a ≡ 0 = sym (stands.pieces.sizes a) ∙ ap (λ (o : Option Block). (unwrap_or o (record { at = 0; size = 0; room = 0 })).size) e in
          le-ltb 0 (t.asked a) (omega arith) ∙ sym (ap is_some e)
      go (Some b) e = lt-ltb 0 (t.asked a) ((out_known l t s a stands).0 b e).0 ∙ sym (ap is_some e)

  same_turned_by : (e : Event) → table_turned_by l t e ≡ turned_by l s e
  unfolding table_turned_by turned_by
  same_turned_by (Get n) = ap (λ (b : Bool). cond b None (Some NoRoom)) (sym (room_known can l t s n good stands))
  same_turned_by (Give a) = ap (λ (b : Bool). cond b None (Some NotOut)) (asked_out a)
  same_turned_by (Size a) = ap (λ (b : Bool). cond b None (Some NotOut)) (asked_out a)
  same_turned_by Look = refl
  same_turned_by (Garbled n) = refl

  pub same_turned : (e : Event) → table_turned l t e ≡ turned l s e
  same_turned e =
      ap
      (λ (o : Option Refusal). cond (no_event e) (Some NoEvent) (cond (l.events_can (event_number e) && good_fields l e) o (Some OutOfRange)))
      (same_turned_by e)

  -- ---- and any other event has the same answer

  -- what the table knows of a piece that is out is that piece
  known_is : (a : ℕ) (b : Block) → find a s.out ≡ Some b → known t a ≡ b
  known_is a b f =
      let k = (out_known l t s a stands).0 b f in
      let at : a ≡ b.at = sym (find_at a s.out b f) in
      let size : t.asked a ≡ b.size = k.1 in
      let room : t.kind (a / page) ≡ b.room = k.2 in
      λ i. record { at = at i; size = size i; room = room i }

  known_out : (a : ℕ) (b : Block) → find a s.out ≡ Some b → known t a ≡ out_at s a
  known_out a b f = known_is a b f ∙ sym (out_found s a b f)

  module _ (g : List ℕ) where
    same_look : table_look l t g ≡ look_answer l s g
    unfolding table_look look_answer
    same_look =
        ap₂
        (λ (m h : ℕ). cond (ltb m (ground_size l)) (Overrun m) (cond (ltb h (ground_size l)) (Harmed h) Whole))
        (changed_found l t s g stands)
        (stray_found l t s g stands)

    same_chosen : (e : Event) → turned l s e ≡ None → table_chosen l t g e ≡ lowest_answer l s g e
    unfolding table_chosen lowest_answer
    same_chosen (Get n) taken = ap (λ (a : ℕ). cond (clean_there l g n a) (Place a) (Harmed a)) (place_found can l t s n good stands)
    same_chosen (Give a) taken =
        let f = give_taken l s a taken in
        ap (λ (b : Block). cond (marked l g b) Done (Overrun (mark_place b))) (known_out a f.0 f.1)
    same_chosen (Size a) taken = ap Number (sym (stands.pieces.sizes a))
    same_chosen Look taken = same_look
    same_chosen (Garbled n) taken = refl

    same_answer : (e : Event) → table_answer l t g e ≡ the_answer l s g e
    unfolding by_turned
    same_answer e = ap (λ (o : Option Refusal). by_turned o (place_of e) (table_chosen l t g e)) (same_turned e) ∙ go (turned l s e) refl
      where
        go : (o : Option Refusal) → turned l s e ≡ o → by_turned o (place_of e) (table_chosen l t g e) ≡ by_turned o (place_of e) (lowest_answer l s g e)
        go (Some r) is = refl
        go None is = same_chosen e is

    -- ---- what becomes of table and ground

    abbrev Both : Event → Answer → Type 0
    Both e x = Stands l (table_after l t e x) (after l s e x) × (table_ground l t g e x ≡ ground_after l s g e x)

    refused_both : (e : Event) (r : Refusal) (a : ℕ) → Both e (Refused r a)
    unfolding table_after after table_ground ground_after
    refused_both (Get n) r a = (stands, refl)
    refused_both (Give b) r a = (stands, refl)
    refused_both (Size b) r a = (stands, refl)
    refused_both Look r a = (stands, refl)
    refused_both (Garbled n) r a = (stands, refl)

    get_both : (n : ℕ) → turned l s (Get n) ≡ None → (b : Bool) → Both (Get n) (cond b (Place (lowest_place l s n)) (Harmed (lowest_place l s n)))
    unfolding table_after after table_ground ground_after
    get_both n taken true =
        (got_stands can l good t s stands n (lowest_place l s n) (lowest_may l s stands.pieces.laid_out n taken) (get_taken l s n taken).some, refl)
    get_both n taken false = (spoilt_stands can l good t s stands n (lowest_place l s n) (lowest_may l s stands.pieces.laid_out n taken), refl)

    give_both : (a : ℕ) (b : Block) → find a s.out ≡ Some b → (m : Bool) → Both (Give a) (cond m Done (Overrun (mark_place (out_at s a))))
    unfolding table_after after table_ground ground_after
    give_both a b f true = (
      subst (λ (d : Block). Stands l (rested l t a) (one_rests l s a d)) (sym (out_found s a b f)) (rest_stands can l good t s stands a b f),
      ap (λ (d : Block). over a (replicate d.room 0) g) (known_out a b f),
    )
    give_both a b f false = (
      subst (λ (d : Block). Stands l (marked_spoilt (sized t a 0) a) (one_overrun s a d)) (sym (out_found s a b f)) (overrun_stands can l good t s stands a b f),
      refl,
    )

    chosen_both : (e : Event) → turned l s e ≡ None → Both e (lowest_answer l s g e)
    unfolding lowest_answer table_after after table_ground ground_after
    chosen_both (Get n) taken = get_both n taken (clean_there l g n (lowest_place l s n))
    chosen_both (Give a) taken = let f = give_taken l s a taken in give_both a f.0 f.1 (marked l g (out_at s a))
    chosen_both (Size a) taken = (stands, refl)
    chosen_both Look taken = (stands, refl)
    chosen_both (Garbled n) taken = (stands, refl)

    answer_both : (e : Event) → Both e (the_answer l s g e)
    unfolding by_turned
    answer_both e = go (turned l s e) refl
      where
        go : (o : Option Refusal) → turned l s e ≡ o → Both e (by_turned o (place_of e) (lowest_answer l s g e))
        go (Some r) is = refused_both e r (place_of e)
        go None is = chosen_both e is

pub table_right : TableRight
table_right can l t s g e good stands =
    let same = same_answer can l good t s stands g e in
    let both = subst (Both can l good t s stands g e) (sym same) (answer_both can l good t s stands g e) in
    record { answer = same; stands = both.0; ground = both.1 }
