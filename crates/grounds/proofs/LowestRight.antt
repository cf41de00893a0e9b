-- Where the pieces are laid out, the answer under the rule of the lowest place is a right answer.
use Rattle.std.proofs.Common.{◌≡◌, ℕ, ◌<◌, ◌≤◌, Bool, true, false, cond, not, ◌&&◌, eqb, ◌⊎◌, List, [], ◌∷◌, ◌++◌, is_some, Some, None, sym, refl, ap, ◌∙◌, inl, inr, ⊎_elim, arith}
use Rattle.std.specs.List.{ContainsAt as Has}
use Rattle.std.proofs.ByRecursion.{has_append_left}
use Rattle.std.proofs.lemmas.Bool.{and_from, cond_both, cond-true, cond-false, eq-eqb, ne_eqb, not_from_false, cases_Bool, cases_eq, true≢false}
use Rattle.std.proofs.lemmas.Bool.Decides.{Decides-below_and}
use Rattle.std.proofs.lemmas.Bool.Decides.{nat_tests}
use Rattle.grounds.specs.declared.block.Block.{Block}
use Rattle.grounds.specs.declared.event.Event.{Event}
use Rattle.grounds.specs.declared.event.Event.TheVariants.{Get, Give, Size, Look, Garbled}
use Rattle.grounds.specs.declared.answer.Answer.TheVariants.{Done, Place, Overrun, Harmed}
use Rattle.grounds.specs.Lists.{any}
use Rattle.grounds.specs.Blocks.{Limits, ground_size, apart, may_be}
use Rattle.grounds.specs.Grounds.{State, all_blocks, find, out_at, mark_place, marked, turned, byte_whole, bytes_whole, marks_whole, all_whole, clean_there}
use Rattle.grounds.specs.Lowest.{lowest_place, lowest_overrun, lowest_harm, look_answer, lowest_answer}
use Rattle.grounds.specs.Promises.{RightAnswer}
use Rattle.grounds.specs.Statements.{is_laid, LaidOut}
use Rattle.grounds.proofs.Lists.{has_cases, has_here, has_later, every_has, every_from_has, any_true, any_from_has, pair_of}
use Rattle.grounds.proofs.First.{first_hit, first_found}
use Rattle.grounds.proofs.Apart.{Apart, apart_tells, apart_swaps, Lies, lies}
use Rattle.grounds.proofs.Happened.{get_room}
use Rattle.grounds.proofs.Room.{decides_some_place}

-- a piece of a list is found at its beginning, where no other begins there
pub find_only : (bs : List Block) (b : Block) → Has bs b → ((c : Block) → Has bs c → c.at ≡ b.at → c ≡ b) → find b.at bs ≡ Some b
unfolding find
find_only [] b (k, near, at) only = absurd (omega arith)
find_only (c ∷ cs) b has only = go (cases_eq b.at c.at) (has_cases c cs b has) (find_only cs b)
  where
    go : (b.at ≡ c.at) ⊎ (b.at ≡ c.at → ⊥) → (b ≡ c) ⊎ Has cs b →
        (Has cs b → ((d : Block) → Has cs d → d.at ≡ b.at → d ≡ b) → find b.at cs ≡ Some b) →
        cond (eqb b.at c.at) (Some c) (find b.at cs) ≡ Some b
    go (inl same) where_it_is rest =
        cond-true (eqb b.at c.at) (Some c) (find b.at cs) (eq-eqb b.at c.at same) ∙ ap Some (only c (has_here c cs) (sym same))
    go (inr other) (inl is) rest = absurd (other (ap (λ (d : Block). d.at) is))
    go (inr other) (inr later) rest =
        cond-false (eqb b.at c.at) (Some c) (find b.at cs) (ne_eqb b.at c.at other)
        ∙ rest later (λ d hd. only d (has_later c cs d hd))

module _ (l : Limits) (s : State) (out : LaidOut l (all_blocks s)) where
  in_all : (b : Block) → Has s.out b → Has (all_blocks s) b
  in_all b has = has_append_left s.out (s.resting ++ s.spoilt) b has

  pub out_lies : (b : Block) → Has s.out b → Lies l b
  out_lies b has = lies l b (every_has (is_laid l) (all_blocks s) b out.all_laid (in_all b has))

  -- no two begin at the same place
  pub out_once : (b c : Block) → Has s.out b → Has s.out c → b.at ≡ c.at → b ≡ c
  out_once b c hb hc same =
      ⊎_elim
      (λ e. e)
      (λ far. absurd (go (apart_tells b.at b.room c far)))
      (pair_of (λ b. apart b.at b.room) apart_swaps (all_blocks s) out.no_shared_byte b c (in_all b hb) (in_all c hc))
    where
      go : Apart b.at b.room c → ⊥
      go (inl past) = omega (arith, out_lies b hb)
      go (inr before) = omega (arith, out_lies c hc)

  pub out_finds : (b : Block) → Has s.out b → find b.at s.out ≡ Some b
  out_finds b has = find_only s.out b has (λ c hc. out_once c b hc has)

  pub lowest_may : (n : ℕ) → turned l s (Get n) ≡ None → may_be l n (lowest_place l s n) (all_blocks s) ≡ true
  lowest_may n taken =
      let t : ℕ → Bool = λ a. may_be l n a (all_blocks s) in
      let some = (decides_some_place l n (all_blocks s) (ground_size l)).0 (get_room l s n taken) in
      first_hit t (ground_size l) (first_found t (ground_size l) some.0 some.1 some.2).0

  module _ (g : List ℕ) where
    overrun_right : lowest_overrun l s g < ground_size l → RightAnswer l s g Look (Overrun (lowest_overrun l s g))
    unfolding RightAnswer
    overrun_right low = grind (arith, nat_tests, first_hit, any_true, out_finds)

    harm_right : lowest_harm l s g < ground_size l → RightAnswer l s g Look (Harmed (lowest_harm l s g))
    unfolding RightAnswer
    harm_right low = grind (arith, nat_tests, first_hit)

    whole_right : ground_size l ≤ lowest_overrun l s g → ground_size l ≤ lowest_harm l s g → all_whole l s g ≡ true
    unfolding bytes_whole
    whole_right no_overrun no_harm =
        and_from
        (marks_whole l g s.out)
        (bytes_whole s g (ground_size l))
        (every_from_has (marked l g) s.out mark_there)
        ((Decides-below_and (byte_whole s g) (λ x. byte_whole s g x ≡ true) (bytes_whole s g) (λ x. (λ h. h, λ h. h)) refl (λ _. refl) (ground_size l)).1 byte_there)
      where
        mark_there : (b : Block) → Has s.out b → marked l g b ≡ true
        mark_there b has = ⊎_elim (λ e. e) (λ e. absurd (no e)) (cases_Bool (marked l g b))
          where
            no : marked l g b ≡ false → ⊥
            no e =
                let a = mark_place b in
                let hit = any_from_has (λ b. eqb (mark_place b) a && not (marked l g b)) s.out b has (and_from (eqb a a) _ (eq-eqb a a refl) (not_from_false (marked l g b) e)) in
                let low = (first_found (λ a. any (λ b. eqb (mark_place b) a && not (marked l g b)) s.out) (ground_size l) a (omega (arith, out_lies b has)) hit).0 in
                omega arith

        byte_there : (x : ℕ) → x < ground_size l → byte_whole s g x ≡ true
        byte_there x near = ⊎_elim (λ e. e) (λ e. absurd (no e)) (cases_Bool (byte_whole s g x))
          where
            no : byte_whole s g x ≡ false → ⊥
            no e =
                let low = (first_found (λ a. not (byte_whole s g a)) (ground_size l) x near (not_from_false (byte_whole s g x) e)).0 in omega arith

    look_right : RightAnswer l s g Look (look_answer l s g)
    unfolding RightAnswer look_answer
    look_right = grind (arith, overrun_right, harm_right, whole_right)

pub lowest_right : (l : Limits) (s : State) (g : List ℕ) → LaidOut l (all_blocks s) → (e : Event) → turned l s e ≡ None →
    RightAnswer l s g e (lowest_answer l s g e)
unfolding RightAnswer lowest_answer
lowest_right l s g out (Get n) taken =
    let a = lowest_place l s n in
    let may = lowest_may l s out n taken in
    cond_both (clean_there l g n a) (Place a) (Harmed a) (RightAnswer l s g (Get n)) (λ e. (may, e)) (λ e. (may, e))
lowest_right l s g out (Give a) taken =
    cond_both (marked l g (out_at s a)) Done (Overrun (mark_place (out_at s a))) (RightAnswer l s g (Give a)) (λ e. e) (λ e. (refl, e))
lowest_right l s g out (Size a) taken = refl
lowest_right l s g out Look taken = look_right l s out g
lowest_right l s g out (Garbled n) taken = absurd (true≢false (ap is_some taken))
