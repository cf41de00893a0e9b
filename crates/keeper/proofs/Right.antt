-- The keeper is right, takes the lowest place, and has enough memory; lengths that are not as said, and openings, are answered as they should be.
use Rattle.std.proofs.Common.{◌≡◌, ℕ, ◌*◌, ◌<◌, ◌≤◌, Bool, true, false, cond, ◌&&◌, eqb, ltb, leb, List, ◌∷◌, ◌++◌, length, get_or, take, Some, Decides, refl, ap, ◌∙◌, arith, length-append, length-take}
use Rattle.std.proofs.ByRecursion.{All-weaker}
use Rattle.std.proofs.lemmas.List.{get_or-take, get_or_append_left}
use Rattle.std.proofs.lemmas.Bool.{false_from_ne_true, lt-ltb, ltb-true, eqb-true, eq-eqb, and_parts, and_from, cond-true, cond-false}
use Rattle.std.proofs.lemmas.Bool.Decides.{nat_tests}
use Rattle.grounds.specs.declared.event.Event.{Event}
use Rattle.grounds.specs.declared.event.Event.TheVariants.{Get, Give, Size, Look, Garbled}
use Rattle.grounds.specs.declared.answer.Refusal.{Refusal}
use Rattle.grounds.specs.declared.answer.Refusal.TheVariants.{NoEvent, OutOfRange}
use Rattle.grounds.specs.declared.answer.Answer.TheVariants.{Refused}
use Rattle.grounds.specs.Numbers.{page, mark_length, most_pages, most_classes, most_rests, byte, word}
use Rattle.grounds.specs.Lists.{every, all_below}
use Rattle.grounds.specs.Blocks.{Limits, ground_size, memory_words}
use Rattle.grounds.specs.Events.{readable}
use Rattle.grounds.specs.Grounds.{State, good_fields, place_of}
use Rattle.grounds.specs.Worlds.{rising, GoodLimits}
use Rattle.grounds.specs.Promises.{thin, Right, Lowest, EnoughMemory, TurnedAway, RightLengths, unasked, MayOpen, RightOpening}
use Rattle.grounds.proofs.Lists.{every_from_get_or, every_from_all, all_from_every}
use Rattle.table.specs.Table.{Table, new_table}
use Rattle.table.specs.Stands.{Stands}
use Rattle.table.specs.Answers.{table_turned_by}
use Rattle.table.proofs.Keeping.{standing_right, standing_lowest, standing_memory}
use Rattle.layout.specs.Layout.{pages_at, rests_at}
use Rattle.opening.specs.Opening.{opened}
use Rattle.book.specs.Plan.{plan_good}
use Rattle.book.proofs.Plans.{good_parts}
use Rattle.holds.proofs.AtFirst.{opened_holds, new_small}
use Rattle.keeper.specs.Outcomes.{Outcome, by_plan, outcome}
use Rattle.keeper.specs.Keeper.{limits_good, may_open, keeper}
use Rattle.keeper.proofs.Steps.{Held, Goes, turned_away}
use Rattle.keeper.proofs.Planned.{outcome_look}
use Rattle.keeper.proofs.Ends.{size_goes, give_goes}
use Rattle.keeper.proofs.Gets.{get_goes}

-- ---- each step goes by the table

opens : (l : Limits) → GoodLimits thin l → Held l new_table (opened l)
opens l good = record { holds = opened_holds thin l good; small = new_small l }

look_goes : (l : Limits) (good : GoodLimits thin l) (t : Table) (m g : List ℕ) → Held l t m → length g ≡ ground_size l → Goes l t m g Look
unfolding by_plan place_of
look_goes l good t m g held long =
    turned_away l t m g Look OutOfRange held (outcome_look l good t m held g long) (ap (λ (b : Bool). cond (b && good_fields l Look) (table_turned_by l t Look) (Some OutOfRange)) (good.cans 3))

garbled_goes : (l : Limits) (t : Table) (m g : List ℕ) (k : ℕ) → Held l t m → Goes l t m g (Garbled k)
unfolding outcome place_of
garbled_goes l t m g k held = turned_away l t m g (Garbled k) NoEvent held refl refl

steps : (l : Limits) (t : Table) (s : State) (m g : List ℕ) (e : Event) → GoodLimits thin l → Stands l t s → Held l t m → length g ≡ ground_size l → readable e ≡ true → Goes l t m g e
steps l t s m g (Get n) good stands held long small = get_goes l good t s stands m g held long n
steps l t s m g (Give a) good stands held long small = give_goes l good t s stands m g held long a
steps l t s m g (Size a) good stands held long small = size_goes l good t s stands m g held long a
steps l t s m g Look good stands held long small = look_goes l good t m g held long
steps l t s m g (Garbled k) good stands held long small = garbled_goes l t m g k held

-- ---- so it is right

pub keeper_right : Right thin keeper
keeper_right = standing_right thin keeper Held opens steps

pub keeper_lowest : Lowest thin keeper
keeper_lowest = standing_lowest thin keeper Held opens steps

enough : (l : Limits) (t : Table) (m : List ℕ) → GoodLimits thin l → Held l t m → (length m ≡ memory_words l) × (all_below word m ≡ true)
enough l t m good held =
    (held.holds.parts.long, every_from_get_or (λ w. ltb w word) m 0 (λ i near. lt-ltb (get_or m i 0) word (held.holds.parts.fits_words i)))

pub keeper_memory : EnoughMemory thin keeper
keeper_memory = standing_memory thin keeper Held opens steps (λ l m. (length m ≡ memory_words l) × (all_below word m ≡ true)) enough

-- ---- lengths that are not as said

-- what the header of memory says of lengths
record Lengths (l : Limits) (m : List ℕ) : Type 0 where
  long : length m ≡ memory_words l
  pages : get_or m pages_at 0 ≡ l.pages
  rests : get_or m rests_at 0 ≡ l.rests

lengths : (l : Limits) (t : Table) (m : List ℕ) → GoodLimits thin l → Held l t m → Lengths l m
lengths l t m good held =
    record { long = held.holds.parts.long; pages = held.holds.parts.header.pages; rests = held.holds.parts.header.rests }

kept_away : (m g : List ℕ) (e : Event) (r : Refusal) → outcome m g e ≡ record { answer = Refused r (place_of e); memory = m; ground = g } → TurnedAway keeper m g e r
kept_away m g e r is =
    record { told = ap (λ (o : Outcome). o.answer) is; memory_kept = ap (λ (o : Outcome). o.memory) is; ground_kept = ap (λ (o : Outcome). o.ground) is }

-- with no plan to go by, nothing is done
no_plan : (m g : List ℕ) (e : Event) → plan_good m (length g) ≡ false → TurnedAway keeper m g e (unasked e)
unfolding outcome place_of
no_plan m g (Get n) none = kept_away m g (Get n) OutOfRange (cond-false _ _ _ none)
no_plan m g (Give a) none = kept_away m g (Give a) OutOfRange (cond-false _ _ _ none)
no_plan m g (Size a) none = kept_away m g (Size a) OutOfRange (cond-false _ _ _ none)
no_plan m g Look none = kept_away m g Look OutOfRange (cond-false _ _ _ none)
no_plan m g (Garbled k) none = kept_away m g (Garbled k) NoEvent refl

-- no plan is gone by where it would have another length
module _ (l : Limits) (m : List ℕ) (h : Lengths l m) where
  other_ground : (g : List ℕ) → (length g ≡ ground_size l → ⊥) → plan_good m (length g) ≡ false
  other_ground g other = false_from_ne_true _ (λ is. other ((good_parts m (length g) is).ground_long ∙ ap (λ (p : ℕ). p * page) h.pages))

  less_memory : (k j : ℕ) → k < length m → plan_good (take k m) j ≡ false
  less_memory k j less =
      false_from_ne_true _
      (λ is.
      let long = (good_parts (take k m) j is).memory_long in
      let short : length (take k m) ≡ k = omega (arith, length-take k m) in
      omega (arith, get_or-take k m pages_at 0 (omega arith), get_or-take k m rests_at 0 (omega arith), h.pages, h.rests, h.long))

  more_memory : (x j : ℕ) (xs : List ℕ) → plan_good (m ++ (x ∷ xs)) j ≡ false
  more_memory x j xs =
      false_from_ne_true _
      (λ is.
      let long = (good_parts (m ++ (x ∷ xs)) j is).memory_long in
      let total = length-append m (x ∷ xs) in
      omega (arith, get_or_append_left m (x ∷ xs) 0 pages_at (omega (arith, h.long)), get_or_append_left m (x ∷ xs) 0 rests_at (omega (arith, h.long)), h.pages, h.rests, h.long))

pub keeper_lengths : RightLengths thin keeper
keeper_lengths l w e good lived small =
    let h = standing_memory thin keeper Held opens steps Lengths lengths l w good lived in
    record {
      other_ground = λ g other. no_plan w.memory g e (other_ground l w.memory h g other);
      less_memory = λ k g less. no_plan (take k w.memory) g e (less_memory l w.memory h k (length g) less);
      more_memory = λ x xs g. no_plan (w.memory ++ (x ∷ xs)) g e (more_memory l w.memory h x (length g) xs);
    }

-- ---- openings

good_told : (l : Limits) → limits_good l ≡ true → ((k : ℕ) → l.events_can k ≡ thin k) → GoodLimits thin l
good_told l is cans =
    let all = and_parts ((ltb 0 l.pages && leb l.pages most_pages) && leb l.rests most_rests) _ is in
    let lists = and_parts ((ltb 0 (length l.classes) && leb (length l.classes) most_classes) && rising 0 l.classes) _ all.1 in
    let marks = and_parts (eqb (length l.marks) mark_length) (every (λ b. ltb 0 b && ltb b byte) l.marks) lists.1 in
    record {
      some_pages = grind (arith, nat_tests);
      few_pages = grind (arith, nat_tests);
      some_classes = grind (arith, nat_tests);
      few_classes = grind (arith, nat_tests);
      classes_rise = grind (arith, nat_tests);
      few_rest = grind (arith, nat_tests);
      mark_long = eqb-true (length l.marks) mark_length marks.0;
      mark_bytes =
          All-weaker (λ b. (ltb 0 b && ltb b byte) ≡ true) (λ b. (1 ≤ b) × (b < byte)) byte_told l.marks
          (all_from_every (λ b. ltb 0 b && ltb b byte) l.marks marks.1);
      cans = cans;
    }
  where
    byte_told : (b : ℕ) → (ltb 0 b && ltb b byte) ≡ true → (1 ≤ b) × (b < byte)
    byte_told b is = let two = and_parts (ltb 0 b) (ltb b byte) is in (ltb-true 0 b two.0, ltb-true b byte two.1)

good_tested : (l : Limits) → GoodLimits thin l → limits_good l ≡ true
good_tested l good =
    let a = good.some_pages in
    let b = good.few_pages in
    let c = good.some_classes in
    let d = good.few_classes in
    let e = good.classes_rise in
    let f = good.few_rest in
    let h = good.mark_long in
    let marks : every (λ b. ltb 0 b && ltb b byte) l.marks ≡ true
    = every_from_all (λ b. ltb 0 b && ltb b byte) l.marks
    (All-weaker (λ b. (1 ≤ b) × (b < byte)) (λ b. (ltb 0 b && ltb b byte) ≡ true) (λ b two. and_from (ltb 0 b) (ltb b byte) (lt-ltb 0 b two.0) (lt-ltb b byte two.1)) l.marks good.mark_bytes) in
    grind (arith, nat_tests)

pub may_open_right : (m g : List ℕ) (l : Limits) → ((k : ℕ) → l.events_can k ≡ thin k) → Decides (may_open m g l) (MayOpen thin m g l)
unfolding may_open
may_open_right m g l cans = (told, tested)
  where
    told : may_open m g l ≡ true → MayOpen thin m g l
    told is =
        let all = and_parts (limits_good l) (eqb (length m) (memory_words l) && eqb (length g) (ground_size l)) is in
        let two = and_parts (eqb (length m) (memory_words l)) (eqb (length g) (ground_size l)) all.1 in
        record {
          good = good_told l all.0 cans;
          memory_long = eqb-true (length m) (memory_words l) two.0;
          ground_long = eqb-true (length g) (ground_size l) two.1;
        }

    tested : MayOpen thin m g l → may_open m g l ≡ true
    tested may =
        and_from (limits_good l) (eqb (length m) (memory_words l) && eqb (length g) (ground_size l)) (good_tested l may.good)
        (and_from (eqb (length m) (memory_words l)) (eqb (length g) (ground_size l)) (eq-eqb (length m) (memory_words l) may.memory_long) (eq-eqb (length g) (ground_size l) may.ground_long))

pub keeper_opening : RightOpening thin keeper
keeper_opening m g l cans = (
  (λ may. let is = (may_open_right m g l cans).1 may in (cond-true _ _ _ is, cond-true _ _ _ is)),
  (λ cannot.
      let is = false_from_ne_true (may_open m g l) (λ may. cannot ((may_open_right m g l cans).0 may)) in (cond-false _ _ _ is, cond-false _ _ _ is)),
)
