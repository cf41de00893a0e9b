-- Who keeps to their own has no trouble: in a world where others write only in pieces that are out, and no further than was asked for, no mark is
-- changed, and each byte is 0 that is in nothing that is out.
--     Beyond x bs      x is in no piece of bs
--     Well l s g       nothing is spoilt, the marks are there, and what is in nothing that is out is 0
use Rattle.std.proofs.Common.{◌≡◌, ℕ, zero, suc, ◌+◌, ◌-◌, ◌<◌, ◌≤◌, Bool, true, false, ◌&&◌, eqb, ltb, leb, ◌⊎◌, List, [], ◌∷◌, ◌++◌, length, get_or, replicate, Some, sym, refl, ◌∙◌, subst, inl, inr, ⊎_elim, arith}
use lib.ListN.{length-replicate}
use Rattle.std.specs.List.{ContainsAt as Has}
use Rattle.std.proofs.ByRecursion.{has_append_left, has_append_right}
use Rattle.std.proofs.lemmas.Bool.{and_parts, and_from, or_left, or_right, leb-true, eq-eqb, cases_Bool, cases_lt, both_ways}
use Rattle.std.proofs.lemmas.Bool.Decides.{Decides-below_and}
use Rattle.std.proofs.lemmas.Bool.Decides.{nat_tests}
use Rattle.grounds.specs.declared.block.Block.{Block}
use Rattle.grounds.specs.declared.event.Event.{Event}
use Rattle.grounds.specs.declared.answer.Answer.{Answer}
use Rattle.grounds.specs.Numbers.{mark_length}
use Rattle.grounds.specs.Lists.{same, part, over, bytes}
use Rattle.grounds.specs.Blocks.{Limits, ground_size, room_for, apart, may_be}
use Rattle.grounds.specs.Events.{is_harm}
use Rattle.grounds.specs.Grounds.{State, new_state, all_blocks, find, without, got_at, mark_place, marked, clean_there, is_inside, byte_whole, bytes_whole, marks_whole, all_whole}
use Rattle.grounds.specs.Worlds.{GoodLimits, Program, World, Lived, LivedWell, new, asks, writes}
use Rattle.grounds.specs.Promises.{Right}
use Rattle.grounds.specs.Statements.{is_laid, LaidOut, NoTrouble}
use Rattle.grounds.proofs.Lists.{every_has, every_from_has, any_true, any_false, same_refl, has_here, has_later, has_cases, has_parts, pair_of}
use Rattle.grounds.proofs.Parts.{get_or_over_in, get_or_over_out, part_over_in, part_over_out, length_part_le, get_or_part, zero_from_reads}
use Rattle.grounds.proofs.Found.{found, find_at, find_has}
use Rattle.grounds.proofs.Apart.{Apart, apart_tells, apart_swaps, Lies, lies}
use Rattle.grounds.proofs.Happened.{Happened, turns_away, gets, spoils, gives, overruns, sizes, looks_overrun, looks_harmed, looks_whole, happened, one_out, one_rests}
use Rattle.grounds.proofs.Laid.{got_laid, first_lies, others_apart}
use Rattle.grounds.proofs.Kept.{Kept, found_first, mark_inside, block_inside, new_kept, step_kept, write_kept}
use Rattle.grounds.proofs.Gets.{may_free}

abbrev pub Beyond : ℕ → List Block → Type 0
Beyond x bs = (b : Block) → Has bs b → (x < b.at) ⊎ (b.at + b.room ≤ x)

pub record Well (l : Limits) (s : State) (g : List ℕ) : Type 0 where
  pub kept : Kept l s g
  pub unspoilt : s.spoilt ≡ []
  pub marks : (b : Block) → Has s.out b → marked l g b ≡ true
  pub zeros : (x : ℕ) → Beyond x s.out → get_or g x 0 ≡ 0

-- ---- then all is whole

not_inside : (x : ℕ) (b : Block) → (leb b.at x && ltb x (b.at + b.room)) ≡ false → (x < b.at) ⊎ (b.at + b.room ≤ x)
not_inside x b h = grind (arith, nat_tests)

module _ (l : Limits) (s : State) (g : List ℕ) (well : Well l s g) where
  well_byte : (x : ℕ) → byte_whole s g x ≡ true
  well_byte x = go (cases_Bool (is_inside x (s.out ++ s.spoilt)))
    where
      go : (is_inside x (s.out ++ s.spoilt) ≡ true) ⊎ (is_inside x (s.out ++ s.spoilt) ≡ false) → byte_whole s g x ≡ true
      go (inl e) = or_left (is_inside x (s.out ++ s.spoilt)) (eqb (get_or g x 0) 0) e
      go (inr e) =
          let beyond : Beyond x s.out
          = λ b has. not_inside x b (any_false (λ b. leb b.at x && ltb x (b.at + b.room)) (s.out ++ s.spoilt) b e (has_append_left s.out s.spoilt b has)) in
          or_right (is_inside x (s.out ++ s.spoilt)) (eqb (get_or g x 0) 0) (eq-eqb (get_or g x 0) 0 (well.zeros x beyond))

  well_bytes : (n : ℕ) → bytes_whole s g n ≡ true
  unfolding bytes_whole
  well_bytes n =
      (Decides-below_and (byte_whole s g) (λ x. byte_whole s g x ≡ true) (bytes_whole s g) (λ x. (λ h. h, λ h. h)) refl (λ _. refl) n).1 (λ x _. well_byte x)

  pub well_whole : all_whole l s g ≡ true
  well_whole =
      and_from (marks_whole l g s.out) (bytes_whole s g (ground_size l)) (every_from_has (marked l g) s.out well.marks) (well_bytes (ground_size l))

-- ---- a new ground

zero_everywhere : (n x : ℕ) → get_or (replicate {A = ℕ} n 0) x 0 ≡ 0
zero_everywhere zero x = refl
zero_everywhere (suc n) zero = refl
zero_everywhere (suc n) (suc x) = zero_everywhere n x

none_has : (b : Block) → Has [] b → ⊥
none_has b (k, near, at) = omega arith

pub new_well : (l : Limits) → Kept l new_state (replicate (ground_size l) 0) → Well l new_state (replicate (ground_size l) 0)
new_well l kept =
    record { kept = kept; unspoilt = refl; marks = λ b has. absurd (none_has b has); zeros = λ x beyond. zero_everywhere (ground_size l) x }

module _ (can : ℕ → Bool) (l : Limits) (good : GoodLimits can l) (s : State) (g : List ℕ) (well : Well l s g) where
  in_all : (b : Block) → Has s.out b → Has (all_blocks s) b
  in_all b has = has_append_left s.out (s.resting ++ s.spoilt) b has

  out_lies : (b : Block) → Has s.out b → Lies l b
  out_lies b has = lies l b (every_has (is_laid l) (all_blocks s) b well.kept.laid_out.all_laid (in_all b has))

  out_apart : (b c : Block) → Has s.out b → Has s.out c → (b ≡ c) ⊎ Apart b.at b.room c
  out_apart b c hb hc =
      ⊎_elim
      inl
      (λ e. inr (apart_tells b.at b.room c e))
      (pair_of (λ b. apart b.at b.room) apart_swaps (all_blocks s) well.kept.laid_out.no_shared_byte b c (in_all b hb) (in_all c hc))

  -- a write that touches no mark of what is out then
  marks_stay : (a : ℕ) (bs : List ℕ) → a + length bs ≤ length g → (c : Block) → Has s.out c → (mark_place c + mark_length ≤ a) ⊎ (a + length bs ≤ mark_place c) →
      marked l (over a bs g) c ≡ true
  marks_stay a bs inside c has away =
      subst (λ (xs : List ℕ). same xs l.marks ≡ true) (sym (part_over_out a bs g inside (mark_place c) mark_length away)) (well.marks c has)

  -- ---- a write that keeps to a piece that is out

  module _ (a : ℕ) (bs : List ℕ) (b : Block) (has : Has s.out b) (low : b.at ≤ a) (high : a + length bs ≤ b.at + b.size) where
    write_inside : a + length bs ≤ ground_size l
    write_inside = omega (arith, out_lies b has)

    write_away : (c : Block) → Has s.out c → (mark_place c + mark_length ≤ a) ⊎ (a + length bs ≤ mark_place c)
    write_away c hc = go (out_apart b c has hc)
      where
        go : (b ≡ c) ⊎ Apart b.at b.room c → (mark_place c + mark_length ≤ a) ⊎ (a + length bs ≤ mark_place c)
        go (inl e) = inr (subst (λ (d : Block). a + length bs ≤ mark_place d) e (omega (arith, out_lies b has)))
        go (inr (inl past)) = inr (omega (arith, out_lies b has, out_lies c hc))
        go (inr (inr before)) = inl (omega (arith, out_lies c hc))

    write_beyond : (x : ℕ) → (x < b.at) ⊎ (b.at + b.room ≤ x) → (x < a) ⊎ (a + length bs ≤ x)
    write_beyond x (inl before) = inl (omega arith)
    write_beyond x (inr past) = inr (omega (arith, out_lies b has))

    pub write_well : bytes bs ≡ true → Well l s (over a bs g)
    write_well small =
        let inside : a + length bs ≤ length g = omega (arith, write_inside, well.kept.long) in
        record {
          kept = write_kept can l good s g a bs write_inside small well.kept;
          unspoilt = well.unspoilt;
          marks = λ c hc. marks_stay a bs inside c hc (write_away c hc);
          zeros = λ x beyond. get_or_over_out a bs g inside x 0 (write_beyond x (beyond b has)) ∙ well.zeros x beyond;
        }

  -- ---- a get

  clean : (n a : ℕ) → may_be l n a (all_blocks s) ≡ true → clean_there l g n a ≡ true
  clean n a may =
      let r = room_for l n in
      zero_from_reads
      (part a r g)
      (λ i near.
      let short : i < r = omega (arith, length_part_le a r g) in
      let beyond : Beyond (a + i) s.out
      = λ b has. past i short b (apart_tells a r b (every_has (apart a r) (all_blocks s) b (may_free l n a (all_blocks s) may) (in_all b has))) in
      get_or_part a r g i 0 short ∙ well.zeros (a + i) beyond)
    where
      past : (i : ℕ) → i < room_for l n → (b : Block) → Apart a (room_for l n) b → (a + i < b.at) ⊎ (b.at + b.room ≤ a + i)
      past i short b (inl before) = inl (omega arith)
      past i short b (inr after) = inr (omega arith)

  module _ (n a : ℕ) (may : may_be l n a (all_blocks s) ≡ true) (now : Kept l (one_out l s n a) (over (mark_place (got_at l n a)) l.marks g)) where
    first : LaidOut l (got_at l n a ∷ all_blocks s)
    first = got_laid can l good n a (all_blocks s) may well.kept.laid_out

    lie : Lies l (got_at l n a)
    lie = first_lies l (got_at l n a) (all_blocks s) first

    inside : mark_place (got_at l n a) + length l.marks ≤ length g
    inside = mark_inside can l good (got_at l n a) g lie well.kept.long

    new_marked : marked l (over (mark_place (got_at l n a)) l.marks g) (got_at l n a) ≡ true
    new_marked =
        let m = mark_place (got_at l n a) in
        let written : part m mark_length (over m l.marks g) ≡ l.marks
        = subst (λ (k : ℕ). part m k (over m l.marks g) ≡ l.marks) good.mark_long (part_over_in m l.marks g inside) in
        subst (λ (xs : List ℕ). same xs l.marks ≡ true) (sym written) (same_refl l.marks)

    get_away : (c : Block) → Has s.out c → Apart a (room_for l n) c →
        (mark_place c + mark_length ≤ mark_place (got_at l n a)) ⊎ (mark_place (got_at l n a) + length l.marks ≤ mark_place c)
    get_away c hc (inl past) = inr (omega (arith, lie, out_lies c hc, good.mark_long))
    get_away c hc (inr before) = inl (omega (arith, lie, out_lies c hc))

    get_beyond : (x : ℕ) → (x < a) ⊎ (a + room_for l n ≤ x) → (x < mark_place (got_at l n a)) ⊎ (mark_place (got_at l n a) + length l.marks ≤ x)
    get_beyond x (inl before) = inl (omega (arith, lie))
    get_beyond x (inr past) = inr (omega (arith, lie, good.mark_long))

    get_marks : (c : Block) → (c ≡ got_at l n a) ⊎ Has s.out c → marked l (over (mark_place (got_at l n a)) l.marks g) c ≡ true
    get_marks c (inl e) = subst (λ (d : Block). marked l (over (mark_place (got_at l n a)) l.marks g) d ≡ true) (sym e) new_marked
    get_marks c (inr hc) =
        marks_stay (mark_place (got_at l n a)) l.marks inside c hc (get_away c hc (others_apart l (got_at l n a) (all_blocks s) first c (in_all c hc)))

    pub get_well : Well l (one_out l s n a) (over (mark_place (got_at l n a)) l.marks g)
    get_well =
        record {
          kept = now;
          unspoilt = well.unspoilt;
          marks = λ c has. get_marks c (has_cases (got_at l n a) s.out c has);
          zeros = λ x beyond.
              get_or_over_out (mark_place (got_at l n a)) l.marks g inside x 0 (get_beyond x (beyond (got_at l n a) (has_here (got_at l n a) s.out)))
              ∙ well.zeros x (λ c hc. beyond c (has_later (got_at l n a) s.out c hc));
        }

  -- ---- a give back

  module _ (a : ℕ) (b : Block) (f : find a s.out ≡ Some b) (now : Kept l (one_rests l s a b) (over a (replicate b.room 0) g)) where
    begins : b.at ≡ a
    begins = find_at a s.out b f

    given : LaidOut l (b ∷ (without a s.out ++ (s.resting ++ s.spoilt)))
    given = found_first l s a b well.kept.laid_out f

    given_inside : a + length (replicate {A = ℕ} b.room 0) ≤ length g
    given_inside = block_inside can l good a b g begins (first_lies l b _ given) well.kept.long

    -- what is left was out, and what was out is left or given back
    left_out : (c : Block) → Has (without a s.out) c → Has s.out c
    left_out c has =
        let p = found a s.out b f in
        subst
        (λ (bs : List Block). Has bs c)
        (sym p.split)
        (⊎_elim
        (has_append_left p.before (b ∷ p.behind) c)
        (λ k. has_append_right p.before (b ∷ p.behind) c (has_later b p.behind c k))
        (has_parts p.before p.behind c (subst (λ (bs : List Block). Has bs c) p.rest has)))

    out_left : (c : Block) → Has s.out c → (c ≡ b) ⊎ Has (without a s.out) c
    out_left c has =
        let p = found a s.out b f in
        let back : Has (p.before ++ p.behind) c → Has (without a s.out) c = subst (λ (bs : List Block). Has bs c) (sym p.rest) in
        ⊎_elim
        (λ k. inr (back (has_append_left p.before p.behind c k)))
        (λ k. ⊎_elim inl (λ m. inr (back (has_append_right p.before p.behind c m))) (has_cases b p.behind c k))
        (has_parts p.before (b ∷ p.behind) c (subst (λ (bs : List Block). Has bs c) p.split has))

    give_away : (c : Block) → Has (without a s.out) c → Apart b.at b.room c →
        (mark_place c + mark_length ≤ a) ⊎ (a + length (replicate {A = ℕ} b.room 0) ≤ mark_place c)
    give_away c hc (inl past) = inr (omega (arith, begins, length-replicate {A = ℕ} b.room 0, out_lies c (left_out c hc)))
    give_away c hc (inr before) = inl (omega (arith, begins, out_lies c (left_out c hc)))

    -- a byte of what was given back is 0; any other is as it was
    give_zero : (x : ℕ) → Beyond x (without a s.out) → get_or (over a (replicate b.room 0) g) x 0 ≡ 0
    give_zero x beyond = go (cases_lt x a) (cases_lt x (a + length (replicate {A = ℕ} b.room 0)))
      where
        all : (x < b.at) ⊎ (b.at + b.room ≤ x) → Beyond x s.out
        all outside c has = ⊎_elim (λ e. subst (λ (d : Block). (x < d.at) ⊎ (d.at + d.room ≤ x)) (sym e) outside) (beyond c) (out_left c has)

        go : (x < a) ⊎ (a ≤ x) → (x < a + length (replicate {A = ℕ} b.room 0)) ⊎ (a + length (replicate {A = ℕ} b.room 0) ≤ x) →
            get_or (over a (replicate b.room 0) g) x 0 ≡ 0
        go (inl before) side =
            get_or_over_out a (replicate b.room 0) g given_inside x 0 (inl before) ∙ well.zeros x (all (inl (omega (arith, begins))))
        go (inr low) (inl high) = get_or_over_in a (replicate b.room 0) g given_inside x 0 low high ∙ zero_everywhere b.room (x - a)
        go (inr low) (inr past) =
            get_or_over_out a (replicate b.room 0) g given_inside x 0 (inr past)
            ∙ well.zeros x (all (inr (omega (arith, begins, length-replicate {A = ℕ} b.room 0))))

    pub give_well : Well l (one_rests l s a b) (over a (replicate b.room 0) g)
    give_well =
        record {
          kept = now;
          unspoilt = well.unspoilt;
          marks = λ c hc.
              marks_stay
              a
              (replicate b.room 0)
              given_inside
              c
              (left_out c hc)
              (give_away c hc (others_apart l b _ given c (has_append_left (without a s.out) (s.resting ++ s.spoilt) c hc)));
          zeros = give_zero;
        }

-- ---- whatever is asked

module _ (can : ℕ → Bool) (l : Limits) (good : GoodLimits can l) {s : State} {g : List ℕ} (well : Well l s g) where
  step_well : {e : Event} {x : Answer} {h : List ℕ} {t : State} → Happened l s g e x h t → Well l t h × (is_harm x ≡ false)
  step_well (turns_away r t) = (well, refl)
  step_well (gets n a asked may clean') =
      (get_well can l good s g well n a may (step_kept can l good (gets n a asked may clean') well.kept), refl)
  step_well (spoils n a asked may unclean) = absurd (both_ways (clean_there l g n a) unclean (clean can l good s g well n a may))
  step_well (gives a b f m) = (give_well can l good s g well a b f (step_kept can l good (gives a b f m) well.kept), refl)
  step_well (overruns a b f m) = absurd (both_ways (marked l g b) m (well.marks b (find_has a s.out b f)))
  step_well (sizes a b f) = (well, refl)
  step_well (looks_overrun b f m) = absurd (both_ways (marked l g b) m (well.marks b (find_has b.at s.out b f)))
  step_well (looks_harmed a near m) = absurd (both_ways (byte_whole s g a) m (well_byte l s g well a))
  step_well (looks_whole w) = (well, refl)

module _ (can : ℕ → Bool) (f : Program) (right : Right can f) (l : Limits) (good : GoodLimits can l) where
  record Fine (w : World) : Type 0 where
    lived : Lived f l w
    well : Well l w.state w.ground

  lived_fine : {w : World} → LivedWell f l w → Fine w
  lived_fine new = record { lived = new; well = new_well l (new_kept can l good) }
  lived_fine (asks {w} e readable before) =
      let was = lived_fine before in
      record {
        lived = asks e readable was.lived;
        well = (step_well can l good was.well (happened f l w e (right l w e good was.lived readable))).0;
      }
  lived_fine (writes {w} a bs before may small) =
      let was = lived_fine before in
      let one = any_true (λ b. leb b.at a && leb (a + length bs) (b.at + b.size)) w.state.out may in
      let b = one.0 in
      let range = and_parts (leb b.at a) (leb (a + length bs) (b.at + b.size)) one.2 in
      let low = leb-true b.at a range.0 in
      let high = leb-true (a + length bs) (b.at + b.size) range.1 in
      record {
        lived = writes a bs was.lived (write_inside can l good w.state w.ground was.well a bs b one.1 low high) small;
        well = write_well can l good w.state w.ground was.well a bs b one.1 low high small;
      }

pub no_trouble : (can : ℕ → Bool) (f : Program) → Right can f → NoTrouble can f
no_trouble can f right l w e good lived readable =
    let was = lived_fine can f right l good lived in (
      (step_well can l good was.well (happened f l w e (right l w e good was.lived readable))).1,
      was.well.unspoilt,
      well_whole l w.state w.ground was.well,
    )

-- a world where others keep to their own is a lived world
pub well_lived : (can : ℕ → Bool) (f : Program) → Right can f → (l : Limits) (w : World) → GoodLimits can l → LivedWell f l w → Lived f l w
well_lived can f right l w good before = (lived_fine can f right l good before).lived
