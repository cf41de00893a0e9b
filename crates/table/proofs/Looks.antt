-- What a look finds in the table: which bytes are in pieces that are out or spoilt, and the lowest mark that was changed and byte that is harmed.
use Rattle.std.proofs.Common.{◌≡◌, ℕ, ◌+◌, ◌-◌, ◌*◌, ◌/◌, ◌%◌, ◌<◌, ◌≤◌, Bool, true, false, not, ◌&&◌, ◌||◌, eqb, ltb, leb, ◌⊎◌, List, ◌++◌, get_or, Some, None, count_by, Option, unwrap_or, sym, refl, ap, ◌∙◌, subst, inl, inr, ⊎_elim, div-mul-le_self, arith}
use native.Mathlib.Nat.{zero-mod, lt-div-mul-add}
use Rattle.std.specs.List.{ContainsAt as Has}
use Rattle.std.proofs.lemmas.Nat.{div-add-mod', div-mul-add}
use Rattle.std.proofs.ByRecursion.{all-has, has_append_left, has_append_right}
use Rattle.std.proofs.lemmas.Bool.{and_parts, and_from, cases_lt, eqb-true, eq-eqb, le-leb, lt-ltb, both_ways, not_from_false}
use Rattle.std.proofs.lemmas.Bool.Decides.{nat_tests, same_from_decides}
use Rattle.grounds.specs.declared.block.Block.{Block}
use Rattle.grounds.specs.Numbers.{page, mark_length}
use Rattle.grounds.specs.Lists.{any}
use Rattle.grounds.specs.Blocks.{Limits, ground_size, class_of}
use Rattle.grounds.specs.Grounds.{State, all_blocks, find, out_at, mark_place, marked, is_inside, byte_whole}
use Rattle.grounds.specs.Statements.{is_laid}
use Rattle.grounds.proofs.Lists.{has_parts, every_has, any_true, any_from_has}
use Rattle.grounds.proofs.First.{first_cong}
use Rattle.grounds.proofs.Found.{find_has, find_at}
use Rattle.grounds.proofs.Classes.{room_large}
use Rattle.grounds.proofs.Apart.{Lies, lies}
use Rattle.grounds.proofs.Happened.{out_found}
use Rattle.grounds.proofs.LowestRight.{out_finds}
use Rattle.table.specs.Table.{Table, touches}
use Rattle.table.specs.Stands.{Knows, Pieces}
use Rattle.table.specs.Looks.{start, owned, mark_at, changed, stray, lowest_changed, lowest_stray}
use Rattle.table.specs.Theorems.{OwnedKnown, ChangedFound, StrayFound}
use Rattle.table.proofs.Counts.{count_some, count_none}
use Rattle.table.proofs.Touch.{touch_tells, touch_from, touches_own}

-- the last multiple of k that is no more than z
multiple_below : (k y z : ℕ) → y % k ≡ 0 → y ≤ z → z < y + k → z / k * k ≡ y
multiple_below k y z whole low high =
    let y_is : y / k * k ≡ y = omega (arith, div-add-mod' y k) in
    let z_is : y / k * k + (z - y) ≡ z = omega arith in
    ap (λ (x : ℕ). x / k * k) (sym z_is) ∙ ap (λ (m : ℕ). m * k) (div-mul-add (y / k) k (z - y) (omega arith)) ∙ y_is

-- where an element passes, the count is not 0
pub count_has : {X : Type 0} (t : X → Bool) (xs : List X) (x : X) → Has xs x → t x ≡ true → 0 < count_by t xs
count_has t xs x has h =
    ⊎_elim
    (λ some. some)
    (λ few. absurd (both_ways (t x) (all-has (λ y. t y ≡ false) xs x (count_none t xs (omega arith)) has) h))
    (cases_lt 0 (count_by t xs))

-- the piece has the byte
abbrev pub Covers : Block → ℕ → Type 0
Covers b x = (b.at ≤ x) × (x < b.at + b.room)

module _ (l : Limits) (t : Table) (s : State) (known : Pieces l t s) where
  its_lies : (b : Block) → Has (all_blocks s) b → Lies l b
  its_lies b has = lies l b (every_has (is_laid l) (all_blocks s) b known.laid_out.all_laid has)

  its_known : (b : Block) → Has (all_blocks s) b → Knows t b
  its_known b has = all-has (Knows t) (all_blocks s) b known.knows has

  its_kind : (b : Block) → Has (all_blocks s) b → t.kind (b.at / page) ≡ b.room
  its_kind b has = (its_known b has (b.at / page) (touches_own b (omega (arith, its_lies b has)))).0

  -- a large piece is at a page, and takes whole pages
  large_is : (b : Block) → Has (all_blocks s) b → class_of b.size l.classes ≡ 0 → (b.at % page ≡ 0) × (b.room % page ≡ 0)
  large_is b has none =
      let lie = its_lies b has in
      (lie.large_sits none, ap (λ (r : ℕ). r % page) (lie.takes ∙ room_large l b.size none) ∙ omega arith)

  -- on the page where it begins, a piece is at a multiple of what it takes
  steps : (b : Block) → Has (all_blocks s) b → (b.at % page) % b.room ≡ 0
  steps b has = go (cases_lt 0 (class_of b.size l.classes))
    where
      go : (0 < class_of b.size l.classes) ⊎ (class_of b.size l.classes ≤ 0) → (b.at % page) % b.room ≡ 0
      go (inl some) = ((its_lies b has).small_sits some).0
      go (inr few) = ap (λ (y : ℕ). y % b.room) (large_is b has (omega arith)).0 ∙ zero-mod b.room

  covers_touches : (b : Block) (x : ℕ) → Covers b x → touches (x / page) b ≡ true
  covers_touches b x covers = touch_from (x / page) b (omega arith) (omega arith)

  pub start_is : (b : Block) (x : ℕ) → Has (all_blocks s) b → Covers b x → start t x ≡ b.at
  unfolding start
  start_is b x has covers =
      let knows = its_known b has (x / page) (covers_touches b x covers) in
      let q = b.at / page * page in
      let k = b.room in
      let here : (x - q) / k * k ≡ b.at % page = multiple_below k (b.at % page) (x - q) (steps b has) (omega arith) (omega arith) in
      ap (λ (h : ℕ). h * page + (x - h * page) / t.kind (x / page) * t.kind (x / page)) knows.1
      ∙ ap (λ (r : ℕ). q + (x - q) / r * r) knows.0
      ∙ omega arith

  -- ---- where a piece touches the page of x, `kind` says the same of the page on which the piece that may have x begins

  start_low : (b : Block) (x : ℕ) → Has (all_blocks s) b → touches (x / page) b ≡ true → start t x ≤ x
  unfolding start
  start_low b x has touch =
      let q = t.head (x / page) * page in
      let head = (its_known b has (x / page) touch).1 in
      omega (arith, touch_tells (x / page) b touch, div-mul-le_self (x - q) (t.kind (x / page)))

  start_kind : (x : ℕ) → 0 < t.used (x / page) → t.kind (start t x / page) ≡ t.kind (x / page)
  unfolding start
  start_kind x some =
      let one = count_some (touches (x / page)) (all_blocks s) (omega (arith, known.pages (x / page))) in
      go one.0 one.1 one.2 (cases_lt 0 (class_of one.0.size l.classes))
    where
      go : (b : Block) → Has (all_blocks s) b → touches (x / page) b ≡ true → (0 < class_of b.size l.classes) ⊎ (class_of b.size l.classes ≤ 0) →
          t.kind (start t x / page) ≡ t.kind (x / page)
      go b has touch (inl small) =
          let sits = (its_lies b has).small_sits small in
          let head = (its_known b has (x / page) touch).1 in
          let low = start_low b x has touch in
          let same : start t x / page ≡ x / page = omega (arith, touch_tells (x / page) b touch) in
          ap t.kind same
      go b has touch (inr few) =
          let flat = large_is b has (omega arith) in
          let at : start t x ≡ b.at = start_is b x has (omega (arith, touch_tells (x / page) b touch)) in
          ap (λ (a : ℕ). t.kind (a / page)) at ∙ its_kind b has ∙ sym (its_known b has (x / page) touch).0

  -- so a piece that begins there takes what `kind` says
  start_takes : (x : ℕ) → 0 < t.used (x / page) → (b : Block) → Has (all_blocks s) b → b.at ≡ start t x → b.room ≡ t.kind (x / page)
  start_takes x some b has at = sym (its_kind b has) ∙ ap (λ (a : ℕ). t.kind (a / page)) at ∙ start_kind x some

  -- ---- what begins at a place

  out_all : (b : Block) → Has s.out b → Has (all_blocks s) b
  out_all b has = has_append_left s.out (s.resting ++ s.spoilt) b has

  spoilt_all : (b : Block) → Has s.spoilt b → Has (all_blocks s) b
  spoilt_all b has = has_append_right s.out (s.resting ++ s.spoilt) b (has_append_right s.resting s.spoilt b has)

  asked_out : (a : ℕ) → 0 < t.asked a → (b : Block) × Has s.out b × (b.at ≡ a)
  asked_out a some = go (find a s.out) refl
    where
      go : (o : Option Block) → find a s.out ≡ o → (b : Block) × Has s.out b × (b.at ≡ a)
      go None e =
          let nothing : (out_at s a).size ≡ 0 = ap (λ (o : Option Block). (unwrap_or o (record { at = 0; size = 0; room = 0 })).size) e in
          absurd (omega (arith, known.sizes a))
      go (Some b) e = (b, find_has a s.out b e, find_at a s.out b e)

  out_asked : (b : Block) → Has s.out b → 0 < t.asked b.at
  out_asked b has =
      let size : (out_at s b.at).size ≡ b.size = ap (λ (c : Block). c.size) (out_found s b.at b (out_finds l s known.laid_out b has)) in
      omega (arith, known.sizes b.at, all-has (λ c. 0 < c.size) s.out b known.some has)

  spoilt_piece : (a : ℕ) → 0 < t.spoilt a → (b : Block) × Has s.spoilt b × (b.at ≡ a)
  spoilt_piece a some =
      let one = count_some (λ b. eqb b.at a) s.spoilt (omega (arith, known.spoils a)) in (one.0, one.1, eqb-true one.0.at a one.2)

  piece_spoilt : (b : Block) → Has s.spoilt b → 0 < t.spoilt b.at
  piece_spoilt b has =
      let some = count_has (λ c. eqb c.at b.at) s.spoilt b has (eq-eqb b.at b.at refl) in omega (arith, known.spoils b.at)

  -- ---- a byte that is in a piece that is out or spoilt

  one_there : (a : ℕ) → 0 < t.asked a + t.spoilt a → (b : Block) × Has (s.out ++ s.spoilt) b × Has (all_blocks s) b × (b.at ≡ a)
  one_there a some = go (cases_lt 0 (t.asked a))
    where
      go : (0 < t.asked a) ⊎ (t.asked a ≤ 0) → (b : Block) × Has (s.out ++ s.spoilt) b × Has (all_blocks s) b × (b.at ≡ a)
      go (inl out) =
          let one = asked_out a out in (one.0, has_append_left s.out s.spoilt one.0 one.1, out_all one.0 one.1, one.2)
      go (inr few) =
          let one = spoilt_piece a (omega arith) in
          (one.0, has_append_right s.out s.spoilt one.0 one.1, spoilt_all one.0 one.1, one.2)

  known_there : (b : Block) → Has (s.out ++ s.spoilt) b → Has (all_blocks s) b × (0 < t.asked b.at + t.spoilt b.at)
  known_there b has =
      ⊎_elim
      (λ h. let some = out_asked b h in (out_all b h, omega arith))
      (λ h. let some = piece_spoilt b h in (spoilt_all b h, omega arith))
      (has_parts s.out s.spoilt b has)

  owned_from : (x : ℕ) → is_inside x (s.out ++ s.spoilt) ≡ true → owned t x ≡ true
  owned_from x inside =
      let one = any_true (λ b. leb b.at x && ltb x (b.at + b.room)) (s.out ++ s.spoilt) inside in
      let b = one.0 in
      let there = known_there b one.1 in
      let covers : Covers b x = grind (arith, nat_tests, one.2) in
      let begins = start_is b x there.0 covers in
      let touch = covers_touches b x covers in
      let kind = (its_known b there.0 (x / page) touch).0 in
      let used = count_has (touches (x / page)) (all_blocks s) b there.0 touch in
      let pages = known.pages (x / page) in
      let taken = count_has (λ c. eqb c.at b.at) (all_blocks s) b there.0 (eq-eqb b.at b.at refl) in
      let once = known.once b.at in
      grind (arith, nat_tests)

  owned_to : (x : ℕ) → owned t x ≡ true → is_inside x (s.out ++ s.spoilt) ≡ true
  owned_to x owns = go (grind (arith, nat_tests))
    where
      go : (0 < t.used (x / page)) × (0 < t.asked (start t x) + t.spoilt (start t x)) × (start t x ≤ x) × (x < start t x + t.kind (x / page)) →
          is_inside x (s.out ++ s.spoilt) ≡ true
      go facts =
          let one = one_there (start t x) facts.1 in
          let b = one.0 in
          let takes = start_takes x facts.0 b one.2 one.3 in
          any_from_has
          (λ c. leb c.at x && ltb x (c.at + c.room))
          (s.out ++ s.spoilt)
          b
          one.1
          (and_from
          (leb b.at x)
          (ltb x (b.at + b.room))
          (le-leb b.at x (omega (arith, one.3)))
          (lt-ltb x (b.at + b.room) (omega (arith, one.3))))

  pub owned_right : (x : ℕ) → owned t x ≡ is_inside x (s.out ++ s.spoilt)
  owned_right x = same_from_decides _ _ (owned_to x, owned_from x) (λ h. h, λ h. h)

  -- the other tests of `owned` follow from two of them
  pub owned_by_two : (x : ℕ) → (ltb 0 (t.used (x / page)) && ltb 0 (t.asked (start t x) + t.spoilt (start t x))) ≡ owned t x
  unfolding start
  owned_by_two x = same_from_decides _ _ ((λ h. go (grind (arith, nat_tests))), (λ h. grind (arith, nat_tests))) ((λ h. h), (λ h. h))
    where
      go : (0 < t.used (x / page)) × (0 < t.asked (start t x) + t.spoilt (start t x)) → owned t x ≡ true
      go facts =
          let one = count_some (touches (x / page)) (all_blocks s) (omega (arith, known.pages (x / page))) in
          let b = one.0 in
          let low = start_low b x one.1 one.2 in
          let lie = its_lies b one.1 in
          let kind = (its_known b one.1 (x / page) one.2).0 in
          let k = t.kind (x / page) in
          let d = x - t.head (x / page) * page in
          let next : d < d / k * k + k = lt-div-mul-add (omega arith) in
          let there = one_there (start t x) facts.1 in
          let taken = count_has (λ c. eqb c.at (start t x)) (all_blocks s) there.0 there.2 (eq-eqb there.0.at (start t x) there.3) in
          let once = known.once (start t x) in
          let high : x < start t x + t.kind (x / page) = omega arith in
          grind (arith, nat_tests)

  -- ---- marks that were changed

  module _ (g : List ℕ) where
    changed_from : (x : ℕ) → any (λ b. eqb (mark_place b) x && not (marked l g b)) s.out ≡ true → changed l t g x ≡ true
    changed_from x some =
        let one = any_true (λ b. eqb (mark_place b) x && not (marked l g b)) s.out some in
        let b = one.0 in
        let has = out_all b one.1 in
        let parts = and_parts (eqb (mark_place b) x) (not (marked l g b)) one.2 in
        let at : mark_place b ≡ x = eqb-true (mark_place b) x parts.0 in
        let lie = its_lies b has in
        let covers : Covers b x = omega (arith, lie) in
        let begins = start_is b x has covers in
        let touch = covers_touches b x covers in
        let kind : t.kind (x / page) ≡ b.room = (its_known b has (x / page) touch).0 in
        let used = count_has (touches (x / page)) (all_blocks s) b has touch in
        let asked : 0 < t.asked (start t x) = subst (λ (a : ℕ). 0 < t.asked a) (sym begins) (out_asked b one.1) in
        and_from
        (ltb 0 (t.used (x / page)))
        _
        (lt-ltb 0 (t.used (x / page)) (omega (arith, known.pages (x / page))))
        (and_from
        (ltb 0 (t.asked (start t x)))
        _
        (lt-ltb 0 (t.asked (start t x)) asked)
        (and_from
        (eqb ((start t x + t.kind (x / page)) - mark_length) x)
        _
        (eq-eqb ((start t x + t.kind (x / page)) - mark_length) x (omega arith))
        (subst (λ (y : ℕ). not (mark_at l g y) ≡ true) at parts.1)))

    changed_to : (x : ℕ) → changed l t g x ≡ true → any (λ b. eqb (mark_place b) x && not (marked l g b)) s.out ≡ true
    changed_to x change = go (grind (arith, nat_tests))
      where
        go : (0 < t.used (x / page)) × (0 < t.asked (start t x)) × ((start t x + t.kind (x / page)) - mark_length ≡ x) × (mark_at l g x ≡ false) →
            any (λ b. eqb (mark_place b) x && not (marked l g b)) s.out ≡ true
        go facts =
            let one = asked_out (start t x) facts.1 in
            let b = one.0 in
            let takes = start_takes x facts.0 b (out_all b one.1) one.2 in
            let at : mark_place b ≡ x = omega (arith, one.2) in
            any_from_has
            (λ c. eqb (mark_place c) x && not (marked l g c))
            s.out
            b
            one.1
            (and_from
            (eqb (mark_place b) x)
            (not (marked l g b))
            (eq-eqb (mark_place b) x at)
            (subst (λ (y : ℕ). not (mark_at l g y) ≡ true) (sym at) (not_from_false (mark_at l g x) facts.3)))

  pub changed_right : (g : List ℕ) (x : ℕ) → changed l t g x ≡ any (λ b. eqb (mark_place b) x && not (marked l g b)) s.out
  changed_right g x = same_from_decides _ _ (changed_to g x, changed_from g x) (λ h. h, λ h. h)

pub owned_known : OwnedKnown
owned_known l t s x stands = owned_right l t s stands.pieces x

pub changed_found : ChangedFound
unfolding lowest_changed
changed_found l t s g stands =
    first_cong
    (changed l t g)
    (λ a. any (λ b. eqb (mark_place b) a && not (marked l g b)) s.out)
    (ground_size l)
    (λ x near. changed_right l t s stands.pieces g x)

pub stray_found : StrayFound
unfolding lowest_stray
stray_found l t s g stands = first_cong (stray t g) (λ a. not (byte_whole s g a)) (ground_size l) (λ x near. alike x)
  where
    swap : (x y : Bool) → (not x && not y) ≡ not (y || x)
    swap true true = refl
    swap true false = refl
    swap false true = refl
    swap false false = refl

    alike : (x : ℕ) → stray t g x ≡ not (byte_whole s g x)
    alike x =
        ap (λ (y : Bool). not (eqb (get_or g x 0) 0) && not y) (owned_right l t s stands.pieces x)
        ∙ swap (eqb (get_or g x 0) 0) (is_inside x (s.out ++ s.spoilt))
