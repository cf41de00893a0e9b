-- Which pages a piece touches, and what two pieces that are laid out and touch one page have in common.
use Rattle.std.proofs.Common.{◌≡◌, ℕ, ◌+◌, ◌*◌, ◌/◌, ◌<◌, Bool, true, ◌&&◌, ◌||◌, eqb, ltb, ◌⊎◌, List, ◌∷◌, inl, inr, ⊎_elim, arith}
use Rattle.std.specs.List.{ContainsAt as Has}
use Rattle.std.proofs.lemmas.Bool.{and_parts, or_cases, both_ways, ltb-true, eqb-true, not-true}
use Rattle.std.proofs.lemmas.Bool.Decides.{nat_tests}
use Rattle.grounds.specs.declared.block.Block.{Block}
use Rattle.grounds.specs.Numbers.{page}
use Rattle.grounds.specs.Lists.{every, each_pair}
use Rattle.grounds.specs.Blocks.{Limits, class_of, apart}
use Rattle.grounds.specs.Statements.{share_well, LaidOut}
use Rattle.grounds.proofs.Lists.{every_has}
use Rattle.grounds.proofs.Apart.{not_apart}
use Rattle.grounds.proofs.Laid.{first_lies, others_lie}
use Rattle.table.specs.Table.{touches}

pub touch_tells : (p : ℕ) (b : Block) → touches p b ≡ true → (b.at < p * page + page) × (p * page < b.at + b.room)
touch_tells p b h = not_apart (p * page) page b (not-true (apart (p * page) page b) h)

pub touch_from : (p : ℕ) (b : Block) → b.at < p * page + page → p * page < b.at + b.room → touches p b ≡ true
touch_from p b low high = grind (arith, nat_tests)

-- a piece that takes something touches the page on which it begins
pub touches_own : (b : Block) → 0 < b.room → touches (b.at / page) b ≡ true
touches_own b some = touch_from (b.at / page) b (omega arith) (omega arith)

pub record Share (b c : Block) : Type 0 where
  pub as_much : b.room ≡ c.room
  pub beside : b.at / page ≡ c.at / page

-- two pieces that touch one page take the same, and begin on the same page
pub share : (l : Limits) (b : Block) (bs : List Block) → LaidOut l (b ∷ bs) → (c : Block) → Has bs c → (p : ℕ) → touches p b ≡ true → touches p c ≡ true →
    Share b c
share l b bs out c has p tb tc = go (or_cases (apart (p * page) page b || apart (p * page) page c) alike well)
  where
    alike : Bool
    alike = eqb b.room c.room && (ltb 0 (class_of b.size l.classes) && ltb 0 (class_of c.size l.classes))

    well : ((apart (p * page) page b || apart (p * page) page c) || alike) ≡ true
    well = every_has (share_well l p b) bs c (and_parts (every (share_well l p b) bs) (each_pair (share_well l p) bs) (out.pages_of_one p)).0 has

    far : (d : Block) → touches p d ≡ true → apart (p * page) page d ≡ true → ⊥
    far d t = both_ways (apart (p * page) page d) (not-true (apart (p * page) page d) t)

    go : ((apart (p * page) page b || apart (p * page) page c) ≡ true) ⊎ (alike ≡ true) → Share b c
    go (inl e) = ⊎_elim (λ x. absurd (far b tb x)) (λ x. absurd (far c tc x)) (or_cases (apart (p * page) page b) (apart (p * page) page c) e)
    go (inr e) =
        let parts = and_parts (eqb b.room c.room) _ e in
        let small = and_parts (ltb 0 (class_of b.size l.classes)) (ltb 0 (class_of c.size l.classes)) parts.1 in
        let on_b = ((first_lies l b bs out).small_sits (ltb-true 0 _ small.0)).1 in
        let on_c = ((others_lie l b bs out c has).small_sits (ltb-true 0 _ small.1)).1 in
        record {
          as_much = eqb-true b.room c.room parts.0;
          beside = omega (arith, on_b, on_c, touch_tells p b tb, touch_tells p c tc);
        }
