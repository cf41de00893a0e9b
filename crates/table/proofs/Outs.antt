-- What the table knows of pieces that are out.
use Rattle.std.proofs.Common.{◌≡◌, ℕ, ◌/◌, ◌<◌, ◌++◌, Some, None, Option, sym, refl, ap, ◌∙◌, subst, arith}
use Rattle.std.proofs.ByRecursion.{all-has, has_append_left}
use Rattle.grounds.specs.declared.block.Block.{Block}
use Rattle.grounds.specs.Numbers.{page}
use Rattle.grounds.specs.Grounds.{all_blocks, find}
use Rattle.grounds.proofs.Found.{find_at, find_has}
use Rattle.grounds.proofs.Happened.{out_found}
use Rattle.grounds.proofs.Kept.{found_lies}
use Rattle.table.specs.Stands.{Knows}
use Rattle.table.specs.Theorems.{OutKnown}
use Rattle.table.proofs.Touch.{touches_own}

pub out_known : OutKnown
out_known l t s a stands = (there, λ none. go (find a s.out) refl none)
  where
    there : (b : Block) → find a s.out ≡ Some b → (0 < t.asked a) × (t.asked a ≡ b.size) × (t.kind (a / page) ≡ b.room)
    there b f =
        let p = stands.pieces in
        let size : t.asked a ≡ b.size = sym (p.sizes a) ∙ ap (λ (c : Block). c.size) (out_found s a b f) in
        let has = find_has a s.out b f in
        let lie = found_lies l s a b p.laid_out f in
        let kind = (all-has (Knows t) (all_blocks s) b p.knows (has_append_left s.out (s.resting ++ s.spoilt) b has) (b.at / page) (touches_own b (omega (arith, lie)))).0 in (
          omega (arith, size, all-has (λ c. 0 < c.size) s.out b p.some has),
          size,
          subst (λ (x : ℕ). t.kind (x / page) ≡ b.room) (find_at a s.out b f) kind,
        )

    go : (o : Option Block) → find a s.out ≡ o → t.asked a ≡ 0 → find a s.out ≡ None
    go None e none = e
    go (Some b) e none = let k = there b e in absurd (omega (arith, k.0))
