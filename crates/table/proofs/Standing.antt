-- Where a table stands for the pieces, it stands for them after each thing that can happen.
use Rattle.std.proofs.Common.{◌≡◌, ℕ, ◌<◌, Bool, true, List, [], ◌∷◌, ◌++◌, map, take, drop, Some, fold, sym, refl, ap, ◌∙◌, subst, ap₂, append-nil, arith, take-append-drop, length-take}
use Rattle.std.proofs.lemmas.List.{take-map, drop-map}
use Rattle.grounds.specs.declared.block.Block.{Block}
use Rattle.grounds.specs.Blocks.{Limits, may_be}
use Rattle.grounds.specs.Grounds.{State, all_blocks, find, without, got_at}
use Rattle.grounds.specs.Worlds.{GoodLimits}
use Rattle.grounds.proofs.Found.{find_at}
use Rattle.grounds.proofs.Happened.{one_out, one_spoilt, one_rests, one_overrun}
use Rattle.table.specs.Table.{Table, placed, sized, marked_spoilt, queued, released, rested}
use Rattle.table.specs.Stands.{Pieces, Stands}
use Rattle.table.proofs.Steps.{got_pieces, spoilt_pieces, overrun_pieces, resting_pieces, release_all}

requeued : (l : Limits) (t : Table) (q : List ℕ) (s : State) → Pieces l t s → Pieces l (queued t q) s
requeued l t q s p =
    record {
      laid_out = p.laid_out;
      knows = p.knows;
      once = p.once;
      pages = p.pages;
      sizes = p.sizes;
      some = p.some;
      spoils = p.spoils;
    }

released_queue : (t : Table) (xs : List ℕ) → (fold released t xs).queue ≡ t.queue
released_queue t [] = refl
released_queue t (a ∷ xs) = released_queue (released t a) xs

module _ (can : ℕ → Bool) (l : Limits) (good : GoodLimits can l) (t : Table) (s : State) (stands : Stands l t s) where
  pub got_stands : (n a : ℕ) → may_be l n a (all_blocks s) ≡ true → 0 < n → Stands l (sized (placed t (got_at l n a)) a n) (one_out l s n a)
  got_stands n a may some = record { pieces = got_pieces can l good t s stands.pieces n a may some; rests = stands.rests; few = stands.few }

  pub spoilt_stands : (n a : ℕ) → may_be l n a (all_blocks s) ≡ true → Stands l (marked_spoilt (placed t (got_at l n a)) a) (one_spoilt l s n a)
  spoilt_stands n a may = record { pieces = spoilt_pieces can l good t s stands.pieces n a may; rests = stands.rests; few = stands.few }

  pub overrun_stands : (a : ℕ) (b : Block) → find a s.out ≡ Some b → Stands l (marked_spoilt (sized t a 0) a) (one_overrun s a b)
  overrun_stands a b f = record { pieces = overrun_pieces can l good t s stands.pieces a b f; rests = stands.rests; few = stands.few }

  pub rest_stands : (a : ℕ) (b : Block) → find a s.out ≡ Some b → Stands l (rested l t a) (one_rests l s a b)
  rest_stands a b f =
      let k = l.rests in
      let at : Block → ℕ = λ c. c.at in
      let rs : List Block = b ∷ s.resting in
      let q : List ℕ = a ∷ t.queue in
      let queue : map at rs ≡ q = ap₂ (λ (x : ℕ) (xs : List ℕ). x ∷ xs) (find_at a s.out b f) stands.rests in
      let t₁ = queued (sized t a 0) (take k q) in
      let with_rest : List Block → State = λ r. record { out = without a s.out; resting = r; spoilt = s.spoilt } in
      let all : Pieces l t₁ (with_rest (take k rs ++ drop k rs))
      = subst (λ (r : List Block). Pieces l t₁ (with_rest r)) (sym (take-append-drop k rs)) (requeued l (sized t a 0) (take k q) _ (resting_pieces can l good t s stands.pieces a b f)) in
      let fewer : Pieces l (fold released t₁ (map at (drop k rs))) (with_rest (take k rs))
      = subst (λ (r : List Block). Pieces l (fold released t₁ (map at (drop k rs))) (with_rest r)) (append-nil (take k rs)) (release_all l (without a s.out) (take k rs) s.spoilt t₁ (drop k rs) all) in
      record {
        pieces =
            subst (λ (xs : List ℕ). Pieces l (fold released t₁ xs) (with_rest (take k rs))) (sym (drop-map at k rs) ∙ ap (drop k) queue) fewer;
        rests = sym (take-map at k rs) ∙ ap (take k) queue ∙ sym (released_queue t₁ (drop k q));
        few = omega (arith, length-take k rs);
      }
