-- What every lived world keeps: the pieces are laid out, and the ground has its length and bytes.
use Rattle.std.proofs.Common.{◌≡◌, ℕ, ◌+◌, ◌≤◌, Bool, true, ltb, List, ◌∷◌, ◌++◌, length, replicate, Some, refl, ◌∙◌, arith}
use lib.ListN.{length-replicate}
use Rattle.std.proofs.ByRecursion.{All-weaker}
use Rattle.std.proofs.lemmas.Bool.{lt-ltb}
use Rattle.grounds.specs.declared.block.Block.{Block}
use Rattle.grounds.specs.declared.event.Event.{Event}
use Rattle.grounds.specs.declared.answer.Answer.{Answer}
use Rattle.grounds.specs.Numbers.{byte}
use Rattle.grounds.specs.Lists.{over, bytes}
use Rattle.grounds.specs.Blocks.{Limits, ground_size, may_be}
use Rattle.grounds.specs.Grounds.{State, new_state, all_blocks, find, without, got_at, mark_place}
use Rattle.grounds.specs.Worlds.{GoodLimits, Program, World, Lived, new, asks, writes}
use Rattle.grounds.specs.Promises.{Right}
use Rattle.grounds.specs.Statements.{LaidOut, NobodyElses, GroundKeeps}
use Rattle.grounds.proofs.Lists.{every_from_all, every_replicate}
use Rattle.grounds.proofs.Parts.{length_over, bytes_over}
use Rattle.grounds.proofs.Found.{find_at}
use Rattle.grounds.proofs.Apart.{Lies}
use Rattle.grounds.proofs.Happened.{Happened, happened}
use Rattle.grounds.proofs.Laid.{laid_bag, out_front, first_lies, none_laid, got_laid, step_laid}

pub record Kept (l : Limits) (s : State) (g : List ℕ) : Type 0 where
  pub laid_out : LaidOut l (all_blocks s)
  pub long : length g ≡ ground_size l
  pub all_bytes : bytes g ≡ true

-- the piece that is found, before all others
pub found_first : (l : Limits) (s : State) (a : ℕ) (b : Block) → LaidOut l (all_blocks s) → find a s.out ≡ Some b →
    LaidOut l (b ∷ (without a s.out ++ (s.resting ++ s.spoilt)))
found_first l s a b out f = out_front (LaidOut l) (laid_bag l) a s.out (s.resting ++ s.spoilt) b f out

pub found_lies : (l : Limits) (s : State) (a : ℕ) (b : Block) → LaidOut l (all_blocks s) → find a s.out ≡ Some b → Lies l b
found_lies l s a b out f = first_lies l b _ (found_first l s a b out f)

module _ (can : ℕ → Bool) (l : Limits) (good : GoodLimits can l) where
  pub got_lies : (n a : ℕ) (bs : List Block) → may_be l n a bs ≡ true → LaidOut l bs → Lies l (got_at l n a)
  got_lies n a bs may out = first_lies l (got_at l n a) bs (got_laid can l good n a bs may out)

  pub mark_bytes : bytes l.marks ≡ true
  mark_bytes = every_from_all (λ b. ltb b byte) l.marks (All-weaker _ (λ b. ltb b byte ≡ true) (λ b h. lt-ltb b byte h.1) l.marks good.mark_bytes)

  -- the mark of a piece that lies in the ground does too
  pub mark_inside : (b : Block) (g : List ℕ) → Lies l b → length g ≡ ground_size l → mark_place b + length l.marks ≤ length g
  mark_inside b g lie long = omega (arith, lie, good.mark_long)

  pub block_inside : (a : ℕ) (b : Block) (g : List ℕ) → b.at ≡ a → Lies l b → length g ≡ ground_size l → a + length (replicate {A = ℕ} b.room 0) ≤ length g
  block_inside a b g at lie long = omega (arith, lie, length-replicate {A = ℕ} b.room 0)

  step_long : {s t : State} {g h : List ℕ} {e : Event} {x : Answer} → Happened l s g e x h t → LaidOut l (all_blocks s) → length g ≡ ground_size l →
      length h ≡ ground_size l
  step_long {s} {g = g} what out long = grind (arith, length_over, mark_inside, got_lies, block_inside, find_at, found_lies)

  step_bytes : {s t : State} {g h : List ℕ} {e : Event} {x : Answer} → Happened l s g e x h t → bytes g ≡ true → bytes h ≡ true
  step_bytes {s} {g = g} what small = grind (arith, bytes_over, mark_bytes, every_replicate)

  pub step_kept : {s t : State} {g h : List ℕ} {e : Event} {x : Answer} → Happened l s g e x h t → Kept l s g → Kept l t h
  step_kept what was =
      record {
        laid_out = step_laid can l good what was.laid_out;
        long = step_long what was.laid_out was.long;
        all_bytes = step_bytes what was.all_bytes;
      }

  pub write_kept : (s : State) (g : List ℕ) (a : ℕ) (bs : List ℕ) → a + length bs ≤ ground_size l → bytes bs ≡ true → Kept l s g → Kept l s (over a bs g)
  write_kept s g a bs inside small was =
      record {
        laid_out = was.laid_out;
        long = length_over a bs g (omega (arith, was.long)) ∙ was.long;
        all_bytes = bytes_over a bs g small was.all_bytes;
      }

  pub new_kept : Kept l new_state (replicate (ground_size l) 0)
  new_kept =
      record {
        laid_out = none_laid l;
        long = length-replicate (ground_size l) 0;
        all_bytes = every_replicate (λ b. ltb b byte) (ground_size l) 0 refl;
      }

module _ (can : ℕ → Bool) (f : Program) (right : Right can f) (l : Limits) (good : GoodLimits can l) where
  pub lived_kept : {w : World} → Lived f l w → Kept l w.state w.ground
  lived_kept new = new_kept can l good
  lived_kept (asks {w} e readable lived) = step_kept can l good (happened f l w e (right l w e good lived readable)) (lived_kept lived)
  lived_kept (writes {w} a bs lived inside small) = write_kept can l good w.state w.ground a bs inside small (lived_kept lived)

pub nobody_elses : (can : ℕ → Bool) (f : Program) → Right can f → NobodyElses can f
nobody_elses can f right l w good lived = (lived_kept can f right l good lived).laid_out

pub ground_keeps : (can : ℕ → Bool) (f : Program) → Right can f → GroundKeeps can f
ground_keeps can f right l w good lived = let k = lived_kept can f right l good lived in (k.long, k.all_bytes)
