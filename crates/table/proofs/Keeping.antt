-- A keeper whose memory holds a table, and that answers by it, is right and takes the lowest place. What it has to show is one step, of memory that
-- holds a table: the lists of pieces and what has been lived so far don't come into it (kept_..). It may take the table to stand for some pieces (standing_..).
--     Holds l t m        the keeper's own word for: the memory m holds the table t
--     ByTable            that each step goes by the table
use Rattle.std.proofs.Common.{◌≡◌, ℕ, Bool, true, List, length, Some, Option, sym, ap, ◌∙◌, subst}
use Rattle.grounds.specs.declared.event.Event.{Event}
use Rattle.grounds.specs.declared.answer.Refusal.{Refusal}
use Rattle.grounds.specs.declared.answer.Answer.{Answer}
use Rattle.grounds.specs.declared.answer.Answer.TheVariants.{Refused}
use Rattle.grounds.specs.Blocks.{Limits, ground_size}
use Rattle.grounds.specs.Events.{readable}
use Rattle.grounds.specs.Grounds.{State, place_of, after, ground_after}
use Rattle.grounds.specs.Lowest.{lowest_answer, by_turned, the_answer}
use Rattle.grounds.specs.Worlds.{GoodLimits, Program, World, Lived, new, asks, writes}
use Rattle.grounds.specs.Promises.{RightAnswer, RightStep, Right, Lowest}
use Rattle.grounds.proofs.Happened.{happened, ground_refused}
use Rattle.grounds.proofs.Kept.{Kept, new_kept, step_kept, write_kept}
use Rattle.grounds.proofs.LowestRight.{lowest_right}
use Rattle.table.specs.Table.{Table, new_table}
use Rattle.table.specs.Stands.{Stands}
use Rattle.table.specs.Answers.{table_turned, table_answer, table_after, table_ground}
use Rattle.table.specs.Theorems.{TableStep}
use Rattle.table.proofs.Steps.{new_stands}
use Rattle.table.proofs.TableRight.{same_turned, table_right}

module _ (can : ℕ → Bool) (f : Program) (Holds : Limits → Table → List ℕ → Type 0) where
  -- one step, of memory that holds a table and a ground of the right length
  pub record ByTable (l : Limits) (t : Table) (m g : List ℕ) (e : Event) : Type 0 where
    pub answers : f.answers m g e ≡ table_answer l t g e
    pub leaves : f.leaves m g e ≡ table_ground l t g e (table_answer l t g e)
    pub holds : Holds l (table_after l t e (table_answer l t g e)) (f.called m g e)
    pub away : (r : Refusal) → table_turned l t e ≡ Some r → f.called m g e ≡ m

  module _
      (opens : (l : Limits) → GoodLimits can l → Holds l new_table (f.opened l))
      (steps : (l : Limits) (t : Table) (s : State) (m g : List ℕ) (e : Event) → GoodLimits can l → Stands l t s → Holds l t m → length g ≡ ground_size l → readable e ≡ true → ByTable l t m g e)
      (l : Limits)
      (good : GoodLimits can l)
    where
      record Held (w : World) : Type 0 where
        t : Table
        stands : Stands l t w.state
        holds : Holds l t w.memory
        kept : Kept l w.state w.ground

      held_step : (w : World) → Held w → (e : Event) → readable e ≡ true → RightStep f l w e
      unfolding by_turned
      held_step w held e small =
          record {
            away = λ r is.
                let told : x ≡ Refused r (place_of e) = same ∙ ap (λ (o : Option Refusal). by_turned o (place_of e) (lowest_answer l s g e)) is in
                record {
                  told = told;
                  memory_kept = by.away r (same_turned can l good held.t s held.stands e ∙ is);
                  ground_kept = ground ∙ ap (ground_after l s g e) told ∙ ground_refused l s g e r (place_of e);
                };
            taken = λ is.
                let told : x ≡ lowest_answer l s g e = same ∙ ap (λ (o : Option Refusal). by_turned o (place_of e) (lowest_answer l s g e)) is in
                record {
                  answer_right = subst (RightAnswer l s g e) (sym told) (lowest_right l s g held.kept.laid_out e is);
                  ground_right = ground;
                };
          }
        where
          s : State
          s = w.state

          g : List ℕ
          g = w.ground

          x : Answer
          x = f.answers w.memory g e

          by : ByTable l held.t w.memory g e
          by = steps l held.t s w.memory g e good held.stands held.holds held.kept.long small

          step : TableStep l held.t s g e
          step = table_right can l held.t s g e good held.stands

          same : x ≡ the_answer l s g e
          same = by.answers ∙ step.answer

          ground : f.leaves w.memory g e ≡ ground_after l s g e x
          ground = by.leaves ∙ step.ground ∙ ap (ground_after l s g e) (sym by.answers)

      lived_held : {w : World} → Lived f l w → Held w
      lived_held new = record { t = new_table; stands = new_stands l; holds = opens l good; kept = new_kept can l good }
      lived_held (asks {w} e small lived) =
          let held = lived_held lived in
          let by = steps l held.t w.state w.memory w.ground e good held.stands held.holds held.kept.long small in
          let step = table_right can l held.t w.state w.ground e good held.stands in
          let x = table_answer l held.t w.ground e in
          record {
            t = table_after l held.t e x;
            stands = subst (λ (y : Answer). Stands l (table_after l held.t e x) (after l w.state e y)) (sym by.answers) step.stands;
            holds = by.holds;
            kept = step_kept can l good (happened f l w e (held_step w held e small)) held.kept;
          }
      lived_held (writes {w} a bs lived inside small) =
          let held = lived_held lived in
          record {
            t = held.t;
            stands = held.stands;
            holds = held.holds;
            kept = write_kept can l good w.state w.ground a bs inside small held.kept;
          }

  module _
      (opens : (l : Limits) → GoodLimits can l → Holds l new_table (f.opened l))
      (steps : (l : Limits) (t : Table) (s : State) (m g : List ℕ) (e : Event) → GoodLimits can l → Stands l t s → Holds l t m → length g ≡ ground_size l → readable e ≡ true → ByTable l t m g e)
    where
      pub standing_right : Right can f
      standing_right l w e good lived small = held_step opens steps l good w (lived_held opens steps l good lived) e small

      pub standing_lowest : Lowest can f
      standing_lowest l w e good lived small =
          let held = lived_held opens steps l good lived in
          (steps l held.t w.state w.memory w.ground e good held.stands held.holds held.kept.long small).answers
          ∙ (table_right can l held.t w.state w.ground e good held.stands).answer

      -- whatever holds of all memory that holds a table holds of a lived world's
      pub standing_memory : (P : Limits → List ℕ → Type 0) → ((l : Limits) (t : Table) (m : List ℕ) → GoodLimits can l → Holds l t m → P l m) → (l : Limits) (w : World) →
          GoodLimits can l → Lived f l w → P l w.memory
      standing_memory P each l w good lived = let held = lived_held opens steps l good lived in each l held.t w.memory good held.holds

  -- the same where a step is shown of all memory that holds a table, whatever the table stands for
  module _
      (opens : (l : Limits) → GoodLimits can l → Holds l new_table (f.opened l))
      (steps : (l : Limits) (t : Table) (m g : List ℕ) (e : Event) → GoodLimits can l → Holds l t m → length g ≡ ground_size l → readable e ≡ true → ByTable l t m g e)
    where
      pub kept_right : Right can f
      kept_right = standing_right opens (λ l t s m g e good stands. steps l t m g e good)

      pub kept_lowest : Lowest can f
      kept_lowest = standing_lowest opens (λ l t s m g e good stands. steps l t m g e good)

      pub kept_memory : (P : Limits → List ℕ → Type 0) → ((l : Limits) (t : Table) (m : List ℕ) → GoodLimits can l → Holds l t m → P l m) → (l : Limits) (w : World) →
          GoodLimits can l → Lived f l w → P l w.memory
      kept_memory = standing_memory opens (λ l t s m g e good stands. steps l t m g e good)
