-- One step of the keeper goes by the table, where an event is turned away and where it is taken, once it is known what comes of it.
use Rattle.std.proofs.Common.{◌≡◌, ℕ, List, Some, None, Option, sym, refl, ap, ◌∙◌, subst, arith}
use Rattle.grounds.specs.declared.event.Event.{Event}
use Rattle.grounds.specs.declared.event.Event.TheVariants.{Get, Give, Size, Look, Garbled}
use Rattle.grounds.specs.declared.answer.Refusal.{Refusal}
use Rattle.grounds.specs.declared.answer.Answer.{Answer}
use Rattle.grounds.specs.declared.answer.Answer.TheVariants.{Refused}
use Rattle.grounds.specs.Blocks.{Limits}
use Rattle.grounds.specs.Grounds.{place_of}
use Rattle.grounds.specs.Lowest.{by_turned}
use Rattle.grounds.specs.Promises.{thin}
use Rattle.table.specs.Table.{Table}
use Rattle.table.specs.Answers.{table_turned, table_chosen, table_answer, table_after, table_ground}
use Rattle.table.proofs.Keeping.{ByTable}
use Rattle.holds.specs.Holds.{Holds, Small}
use Rattle.keeper.specs.Outcomes.{Outcome, outcome}
use Rattle.keeper.specs.Keeper.{keeper}

-- memory holds a table of small pieces
pub record Held (l : Limits) (t : Table) (m : List ℕ) : Type 0 where
  pub holds : Holds l t m
  pub small : Small l t

abbrev pub Goes : Limits → Table → List ℕ → List ℕ → Event → Type 0
Goes l t m g e = ByTable thin keeper Held l t m g e

table_refused : (l : Limits) (t : Table) (e : Event) (r : Refusal) (k : ℕ) → table_after l t e (Refused r k) ≡ t
unfolding table_after
table_refused l t (Get n) r k = refl
table_refused l t (Give a) r k = refl
table_refused l t (Size a) r k = refl
table_refused l t Look r k = refl
table_refused l t (Garbled n) r k = refl

ground_refused : (l : Limits) (t : Table) (g : List ℕ) (e : Event) (r : Refusal) (k : ℕ) → table_ground l t g e (Refused r k) ≡ g
unfolding table_ground
ground_refused l t g (Get n) r k = refl
ground_refused l t g (Give a) r k = refl
ground_refused l t g (Size a) r k = refl
ground_refused l t g Look r k = refl
ground_refused l t g (Garbled n) r k = refl

module _ (l : Limits) (t : Table) (m g : List ℕ) (e : Event) where
  answer_turned : (r : Refusal) → table_turned l t e ≡ Some r → table_answer l t g e ≡ Refused r (place_of e)
  unfolding by_turned
  answer_turned r is = ap (λ (o : Option Refusal). by_turned o (place_of e) (table_chosen l t g e)) is

  answer_taken : (x : Answer) → table_turned l t e ≡ None → table_chosen l t g e ≡ x → table_answer l t g e ≡ x
  unfolding by_turned
  answer_taken x is chosen = ap (λ (o : Option Refusal). by_turned o (place_of e) (table_chosen l t g e)) is ∙ chosen

  pub turned_away : (r : Refusal) → Held l t m → outcome m g e ≡ record { answer = Refused r (place_of e); memory = m; ground = g } → table_turned l t e ≡ Some r → Goes l t m g e
  turned_away r held is turned =
      let told = answer_turned r turned in
      record {
        answers = ap (λ (o : Outcome). o.answer) is ∙ sym told;
        leaves = ap (λ (o : Outcome). o.ground) is ∙ sym (ap (table_ground l t g e) told ∙ ground_refused l t g e r (place_of e));
        holds =
            subst (λ (n : List ℕ). Held l (table_after l t e (table_answer l t g e)) n) (sym (ap (λ (o : Outcome). o.memory) is))
            (subst (λ (y : Table). Held l y m) (sym (ap (table_after l t e) told ∙ table_refused l t e r (place_of e))) held);
        away = λ s so. ap (λ (o : Outcome). o.memory) is;
      }

  pub taken : (o : Outcome) → outcome m g e ≡ o → table_turned l t e ≡ None → table_chosen l t g e ≡ o.answer → o.ground ≡ table_ground l t g e o.answer →
      Held l (table_after l t e o.answer) o.memory → Goes l t m g e
  taken o is turned chosen ground held =
      let told = answer_taken o.answer turned chosen in
      record {
        answers = ap (λ (o : Outcome). o.answer) is ∙ sym told;
        leaves = ap (λ (o : Outcome). o.ground) is ∙ ground ∙ sym (ap (table_ground l t g e) told);
        holds =
            subst (λ (n : List ℕ). Held l (table_after l t e (table_answer l t g e)) n) (sym (ap (λ (o : Outcome). o.memory) is))
            (subst (λ (y : Answer). Held l (table_after l t e y) o.memory) (sym told) held);
        away = λ s so. absurd (never (sym so ∙ turned));
      }
    where
      never : {s : Refusal} → Some s ≡ None → ⊥
      never so = let z : ◌≡◌ {A = ℕ} 0 1 = cc in omega arith
