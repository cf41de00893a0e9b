-- What the exit of a `?` hands on. Assumes nothing.
use Rattle.std.proofs.Common.{◌≡◌, ℕ, List, IsErrAnd, Result, sym, subst}
use Rattle.std.proofs.lemmas.Result.{err_from_is_err_and}
use Rattle.script.specs.declared.expected.Expected.{Expected}
use Rattle.script.specs.declared.expected.Expected.TheVariants.{Command, Number, Byte, Class, Word, End, Memory}
use Rattle.script.specs.Reading.{Blames, Reads}

pub blamed : (e : Expected) {P Q : Type 0} → (P → Q) → Blames e P → Blames e Q
blamed Command k h = k h
blamed Number k h = k h
blamed Byte k h = k h
blamed Class k h = k h
blamed (Word w) k h = k h
blamed End k h = k h
blamed Memory k h = tt

pub blames : (e : Expected) {P : Type 0} → P → Blames e P
blames Command h = h
blames Number h = h
blames Byte h = h
blames Class h = h
blames (Word w) h = h
blames End h = h
blames Memory h = tt

module _ {X : Type 0} (fits : X → Type 0) (form : X → List (List ℕ)) (r : Result X Expected) where
  pub reads_exit : (ws : List (List ℕ)) (e : Expected) (P : Type 0) → IsErrAnd r (λ y. y ≡ e) → Blames e P → (P → (x : X) → fits x → ws ≡ form x → ⊥) → Reads fits form ws r
  reads_exit ws e P by h k =
      let got = err_from_is_err_and r by in
      subst (Reads fits form ws) (sym got.1) (subst (λ y. Blames y ((x : X) → fits x → ws ≡ form x → ⊥)) (sym got.2) (blamed e k h))
