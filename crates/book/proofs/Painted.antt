-- A page whose words become those of a class has as many pieces as before.
use Rattle.std.proofs.Common.{◌≡◌, ℕ, ◌+◌, ◌*◌, List, set, ◌∙◌, arith}
use Rattle.std.proofs.lemmas.List.{get_or-set_other}
use Rattle.units.specs.Units.{unit_words}
use Rattle.units.proofs.Copied.{copied_rest}
use Rattle.layout.specs.declared.field.Field.TheVariants.{Kind, Head, Used, Class}
use Rattle.layout.specs.Layout.{templates_at, field_at, taken_at}
use Rattle.book.specs.declared.class.Class.{Class as ClassOf}
use Rattle.book.specs.Spots.{used_in}
use Rattle.book.specs.Changes.{painted}

pub used_painted : (m : List ℕ) (c : ClassOf) (p : ℕ) → used_in (painted m c p) p ≡ used_in m p
unfolding painted
used_painted m c p =
    let first = set m (field_at p Kind) c.room in
    let second = set first (field_at p Head) p in
    let third = set second (field_at p Class) c.number in
    (copied_rest third (templates_at + unit_words * c.number) (taken_at p)).outside (field_at p Used) (λ low high. absurd (omega arith))
    ∙ get_or-set_other second (field_at p Class) (field_at p Used) c.number 0 (λ e. absurd (omega arith))
    ∙ get_or-set_other first (field_at p Head) (field_at p Used) p 0 (λ e. absurd (omega arith))
    ∙ get_or-set_other m (field_at p Kind) (field_at p Used) c.room 0 (λ e. absurd (omega arith))
