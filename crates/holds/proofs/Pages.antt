-- What the words of a page are after each change of it, and that the words outside it stay.
use Rattle.std.proofs.Common.{◌≡◌, ℕ, ◌+◌, ◌-◌, ◌*◌, ◌^◌, ◌<◌, ◌≤◌, Bool, not, ◌&&◌, ◌||◌, eqb, ◌⊎◌, List, length, get_or, set, refl, ap, ◌∙◌, inl, inr, arith}
use Rattle.std.proofs.lemmas.List.{length-set, get_or-set_same, get_or-set_other}
use Rattle.grounds.specs.Numbers.{most_classes}
use Rattle.units.specs.Units.{units, unit_words, unit_bit, Rest}
use Rattle.units.proofs.Written.{taken_bits, taken_rest, released_bits, released_rest}
use Rattle.units.proofs.Copied.{copied_rest, copied_bits}
use Rattle.units.proofs.Elsewhere.{elsewhere}
use Rattle.layout.specs.declared.field.Field.TheVariants.{Kind, Head, Used, Class}
use Rattle.layout.specs.Layout.{templates_at, page_stride, page_at, field_at, taken_at, spoilt_at, asked_at}
use Rattle.book.specs.declared.class.Class.{Class as ClassOf}
use Rattle.layout.specs.declared.spot.Spot.{Spot}
use Rattle.book.specs.Spots.{used_in}
use Rattle.book.specs.Changes.{painted, filled, emptied, sized_in, spoilt_in}
use Rattle.units.proofs.Written.{set_fits}
use Rattle.holds.proofs.Frames.{OutsidePage}

-- ---- words of one page written, one after the other

pub page_none : (p : ℕ) (m : List ℕ) → ((a : ℕ) → get_or m a 0 < 2 ^ 64) → OutsidePage p m m
page_none p m fits = record { same = λ a out. refl; long = refl; fits = fits }

pub page_set : (p : ℕ) (m n : List ℕ) (a w : ℕ) → OutsidePage p m n → page_at p ≤ a → a < page_at p + page_stride → w < 2 ^ 64 → OutsidePage p m (set n a w)
page_set p m n a w o low high small =
    record {
      same = λ b out. get_or-set_other n a b w 0 (λ e. other b out e) ∙ o.same b out;
      long = length-set n a w ∙ o.long;
      fits = set_fits n a w small o.fits;
    }
  where
    other : (b : ℕ) → (b < page_at p) ⊎ (page_at p + page_stride ≤ b) → b ≡ a → ⊥
    other b (inl below) e = omega arith
    other b (inr above) e = omega arith

pub page_rest : (p at : ℕ) (m n r : List ℕ) → OutsidePage p m n → Rest at n r → page_at p ≤ at → at + unit_words ≤ page_at p + page_stride → OutsidePage p m r
page_rest p at m n r o rest low high =
    record {
      same = λ b out. rest.outside b (λ x y. other b out x y) ∙ o.same b out;
      long = rest.long ∙ o.long;
      fits = rest.fits o.fits;
    }
  where
    other : (b : ℕ) → (b < page_at p) ⊎ (page_at p + page_stride ≤ b) → at ≤ b → b < at + unit_words → ⊥
    other b (inl below) x y = omega arith
    other b (inr above) x y = omega arith

pub page_then : (p : ℕ) (m n r : List ℕ) → OutsidePage p m n → OutsidePage p n r → OutsidePage p m r
page_then p m n r o q = record { same = λ a out. q.same a out ∙ o.same a out; long = q.long ∙ o.long; fits = q.fits }

-- ---- a piece more

module _ (m : List ℕ) (s : Spot) (fits : (a : ℕ) → get_or m a 0 < 2 ^ 64) (unit : s.unit < units) (inside : page_at s.page + page_stride ≤ length m) where
  abbrev p : ℕ
  p = s.page

  counted : ℕ → List ℕ
  counted k = set m (field_at p Used) k

  counted_word : (k a : ℕ) → (a ≡ field_at p Used → ⊥) → get_or (counted k) a 0 ≡ get_or m a 0
  unfolding counted
  counted_word k a other = get_or-set_other m (field_at p Used) a k 0 other

  counted_used : (k : ℕ) → get_or (counted k) (field_at p Used) 0 ≡ k
  unfolding counted
  counted_used k = get_or-set_same m (field_at p Used) k 0 (omega arith)

  counted_bits : (k at : ℕ) → taken_at p ≤ at → (v : ℕ) → v < units → unit_bit (counted k) at v ≡ unit_bit m at v
  counted_bits k at low v near = elsewhere m (counted k) at (λ a x y. counted_word k a (λ e. omega arith)) v near

  counted_outside : (k : ℕ) → k < 2 ^ 64 → OutsidePage p m (counted k)
  unfolding counted
  counted_outside k small = page_set p m m (field_at p Used) k (page_none p m fits) (omega arith) (omega arith) small

  -- the words of the page but for `used` and those of the taken units
  abbrev Other : ℕ → Type 0
  Other a = (a ≡ field_at p Used → ⊥) × ((a < taken_at p) ⊎ (spoilt_at p ≤ a))

  far : (a : ℕ) → (a < taken_at p) ⊎ (spoilt_at p ≤ a) → taken_at p ≤ a → a < taken_at p + unit_words → ⊥
  far a (inl below) low high = omega arith
  far a (inr above) low high = omega arith

  module _ (small : used_in m p + 1 < 2 ^ 64) where
    pub filled_outside : OutsidePage p m (filled m s)
    unfolding filled counted
    filled_outside =
        page_rest p (taken_at p) m (counted (used_in m p + 1)) (filled m s) (counted_outside (used_in m p + 1) small)
        (taken_rest (counted (used_in m p + 1)) (taken_at p) s.unit unit) (omega arith) (omega arith)

    pub filled_word : (a : ℕ) → Other a → get_or (filled m s) a 0 ≡ get_or m a 0
    unfolding filled counted
    filled_word a other =
        (taken_rest (counted (used_in m p + 1)) (taken_at p) s.unit unit).outside a (far a other.1) ∙ counted_word (used_in m p + 1) a other.0

    pub filled_used : get_or (filled m s) (field_at p Used) 0 ≡ used_in m p + 1
    unfolding filled counted
    filled_used =
        (taken_rest (counted (used_in m p + 1)) (taken_at p) s.unit unit).outside (field_at p Used) (λ low high. omega arith)
        ∙ counted_used (used_in m p + 1)

    pub filled_bits : (v : ℕ) → v < units → unit_bit (filled m s) (taken_at p) v ≡ (eqb v s.unit || unit_bit m (taken_at p) v)
    unfolding filled counted
    filled_bits v near =
        taken_bits (counted (used_in m p + 1)) (taken_at p) s.unit unit
        (omega (arith, length-set m (field_at p Used) (used_in m p + 1))) v
        ∙ ap (λ (b : Bool). eqb v s.unit || b) (counted_bits (used_in m p + 1) (taken_at p) (omega arith) v near)

  -- ---- a piece less

  abbrev fewer : ℕ
  fewer = used_in m p - 1

  fewer_small : fewer < 2 ^ 64
  fewer_small = omega (arith, fits (field_at p Used))

  pub emptied_outside : OutsidePage p m (emptied m s)
  unfolding emptied counted
  emptied_outside =
      page_rest p (taken_at p) m (counted fewer) (emptied m s) (counted_outside fewer fewer_small) (released_rest (counted fewer) (taken_at p) s.unit unit)
      (omega arith) (omega arith)

  pub emptied_word : (a : ℕ) → Other a → get_or (emptied m s) a 0 ≡ get_or m a 0
  unfolding emptied counted
  emptied_word a other =
      (released_rest (counted fewer) (taken_at p) s.unit unit).outside a (far a other.1) ∙ counted_word fewer a other.0

  pub emptied_used : get_or (emptied m s) (field_at p Used) 0 ≡ used_in m p - 1
  unfolding emptied counted
  emptied_used =
      (released_rest (counted fewer) (taken_at p) s.unit unit).outside (field_at p Used) (λ low high. omega arith) ∙ counted_used fewer

  pub emptied_bits : (v : ℕ) → v < units → unit_bit (emptied m s) (taken_at p) v ≡ (not (eqb v s.unit) && unit_bit m (taken_at p) v)
  unfolding emptied counted
  emptied_bits v near =
      released_bits (counted fewer) (taken_at p) s.unit unit ((counted_outside fewer fewer_small).fits _)
      (omega (arith, length-set m (field_at p Used) fewer)) v
      ∙ ap (λ (b : Bool). not (eqb v s.unit) && b) (counted_bits fewer (taken_at p) (omega arith) v near)

-- ---- a page that becomes of a class

module _ (m : List ℕ) (c : ClassOf) (p : ℕ) (fits : (a : ℕ) → get_or m a 0 < 2 ^ 64) (number : c.number < most_classes) (room : c.room < 2 ^ 64)
    (page_small : p < 2 ^ 64) (inside : page_at p + page_stride ≤ length m) where
  abbrev m₁ : List ℕ
  m₁ = set m (field_at p Kind) c.room

  abbrev m₂ : List ℕ
  m₂ = set m₁ (field_at p Head) p

  titled : List ℕ
  titled = set m₂ (field_at p Class) c.number

  abbrev template : ℕ
  template = templates_at + unit_words * c.number

  titled_long : length titled ≡ length m
  unfolding titled
  titled_long = length-set m₂ (field_at p Class) c.number ∙ length-set m₁ (field_at p Head) p ∙ length-set m (field_at p Kind) c.room

  titled_outside : OutsidePage p m titled
  unfolding titled
  titled_outside =
      page_set p m m₂ (field_at p Class) c.number
      (page_set p m m₁ (field_at p Head) p (page_set p m m (field_at p Kind) c.room (page_none p m fits) (omega arith) (omega arith) room) (omega arith) (omega arith) page_small)
      (omega arith) (omega arith) (omega arith)

  titled_word : (a : ℕ) → (a ≡ field_at p Kind → ⊥) → (a ≡ field_at p Head → ⊥) → (a ≡ field_at p Class → ⊥) → get_or titled a 0 ≡ get_or m a 0
  unfolding titled
  titled_word a x y z =
      get_or-set_other m₂ (field_at p Class) a c.number 0 z
      ∙ get_or-set_other m₁ (field_at p Head) a p 0 y
      ∙ get_or-set_other m (field_at p Kind) a c.room 0 x

  copy_left : Rest (taken_at p) titled (painted m c p)
  unfolding painted titled
  copy_left = copied_rest titled template (taken_at p)

  pub painted_outside : OutsidePage p m (painted m c p)
  painted_outside = page_rest p (taken_at p) m titled (painted m c p) titled_outside copy_left (omega arith) (omega arith)

  pub painted_word : (a : ℕ) → (a ≡ field_at p Kind → ⊥) → (a ≡ field_at p Head → ⊥) → (a ≡ field_at p Class → ⊥) → (a < taken_at p) ⊎ (spoilt_at p ≤ a) →
      get_or (painted m c p) a 0 ≡ get_or m a 0
  painted_word a x y z out = copy_left.outside a (λ low high. away out low high) ∙ titled_word a x y z
    where
      away : (a < taken_at p) ⊎ (spoilt_at p ≤ a) → taken_at p ≤ a → a < taken_at p + unit_words → ⊥
      away (inl below) low high = omega arith
      away (inr above) low high = omega arith

  pub painted_kind : get_or (painted m c p) (field_at p Kind) 0 ≡ c.room
  unfolding titled
  painted_kind =
      copy_left.outside (field_at p Kind) (λ low high. omega arith)
      ∙ get_or-set_other m₂ (field_at p Class) (field_at p Kind) c.number 0 (omega arith)
      ∙ get_or-set_other m₁ (field_at p Head) (field_at p Kind) p 0 (omega arith)
      ∙ get_or-set_same m (field_at p Kind) c.room 0 (omega arith)

  pub painted_head : get_or (painted m c p) (field_at p Head) 0 ≡ p
  unfolding titled
  painted_head =
      copy_left.outside (field_at p Head) (λ low high. omega arith)
      ∙ get_or-set_other m₂ (field_at p Class) (field_at p Head) c.number 0 (omega arith)
      ∙ get_or-set_same m₁ (field_at p Head) p 0 (omega (arith, length-set m (field_at p Kind) c.room))

  pub painted_class : get_or (painted m c p) (field_at p Class) 0 ≡ c.number
  unfolding titled
  painted_class =
      copy_left.outside (field_at p Class) (λ low high. omega arith)
      ∙ get_or-set_same m₂ (field_at p Class) c.number 0 (omega (arith, titled_long, length-set m₂ (field_at p Class) c.number))

  pub painted_bits : (v : ℕ) → v < units → unit_bit (painted m c p) (taken_at p) v ≡ unit_bit m template v
  unfolding painted titled
  painted_bits v near =
      copied_bits titled template (taken_at p) (omega (arith, titled_long)) v near
      ∙ elsewhere m titled template (λ a low high. titled_word a (λ e. omega arith) (λ e. omega arith) (λ e. omega arith)) v near

-- ---- how much was asked, and what is spoilt

module _ (m : List ℕ) (s : Spot) (fits : (a : ℕ) → get_or m a 0 < 2 ^ 64) (unit : s.unit < units) (inside : page_at s.page + page_stride ≤ length m) where
  module _ (n : ℕ) (small : n < 2 ^ 64) where
    pub sized_outside : OutsidePage s.page m (sized_in m s n)
    sized_outside = page_set s.page m m (asked_at s.page s.unit) n (page_none s.page m fits) (omega arith) (omega arith) small

    pub sized_word : (a : ℕ) → (a ≡ asked_at s.page s.unit → ⊥) → get_or (sized_in m s n) a 0 ≡ get_or m a 0
    sized_word a other = get_or-set_other m (asked_at s.page s.unit) a n 0 other

    pub sized_asked : get_or (sized_in m s n) (asked_at s.page s.unit) 0 ≡ n
    sized_asked = get_or-set_same m (asked_at s.page s.unit) n 0 (omega arith)

  pub spoilt_outside : OutsidePage s.page m (spoilt_in m s)
  spoilt_outside =
      page_rest s.page (spoilt_at s.page) m m (spoilt_in m s) (page_none s.page m fits) (taken_rest m (spoilt_at s.page) s.unit unit) (omega arith) (omega arith)

  pub spoilt_word : (a : ℕ) → (a < spoilt_at s.page) ⊎ (spoilt_at s.page + unit_words ≤ a) → get_or (spoilt_in m s) a 0 ≡ get_or m a 0
  spoilt_word a out = (taken_rest m (spoilt_at s.page) s.unit unit).outside a (λ low high. away out low high)
    where
      away : (a < spoilt_at s.page) ⊎ (spoilt_at s.page + unit_words ≤ a) → spoilt_at s.page ≤ a → a < spoilt_at s.page + unit_words → ⊥
      away (inl below) low high = omega arith
      away (inr above) low high = omega arith

  pub spoilt_bits : (v : ℕ) → v < units → unit_bit (spoilt_in m s) (spoilt_at s.page) v ≡ (eqb v s.unit || unit_bit m (spoilt_at s.page) v)
  spoilt_bits v near = taken_bits m (spoilt_at s.page) s.unit unit (omega arith) v
