-- Where control rests in a shape and in a scope of it, by its forms.
use Rattle.std.proofs.Common.{◌≡◌, ℕ, zero, suc, ◌+◌, ◌<◌, Bool, true, false, List, [], ◌∷◌, map, drop, drop-cons, length, get_or, refl, sym, ap, ap₂, ◌∙◌, ⊎_elim, arith}
use Rattle.std.specs.Prelude.{◌&&◌, ◌||◌, ◌==◌}
use Rattle.std.proofs.Math.ListN.{set}
use Rattle.std.proofs.lemmas.Bool.{cases_eq, eq-eqb, ne_eqb}
use Rattle.qz_syntax.specs.Numbers.{contains}
use Rattle.qz_dd.specs.declared.node.DdId.{DdId}
use Rattle.qz_dd.specs.Tables.{Reading}
use Rattle.qz_system.specs.declared.shape.Shape.{Shape}
use Rattle.qz_system.specs.declared.shape.Shape.TheVariants as shape
use Rattle.qz_system.specs.declared.shape.Shape.TheOpen.{Shape-F}
use Rattle.qz_system.specs.declared.shape.Shape.TheFolds.{fold-roll-Shape}
use Rattle.qz_system.specs.declared.resting.Living.{Living}
use Rattle.qz_system.specs.Restings.{living, beside, living_over, node_living, living_of}
use Rattle.qz_symbolic.specs.Placings.{value_at}

module _ (bits : ℕ → Bool) (cell : ℕ) where
  living_seq : (parts : List Shape) → living_of bits cell (shape.Seq parts) ≡ living_over (living false false) (map (living_of bits cell) parts)
  living_seq parts = ap (living_of bits cell) (sym (shape.rolls-Seq parts)) ∙ fold-roll-Shape Living (node_living bits cell) (Shape-F.Seq parts)

  living_par : (parts : List Shape) → living_of bits cell (shape.Par parts) ≡ living_over (living false false) (map (living_of bits cell) parts)
  living_par parts = ap (living_of bits cell) (sym (shape.rolls-Par parts)) ∙ fold-roll-Shape Living (node_living bits cell) (Shape-F.Par parts)

  living_if : (first second : Shape) → living_of bits cell (shape.If first second) ≡ beside (living_of bits cell first) (living_of bits cell second)
  living_if first second = ap (living_of bits cell) (sym (shape.rolls-If first second)) ∙ fold-roll-Shape Living (node_living bits cell) (Shape-F.If first second)

  living_body : (body : Shape) → living_of bits cell (shape.Body body) ≡ living_of bits cell body
  living_body body = ap (living_of bits cell) (sym (shape.rolls-Body body)) ∙ fold-roll-Shape Living (node_living bits cell) (Shape-F.Body body)

  living_hold : (place : ℕ) (body : Shape) → living_of bits cell (shape.Hold place body) ≡ beside (living (bits place) false) (living_of bits cell body)
  living_hold place body = ap (living_of bits cell) (sym (shape.rolls-Hold place body)) ∙ fold-roll-Shape Living (node_living bits cell) (Shape-F.Hold place body)

  living_scope : (cells : List ℕ) (body : Shape) → living_of bits cell (shape.Scope cells body)
      ≡ living (living_of bits cell body).rests ((living_of bits cell body).lives || (contains cells cell && (living_of bits cell body).rests))
  living_scope cells body = ap (living_of bits cell) (sym (shape.rolls-Scope cells body)) ∙ fold-roll-Shape Living (node_living bits cell) (Shape-F.Scope cells body)

  pub seq_rests : (s : Shape) (parts all : List Shape) (d : Bool) → s ≡ shape.Seq parts → all ≡ parts
      → (living_over (living false false) (map (living_of bits cell) all)).rests ≡ d → (living_of bits cell s).rests ≡ d
  seq_rests s parts all d is all_is rests =
      ap (λ (x : Shape). (living_of bits cell x).rests) is ∙ ap (λ (l : Living). l.rests) (living_seq parts)
      ∙ ap (λ (xs : List Shape). (living_over (living false false) (map (living_of bits cell) xs)).rests) (sym all_is) ∙ rests

  pub par_rests : (s : Shape) (parts all : List Shape) (d : Bool) → s ≡ shape.Par parts → all ≡ parts
      → (living_over (living false false) (map (living_of bits cell) all)).rests ≡ d → (living_of bits cell s).rests ≡ d
  par_rests s parts all d is all_is rests =
      ap (λ (x : Shape). (living_of bits cell x).rests) is ∙ ap (λ (l : Living). l.rests) (living_par parts)
      ∙ ap (λ (xs : List Shape). (living_over (living false false) (map (living_of bits cell) xs)).rests) (sym all_is) ∙ rests

  pub choice_rests : (s first second one two : Shape) (a b d : Bool) → s ≡ shape.If first second → one ≡ first → two ≡ second
      → (living_of bits cell one).rests ≡ a → (living_of bits cell two).rests ≡ b → d ≡ a || b → (living_of bits cell s).rests ≡ d
  choice_rests s first second one two a b d is one_is two_is a_is b_is d_is =
      ap (λ (x : Shape). (living_of bits cell x).rests) is ∙ ap (λ (l : Living). l.rests) (living_if first second)
      ∙ ap₂ (λ (x y : Bool). x || y) (ap (λ (x : Shape). (living_of bits cell x).rests) (sym one_is) ∙ a_is) (ap (λ (x : Shape). (living_of bits cell x).rests) (sym two_is) ∙ b_is)
      ∙ sym d_is

  pub body_rests : (s body inner : Shape) (d : Bool) → s ≡ shape.Body body → inner ≡ body → (living_of bits cell inner).rests ≡ d → (living_of bits cell s).rests ≡ d
  body_rests s body inner d is inner_is rests =
      ap (λ (x : Shape). (living_of bits cell x).rests) is ∙ ap (λ (l : Living). l.rests) (living_body body)
      ∙ ap (λ (x : Shape). (living_of bits cell x).rests) (sym inner_is) ∙ rests

  pub hold_rests : (s body inner : Shape) (place : ℕ) (a b d : Bool) → s ≡ shape.Hold place body → inner ≡ body → a ≡ bits place
      → (living_of bits cell inner).rests ≡ b → d ≡ a || b → (living_of bits cell s).rests ≡ d
  hold_rests s body inner place a b d is inner_is a_is b_is d_is =
      ap (λ (x : Shape). (living_of bits cell x).rests) is ∙ ap (λ (l : Living). l.rests) (living_hold place body)
      ∙ ap₂ (λ (x y : Bool). x || y) (sym a_is) (ap (λ (x : Shape). (living_of bits cell x).rests) (sym inner_is) ∙ b_is) ∙ sym d_is

  pub scope_rests : (s body inner : Shape) (cells : List ℕ) (d : Bool) → s ≡ shape.Scope cells body → inner ≡ body
      → (living_of bits cell inner).rests ≡ d → (living_of bits cell s).rests ≡ d
  scope_rests s body inner cells d is inner_is rests =
      ap (λ (x : Shape). (living_of bits cell x).rests) is ∙ ap (λ (l : Living). l.rests) (living_scope cells body)
      ∙ ap (λ (x : Shape). (living_of bits cell x).rests) (sym inner_is) ∙ rests

  or_again : (a b c : Bool) → (a || b) || c ≡ a || (b || c)
  or_again true b c = refl
  or_again false b c = refl

  pub scope_lives : (s body inner : Shape) (cells all : List ℕ) (old between new rests : Bool) → s ≡ shape.Scope cells body → inner ≡ body → all ≡ cells
      → (living_of bits cell inner).rests ≡ rests → between ≡ old || (living_of bits cell inner).lives → new ≡ between || (contains all cell && rests)
      → new ≡ old || (living_of bits cell s).lives
  scope_lives s body inner cells all old between new rests is inner_is all_is rests_is between_is new_is =
      new_is ∙ ap₂ (λ (x y : Bool). x || y) between_is (ap₂ (λ (xs : List ℕ) (r : Bool). contains xs cell && r) all_is (sym rests_is))
      ∙ or_again old (living_of bits cell inner).lives (contains cells cell && (living_of bits cell inner).rests)
      ∙ ap (λ (x : Shape). old || ((living_of bits cell x).lives || (contains cells cell && (living_of bits cell x).rests))) inner_is
      ∙ ap (λ (l : Living). old || l.lives) (sym (living_scope cells body)) ∙ ap (λ (x : Shape). old || (living_of bits cell x).lives) (sym is)

-- members one by one
members_rests : (xs : List Living) (a b c : Bool) → (living_over (living a b) xs).rests ≡ (living_over (living a c) xs).rests
members_rests [] a b c = refl
members_rests (x ∷ xs) a b c = members_rests xs (a || x.rests) (b || x.lives) (c || x.lives)

or_nothing : (b : Bool) → b ≡ b || false
or_nothing true = refl
or_nothing false = refl

members_lives : (xs : List Living) (a b : Bool) → (living_over (living a b) xs).lives ≡ b || (living_over (living false false) xs).lives
members_lives [] a b = or_nothing b
members_lives (x ∷ xs) a b =
    members_lives xs (a || x.rests) (b || x.lives) ∙ again b x.lives (living_over (living false false) xs).lives
    ∙ ap (λ l. b || l) (sym (members_lives xs x.rests x.lives))
  where
    again : (a b c : Bool) → (a || b) || c ≡ a || (b || c)
    again true b c = refl
    again false b c = refl

module _ (bits : ℕ → Bool) (cell : ℕ) (parts : List Shape) (i : ℕ) (part : Shape) (below : i < length parts) (is : part ≡ get_or parts i part) where
  rest_is : map (living_of bits cell) (drop i parts) ≡ living_of bits cell part ∷ map (living_of bits cell) (drop (i + 1) parts)
  rest_is =
      let e : suc i ≡ i + 1 = omega arith in
      ap (map (living_of bits cell)) (drop-cons parts i part below) ∙ ap₂ (λ (x : Shape) (k : ℕ). living_of bits cell x ∷ map (living_of bits cell) (drop k parts)) (sym is) e

  pub step_rests : (so_far one more : Bool) → (living_of bits cell part).rests ≡ one → more ≡ so_far || one
      → (living_over (living so_far false) (map (living_of bits cell) (drop i parts))).rests
      ≡ (living_over (living more false) (map (living_of bits cell) (drop (i + 1) parts))).rests
  step_rests so_far one more one_is more_is =
      ap (λ xs. (living_over (living so_far false) xs).rests) rest_is
      ∙ members_rests (map (living_of bits cell) (drop (i + 1) parts)) (so_far || (living_of bits cell part).rests) (living_of bits cell part).lives false
      ∙ ap (λ r. (living_over (living r false) (map (living_of bits cell) (drop (i + 1) parts))).rests) (ap (λ r. so_far || r) one_is ∙ sym more_is)

  pub step_lives : (old new : Bool) → new ≡ old || (living_of bits cell part).lives
      → new || (living_over (living false false) (map (living_of bits cell) (drop (i + 1) parts))).lives
      ≡ old || (living_over (living false false) (map (living_of bits cell) (drop i parts))).lives
  step_lives old new new_is =
      ap (λ b. b || (living_over (living false false) (map (living_of bits cell) (drop (i + 1) parts))).lives) new_is
      ∙ again old (living_of bits cell part).lives (living_over (living false false) (map (living_of bits cell) (drop (i + 1) parts))).lives
      ∙ ap (λ l. old || l) (sym (members_lives (map (living_of bits cell) (drop (i + 1) parts)) (living_of bits cell part).rests (living_of bits cell part).lives))
      ∙ ap (λ xs. old || (living_over (living false false) xs).lives) (sym rest_is)
    where
      again : (a b c : Bool) → (a || b) || c ≡ a || (b || c)
      again true b c = refl
      again false b c = refl

-- a value where one number of a list was replaced
pub set_value : (reading : Reading) (numbers : List DdId) (at n : ℕ) (d e : DdId) (more : Bool) → at < length numbers → n < length numbers
    → reading.values d.0 ≡ reading.values (get_or numbers at e).0 || more
    → value_at reading (set numbers at d) n ≡ value_at reading numbers n || ((at == n) && more)
set_value reading [] at n d e more within below means = absurd (omega (arith, within))
set_value reading (x ∷ xs) zero zero d e more within below means = means
set_value reading (x ∷ xs) zero (suc n) d e more within below means =
    plain (get_or (map (λ (y : DdId). reading.values y.0) xs) n false) (0 == suc n) more (ne_eqb 0 (suc n) (λ h. omega (arith, h)))
  where
    plain : (a b c : Bool) → b ≡ false → a ≡ a || (b && c)
    plain true b c h = refl
    plain false b c h = rw h refl
set_value reading (x ∷ xs) (suc at) zero d e more within below means =
    plain (reading.values x.0) (suc at == 0) more (ne_eqb (suc at) 0 (λ h. omega (arith, h)))
  where
    plain : (a b c : Bool) → b ≡ false → a ≡ a || (b && c)
    plain true b c h = refl
    plain false b c h = rw h refl
set_value reading (x ∷ xs) (suc at) (suc n) d e more within below means =
    set_value reading xs at n d e more (omega (arith, within)) (omega (arith, below)) means
    ∙ ap (λ b. get_or (map (λ (y : DdId). reading.values y.0) xs) n false || (b && more)) (same at n)
  where
    same : (a b : ℕ) → (a == b) ≡ (suc a == suc b)
    same a b = ⊎_elim
        (λ (e : a ≡ b). eq-eqb a b e ∙ sym (eq-eqb (suc a) (suc b) (ap suc e)))
        (λ (ne : a ≡ b → ⊥). ne_eqb a b ne ∙ sym (ne_eqb (suc a) (suc b) (λ h. ne (omega (arith, h)))))
        (cases_eq a b)
