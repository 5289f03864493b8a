-- Lists of bits, literals and residuals, as the walk and its bits have them.
use Rattle.std.proofs.Common.{◌≡◌, ℕ, zero, suc, Bool, true, false, ◌&&◌, ◌||◌, ◌==◌, nat_lt, List, [], ◌∷◌, ◌++◌, length, drop, slice_get, Option, Some, None, refl, sym, ap, ap₂, ◌∙◌, arith, lt-ltb, ltb-true, eqb-true}
use Rattle.std.specs.Option.{option_map}
use Rattle.std.proofs.lemmas.Bool.{false≢true, and_parts}
use Rattle.qz_values.specs.declared.Ty.{Ty}
use Rattle.qz_values.specs.declared.Ty.TheVariants as ty
use Rattle.qz_values.specs.declared.Value.{Value}
use Rattle.qz_values.specs.declared.Know.{Know}
use Rattle.qz_values.specs.declared.Know.TheVariants.{Known}
use Rattle.qz_values.specs.Types.{is_bool}
use Rattle.qz_values.specs.Values.{value_of, yes, is_yes, truth_of}
use Rattle.qz_values.specs.Knowledge.{both}
use Rattle.qz_syntax.specs.declared.places.Residual.{Residual}
use Rattle.qz_syntax.specs.declared.places.Residual.TheVariants.{InSeq, InBody}
use Rattle.qz_syntax.specs.declared.expressions.Expr.{Expr, map-Expr, out-Expr}
use Rattle.qz_syntax.specs.declared.expressions.Expr.TheOpen.{Expr-F}
use Rattle.qz_syntax.specs.declared.expressions.Expr.TheFolds.{fold_out-Expr}
use Rattle.qz_meaning.specs.Scenes.{Scene, Context}
use Rattle.qz_meaning.specs.Expressions.{node_value, value_here}
use Rattle.qz_meaning.specs.Valuations.{node_places}
use Rattle.qz_meaning.proofs.Folding.{fold-InSeq, fold-InBody}
use Rattle.qz_first.specs.Mirror.{Bits, node_bit, bit_of, is_driven}
use Rattle.qz_first.specs.FirstWalk.{places_at}

pub and-true : (b : Bool) → (b && true) ≡ b
and-true true = refl
and-true false = refl

pub and-false : (b : Bool) → (b && false) ≡ false
and-false true = refl
and-false false = refl

pub and_assoc : (a b c : Bool) → ((a && b) && c) ≡ (a && (b && c))
and_assoc true b c = refl
and_assoc false b c = refl

pub or-false : (b : Bool) → (b || false) ≡ b
or-false true = refl
or-false false = refl

pub or_assoc : (a b c : Bool) → ((a || b) || c) ≡ (a || (b || c))
or_assoc true b c = refl
or_assoc false b c = refl

-- `&` of two known bools
pub both_known : (a b : Bool) → both (Known (truth_of a)) (Known (truth_of b)) ≡ Known (truth_of (a && b))
both_known true true = refl
both_known true false = refl
both_known false true = refl
both_known false false = refl

pub is_driven-append : (xs ys : Bits) (n : ℕ) → is_driven (xs ++ ys) n ≡ (is_driven xs n || is_driven ys n)
is_driven-append [] ys n = refl
is_driven-append (x ∷ xs) ys n =
    ap (λ b. ((x.0 == n) && x.1) || b) (is_driven-append xs ys n) ∙ sym (or_assoc ((x.0 == n) && x.1) (is_driven xs n) (is_driven ys n))

-- control rests at the same places, whatever the level round it is called
pub places_at-in_seq : (n : ℕ) (inside : Option Residual) → places_at (option_map (λ r. InSeq n r) inside) ≡ places_at inside
places_at-in_seq n None = refl
places_at-in_seq n (Some r) = fold-InSeq (List ℕ) node_places n r

pub places_at-in_body : (inside : Option Residual) → places_at (option_map (λ r. InBody r) inside) ≡ places_at inside
places_at-in_body None = refl
places_at-in_body (Some r) = fold-InBody (List ℕ) node_places r

-- the members from one on: there is this one, and then those after it
pub drop_head : {A : Type 0} (n : ℕ) (all : List A) (p : A) (ps : List A) → drop n all ≡ p ∷ ps
    → (nat_lt n (length all) ≡ true) × (slice_get all n ≡ Some p) × (drop (suc n) all ≡ ps)
drop_head zero [] p ps h = absurd (cc)
drop_head zero (x ∷ xs) p ps h = (lt-ltb 0 (suc (length xs)) (omega arith), cc, cc)
drop_head (suc n) [] p ps h = absurd (cc)
drop_head (suc n) (x ∷ xs) p ps h =
    let rest = drop_head n xs p ps h in
    (lt-ltb (suc n) (suc (length xs)) (omega (arith, ltb-true n (length xs) rest.0)), rest.1, rest.2)

-- a value that is the bool `true`
pub yes_from-is_yes : (v : Value) → is_yes v ≡ true → v ≡ yes
yes_from-is_yes v h =
    let parts = and_parts _ _ h in
    ap₂ (λ (t : Ty) (n : ℕ). value_of t n) (bool_from v.ty parts.0) (eqb-true v.bits 1 parts.1)
  where
    bool_from : (t : Ty) → is_bool t ≡ true → t ≡ ty.Bool
    bool_from ty.Bool e = refl
    bool_from (ty.Bv width) e = absurd (false≢true e)

module _ (scene : Scene) (ctx : Context) where
  literal_node : (node : Expr-F Expr) → node_bit (map-Expr Expr Bool bit_of node) ≡ true
      → node_value scene ctx (map-Expr Expr Know (value_here scene ctx) node) ≡ Known yes
  literal_node (Expr-F.Lit value) h = ap (λ (v : Value). Known v) (yes_from-is_yes value h)
  literal_node (Expr-F.Var variable) h = absurd (false≢true h)
  literal_node (Expr-F.Un op a) h = absurd (false≢true h)
  literal_node (Expr-F.Bin op a b) h = absurd (false≢true h)
  literal_node (Expr-F.Choose c a b) h = absurd (false≢true h)
  literal_node (Expr-F.Bit a index) h = absurd (false≢true h)
  literal_node (Expr-F.Slice a high low) h = absurd (false≢true h)
  literal_node (Expr-F.Concat a b) h = absurd (false≢true h)

  -- the literal `true` is known
  pub literal_yes : (e : Expr) → bit_of e ≡ true → value_here scene ctx e ≡ Known yes
  literal_yes e h =
      fold_out-Expr Know (node_value scene ctx) e ∙ literal_node (out-Expr e) (sym (fold_out-Expr Bool node_bit e) ∙ h)
