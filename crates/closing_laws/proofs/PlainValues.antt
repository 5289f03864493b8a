-- Where each variable is known, of its type, so is each expression that has a type; a condition is a bit.
use Rattle.std.proofs.Common.{◌≡◌, ℕ, zero, suc, ◌<◌, ◌^◌, Bool, true, false, ◌&&◌, ◌||◌, Option, Some, None, refl, sym, ap, ap₂, subst, ◌∙◌, arith}
use Rattle.std.specs.Prelude.{if◌then◌else◌, nat_lt, option_and_then}
use Rattle.std.proofs.lemmas.Bool.{and_parts, ltb-true}
use Rattle.qz_values.specs.declared.Ty.{Ty}
use Rattle.qz_values.specs.declared.Ty.TheVariants.{Bool as Truth}
use Rattle.qz_values.specs.declared.Value.{Value}
use Rattle.qz_values.specs.declared.Know.{Know}
use Rattle.qz_values.specs.declared.Know.TheVariants.{Known}
use Rattle.qz_values.specs.declared.Op2.{Op2}
use Rattle.qz_values.specs.Types.{width_of, is_type}
use Rattle.qz_values.specs.Tables.{type1_of, type2_of, choose_type, bit_type, slice_type, concat_type}
use Rattle.qz_values.specs.Values.{type_of as type_of_value, bits_of, value_of, is_yes}
use Rattle.qz_values.specs.Operators.{value1, value2, value_bit, value_slice, value_concat}
use Rattle.qz_values.specs.Knowledge.{apply1_of, left_decides, right_decides, decided, apply2_of, choose_of, bit_of, slice_of, concat_of}
use Rattle.qz_values.specs.Fits.{IsOf, HasType}
use Rattle.qz_values.proofs.Typed.{typed1, typed2, typed_choose, typed_bit, typed_slice, typed_concat}
use Rattle.qz_syntax.specs.declared.expressions.Var.{Var}
use Rattle.qz_syntax.specs.declared.expressions.Expr.{Expr, map-Expr}
use Rattle.qz_syntax.specs.declared.expressions.Expr.TheOpen.{Expr-F}
use Rattle.qz_syntax.specs.declared.expressions.Expr.TheFolds.{fold-roll-Expr, ind-Expr}
use Rattle.qz_syntax.specs.declared.modules.Module.{Module}
use Rattle.qz_syntax.specs.Typing.{node_type}
use Rattle.qz_meaning.specs.Scenes.{Scene, Context}
use Rattle.qz_meaning.specs.Expressions.{known_here, node_value, value_here}
use Rattle.qz_meaning.proofs.Lists.{none≢some, some_same}
use Rattle.qz_control.specs.Leaves.{known_bit}
use Rattle.qz_control.specs.Typed.{declared_type, expr_type}
use Rattle.qz_control.specs.Follows.{IsPlain}

-- some value of the type is known
abbrev pub IsKnownOf : Ty → Know → Type 0
IsKnownOf t k = (v : Value) × (k ≡ Known v) × IsOf t v

known_typed : (t : Ty) (k : Know) → IsKnownOf t k → HasType t k
known_typed t k h = subst (HasType t) (sym h.1) h.2

-- what is known and has the type
typed_known : (t : Ty) (k : Know) (v : Value) → k ≡ Known v → HasType t k → IsKnownOf t k
typed_known t k v e h = (v, e, subst (HasType t) e h)

and_then_some : (f : Ty → Option Ty) (o : Option Ty) (u : Ty) → option_and_then f o ≡ Some u → (s : Ty) × (o ≡ Some s) × (f s ≡ Some u)
and_then_some f None u h = absurd (none≢some u h)
and_then_some f (Some s) u h = (s, refl, h)

literal_typed : (v : Value) (t : Ty) (b : Bool) → (is_type (type_of_value v) && nat_lt (bits_of v) (2 ^ width_of (type_of_value v))) ≡ b
    → (if b then Some (type_of_value v) else None) ≡ Some t → IsOf t v
literal_typed v t true e h =
    let is = some_same _ _ h in
    record { typed = is; fits = subst (λ u. bits_of v < 2 ^ width_of u) is (ltb-true _ _ (and_parts _ _ e).1) }
literal_typed v t false e h = absurd (none≢some t h)

two_known : (op : Op2) (a b : Value) → (v : Value) × (apply2_of op (Known a) (Known b) ≡ Known v)
two_known op a b = by (left_decides op (Known a) || right_decides op (Known b)) where
  by : (t : Bool) → (v : Value) × ((if t then Known (decided op) else Known (value2 op a b)) ≡ Known v)
  by true = (decided op, refl)
  by false = (value2 op a b, refl)

choice_known : (c a b : Value) → (v : Value) × (choose_of (Known c) (Known a) (Known b) ≡ Known v)
choice_known c a b = by (is_yes c) where
  by : (t : Bool) → (v : Value) × ((if t then Known a else Known b) ≡ Known v)
  by true = (a, refl)
  by false = (b, refl)

module _ (m : Module) (scene : Scene) (known : (ctx : Context) (x : Var) (t : Ty) → declared_type m x ≡ Some t → IsKnownOf t (known_here scene ctx x)) where
  module _ (ctx : Context) where
    abbrev T : Expr → Option Ty
    T = expr_type m

    abbrev V : Expr → Know
    V = value_here scene ctx

    abbrev Valued : Type 0
    Valued = (e : Expr) × ((t : Ty) → T e ≡ Some t → IsKnownOf t (V e))

    abbrev AtExpr : Expr-F Expr → Type 0
    AtExpr x = (t : Ty) → node_type (declared_type m) (map-Expr Expr (Option Ty) T x) ≡ Some t → IsKnownOf t (node_value scene ctx (map-Expr Expr Know V x))

    at_expr : (node : Expr-F Valued) → AtExpr (map-Expr Valued Expr (λ e. e.0) node)
    at_expr (Expr-F.Lit value) t h = (value, refl, literal_typed value t _ refl h)
    at_expr (Expr-F.Var x) t h = known ctx x t h
    at_expr (Expr-F.Un op x) t h =
        let i = and_then_some (λ s. type1_of op s) (T x.0) t h in
        let a = x.1 i.0 i.1 in
        typed_known t _ (value1 op a.0) (ap (apply1_of op) a.1) (typed1 op i.0 t (V x.0) i.2 (known_typed i.0 (V x.0) a)).2
    at_expr (Expr-F.Bin op x y) t h =
        let i = and_then_some (λ s. option_and_then (λ r. type2_of op s r) (T y.0)) (T x.0) t h in
        let j = and_then_some (λ r. type2_of op i.0 r) (T y.0) t i.2 in
        let a = x.1 i.0 i.1 in
        let b = y.1 j.0 j.1 in
        let both = two_known op a.0 b.0 in
        typed_known t _ both.0 (ap₂ (apply2_of op) a.1 b.1 ∙ both.1)
        (typed2 op i.0 j.0 t (V x.0) (V y.0) j.2 (known_typed i.0 (V x.0) a) (known_typed j.0 (V y.0) b)).2
    at_expr (Expr-F.Choose x y z) t h =
        let i = and_then_some (λ q. option_and_then (λ s. option_and_then (λ r. choose_type q s r) (T z.0)) (T y.0)) (T x.0) t h in
        let j = and_then_some (λ s. option_and_then (λ r. choose_type i.0 s r) (T z.0)) (T y.0) t i.2 in
        let l = and_then_some (λ r. choose_type i.0 j.0 r) (T z.0) t j.2 in
        let a = x.1 i.0 i.1 in
        let b = y.1 j.0 j.1 in
        let c = z.1 l.0 l.1 in
        let all = choice_known a.0 b.0 c.0 in
        typed_known t _ all.0 (ap₂ (λ (u : Know) (v : Know × Know). choose_of u v.0 v.1) a.1 (ap₂ (λ (u v : Know). (u, v)) b.1 c.1) ∙ all.1)
        (typed_choose i.0 j.0 l.0 t (V x.0) (V y.0) (V z.0) l.2 (known_typed i.0 (V x.0) a) (known_typed j.0 (V y.0) b) (known_typed l.0 (V z.0) c)).2
    at_expr (Expr-F.Bit x index) t h =
        let i = and_then_some (λ s. bit_type s index) (T x.0) t h in
        let a = x.1 i.0 i.1 in
        typed_known t _ (value_bit a.0 index) (ap (λ k. bit_of k index) a.1) (typed_bit index i.0 t (V x.0) i.2 (known_typed i.0 (V x.0) a)).2
    at_expr (Expr-F.Slice x high low) t h =
        let i = and_then_some (λ s. slice_type s high low) (T x.0) t h in
        let a = x.1 i.0 i.1 in
        typed_known t _ (value_slice a.0 high low) (ap (λ k. slice_of k high low) a.1) (typed_slice high low i.0 t (V x.0) i.2 (known_typed i.0 (V x.0) a)).2
    at_expr (Expr-F.Concat x y) t h =
        let i = and_then_some (λ s. option_and_then (λ r. concat_type s r) (T y.0)) (T x.0) t h in
        let j = and_then_some (λ r. concat_type i.0 r) (T y.0) t i.2 in
        let a = x.1 i.0 i.1 in
        let b = y.1 j.0 j.1 in
        typed_known t _ (value_concat a.0 b.0) (ap₂ concat_of a.1 b.1)
        (typed_concat i.0 j.0 t (V x.0) (V y.0) j.2 (known_typed i.0 (V x.0) a) (known_typed j.0 (V y.0) b)).2

    pub values_known : (e : Expr) (t : Ty) → T e ≡ Some t → IsKnownOf t (V e)
    values_known = ind-Expr (λ e. (t : Ty) → T e ≡ Some t → IsKnownOf t (V e)) (λ x y is t h.
        subst (IsKnownOf t) (sym (fold-roll-Expr Know (node_value scene ctx) x))
        (subst AtExpr is (at_expr y) t (sym (fold-roll-Expr (Option Ty) (node_type (declared_type m)) x) ∙ h)))

  -- a bool is a bit
  bit_value : (v : Value) → IsOf Truth v → (b : Bool) × (Known v ≡ known_bit b)
  bit_value v is = by (bits_of v) refl where
    by : (n : ℕ) → bits_of v ≡ n → (b : Bool) × (Known v ≡ known_bit b)
    by zero e = (false, ap₂ (λ (t : Ty) (n : ℕ). Known (value_of t n)) is.typed e)
    by (suc zero) e = (true, ap₂ (λ (t : Ty) (n : ℕ). Known (value_of t n)) is.typed e)
    by (suc (suc n)) e = let less : bits_of v < 2 = is.fits in absurd (omega (arith, less, e))

  pub is_plain : IsPlain m scene
  is_plain ctx e h =
      let one = values_known ctx e Truth h in
      let bit = bit_value one.0 one.2 in
      (bit.0, one.1 ∙ bit.1)
