-- An expression against which nothing is said has in the core tree the type that is told of it.
use Rattle.std.proofs.Common.{◌≡◌, ℕ, ◌+◌, ◌-◌, ◌^◌, Bool, true, false, ◌&&◌, nat_lt, nat_le, List, [], ◌∷◌, ◌++◌, Option, Some, None, is_some, refl, sym, ap, ap₂, subst, ◌∙◌, arith, if◌then◌else◌, unwrap_or}
use Rattle.std.specs.Option.{option_and_then}
use Rattle.std.proofs.lemmas.Bool.{and_parts}
use Rattle.std.proofs.lemmas.Bool.Decides.{nat_tests}
use Rattle.qz_values.specs.declared.Ty.{Ty}
use Rattle.qz_values.specs.declared.Ty.TheVariants.{Bool as Truth, Bv}
use Rattle.qz_values.specs.declared.Op1.{Op1}
use Rattle.qz_values.specs.declared.Op2.{Op2}
use Rattle.qz_values.specs.Types.{width_of, is_type, is_vector}
use Rattle.qz_values.specs.Values.{value_of, truth_of, no}
use Rattle.qz_values.specs.Tables.{type1_of, type2_of, choose_type, bit_type, slice_type, concat_type, has_bit, has_slice, has_room}
use Rattle.qz_syntax.specs.declared.expressions.Var.{Var}
use Rattle.qz_syntax.specs.declared.expressions.Var.TheVariants as var
use Rattle.qz_syntax.specs.declared.expressions.Expr.{Expr}
use Rattle.qz_syntax.specs.declared.expressions.Expr.TheVariants as expr
use Rattle.qz_syntax.specs.declared.file_expressions.FileExpr.{FileExpr, map-FileExpr, roll-FileExpr}
use Rattle.qz_syntax.specs.declared.file_expressions.FileExpr.TheOpen.{FileExpr-F}
use Rattle.qz_syntax.specs.declared.file_expressions.FileExpr.TheFolds.{fold-roll-FileExpr, ind-FileExpr}
use Rattle.qz_syntax.specs.Typing.{Declared, Sight, node_type, read_type, literal_type}
use Rattle.qz_syntax.specs.Sound.{type_at}
use Rattle.qz_syntax.proofs.Equations.{fold-Lit, fold-Var, fold-Un, fold-Bin, fold-Choose, fold-Bit, fold-Slice, fold-Concat}
use Rattle.qz_types.specs.declared.faults.Fault.{Fault}
use Rattle.qz_types.specs.declared.faults.TypeKind.TheVariants.{TypeDiffers, WidthRange, LiteralRange, SliceRange}
use Rattle.qz_types.specs.declared.variables.Variable.{Variable}
use Rattle.qz_types.specs.Faults.{fault_at, unless}
use Rattle.qz_types.specs.Meanings.{Meanings}
use Rattle.qz_types.specs.WrittenTypes.{vectors, where_typed, where_both}
use Rattle.qz_types.specs.ExpressionTypes.{Told, told, node_told, literal_faults, variable_told, one_told, two_told, choice_told, selected, selection_faults, selection_told, joining_faults, joined_told}
use Rattle.qz_types.specs.CoreExpressions.{core_expression, node_core_expression, core_index, core_selection, literal_value}
use Rattle.qz_types.proofs.Faultless.{first_nil, second_nil, test_holds, both_true}
use Rattle.qz_types.proofs.Alike.{Alike, StandsIf}

-- a check of a type that there is
pub at_type : (o : Option Ty) (t : Ty) (check : Ty → List Fault) → o ≡ Some t → where_typed o check ≡ [] → check t ≡ []
at_type o t check e f = ap (λ x. where_typed x check) (sym e) ∙ f

-- a check of two types that there are
pub at_both : (o p : Option Ty) (s t : Ty) (check : Ty → Ty → List Fault) → o ≡ Some s → p ≡ Some t → where_both o p check ≡ [] → check s t ≡ []
at_both o p s t check e f g = at_type p t (check s) f (at_type o s (λ a. where_typed p (λ b. check a b)) e g)

-- a type that there is
pub record SomeType (o : Option Ty) : Type 0 where
  pub ty : Ty
  pub is : o ≡ Some ty

there_is : (o : Option Ty) → is_some o ≡ true → SomeType o
there_is None e = cc
there_is (Some t) e = record { ty = t; is = refl }

-- a test, and what is said where it holds
said_within : (b : Bool) (xs : List Fault) (y : Fault) → (if b then xs else y ∷ []) ≡ [] → (b ≡ true) × (xs ≡ [])
said_within true xs y e = (refl, e)
said_within false xs y e = cc

passed : {X : Type 0} (b : Bool) (x : X) → is_some (if b then Some x else None) ≡ true → b ≡ true
passed true x e = refl
passed false x e = cc

-- an index of a vector is a byte
index_of : (t : Ty) (i : ℕ) → is_vector t ≡ true → nat_lt i (width_of t) ≡ true → core_index i ≡ i
index_of Truth i v e = cc
index_of (Bv w) i v e =
    let wide : nat_le w 64 ≡ true = (and_parts (nat_le 1 w) (nat_le w 64) v).1 in
    let small : nat_lt i 256 ≡ true = grind (arith, nat_tests) in
    ap (λ b. if b then i else 0) small

module _ (d : Declared) (sight : Sight) (file : Meanings Variable) (names : Meanings Var) where
  abbrev reads : Var → Option Ty
  reads = read_type d sight

  -- an expression of the type that is told
  pub record HasType (t : Told) (x : Expr) : Type 0 where
    pub ty : Ty
    pub is_told : t.ty ≡ Some ty
    pub typed : type_at d sight x ≡ Some ty

  abbrev pub Fits : Told → Expr → Type 0
  Fits t x = t.faults ≡ [] → HasType t x

  truth_typed : (value : Bool) → type_at d sight (expr.Lit (truth_of value)) ≡ Some Truth
  truth_typed true = fold-Lit (Option Ty) (node_type reads) (truth_of true)
  truth_typed false = fold-Lit (Option Ty) (node_type reads) (truth_of false)

  -- a literal whose width there is, and whose value fits
  literal_fits : (width value at : ℕ) (b : Bool) → literal_faults (if b then Some (Bv width) else None) value at ≡ [] → (b ≡ true) × (nat_lt value (2 ^ width) ≡ true)
  literal_fits width value at true e = (refl, test_holds (nat_lt value (2 ^ width)) LiteralRange at e)
  literal_fits width value at false e = cc

  literal_typed : (width value at : ℕ) → literal_faults (vectors width) value at ≡ [] → HasType (record { ty = vectors width; faults = literal_faults (vectors width) value at }) (expr.Lit (literal_value width value))
  literal_typed width value at e =
      let fits = literal_fits width value at (is_type (Bv width)) e in
      let both : (is_type (Bv width) && nat_lt value (2 ^ width)) ≡ true = both_true (is_type (Bv width)) (nat_lt value (2 ^ width)) fits.0 fits.1 in
      record {
        ty = Bv width;
        is_told = ap (λ b. if b then Some (Bv width) else None) fits.0;
        typed = fold-Lit (Option Ty) (node_type reads) (literal_value width value)
            ∙ ap (λ b. literal_type (if b then value_of (Bv width) value else no)) both
            ∙ ap (λ b. if b then Some (Bv width) else None) both;
      }

  name_typed : (at : ℕ) (known : Option Variable) (found : Option Var) → StandsIf d sight known found → Fits (variable_told known at) (expr.Var (unwrap_or found (var.Formal 0)))
  name_typed at None found s e = cc
  name_typed at (Some known) None s e = absurd s
  name_typed at (Some known) (Some variable) s e = record {
    ty = s.ty;
    is_told = s.has_type;
    typed = fold-Var (Option Ty) (node_type reads) variable ∙ s.read;
  }

  one_typed : (op : Op1) (at : ℕ) (t : Told) (x : Expr) → Fits t x → Fits (one_told op at t) (expr.Un op x)
  one_typed op at t x fits e =
      let check : Ty → List Fault = λ s. unless (is_some (type1_of op s)) TypeDiffers at in
      let a = fits (first_nil t.faults (where_typed t.ty check) e) in
      let r = there_is (type1_of op a.ty) (test_holds (is_some (type1_of op a.ty)) TypeDiffers at (at_type t.ty a.ty check a.is_told (second_nil t.faults (where_typed t.ty check) e))) in
      record {
        ty = r.ty;
        is_told = ap (option_and_then (λ s. type1_of op s)) a.is_told ∙ r.is;
        typed = fold-Un (Option Ty) (node_type reads) op x ∙ ap (option_and_then (λ s. type1_of op s)) a.typed ∙ r.is;
      }

  two_typed : (op : Op2) (at : ℕ) (t u : Told) (x y : Expr) → Fits t x → Fits u y → Fits (two_told op at t u) (expr.Bin op x y)
  two_typed op at t u x y fits_x fits_y e =
      let check : Ty → Ty → List Fault = λ s r. unless (is_some (type2_of op s r)) TypeDiffers at in
      let last = where_both t.ty u.ty check in
      let rest = second_nil t.faults (u.faults ++ last) e in
      let a = fits_x (first_nil t.faults (u.faults ++ last) e) in
      let b = fits_y (first_nil u.faults last rest) in
      let r = there_is (type2_of op a.ty b.ty) (test_holds (is_some (type2_of op a.ty b.ty)) TypeDiffers at
      (at_both t.ty u.ty a.ty b.ty check a.is_told b.is_told (second_nil u.faults last rest))) in
      let table : Option Ty → Option Ty → Option Ty = λ o p. option_and_then (λ s. option_and_then (λ t. type2_of op s t) p) o in
      record {
        ty = r.ty;
        is_told = ap₂ table a.is_told b.is_told ∙ r.is;
        typed = fold-Bin (Option Ty) (node_type reads) op x y ∙ ap₂ table a.typed b.typed ∙ r.is;
      }

  choice_typed : (at : ℕ) (t u v : Told) (x y z : Expr) → Fits t x → Fits u y → Fits v z → Fits (choice_told at t u v) (expr.Choose x y z)
  choice_typed at t u v x y z fits_x fits_y fits_z e =
      let check : Ty → Ty → Ty → List Fault = λ r s k. unless (is_some (choose_type r s k)) TypeDiffers at in
      let last = where_typed t.ty (λ r. where_both u.ty v.ty (check r)) in
      let after_t = second_nil t.faults (u.faults ++ (v.faults ++ last)) e in
      let after_u = second_nil u.faults (v.faults ++ last) after_t in
      let a = fits_x (first_nil t.faults (u.faults ++ (v.faults ++ last)) e) in
      let b = fits_y (first_nil u.faults (v.faults ++ last) after_t) in
      let c = fits_z (first_nil v.faults last after_u) in
      let sides = at_type t.ty a.ty (λ r. where_both u.ty v.ty (check r)) a.is_told (second_nil v.faults last after_u) in
      let r = there_is (choose_type a.ty b.ty c.ty) (test_holds (is_some (choose_type a.ty b.ty c.ty)) TypeDiffers at
      (at_both u.ty v.ty b.ty c.ty (check a.ty) b.is_told c.is_told sides)) in
      let inner : Ty → Option Ty → Option Ty → Option Ty = λ r o p. option_and_then (λ s. option_and_then (λ t. choose_type r s t) p) o in
      let table : Option Ty → Option Ty → Option Ty → Option Ty = λ q o p. option_and_then (λ r. inner r o p) q in
      record {
        ty = r.ty;
        is_told = ap (λ q. table q u.ty v.ty) a.is_told ∙ ap₂ (inner a.ty) b.is_told c.is_told ∙ r.is;
        typed = fold-Choose (Option Ty) (node_type reads) x y z
            ∙ ap (λ q. table q (type_at d sight y) (type_at d sight z)) a.typed ∙ ap₂ (inner a.ty) b.typed c.typed ∙ r.is;
      }

  selection_typed_at : (at : ℕ) (x : Expr) (t r : Ty) (high : ℕ) (low : Option ℕ) → type_at d sight x ≡ Some t → is_vector t ≡ true → selected t high low ≡ Some r
      → type_at d sight (core_selection x high low) ≡ Some r
  selection_typed_at at x t r high None e v is =
      let inside = and_parts (is_vector t) (nat_lt high (width_of t)) (passed (has_bit high t) Truth (ap is_some is)) in
      fold-Bit (Option Ty) (node_type reads) x (core_index high) ∙ ap (option_and_then (λ s. bit_type s (core_index high))) e
      ∙ ap (bit_type t) (index_of t high v inside.1) ∙ is
  selection_typed_at at x t r high (Some low) e v is =
      let inside = and_parts (is_vector t) (nat_le low high && nat_lt high (width_of t)) (passed (has_slice high low t) (Bv (high - low + 1)) (ap is_some is)) in
      let order = and_parts (nat_le low high) (nat_lt high (width_of t)) inside.1 in
      let lower : nat_lt low (width_of t) ≡ true = let p = order.0 in let q = order.1 in grind (arith, nat_tests) in
      fold-Slice (Option Ty) (node_type reads) x (core_index high) (core_index low)
      ∙ ap (option_and_then (λ s. slice_type s (core_index high) (core_index low))) e
      ∙ ap₂ (slice_type t) (index_of t high v order.1) (index_of t low v lower) ∙ is

  selection_typed : (at high : ℕ) (low : Option ℕ) (t : Told) (x : Expr) → Fits t x → Fits (selection_told at high low t) (core_selection x high low)
  selection_typed at high low t x fits e =
      let check = selection_faults at high low in
      let a = fits (first_nil t.faults (where_typed t.ty check) e) in
      let said = said_within (is_vector a.ty) (unless (is_some (selected a.ty high low)) SliceRange at) (fault_at TypeDiffers at)
      (at_type t.ty a.ty check a.is_told (second_nil t.faults (where_typed t.ty check) e)) in
      let r = there_is (selected a.ty high low) (test_holds (is_some (selected a.ty high low)) SliceRange at said.1) in
      record {
        ty = r.ty;
        is_told = ap (option_and_then (λ s. selected s high low)) a.is_told ∙ r.is;
        typed = selection_typed_at at x a.ty r.ty high low a.typed said.0 r.is;
      }

  joined_typed : (at : ℕ) (t u : Told) (x y : Expr) → Fits t x → Fits u y → Fits (joined_told at t u) (expr.Concat x y)
  joined_typed at t u x y fits_x fits_y e =
      let check = joining_faults at in
      let last = where_both t.ty u.ty check in
      let rest = second_nil t.faults (u.faults ++ last) e in
      let a = fits_x (first_nil t.faults (u.faults ++ last) e) in
      let b = fits_y (first_nil u.faults last rest) in
      let said = said_within (is_vector a.ty && is_vector b.ty) (unless (has_room a.ty b.ty) WidthRange at) (fault_at TypeDiffers at)
      (at_both t.ty u.ty a.ty b.ty check a.is_told b.is_told (second_nil u.faults last rest)) in
      let vectors = and_parts (is_vector a.ty) (is_vector b.ty) said.0 in
      let room = test_holds (has_room a.ty b.ty) WidthRange at said.1 in
      let all : (is_vector a.ty && (is_vector b.ty && has_room a.ty b.ty)) ≡ true =
      both_true (is_vector a.ty) (is_vector b.ty && has_room a.ty b.ty) vectors.0 (both_true (is_vector b.ty) (has_room a.ty b.ty) vectors.1 room) in
      let wide = Bv (width_of a.ty + width_of b.ty) in
      let is : concat_type a.ty b.ty ≡ Some wide = ap (λ b. if b then Some wide else None) all in
      let table : Option Ty → Option Ty → Option Ty = λ o p. option_and_then (λ s. option_and_then (λ t. concat_type s t) p) o in
      record {
        ty = wide;
        is_told = ap₂ table a.is_told b.is_told ∙ is;
        typed = fold-Concat (Option Ty) (node_type reads) x y ∙ ap₂ table a.typed b.typed ∙ is;
      }

  -- an expression of which it holds
  abbrev Stated : Type 0
  Stated = (e : FileExpr) × Fits (told file e) (core_expression names e)

  abbrev bare : FileExpr-F Stated → FileExpr-F FileExpr
  bare y = map-FileExpr Stated FileExpr (λ e. e.0) y

  abbrev FitsNode : FileExpr-F FileExpr → Type 0
  FitsNode x = Fits (node_told file (map-FileExpr FileExpr Told (told file) x)) (node_core_expression names (map-FileExpr FileExpr Expr (core_expression names) x))

  node_typed : Alike d sight file names → (y : FileExpr-F Stated) → FitsNode (bare y)
  node_typed alike (FileExpr-F.Bool value at) e = record { ty = Truth; is_told = refl; typed = truth_typed value }
  node_typed alike (FileExpr-F.Lit width value at) e = literal_typed width value at e
  node_typed alike (FileExpr-F.Name name) e = name_typed name.at (file name.name) (names name.name) (alike.stands name.name) e
  node_typed alike (FileExpr-F.Paren at inner) e = inner.1 e
  node_typed alike (FileExpr-F.Un op at a) e = one_typed op at (told file a.0) (core_expression names a.0) a.1 e
  node_typed alike (FileExpr-F.Bin op at a b) e =
      two_typed op at (told file a.0) (told file b.0) (core_expression names a.0) (core_expression names b.0) a.1 b.1 e
  node_typed alike (FileExpr-F.Choose at c a b) e =
      choice_typed at (told file c.0) (told file a.0) (told file b.0) (core_expression names c.0) (core_expression names a.0) (core_expression names b.0) c.1 a.1 b.1 e
  node_typed alike (FileExpr-F.Select at a high low) e = selection_typed at high low (told file a.0) (core_expression names a.0) a.1 e
  node_typed alike (FileExpr-F.Concat at a b) e =
      joined_typed at (told file a.0) (told file b.0) (core_expression names a.0) (core_expression names b.0) a.1 b.1 e

  rolled : (x : FileExpr-F FileExpr) → FitsNode x → Fits (told file (roll-FileExpr x)) (core_expression names (roll-FileExpr x))
  rolled x h =
      subst (λ t. Fits t (core_expression names (roll-FileExpr x))) (sym (fold-roll-FileExpr Told (node_told file) x))
      (subst (λ c. Fits (node_told file (map-FileExpr FileExpr Told (told file) x)) c) (sym (fold-roll-FileExpr Expr (node_core_expression names) x)) h)

  pub expression_typed : Alike d sight file names → (e : FileExpr) → Fits (told file e) (core_expression names e)
  expression_typed alike = ind-FileExpr (λ e. Fits (told file e) (core_expression names e))
      (λ x y is. subst (λ z. Fits (told file (roll-FileExpr z)) (core_expression names (roll-FileExpr z))) is (rolled (bare y) (node_typed alike y)))
