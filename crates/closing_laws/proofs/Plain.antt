-- A view at a definite valuation in which every condition is plain: an instance without a number is seen as that with
-- mark zero.
use Rattle.std.proofs.Common.{◌≡◌, ℕ, ◌<◌, ◌≤◌, Bool, true, false, List, [], length, Option, Some, None, refl, sym, ap, subst, ◌∙◌, ◌⊎◌, inl, inr, arith}
use Rattle.std.specs.Prelude.{if◌then◌else◌, slice_get, slice_index_or, nat_lt, is_some, option_and_then}
use Rattle.std.specs.Option.{option_map, option_map_or}
use lib.ListN.{length-map}
use Rattle.std.proofs.lemmas.Bool.{false≢true, and_parts, cases_lt, lt-ltb, ltb-true}
use Rattle.std.proofs.lemmas.Option.{slice_get_within}
use Rattle.qz_values.specs.declared.Ty.{Ty}
use Rattle.qz_values.specs.declared.Ty.TheVariants as ty
use Rattle.qz_values.specs.declared.Value.{Value}
use Rattle.qz_values.specs.declared.Know.{Know}
use Rattle.qz_values.specs.declared.Know.TheVariants.{Unknown, Known}
use Rattle.qz_values.specs.Types.{is_type}
use Rattle.qz_values.specs.Fits.{HasType}
use Rattle.qz_values.proofs.Typed.{same-is_same_type}
use Rattle.qz_nets.specs.Nets.{leaf_type}
use Rattle.qz_nets.specs.Readings.{Reads, listed}
use Rattle.qz_syntax.specs.declared.declarations.Dir.TheVariants as dir
use Rattle.qz_syntax.specs.declared.declarations.Formal.{Formal}
use Rattle.qz_syntax.specs.declared.declarations.Decl.{Decl}
use Rattle.qz_syntax.specs.declared.expressions.Var.{Var}
use Rattle.qz_syntax.specs.declared.expressions.Var.TheVariants as var
use Rattle.qz_syntax.specs.declared.modules.Module.{Module}
use Rattle.qz_syntax.specs.declared.modules.Whole.{Whole}
use Rattle.qz_syntax.specs.declared.places.Mark.{Mark}
use Rattle.qz_syntax.specs.declared.places.Mark.TheVariants as mark
use Rattle.qz_syntax.specs.WellFormed.{IsWellFormed}
use Rattle.qz_meaning.specs.Instances.{Instance, formal_instance, local_instance}
use Rattle.qz_meaning.specs.Scenes.{Scene, Context}
use Rattle.qz_meaning.specs.Expressions.{known_here}
use Rattle.qz_meaning.specs.Programs.{Program, formals_of, type_in, instances_of, program_of, times}
use Rattle.qz_meaning.specs.Valuations.{Valuation as OfProgram, IsPermitted}
use Rattle.qz_meaning.proofs.Lists.{none≢some, some_same}
use Rattle.qz_interp.proofs.Distinct.{instances_distinct}
use Rattle.qz_control.specs.declared.leaves.LeafKind.{LeafKind}
use Rattle.qz_control.specs.declared.leaves.LeafKind.TheVariants as kind
use Rattle.qz_control.specs.Leaves.{Leaves, leaf_known as kind_known}
use Rattle.qz_control.specs.Circuits.{View, Views}
use Rattle.qz_control.specs.Typed.{declared_type}
use Rattle.qz_control.specs.Follows.{IsPlain}
use Rattle.qz_system.specs.declared.parts.Cell.{Cell}
use Rattle.qz_system.specs.declared.parts.Inst.{Inst}
use Rattle.qz_system.specs.declared.parts.SystemLeaf.{SystemLeaf}
use Rattle.qz_system.specs.declared.parts.SystemLeaf.TheVariants as leaf
use Rattle.qz_system.specs.declared.parts.SystemParts.{SystemParts}
use Rattle.qz_system.specs.declared.valuation.Valuation.{Valuation}
use Rattle.qz_system.specs.Parts.{cell_type, instance_type, is_leaf_right, AreParts}
use Rattle.qz_system.specs.Rounds.{leaves_known, HaveTypes}
use Rattle.qz_closing.specs.ProgramParts.{inst_of}
use Rattle.qz_closing.specs.Encoding.{Encodes}
use Rattle.qz_closing.proofs.Getting.{get_mapped, at_all, got_within}
use Rattle.step_laws.proofs.FormalsSame.{formal_somewhere}
use Rattle.qz_single.specs.Numbering.{instance_place, leaf_of}
use Rattle.qz_single.specs.Made.{IsSystemOf}
use Rattle.closing_laws.proofs.Places.{place_at, at_place}
use Rattle.closing_laws.proofs.Numbered.{stands, HasPlace, local_zero, output_zero}
use Rattle.closing_laws.proofs.Seeing.{scene_of, leaves_of, view_of, views}
use Rattle.closing_laws.proofs.Agreeing.{scene_at, input_value}
use Rattle.closing_laws.proofs.RoundsSame.{instance_here, cell_here}
use Rattle.closing_laws.proofs.PlainValues.{IsKnownOf, is_plain}

module _ (w : Whole) (parts : SystemParts) (sys : IsSystemOf w parts) (right : AreParts parts) (well : IsWellFormed [] w.module) (texts : length w.names.places ≡ length w.module.labels)
    (at : OfProgram) (permitted : IsPermitted (program_of w.module) at) (v : Valuation) (e : Encodes (program_of w.module) at v) (knows : List Know) where
  abbrev p : Program
  p = program_of w.module

  abbrev m : Module
  m = w.module

  abbrev scene : Scene
  scene = scene_of w parts v knows

  -- whether an instance has a number
  abbrev has_number : Instance → Bool
  has_number i = nat_lt (instance_place m i) (length (instances_of m))

  -- the scene in which an instance without a number is that with mark zero
  abbrev pub whole_scene : Scene
  whole_scene i = if has_number i then scene i else scene (record { variable = i.variable; mark = mark.Zero })

  abbrev pub plain_leaves : Leaves
  plain_leaves = record (leaves_of w parts v knows) { scene = whole_scene }

  abbrev pub plain_view : (ℕ → Know) → View
  plain_view know = record { leaves = plain_leaves; nets = record { leaf = listed (leaves_known parts v knows); know = know } }

  number_found : (k : ℕ) (i : Instance) → slice_get (instances_of m) k ≡ Some i → has_number i ≡ true
  number_found k i found =
      ap (λ n. nat_lt n (length (instances_of m))) (place_at (instances_of m) (instances_distinct m well.numbered) k i found)
      ∙ lt-ltb k (length (instances_of m)) (slice_get_within (instances_of m) k i found)

  -- where it has a number both scenes say the same
  pub scene_same : (k : ℕ) (i : Instance) → slice_get (instances_of m) k ≡ Some i → whole_scene i ≡ scene i
  scene_same k i found = ap (λ t. if t then scene i else scene (record { variable = i.variable; mark = mark.Zero })) (number_found k i found)

  pub formal_same : (n : ℕ) → whole_scene (formal_instance n) ≡ scene (formal_instance n)
  formal_same n = by (has_number (formal_instance n)) where
    by : (t : Bool) → (if t then scene (formal_instance n) else scene (formal_instance n)) ≡ scene (formal_instance n)
    by true = refl
    by false = refl

  long : length parts.instances ≡ length (instances_of m)
  long = ap length sys.is_made.named.instances ∙ length-map (instances_of m) (inst_of w)

  -- each instance of which a net reads has a number
  leaf_number : (number n : ℕ) (k : Mark) → slice_get sys.compiled.circuit.leaves.keys number ≡ Some (kind.Local n k) → has_number (local_instance n k) ≡ true
  leaf_number number n k found = by (slice_get parts.instances (instance_place m (local_instance n k))) refl
      (at_all (λ one. is_leaf_right parts one) parts.leaves right.is_wired.leaf_types number (leaf.Now (instance_place m (local_instance n k)))
      (ap (λ (l : List SystemLeaf). slice_get l number) sys.is_made.leaves ∙ get_mapped (leaf_of m) sys.compiled.circuit.leaves.keys number (kind.Local n k) found)) where
        by : (o : Option Inst) → slice_get parts.instances (instance_place m (local_instance n k)) ≡ o
            → option_map_or (λ (t : Ty). true) (option_and_then (λ (one : Inst). cell_type parts one.cell) o) false ≡ true → has_number (local_instance n k) ≡ true
        by None is h = absurd (false≢true h)
        by (Some one) is h =
            lt-ltb (instance_place m (local_instance n k)) (length (instances_of m))
            (let less = slice_get_within parts.instances (instance_place m (local_instance n k)) one is in let same = long in omega (arith, less, same))

  module _ (know : ℕ → Know) (reads : Reads (record { leaf = listed (leaves_known parts v knows); know = know }) parts.table) where
    before_view : Views (view_of w parts v knows know) sys.compiled.circuit
    before_view = views w parts v knows sys.compiled sys.is_made know reads

    kind_same : (number : ℕ) (k : LeafKind) → slice_get sys.compiled.circuit.leaves.keys number ≡ Some k
        → kind_known (leaves_of w parts v knows) k ≡ kind_known plain_leaves k
    kind_same number (kind.Formal n) found = sym (formal_same n)
    kind_same number (kind.Local n k) found =
        sym (ap (λ t. if t then scene (local_instance n k) else scene (local_instance n mark.Zero)) (leaf_number number n k found))
    kind_same number (kind.At place) found = refl
    kind_same number kind.Start found = refl
    kind_same number kind.Drop found = refl
    kind_same number kind.Act found = refl
    kind_same number kind.Stay found = refl
    kind_same number kind.Leave found = refl
    kind_same number (kind.CallMayEnd n) found = refl
    kind_same number (kind.CallInside n) found = refl
    kind_same number (kind.CallEnds n) found = refl
    kind_same number (kind.CallEndsAtOnce n k) found = refl

    pub plain_views : Views (plain_view know) sys.compiled.circuit
    plain_views = record { nets = before_view.nets; leaves = λ number k found. before_view.leaves number k found ∙ kind_same number k found }

  module _ (typed : HaveTypes parts knows) (known : (k : ℕ) (i : Instance) → slice_get (instances_of m) k ≡ Some i → (x : Value) × (slice_index_or knows k Unknown ≡ Known x)) where
    instance_typed : (k : ℕ) (i : Instance) → slice_get (instances_of m) k ≡ Some i → instance_type parts k ≡ Some (type_in m i.variable)
    instance_typed k i found =
        ap (λ (o : Option Inst). option_and_then (λ (one : Inst). cell_type parts one.cell) o) (instance_here w parts sys well texts at permitted v e k i found)
        ∙ ap (option_map (λ (cell : Cell). cell.ty)) (cell_here w parts sys well texts at permitted v e k i found)

    numbered_known : (i : Instance) → HasPlace m well.numbered i → IsKnownOf (type_in m i.variable) (scene i)
    numbered_known i place =
        let value = known place.number i place.at in
        let is : scene i ≡ Known value.0 = scene_at w parts sys well at permitted v e knows place.number i place.at ∙ value.1 in
        (value.0, is, subst (HasType (type_in m i.variable)) value.1 (typed place.number (type_in m i.variable) (instance_typed place.number i place.at)))

    leaf_is : (t u : Ty) → leaf_type t ≡ Some u → t ≡ u
    leaf_is t u h = by (is_type t) h where
      by : (b : Bool) → (if b then Some t else None) ≡ Some u → t ≡ u
      by true k = some_same _ _ k
      by false k = absurd (none≢some u k)

    input_of : (n : ℕ) → 1 ≤ times n (formals_of dir.In m) → IsKnownOf (type_in m (var.Formal n)) (scene (formal_instance n))
    input_of n own =
        let one = stands (formals_of dir.In m) n own in
        let value = input_value w parts sys well at permitted v e knows one.0 n one.1 in
        let two = and_parts _ _ value.2 in
        (value.0, value.1, record { typed = same-is_same_type _ _ two.0; fits = ltb-true _ _ two.1 })

    formal_known : (n : ℕ) → is_some (slice_get m.formals n) ≡ true → IsKnownOf (type_in m (var.Formal n)) (scene (formal_instance n))
    formal_known n h = by_order (cases_lt 0 (times n (formals_of dir.In m))) where
      by_order : (0 < times n (formals_of dir.In m)) ⊎ (times n (formals_of dir.In m) ≤ 0) → IsKnownOf (type_in m (var.Formal n)) (scene (formal_instance n))
      by_order (inl more) = input_of n (omega (arith, more))
      by_order (inr none) =
          let some = formal_somewhere m.formals 0 n n (omega arith) h in
          numbered_known (formal_instance n) (output_zero m well.numbered n (omega (arith, none, some)))

    local_known : (n : ℕ) (k : Mark) → n < length m.decls → IsKnownOf (type_in m (var.Local n)) (whole_scene (local_instance n k))
    local_known n k small = by (has_number (local_instance n k)) refl where
      by : (t : Bool) → has_number (local_instance n k) ≡ t
          → IsKnownOf (type_in m (var.Local n)) (if t then scene (local_instance n k) else scene (local_instance n mark.Zero))
      by true is =
          let place = instance_place m (local_instance n k) in
          let less : place < length (instances_of m) = ltb-true _ _ is in
          let there = got_within (instances_of m) place less in
          numbered_known (local_instance n k) record {
            number = place;
            at = there.1 ∙ ap Some (sym (at_place (instances_of m) place there.0 (local_instance n k) there.1 refl));
          }
      by false is = numbered_known (local_instance n mark.Zero) (local_zero m well.numbered n small)

    formal_here : (n : ℕ) (t : Ty) (o : Option Formal) → slice_get m.formals n ≡ o → option_and_then (λ (formal : Formal). leaf_type formal.ty) o ≡ Some t
        → IsKnownOf t (whole_scene (formal_instance n))
    formal_here n t None is h = absurd (none≢some t h)
    formal_here n t (Some formal) is h =
        subst (IsKnownOf t) (sym (formal_same n))
        (subst (λ u. IsKnownOf u (scene (formal_instance n)))
        (ap (λ (o : Option Formal). option_map_or (λ (one : Formal). one.ty) o ty.Bool) is ∙ leaf_is formal.ty t h) (formal_known n (ap is_some is)))

    local_here : (n : ℕ) (k : Mark) (t : Ty) (o : Option Decl) → slice_get m.decls n ≡ o → option_and_then (λ (decl : Decl). leaf_type decl.ty) o ≡ Some t
        → IsKnownOf t (whole_scene (local_instance n k))
    local_here n k t None is h = absurd (none≢some t h)
    local_here n k t (Some decl) is h =
        subst (λ u. IsKnownOf u (whole_scene (local_instance n k)))
        (ap (λ (o : Option Decl). option_map_or (λ (one : Decl). one.ty) o ty.Bool) is ∙ leaf_is decl.ty t h)
        (local_known n k (slice_get_within m.decls n decl is))

    variable_known : (ctx : Context) (x : Var) (t : Ty) → declared_type m x ≡ Some t → IsKnownOf t (known_here whole_scene ctx x)
    variable_known ctx (var.Formal n) t h = formal_here n t (slice_get m.formals n) refl h
    variable_known ctx (var.Local n) t h = local_here n (ctx.marks n) t (slice_get m.decls n) refl h
    variable_known ctx (var.Bound n) t h = absurd (none≢some t h)

    pub scene_plain : IsPlain m whole_scene
    scene_plain = is_plain m whole_scene variable_known
