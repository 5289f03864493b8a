-- What is known of leaves, nets and instances is of their types.
use Rattle.std.proofs.Common.{◌≡◌, ℕ, zero, suc, ◌<◌, ◌^◌, Bool, true, false, List, [], ◌∷◌, map, length, get_or, Option, Some, None, refl, sym, ap, subst, ◌∙◌, arith}
use Rattle.std.specs.Prelude.{◌&&◌, ◌==◌, if◌then◌else◌, nat_lt, slice_get, slice_index_or}
use Rattle.std.specs.List.{list_all}
use Rattle.std.specs.Option.{option_map, option_map_or, option_and_then}
use Rattle.std.proofs.lemmas.Bool.{and_parts, eqb-true}
use Rattle.std.proofs.lemmas.Nat.{pow_pos}
use Rattle.qz_values.specs.Types.{width_of}
use Rattle.std.proofs.lemmas.Option.{slice_get-map, get_or_from_slice_get}
use Rattle.qz_values.specs.declared.Ty.{Ty}
use Rattle.qz_values.specs.declared.Ty.TheVariants.{Bool as Truth}
use Rattle.qz_values.specs.declared.Value.{Value}
use Rattle.qz_values.specs.declared.Know.{Know}
use Rattle.qz_values.specs.declared.Know.TheVariants.{Unknown, Known, Clash}
use Rattle.qz_values.specs.Values.{value_of, truth_of, default_of, is_yes}
use Rattle.qz_values.specs.Fits.{IsOf, HasType}
use Rattle.qz_nets.specs.declared.net.Net.{Net}
use Rattle.qz_nets.specs.declared.net.Net.TheVariants as net
use Rattle.qz_nets.specs.Readings.{net_in, type_in, listed, Reads}
use Rattle.qz_syntax.specs.declared.declarations.Class.{Class}
use Rattle.qz_syntax.specs.declared.declarations.Class.TheVariants.{Event, Mem}
use Rattle.qz_syntax.specs.declared.declarations.Port.{Port}
use Rattle.qz_syntax.specs.declared.places.Store.{Store}
use Rattle.qz_syntax.specs.declared.places.Later.{Later}
use Rattle.qz_meaning.specs.Verdicts.{Verdict, Nobody, Open, One, Torn, is_same_value, enabled, verdict_of_one, join}
use Rattle.qz_meaning.specs.Settling.{with_pending, settled}
use Rattle.qz_system.specs.declared.parts.SystemLeaf.{SystemLeaf}
use Rattle.qz_system.specs.declared.parts.SystemLeaf.TheVariants as leaf
use Rattle.qz_system.specs.declared.parts.Cell.{Cell}
use Rattle.qz_system.specs.declared.parts.Inst.{Inst}
use Rattle.qz_system.specs.declared.parts.Act.{Act}
use Rattle.qz_system.specs.declared.parts.SystemParts.{SystemParts}
use Rattle.qz_system.specs.declared.valuation.Valuation.{Valuation}
use Rattle.qz_system.specs.Parts.{AreParts, cell_type, instance_type, leaf_stands, leaf_at, is_net_right, is_bool_net, are_one, is_act_right}
use Rattle.qz_system.specs.Valuations.{Fits, store_of}
use Rattle.qz_system.specs.Writers.{is_to, verdict_of_act, tally_of, verdict_of}
use Rattle.qz_system.specs.Rounds.{leaf_known, leaves_known, stored, keeps, begins, settles, HaveTypes, AreSettledBy}
use Rattle.qz_system.proofs.Finding.{all_at, the_type, one_type}
use Rattle.qz_system.proofs.NetLemmas.{net_at_all}
use Rattle.qz_system.proofs.FitLemmas.{input_value, cell_value}

truth_typed : (b : Bool) → HasType Truth (Known (truth_of b))
truth_typed true = record { typed = refl; fits = omega arith }
truth_typed false = record { typed = refl; fits = omega arith }

module _ (parts : SystemParts) (v : Valuation) (are : AreParts parts) (fits : Fits parts v) (before : List Know) (typed : HaveTypes parts before) where
  -- what is known of a leaf is of the type of what it stands for
  leaf_typed : (one : SystemLeaf) (ty : Ty) → leaf_stands parts one ≡ Some ty → HasType ty (leaf_known parts v before one)
  leaf_typed (leaf.Input n) ty h = by (slice_get parts.inputs n) refl h
    where
      by : (o : Option Port) → slice_get parts.inputs n ≡ o → option_map (λ (port : Port). port.ty) o ≡ Some ty
          → HasType ty (option_map_or (λ (port : Port). Known (value_of port.ty (slice_index_or v.inputs.items n 0))) o Unknown)
      by None at is = absurd (cc)
      by (Some port) at is =
          let same : port.ty ≡ ty = cc in
          let right = input_value parts v fits n port at in
          record { typed = same; fits = rw (← same) right.fits }
  leaf_typed (leaf.Now n) ty h = typed n ty h
  leaf_typed (leaf.At n) ty h = by (nat_lt n (length parts.places)) h
    where
      by : (b : Bool) → (if b then Some Truth else None) ≡ Some ty → HasType ty (leaf_known parts v before (leaf.At n))
      by true is = let same : Truth ≡ ty = cc in subst (λ t. HasType t (leaf_known parts v before (leaf.At n))) same (truth_typed _)
      by false is = absurd (cc)
  leaf_typed leaf.Started ty h = let same : Truth ≡ ty = cc in subst (λ t. HasType t (leaf_known parts v before leaf.Started)) same (truth_typed v.started)

  -- what is known of the leaf with a number
  number_typed : (number : ℕ) (ty : Ty) → leaf_at parts number ≡ Some ty → HasType ty (listed (leaves_known parts v before) number)
  number_typed number ty h = by (slice_get parts.leaves number) refl h
    where
      by : (o : Option SystemLeaf) → slice_get parts.leaves number ≡ o → option_and_then (λ one. leaf_stands parts one) o ≡ Some ty
          → HasType ty (listed (leaves_known parts v before) number)
      by None at is = absurd (cc)
      by (Some one) at is =
          let there : slice_get (leaves_known parts v before) number ≡ Some (leaf_known parts v before one) =
          slice_get-map (λ x. leaf_known parts v before x) parts.leaves number ∙ ap (option_map (λ x. leaf_known parts v before x)) at in
          rw (get_or_from_slice_get (leaves_known parts v before) number (leaf_known parts v before one) Unknown there) (leaf_typed one ty is)

  -- what is known of leaves is of their types
  pub leaves_fit : (n number : ℕ) (ty : Ty) → net_in parts.table n ≡ Some (net.Leaf number ty) → HasType ty (listed (leaves_known parts v before) number)
  leaves_fit n number ty at =
      number_typed number ty (the_type ty (leaf_at parts number)
      (net_at_all (is_net_right parts) parts.table.nets.entries are.is_wired.net_leaves n (net.Leaf number ty) at))

-- the value of a verdict, if it has one, is of this type
abbrev IsVerdictOf : Ty → Verdict → Type 0
IsVerdictOf ty Nobody = Unit {0}
IsVerdictOf ty Open = Unit {0}
IsVerdictOf ty (One v) = IsOf ty v
IsVerdictOf ty Torn = Unit {0}

module _ (ty : Ty) where
  enabled_fits : (k : Know) → HasType ty k → IsVerdictOf ty (enabled k)
  enabled_fits Unknown h = tt
  enabled_fits (Known v) h = h
  enabled_fits Clash h = tt

  writer_fits : (guard value : Know) → HasType ty value → IsVerdictOf ty (verdict_of_one guard value)
  writer_fits Unknown value h = tt
  writer_fits (Known g) value h = by (is_yes g)
    where
      by : (b : Bool) → IsVerdictOf ty (if b then enabled value else Nobody)
      by true = enabled_fits value h
      by false = tt
  writer_fits Clash value h = tt

  join_fits : (a b : Verdict) → IsVerdictOf ty a → IsVerdictOf ty b → IsVerdictOf ty (join a b)
  join_fits Nobody b f g = g
  join_fits Open Nobody f g = tt
  join_fits Open Open f g = tt
  join_fits Open (One w) f g = g
  join_fits Open Torn f g = tt
  join_fits (One v) Nobody f g = f
  join_fits (One v) Open f g = f
  join_fits (One v) (One w) f g = by (is_same_value v w)
    where
      by : (b : Bool) → IsVerdictOf ty (if b then One v else Torn)
      by true = f
      by false = tt
  join_fits (One v) Torn f g = tt
  join_fits Torn b f g = tt

  pending_fits : (store : Store) (writers : Verdict) → IsOf ty store.value → IsVerdictOf ty writers → IsVerdictOf ty (with_pending store writers)
  pending_fits store writers f g = by store.pending
    where
      by : (b : Bool) → IsVerdictOf ty (if b then join (One store.value) writers else writers)
      by true = join_fits (One store.value) writers f g
      by false = g

  default_fits : IsOf ty (default_of ty)
  default_fits = record { typed = refl; fits = pow_pos (width_of ty) }

  settled_fits : (class : Class) (store : Store) (writers : Verdict) → IsOf ty store.value → IsVerdictOf ty writers → HasType ty (settled class ty store writers)
  settled_fits Event store Nobody f g = default_fits
  settled_fits Mem store Nobody f g = f
  settled_fits class store Open f g = tt
  settled_fits class store (One v) f g = g
  settled_fits class store Torn f g = tt

module _ (parts : SystemParts) (v : Valuation) (are : AreParts parts) (fits : Fits parts v) (know : ℕ → Know)
    (reads : (n : ℕ) (ty : Ty) → type_in parts.table n ≡ Some ty → HasType ty (know n)) where
  -- the acts on an instance give values of its type
  acts_fit : (instance : ℕ) (ty : Ty) → instance_type parts instance ≡ Some ty → (d : Bool) (so_far : Verdict) → IsVerdictOf ty so_far
      → (acts : List Act) → list_all (λ act. is_act_right parts act) acts ≡ true → IsVerdictOf ty (tally_of know instance d so_far acts)
  acts_fit instance ty is d so_far f [] all = f
  acts_fit instance ty is d so_far f (act ∷ acts) all =
      let both = and_parts (is_act_right parts act) (list_all (λ one. is_act_right parts one) acts) all in
      acts_fit instance ty is d (if is_to instance d act then join so_far (verdict_of_act know act) else so_far) (step (is_to instance d act) refl both.0) acts both.1
    where
      number : (b : Bool) → is_to instance b act ≡ true → act.instance ≡ instance
      number true to = by act.delayed to
        where
          by : (e : Bool) → (if e then act.instance == instance else false) ≡ true → act.instance ≡ instance
          by true h = eqb-true act.instance instance h
          by false h = absurd (cc)
      number false to = by act.delayed to
        where
          by : (e : Bool) → (if e then false else act.instance == instance) ≡ true → act.instance ≡ instance
          by true h = absurd (cc)
          by false h = eqb-true act.instance instance h

      step : (b : Bool) → is_to instance d act ≡ b → is_act_right parts act ≡ true
          → IsVerdictOf ty (if b then join so_far (verdict_of_act know act) else so_far)
      step false to right = f
      step true to right =
          let here = number d to in
          let value = one_type (instance_type parts act.instance) (type_in parts.table act.value.0)
          (and_parts (is_bool_net parts act.guard) _ right).1 ty (ap (instance_type parts) here ∙ is) in
          join_fits ty so_far (verdict_of_act know act) f (writer_fits ty (know act.guard.0) (know act.value.0) (reads act.value.0 ty value))

  begins_fits : (one : Inst) (cell : Cell) → slice_get parts.cells one.cell ≡ Some cell → IsOf cell.ty (begins parts v one cell).value
  begins_fits one cell at = by (keeps parts v one)
    where
      by : (b : Bool) → IsOf cell.ty (if b then stored cell.ty (store_of v one.cell) else record { value = default_of cell.ty; pending = false }).value
      by true = record { typed = refl; fits = (cell_value parts v fits one.cell cell at).fits }
      by false = default_fits cell.ty

  settles_fits : (one : Inst) (ty : Ty) → cell_type parts one.cell ≡ Some ty → (writers : Verdict) → IsVerdictOf ty writers → HasType ty (settles parts v one writers)
  settles_fits one ty is writers f = by (slice_get parts.cells one.cell) refl is
    where
      by : (o : Option Cell) → slice_get parts.cells one.cell ≡ o → option_map (λ (cell : Cell). cell.ty) o ≡ Some ty
          → HasType ty (option_map_or (λ (cell : Cell). settled cell.class cell.ty (begins parts v one cell) (with_pending (begins parts v one cell) writers)) o Unknown)
      by None at has = absurd (cc)
      by (Some cell) at has =
          let same : ty ≡ cell.ty = cc in
          let fit : IsVerdictOf cell.ty writers = subst (λ t. IsVerdictOf t writers) same f in
          let begun = begins_fits one cell at in
          subst (λ t. HasType t (settled cell.class cell.ty (begins parts v one cell) (with_pending (begins parts v one cell) writers))) (sym same)
          (settled_fits cell.ty cell.class (begins parts v one cell) (with_pending (begins parts v one cell) writers) begun
          (pending_fits cell.ty (begins parts v one cell) writers begun fit))

  -- what instances settle to is of their types
  pub settled_typed : (after : List Know) (delayed : List Later) → AreSettledBy parts v know after delayed → HaveTypes parts after
  settled_typed after delayed settled n ty is = by (slice_get parts.instances n) refl is
    where
      by : (o : Option Inst) → slice_get parts.instances n ≡ o → option_and_then (λ (one : Inst). cell_type parts one.cell) o ≡ Some ty
          → HasType ty (slice_index_or after n Unknown)
      by None at has = absurd (cc)
      by (Some one) at has =
          rw (get_or_from_slice_get after n (settles parts v one (verdict_of know n false parts.acts)) Unknown (settled.values n one at))
          (settles_fits one ty has (verdict_of know n false parts.acts) (acts_fit n ty is false Nobody tt parts.acts are.is_wired.acts_fit))
