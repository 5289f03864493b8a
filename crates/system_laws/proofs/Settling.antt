-- Verdicts on acts rise with what is known of nets, and so does what they settle.
use Rattle.std.proofs.Common.{◌≡◌, ℕ, Bool, true, false, List, [], ◌∷◌, Option, Some, None, refl}
use Rattle.std.specs.Prelude.{if◌then◌else◌, slice_get}
use Rattle.std.specs.List.{list_all}
use Rattle.std.specs.Option.{option_map_or}
use Rattle.std.proofs.lemmas.Bool.{and_parts, false≢true}
use Rattle.qz_values.specs.declared.Ty.{Ty}
use Rattle.qz_values.specs.declared.Ty.TheVariants.{Bool as Truth}
use Rattle.qz_values.specs.declared.Know.{Know}
use Rattle.qz_values.specs.declared.Know.TheVariants.{Unknown}
use Rattle.qz_values.specs.Order.{Below}
use Rattle.qz_nets.specs.Readings.{type_in}
use Rattle.qz_syntax.specs.declared.declarations.Class.{Class}
use Rattle.qz_syntax.specs.declared.places.Store.{Store}
use Rattle.qz_meaning.specs.Verdicts.{Verdict, Nobody, Open, One, Torn}
use Rattle.qz_meaning.specs.Settling.{with_pending, settled, settled_later}
use Rattle.qz_meaning.specs.Rising.{VerdictBelow, LaterBelow}
use Rattle.qz_meaning.proofs.Settles.{join_up, one_up}
use Rattle.qz_system.specs.declared.parts.Cell.{Cell}
use Rattle.qz_system.specs.declared.parts.Inst.{Inst}
use Rattle.qz_system.specs.declared.parts.Act.{Act}
use Rattle.qz_system.specs.declared.parts.SystemParts.{SystemParts}
use Rattle.qz_system.specs.declared.valuation.Valuation.{Valuation}
use Rattle.qz_system.specs.Parts.{instance_type, is_bool_net, are_one, is_act_right}
use Rattle.qz_system.specs.Writers.{is_to, verdict_of_act, tally_of, verdict_of}
use Rattle.qz_system.specs.Rounds.{begins, settles}
use Rattle.qz_system.proofs.Finding.{the_type}

verdict_if : (c : Bool) (x y v w : Verdict) → VerdictBelow x y → VerdictBelow v w → VerdictBelow (if c then x else v) (if c then y else w)
verdict_if true x y v w p q = p
verdict_if false x y v w p q = q

pending_up : (store : Store) (a b : Verdict) → VerdictBelow a b → VerdictBelow (with_pending store a) (with_pending store b)
pending_up store a b p = verdict_if store.pending _ _ _ _ (join_up (One store.value) (One store.value) a b refl p) p

settled_up : (class : Class) (t : Ty) (store : Store) (a b : Verdict) → VerdictBelow a b → Below (settled class t store a) (settled class t store b)
settled_up class t store Open b p = tt
settled_up class t store Nobody Nobody p = refl
settled_up class t store Nobody Open p = absurd p
settled_up class t store Nobody (One w) p = absurd p
settled_up class t store Nobody Torn p = tt
settled_up class t store (One v) Nobody p = absurd p
settled_up class t store (One v) Open p = absurd p
settled_up class t store (One v) (One w) p = p
settled_up class t store (One v) Torn p = tt
settled_up class t store Torn Nobody p = absurd p
settled_up class t store Torn Open p = absurd p
settled_up class t store Torn (One w) p = absurd p
settled_up class t store Torn Torn p = tt

pub settled_later_up : (a b : Verdict) → VerdictBelow a b → LaterBelow (settled_later a) (settled_later b)
settled_later_up Open b p = tt
settled_later_up Nobody Nobody p = tt
settled_later_up Nobody Open p = absurd p
settled_later_up Nobody (One w) p = absurd p
settled_later_up Nobody Torn p = tt
settled_later_up (One v) Nobody p = absurd p
settled_later_up (One v) Open p = absurd p
settled_later_up (One v) (One w) p = p
settled_later_up (One v) Torn p = tt
settled_later_up Torn Nobody p = absurd p
settled_later_up Torn Open p = absurd p
settled_later_up Torn (One w) p = absurd p
settled_later_up Torn Torn p = tt

-- a type that is one with another is there
one_there : (a b : Option Ty) → are_one a b ≡ true → (ty : Ty) × (b ≡ Some ty)
one_there None b h = absurd (false≢true h)
one_there (Some t) b h = (t, the_type t b h)

module _ (parts : SystemParts) (know other : ℕ → Know) (up : (n : ℕ) (ty : Ty) → type_in parts.table n ≡ Some ty → Below (know n) (other n)) where
  act_up : (act : Act) → is_act_right parts act ≡ true → VerdictBelow (verdict_of_act know act) (verdict_of_act other act)
  act_up act right =
      let both = and_parts (is_bool_net parts act.guard) (are_one (instance_type parts act.instance) (type_in parts.table act.value.0)) right in
      let value = one_there (instance_type parts act.instance) (type_in parts.table act.value.0) both.1 in
      one_up _ _ _ _ (up act.guard.0 Truth (the_type Truth (type_in parts.table act.guard.0) both.0)) (up act.value.0 value.0 value.1)

  tally_up : (instance : ℕ) (d : Bool) (acts : List Act) → list_all (λ act. is_act_right parts act) acts ≡ true
      → (a b : Verdict) → VerdictBelow a b → VerdictBelow (tally_of know instance d a acts) (tally_of other instance d b acts)
  tally_up instance d [] all a b p = p
  tally_up instance d (act ∷ acts) all a b p =
      let both = and_parts (is_act_right parts act) (list_all (λ one. is_act_right parts one) acts) all in
      tally_up instance d acts both.1 _ _ (verdict_if (is_to instance d act) _ _ _ _ (join_up _ _ _ _ p (act_up act both.0)) p)

  -- the verdict on an instance
  pub verdict_up : (instance : ℕ) (d : Bool) (acts : List Act) → list_all (λ act. is_act_right parts act) acts ≡ true
      → VerdictBelow (verdict_of know instance d acts) (verdict_of other instance d acts)
  verdict_up instance d acts all = tally_up instance d acts all Nobody Nobody tt

-- what an instance settles to
pub settles_up : (parts : SystemParts) (v : Valuation) (one : Inst) (a b : Verdict) → VerdictBelow a b → Below (settles parts v one a) (settles parts v one b)
settles_up parts v one a b p = by (slice_get parts.cells one.cell)
  where
    by : (o : Option Cell)
        → Below (option_map_or (λ (cell : Cell). settled cell.class cell.ty (begins parts v one cell) (with_pending (begins parts v one cell) a)) o Unknown)
        (option_map_or (λ (cell : Cell). settled cell.class cell.ty (begins parts v one cell) (with_pending (begins parts v one cell) b)) o Unknown)
    by None = tt
    by (Some cell) = settled_up cell.class cell.ty (begins parts v one cell) _ _ (pending_up (begins parts v one cell) a b p)
