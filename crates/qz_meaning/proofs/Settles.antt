-- Verdicts on writes that rise rise, and so do the values that they settle.
use Rattle.std.proofs.Common.{◌≡◌, Bool, true, false, List, [], ◌∷◌, refl, sym, ap₂, subst}
use Rattle.std.specs.Prelude.{if◌then◌else◌}
use Rattle.std.specs.List.{AllZip}
use Rattle.qz_values.specs.declared.Ty.{Ty}
use Rattle.qz_values.specs.declared.Value.{Value}
use Rattle.qz_values.specs.declared.Know.{Know}
use Rattle.qz_values.specs.declared.Know.TheVariants.{Unknown, Known, Clash}
use Rattle.qz_values.specs.Values.{is_yes}
use Rattle.qz_values.specs.Order.{Below}
use Rattle.qz_syntax.specs.declared.declarations.Class.{Class}
use Rattle.qz_syntax.specs.declared.places.Store.{Store}
use Rattle.qz_meaning.specs.Instances.{Instance, is_same_instance}
use Rattle.qz_meaning.specs.Accounts.{Write}
use Rattle.qz_meaning.specs.Layouts.{Met}
use Rattle.qz_meaning.specs.Programs.{Program}
use Rattle.qz_meaning.specs.Verdicts.{Verdict, Nobody, Open, One, Torn, is_same_value, enabled, verdict_of_one, join, is_to, tally, verdict}
use Rattle.qz_meaning.specs.Settling.{store_in, with_pending, settled, settled_later, settles_now, settles_later}
use Rattle.qz_meaning.specs.Rising.{WriteBelow, VerdictBelow, LaterBelow}
use Rattle.qz_meaning.proofs.JoinLemmas.{same-is_same_value}

below_torn : (a : Verdict) → VerdictBelow a Torn
below_torn Nobody = tt
below_torn Open = tt
below_torn (One v) = tt
below_torn Torn = tt

verdict_self : (a : Verdict) → VerdictBelow a a
verdict_self Nobody = tt
verdict_self Open = tt
verdict_self (One v) = refl
verdict_self Torn = tt

torn_right : (a : Verdict) → join a Torn ≡ Torn
torn_right Nobody = refl
torn_right Open = refl
torn_right (One v) = refl
torn_right Torn = refl

first_or_torn : (v : Value) (same : Bool) → VerdictBelow (One v) (if same then One v else Torn)
first_or_torn v true = refl
first_or_torn v false = tt

-- a value decides over what was open, whatever that comes to
decides : (a : Verdict) (w : Value) → VerdictBelow (One w) (join a (One w))
decides Nobody w = refl
decides Open w = refl
decides (One v) w = by_same (is_same_value v w) refl where
  by_same : (same : Bool) → is_same_value v w ≡ same → VerdictBelow (One w) (if same then One v else Torn)
  by_same true e = sym (same-is_same_value v w e)
  by_same false e = tt
decides Torn w = tt

with_one : (v : Value) (b d : Verdict) → VerdictBelow b d → VerdictBelow (join (One v) b) (join (One v) d)
with_one v Nobody Nobody q = refl
with_one v Nobody Open q = absurd q
with_one v Nobody (One x) q = absurd q
with_one v Nobody Torn q = tt
with_one v Open Nobody q = refl
with_one v Open Open q = refl
with_one v Open (One x) q = first_or_torn v (is_same_value v x)
with_one v Open Torn q = tt
with_one v (One w) Nobody q = absurd q
with_one v (One w) Open q = absurd q
with_one v (One w) (One x) q = subst (λ y. VerdictBelow (join (One v) (One w)) (join (One v) (One y))) q (verdict_self _)
with_one v (One w) Torn q = below_torn _
with_one v Torn Nobody q = absurd q
with_one v Torn Open q = absurd q
with_one v Torn (One x) q = absurd q
with_one v Torn Torn q = tt

pub join_up : (a c b d : Verdict) → VerdictBelow a c → VerdictBelow b d → VerdictBelow (join a b) (join c d)
join_up Nobody Nobody b d p q = q
join_up Nobody Open b d p q = absurd p
join_up Nobody (One w) b d p q = absurd p
join_up Nobody Torn b d p q = below_torn b
join_up Open c Nobody d p q = tt
join_up Open c Open d p q = tt
join_up Open c (One w) Nobody p q = absurd q
join_up Open c (One w) Open p q = absurd q
join_up Open c (One w) (One x) p q = subst (λ y. VerdictBelow (One w) (join c (One y))) q (decides c w)
join_up Open c (One w) Torn p q = subst (VerdictBelow (One w)) (sym (torn_right c)) tt
join_up Open c Torn Nobody p q = absurd q
join_up Open c Torn Open p q = absurd q
join_up Open c Torn (One x) p q = absurd q
join_up Open c Torn Torn p q = subst (VerdictBelow Torn) (sym (torn_right c)) tt
join_up (One v) Nobody b d p q = absurd p
join_up (One v) Open b d p q = absurd p
join_up (One v) (One w) b d p q = subst (λ y. VerdictBelow (join (One v) b) (join (One y) d)) p (with_one v b d q)
join_up (One v) Torn b d p q = below_torn _
join_up Torn Nobody b d p q = absurd p
join_up Torn Open b d p q = absurd p
join_up Torn (One w) b d p q = absurd p
join_up Torn Torn b d p q = tt

enabled_up : (v w : Know) → Below v w → VerdictBelow (enabled v) (enabled w)
enabled_up Unknown w p = tt
enabled_up (Known v) Unknown p = absurd p
enabled_up (Known v) (Known w) p = p
enabled_up (Known v) Clash p = tt
enabled_up Clash Unknown p = absurd p
enabled_up Clash (Known w) p = absurd p
enabled_up Clash Clash p = tt

verdict_if : (c : Bool) (x y v w : Verdict) → VerdictBelow x y → VerdictBelow v w → VerdictBelow (if c then x else v) (if c then y else w)
verdict_if true x y v w p q = p
verdict_if false x y v w p q = q

pub one_up : (g h v w : Know) → Below g h → Below v w → VerdictBelow (verdict_of_one g v) (verdict_of_one h w)
one_up Unknown h v w p q = tt
one_up (Known g) Unknown v w p q = absurd p
one_up (Known g) (Known h) v w p q =
    subst (λ k. VerdictBelow (verdict_of_one (Known g) v) (verdict_of_one (Known k) w)) p (verdict_if (is_yes g) _ _ _ _ (enabled_up v w q) tt)
one_up (Known g) Clash v w p q = below_torn _
one_up Clash Unknown v w p q = absurd p
one_up Clash (Known h) v w p q = absurd p
one_up Clash Clash v w p q = tt

same_to : (i : Instance) (delayed : Bool) (v w : Write) → WriteBelow v w → is_to i delayed v ≡ is_to i delayed w
same_to i true v w p = ap₂ (λ d x. if d then is_same_instance x i else false) p.delayed p.target
same_to i false v w p = ap₂ (λ d x. if d then false else is_same_instance x i) p.delayed p.target

tally_up : (i : Instance) (delayed : Bool) (ws vs : List Write) (a b : Verdict) → AllZip WriteBelow ws vs → VerdictBelow a b
    → VerdictBelow (tally i delayed a ws) (tally i delayed b vs)
tally_up i delayed [] [] a b u p = p
tally_up i delayed [] (v ∷ vs) a b u p = absurd u
tally_up i delayed (w ∷ ws) [] a b u p = absurd u
tally_up i delayed (w ∷ ws) (v ∷ vs) a b u p =
    tally_up i delayed ws vs _ _ u.1
    (subst (λ (c : Bool). VerdictBelow (if is_to i delayed w then join a (verdict_of_one w.guard w.value) else a) (if c then join b (verdict_of_one v.guard v.value) else b)) (same_to i delayed w v u.0)
    (verdict_if (is_to i delayed w) _ _ _ _ (join_up _ _ _ _ p (one_up _ _ _ _ u.0.guard u.0.value)) p))

-- the verdict on writes that rise rises
pub verdicts_rise : (i : Instance) (delayed : Bool) (ws vs : List Write) → AllZip WriteBelow ws vs → VerdictBelow (verdict i delayed ws) (verdict i delayed vs)
verdicts_rise i delayed ws vs u = tally_up i delayed ws vs _ _ u tt

pending_up : (store : Store) (a b : Verdict) → VerdictBelow a b → VerdictBelow (with_pending store a) (with_pending store b)
pending_up store a b p = verdict_if store.pending _ _ _ _ (with_one store.value a b p) p

settled_up : (class : Class) (t : Ty) (store : Store) (a b : Verdict) → VerdictBelow a b → Below (settled class t store a) (settled class t store b)
settled_up class t store Open b p = tt
settled_up class t store Nobody Nobody p = refl
settled_up class t store Nobody Open p = absurd p
settled_up class t store Nobody (One w) p = absurd p
settled_up class t store Nobody Torn p = tt
settled_up class t store (One v) Nobody p = absurd p
settled_up class t store (One v) Open p = absurd p
settled_up class t store (One v) (One w) p = p
settled_up class t store (One v) Torn p = tt
settled_up class t store Torn Nobody p = absurd p
settled_up class t store Torn Open p = absurd p
settled_up class t store Torn (One w) p = absurd p
settled_up class t store Torn Torn p = tt

settled_later_up : (a b : Verdict) → VerdictBelow a b → LaterBelow (settled_later a) (settled_later b)
settled_later_up Open b p = tt
settled_later_up Nobody Nobody p = tt
settled_later_up Nobody Open p = absurd p
settled_later_up Nobody (One w) p = absurd p
settled_later_up Nobody Torn p = tt
settled_later_up (One v) Nobody p = absurd p
settled_later_up (One v) Open p = absurd p
settled_later_up (One v) (One w) p = p
settled_later_up (One v) Torn p = tt
settled_later_up Torn Nobody p = absurd p
settled_later_up Torn Open p = absurd p
settled_later_up Torn (One w) p = absurd p
settled_later_up Torn Torn p = tt

-- what an instance settles to rises with the writes
pub now_rises : (p : Program) (ws vs : List Write) (one : Met) → AllZip WriteBelow ws vs → Below (settles_now p ws one) (settles_now p vs one)
now_rises p ws vs one u =
    settled_up (p.class_of one.instance.variable) (p.type_of one.instance.variable) (store_in p one) _ _ (pending_up (store_in p one) _ _ (verdicts_rise one.instance false ws vs u))

pub later_rises : (ws vs : List Write) (one : Met) → AllZip WriteBelow ws vs → LaterBelow (settles_later ws one) (settles_later vs one)
later_rises ws vs one u = settled_later_up _ _ (verdicts_rise one.instance true ws vs u)
