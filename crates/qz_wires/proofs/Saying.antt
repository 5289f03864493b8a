-- What the nets of an operator say.
use Rattle.std.proofs.Common.{Bool, true, false, not, ◌&&◌, ◌||◌, refl, rules, if◌then◌else◌}
use Rattle.qz_values.specs.declared.Ty.TheVariants.{Bool as Truth}
use Rattle.qz_values.specs.declared.Value.{Value}
use Rattle.qz_values.specs.declared.Know.{Know}
use Rattle.qz_values.specs.declared.Know.TheVariants.{Unknown, Known, Clash}
use Rattle.qz_values.specs.declared.Op2.TheVariants as op2
use Rattle.qz_values.specs.Values.{is_yes, yes, no}
use Rattle.qz_values.specs.Knowledge.{apply2_of, choose_of, from_both}
use Rattle.qz_values.specs.Fits.{HasType}
use Rattle.qz_wires.specs.Rails.{Says}

pub strict_says : (f : Value → Value → Value) (ka : Bool) (va : Value) (kb : Bool) (vb : Value) (p q : Know) → Says ka va p → Says kb vb q →
    Says (ka && kb) (f va vb) (from_both f p q)
strict_says f ka va kb vb Unknown Unknown ha hb = rw ha refl
strict_says f ka va kb vb Unknown (Known w) ha hb = rw ha refl
strict_says f ka va kb vb Unknown Clash ha hb = tt
strict_says f ka va kb vb (Known v) Unknown ha hb = rw ha.0 hb
strict_says f ka va kb vb (Known v) (Known w) ha hb = (rw ha.0 hb.0, rw (ha.1, hb.1) refl)
strict_says f ka va kb vb (Known v) Clash ha hb = tt
strict_says f ka va kb vb Clash q ha hb = tt

pub and_says : (ka : Bool) (va : Value) (kb : Bool) (vb : Value) (p q : Know) → HasType Truth p → HasType Truth q → Says ka va p → Says kb vb q →
    Says (if ka then (if is_yes va then kb else true) else (kb && not (is_yes vb))) (if is_yes va then vb else no) (apply2_of op2.And p q)
and_says ka va kb vb p q tp tq ha hb = search rules

pub or_says : (ka : Bool) (va : Value) (kb : Bool) (vb : Value) (p q : Know) → HasType Truth p → HasType Truth q → Says ka va p → Says kb vb q →
    Says (if ka then (is_yes va || kb) else (kb && is_yes vb)) (if is_yes va then yes else vb) (apply2_of op2.Or p q)
or_says ka va kb vb p q tp tq ha hb = search rules

pub imp_says : (ka : Bool) (va : Value) (kb : Bool) (vb : Value) (p q : Know) → HasType Truth p → HasType Truth q → Says ka va p → Says kb vb q →
    Says (if ka then (if is_yes va then kb else true) else (kb && is_yes vb)) (if is_yes va then vb else yes) (apply2_of op2.Imp p q)
imp_says ka va kb vb p q tp tq ha hb = search rules

pub choose_says : (kc : Bool) (vc : Value) (ka : Bool) (va : Value) (kb : Bool) (vb : Value) (r p q : Know) → Says kc vc r → Says ka va p → Says kb vb q →
    Says (kc && (if is_yes vc then ka else kb)) (if is_yes vc then va else vb) (choose_of r p q)
choose_says kc vc ka va kb vb Unknown p q hc ha hb = rw hc refl
choose_says kc vc ka va kb vb (Known c) p q hc ha hb = rw (hc.0, hc.1) (side (is_yes c))
  where
    side : (b : Bool) → Says (if b then ka else kb) (if b then va else vb) (if b then p else q)
    side true = ha
    side false = hb
choose_says kc vc ka va kb vb Clash p q hc ha hb = tt
