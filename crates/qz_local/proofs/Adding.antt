-- A spot that is joined to what spots said so far.
use Rattle.std.proofs.Common.{◌≡◌, Bool, true, false, cond, Option, Some, None, refl, sym, ap, subst, ◌∙◌, if◌then◌else◌, unwrap_or}
use Rattle.indexmap.specs.IndexMap.{Updates}
use Rattle.qz_values.specs.declared.Know.TheVariants.{Known}
use Rattle.qz_values.specs.Values.{no}
use Rattle.qz_values.specs.Knowledge.{either}
use Rattle.qz_nets.specs.declared.net.NetId.{NetId}
use Rattle.qz_control.specs.declared.circuit.Circuit.{Circuit}
use Rattle.qz_control.specs.Circuits.{View, known, Grows, IsBool}
use Rattle.qz_moves.specs.declared.spots.Rest.{Rest}
use Rattle.qz_moves.specs.Appended.{spot_of}
use Rattle.qz_moves.specs.contracts.spots.RestPartialEq.TheImpl.{eq-value}
use Rattle.qz_local.specs.declared.nexts.Nexts.{Nexts}
use Rattle.qz_local.specs.Joined.{says}
use Rattle.qz_local.specs.Nets.{net_of, known_or_no, next_known, HasBools}
use Rattle.qz_local.proofs.SameRests.{says_test, same_rest}

-- what is known of the net so far, where that of what is never so is known to be false
pub known_before : (v : View) (never : NetId) (o : Option NetId) → known v never ≡ Known no → known v (unwrap_or o never) ≡ known_or_no v o
known_before v never None is = is
known_before v never (Some id) is = refl

pub bool_before : (c : Circuit) (never : NetId) (o : Option NetId) → IsBool c never → ((id : NetId) → o ≡ Some id → IsBool c id) → IsBool c (unwrap_or o never)
bool_before c never None is all = is
bool_before c never (Some id) is all = all id refl

module _ (old new : Nexts) (key : Rest) (id : NetId) (updates : Updates (eq-value).it old.nets new.nets key (Some id)) where
  found : (one : Rest) (b : Bool) → (eq-value).it key one ≡ b → net_of new one ≡ cond b (Some id) (net_of old one)
  found one b e = updates.0 one ∙ ap (λ t. cond t (Some id) (net_of old one)) e

  bool_of : (c : Circuit) → HasBools c old → IsBool c id → (one : Rest) (n : NetId) (b : Bool) → (eq-value).it key one ≡ b → net_of new one ≡ Some n → IsBool c n
  bool_of c all is one n true e h = let same : id ≡ n = (let f = found one true e in cc) in subst (IsBool c) same is
  bool_of c all is one n false e h = all.each one n (sym (found one false e) ∙ h)

  pub bools_added : (c : Circuit) → HasBools c old → IsBool c id → HasBools c new
  bools_added c all is = record { each = λ one n h. bool_of c all is one n ((eq-value).it key one) refl h }

  pub added : (v : View) (never when : NetId) → known v never ≡ Known no
      → known v id ≡ either (known v (unwrap_or (net_of old key) never)) (known v when) → (one : Rest)
      → next_known v new one ≡ (if says one (spot_of key) then either (next_known v old one) (known v when) else next_known v old one)
  added v never when none is one = by ((eq-value).it key one) refl
    where
      by : (b : Bool) → (eq-value).it key one ≡ b
          → next_known v new one ≡ (if says one (spot_of key) then either (next_known v old one) (known v when) else next_known v old one)
      by true e =
          rw (says_test one key, e)
          (ap (known_or_no v) (found one true e) ∙ is
          ∙ ap (λ k. either k (known v when)) (known_before v never (net_of old key) none ∙ ap (λ r. next_known v old r) (same_rest key one e)))
      by false e = rw (says_test one key, e) (ap (known_or_no v) (found one false e))

pub bools_grow : (a b : Circuit) (all : Nexts) → Grows a b → HasBools a all → HasBools b all
bools_grow a b all grows bools = record { each = λ one id h. grows.bools id (bools.each one id h) }
