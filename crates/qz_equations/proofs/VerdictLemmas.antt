-- Verdicts in nets.
use Rattle.std.proofs.Common.{◌≡◌, Bool, true, false, not, ◌&&◌, ◌||◌, refl, rules, if◌then◌else◌}
use Rattle.qz_values.specs.declared.Ty.{Ty}
use Rattle.qz_values.specs.declared.Value.{Value}
use Rattle.qz_values.specs.declared.Know.{Know}
use Rattle.qz_values.specs.Values.{is_yes, truth_of}
use Rattle.qz_syntax.specs.declared.declarations.Class.{Class}
use Rattle.qz_syntax.specs.declared.places.Store.{Store}
use Rattle.qz_meaning.specs.Verdicts.{Verdict, Nobody, Open, One, Torn, join, verdict_of_one, is_same_value}
use Rattle.qz_meaning.specs.Settling.{with_pending, unwritten, settled}
use Rattle.qz_wires.specs.Rails.{Says}
use Rattle.qz_equations.specs.Tallies.{SaysVerdict}

pub joined_says : (d : Bool) (v0 : Value) (i kg : Bool) (vg : Value) (kq : Bool) (vq : Value) (k : Verdict) (p q : Know)
    → SaysVerdict d v0 i k → Says kg vg p → Says kq vq q
    → SaysVerdict (d || (kg && (is_yes vg && kq))) (if d then v0 else vq) (i && (kg && not (is_yes vg))) (join k (verdict_of_one p q))
joined_says d v0 i kg vg kq vq k p q hk hp hq = search rules

-- a verdict before another
both_say : (v : Value) (e : Bool) (w : Value) (j : Bool) (k : Verdict) → SaysVerdict e w j k → SaysVerdict true v false (join (One v) k)
both_say v e w j Nobody h = (refl, refl)
both_say v e w j Open h = (refl, refl)
both_say v e w j (One u) h = by (is_same_value v u)
  where
    by : (b : Bool) → SaysVerdict true v false (if b then One v else Torn)
    by true = (refl, refl)
    by false = tt
both_say v e w j Torn h = tt

pub pending_says : (store : Store) (d e : Bool) (v w : Value) (j : Bool) (k : Verdict) → d ≡ store.pending → v ≡ store.value → SaysVerdict e w j k
    → SaysVerdict (d || e) (if d then v else w) (not d && j) (with_pending store k)
pending_says store d e v w j k mark value h = rw (mark, value) (by store.pending)
  where
    by : (b : Bool) → SaysVerdict (b || e) (if b then store.value else w) (not b && j) (if b then join (One store.value) k else k)
    by true = both_say store.value e w j k h
    by false = h

pub settled_says : (class : Class) (ty : Ty) (store : Store) (d : Bool) (v : Value) (i : Bool) (otherwise : Value) (k : Verdict)
    → otherwise ≡ unwritten class ty store → SaysVerdict d v i k
    → Says (d || i) (if d then v else otherwise) (settled class ty store k)
settled_says class ty store d v i otherwise Nobody is h = rw (h.0, h.1) (refl, is)
settled_says class ty store d v i otherwise Open is h = rw (h.0, h.1) refl
settled_says class ty store d v i otherwise (One u) is h = rw h.0 (refl, h.1)
settled_says class ty store d v i otherwise Torn is h = tt

pub truth_is : (b : Bool) → is_yes (truth_of b) ≡ b
truth_is true = refl
truth_is false = refl
