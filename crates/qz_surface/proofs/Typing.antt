-- The nets of writes keep their types where the circuit grows and where writes are appended.
use Rattle.std.proofs.Common.{◌≡◌, true, List, [], ◌∷◌, ◌++◌, Option, Some, None, IsSome, refl, sym, ap, ◌∙◌}
use Rattle.std.proofs.lemmas.Bool.{false≢true}
use Rattle.qz_values.specs.declared.Ty.{Ty}
use Rattle.qz_values.proofs.Typed.{same-is_same_type}
use Rattle.qz_nets.specs.Readings.{type_in}
use Rattle.qz_syntax.specs.declared.modules.Module.{Module}
use Rattle.qz_syntax.specs.Typing.{agree}
use Rattle.qz_control.specs.declared.circuit.Circuit.{Circuit}
use Rattle.qz_control.specs.Circuits.{Grows, IsBool}
use Rattle.qz_control.specs.Typed.{declared_type}
use Rattle.qz_surface.specs.declared.writes.NetWrite.{NetWrite}
use Rattle.qz_surface.specs.Written.{IsWrite, AreWrites}

-- two types that agree are one
agreed : (s t : Option Ty) → agree s t ≡ true → (ty : Ty) × ((s ≡ Some ty) × (t ≡ Some ty))
agreed (Some s) (Some t) h = (s, (refl, ap (λ (u : Ty). Some u) (sym (same-is_same_type s t h))))
agreed (Some s) None h = absurd (false≢true h)
agreed None t h = absurd (false≢true h)

pub agree_some : (s t : Option Ty) → agree s t ≡ true → IsSome t
agree_some (Some s) (Some t) h = refl
agree_some (Some s) None h = absurd (false≢true h)
agree_some None t h = absurd (false≢true h)

pub writes_grow : (m : Module) (a b : Circuit) (writes : List NetWrite) → Grows a b → AreWrites m a writes → AreWrites m b writes
writes_grow m a b [] grows typed = tt
writes_grow m a b (w ∷ others) grows typed = (
  record {
    guard = grows.bools w.guard typed.0.guard;
    ty = typed.0.ty;
    declared = typed.0.declared;
    value = grows.types w.value typed.0.ty typed.0.value;
  },
  writes_grow m a b others grows typed.1,
)

writes-append : (m : Module) (c : Circuit) (old : List NetWrite) (w : NetWrite) → IsWrite m c w → AreWrites m c old → AreWrites m c (old ++ w ∷ [])
writes-append m c [] w is typed = (is, tt)
writes-append m c (x ∷ others) w is typed = (typed.0, writes-append m c others w is typed.1)

-- one write more, whose value had its type before the circuit grew
pub typed_more : (m : Module) (before c : Circuit) (old new : List NetWrite) (w : NetWrite) (t : Option Ty) → new ≡ old ++ w ∷ []
    → Grows before c → type_in before.table w.value.0 ≡ t → agree (declared_type m w.target) t ≡ true → IsBool c w.guard
    → AreWrites m c old → AreWrites m c new
typed_more m before c old new w t is grows value agrees guard typed =
    let one = agreed (declared_type m w.target) t agrees in
    rw is (writes-append m c old w (record { guard = guard; ty = one.0; declared = one.1.0; value = grows.types w.value one.0 (value ∙ one.1.1) }) typed)
