-- Spots that are appended, as views have them; and their nets as the circuit grows.
use Rattle.std.proofs.Common.{ℕ, ◌≡◌, List, [], ◌∷◌, ◌++◌, map, refl, sym, ap, ◌∙◌}
use Rattle.qz_nets.specs.declared.net.NetId.{NetId}
use Rattle.qz_syntax.specs.declared.places.Mark.{Mark}
use Rattle.qz_meaning.specs.Landings.{At}
use Rattle.qz_control.specs.declared.circuit.Circuit.{Circuit}
use Rattle.qz_control.specs.Circuits.{View, known, Grows, IsBool}
use Rattle.qz_control.specs.Guarded.{keeps_where}
use Rattle.qz_moves.specs.declared.spots.NetSpot.{NetSpot}
use Rattle.qz_moves.specs.declared.spots.Rest.TheVariants as rest
use Rattle.qz_moves.specs.Appended.{read_spot, read_spots, kept, AreTests}

read-append : (v : View) (xs ys : List NetSpot) → read_spots v (xs ++ ys) ≡ read_spots v xs ++ read_spots v ys
read-append v [] ys = refl
read-append v (x ∷ xs) ys = ap (λ more. read_spot v x ∷ more) (read-append v xs ys)

read-kept : (v : View) (locals : List ℕ) (m : Mark) (when : NetId) → read_spots v (kept locals m when) ≡ keeps_where locals m (known v when)
read-kept v [] m when = refl
read-kept v (local ∷ locals) m when = ap (λ more. read_spot v (record { rest = rest.Keeps local m; when = when }) ∷ more) (read-kept v locals m when)

-- what is read after control rests at a place
pub rested : (v : View) (old new : List NetSpot) (place : ℕ) (when : NetId) → new ≡ old ++ record { rest = rest.At place; when = when } ∷ []
    → read_spots v new ≡ read_spots v old ++ (At place, known v when) ∷ []
rested v old new place when is = ap (read_spots v) is ∙ read-append v old (record { rest = rest.At place; when = when } ∷ [])

-- what is read after a scope is kept or entered
pub scoped : (v : View) (old new : List NetSpot) (locals : List ℕ) (m : Mark) (when : NetId) → new ≡ old ++ kept locals m when
    → read_spots v new ≡ read_spots v old ++ keeps_where locals m (known v when)
scoped v old new locals m when is =
    ap (read_spots v) is ∙ read-append v old (kept locals m when) ∙ ap (λ more. read_spots v old ++ more) (read-kept v locals m when)

pub tests_grow : (a b : Circuit) (spots : List NetSpot) → Grows a b → AreTests a spots → AreTests b spots
tests_grow a b [] grows tests = tt
tests_grow a b (one ∷ others) grows tests = (grows.bools one.when tests.0, tests_grow a b others grows tests.1)

tests-append : (c : Circuit) (xs ys : List NetSpot) → AreTests c xs → AreTests c ys → AreTests c (xs ++ ys)
tests-append c [] ys first second = second
tests-append c (x ∷ xs) ys first second = (first.0, tests-append c xs ys first.1 second)

tests-kept : (c : Circuit) (locals : List ℕ) (m : Mark) (when : NetId) → IsBool c when → AreTests c (kept locals m when)
tests-kept c [] m when is = tt
tests-kept c (local ∷ locals) m when is = (is, tests-kept c locals m when is)

pub tests_rested : (c : Circuit) (old new : List NetSpot) (place : ℕ) (when : NetId) → new ≡ old ++ record { rest = rest.At place; when = when } ∷ []
    → IsBool c when → AreTests c old → AreTests c new
tests_rested c old new place when is test before = rw is (tests-append c old _ before (test, tt))

pub tests_scoped : (c : Circuit) (old new : List NetSpot) (locals : List ℕ) (m : Mark) (when : NetId) → new ≡ old ++ kept locals m when
    → IsBool c when → AreTests c old → AreTests c new
tests_scoped c old new locals m when is test before = rw is (tests-append c old _ before (tests-kept c locals m when test))
