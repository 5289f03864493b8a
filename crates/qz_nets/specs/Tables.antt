-- A table of nets: what its numbers are, and what stays as it grows.
use Rattle.std.specs.Prelude.{ℕ, ◌≡◌, List, take, slice_get, Option, Some}
use Rattle.std.specs.Option.{option_map}
use Rattle.qz_values.specs.declared.Ty.{Ty}
use Rattle.qz_nets.specs.declared.net.Net.{Net}
use Rattle.qz_nets.specs.Nets.{net_type}

-- the net of a number, and its type
abbrev pub net_at : List (Net × Ty) → ℕ → Option Net
net_at entries n = option_map (λ entry. entry.0) (slice_get entries n)

abbrev pub type_at : List (Net × Ty) → ℕ → Option Ty
type_at entries n = option_map (λ entry. entry.1) (slice_get entries n)

-- each net has the type that the nets before it give it, and stands there once
pub record AreNets (entries : List (Net × Ty)) : Type 0 where
  pub typed : (n : ℕ) (net : Net) (ty : Ty) → slice_get entries n ≡ Some (net, ty) → net_type (type_at (take n entries)) net ≡ Some ty
  pub once : (m n : ℕ) (net : Net) → net_at entries m ≡ Some net → net_at entries n ≡ Some net → m ≡ n
