-- Nets over earlier nets: which have a type, and what is known of one, given what is known of leaves and of those.
use Rattle.std.specs.Prelude.{ℕ, ◌^◌, ◌&&◌, nat_lt, Option, Some, None, if◌then◌else◌}
use Rattle.std.specs.Option.{option_and_then}
use Rattle.qz_values.specs.declared.Ty.{Ty}
use Rattle.qz_values.specs.declared.Value.{Value}
use Rattle.qz_values.specs.declared.Know.{Know}
use Rattle.qz_values.specs.declared.Know.TheVariants.{Known}
use Rattle.qz_values.specs.Types.{width_of, is_type}
use Rattle.qz_values.specs.Values.{type_of, bits_of}
use Rattle.qz_values.specs.Knowledge.{apply1_of, apply2_of, choose_of, bit_of, slice_of, concat_of}
use Rattle.qz_values.specs.Tables.{type1_of, type2_of, choose_type, bit_type, slice_type, concat_type}
use Rattle.qz_nets.specs.declared.net.Net.{Net}
use Rattle.qz_nets.specs.declared.net.Net.TheVariants as net

-- a constant is a value of its type
abbrev pub constant_type : Value → Option Ty
constant_type v = if is_type (type_of v) && nat_lt (bits_of v) (2 ^ width_of (type_of v)) then Some (type_of v) else None

-- a leaf is of a type that there is
abbrev pub leaf_type : Ty → Option Ty
leaf_type t = if is_type t then Some t else None

-- the type of a net, given those of the nets by their numbers; `None`: an operand is no net, or doesn't fit
abbrev pub net_type : (ℕ → Option Ty) → Net → Option Ty
net_type types (net.Const value) = constant_type value
net_type types (net.Leaf number ty) = leaf_type ty
net_type types (net.Un op a) = option_and_then (λ s. type1_of op s) (types a.0)
net_type types (net.Bin op a b) = option_and_then (λ s. option_and_then (λ t. type2_of op s t) (types b.0)) (types a.0)
net_type types (net.Choose c a b) =
    option_and_then (λ r. option_and_then (λ s. option_and_then (λ t. choose_type r s t) (types b.0)) (types a.0)) (types c.0)
net_type types (net.Bit a index) = option_and_then (λ s. bit_type s index) (types a.0)
net_type types (net.Slice a high low) = option_and_then (λ s. slice_type s high low) (types a.0)
net_type types (net.Concat a b) = option_and_then (λ s. option_and_then (λ t. concat_type s t) (types b.0)) (types a.0)

-- what is known of a net, given what is known of each leaf and of each net by its number
abbrev pub net_know : (ℕ → Know) → (ℕ → Know) → Net → Know
net_know leaf know (net.Const value) = Known value
net_know leaf know (net.Leaf number ty) = leaf number
net_know leaf know (net.Un op a) = apply1_of op (know a.0)
net_know leaf know (net.Bin op a b) = apply2_of op (know a.0) (know b.0)
net_know leaf know (net.Choose c a b) = choose_of (know c.0) (know a.0) (know b.0)
net_know leaf know (net.Bit a index) = bit_of (know a.0) index
net_know leaf know (net.Slice a high low) = slice_of (know a.0) high low
net_know leaf know (net.Concat a b) = concat_of (know a.0) (know b.0)
