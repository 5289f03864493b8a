-- What a valuation of a system says of a configuration and inputs of the program.
use Rattle.std.specs.Prelude.{◌≡◌, ℕ, Bool, map, Option, Some, None}
use Rattle.qz_values.specs.Values.{bits_of}
use Rattle.qz_syntax.specs.declared.places.Store.{Store}
use Rattle.qz_meaning.specs.Programs.{Program}
use Rattle.qz_meaning.specs.Configurations.{Configuration}
use Rattle.qz_meaning.specs.Valuations.{Valuation as OfProgram, is_started, rests_at, stores_in_order}
use Rattle.qz_system.specs.declared.valuation.Valuation.{Valuation}
use Rattle.qz_system.specs.Valuations.{no_store}
use Rattle.qz_system.specs.Nexts.{as_bits}

-- a store as bits; a variable that doesn't exist has none
abbrev pub stored_bits : Option Store → Bool × ℕ
stored_bits None = no_store
stored_bits (Some store) = as_bits store

-- the place and the stores are the configuration's
pub record EncodesPlace (p : Program) (c : Configuration) (v : Valuation) : Type 0 where
  pub started : v.started ≡ is_started c.place
  pub places : v.places.items ≡ map (rests_at c.place) p.places
  pub stores : v.stores.items ≡ map stored_bits (stores_in_order p c)

-- and the inputs are the row's
pub record Encodes (p : Program) (at : OfProgram) (v : Valuation) : Type 0 where
  pub place : EncodesPlace p at.configuration v
  pub inputs : v.inputs.items ≡ map bits_of at.inputs
