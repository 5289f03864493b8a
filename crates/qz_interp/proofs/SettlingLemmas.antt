-- Settling by a default is settling by the type whose default it is.
use Rattle.std.proofs.Common.{refl}
use Rattle.qz_syntax.specs.declared.declarations.Class.TheVariants.{Event, Mem}
use Rattle.qz_meaning.specs.Verdicts.{Nobody, Open, One, Torn}
use Rattle.qz_interp.specs.Slots.{SettlesAsDefined}

pub settled_as_defined : SettlesAsDefined
settled_as_defined Event t store Nobody = refl
settled_as_defined Mem t store Nobody = refl
settled_as_defined class t store Open = refl
settled_as_defined class t store (One v) = refl
settled_as_defined class t store Torn = refl
