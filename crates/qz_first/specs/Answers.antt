-- Why bytes have no circuit.
use Rattle.std.specs.Prelude.{ℕ, List, encode_utf8_all}
use Rattle.qz_first.specs.declared.circuit_text.NoText.{NoText}
use Rattle.qz_first.specs.declared.circuit_text.NoText.TheVariants.{NotBuilt, InstantLoop, Memory}
use Rattle.qz_first.specs.Built.{IsNotBuilt, IsInstant}

-- what stands against the bytes, where a module of this name is asked for
abbrev pub StandsAgainst : List ℕ → List ℕ → NoText → Type 0
StandsAgainst name bytes NotBuilt = IsNotBuilt name bytes
StandsAgainst name bytes (InstantLoop who number) = IsInstant name bytes number (encode_utf8_all who)
StandsAgainst name bytes Memory = Unit {0}
