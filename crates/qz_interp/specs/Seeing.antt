-- The interpreter's verdicts, as the definitions of meaning have them.
use Rattle.qz_meaning.specs.Verdicts.{Verdict as OfMeaning, Nobody, Open, One, Torn}
use Rattle.qz_interp.specs.declared.verdicts.Verdict.{Verdict}
use Rattle.qz_interp.specs.declared.verdicts.Verdict.TheVariants as verdict

abbrev pub verdict_seen : Verdict → OfMeaning
verdict_seen verdict.Nobody = Nobody
verdict_seen verdict.Open = Open
verdict_seen (verdict.One value) = One value
verdict_seen verdict.Torn = Torn
