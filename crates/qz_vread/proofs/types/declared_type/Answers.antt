use Rattle.std.proofs.Common.{◌≡◌, ℕ, List, ◌++◌, Option, Some, None, MatchOption, codes, Bor}
use Rattle.qz_values.specs.declared.Ty.{Ty}
use Rattle.qz_vread.specs.Reading.{HasType, IsUntyped, IsRange, IsNoRange}
use Rattle.qz_vread.proofs.Ranges.{range_typed, unranged}
use Rattle.qz_vread.proofs.types.declared_type.Goals as goal

after_bracket : (bytes range : List ℕ) → bytes ≡ codes "[" ++ range → (found : Option (Ty × Bor (List ℕ))) → MatchOption found (IsNoRange range) (λ read. IsRange range read.0 read.1.now)
    → MatchOption found (IsUntyped bytes) (λ read. HasType bytes read.0 read.1.now)
after_bracket bytes range whole None none = unranged bytes range whole none
after_bracket bytes range whole (Some read) is = range_typed bytes range read.0 read.1.now whole is

pub returns-in-Some : goal.returns-in-Some
returns-in-Some c = after_bracket c.args.bytes.now c.in-Some.range.now c.in-Some.ensures c.vector.result c.vector.ensures
