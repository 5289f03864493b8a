use Rattle.std.proofs.Common.{◌≡◌, ℕ, List, false, Some, None, string_bytes, sym, ap, ◌∙◌}
use Rattle.std.specs.Str.{chars}
use Rattle.std.specs.Prelude.{String}
use Rattle.std.proofs.lemmas.Bool.{iff_false}
use Rattle.std.proofs.lemmas.Str.{IsUtf8-string_bytes, scalars-chars}
use Rattle.qz_syntax.specs.Spelling.{is_name, IsName}
use Rattle.qz_vread.specs.Unspelling.{unspelled}
use Rattle.qz_vread.proofs.Options.{at_none, at_some}
use Rattle.qz_vread.proofs.NamesRead.{no_name, unnamed, named_read, misspelled}
use Rattle.qz_vread.proofs.names.name.Goals.{then-is_spelled, else-is_spelled}
use Rattle.qz_vread.proofs.names.name.Goals as goal

abbrev Nothing : List ℕ → Type 0
Nothing bytes = unspelled bytes ≡ None

abbrev Stands : {Z : Type 0} → List ℕ → String Z → Type 0
Stands bytes text = unspelled bytes ≡ Some (chars (string_bytes text))

abbrev NoName : List ℕ → Type 0
NoName text = is_name (chars text) ≡ false

abbrev Name : List ℕ → List ℕ → Type 0
Name text name = (name ≡ chars text) × IsName name

pub returns-in_default : goal.returns-in_default
returns-in_default c = no_name c.args.bytes.now (at_none (Nothing c.args.bytes.now) (Stands c.args.bytes.now) c.in_ok-text.field-0 c.in_default.is c.in_ok-text.ensures)

pub returns-in_default-2 : goal.returns-in_default-2
returns-in_default-2 c =
    let some = at_some (Nothing c.args.bytes.now) (Stands c.args.bytes.now) c.in_ok-text.field-0 c.in-Some.text c.in-Some.is c.in_ok-text.ensures in
    let other = at_none (NoName c.as_str.result.now) (Name c.as_str.result.now) c.in_ok-name.field-0 c.in_default-2.is c.in_ok-name.ensures in
    unnamed c.args.bytes.now (chars (string_bytes c.in-Some.text)) some (ap (λ bs. is_name (chars bs)) (sym c.as_str.ensures.value) ∙ other)

pub returns : goal.returns
returns c =
    let text = string_bytes c.in-Some.text in
    let some = at_some (Nothing c.args.bytes.now) (Stands c.args.bytes.now) c.in_ok-text.field-0 c.in-Some.text c.in-Some.is c.in_ok-text.ensures in
    let named = at_some (NoName c.as_str.result.now) (Name c.as_str.result.now) c.in_ok-name.field-0 c.in-Some-2.name c.in-Some-2.is c.in_ok-name.ensures in
    let same : c.in-Some-2.name ≡ chars text = named.0 ∙ ap chars c.as_str.ensures.value in
    elim c.if-is_spelled.branch [
      | then-is_spelled w ↦
          rw w.result-is
          (named_read c.args.bytes.now (chars text) c.in-Some-2.name some (scalars-chars text (IsUtf8-string_bytes c.in-Some.text)) same named.1 (c.in_ok-is_spelled.ensures.0 w.if-is_spelled.true))
      | else-is_spelled w ↦
          rw w.result-is (misspelled c.args.bytes.now (chars text) c.in-Some-2.name some same (iff_false c.in_ok-is_spelled.ensures w.if-is_spelled.false))
    ]
