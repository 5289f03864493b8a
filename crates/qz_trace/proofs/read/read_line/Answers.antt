use Rattle.std.proofs.Common.{◌≡◌, [], map, length, sym, ap, ◌∙◌}
use Rattle.std.proofs.lemmas.Bool.{both_ways}
use Rattle.std.proofs.lemmas.List.{length-map}
use Rattle.qz_trace.specs.Lines.{parts_of}
use Rattle.qz_trace.proofs.FieldLemmas.{line_answer, fields_are}
use Rattle.qz_trace.proofs.read.read_line.Goals as goal

pub returns : goal.returns
returns c =
    let types = c.args.types.now in
    let line = c.args.line.now in
    let fields = map (λ field. field.now) c.as_slice.result.now in
    let split : map (λ field. field.now) c.split.new.fields.items ≡ parts_of 32 line = c.in_ok-split.ensures in
    let parts : parts_of 32 line ≡ fields = sym split ∙ ap (map (λ field. field.now)) (sym c.as_slice.ensures.value) in
    let some : ((types ≡ []) × (line ≡ []) → ⊥) = λ both. both_ways c.is_empty_row.result c.if-is_empty_row.false (c.is_empty_row.ensures.1 both) in
    let count : length fields ≡ length types =
    length-map c.as_slice.result.now (λ field. field.now) ∙ (c.as_slice.ensures.len ∙ (sym c.len.ensures ∙ c.if-len-types.false)) in
    line_answer types line fields c.args.values.now.items c.read_fields.result c.read_fields.new.values.items
    parts (fields_are types line some ∙ parts) count c.read_fields.ensures
