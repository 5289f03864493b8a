use Rattle.std.proofs.Common.{◌≡◌, [], map, length, drop, ◌+◌, get_or, Result, Ok, Err, IsErrAnd, sym, ap, ◌∙◌, subst}
use Rattle.std.proofs.lemmas.List.{length-map}
use Rattle.qz_values.specs.declared.Ty.TheVariants.{Bool as Truth}
use Rattle.qz_trace.specs.declared.faults.BadLine.{BadLine}
use Rattle.qz_trace.specs.declared.faults.BadLine.TheVariants.{Fault}
use Rattle.qz_trace.specs.Reading.{IsFieldAnswer, IsFieldsAnswer}
use Rattle.qz_trace.proofs.FieldLemmas.{fields_at, fault_at, no_fields, get_map}
use Rattle.qz_trace.proofs.read.read_fields.Goals as goal

err_is : (r : Result Unit BadLine) (x : BadLine) → IsErrAnd r (λ e. e ≡ x) → r ≡ Err x
err_is (Ok u) x is = absurd is
err_is (Err e) x is = ap Err is

pub returns-in_err-number : goal.returns-in_err-number
returns-in_err-number c =
    let types = c.args.types.now in
    let fields = map (λ field. field.now) c.args.fields.now in
    let kind = c.in_err-number.field-0.0 in
    let count : length fields ≡ length types = length-map c.args.fields.now (λ field. field.now) ∙ c.requires.count in
    let field = get_map (λ field. field.now) c.args.fields.now c.loop-at.at (record { ref_ptr = (0, 0); now = [] }) in
    let fault : IsFieldAnswer (get_or types c.loop-at.at Truth) (get_or fields c.loop-at.at []) (Err kind) =
    subst (λ f. IsFieldAnswer (get_or types c.loop-at.at Truth) f (Err kind)) (sym field)
    (subst (IsFieldAnswer (get_or types c.loop-at.at Truth) _) c.in_err-number.was c.number_of.ensures) in
    subst (λ r. IsFieldsAnswer types fields c.args.values.now.items r c.loop-at.values.items)
    (sym (err_is c.from_residual.result (Fault kind) c.from_residual.ensures.1))
    (c.loop-at.invariant (Err (Fault kind)) c.loop-at.values.items
    (fault_at types fields c.loop-at.at Truth [] c.loop-at.values.items kind c.loop-at.values.items c.loop-at-test.true count fault))

pub loop-at-preserved : goal.loop-at-preserved
loop-at-preserved c result new later =
    let types = c.args.types.now in
    let fields = map (λ field. field.now) c.args.fields.now in
    let n = c.in_ok-number.number in
    let count : length fields ≡ length types = length-map c.args.fields.now (λ field. field.now) ∙ c.requires.count in
    let field = get_map (λ field. field.now) c.args.fields.now c.loop-at.at (record { ref_ptr = (0, 0); now = [] }) in
    let right : IsFieldAnswer (get_or types c.loop-at.at Truth) (get_or fields c.loop-at.at []) (Ok n) =
    subst (λ f. IsFieldAnswer (get_or types c.loop-at.at Truth) f (Ok n)) (sym field)
    (subst (IsFieldAnswer (get_or types c.loop-at.at Truth) _) c.in_ok-number.was c.number_of.ensures) in
    c.loop-at.invariant result new
    (fields_at types fields c.loop-at.at Truth [] c.loop-at.values.items n result new c.requires.types c.loop-at-test.true count right
    (subst (λ l. IsFieldsAnswer (drop (c.loop-at.at + 1) types) (drop (c.loop-at.at + 1) fields) l result new) c.in_ok-push.ensures.items later))

pub returns : goal.returns
returns c =
    let types = c.args.types.now in
    let fields = map (λ field. field.now) c.args.fields.now in
    let count : length fields ≡ length types = length-map c.args.fields.now (λ field. field.now) ∙ c.requires.count in
    c.loop-at.invariant (Ok tt) c.loop-at.values.items (no_fields types fields c.loop-at.at c.loop-at.values.items c.loop-at-test.false count)
