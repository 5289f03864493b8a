use Rattle.std.proofs.Common.{◌≡◌, ◌++◌, ◌∷◌, [], map, ap, sym, ◌∙◌, append_assoc}
use Rattle.std.proofs.lemmas.List.{map-append}
use Rattle.qz_trace.specs.Lines.{parts_of}
use Rattle.qz_trace.proofs.PartLemmas.{parts_cut, parts_last}
use Rattle.qz_trace.proofs.fields.split.Goals as goal

pub loop-field-preserved : goal.loop-field-preserved
loop-field-preserved c =
    let at = c.in-Some.ensures.some in
    let parts : parts_of 32 c.loop-field.rest.now ≡ c.in-Some.field.now ∷ parts_of 32 c.in-Some.after.now =
    ap (parts_of 32) at.joined ∙ parts_cut 32 c.in-Some.field.now c.in-Some.after.now at.first in
    ap (λ l. map (λ field. field.now) l ++ parts_of 32 c.in-Some.after.now) c.in_ok-push.ensures.items
    ∙ (ap (λ l. l ++ parts_of 32 c.in-Some.after.now) (map-append (λ field. field.now) c.loop-field.fields.items (c.in-Some.field ∷ []))
    ∙ (append_assoc (map (λ field. field.now) c.loop-field.fields.items) (c.in-Some.field.now ∷ []) (parts_of 32 c.in-Some.after.now)
    ∙ (ap (λ l. map (λ field. field.now) c.loop-field.fields.items ++ l) (sym parts) ∙ c.loop-field.invariant)))

pub returns : goal.returns
returns c =
    let parts : parts_of 32 c.loop-field.rest.now ≡ c.loop-field.rest.now ∷ [] = parts_last 32 c.loop-field.rest.now c.in_default.ensures.none in
    ap (map (λ field. field.now)) c.in_ok-push-2.ensures.items
    ∙ (map-append (λ field. field.now) c.loop-field.fields.items (c.loop-field.rest ∷ [])
    ∙ (ap (λ l. map (λ field. field.now) c.loop-field.fields.items ++ l) (sym parts) ∙ c.loop-field.invariant))
