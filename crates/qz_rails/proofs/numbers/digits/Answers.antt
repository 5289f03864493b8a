use Rattle.std.proofs.Common.{rules, ◌∙◌, ◌++◌, ◌+◌, ◌-◌, ◌/◌, [], ◌∷◌, ap, sym, append_assoc, arith}
use Rattle.std.proofs.lemmas.List.{map-append}
use Rattle.qz_dd.specs.declared.node.DdId.{DdId}
use Rattle.qz_rails.specs.Bits.{bits_in, digits_of}
use Rattle.qz_rails.proofs.Digits.{digits_step}
use Rattle.qz_rails.proofs.numbers.digits.Goals as goal

pub loop-i-preserved : goal.loop-i-preserved
loop-i-preserved c = record {
  below = search rules;
  size = search rules;
  means = λ reading reads.
      let later = digits_of (c.args.width - (c.loop-i.i + 1)) (c.loop-i.rest / 2) in
      let so_far = bits_in reading c.loop-i.all.items in
      ap (λ bits. bits_in reading bits ++ later) c.in_ok-push.ensures.items
      ∙ ap (λ bits. bits ++ later) (map-append (λ (d : DdId). reading.values d.0) c.loop-i.all.items (c.constant.result ∷ []))
      ∙ append_assoc so_far (reading.values c.constant.result.0 ∷ []) later
      ∙ ap (λ bit. so_far ++ (bit ∷ later)) (c.constant.ensures.means reading reads)
      ∙ ap (λ bits. so_far ++ bits) (sym (digits_step c.args.width c.loop-i.i c.loop-i.rest (omega arith)))
      ∙ c.loop-i.invariant.means reading reads;
}
