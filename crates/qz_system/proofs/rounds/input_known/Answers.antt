use Rattle.std.proofs.Common.{List, ap, sym, ◌∙◌}
use Rattle.std.specs.Prelude.{slice_get}
use Rattle.qz_syntax.specs.declared.declarations.Port.{Port}
use Rattle.qz_system.proofs.FitLemmas.{input_value}
use Rattle.qz_system.proofs.rounds.input_known.Goals as goal

pub unwrap-requires : goal.unwrap-requires
unwrap-requires c =
    c.new.ensures.some.1
    (rw (c.bits_of.ensures, c.deref.ensures.value)
    (input_value c.args.parts.now c.args.v.now c.requires.fits c.args.input c.in-Some.port.now
    (ap (λ (ports : List Port). slice_get ports c.args.input) (sym c.as_slice.ensures) ∙ sym c.in-Some.ensures)))
