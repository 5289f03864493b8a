use Rattle.std.proofs.Common.{◌∙◌, List, ap, ap₂, arith}
use Rattle.std.specs.Prelude.{if◌then◌else◌}
use Rattle.qz_dd.specs.declared.node.DdId.{DdId}
use Rattle.qz_rails.specs.Bits.{bits_in, choices}
use Rattle.qz_meaning.specs.Scenes.{default_store}
use Rattle.qz_system.specs.Valuations.{store_of}
use Rattle.qz_system.specs.Rounds.{stored}
use Rattle.qz_symbolic.proofs.Growing.{views_before}
use Rattle.qz_symbolic.proofs.SettledRails.{begun, bits_long}
use Rattle.qz_symbolic.proofs.settling.begin.Goals as goal

pub returns-clause-says : goal.returns-clause-says
returns-clause-says c = λ reading v views.
    let second = views_before c.apply.new.self c.chosen.new.diagrams c.args.parts.now v reading c.in_ok-bits.ensures.extends views in
    let first = views_before c.args.diagrams.now c.apply.new.self c.args.parts.now v reading c.in_ok-pending.ensures.extends second in
    let xs = bits_long reading c.args.stored.now.bits.items in
    let ds = bits_long reading c.in_ok-none.none.items in
    let width = c.requires.stored.fits.width in
    let size = c.in_ok-none.ensures.size in
    begun c.args.cell.now.ty (reading.values c.keeps-keeps.result.0) (reading.values c.args.stored.now.pending.0) (reading.values c.in_ok-pending.pending.0)
    (bits_in reading c.args.stored.now.bits.items) (bits_in reading c.in_ok-none.none.items) (bits_in reading c.in_ok-bits.bits.items) (store_of v c.args.one.now.cell)
    (omega (arith, xs, ds, width, size)) (c.in_ok-none.ensures.means reading first.reads)
    (c.requires.stored.pending reading v first) (c.requires.stored.bits reading v first)
    (c.in_ok-pending.ensures.means reading second.reads)
    (c.in_ok-bits.ensures.means reading views.reads
    ∙ ap₂ (λ (a b : List DdId). choices (reading.values c.keeps-keeps.result.0) (bits_in reading a) (bits_in reading b)) c.deref.ensures.value c.deref-2.ensures.value)
    ∙ ap (λ k. if k then stored c.args.cell.now.ty (store_of v c.args.one.now.cell) else default_store c.args.cell.now.ty) (c.keeps-keeps.ensures.says reading v first)
