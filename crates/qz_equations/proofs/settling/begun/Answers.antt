use Rattle.std.proofs.Common.{◌∙◌, ap, sym, subst, if◌then◌else◌}
use Rattle.qz_system.specs.Valuations.{store_of}
use Rattle.qz_system.specs.Rounds.{stored}
use Rattle.qz_meaning.specs.Scenes.{default_store}
use Rattle.qz_equations.specs.Tallies.{ShowsStore}
use Rattle.qz_system.proofs.FitLemmas.{cell_typed}
use Rattle.qz_equations.proofs.BegunLemmas.{begins_is, kept_store, kept_typed}
use Rattle.qz_equations.proofs.settling.begun.Goals as goal

pub new_store-requires : goal.new_store-requires
new_store-requires c = cell_typed c.args.parts.now c.requires.parts c.args.one.now.cell c.args.cell.now c.requires.cell

pub returns-then-is_kept-clause-store : goal.returns-then-is_kept-clause-store
returns-then-is_kept-clause-store c =
    rw (c.len.ensures, c.len-then-is_kept.ensures)
    (kept_typed c.args.parts.now c.args.wires.now c.requires.over c.args.one.now.cell c.args.cell.now
    (cell_typed c.args.parts.now c.requires.parts c.args.one.now.cell c.args.cell.now c.requires.cell) c.requires.cell)

pub returns-then-is_kept-clause-means : goal.returns-then-is_kept-clause-means
returns-then-is_kept-clause-means c = λ nets reads v holds.
    let kept = sym c.is_kept.ensures ∙ c.if-is_kept.true in
    let is = ap (λ b. if b then stored c.args.cell.now.ty (store_of v c.args.one.now.cell) else default_store c.args.cell.now.ty) kept in
    rw (c.len.ensures, c.len-then-is_kept.ensures, begins_is c.args.parts.now v holds.permitted c.args.one.now c.args.cell.now c.requires.cell, is)
    (kept_store c.args.parts.now v nets holds c.args.one.now.cell c.args.cell.now c.requires.cell)

pub returns-in_ok-r-clause-means : goal.returns-in_ok-r-clause-means
returns-in_ok-r-clause-means c = λ nets reads v holds.
    let kept = sym c.is_kept.ensures ∙ c.if-is_kept.false in
    let is = ap (λ b. if b then stored c.args.cell.now.ty (store_of v c.args.one.now.cell) else default_store c.args.cell.now.ty) kept in
    subst (ShowsStore nets c.in_ok-r.r) (sym (begins_is c.args.parts.now v holds.permitted c.args.one.now c.args.cell.now c.requires.cell ∙ is))
    (c.in_ok-r.ensures.means nets reads)
